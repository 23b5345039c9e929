-- Properties, their operators, and what a test says of a message (rsyslog manual, "rsyslog Properties" and "Filter Conditions").
--   $msg $rawmsg $hostname $app-name $procid $msgid    == != contains startswith   a string                      free
--   $syslogfacility-text $syslogseverity-text          == != contains startswith   a string                      decided by the class
--   $syslogfacility $syslogseverity                    == != < <= > >=             a number, or a string of      decided by the class
--                                                                                  1 to 3 digits
--   prifilt(..)                                                                                                   decided by the class
use Rattle.std.specs.Prelude.{ℕ, Bool, not, ◌||◌, ◌&&◌, ◌==◌, nat_eq, nat_lt, nat_le, min, if◌then◌else◌, List, [], ◌∷◌, length, Option, Some, None, codes}
use Rattle.std.specs.Char.{is_ascii_digit}
use Rattle.std.specs.List.{list_all, starts_with}
use Rattle.std.specs.Str.{bytes_eq, str_eq_ignore_ascii_case}
use Rattle.std.specs.Str.Parse.{digits_value}
use Rattle.sy_wire.specs.declared.class.Class.{Class}
use Rattle.sy_wire.specs.Messages.{Said}
use Rattle.sy_wire.specs.Numbers.{is_numeral}
use Rattle.sy_script.specs.declared.tree.Comparison.{Comparison}
use Rattle.sy_script.specs.declared.tree.Operand.{Operand}
use Rattle.sy_script.specs.declared.tree.Operand.TheVariants as operand
use Rattle.sy_script.specs.declared.tree.Operator.{Operator}
use Rattle.sy_script.specs.declared.tree.Operator.TheVariants as operator
use Rattle.sy_select.specs.Names.{facility_text, severity_text}
use Rattle.sy_select.specs.Selectors.{holds}
use Rattle.sy_select.specs.declared.property.Field.{Field}
use Rattle.sy_select.specs.declared.property.Field.TheVariants as field
use Rattle.sy_select.specs.declared.property.Part.{Part}
use Rattle.sy_select.specs.declared.property.Part.TheVariants as part
use Rattle.sy_select.specs.declared.property.Property.{Property}
use Rattle.sy_select.specs.declared.property.Property.TheVariants as property
use Rattle.sy_select.specs.declared.condition.Match.{Match}
use Rattle.sy_select.specs.declared.condition.Match.TheVariants as how
use Rattle.sy_select.specs.declared.condition.Relation.{Relation}
use Rattle.sy_select.specs.declared.condition.Relation.TheVariants as relation
use Rattle.sy_select.specs.declared.condition.ClassTest.{ClassTest}
use Rattle.sy_select.specs.declared.condition.ClassTest.TheVariants as decided
use Rattle.sy_select.specs.declared.condition.Test.{Test}
use Rattle.sy_select.specs.declared.condition.Test.TheVariants as test

-- ---- the table

-- names, each with its property
abbrev pub Table : Type 0
Table = List (List ℕ × Property)

-- names are exact
abbrev pub properties : Table
properties =
    (codes "$msg", property.Field field.Msg) ∷ (codes "$rawmsg", property.Field field.RawMsg) ∷ (codes "$hostname", property.Field field.Hostname)
    ∷ (codes "$app-name", property.Field field.AppName) ∷ (codes "$procid", property.Field field.ProcId) ∷ (codes "$msgid", property.Field field.MsgId)
    ∷ (codes "$syslogfacility", property.Number part.Facility) ∷ (codes "$syslogseverity", property.Number part.Severity)
    ∷ (codes "$syslogfacility-text", property.Text part.Facility) ∷ (codes "$syslogseverity-text", property.Text part.Severity) ∷ []

abbrev pub lookup : Table → List ℕ → Option Property
lookup [] name = None
lookup (row ∷ rows) name = if bytes_eq row.0 name then Some row.1 else lookup rows name

unfoldable pub property_of : List ℕ → Option Property
property_of = lookup properties

-- the operators of texts; words without regard to the case of their ASCII letters
abbrev pub match_word : List ℕ → Option Match
match_word word =
    if str_eq_ignore_ascii_case word (codes "contains") then Some how.Contains
    else if str_eq_ignore_ascii_case word (codes "startswith") then Some how.StartsWith
    else None

abbrev pub match_by : Operator → List ℕ → Option Match
match_by operator.Equal word = Some how.Equal
match_by operator.NotEqual word = Some how.NotEqual
match_by operator.Named word = match_word word
match_by _ word = None

-- the operators of numbers
abbrev pub relation_by : Operator → Option Relation
relation_by operator.Equal = Some relation.Equal
relation_by operator.NotEqual = Some relation.NotEqual
relation_by operator.Less = Some relation.Less
relation_by operator.AtMost = Some relation.AtMost
relation_by operator.Greater = Some relation.Greater
relation_by operator.AtLeast = Some relation.AtLeast
relation_by operator.Named = None

-- A number as a test keeps it: 255 stands for all larger ones, which compare like it with every facility and severity.
abbrev pub kept : ℕ → ℕ
kept n = min n 255

abbrev pub number : List ℕ → Option ℕ
number digits = if is_numeral digits then Some (kept (digits_value 10 digits)) else None

-- a number of any length, or a string of 1 to 3 digits
abbrev pub number_in : Operand → Option ℕ
number_in (operand.Number word) = number word.text
number_in (operand.Text text) = if nat_le (length text.bytes) 3 then number text.bytes else None

abbrev pub text_test : (Match → List ℕ → Test) → Option Match → Operand → Option Test
text_test make (Some how) (operand.Text text) = Some (make how text.bytes)
text_test make _ _ = None

abbrev pub number_test : (Relation → ℕ → Test) → Option Relation → Option ℕ → Option Test
number_test make (Some relation) (Some n) = Some (make relation n)
number_test make _ _ = None

-- the test of a property, where its operator and its operand go with it
abbrev pub test_of : Property → Comparison → Option Test
test_of (property.Field f) c = text_test (λ how text. test.Field f how text) (match_by c.operator c.spelling.text) c.operand
test_of (property.Text p) c = text_test (λ how text. test.Class (decided.Text p how text)) (match_by c.operator c.spelling.text) c.operand
test_of (property.Number p) c = number_test (λ relation n. test.Class (decided.Number p relation n)) (relation_by c.operator) (number_in c.operand)

abbrev pub test_by : Option Property → Comparison → Option Test
test_by None c = None
test_by (Some p) c = test_of p c

-- the test that a comparison is, where it is one
abbrev pub comparison_test : Comparison → Option Test
comparison_test c = test_by (property_of c.property.text) c

-- ---- what a test says

-- a field that isn't given has the text `-` (RFC 5424, section 6.2)
abbrev pub field_text : Field → Said → List ℕ
field_text field.Msg m = m.msg
field_text field.RawMsg m = m.raw
field_text field.Hostname m = m.hostname
field_text field.AppName m = m.app_name
field_text field.ProcId m = m.procid
field_text field.MsgId m = m.msgid

abbrev pub part_text : Part → Class → List ℕ
part_text part.Facility class = facility_text class.facility
part_text part.Severity class = severity_text class.severity

abbrev pub part_number : Part → Class → ℕ
part_number part.Facility class = class.facility
part_number part.Severity class = class.severity

-- the other text stands somewhere in the text
abbrev pub contains : List ℕ → List ℕ → Bool
contains [] other = starts_with nat_eq [] other
contains (b ∷ text) other = starts_with nat_eq (b ∷ text) other || contains text other

-- texts, byte by byte
abbrev pub matches : Match → List ℕ → List ℕ → Bool
matches how.Equal text other = bytes_eq text other
matches how.NotEqual text other = not (bytes_eq text other)
matches how.Contains text other = contains text other
matches how.StartsWith text other = starts_with nat_eq text other

abbrev pub relates : Relation → ℕ → ℕ → Bool
relates relation.Equal n other = n == other
relates relation.NotEqual n other = not (n == other)
relates relation.Less n other = nat_lt n other
relates relation.AtMost n other = nat_le n other
relates relation.Greater n other = nat_lt other n
relates relation.AtLeast n other = nat_le other n

-- a test that the class decides
abbrev pub of_class : ClassTest → Class → Bool
of_class (decided.Text p how other) class = matches how (part_text p class) other
of_class (decided.Number p relation n) class = relates relation (part_number p class) n
of_class (decided.Selected set) class = holds set class.facility class.severity

abbrev pub says : Said → Test → Bool
says m (test.Field f how other) = matches how (field_text f m) other
says m (test.Class t) = of_class t m.class

-- what a class alone says
abbrev pub known : Class → Test → Option Bool
known class (test.Field f how other) = None
known class (test.Class t) = Some (of_class t class)
