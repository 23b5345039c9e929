-- What the parameters of an object say, and what is wrong with them.
use Rattle.std.specs.Prelude.{ℕ, Bool, true, false, not, ◌||◌, ◌&&◌, if◌then◌else◌, nat_le, List, [], ◌∷◌, ◌++◌, length, Option, Some, None, is_some, codes}
use Rattle.std.specs.List.{list_any}
use Rattle.std.specs.Str.{str_eq_ignore_ascii_case, bytes_eq}
use Rattle.std.specs.Str.Parse.{digits_value}
use Rattle.sy_script.specs.declared.tree.Param.{Param}
use Rattle.sy_wire.specs.Numbers.{is_numeral}
use Rattle.sy_rules.specs.declared.parameters.kind.Kind.{Kind}
use Rattle.sy_rules.specs.declared.fault.FaultCode.TheVariants as code
use Rattle.sy_rules.specs.declared.items.fault.ItemFault.{ItemFault}
use Rattle.sy_rules.specs.Faults.{fault, fault_of_part, when}
use Rattle.sy_rules.specs.parameters.Rows.{Shape, Absent, Row, rows, lookup}

-- ---- values

-- the number that 1 to 10 decimal digits write, where a value is that
unfoldable pub decimal_value : List ℕ → Option ℕ
decimal_value value = if is_numeral value && nat_le (length value) 10 then Some (digits_value 10 value) else None

abbrev pub is_minus_one : List ℕ → Bool
is_minus_one value = bytes_eq value (codes "-1")

unfoldable pub has_shape : Shape → List ℕ → Bool
has_shape (Shape.Number lowest highest) value = is_some (decimal_value value)
has_shape (Shape.NumberOrMinusOne lowest highest) value = is_minus_one value || is_some (decimal_value value)
has_shape (Shape.OneOf words) value = list_any (bytes_eq value) words
has_shape Shape.AnyText value = true

abbrev pub is_within : ℕ → ℕ → Option ℕ → Bool
is_within lowest highest None = false
is_within lowest highest (Some n) = nat_le lowest n && nat_le n highest

-- of a value that has the shape
unfoldable pub is_in_range : Shape → List ℕ → Bool
is_in_range (Shape.Number lowest highest) value = is_within lowest highest (decimal_value value)
is_in_range (Shape.NumberOrMinusOne lowest highest) value = is_minus_one value || is_within lowest highest (decimal_value value)
is_in_range (Shape.OneOf words) value = true
is_in_range Shape.AnyText value = true

-- The value that these parameters give a name, where they do. (Where a name is given twice, which is a fault: the first.)
abbrev pub given : List ℕ → List Param → Option (List ℕ)
given name [] = None
given name (p ∷ ps) = if str_eq_ignore_ascii_case name p.name.text then Some p.value.bytes else given name ps

abbrev pub is_given : List ℕ → List Param → Bool
is_given name ps = is_some (given name ps)

-- ---- what is wrong with a parameter: each fault by itself, with the name as the script spells it, and the place of that name

-- no such parameter
abbrev pub unknown : Param → ItemFault
unknown p = fault_of_part p.name.span code.Unknown p.name.text

-- one of this name stands before it
abbrev pub doubled : List Param → Param → List ItemFault
doubled before p = when (is_given p.name.text before) (fault_of_part p.name.span code.Duplicate p.name.text)

abbrev pub bad_value : Shape → Param → List ItemFault
bad_value shape p = when (not (has_shape shape p.value.bytes)) (fault_of_part p.name.span code.BadValue p.name.text)

abbrev pub out_of_range : Shape → Param → List ItemFault
out_of_range shape p = when (has_shape shape p.value.bytes && not (is_in_range shape p.value.bytes)) (fault_of_part p.name.span code.Range p.name.text)

-- ---- what is wrong with an object

-- a parameter after others
abbrev pub faults_at : Option Row → List Param → Param → List ItemFault
faults_at None before p = unknown p ∷ []
faults_at (Some r) before p = doubled before p ++ (bad_value r.shape p ++ out_of_range r.shape p)

-- parameters after others
abbrev pub faults_of_given : List Row → List Param → List Param → List ItemFault
faults_of_given rs before [] = []
faults_of_given rs before (p ∷ ps) = faults_at (lookup rs p.name.text) before p ++ faults_of_given rs (before ++ p ∷ []) ps

abbrev pub is_required : Absent → Bool
is_required Absent.Required = true
is_required _ = false

-- a parameter that must be given and is not, with its name as the manual spells it; the place is the object's
abbrev pub missing : List Row → List Param → List ItemFault
missing [] ps = []
missing (r ∷ rs) ps = when (is_required r.absent && not (is_given r.name ps)) (fault code.Missing r.name) ++ missing rs ps

-- All faults of an object's parameters in the order of the text: from left to right, and what is missing after the last.
unfoldable pub faults : Kind → List Param → List ItemFault
faults k ps = faults_of_given (rows k) [] ps ++ missing (rows k) ps
