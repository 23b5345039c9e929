-- Parameters of a relay's file that say how its host does its part. The names and meanings of `sync`, `fileCreateMode`, `fileOwner`,
-- `fileGroup`, `fileOwnerNum`, `fileGroupNum`, `createDirs`, `maxSessions` and `keepAlive` are those of the rsyslog manual (its pages on omfile and imtcp); values, and all else, are this profile's own. The machine doesn't know
-- them: a relay's plan is read from the text without them.
use Rattle.std.specs.Prelude.{◌≡◌, ◌⊎◌, ℕ, ◌+◌, ◌-◌, ◌*◌, ◌==◌, Bool, true, false, ◌&&◌, ◌||◌, not, nat_le, if◌then◌else◌, List, [], ◌∷◌, ◌++◌, flat_map, length, map, slice_index, slice_range, Option, Some, None, Vec, codes}
use Rattle.std.specs.List.{list_any}
use Rattle.std.specs.Str.{bytes_eq, str_eq_ignore_ascii_case}
use Rattle.sy_wire.specs.Numbers.{number_up_to}
use Rattle.sy_script.specs.Bytes.{line_feed}
use Rattle.sy_script.specs.Grammar.{IsScript}
use Rattle.sy_script.specs.declared.tree.ObjectKind.{ObjectKind}
use Rattle.sy_script.specs.declared.tree.ObjectKind.TheVariants as object
use Rattle.sy_script.specs.declared.tree.Param.{Param}
use Rattle.sy_script.specs.declared.tree.Script.{Script}
use Rattle.sy_rules.specs.items.Outline.{Item, items}
use Rattle.sy_rules.specs.parameters.Values.{given}
use Rattle.sy_host_parameters.specs.declared.rows.HostParameter.{HostParameter}
use Rattle.sy_host_parameters.specs.declared.rows.HostParameter.TheVariants as parameter
use Rattle.sy_host_parameters.specs.declared.rows.Holder.{Holder}
use Rattle.sy_host_parameters.specs.declared.rows.Holder.TheVariants as holder
use Rattle.sy_host_parameters.specs.declared.given.Given.{Given}
use Rattle.std.specs.declared.alloc.Global.{Global}

-- ---- values

-- which values a parameter takes
pub data Values : Type 0 where
  -- `on` or `off`
  Switch : Values
  -- a decimal number from the first to the second
  Number : ℕ → ℕ → Values
  -- four octal digits, of which the first is 0
  Mode : Values
  -- `any` or `regular`
  Kind : Values
  -- the name of an account
  Name : Values

-- 1 of the first word, 0 of the second
abbrev pub either : (first second value : List ℕ) → Option ℕ
either first second value = if bytes_eq value first then Some 1 else if bytes_eq value second then Some 0 else None

abbrev pub at_least : ℕ → Option ℕ → Option ℕ
at_least lowest None = None
at_least lowest (Some n) = if nat_le lowest n then Some n else None

abbrev pub number_within : (lowest highest : ℕ) → List ℕ → Option ℕ
number_within lowest highest value = at_least lowest (number_up_to highest value)

abbrev pub zero_digit : ℕ
zero_digit = 48

abbrev pub is_octal : ℕ → Bool
is_octal digit = nat_le zero_digit digit && nat_le digit 55

-- for the owner, the group and others
abbrev pub mode_of : List ℕ → Option ℕ
mode_of (z ∷ a ∷ b ∷ c ∷ []) =
    if (z == zero_digit) && (is_octal a && (is_octal b && is_octal c))
    then Some ((a - zero_digit) * 64 + (b - zero_digit) * 8 + (c - zero_digit)) else None
mode_of _ = None

-- a blank, a control character, or a colon, which ends a field of the tables of accounts (passwd(5), group(5))
abbrev pub ends_name : ℕ → Bool
ends_name b = nat_le b 32 || (b == 58)

-- a value can be the name of an account
abbrev pub is_name : List ℕ → Bool
is_name value = nat_le 1 (length value) && not (list_any ends_name value)

-- nothing but that it can be a name
abbrev pub name_of : List ℕ → Option ℕ
name_of value = if is_name value then Some 0 else None

-- the number that a value says, where a parameter takes it
abbrev pub value_of : Values → List ℕ → Option ℕ
value_of Values.Switch value = either (codes "on") (codes "off") value
value_of (Values.Number lowest highest) value = number_within lowest highest value
value_of Values.Mode value = mode_of value
value_of Values.Kind value = either (codes "any") (codes "regular") value
value_of Values.Name value = name_of value

-- ---- the table

pub record Row : Type 0 where
  pub name : List ℕ
  pub parameter : HostParameter
  pub values : Values

abbrev pub row : List ℕ → HostParameter → Values → Row
row name parameter values = record { name = name; parameter = parameter; values = values }

-- The parameters that an action of type `omfile` takes, that an input and the module `imtcp` take, and that all else takes.
unfoldable pub rows : Holder → List Row
rows holder.Archive =
    row (codes "sync") parameter.Sync Values.Switch
    ∷ row (codes "fileCreateMode") parameter.FileCreateMode Values.Mode
    ∷ row (codes "fileOwner") parameter.FileOwner Values.Name
    ∷ row (codes "fileGroup") parameter.FileGroup Values.Name
    ∷ row (codes "fileOwnerNum") parameter.FileOwnerNum (Values.Number 0 4294967294)
    ∷ row (codes "fileGroupNum") parameter.FileGroupNum (Values.Number 0 4294967294)
    ∷ row (codes "createDirs") parameter.CreateDirs Values.Switch
    ∷ row (codes "fileType") parameter.FileType Values.Kind
    ∷ row (codes "escapeControlCharacters") parameter.EscapeControlCharacters Values.Switch
    ∷ []
rows holder.Receiver =
    row (codes "maxSessions") parameter.MaxSessions (Values.Number 1 1000000)
    ∷ row (codes "keepAlive") parameter.KeepAlive Values.Switch
    ∷ row (codes "keepAlive.time") parameter.KeepAliveTime (Values.Number 1 32767)
    ∷ row (codes "keepAlive.interval") parameter.KeepAliveInterval (Values.Number 1 32767)
    ∷ row (codes "keepAlive.probes") parameter.KeepAliveProbes (Values.Number 1 127)
    ∷ []
rows holder.Other = []

-- a row has this name, without regard to the case of ASCII letters
abbrev pub is_named : List ℕ → Row → Bool
is_named name r = str_eq_ignore_ascii_case r.name name

abbrev pub lookup : List ℕ → List Row → Option Row
lookup name [] = None
lookup name (r ∷ rs) = if is_named name r then Some r else lookup name rs

-- ---- what a relay's file gives

abbrev pub is_value : List ℕ → Option (List ℕ) → Bool
is_value value None = false
is_value value (Some it) = bytes_eq it value

-- these parameters give a name this value
abbrev pub gives : (name value : List ℕ) → List Param → Bool
gives name value params = is_value value (given name params)

abbrev pub holder_of_object : ObjectKind → List Param → Holder
holder_of_object object.Input params = holder.Receiver
holder_of_object object.Module params = if gives (codes "load") (codes "imtcp") params then holder.Receiver else holder.Other
holder_of_object _ params = holder.Other

abbrev pub holder_of_action : List Param → Holder
holder_of_action params = if gives (codes "type") (codes "omfile") params then holder.Archive else holder.Other

-- what an item takes of parameters for the host
abbrev pub holder_of : Item → Holder
holder_of (Item.Object kind params) = holder_of_object kind params
holder_of (Item.Action params) = holder_of_action params
holder_of _ = holder.Other

abbrev pub params_of : Item → List Param
params_of (Item.Object kind params) = params
params_of (Item.Ruleset params) = params
params_of (Item.Action params) = params
params_of _ = []

abbrev pub with_value : HostParameter → Param → Option ℕ → Option Given
with_value is p None = None
with_value is p (Some n) = Some (record { parameter = is; value = n; span = record { start = p.name.span.start; end = p.value.span.end } })

abbrev pub by_row : Param → Option Row → Option Given
by_row p None = None
by_row p (Some r) = with_value r.parameter p (value_of r.values p.value.bytes)

-- a parameter for the host, where such an object takes it, with that value
abbrev pub given_by : Holder → Param → Option Given
given_by of p = by_row p (lookup p.name.text (rows of))

-- each has a number of its own
abbrev pub number : HostParameter → ℕ
number parameter.Sync = 0
number parameter.FileCreateMode = 1
number parameter.CreateDirs = 2
number parameter.FileType = 3
number parameter.MaxSessions = 4
number parameter.KeepAlive = 5
number parameter.KeepAliveTime = 6
number parameter.KeepAliveInterval = 7
number parameter.KeepAliveProbes = 8
number parameter.FileOwnerNum = 9
number parameter.FileGroupNum = 10
number parameter.EscapeControlCharacters = 11
number parameter.FileOwner = 12
number parameter.FileGroup = 13

abbrev pub is_among : HostParameter → List Given → Bool
is_among is found = list_any (λ it. number it.parameter == number is) found

-- these, and the next one, unless it is given a second time
abbrev pub with_given : List Given → Option Given → List Given
with_given found None = found
with_given found (Some next) = if is_among next.parameter found then found else found ++ next ∷ []

abbrev pub given_after : Holder → List Given → List Param → List Given
given_after of found [] = found
given_after of found (p ∷ ps) = given_after of (with_given found (given_by of p)) ps

-- what an item gives, each parameter once
abbrev pub given_in : Item → List Given
given_in item = given_after (holder_of item) [] (params_of item)

-- ---- the text without them

-- a space, but a line feed stays
abbrev pub blank_of : ℕ → ℕ
blank_of b = if b == line_feed then line_feed else 32

-- from this place on, a text with blanks in the place of these
abbrev pub blanked : List ℕ → ℕ → List Given → List ℕ
blanked text at [] = slice_range text at (length text)
blanked text at (it ∷ later) =
    slice_range text at it.span.start ++ (map blank_of (slice_range text it.span.start it.span.end) ++ blanked text it.span.end later)

-- a text, which is that script, without what its items give
abbrev pub machine_of : List ℕ → Script → List ℕ
machine_of text script = blanked text 0 (flat_map given_in (items script))

-- the names of the table; those that begin with `keepAlive` are one, and so are those that begin with `fileOwner` and with `fileGroup`
abbrev pub names : List (List ℕ)
names =
    codes "sync" ∷ codes "fileCreateMode" ∷ codes "fileOwner" ∷ codes "fileGroup" ∷ codes "createDirs" ∷ codes "fileType"
    ∷ codes "escapeControlCharacters" ∷ codes "maxSessions" ∷ codes "keepAlive" ∷ []

abbrev pub begins_with : (text name : List ℕ) → Bool
begins_with text name = str_eq_ignore_ascii_case (slice_range text 0 (length name)) name

abbrev pub begins_with_one : List ℕ → List (List ℕ) → Bool
begins_with_one text names = list_any (begins_with text) names

-- a name begins with this letter
abbrev pub may_begin : ℕ → Bool
may_begin b = list_any (λ c. b == c) (codes "cCeEfFkKmMsS")

-- this is the second letter of a name
abbrev pub may_follow : ℕ → Bool
may_follow b = list_any (λ c. b == c) (codes "aAeEiIrRsSyY")

abbrev pub may_begin_so : ℕ → ℕ → Bool
may_begin_so a b = may_begin a && may_follow b

abbrev pub gives_here : List ℕ → Bool
gives_here text = nat_le 2 (length text) && (may_begin_so (slice_index text 0) (slice_index text 1) && begins_with_one text names)

-- one of the names stands in a text
abbrev pub may_give : List ℕ → Bool
may_give [] = false
may_give (b ∷ text) = if gives_here (b ∷ text) then true else may_give text

-- no tree is that of the text
abbrev pub IsNoScript : List ℕ → Type 0
IsNoScript text = (script : Script) → IsScript text script → ⊥

-- The text that a relay's plan is read from, by that of its file: the same where none of the names stands there, or where it is no script, and else the
-- one without what its items give.
abbrev pub IsMachineText : List ℕ → List ℕ → Type 0
IsMachineText text machine =
    ((may_give text ≡ false) × (machine ≡ text))
    ⊎ ((may_give text ≡ true) × IsNoScript text × (machine ≡ text))
    ⊎ ((may_give text ≡ true) × (script : Script) × IsScript text script × (machine ≡ machine_of text script))

-- this text where there is another one, else the same
abbrev pub machine_or : List ℕ → Option (Vec ℕ Global) → List ℕ
machine_or text None = text
machine_or text (Some machine) = machine.items
