-- The rows of a certificate and their text; this profile's own format.
use Rattle.std.specs.Prelude.{◌≡◌, ℕ, ◌≤◌, ◌<◌, ◌+◌, ◌*◌, ◌==◌, ◌||◌, ◌&&◌, ◌⊎◌, not, Bool, true, false, nat_le, List, [], ◌∷◌, ◌++◌, length, map, codes}
use Rattle.std.specs.Char.{is_ascii_alphanumeric}
use Rattle.std.specs.Fmt.{decimal}
use Rattle.std.specs.List.{list_all}
use Rattle.sy_cert.specs.declared.kinds.Kind.{Kind}
use Rattle.sy_cert.specs.declared.kinds.Kind.TheVariants as kinds
use Rattle.sy_cert.specs.declared.row.Row.{Row}
use Rattle.sy_cert.specs.declared.row.Row.TheVariants as row

-- ---- the text: one space between the words of a line, LF after each line, numbers without leading zeros

-- the words of a row's line
abbrev pub words : Row → List (List ℕ)
words (row.Class c) = codes "class" ∷ decimal (8 * c.facility + c.severity) ∷ []
words (row.Reach relay port) = codes "reach" ∷ relay ∷ decimal port ∷ []
words (row.Branch relay port) = codes "branch" ∷ relay ∷ decimal port ∷ []
words (row.Rank relay rank) = codes "rank" ∷ relay ∷ decimal rank ∷ []
words (row.Inner relay list number) = codes "inner" ∷ relay ∷ decimal list ∷ decimal number ∷ []
words (row.Path relay port archive_relay action occurrences) =
    codes "path" ∷ relay ∷ decimal port ∷ archive_relay ∷ action ∷ map decimal occurrences

-- further words of a line, each after a space
abbrev pub further : List (List ℕ) → List ℕ
further [] = []
further (w ∷ ws) = 32 ∷ w ++ further ws

-- words with a space between them
abbrev pub spaced : List (List ℕ) → List ℕ
spaced [] = []
spaced (w ∷ ws) = w ++ further ws

abbrev pub line : Row → List ℕ
line r = spaced (words r)

abbrev pub lines : List Row → List ℕ
lines [] = []
lines (r ∷ rows) = line r ++ 10 ∷ lines rows

-- the first line, with the version
abbrev pub head : ℕ → List ℕ
head version = codes "cert" ++ 32 ∷ decimal version

abbrev pub text : ℕ → List Row → List ℕ
text version rows = head version ++ 10 ∷ lines rows

-- ---- which rows there are

-- the versions of the format: branch rows are version 2's alone, all else is common to both
abbrev pub IsVersion : ℕ → Type 0
IsVersion version = (version ≡ 1) ⊎ (version ≡ 2)

abbrev pub has_bytes : List ℕ → Bool
has_bytes [] = false
has_bytes (b ∷ bs) = true

-- 1 to 64 letters, digits, '-', '_' and '.'
abbrev pub is_name_byte : ℕ → Bool
is_name_byte b = is_ascii_alphanumeric b || (b == 45 || (b == 95 || b == 46))

abbrev pub is_name : List ℕ → Bool
is_name w = has_bytes w && (nat_le (length w) 64 && list_all is_name_byte w)

-- no space, tab or LF
abbrev pub is_action_byte : ℕ → Bool
is_action_byte b = not (b == 32) && (not (b == 9) && not (b == 10))

-- an action's name in one word
abbrev pub is_action : List ℕ → Bool
is_action w = has_bytes w && list_all is_action_byte w

abbrev pub IsPort : ℕ → Type 0
IsPort n = (1 ≤ n) × (n ≤ 65535)

abbrev pub AreOccurrences : List ℕ → Type 0
AreOccurrences [] = Unit {0}
AreOccurrences (n ∷ ns) = (n < 64) × AreOccurrences ns

-- a row of a version: it has its shape, with its numbers in range
abbrev pub IsRow : (version : ℕ) → Row → Type 0
IsRow version (row.Class c) = (c.facility < 24) × (c.severity < 8)
IsRow version (row.Reach relay port) = (is_name relay ≡ true) × IsPort port
IsRow version (row.Branch relay port) = (version ≡ 2) × (is_name relay ≡ true) × IsPort port
IsRow version (row.Rank relay rank) = (is_name relay ≡ true) × (rank ≤ 4294967295)
IsRow version (row.Inner relay list number) = (is_name relay ≡ true) × (list ≤ 4294967295) × (number ≤ 4294967295)
IsRow version (row.Path relay port archive_relay action occurrences) =
    (is_name relay ≡ true) × IsPort port × (is_name archive_relay ≡ true) × (is_action action ≡ true)
    × AreOccurrences occurrences

-- ---- their order

abbrev pub kind : Row → Kind
kind (row.Class c) = kinds.Class
kind (row.Reach relay port) = kinds.Reach
kind (row.Branch relay port) = kinds.Branch
kind (row.Rank relay rank) = kinds.Rank
kind (row.Inner relay list number) = kinds.Inner
kind (row.Path relay port archive_relay action occurrences) = kinds.Path

-- the kind of the last row, or of the first line
abbrev pub last_from : Kind → List Row → Kind
last_from before [] = before
last_from before (r ∷ rows) = last_from (kind r) rows

abbrev pub last_kind : List Row → Kind
last_kind rows = last_from kinds.Cert rows

abbrev pub may_follow : Kind → Kind → Bool
may_follow kinds.Cert kinds.Class = true
may_follow kinds.Path kinds.Class = true
may_follow kinds.Class kinds.Reach = true
may_follow kinds.Reach kinds.Reach = true
may_follow kinds.Reach kinds.Branch = true
may_follow kinds.Reach kinds.Rank = true
may_follow kinds.Branch kinds.Branch = true
may_follow kinds.Branch kinds.Rank = true
may_follow kinds.Rank kinds.Rank = true
may_follow kinds.Rank kinds.Inner = true
may_follow kinds.Rank kinds.Path = true
may_follow kinds.Inner kinds.Inner = true
may_follow kinds.Inner kinds.Path = true
may_follow kinds.Path kinds.Path = true
may_follow _ _ = false

-- behind a line of this kind each is a row of the version, and may follow the line before
abbrev pub AreRows : (version : ℕ) → Kind → List Row → Type 0
AreRows version before [] = Unit {0}
AreRows version before (r ∷ rows) = IsRow version r × (may_follow before (kind r) ≡ true) × AreRows version (kind r) rows

-- a certificate: its version is one that there is, and its rows are rows of it, each where it may stand
abbrev pub IsCertificate : (version : ℕ) → List Row → Type 0
IsCertificate version rows = IsVersion version × AreRows version kinds.Cert rows
