-- Whether a file keeps the frames without a message of each input of a relay that is a whole entry (this profile's own).
use Rattle.std.specs.Prelude.{◌≡◌, ◌<◌, ℕ, true, List, [], ◌∷◌, Option, Some, None, codes, slice_get}
use Rattle.std.specs.Fmt.{decimal}
use Rattle.sy_rules.specs.declared.parts.Input.{Input}
use Rattle.sy_report.specs.Reports.{joined, line_feed}
use Rattle.sy_site.specs.Sites.{Site, is_whole, plan_at}
use Rattle.sy_log.specs.UnreadFiles.{unread_file}

-- An input of the relay, by its number, is a whole entry, and no file keeps its frames without a message: it names none, and none is given for all.
pub record IsUnkept (site : Site) (relay : ℕ) (given : Option (List ℕ)) (number : ℕ) : Type 0 where
  pub input : Input
  pub there : slice_get (plan_at site relay).inputs number ≡ Some input
  pub whole : is_whole site (record { relay = relay; input = number }) ≡ true
  pub no_file : unread_file given input ≡ None

-- of each input of the relay that is a whole entry, a file keeps the frames without a message
abbrev pub KeepsWhole : Site → ℕ → Option (List ℕ) → Type 0
KeepsWhole site relay given = (number : ℕ) → IsUnkept site relay given number → ⊥

-- the first input of which that isn't so, where there is one, by its number and its port
abbrev pub IsFirstUnkept : Site → ℕ → Option (List ℕ) → Option (ℕ × ℕ) → Type 0
IsFirstUnkept site relay given None = KeepsWhole site relay given
IsFirstUnkept site relay given (Some found) =
    ((is : IsUnkept site relay given found.0) × (found.1 ≡ is.input.port)) × ((before : ℕ) → before < found.0 → IsUnkept site relay given before → ⊥)

-- syc: input PORT WORDS
abbrev pub input_line : ℕ → List ℕ → List ℕ
input_line port words = joined (codes "syc: input " ∷ decimal port ∷ words ∷ (line_feed ∷ []) ∷ [])

-- syc: input PORT is a whole entry of the site, ..
abbrev pub unkept_line : ℕ → List ℕ
unkept_line port =
    input_line port
    (codes " is a whole entry of the site, and nothing keeps its frames without a message: give --unread FILE, or unreadFile= on the input")
