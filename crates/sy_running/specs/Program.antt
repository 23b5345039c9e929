-- By which program a relay runs (this profile's own).
use Rattle.std.specs.Prelude.{◌≡◌, ℕ, List, [], ◌∷◌, ◌⊎◌, codes}
use Rattle.sy_report.specs.Printed.{printed}
use Rattle.sy_report.specs.Reports.{joined, line_feed}

-- syc: relay NAME program: commit COMMIT, sources SOURCES, STATE
abbrev pub program_line : (name commit sources state : List ℕ) → List ℕ
program_line name commit sources state =
    joined (codes "syc: relay " ∷ printed name ∷ codes " program: commit " ∷ printed commit ∷ codes ", sources " ∷ printed sources ∷ codes ", " ∷ state
    ∷ (line_feed ∷ []) ∷ [])

-- syc: relay NAME program: not recorded
abbrev pub unknown_line : List ℕ → List ℕ
unknown_line name = joined (codes "syc: relay " ∷ printed name ∷ codes " program: not recorded" ∷ (line_feed ∷ []) ∷ [])

-- One of both is told of a relay of this name.
abbrev pub TellsProgram : (name text : List ℕ) → Type 0
TellsProgram name text = ((commit sources state : List ℕ) × (text ≡ program_line name commit sources state)) ⊎ (text ≡ unknown_line name)
