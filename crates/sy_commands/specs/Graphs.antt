-- What a drawing of a site answers (this profile's own).
use Rattle.std.specs.Prelude.{◌≡◌, ℕ, Bool, true, ◌⊎◌, List, [], ◌∷◌, Option, Some, IfSome, codes}
use Rattle.sy_wire.specs.declared.class.Class.{Class}
use Rattle.sy_site.specs.Sites.{Site}
use Rattle.sy_report.specs.Reports.{Streams, HasReported, joined}
use Rattle.sy_report.specs.Texts.{class_text}
use Rattle.sy_drawing.specs.Graphs.{IsNoClass}
use Rattle.sy_commands.specs.Outcomes.{AnswersOf}

-- a class is printed so
abbrev pub IsClass : List ℕ → Type 0
IsClass word = (class : Class) × (class_text class ≡ word)

-- A text for Graphviz is printed of a site, accepted or refused; where one class is asked for, it is one. Of the text nothing is said here.
abbrev pub SaysDrawn : Option (List ℕ) → Site → List ℕ → Bool → Type 0
SaysDrawn class site text is_accepted = (is_accepted ≡ true) × IfSome class IsClass

-- the line that says that a word is no class, however the word is shown
abbrev pub no_class_report : List ℕ → List ℕ
no_class_report shown = joined (codes "syc: no class " ∷ shown ∷ codes ": a class is FACILITY.SEVERITY, as auth.crit\n" ∷ [])

-- A word is no class, which is told.
abbrev pub ReportsNoClass : Option (List ℕ) → ℕ → Streams → Streams → Type 0
ReportsNoClass class status old new =
    (word : List ℕ) × (class ≡ Some word) × IsNoClass word × (status ≡ 2) × (new.output ≡ old.output)
    × (shown : List ℕ) × HasReported old new (no_class_report shown)

-- Such a text is printed; or there is no site, which is told; or what is asked for is no class.
abbrev pub GraphIs : Option (List ℕ) → (List ℕ → Option (List ℕ)) → List ℕ → ℕ → Streams → Streams → Type 0
GraphIs class bytes_of site_text status old new =
    AnswersOf (SaysDrawn class) bytes_of site_text status old new ⊎ ReportsNoClass class status old new
