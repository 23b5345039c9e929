-- The words of the commands over a site.
use Rattle.std.specs.Prelude.{◌≡◌, ℕ, Bool, true, false, not, ◌⊎◌, ◌||◌, List, [], ◌∷◌, Option, None, Some, codes}
use Rattle.sy_report.specs.declared.command_line.command.Asked.{Asked}
use Rattle.sy_report.specs.declared.command_line.options.Options.{Options}
use Rattle.sy_report.specs.Words.{is_plain, AreWithName, asking, HaveOptions}
use Rattle.sy_report.specs.declared.command_line.command.Asked.TheVariants as asked

-- `replay`, the name of a site file, and that of an events file
pub record AreReplayOf (words : List (List ℕ)) (site events : List ℕ) : Type 0 where
  pub words_are : words ≡ codes "replay" ∷ site ∷ events ∷ []
  pub site_plain : is_plain site ≡ true
  pub events_plain : is_plain events ≡ true

-- `verify`, the name of a site file, and that of a certificate
pub record AreVerifyOf (words : List (List ℕ)) (site certificate : List ℕ) : Type 0 where
  pub words_are : words ≡ codes "verify" ∷ site ∷ certificate ∷ []
  pub site_plain : is_plain site ≡ true
  pub certificate_plain : is_plain certificate ≡ true

-- these words, and the name of a site file
abbrev pub AreAskingOf : Asked → List (List ℕ) → List ℕ → Type 0
AreAskingOf question = AreWithName (asking question)

-- `graph`, the name of a site file, and where one class is drawn `--class` with that class, before or behind it
abbrev pub AreGraphWords : Option (List ℕ) → List (List ℕ) → (site : List ℕ) → Type 0
AreGraphWords None words site = (words ≡ codes "graph" ∷ site ∷ []) × (is_plain site ≡ true)
AreGraphWords (Some class) words site =
    ((words ≡ codes "graph" ∷ codes "--class" ∷ class ∷ site ∷ []) ⊎ (words ≡ codes "graph" ∷ site ∷ codes "--class" ∷ class ∷ []))
    × (is_plain site ≡ true) × (is_plain class ≡ true)

-- one of them is given
abbrev pub is_any : Options → Bool
is_any options = options.explain || options.all || options.json

-- A command over a site: what is asked of a site, and its name; or the names of a site and of an events file, or of a certificate; or the class
-- that is drawn, where one is, and the name of the site.
pub data OverSite : Type 0 where
  Ask : Asked → List ℕ → OverSite
  Replay Verify : List ℕ → List ℕ → OverSite
  Draw : Option (List ℕ) → List ℕ → OverSite

-- the words that call for it, without options, where it may have some; a drawing has none
abbrev pub CallFor : OverSite → List (List ℕ) → Type 0
CallFor (OverSite.Ask question site) words = AreAskingOf question words site
CallFor (OverSite.Replay site events) words = AreReplayOf words site events
CallFor (OverSite.Verify site certificate) words = AreVerifyOf words site certificate
CallFor (OverSite.Draw class site) words = ⊥

-- `--all` is an option of a check; the others are options of each command.
abbrev pub allows : Options → OverSite → Bool
allows options (OverSite.Ask asked.Check site) = true
allows options _ = not options.all

-- The words call for this command with these options, wherever they stand among them: none, where none is there.
pub record AreWithOptions (words : List (List ℕ)) (options : Options) (command : OverSite) : Type 0 where
  pub bare : List (List ℕ)
  pub have : HaveOptions words options bare
  pub allowed : allows options command ≡ true
  pub call : CallFor command bare

-- The same of a drawing, whose words are as they are written.
abbrev pub AreOver : List (List ℕ) → Options → OverSite → Type 0
AreOver words options (OverSite.Draw class site) = (is_any options ≡ false) × AreGraphWords class words site
AreOver words options command = AreWithOptions words options command
