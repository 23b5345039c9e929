-- The words of the command line: those of each command, and options.
use Rattle.std.specs.Prelude.{◌≡◌, ℕ, Bool, true, false, not, ◌==◌, ◌+◌, ◌||◌, List, [], ◌∷◌, ◌++◌, codes, if◌then◌else◌}
use Rattle.std.specs.Str.{bytes_eq}
use Rattle.sy_report.specs.declared.command_line.command.SiteCommand.{SiteCommand}
use Rattle.sy_report.specs.declared.command_line.command.SiteCommand.TheVariants as of_site
use Rattle.sy_report.specs.declared.command_line.command.Asked.{Asked}
use Rattle.sy_report.specs.declared.command_line.command.Asked.TheVariants as asked
use Rattle.sy_report.specs.declared.command_line.options.Options.{Options}

-- the program's name, and `pass` alone
abbrev pub ArePass : List (List ℕ) → Type 0
ArePass words = words ≡ codes "syc" ∷ codes "pass" ∷ []

-- A word that is no option: its first byte is no minus sign, or it is that byte alone. (The empty word is the name of no file, but no option.)
abbrev pub is_plain : List ℕ → Bool
is_plain [] = true
is_plain (b ∷ []) = true
is_plain (b ∷ c ∷ word) = not (b == 45)

-- the same after the program's name
pub record AreReplay (words : List (List ℕ)) (site events : List ℕ) : Type 0 where
  pub words_are : words ≡ codes "syc" ∷ codes "replay" ∷ site ∷ events ∷ []
  pub site_plain : is_plain site ≡ true
  pub events_plain : is_plain events ≡ true

-- the same after the program's name
pub record AreVerify (words : List (List ℕ)) (site certificate : List ℕ) : Type 0 where
  pub words_are : words ≡ codes "syc" ∷ codes "verify" ∷ site ∷ certificate ∷ []
  pub site_plain : is_plain site ≡ true
  pub certificate_plain : is_plain certificate ≡ true

-- these words, and the name of a site file
pub record AreWithName (head words : List (List ℕ)) (site : List ℕ) : Type 0 where
  pub words_are : words ≡ head ++ site ∷ []
  pub site_plain : is_plain site ≡ true

-- what is asked of a site, in words
abbrev pub asking : Asked → List (List ℕ)
asking asked.Check = codes "check" ∷ []
asking asked.Certify = codes "certify" ∷ []

-- the same after the program's name
abbrev pub AreAsking : Asked → List (List ℕ) → List ℕ → Type 0
AreAsking question = AreWithName (codes "syc" ∷ asking question)

-- ---- options

-- an option of a command over a site
abbrev pub is_option : List ℕ → Bool
is_option word = bytes_eq word (codes "--explain") || bytes_eq word (codes "--all") || bytes_eq word (codes "--json")

-- the words without the options among them
abbrev pub bare_of : List (List ℕ) → List (List ℕ)
bare_of [] = []
bare_of (word ∷ words) = if is_option word then bare_of words else (word ∷ bare_of words)

abbrev pub once_if : Bool → ℕ
once_if true = 1
once_if false = 0

-- how often a word stands among words
abbrev pub times : List ℕ → List (List ℕ) → ℕ
times word [] = 0
times word (other ∷ words) = once_if (bytes_eq other word) + times word words

-- These options stand among the words, each once at most, and these words are left without them.
pub record HaveOptions (words : List (List ℕ)) (options : Options) (bare : List (List ℕ)) : Type 0 where
  pub bare_are : bare ≡ bare_of words
  pub explain : times (codes "--explain") words ≡ once_if options.explain
  pub all : times (codes "--all") words ≡ once_if options.all
  pub json : times (codes "--json") words ≡ once_if options.json

-- what the words want of a site
abbrev pub IsSiteCommand : List (List ℕ) → SiteCommand → Type 0
IsSiteCommand words (of_site.Ask question site) = AreAsking question words site.now
IsSiteCommand words (of_site.Replay site events) = AreReplay words site.now events.now
IsSiteCommand words (of_site.Verify site certificate) = AreVerify words site.now certificate.now
