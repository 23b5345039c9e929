-- What the words of a command line want of a site.
use Rattle.std.specs.Prelude.{◌≡◌, ℕ, true, List, ◌∷◌, Option, codes}
use Rattle.sy_report.specs.Words.{AreAsking, AreReplay, AreVerify}
use Rattle.sy_report.specs.declared.command_line.options.Options.{Options}
use Rattle.sy_commands.specs.Requests.{IsRequest, over}
use Rattle.sy_commands.specs.Words.{AreGraphWords, OverSite, allows}
use Rattle.sy_commands.specs.declared.commands.Request.{Request}
use Rattle.sy_commands.specs.declared.commands.Request.TheVariants as request

-- no words of a drawing
abbrev pub AreNoGraph : List (List ℕ) → Type 0
AreNoGraph words = (class : Option (List ℕ)) (site : List ℕ) → AreGraphWords class words site → ⊥

-- the same with the program's name before them
pub record IsNamed (words : List (List ℕ)) (found : Request) : Type 0 where
  pub args : List (List ℕ)
  pub words_are : words ≡ codes "syc" ∷ args
  pub is : IsRequest args found

-- the words that call for a command over a site that may have options, with the program's name before them
abbrev pub CallNamed : OverSite → List (List ℕ) → Type 0
CallNamed (OverSite.Ask question site) words = AreAsking question words site
CallNamed (OverSite.Replay site events) words = AreReplay words site events
CallNamed (OverSite.Verify site certificate) words = AreVerify words site certificate
CallNamed (OverSite.Draw class site) words = ⊥

-- Bare words, with the program's name before them, call for a command over a site that takes these options.
pub record TakesOptions (options : Options) (bare : List (List ℕ)) (command : OverSite) : Type 0 where
  pub call : CallNamed command bare
  pub allowed : allows options command ≡ true

abbrev pub IsTaken : Options → List (List ℕ) → Request → Type 0
IsTaken options bare (request.OfSite given command) = (given ≡ options) × TakesOptions options bare (over command)
IsTaken options bare _ = ⊥

-- They call for none.
abbrev pub IsNotTaken : Options → List (List ℕ) → Type 0
IsNotTaken options bare = (command : OverSite) → TakesOptions options bare command → ⊥
