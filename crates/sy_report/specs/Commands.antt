-- Which words are no command, and what is taken of words that are given with options.
use Rattle.std.specs.Prelude.{◌≡◌, ℕ, List, ◌∷◌, IfNone, IfSome, codes, map}
use Rattle.sy_report.specs.Words.{AreAsking, AreReplay, AreVerify, HaveOptions, bare_of}
use Rattle.sy_report.specs.declared.command_line.command.Asked.{Asked}
use Rattle.sy_report.specs.declared.command_line.options.GivenWords.{GivenWords}
use Rattle.sy_report.specs.declared.command_line.options.Options.{Options}

-- no command over a site, with the program's name before it
pub record AreNoSiteCommand (words : List (List ℕ)) : Type 0 where
  pub no_asking : (question : Asked) (site : List ℕ) → AreAsking question words site → ⊥
  pub no_replay : (site events : List ℕ) → AreReplay words site events → ⊥
  pub no_verify : (site certificate : List ℕ) → AreVerify words site certificate → ⊥

-- these words with the program's name before them, those that are no options, and the options among them
pub record IsGiven (words : List (List ℕ)) (given : GivenWords) : Type 0 where
  pub all : map (λ s. s.now) given.all.items ≡ codes "syc" ∷ words
  pub bare : map (λ s. s.now) given.bare.items ≡ codes "syc" ∷ bare_of words
  pub some : IfSome given.options (λ options. HaveOptions words options (bare_of words))
  pub none : IfNone given.options ((options : Options) (bare : List (List ℕ)) → HaveOptions words options bare → ⊥)
