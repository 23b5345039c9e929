-- Which command the words are, and that a pass is none over a site.
use Rattle.std.proofs.Common.{◌≡◌, ℕ, List, [], ◌∷◌, ◌++◌, sym, ap, ◌∙◌}
use Rattle.std.specs.Prelude.{codes}
use Rattle.sy_commands.specs.Words.{AreAskingOf, AreReplayOf, AreVerifyOf}
use Rattle.syc.specs.Words.{ArePassAlone}
use Rattle.sy_report.specs.Words.{asking}
use Rattle.sy_report.specs.declared.command_line.command.Asked.{Asked}
use Rattle.sy_commands.proofs.CommandWords.{one_two, one_three, rest_same}
use Rattle.sy_report.specs.declared.command_line.command.Asked.TheVariants as asked

pass_no_question : (question : Asked) (word s : List ℕ) → word ∷ [] ≡ asking question ++ s ∷ [] → ⊥
pass_no_question asked.Check word s e = one_two e
pass_no_question asked.Certify word s e = one_two e

-- the words of a pass are those of no other command
module _ (after : List (List ℕ)) (pass : ArePassAlone after) where
  pub pass_asks_nothing : (question : Asked) (site : List ℕ) → AreAskingOf question after site → ⊥
  pass_asks_nothing question site h = pass_no_question question _ _ (sym pass ∙ h.words_are)

  pub pass_no_replay : (site events : List ℕ) → AreReplayOf after site events → ⊥
  pass_no_replay site events h = one_three (sym pass ∙ h.words_are)

  pub pass_no_verify : (site certificate : List ℕ) → AreVerifyOf after site certificate → ⊥
  pass_no_verify site certificate h = one_three (sym pass ∙ h.words_are)

-- ---- the words with the program's name before them

pub alone : (after : List (List ℕ)) → codes "syc" ∷ after ≡ codes "syc" ∷ codes "pass" ∷ [] → ArePassAlone after
alone after e = rest_same e

pub with_name : (after : List (List ℕ)) → ArePassAlone after → codes "syc" ∷ after ≡ codes "syc" ∷ codes "pass" ∷ []
with_name after e = ap (λ w. codes "syc" ∷ w) e
