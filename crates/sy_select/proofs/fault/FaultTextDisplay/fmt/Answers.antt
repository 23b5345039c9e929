use Rattle.std.proofs.Common.{◌≡◌, List, [], ℕ, rules, arith}
use Rattle.std.proofs.lemmas.Grind.{common_steps}
use Rattle.sy_select.proofs.Words.{no_text, word_of_bytes}
use Rattle.sy_select.proofs.fault.FaultTextDisplay.fmt.Goals as goal

pub returns-in-Err-clause-writes : goal.returns-in-Err-clause-writes
returns-in-Err-clause-writes g c =
    let text = c.args.self.now in
    let some : text.word.now ≡ [] → ⊥ = first_of (search rules, grind (arith, common_steps)) in
    rw (word_of_bytes text.words.now text.word.now some (no_text text.word.now c.in-Err.ensures.cases.0)) tt
