use Rattle.std.proofs.Common.{◌≡◌, drop}
use Rattle.sy_script.specs.internal.Lex.{with_front, tokens_from}
use Rattle.sy_script.specs.internal.Lex as spec
use Rattle.sy_script.proofs.lex.tokens.Given as goal

abbrev pub invariant-loop-at : goal.invariant-loop-at
invariant-loop-at l = with_front l.tokens.items (tokens_from l.text l.state l.at (drop l.at l.text)) ≡ spec.tokens l.text
