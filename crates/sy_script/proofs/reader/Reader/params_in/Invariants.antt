use Rattle.std.proofs.Common.{◌≡◌, ◌-◌}
use Rattle.sy_script.specs.declared.token.Kind.TheVariants as k
use Rattle.sy_script.specs.internal.Reading.{items_from, param, params_in}
use Rattle.sy_script.proofs.reader.Reader.params_in.Given as goal

abbrev pub invariant-loop-turn : goal.invariant-loop-turn
invariant-loop-turn l = params_in l.self.text.now l.opened l.tokens ≡ items_from k.RightParen l.opened (param l.self.text.now l.opened) (l._turn-end - l._turn) l.found l.rest
