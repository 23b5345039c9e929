use Rattle.std.proofs.Common.{◌≡◌, length}
use Rattle.sy_site.specs.texts.Lines.{words}
use Rattle.sy_site.proofs.texts.lines.next_word.Given as goal

abbrev pub invariant-loop-front : goal.invariant-loop-front
invariant-loop-front l = words l.line ≡ words l.rest

abbrev pub decreases-loop-front : goal.decreases-loop-front
decreases-loop-front l = length l.rest
