use Rattle.std.proofs.Common.{◌≡◌, length}
use Rattle.sy_site.specs.texts.Lines.{words}
use Rattle.sy_site.proofs.texts.reading.same_words.Given as goal

abbrev pub invariant-loop-word : goal.invariant-loop-word
invariant-loop-word l = (words l.left ≡ words l.right → words l.a ≡ words l.b) × (words l.a ≡ words l.b → words l.left ≡ words l.right)

abbrev pub decreases-loop-word : goal.decreases-loop-word
decreases-loop-word l = length (words l.left)
