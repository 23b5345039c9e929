use Rattle.sy_rules.specs.internal.TableSizes.{size_at}
use Rattle.sy_rules.proofs.lemmas.lists.SizeSums.{sized_start}
use Rattle.sy_rules.proofs.lists.sizes.size_of.Goals as goal

pub loop-rest-init : goal.loop-rest-init
loop-rest-init c = sized_start (size_at c.args.inner.now c.args.outside) c.args.statements.now
