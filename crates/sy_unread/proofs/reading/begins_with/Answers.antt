use Rattle.std.proofs.lemmas.Bool.Decides.{Decides-eqb}
use Rattle.std.proofs.lemmas.Slice.Eq.{starts_is}
use Rattle.sy_unread.proofs.reading.begins_with.Goals as goal

pub returns-clause-whole : goal.returns-clause-whole
returns-clause-whole c = λ is. (starts_is Decides-eqb c.args.bytes.now c.args.front.now c.starts_with.result c.starts_with.ensures.value).0 is

pub returns-clause-only : goal.returns-clause-only
returns-clause-only c = λ rest is. (starts_is Decides-eqb c.args.bytes.now c.args.front.now c.starts_with.result c.starts_with.ensures.value).1 rest is
