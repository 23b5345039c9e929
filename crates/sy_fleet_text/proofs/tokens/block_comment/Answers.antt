use Rattle.std.proofs.Common.{arith}
use Rattle.sy_fleet_text.specs.Pieces.{block}
use Rattle.sy_fleet_text.proofs.tokens.block_comment.Goals as goal

pub returns-in-Some : goal.returns-in-Some
returns-in-Some c = record {
  some = omega (arith, c.in-Some.ensures.order);
  within = c.in-Some.ensures.within;
  is = block c.requires.solidus c.requires.star c.in-Some.ensures;
}
