use Rattle.std.proofs.Common.{rules}
use Rattle.sy_runtime.proofs.stopping.compare.Goals as goal

pub returns : goal.returns
returns g c = record {
  board = c.args.board;
  totals = c.drain-accounts.ensures.accounts;
  held_are = c.drain-accounts.ensures.left;
  laws = c.accounts-accounts.ensures.laws;
  shaped = c.accounts-accounts.ensures.shaped;
  taken = search rules;
  done = search rules;
  guarded = search rules;
  unlost = c.accounts-accounts.ensures.unlost;
  within = c.accounts-accounts.ensures.within;
}
