use Rattle.std.proofs.Common.{arith}
use Rattle.sy_flowing.proofs.steps.Ends.{empty_at_rest, few, written_at_rest}
use Rattle.sy_flowing.proofs.steps.Moves.{weighs}
use Rattle.sy_flowing.proofs.laws.own_steps_end.Goals as goal

pub returns-clause-few : goal.returns-clause-few
returns-clause-few c = λ site law flow events state run. (
  weighs site law flow 1 (omega arith) state,
  λ bound some own end steps. let l = few site law flow bound some events state run own end steps in omega (arith, l),
)

pub returns-clause-empty : goal.returns-clause-empty
returns-clause-empty c = empty_at_rest

pub returns-clause-written : goal.returns-clause-written
returns-clause-written c = λ site law sound flow bound some. written_at_rest site law flow bound some sound
