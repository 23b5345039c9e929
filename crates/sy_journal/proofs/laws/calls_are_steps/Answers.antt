use Rattle.sy_journal.proofs.Bridging.{appends, finishes_at, fades, has_its_own, finishes_in_one}
use Rattle.sy_journal.proofs.Segments.{finishes_may_fade}
use Rattle.sy_journal.proofs.laws.calls_are_steps.Goals as goal

pub returns-clause-appends : goal.returns-clause-appends
returns-clause-appends c = appends

pub returns-clause-finishes : goal.returns-clause-finishes
returns-clause-finishes c = finishes_at

pub returns-clause-fades : goal.returns-clause-fades
returns-clause-fades c = fades

pub returns-clause-own : goal.returns-clause-own
returns-clause-own c = has_its_own

pub returns-clause-one : goal.returns-clause-one
returns-clause-one c = finishes_in_one

pub returns-clause-pair : goal.returns-clause-pair
returns-clause-pair c = finishes_may_fade
