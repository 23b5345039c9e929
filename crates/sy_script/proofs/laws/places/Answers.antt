use Rattle.sy_script.specs.internal.Answer.{place}
use Rattle.sy_script.proofs.Places.{is_place, one_column}
use Rattle.sy_script.proofs.laws.places.Goals as goal

pub returns-clause-some : goal.returns-clause-some
returns-clause-some c before = ((place before).0, (place before).1, is_place before)

pub returns-clause-one : goal.returns-clause-one
returns-clause-one c before a b n m p q = one_column before a b n m p q
