use Rattle.std.proofs.Common.{refl}
use Rattle.std.specs.Fmt.{digits}
use Rattle.sy_select.proofs.names.facility_text.Goals as goal
use Rattle.sy_select.specs.Names.{facility_text}

pub returns-in-12 : goal.returns-in-12
unfolding facility_text digits
returns-in-12 c = rw c.in-12.is refl

pub returns-in-13 : goal.returns-in-13
unfolding facility_text digits
returns-in-13 c = rw c.in-13.is refl

pub returns-in-14 : goal.returns-in-14
unfolding facility_text digits
returns-in-14 c = rw c.in-14.is refl

pub returns-in-15 : goal.returns-in-15
unfolding facility_text digits
returns-in-15 c = rw c.in-15.is refl
