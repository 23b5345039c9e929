use Rattle.sy_fit.proofs.laws.claims_of_sound_sites.Goals as goal

pub returns-clause-confined : goal.returns-clause-confined
returns-clause-confined c = λ site sound class protected. c.copies_are_confined.ensures site class (sound class protected)

pub returns-clause-falling : goal.returns-clause-falling
returns-clause-falling c = λ site sound class protected. c.ranks_fall_along_trails.ensures site class (sound class protected)

pub returns-clause-written : goal.returns-clause-written
returns-clause-written c = c.messages_are_written_or_head_there.ensures
