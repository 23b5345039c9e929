use Rattle.sy_fit.proofs.laws.fit_is_safe.Goals as goal

pub returns : goal.returns
returns c = λ site rows lawful fit events state runs.
    c.sound_sites_are_safe.ensures site lawful (c.fit_is_sound.ensures site rows fit) events state runs
