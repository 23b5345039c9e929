use Rattle.sy_checker.proofs.Reporting.{none_sound, sound_none}
use Rattle.sy_checker.proofs.surveying.survey.Goals as goal

pub returns-clause-sound : goal.returns-clause-sound
returns-clause-sound c = λ none.
    none_sound c.args.site.now c.is_lawful.ensures c.in_ok-groups.groups.items c.in_ok-groups.ensures none

pub returns-clause-found : goal.returns-clause-found
returns-clause-found c = λ sound.
    sound_none c.args.site.now c.in_ok-groups.groups.items c.in_ok-groups.ensures (c.sound_sites_have_no_finding.ensures c.args.site.now sound)
