use Rattle.sy_fit.proofs.FitIsSound.{sound_for}
use Rattle.sy_checker.proofs.checking.check_rows.Goals as goal

pub returns-clause-sound : goal.returns-clause-sound
returns-clause-sound c =
    let are = c.in_ok-rows_of_class.ensures.ok in sound_for c.args.site.now c.args.class are.part _ are.are_wanted are.right
