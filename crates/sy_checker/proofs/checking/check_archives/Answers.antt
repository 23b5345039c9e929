use Rattle.std.proofs.Common.{◌∙◌, subst, sym}
use Rattle.sy_checker.specs.internal.Met.{AreMet}
use Rattle.sy_checker.proofs.Shared.{more_met, sound_by}
use Rattle.sy_checker.proofs.checking.check_archives.Goals as goal

pub returns-then-are_met-clause-sound : goal.returns-then-are_met-clause-sound
returns-then-are_met-clause-sound c =
    sound_by c.args.site.now c.is_lawful.ensures c.args.class c.args.courses.now c.args.place c.as_slice.result.now c.as_slice-2.result.now
    c.requires.course c.requires.clean (subst (AreMet c.args.site.now c.args.courses.now) (sym c.as_slice.ensures.value) c.requires.met)
    (c.as_slice-2.ensures.value ∙ c.in_ok-named.ensures) (sym c.are_met.ensures ∙ c.if-are_met.true)

pub returns-clause-met : goal.returns-clause-met
returns-clause-met c =
    subst (AreMet c.args.site.now c.args.courses.now) (sym c.in_ok-push_met.ensures)
    (more_met c.args.site.now c.args.class c.args.courses.now c.args.place c.args.met.now.items c.as_slice-3.result.now c.requires.course c.requires.met
    (c.as_slice-3.ensures.value ∙ c.in_ok-named.ensures) c.in_ok-check_rows.ensures.sound)
