use Rattle.std.proofs.Common.{subst}
use Rattle.sy_diff.specs.Diffs.{IsJudgedAt}
use Rattle.sy_diff.proofs.Judged.{accepted, faulty, never_faulty, refused}
use Rattle.sy_diff.proofs.diff.diff.Goals as goal

pub returns-in-Ok-clause-no_worse : goal.returns-in-Ok-clause-no_worse
returns-in-Ok-clause-no_worse g c = λ is.
    subst (IsJudgedAt g.F.Files.bytes_of c.args.files.now c.args.wanted)
    (accepted c.in-Ok.answer.is_accepted c.in-Ok.answer.text.items c.print.result c.args.out.now c.print.new.out c.print.ensures.printed is) c.in-Ok.ensures.ok

pub returns-in-Ok-clause-worse : goal.returns-in-Ok-clause-worse
returns-in-Ok-clause-worse g c = λ is.
    subst (IsJudgedAt g.F.Files.bytes_of c.args.files.now c.args.wanted)
    (refused c.in-Ok.answer.is_accepted c.in-Ok.answer.text.items c.print.result c.args.out.now c.print.new.out c.print.ensures.printed is) c.in-Ok.ensures.ok

pub returns-in-Ok-clause-faulty : goal.returns-in-Ok-clause-faulty
returns-in-Ok-clause-faulty g c = λ is.
    absurd (never_faulty c.in-Ok.answer.is_accepted c.in-Ok.answer.text.items c.print.result c.args.out.now c.print.new.out c.print.ensures.printed is)

pub returns-after-file-clause-faulty : goal.returns-after-file-clause-faulty
returns-after-file-clause-faulty g c =
    faulty g.F.Files.bytes_of c.args.files.now c.args.wanted c.in-Err.field-0.halt c.stop.result c.in-Err.ensures.err c.stop.ensures.status
