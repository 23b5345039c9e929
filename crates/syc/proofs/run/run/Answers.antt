use Rattle.std.proofs.Common.{map, refl}
use Rattle.std.specs.Prelude.{string_bytes}
use Rattle.syc.specs.CommandReports.{ReportIs}
use Rattle.sy_commands.specs.Optioned.{FailsAs}
use Rattle.sy_commands.specs.Replays.{PiecesMayFail}
use Rattle.sy_commands.proofs.NoMemory.{memory_ends, memory_says}
use Rattle.syc.proofs.Optioned.{for_request}
use Rattle.syc.proofs.Statuses.{memory_passed}
use Rattle.syc.proofs.run.run.Goals as goal

pub returns-in_default-clause-pass : goal.returns-in_default-clause-pass
returns-in_default-clause-pass g c = rw (← c.out.view_is) (λ words.
    rw c.out_of_memory.ensures.status (memory_passed _ _ _ _ _ refl c.out_of_memory.ensures.reported))

pub returns-in_default-clause-reports : goal.returns-in_default-clause-reports
returns-in_default-clause-reports g c = rw (← c.out.view_is) (λ options command are.
    rw c.out_of_memory.ensures.status (record {
      ends = memory_ends (g.F.Files.bytes_of c.args.files.now) command;
      says = memory_says (g.F.Files.bytes_of c.args.files.now) _ _ c.out_of_memory.ensures.reported refl options command;
    }))

pub returns-in-Some-clause-reports : goal.returns-in-Some-clause-reports
returns-in-Some-clause-reports g c =
    for_request (λ options command. ReportIs (g.F.Files.bytes_of c.args.files.now) options command c.report.result c.args.out.now c.report.new.out)
    (map string_bytes c.args.args.now) c.in-Some.request (c.in-Some.ensures.some _ c.in-Ok.ensures)
    (record { ends = c.report.ensures.ends; says = c.report.ensures.says })

pub returns-in-Some-clause-fails : goal.returns-in-Some-clause-fails
returns-in-Some-clause-fails g c =
    for_request (λ options command. FailsAs (g.F.Files.bytes_of c.args.files.now) (g.F.Files.may_fail c.args.files.now)
    (PiecesMayFail g.F.Opened.Source.faults) command c.report.result c.args.out.now c.report.new.out)
    (map string_bytes c.args.args.now) c.in-Some.request (c.in-Some.ensures.some _ c.in-Ok.ensures) c.report.ensures.fails
