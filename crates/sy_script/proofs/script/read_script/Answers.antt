use Rattle.std.proofs.Common.{arith}
use Rattle.sy_script.proofs.SoundStmt.{reading_ok}
use Rattle.sy_script.proofs.Depths.{script_within}
use Rattle.sy_script.proofs.ReadBackStmt.{script_reads}
use Rattle.sy_script.proofs.FaultsStand.{found_stands}
use Rattle.sy_script.proofs.OneAnswer.{found_first}
use Rattle.sy_script.proofs.script.read_script.Goals as goal

pub returns-in-Ok-clause-found : goal.returns-in-Ok-clause-found
returns-in-Ok-clause-found c = reading_ok c.args.text.now c.in-Ok.script (omega arith) c.in-Ok.ensures

pub returns-in-Ok-clause-shallow : goal.returns-in-Ok-clause-shallow
returns-in-Ok-clause-shallow c = script_within c.args.text.now c.in-Ok.script (reading_ok c.args.text.now c.in-Ok.script (omega arith) c.in-Ok.ensures)

pub returns-in-Ok-clause-only : goal.returns-in-Ok-clause-only
returns-in-Ok-clause-only c script is =
    let read = script_reads c.args.text.now script is in
    let found = c.in-Ok.ensures in
    cc (read, found)

pub returns-in_default-clause-only : goal.returns-in_default-clause-only
returns-in_default-clause-only c script is =
    let read = script_reads c.args.text.now script is in
    let stopped = c.in-Err.ensures c.in_default.not-NoMemory in
    absurd (cc (read, stopped))

pub returns-in_default-clause-there : goal.returns-in_default-clause-there
returns-in_default-clause-there c = found_stands c.args.text.now c.in-Err.fault c.located.result (c.in-Err.ensures c.in_default.not-NoMemory) c.in_default.not-NoMemory c.located.ensures

pub returns-in_default-clause-first : goal.returns-in_default-clause-first
returns-in_default-clause-first c = found_first c.args.text.now c.in-Err.fault c.located.result (omega arith) (c.in-Err.ensures c.in_default.not-NoMemory) c.in_default.not-NoMemory c.located.ensures
