use Rattle.sy_runtime.proofs.worker.finding.find_runs.Goals as goal

pub unreachable-requires : goal.unreachable-requires
unreachable-requires c =
    let is = rw c.in-Ok-None.field-0-is at c.in-Ok-None.ensures.ok in
    is.0 c.requires.run.0 c.requires.run.1
