use Rattle.sy_board.proofs.relay.RunJobs.{run_is_job, runs_go_on}
use Rattle.sy_board.proofs.relay.runs_are_jobs.Goals as goal

pub returns-clause-first : goal.returns-clause-first
returns-clause-first c = run_is_job

pub returns-clause-later : goal.returns-clause-later
returns-clause-later c = runs_go_on
