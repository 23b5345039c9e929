use Rattle.sy_relp.proofs.Halts.{at_command, at_content, at_length, at_txnr}
use Rattle.sy_relp.proofs.Whole.{head_of}
use Rattle.sy_relp.proofs.parts.frame_at.Goals as goal

pub returns-in-Err-clause-err : goal.returns-in-Err-clause-err
returns-in-Err-clause-err c = at_txnr _ c.args.bytes.now c.in-Err.ensures.err

pub returns-in-Err-command_at-clause-err : goal.returns-in-Err-command_at-clause-err
returns-in-Err-command_at-clause-err c = at_command _ c.args.bytes.now _ _ c.in-Ok.ensures.ok.0 c.in-Ok.ensures.ok.1 c.in-Err-command_at.ensures.err

pub returns-in-Err-length_at-clause-err : goal.returns-in-Err-length_at-clause-err
returns-in-Err-length_at-clause-err c =
    at_length _ c.args.bytes.now _ (head_of c.args.bytes.now _ _ _ _ c.in-Ok.ensures.ok.0 c.in-Ok.ensures.ok.1 c.in-Ok-command_at.ensures.ok.0 c.in-Ok-command_at.ensures.ok.1) c.in-Err-length_at.ensures.err

pub returns-in-Err-content_at-clause-err : goal.returns-in-Err-content_at-clause-err
returns-in-Err-content_at-clause-err c =
    at_content _ c.args.bytes.now _ _ _ (head_of c.args.bytes.now _ _ _ _ c.in-Ok.ensures.ok.0 c.in-Ok.ensures.ok.1 c.in-Ok-command_at.ensures.ok.0 c.in-Ok-command_at.ensures.ok.1)
    c.in-Ok-length_at.ensures.ok.0 c.in-Ok-length_at.ensures.ok.1 c.in-Err-content_at.ensures.err
