use Rattle.sy_host_parameters.proofs.machine.script_of.Goals as goal

-- who is read as none has no tree
pub returns : goal.returns
returns c = record { some = tt; none = λ script is. absurd (c.in_default.not-NoMemory (c.in-Err.ensures.only script is)) }
