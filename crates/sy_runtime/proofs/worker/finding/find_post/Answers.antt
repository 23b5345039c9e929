use Rattle.std.proofs.Common.{inl, inr}
use Rattle.sy_runtime.proofs.worker.finding.find_post.Goals as goal

pub returns-in-Refused : goal.returns-in-Refused
returns-in-Refused c = λ messages. (c.in-Refused.ensures.0, inr (inl c.in-Refused.ensures.1))
