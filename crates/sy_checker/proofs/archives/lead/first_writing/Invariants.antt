use Rattle.sy_flows.specs.Leads.{MustWriteAt}
use Rattle.sy_checker.proofs.PathsFound.{HoldsBelow}
use Rattle.sy_checker.proofs.archives.lead.first_writing.Given as goal

abbrev pub invariant-loop-place : goal.invariant-loop-place
invariant-loop-place l = HoldsBelow (λ x. MustWriteAt l.site l.fn.class l.fn.archive x → ⊥) l.lists l.place
