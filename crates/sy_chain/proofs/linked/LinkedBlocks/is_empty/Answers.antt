use Rattle.core.specs.Ptr.NonNull.{non_null_ptr}
use Rattle.sy_chain.proofs.Leading.{leads_tests, reports_empty}
use Rattle.sy_chain.proofs.linked.LinkedBlocks.is_empty.Goals as goal

pub new-requires : goal.new-requires
new-requires g c = leads_tests _ _ c.self.invariant.leads

pub returns : goal.returns
returns g c = rw (← c.self.view_is) (reports_empty _ _ _ c.self.invariant non_null_ptr c.new.result _ c.is_none.ensures c.new.ensures.null c.new.ensures.value c.new.ensures.non_null)
