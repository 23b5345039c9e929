use Rattle.sy_site.specs.Sites.{plan_at}
use Rattle.sy_endpoints.proofs.Meetings.{shared_of}
use Rattle.sy_endpoints.proofs.shared.meeting_with.Goals as goal

pub returns-in-None-clause-none : goal.returns-in-None-clause-none
returns-in-None-clause-none c one other is =
    c.in-None.ensures.none one other
    (shared_of c.inputs_of-inputs.result.now c.inputs_of-others.result.now (plan_at c.args.site.now c.args.relay).inputs
    (plan_at c.args.site.now c.args.earlier).inputs one other c.inputs_of-inputs.ensures.are c.inputs_of-others.ensures.are is.ports)
