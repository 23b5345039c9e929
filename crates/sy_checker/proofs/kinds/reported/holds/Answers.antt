use Rattle.std.proofs.Common.{Bool, subst, sym}
use Rattle.std.specs.Prelude.{Decides, IfOk}
use Rattle.sy_site.specs.machine.Findings.{HoldsAt}
use Rattle.sy_site.specs.Finding.{kind_of}
use Rattle.sy_checker.proofs.kinds.reported.holds.Goals as goal

pub returns-in-InnerLoop : goal.returns-in-InnerLoop
returns-in-InnerLoop c =
    subst (λ k. IfOk c.meets_again.result (λ (holds : Bool). Decides holds (HoldsAt c.args.site.now c.args.class c.args.input (kind_of k))))
    (sym c.in-InnerLoop.is) c.meets_again.ensures
