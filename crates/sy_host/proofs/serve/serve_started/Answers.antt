use Rattle.std.proofs.Common.{rules, ◌≡◌, ℕ, List, Option, Result, Ok, Err, subst}
use Rattle.std.specs.Prelude.{IfOk}
use Rattle.sy_chain.specs.Entries.{Entry}
use Rattle.sy_board.specs.relay.Boards.{Account}
use Rattle.sy_board.specs.relay.Totals.{GuardState}
use Rattle.sy_runtime.specs.Connections.{Counts}
use Rattle.sy_runtime.specs.Stopping.{Stops}
use Rattle.sy_rules.specs.PlanValue.{Plan}
use Rattle.sy_site.specs.Sites.{plan_at}
use Rattle.sy_outlets.specs.Left.{KeepsFile}
use Rattle.sy_host.specs.Totals.{EndsWithTotals}
use Rattle.sy_host.specs.internal.Served.{IsLeft}
use Rattle.sy_host.proofs.serve.serve_started.Goals as goal

-- what holds of an answer that is Ok goes on to hold
left_of : {T E : Type 0} (answer : Result T E) {P Q : T → Type 0} → ((stopped : T) → P stopped → Q stopped) → IfOk answer P → IfOk answer Q
left_of (Ok stopped) f stops = f stopped stops
left_of (Err mismatch) f stops = stops

-- what a relay leaves that has this guard
left_with :
    (old new : Option GuardState) (ends : List Counts) (account : Account) (left : List Entry) (made : List ℕ) → old ≡ new
    → Stops old ends account left made → IsLeft new ends account left
left_with old new ends account left made same stops =
    record { made = made; stops = subst (λ guard. Stops guard ends account left made) same stops }

pub returns-clause-done : goal.returns-clause-done
returns-clause-done g c = λ zero.
    subst
    (λ (plan : Plan). EndsWithTotals plan.actions c.args.run.0 (g.W.Sink.contents c.args.writer.now) (g.W.Sink.contents c.finish-status.new.writer)
    (g.T.Store.wanted c.args.store.now) (KeepsFile g.T.Store.begun g.T.Store.kept) plan.inputs c.args.store.now c.finish-status.new.store)
    {x = c.deref-plan.result.now} {y = plan_at c.args.served.site.now c.args.served.relay} (search rules)
    (c.finish-status.ensures.done zero c.args.run.0 _
    (left_of c.stop-answer.result (λ stopped stops. left_with _ c.args.run.0 _ _ _ _ (search rules) stops) c.stop-answer.ensures)
    c.reported_by-unread.ensures)
