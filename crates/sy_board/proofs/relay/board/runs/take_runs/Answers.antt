use Rattle.std.proofs.Common.{◌≡◌, ◌<◌, ◌++◌, List, [], ◌∷◌, drop, length, map, take, arith, refl, sym, subst, ap, ◌∙◌, append_assoc, append-nil}
use Rattle.std.specs.Arc.{arc_value}
use Rattle.sy_wire.specs.Messages.{Said}
use Rattle.sy_chain.specs.Entries.{Entry}
use Rattle.sy_rules.specs.declared.lists.occurrence.Occurrence.TheVariants as occurrence
use Rattle.sy_board.specs.internal.Jobs.{IsNext}
use Rattle.sy_board.specs.relay.Runs.{AreRuns}
use Rattle.sy_board.proofs.relay.Running.{another_run, last_run, no_run, one_given, still_first, whole_run}
use Rattle.sy_board.proofs.relay.board.runs.take_runs.Goals as goal

pub returns-in_default-clause-ok : goal.returns-in_default-clause-ok
returns-in_default-clause-ok c =
    rw append-nil at (c.loop-more.invariant.runs [] (no_run c.args.plan.now c.args.action c.loop-more.more c.loop-more.entries c.in_default.ensures.none))

pub returns-then-other-action-clause-ok : goal.returns-then-other-action-clause-ok
returns-then-other-action-clause-ok c =
    rw append-nil at (c.loop-more.invariant.runs [] (another_run c.args.plan.now c.args.action c.in-Some.other c.loop-more.more c.in-Some.left c.loop-more.entries
    c.in-Some.ensures.some c.if-other-action.true))

pub returns-then-left-ne0-clause-ok : goal.returns-then-left-ne0-clause-ok
returns-then-left-ne0-clause-ok c =
    let e = c.in-Some-pop_front.node in
    let is : c.loop-more.entries ≡ e ∷ c.pop_front.new.self = c.in-Some-pop_front.ensures.some in
    let some : 0 < c.loop-more.more = c.loop-more-test.true in
    let next : IsNext c.args.plan.now c.loop-more.entries (occurrence.Run c.args.action) c.in-Some.left =
    subst (λ a. IsNext c.args.plan.now c.loop-more.entries (occurrence.Run a) c.in-Some.left) c.if-other-action.false c.in-Some.ensures.some in
    let its : arc_value c.in-Ok.message ≡ e.message = c.in-Ok.ensures ∙ c.message.ensures.value in
    let given = ap (λ xs. map arc_value (drop (length c.args.into.now.items) xs)) c.push_reserved.ensures.items
    ∙ one_given arc_value c.args.into.now.items c.loop-more.into.items c.in-Ok.message c.loop-more.invariant.kept
    ∙ ap (λ (m : Said). map arc_value (drop (length c.args.into.now.items) c.loop-more.into.items) ++ m ∷ []) its in
    subst (AreRuns c.args.plan.now c.args.action c.args.most c.args.entries.now) (sym given)
    (c.loop-more.invariant.runs (e.message ∷ []) (last_run c.args.plan.now c.args.action c.loop-more.more c.in-Some.left c.loop-more.entries c.pop_front.new.self e some is next
    c.if-left-ne0.true))

pub loop-more-preserved : goal.loop-more-preserved
loop-more-preserved c =
    let e = c.in-Some-pop_front.node in
    let is : c.loop-more.entries ≡ e ∷ c.pop_front.new.self = c.in-Some-pop_front.ensures.some in
    let some : 0 < c.loop-more.more = c.loop-more-test.true in
    let next : IsNext c.args.plan.now c.loop-more.entries (occurrence.Run c.args.action) c.in-Some.left =
    subst (λ a. IsNext c.args.plan.now c.loop-more.entries (occurrence.Run a) c.in-Some.left) c.if-other-action.false c.in-Some.ensures.some in
    let its : arc_value c.in-Ok.message ≡ e.message = c.in-Ok.ensures ∙ c.message.ensures.value in
    let given = ap (λ xs. map arc_value (drop (length c.args.into.now.items) xs)) c.push_reserved.ensures.items
    ∙ one_given arc_value c.args.into.now.items c.loop-more.into.items c.in-Ok.message c.loop-more.invariant.kept
    ∙ ap (λ (m : Said). map arc_value (drop (length c.args.into.now.items) c.loop-more.into.items) ++ m ∷ []) its in
    record {
      all = rw (c.push_back.ensures, append_assoc) (ap (λ (es : List Entry). c.loop-more.passed ++ es) (sym is) ∙ c.loop-more.invariant.all);
      kept = ap (take (length c.args.into.now.items)) c.push_reserved.ensures.items
          ∙ still_first c.args.into.now.items c.loop-more.into.items c.in-Ok.message c.loop-more.invariant.kept;
      room = let before = c.loop-more.invariant.room in omega (arith, before, some, c.push_reserved.ensures.len, c.push_reserved.ensures.capacity);
      capacity = c.push_reserved.ensures.capacity ∙ c.loop-more.invariant.capacity;
      few = let before = c.loop-more.invariant.few in omega (arith, before);
      runs = λ behind h. subst (AreRuns c.args.plan.now c.args.action c.args.most c.args.entries.now) (sym (ap (λ (ms : List Said). ms ++ behind) given ∙ append_assoc _ (e.message ∷ []) behind))
          (c.loop-more.invariant.runs (e.message ∷ behind) (whole_run c.args.plan.now c.args.action c.loop-more.more c.in-Some.left c.loop-more.entries c.pop_front.new.self e some is
          next c.if-left-ne0.false behind h));
    }

pub returns-clause-ok : goal.returns-clause-ok
returns-clause-ok c =
    let none : c.loop-more.more ≡ 0 = omega (arith, c.loop-more-test.false) in
    rw append-nil at (c.loop-more.invariant.runs [] (rw none refl))
