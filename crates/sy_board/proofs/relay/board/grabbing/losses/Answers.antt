use Rattle.std.proofs.Common.{◌≡◌, ◌-◌, ◌<◌, ◌≤◌, ◌++◌, ◌∷◌, Bool, if◌then◌else◌, List, [], length, ap, refl, sym, ◌∙◌, append_assoc, arith, unwrap_or, true, false}
use mir.Val.{bool_byte}
use Rattle.sy_chain.specs.Entries.{Entry}
use Rattle.sy_marks.specs.Marks.{is_lost, lost_of}
use Rattle.sy_marks.specs.declared.marks.Marks.{Marks}
use Rattle.sy_marks.proofs.Fronts.{front_next, front_skip}
use Rattle.sy_board.specs.relay.Totals.{guarded_losses, is_guarded, no_guard}
use Rattle.sy_board.proofs.relay.Losses.{losses_of, none_lost}
use Rattle.sy_board.proofs.relay.board.grabbing.losses.Goals as goal
use Rattle.sy_board.proofs.relay.board.grabbing.losses.Goals.{then-loses, else-loses}

pub returns-then-not-may_lose-clause-lost : goal.returns-then-not-may_lose-clause-lost
returns-then-not-may_lose-clause-lost c =
    ap length (sym (none_lost c.args.queue.now.marks c.args.count c.args.queue.now.entries (sym c.may_lose.ensures ∙ c.if-not-may_lose.true)))

pub returns-then-not-may_lose-clause-guarded : goal.returns-then-not-may_lose-clause-guarded
returns-then-not-may_lose-clause-guarded c =
    ap (λ es. guarded_losses c.args.plan.now (unwrap_or c.args.guard.now no_guard) (losses_of es))
    (sym (none_lost c.args.queue.now.marks c.args.count c.args.queue.now.entries (sym c.may_lose.ensures ∙ c.if-not-may_lose.true)))

byte_of : (b : Bool) → bool_byte b ≡ (if b then 1 else 0)
byte_of true = refl
byte_of false = refl

at_most_one : (b : Bool) → (if b then 1 else 0) ≤ 1
at_most_one true = omega arith
at_most_one false = omega arith

pub loop-unjudged-preserved : goal.loop-unjudged-preserved
loop-unjudged-preserved c =
    let e = c.in-Some.entry in
    let new = c.pop_front.new.self in
    let es = new.entries in
    let xs = c.loop-unjudged.queue.entries in
    let r = c.loop-unjudged.unjudged in
    let plan = c.args.plan.now in
    let guard = unwrap_or c.args.guard.now no_guard in
    let before = c.loop-unjudged.invariant in
    let some : 0 < r = c.loop-unjudged-test.true in
    let is : xs ≡ e ∷ es = c.in-Some.ensures.some in
    let same : new.marks ≡ c.loop-unjudged.queue.marks = c.in-Some.ensures.marks in
    elim c.before.before.if-loses.branch [
      | then-loses w ↦
          let d : is_lost new.marks e (length es) ≡ true = sym c.loses.ensures ∙ w.if-loses.true in
          let next : lost_of c.loop-unjudged.queue.marks r xs ≡ e ∷ lost_of new.marks (r - 1) es =
          ap (λ (m : Marks). lost_of m r xs) (sym same) ∙ front_next (is_lost new.marks) e es r xs some is d in
          let one : w.from-guarded.result ≡ (if is_guarded plan guard e then 1 else 0) =
          w.from-guarded.ensures ∙ ap bool_byte w.is_guarded.ensures ∙ byte_of (is_guarded plan guard e) in
          let few = at_most_one (is_guarded plan guard e) in
          record {
            there = omega (arith, ap length is);
            marks = same ∙ before.marks;
            same = rw (c.push_back.ensures, append_assoc) (ap (λ (z : List Entry). c.loop-unjudged.front ++ z) (sym is) ∙ before.same);
            few = omega (arith, before.few);
            few_guarded = omega (arith, before.few_guarded, one, few);
            lost = omega (arith, ap length next, before.lost);
            guarded = omega (arith, ap (λ (z : List Entry). guarded_losses plan guard (losses_of z)) next, one, before.guarded);
          }
      | else-loses w ↦
          let d : is_lost new.marks e (length es) ≡ false = sym c.loses.ensures ∙ w.if-loses.false in
          let next : lost_of c.loop-unjudged.queue.marks r xs ≡ lost_of new.marks (r - 1) es =
          ap (λ (m : Marks). lost_of m r xs) (sym same) ∙ front_skip (is_lost new.marks) e es r xs some is d in
          record {
            there = omega (arith, ap length is);
            marks = same ∙ before.marks;
            same = rw (c.push_back.ensures, append_assoc) (ap (λ (z : List Entry). c.loop-unjudged.front ++ z) (sym is) ∙ before.same);
            few = omega (arith, before.few);
            few_guarded = omega (arith, before.few_guarded);
            lost = omega (arith, ap length next, before.lost);
            guarded = omega (arith, ap (λ (z : List Entry). guarded_losses plan guard (losses_of z)) next, before.guarded);
          }
    ]
