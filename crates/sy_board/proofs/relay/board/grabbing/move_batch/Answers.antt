use Rattle.std.proofs.Common.{◌≡◌, ℕ, ◌<◌, ◌++◌, ◌∷◌, Bool, true, false, not, ◌==◌, ◌-◌, List, length, refl, sym, subst, ap, ◌∙◌, append_assoc, arith, eqb-true}
use Rattle.sy_chain.specs.Entries.{Entry}
use Rattle.sy_marks.specs.Marks.{is_kept, is_lost, kept_of, lost_of}
use Rattle.sy_marks.specs.declared.marks.Marks.{Marks}
use Rattle.sy_marks.proofs.Fronts.{front_next, front_skip, drop_next, finished_if_idle, kept_if_due}
use Rattle.sy_rules.specs.PlanValue.{Plan}
use Rattle.sy_board.specs.relay.Boards.{Account}
use Rattle.sy_board.specs.internal.Counting.{HasRoomFor, HasRoomForOne, became_due, entry_due}
use Rattle.sy_board.proofs.relay.Tallies.{Follows, all_followed, first_counted, room_for_first}
use Rattle.sy_board.proofs.relay.board.grabbing.move_batch.Goals as goal

has_due : (due : ℕ) → (due ≡ 0 → ⊥) → not (due == 0) ≡ true
has_due due some = go (due == 0) refl
  where
    go : (b : Bool) → (due == 0) ≡ b → not b ≡ true
    go true is = absurd (some (eqb-true due 0 is))
    go false is = refl

nothing_due : (due : ℕ) → due ≡ 0 → not (due == 0) ≡ false
nothing_due due is = rw is refl

-- the entry that is kept was counted
further : (plan : Plan) (e : Entry) (rest all : List Entry) (now old : Account) (list due : ℕ) (whole : List Entry) → list ≡ e.list → due ≡ e.due → whole ≡ e ∷ rest
    → Follows plan whole now all old → HasRoomForOne plan list due now × Follows plan rest (entry_due plan list due now) all old
further plan e rest all now old list due whole l d is follows =
    let room : HasRoomFor plan (e ∷ rest) now = subst (λ es. HasRoomFor plan es now) is follows.room in
    let same : became_due plan (e ∷ rest) now ≡ became_due plan all old = subst (λ es. became_due plan es now ≡ became_due plan all old) is follows.same in
    let one = first_counted plan e rest now room in
    rw (l, d) (room_for_first plan e rest now room, record { room = one.room; same = one.same ∙ same })

pub loop-left-preserved-then-loses : goal.loop-left-preserved-then-loses
loop-left-preserved-then-loses c =
    let e = c.in-Some.node in
    let new = c.pop_front.new.self in
    let es = new.entries in
    let xs = c.loop-left.queue.entries in
    let r = c.loop-left.left in
    let before = c.loop-left.invariant in
    let some : 0 < r = c.loop-left-test.true in
    let is : xs ≡ e ∷ es = c.in-Some.ensures.some in
    let same : new.marks ≡ c.loop-left.queue.marks = c.in-Some.ensures.marks in
    let d : is_lost new.marks e (length es) ≡ true = sym c.loses.ensures ∙ c.if-loses.true in
    let k : is_kept new.marks e (length es) ≡ false = rw d refl in
    let k_next : kept_of c.loop-left.queue.marks r xs ≡ kept_of new.marks (r - 1) es =
    ap (λ (m : Marks). kept_of m r xs) (sym same) ∙ front_skip (is_kept new.marks) e es r xs some is k in
    let l_next : lost_of c.loop-left.queue.marks r xs ≡ e ∷ lost_of new.marks (r - 1) es =
    ap (λ (m : Marks). lost_of m r xs) (sym same) ∙ front_next (is_lost new.marks) e es r xs some is d in
    record {
      there = omega (arith, ap length is);
      marks = same ∙ before.marks;
      rest = sym (drop_next e es r xs some is) ∙ before.rest;
      kept = ap (λ (z : List Entry). c.loop-left.entries ++ z) (sym k_next) ∙ before.kept;
      lost = rw (c.push_back.ensures, append_assoc) (ap (λ (z : List Entry). c.loop-left.lost ++ z) (sym l_next) ∙ before.lost);
      counted = subst (λ zs. Follows c.args.plan.now zs c.loop-left.accounts (kept_of c.args.queue.now.marks c.args.count c.args.queue.now.entries) c.args.accounts.now) k_next before.counted;
    }

pub loop-left-preserved-then-due-ne0 : goal.loop-left-preserved-then-due-ne0
loop-left-preserved-then-due-ne0 c =
    let e = c.in-Some.node in
    let new = c.pop_front.new.self in
    let es = new.entries in
    let xs = c.loop-left.queue.entries in
    let r = c.loop-left.left in
    let before = c.loop-left.invariant in
    let some : 0 < r = c.loop-left-test.true in
    let is : xs ≡ e ∷ es = c.in-Some.ensures.some in
    let same : new.marks ≡ c.loop-left.queue.marks = c.in-Some.ensures.marks in
    let d : is_lost new.marks e (length es) ≡ false = sym c.loses.ensures ∙ c.if-loses.false in
    let due : not (e.due == 0) ≡ true = has_due e.due (λ z. c.if-due-ne0.true (c.due-due.ensures ∙ z)) in
    let k : is_kept new.marks e (length es) ≡ true = kept_if_due new.marks e (length es) d due in
    let k_next : kept_of c.loop-left.queue.marks r xs ≡ e ∷ kept_of new.marks (r - 1) es =
    ap (λ (m : Marks). kept_of m r xs) (sym same) ∙ front_next (is_kept new.marks) e es r xs some is k in
    let l_next : lost_of c.loop-left.queue.marks r xs ≡ lost_of new.marks (r - 1) es =
    ap (λ (m : Marks). lost_of m r xs) (sym same) ∙ front_skip (is_lost new.marks) e es r xs some is d in
    record {
      there = omega (arith, ap length is);
      marks = same ∙ before.marks;
      rest = sym (drop_next e es r xs some is) ∙ before.rest;
      kept = rw (c.push_back-then-due-ne0.ensures, append_assoc) (ap (λ (z : List Entry). c.loop-left.entries ++ z) (sym k_next) ∙ before.kept);
      lost = ap (λ (z : List Entry). c.loop-left.lost ++ z) (sym l_next) ∙ before.lost;
      counted = rw c.count_entry.ensures (further c.args.plan.now e (kept_of new.marks (r - 1) es) _ c.loop-left.accounts c.args.accounts.now c.list.result c.due-due.result
          (kept_of c.loop-left.queue.marks r xs) c.list.ensures c.due-due.ensures k_next before.counted).1;
    }

pub loop-left-preserved : goal.loop-left-preserved
loop-left-preserved c =
    let e = c.in-Some.node in
    let new = c.pop_front.new.self in
    let es = new.entries in
    let xs = c.loop-left.queue.entries in
    let r = c.loop-left.left in
    let before = c.loop-left.invariant in
    let some : 0 < r = c.loop-left-test.true in
    let is : xs ≡ e ∷ es = c.in-Some.ensures.some in
    let same : new.marks ≡ c.loop-left.queue.marks = c.in-Some.ensures.marks in
    let d : is_lost new.marks e (length es) ≡ false = sym c.loses.ensures ∙ c.if-loses.false in
    let idle : not (e.due == 0) ≡ false = nothing_due e.due (sym c.due-due.ensures ∙ c.if-due-ne0.false) in
    let k : is_kept new.marks e (length es) ≡ false = finished_if_idle new.marks e (length es) d idle in
    let k_next : kept_of c.loop-left.queue.marks r xs ≡ kept_of new.marks (r - 1) es =
    ap (λ (m : Marks). kept_of m r xs) (sym same) ∙ front_skip (is_kept new.marks) e es r xs some is k in
    let l_next : lost_of c.loop-left.queue.marks r xs ≡ lost_of new.marks (r - 1) es =
    ap (λ (m : Marks). lost_of m r xs) (sym same) ∙ front_skip (is_lost new.marks) e es r xs some is d in
    record {
      there = omega (arith, ap length is);
      marks = same ∙ before.marks;
      rest = sym (drop_next e es r xs some is) ∙ before.rest;
      kept = ap (λ (z : List Entry). c.loop-left.entries ++ z) (sym k_next) ∙ before.kept;
      lost = ap (λ (z : List Entry). c.loop-left.lost ++ z) (sym l_next) ∙ before.lost;
      counted = subst (λ zs. Follows c.args.plan.now zs c.loop-left.accounts (kept_of c.args.queue.now.marks c.args.count c.args.queue.now.entries) c.args.accounts.now) k_next before.counted;
    }

pub returns-clause-accounts : goal.returns-clause-accounts
returns-clause-accounts c =
    let none : c.loop-left.left ≡ 0 = omega arith in
    let same = rw none at c.loop-left.invariant.counted.same in
    sym (all_followed c.args.plan.now c.loop-left.accounts) ∙ same
