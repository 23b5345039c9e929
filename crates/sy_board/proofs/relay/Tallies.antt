-- What counting does to the counts of actions, as the code stores them.
use Rattle.std.proofs.Common.{◌≡◌, ℕ, ◌+◌, ◌-◌, ◌<◌, ◌≤◌, ◌^◌, ◌==◌, Bool, List, [], ◌∷◌, length, map, refl, sym, ap, ◌∙◌, arith, get_or, set, inl, inr, Result, Ok, Err, Some, None}
use Rattle.std.specs.Prelude.{◌≢◌, OnErr, slice_get}
use Rattle.std.proofs.lemmas.List.{get_or-map, map-set, length-map, get_or_past, get_or-set_same, set_past}
use Rattle.std.proofs.lemmas.List.Elements.{All-get_or}
use Rattle.sy_board.proofs.relay.SetCells.{set_length}
use Rattle.std.proofs.lemmas.Bool.{cases_lt, eq-eqb, ne_eqb}
use Rattle.sy_board.specs.declared.relay.accounts.ActionCounts.{ActionCounts}
use Rattle.sy_board.specs.relay.Boards.{Account, Fits, Is64}
use Rattle.sy_board.specs.relay.Totals.{Counts, counts_at, due_for, due_of, is_post, is_run_of, no_counts, with_done, with_due, with_given_up}
use Rattle.sy_board.specs.internal.Counting.{HasRoomFor, HasRoomForOne, after_done, after_give_up, became_due, entry_due, one_if, one_run_due}
use Rattle.sy_chain.specs.Entries.{Entry}
use Rattle.sy_rules.specs.PlanValue.{Plan}
use Rattle.sy_rules.specs.lists.Sets.{IsLowest}
use Rattle.sy_rules.specs.declared.lists.occurrence.Occurrence.{Occurrence}
use Rattle.sy_rules.specs.declared.lists.occurrence.Occurrence.TheVariants as occurrence
use Rattle.sy_board.specs.relay.Plans.{occurrences_at}
use Rattle.sy_board.proofs.relay.AccountLaws.{due_less, due_none}
use Rattle.sy_board.proofs.relay.DueBits.{due_beyond}
use Rattle.sy_board.specs.relay.Boards.{counts_of}

abbrev pub with_actions : List Counts → Account → Account
with_actions counts a = record a { totals = record a.totals { actions = counts } }

-- what holds anyway, holds at an error
pub at_error : {T E : Type 0} (r : Result T E) (P : Type 0) → P → OnErr r P
at_error (Ok x) P p = tt
at_error (Err e) P p = p

-- ---- one action's counts, as they are stored

-- what is read at a place
pub counts_read : (xs : List ActionCounts) (k : ℕ) (x : ActionCounts) → k < length xs → x ≡ get_or xs k x → counts_at (map counts_of xs) k ≡ counts_of x
counts_read xs k x l e = get_or-map counts_of xs k x no_counts l ∙ ap counts_of (sym e)

-- what is written there
pub counts_written : (xs : List ActionCounts) (k : ℕ) (y : ActionCounts) (z : Counts) → counts_of y ≡ z → map counts_of (set xs k y) ≡ set (map counts_of xs) k z
counts_written xs k y z e = map-set counts_of xs k y ∙ ap (set (map counts_of xs) k) e

-- an action with a run left has counts
pub run_there : (xs : List ActionCounts) (k : ℕ) → (counts_at (map counts_of xs) k).done + (counts_at (map counts_of xs) k).given_up < (counts_at (map counts_of xs) k).due → k < length xs
run_there xs k some = elim (cases_lt k (length xs)) [ inl there ↦ there | inr past ↦ absurd (nothing past) ]
  where
    nothing : length xs ≤ k → ⊥
    nothing past =
        let none : counts_at (map counts_of xs) k ≡ no_counts = get_or_past (map counts_of xs) k no_counts (rw length-map past) in
        let z = rw none at some in
        omega arith

-- a run is done
pub done_written : (xs : List ActionCounts) (k : ℕ) (x : ActionCounts) (done : ℕ) → x ≡ get_or xs k x
    → (counts_at (map counts_of xs) k).done + (counts_at (map counts_of xs) k).given_up < (counts_at (map counts_of xs) k).due → done ≡ x.done + 1
    → map counts_of (set xs k (record { done = done; given_up = x.given_up; left = x.left - 1 })) ≡ with_done k (map counts_of xs)
done_written xs k x done e some more =
    let r = counts_read xs k x (run_there xs k some) e in
    let left = rw r at some in
    let due : done + x.given_up + (x.left - 1) ≡ x.done + x.given_up + x.left = omega arith in
    counts_written xs k (record { done = done; given_up = x.given_up; left = x.left - 1 }) (record (counts_at (map counts_of xs) k) { done = (counts_at (map counts_of xs) k).done + 1 }) (rw (r, due, more) refl)

-- a run is given up
pub given_up_written : (xs : List ActionCounts) (k : ℕ) (x : ActionCounts) (given_up : ℕ) → x ≡ get_or xs k x
    → (counts_at (map counts_of xs) k).done + (counts_at (map counts_of xs) k).given_up < (counts_at (map counts_of xs) k).due → given_up ≡ x.given_up + 1
    → map counts_of (set xs k (record { done = x.done; given_up = given_up; left = x.left - 1 })) ≡ with_given_up k (map counts_of xs)
given_up_written xs k x given_up e some more =
    let r = counts_read xs k x (run_there xs k some) e in
    let left = rw r at some in
    let due : x.done + given_up + (x.left - 1) ≡ x.done + x.given_up + x.left = omega arith in
    counts_written xs k (record { done = x.done; given_up = given_up; left = x.left - 1 }) (record (counts_at (map counts_of xs) k) { given_up = (counts_at (map counts_of xs) k).given_up + 1 }) (rw (r, due, more) refl)

-- one run more is left
pub left_written : (xs : List ActionCounts) (k : ℕ) (x : ActionCounts) → k < length xs → x ≡ get_or xs k x
    → map counts_of (set xs k (record { done = x.done; given_up = x.given_up; left = x.left + 1 })) ≡ set (map counts_of xs) k (record (counts_at (map counts_of xs) k) { due = (counts_at (map counts_of xs) k).due + 1 })
left_written xs k x l e =
    let r = counts_read xs k x l e in
    let due : x.done + x.given_up + (x.left + 1) ≡ x.done + x.given_up + x.left + 1 = omega arith in
    counts_written xs k (record { done = x.done; given_up = x.given_up; left = x.left + 1 }) (record (counts_at (map counts_of xs) k) { due = (counts_at (map counts_of xs) k).due + 1 }) (rw (r, due) refl)

-- ---- a number of an action is full

pub done_full : (a : Account) (k : ℕ) → k < length a.totals.actions → 2 ^ 64 ≤ (counts_at a.totals.actions k).done + 1 → Fits (after_done k a) → ⊥
done_full a k l full fits =
    let within : k < length (with_done k a.totals.actions) = rw set_length l in
    let one = All-get_or (λ (c : Counts). Is64 c.done × Is64 c.given_up) (with_done k a.totals.actions) k no_counts within fits.actions in
    let at_k = rw (get_or-set_same a.totals.actions k (record (counts_at a.totals.actions k) { done = (counts_at a.totals.actions k).done + 1 }) no_counts l) at one.0 in
    omega arith

pub given_up_full : (a : Account) (k : ℕ) (guarded : Bool) → k < length a.totals.actions → 2 ^ 64 ≤ (counts_at a.totals.actions k).given_up + 1 → Fits (after_give_up k guarded a) → ⊥
given_up_full a k guarded l full fits =
    let within : k < length (with_given_up k a.totals.actions) = rw set_length l in
    let one = All-get_or (λ (c : Counts). Is64 c.done × Is64 c.given_up) (with_given_up k a.totals.actions) k no_counts within fits.actions in
    let at_k = rw (get_or-set_same a.totals.actions k (record (counts_at a.totals.actions k) { given_up = (counts_at a.totals.actions k).given_up + 1 }) no_counts l) at one.1 in
    omega arith

-- ---- more runs due

pub due_nothing : (more : ℕ → ℕ) (k : ℕ) (cs : List Counts) → ((j : ℕ) → k ≤ j → more j ≡ 0) → with_due more k cs ≡ cs
due_nothing more k [] none = refl
due_nothing more k (c ∷ cs) none =
    let here : c.due + more k ≡ c.due = let z = none k (omega arith) in omega (arith, z) in
    let rest : with_due more (ℕ.suc k) cs ≡ cs = due_nothing more (ℕ.suc k) cs (λ j l. none j (omega arith)) in
    rw (here, rest) refl

pub due_same_more : (f g : ℕ → ℕ) (k : ℕ) (cs : List Counts) → ((j : ℕ) → f j ≡ g j) → with_due f k cs ≡ with_due g k cs
due_same_more f g k [] same = refl
due_same_more f g k (c ∷ cs) same = rw (same k, due_same_more f g (ℕ.suc k) cs same) refl

pub due_twice : (f g : ℕ → ℕ) (k : ℕ) (cs : List Counts) → with_due g k (with_due f k cs) ≡ with_due (λ a. f a + g a) k cs
due_twice f g k [] = refl
due_twice f g k (c ∷ cs) =
    let here : c.due + f k + g k ≡ c.due + (f k + g k) = omega arith in
    rw (here, due_twice f g (ℕ.suc k) cs) refl

pub due_one : (more : ℕ → ℕ) (k a b : ℕ) (cs : List Counts) → k + a ≡ b → more b ≡ 1 → ((j : ℕ) → j ≢ b → more j ≡ 0)
    → with_due more k cs ≡ set cs a (record (counts_at cs a) { due = (counts_at cs a).due + 1 })
due_one more k a b [] e one none = refl
due_one more k ℕ.zero b (c ∷ cs) e one none =
    let is : k ≡ b = omega arith in
    let here : more k ≡ 1 = rw is one in
    let rest : with_due more (ℕ.suc k) cs ≡ cs = due_nothing more (ℕ.suc k) cs (λ j l. none j (omega arith)) in
    rw (here, rest) refl
due_one more k (ℕ.suc a) b (c ∷ cs) e one none =
    let here : c.due + more k ≡ c.due = let z = none k (omega arith) in omega (arith, z) in
    let rest = due_one more (ℕ.suc k) a b cs (omega arith) one none in
    rw (here, rest) refl

-- one run of an action, which need not be there
pub run_due : (action : ℕ) (cs : List Counts) → with_due (λ other. one_if (action == other)) 0 cs ≡ set cs action (record (counts_at cs action) { due = (counts_at cs action).due + 1 })
run_due action cs = due_one (λ other. one_if (action == other)) 0 action action cs (omega arith)
    (ap one_if (eq-eqb action action refl)) (λ j n. ap one_if (ne_eqb action j (λ e. n (sym e))))

pub no_run_due : (xs : List ActionCounts) (action : ℕ) → length xs ≤ action → map counts_of xs ≡ with_due (λ other. one_if (action == other)) 0 (map counts_of xs)
no_run_due xs action past =
    sym (run_due action (map counts_of xs) ∙ set_past (map counts_of xs) action _ (rw length-map past))

-- the counts of one action after more are due
with_due_counts : (more : ℕ → ℕ) (k a b : ℕ) (cs : List Counts) → k + a ≡ b
    → ((counts_at (with_due more k cs) a).due ≤ (counts_at cs a).due + more b)
    × ((counts_at (with_due more k cs) a).done ≡ (counts_at cs a).done) × ((counts_at (with_due more k cs) a).given_up ≡ (counts_at cs a).given_up)
with_due_counts more k a b [] e = (omega arith, refl, refl)
with_due_counts more k ℕ.zero b (c ∷ cs) e = let is : k ≡ b = omega arith in (rw is (omega arith), refl, refl)
with_due_counts more k (ℕ.suc a) b (c ∷ cs) e = with_due_counts more (ℕ.suc k) a b cs (omega arith)

-- ---- what an entry has due, one by one

-- one post became due
abbrev pub one_post_due : Account → Account
one_post_due a = record a { totals = record a.totals { posts_due = a.totals.posts_due + 1 } }

-- What is left of an entry's due set is counted as well, and there is room for it.
pub record Comes (plan : Plan) (list left : ℕ) (now : Account) (due : ℕ) (old : Account) : Type 0 where
  pub room : HasRoomForOne plan list left now
  pub same : entry_due plan list left now ≡ entry_due plan list due old

same_account : (a : Account) (posts more : ℕ) (cs ds : List Counts) → posts ≡ more → cs ≡ ds
    → record a { totals = record a.totals { posts_due = posts; actions = cs } } ≡ record a { totals = record a.totals { posts_due = more; actions = ds } }
same_account a posts more cs ds e f = rw (e, f) refl

module _ (plan : Plan) (list due left number : ℕ) (first : IsLowest due number left) (a : Account) (room : HasRoomForOne plan list due a) where
  abbrev os : List Occurrence
  os = occurrences_at plan list

  pub run_counted : (action : ℕ) → slice_get os number ≡ Some (occurrence.Run action) → Comes plan list left (one_run_due action a) due a
  run_counted action is =
      let less = λ (f : Occurrence → Bool). due_less f os due left number number 0 (occurrence.Run action) (omega arith) is first in
      let posts : due_of is_post os due 0 ≡ due_of is_post os left 0 = let z = less is_post in omega (arith, z) in
      record {
        room = record {
          posts = let z = room.posts in omega (arith, z, posts);
          runs = λ b.
              let z = room.runs b in
              let y = less (is_run_of b) in
              let x = with_due_counts (λ other. one_if (action == other)) 0 b b a.totals.actions (omega arith) in
              let x0 = x.0 in let x1 = x.1 in let x2 = x.2 in
              omega (arith, x0, x1, x2, y, z);
        };
        same = same_account a _ _ _ _ (ap (λ n. a.totals.posts_due + n) (sym posts))
            (due_twice (λ b. one_if (action == b)) (λ b. due_of (is_run_of b) os left 0) 0 a.totals.actions
            ∙ due_same_more _ (λ b. due_of (is_run_of b) os due 0) 0 a.totals.actions (λ b. sym (less (is_run_of b))));
      }

  pub post_counted : (to : ℕ) → slice_get os number ≡ Some (occurrence.Post to) → Comes plan list left (one_post_due a) due a
  post_counted to is =
      let less = λ (f : Occurrence → Bool). due_less f os due left number number 0 (occurrence.Post to) (omega arith) is first in
      record {
        room = record {
          posts = let z = room.posts in let y = less is_post in omega (arith, z, y);
          runs = λ b. let z = room.runs b in let y = less (is_run_of b) in omega (arith, y, z);
        };
        same = same_account a _ _ _ _ (let y = less is_post in omega (arith, y))
            (due_same_more (λ b. due_of (is_run_of b) os left 0) (λ b. due_of (is_run_of b) os due 0) 0 a.totals.actions (λ b. let y = less (is_run_of b) in omega (arith, y)));
      }

  -- one more fits
  pub room_for_run : (action : ℕ) → slice_get os number ≡ Some (occurrence.Run action)
      → (counts_at a.totals.actions action).due + 1 < (counts_at a.totals.actions action).done + (counts_at a.totals.actions action).given_up + 2 ^ 64
  room_for_run action is =
      let one = due_less (is_run_of action) os due left number number 0 (occurrence.Run action) (omega arith) is first in
      let here = rw (eq-eqb action action refl) at one in
      let z = room.runs action in
      omega (arith, here, z)

  pub room_for_post : (to : ℕ) → slice_get os number ≡ Some (occurrence.Post to) → a.totals.posts_due + 1 < a.totals.posted + a.totals.lost_post + 2 ^ 64
  room_for_post to is =
      let one = due_less is_post os due left number number 0 (occurrence.Post to) (omega arith) is first in
      let z = room.posts in
      omega (arith, one, z)

  pub none_counted : slice_get os number ≡ None → Comes plan list left a due a
  none_counted is =
      let same = λ (f : Occurrence → Bool). due_beyond f os due left number is first in
      record {
        room = record {
          posts = let z = room.posts in let y = same is_post in omega (arith, z, y);
          runs = λ b. let z = room.runs b in let y = same (is_run_of b) in omega (arith, y, z);
        };
        same = same_account a _ _ _ _ (ap (λ n. a.totals.posts_due + n) (same is_post))
            (due_same_more (λ b. due_of (is_run_of b) os left 0) (λ b. due_of (is_run_of b) os due 0) 0 a.totals.actions (λ b. same (is_run_of b)));
      }

-- nothing is left
pub all_counted : (plan : Plan) (list : ℕ) (a : Account) → entry_due plan list 0 a ≡ a
all_counted plan list a = same_account a _ _ _ _ (let z = due_none is_post (occurrences_at plan list) 0 in omega (arith, z))
    (due_nothing (λ b. due_of (is_run_of b) (occurrences_at plan list) 0 0) 0 a.totals.actions (λ b l. due_none (is_run_of b) (occurrences_at plan list) 0))

-- ---- what entries have due, one by one

-- What the entries from here on have due is counted as well, and there is room for it.
pub record Follows (plan : Plan) (rest : List Entry) (now : Account) (all : List Entry) (old : Account) : Type 0 where
  pub room : HasRoomFor plan rest now
  pub same : became_due plan rest now ≡ became_due plan all old

module _ (plan : Plan) (e : Entry) (rest : List Entry) (a : Account) (room : HasRoomFor plan (e ∷ rest) a) where
  pub room_for_first : HasRoomForOne plan e.list e.due a
  room_for_first = record {
    posts = let z = room.posts in omega (arith, z);
    runs = λ b. let z = room.runs b in omega (arith, z);
  }

  pub first_counted : Follows plan rest (entry_due plan e.list e.due a) (e ∷ rest) a
  first_counted = record {
    room = record {
      posts = let z = room.posts in omega (arith, z);
      runs = λ b.
          let z = room.runs b in
          let x = with_due_counts (λ action. due_of (is_run_of action) (occurrences_at plan e.list) e.due 0) 0 b b a.totals.actions (omega arith) in
          let x0 = x.0 in let x1 = x.1 in let x2 = x.2 in
          omega (arith, x0, x1, x2, z);
    };
    same = same_account a _ _ _ _ (omega arith)
        (due_twice (λ action. due_of (is_run_of action) (occurrences_at plan e.list) e.due 0) (λ action. due_for plan (is_run_of action) rest) 0 a.totals.actions);
  }

-- none is left
pub all_followed : (plan : Plan) (a : Account) → became_due plan [] a ≡ a
all_followed plan a = same_account a _ _ _ _ (omega arith) (due_nothing (λ action. 0) 0 a.totals.actions (λ b l. refl))
