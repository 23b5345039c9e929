-- What each step makes of an account, by its numbers.
use Rattle.std.specs.Prelude.{◌≡◌, ℕ, ◌+◌, ◌-◌, ◌<◌, ◌≤◌, ◌^◌, ◌==◌, Bool, if◌then◌else◌, not, List, Option, None, Some, replicate}
use Rattle.sy_chain.specs.Entries.{Entry}
use Rattle.sy_rules.specs.PlanValue.{Plan}
use Rattle.sy_board.specs.declared.fault.BoardFault.{BoardFault}
use Rattle.sy_board.specs.declared.fault.BoardFault.TheVariants as fault
use Rattle.sy_board.specs.relay.Boards.{Account, Fits}
use Rattle.sy_board.specs.relay.Plans.{occurrences_at}
use Rattle.sy_board.specs.relay.Totals.{GuardState, is_guarded, counts_at, due_for, due_of, is_post, is_run_of, no_counts, with_done, with_due, with_given_up}

abbrev pub one_if : Bool → ℕ
one_if so = if so then 1 else 0

-- before the first step
abbrev pub nothing : ℕ → Account
nothing actions = record {
  totals = record {
    taken = 0;
    lost_in = 0;
    posted = 0;
    lost_post = 0;
    grabbed = 0;
    lost_out = 0;
    posts_due = 0;
    guarded_lost = 0;
    actions = replicate actions no_counts;
  };
  held_in_hands = 0;
  held_in_queues = 0;
}

abbrev pub after_take : Bool → Bool → Account → Account
after_take lost guarded a = record {
  totals = record a.totals {
    taken = a.totals.taken + 1;
    lost_in = a.totals.lost_in + one_if lost;
    guarded_lost = a.totals.guarded_lost + one_if guarded;
  };
  held_in_hands = a.held_in_hands + one_if (not lost);
  held_in_queues = a.held_in_queues;
}

abbrev pub after_enter : Account → Account
after_enter a = record a { held_in_hands = a.held_in_hands - 1; held_in_queues = a.held_in_queues + 1 }

abbrev pub after_expire : Bool → Account → Account
after_expire guarded a = record {
  totals = record a.totals { lost_in = a.totals.lost_in + 1; guarded_lost = a.totals.guarded_lost + one_if guarded };
  held_in_hands = a.held_in_hands - 1;
  held_in_queues = a.held_in_queues;
}

-- so many entries left a queue, and so many of them were lost, of which so many are guarded
abbrev pub after_grab : ℕ → ℕ → ℕ → Account → Account
after_grab count lost guarded a = record {
  totals = record a.totals {
    grabbed = a.totals.grabbed + count;
    lost_out = a.totals.lost_out + lost;
    guarded_lost = a.totals.guarded_lost + guarded;
  };
  held_in_hands = a.held_in_hands;
  held_in_queues = a.held_in_queues - count;
}

-- what entries have due became due
abbrev pub became_due : Plan → List Entry → Account → Account
became_due plan entries a = record a {
  totals = record a.totals {
    posts_due = a.totals.posts_due + due_for plan is_post entries;
    actions = with_due (λ action. due_for plan (is_run_of action) entries) 0 a.totals.actions;
  };
}

-- what an entry of this list has due
abbrev pub entry_due : Plan → ℕ → ℕ → Account → Account
entry_due plan list due a = record a {
  totals = record a.totals {
    posts_due = a.totals.posts_due + due_of is_post (occurrences_at plan list) due 0;
    actions = with_due (λ action. due_of (is_run_of action) (occurrences_at plan list) due 0) 0 a.totals.actions;
  };
}

-- one run of an action became due
abbrev pub one_run_due : ℕ → Account → Account
one_run_due action a =
    record a { totals = record a.totals { actions = with_due (λ other. one_if (action == other)) 0 a.totals.actions } }

pub record HasRoomForOne (plan : Plan) (list due : ℕ) (a : Account) : Type 0 where
  pub posts : a.totals.posts_due + due_of is_post (occurrences_at plan list) due 0 < a.totals.posted + a.totals.lost_post + 2 ^ 64
  pub runs : (action : ℕ)
      → (counts_at a.totals.actions action).due + due_of (is_run_of action) (occurrences_at plan list) due 0
      < (counts_at a.totals.actions action).done + (counts_at a.totals.actions action).given_up + 2 ^ 64

-- what workers would have left then is below 2^64, for posts and for the runs of each action
pub record HasRoomFor (plan : Plan) (entries : List Entry) (a : Account) : Type 0 where
  pub posts : a.totals.posts_due + due_for plan is_post entries < a.totals.posted + a.totals.lost_post + 2 ^ 64
  pub runs : (action : ℕ)
      → (counts_at a.totals.actions action).due + due_for plan (is_run_of action) entries
      < (counts_at a.totals.actions action).done + (counts_at a.totals.actions action).given_up + 2 ^ 64

-- a run of the action is left to a worker
abbrev pub HasRunLeft : ℕ → Account → Type 0
HasRunLeft action a =
    (counts_at a.totals.actions action).done + (counts_at a.totals.actions action).given_up < (counts_at a.totals.actions action).due

-- and a post is
abbrev pub HasPostLeft : Account → Type 0
HasPostLeft a = a.totals.posted + a.totals.lost_post < a.totals.posts_due

abbrev pub after_done : ℕ → Account → Account
after_done action a = record a { totals = record a.totals { actions = with_done action a.totals.actions } }

abbrev pub after_give_up : ℕ → Bool → Account → Account
after_give_up action guarded a = record a {
  totals = record a.totals {
    guarded_lost = a.totals.guarded_lost + one_if guarded;
    actions = with_given_up action a.totals.actions;
  };
}

abbrev pub after_post : Account → Account
after_post a = record a { totals = record a.totals { posted = a.totals.posted + 1 }; held_in_queues = a.held_in_queues + 1 }

abbrev pub after_lost_post : Bool → Account → Account
after_lost_post guarded a = record a {
  totals = record a.totals { lost_post = a.totals.lost_post + 1; guarded_lost = a.totals.guarded_lost + one_if guarded };
}

-- why an entry can't be brought into a queue: it can't be counted there
abbrev pub BringFails : BoardFault → Account → Type 0
BringFails fault.TotalsFull a = 2 ^ 64 ≤ a.held_in_queues + 1
BringFails _ a = ⊥

-- why a hand's entry can't be lost: there is none, or the loss can't be counted
abbrev pub LoseFails : BoardFault → Option Entry → Plan → GuardState → Account → Type 0
LoseFails fault.HandEmpty hand plan guard a = hand ≡ None
LoseFails fault.TotalsFull hand plan guard a =
    (node : Entry) × (hand ≡ Some node) × (Fits (after_expire (is_guarded plan guard node) a) → ⊥)
LoseFails _ hand plan guard a = ⊥
