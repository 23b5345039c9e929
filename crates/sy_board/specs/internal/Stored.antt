-- What the code stores of an account.
use Rattle.std.specs.Prelude.{◌+◌, map}
use Rattle.sy_board.specs.declared.relay.accounts.Accounts.TheInside.{Inside}
use Rattle.sy_board.specs.relay.Boards.{Account, counts_of}

abbrev pub account_inside : Inside → Account
account_inside a = record {
  totals = record {
    taken = a.taken;
    lost_in = a.lost_in;
    posted = a.posted;
    lost_post = a.lost_post;
    grabbed = a.grabbed;
    lost_out = a.lost_out;
    posts_due = a.posted + a.lost_post + a.posts_left;
    guarded_lost = a.guarded_lost;
    actions = map counts_of a.actions.items;
  };
  held_in_hands = a.in_hands;
  held_in_queues = a.in_queues;
}
