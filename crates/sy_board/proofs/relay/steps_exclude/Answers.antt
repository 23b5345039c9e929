use Rattle.sy_board.proofs.relay.Excluded.{enter_or_expire, fail_or_give_up, held_enters, held_expires, held_loses, held_posts, post_or_lose}
use Rattle.sy_board.proofs.relay.steps_exclude.Goals as goal

pub returns-clause-hand : goal.returns-clause-hand
returns-clause-hand c = enter_or_expire

pub returns-clause-failure : goal.returns-clause-failure
returns-clause-failure c = fail_or_give_up

pub returns-clause-post : goal.returns-clause-post
returns-clause-post c = post_or_lose

pub returns-clause-held_enters : goal.returns-clause-held_enters
returns-clause-held_enters c = held_enters

pub returns-clause-held_expires : goal.returns-clause-held_expires
returns-clause-held_expires c = held_expires

pub returns-clause-held_posts : goal.returns-clause-held_posts
returns-clause-held_posts c = held_posts

pub returns-clause-held_loses : goal.returns-clause-held_loses
returns-clause-held_loses c = held_loses

pub returns-clause-grab : goal.returns-clause-grab
returns-clause-grab c = λ plan old worker lost new grabs. grabs.some
