use Rattle.sy_unread.proofs.Lengths.{head_within}
use Rattle.sy_unread.proofs.record.head.Goals as goal

pub returns-clause-within : goal.returns-clause-within
returns-clause-within c =
    let is = rw c.new-text.ensures.items at c.in_ok-append_head.ensures.value in
    rw is (head_within c.args.about.now c.args.part.now c.in_ok-append_head.ensures.in_range c.requires)
