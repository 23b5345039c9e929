use Rattle.std.proofs.Common.{rules}
use Rattle.sy_runtime.proofs.Counted.{none_alike, both_alike}
use Rattle.sy_runtime.proofs.Inserts.{first_insert, next_insert, insert_last}
use Rattle.sy_runtime.proofs.connection.taking.insert_some.Goals as goal

pub loop-item-init : goal.loop-item-init
loop-item-init c = record {
  there = search rules;
  kept = λ read left reported h. h;
  taken = search rules;
  counted = none_alike _ _;
  plan = search rules;
  free = search rules;
  inserted = first_insert _ _ _ _ (search rules);
}

pub loop-item-preserved : goal.loop-item-preserved
loop-item-preserved c = record {
  there = search rules;
  kept = λ read left reported h. c.in-Ok-insert_one.ensures.kept read left reported c.pop_front.new.self.items (search rules);
  taken = search rules;
  counted = both_alike _ _ _ _ _ _ c.loop-item.invariant.counted c.in-Ok-insert_one.ensures.counted;
  plan = search rules;
  free = search rules;
  inserted = next_insert _ _ _ _ _ _ _ _ (search rules) c.loop-item.invariant.inserted c.in-Ok-insert_one.ensures.inserted;
}

pub returns-in-Err-insert_one-clause-inserted : goal.returns-in-Err-insert_one-clause-inserted
returns-in-Err-insert_one-clause-inserted c =
    insert_last _ _ _ _ _ _ _ _ _ _ _ (search rules) c.push_front_if_any-in-Err-insert_one.ensures c.loop-item.invariant.inserted c.in-Err-insert_one.ensures.inserted
