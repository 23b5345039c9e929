use Rattle.std.proofs.lemmas.List.Elements.{Contains-get_or}
use Rattle.sy_flows.proofs.FoundInputs.{one_more}
use Rattle.sy_flows.proofs.reach.add_all.Goals as goal

pub loop-input-preserved : goal.loop-input-preserved
loop-input-preserved c = (
  one_more c.args.start.now c.loop-input.input-index (record { relay = 0; input = 0 }) c.args.found.now.inputs.items c.loop-input.found.inputs.items
      c.add.new.found.inputs.items c.loop-input-test.true c.loop-input.invariant.0 c.in_ok-add.ensures.inputs,
  λ site class which rooted. c.in_ok-add.ensures.roots site class which c.args.start.now
      (Contains-get_or c.args.start.now c.loop-input.input-index (record { relay = 0; input = 0 }) c.loop-input-test.true)
      (c.loop-input.invariant.1 site class which rooted),
  c.in_ok-add.ensures.marked,
)
