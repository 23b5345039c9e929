use Rattle.std.proofs.lemmas.List.Elements.{Contains-get_or}
use Rattle.sy_checker.specs.internal.Survey.{AreHeld}
use Rattle.sy_checker.proofs.Reporting.{all_reported, more_reported}
use Rattle.sy_checker.proofs.kinds.reported.push_inputs.Goals as goal

pub push_input-requires : goal.push_input-requires
push_input-requires c =
    let there = Contains-get_or c.args.inputs.now c.loop-input.input-index _ c.loop-input-test.true in
    record {
      protected = c.requires.protected;
      flows = c.requires.flows;
      there = c.requires.there _ there;
      reached = c.requires.reached _ there;
    }

pub loop-input-preserved : goal.loop-input-preserved
loop-input-preserved c =
    more_reported c.args.site.now c.args.class (λ input. AreHeld c.args.site.now c.args.class input) c.args.inputs.now c.loop-input.input-index
    _ c.args.found.now.groups.items c.loop-input.found.groups.items c.push_input.new.found.groups.items c.loop-input-test.true
    c.loop-input.invariant c.in_ok-push_input.ensures

pub returns : goal.returns
returns c =
    all_reported c.args.site.now c.args.class (λ input. AreHeld c.args.site.now c.args.class input) c.args.inputs.now c.loop-input.input-index
    c.args.found.now.groups.items c.loop-input.found.groups.items c.loop-input-test.false c.loop-input.invariant
