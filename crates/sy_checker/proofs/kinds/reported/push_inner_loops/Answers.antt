use Rattle.std.proofs.lemmas.List.Elements.{Contains-get_or}
use Rattle.sy_site.specs.declared.finding.Kind.TheVariants as kind
use Rattle.sy_checker.specs.internal.Survey.{IsHeld}
use Rattle.sy_checker.proofs.Reporting.{all_reported, more_reported}
use Rattle.sy_checker.proofs.kinds.reported.push_inner_loops.Goals as goal

pub push_kind-requires : goal.push_kind-requires
push_kind-requires c =
    let there = Contains-get_or c.args.inputs.now c.loop-input.input-index _ c.loop-input-test.true in
    record {
      protected = c.requires.protected;
      flows = c.requires.flows;
      there = c.requires.there _ there;
      reached = c.requires.reached _ there;
    }

pub loop-input-preserved : goal.loop-input-preserved
loop-input-preserved c =
    more_reported c.args.site.now c.args.class (λ input. IsHeld c.args.site.now c.args.class input kind.InnerLoop) c.args.inputs.now c.loop-input.input-index
    _ c.args.found.now.groups.items c.loop-input.found.groups.items c.push_kind.new.found.groups.items c.loop-input-test.true
    c.loop-input.invariant c.in_ok-push_kind.ensures

pub returns : goal.returns
returns c =
    all_reported c.args.site.now c.args.class (λ input. IsHeld c.args.site.now c.args.class input kind.InnerLoop) c.args.inputs.now c.loop-input.input-index
    c.args.found.now.groups.items c.loop-input.found.groups.items c.loop-input-test.false c.loop-input.invariant
