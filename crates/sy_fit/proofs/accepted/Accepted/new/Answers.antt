use Rattle.std.proofs.Common.{◌∙◌, map}
use Rattle.std.specs.Arc.{arc_value}
use Rattle.sy_fit.proofs.Guarded.{guardable, reached_guarded}
use Rattle.sy_fit.proofs.accepted.Accepted.new.Goals as goal

pub returns : goal.returns
returns c = record {
  plans = c.in_ok-plans.ensures;
  classes = c.requires.protected;
  pairs = reached_guarded c.args.site.now c.args.classes.items c.args.pairs.items c.requires.protected c.requires.pairs;
  spares = c.in_ok-spares.ensures ∙ c.spares.ensures;
}

pub invariant_of-result : goal.invariant_of-result
invariant_of-result c =
    guardable c.args.site.now (record { plans = map arc_value c.in_ok-plans.plans.items; classes = c.args.classes.items; pairs = c.args.pairs.items; spares = c.in_ok-spares.spares.items })
    (record {
      plans = c.in_ok-plans.ensures;
      classes = c.requires.protected;
      pairs = reached_guarded c.args.site.now c.args.classes.items c.args.pairs.items c.requires.protected c.requires.pairs;
      spares = c.in_ok-spares.ensures ∙ c.spares.ensures;
    }) (c.sound_sites_have_guards.ensures c.args.site.now c.requires.sound)
