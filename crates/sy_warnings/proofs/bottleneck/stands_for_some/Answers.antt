use Rattle.std.proofs.Common.{subst, sym}
use Rattle.std.specs.Prelude.{Contains}
use Rattle.std.proofs.lemmas.List.Elements.{Contains-get_or}
use Rattle.sy_wire.specs.declared.class.Class.{Class}
use Rattle.sy_warnings.specs.declared.coming.ClassLists.{ClassLists}
use Rattle.sy_warnings.specs.declared.following.Following.TheVariants as following
use Rattle.sy_warnings.specs.internal.Holding.{StandsIn}
use Rattle.sy_warnings.proofs.Execution.{no_class_all, no_class_first, no_class_more, no_so, refuted, yes_so}
use Rattle.sy_warnings.proofs.bottleneck.stands_for_some.Goals as goal

pub loop-lists-init : goal.loop-lists-init
loop-lists-init c = no_class_first (λ (class : Class). StandsIn c.args.site.now class c.args.at c.args.action) c.args.firm.now

pub loop-lists-preserved : goal.loop-lists-preserved
loop-lists-preserved c =
    no_class_more (λ (class : Class). StandsIn c.args.site.now class c.args.at c.args.action) c.args.firm.now c.loop-lists.lists-index
    c.lists-item.result c.loop-lists-test.true c.loop-lists.invariant
    (subst (λ (l : ClassLists). StandsIn c.args.site.now l.class c.args.at c.args.action → ⊥) c.lists-item.is
    (refuted c.stands_in.result (StandsIn c.args.site.now c.lists-item.result.class c.args.at c.args.action) c.stands_in.ensures
    c.if-stands_in.false))

pub returns-then-stands_in : goal.returns-then-stands_in
returns-then-stands_in c = yes_so (record {
  class = c.lists-item.result.class;
  protected = (c.requires.firm.each c.lists-item.result
      (subst (Contains c.args.firm.now) (sym c.lists-item.is)
      (Contains-get_or c.args.firm.now c.loop-lists.lists-index c.lists-item.result c.loop-lists-test.true))).asked;
  stands = c.stands_in.ensures.0 c.if-stands_in.true;
})

pub returns : goal.returns
returns c = no_so (λ it. no_class_all (λ (class : Class). StandsIn c.args.site.now class c.args.at c.args.action) c.args.firm.now c.args.site.now
    following.Firm c.requires.firm c.loop-lists.lists-index c.loop-lists-test.false c.loop-lists.invariant it.class it.protected it.stands)
