use Rattle.std.proofs.Common.{◌∙◌, refl, sym}
use Rattle.std.proofs.lemmas.Bool.{false≢true}
use Rattle.sy_site.specs.declared.site.SiteInput.{SiteInput}
use Rattle.sy_fit.proofs.InnersSorted.{never_posted, none_posted, not_posted, posted_here}
use Rattle.sy_fit.proofs.inners.is_posted.Goals as goal

abbrev no_input : SiteInput
no_input = record { relay = 0; input = 0 }

pub loop-input-init : goal.loop-input-init
loop-input-init c = none_posted c.args.site.now c.args.class c.args.inputs.now c.args.list

pub loop-input-preserved : goal.loop-input-preserved
loop-input-preserved c =
    not_posted c.args.site.now c.args.class c.args.inputs.now c.args.list c.loop-input.input-index no_input c.loop-input-test.true
    (λ posts. false≢true (sym c.if-has.false ∙ c.has.ensures.1 ((c.lists_at.ensures.each c.args.list).1 posts)))
    c.loop-input.invariant

pub returns-then-has : goal.returns-then-has
returns-then-has c = (
  λ yes. posted_here c.args.site.now c.args.class c.args.inputs.now c.args.list c.loop-input.input-index no_input c.loop-input-test.true
      ((c.lists_at.ensures.each c.args.list).0 (c.has.ensures.0 c.if-has.true)),
  λ is. refl,
)

pub returns : goal.returns
returns c = (
  λ no. absurd (false≢true no),
  λ is. absurd (never_posted c.args.site.now c.args.class c.args.inputs.now c.args.list c.loop-input.input-index c.loop-input-test.false
      c.loop-input.invariant is),
)
