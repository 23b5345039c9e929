use Rattle.std.proofs.Common.{refl, subst, sym}
use Rattle.std.proofs.lemmas.Bool.{false≢true}
use Rattle.sy_checker.specs.internal.Inner.{AreDone}
use Rattle.sy_checker.proofs.Numbering.{all_once, done_none}
use Rattle.sy_checker.proofs.inner.meets_again.Goals as goal

pub number_lists-requires-clause-done : goal.number_lists-requires-clause-done
number_lists-requires-clause-done c =
    subst (AreDone c.args.site.now c.args.class c.args.input.relay) (sym c.new-done.ensures.items) (done_none c.args.site.now c.args.class c.args.input.relay)

pub returns-in-Ok : goal.returns-in-Ok
returns-in-Ok c = (
  λ no. absurd (false≢true no),
  λ loop. absurd (all_once c.args.site.now c.args.class c.args.input c.number_lists.new.done.items c.in-Ok.ensures.done c.in-Ok.ensures.posted loop),
)
