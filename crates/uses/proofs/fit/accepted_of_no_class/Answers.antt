use Rattle.std.proofs.Common.{[], ◌∙◌, eqb-true, subst, sym}
use Rattle.sy_fit.specs.Acceptance.{AreReached}
use Rattle.sy_fit.proofs.Guarded.{reached_first}
use Rattle.uses.proofs.Lists.{none_there}
use Rattle.uses.proofs.fit.accepted_of_no_class.Goals as goal

pub new-requires-clause-pairs : goal.new-requires-clause-pairs
new-requires-clause-pairs c =
    let site = c.args.site.now in
    let none = none_there _ (eqb-true _ _ (sym c.is_empty.ensures ∙ c.if-not-is_empty.false)) in
    subst (λ classes. AreReached site classes c.new-pairs.result.items) (sym none ∙ c.as_slice.ensures.value)
    (subst (AreReached site []) (sym c.new-pairs.ensures.items) (reached_first site))
