use Rattle.std.proofs.Common.{◌∷◌, ◌++◌, [], ap, subst, sym, ◌∙◌, map}
use Rattle.sy_fit.specs.Acceptance.{AreReached}
use Rattle.sy_fit.proofs.Guarded.{reached_more}
use Rattle.sy_checker.proofs.checking.push_reached.Goals as goal

pub returns : goal.returns
returns c = λ before are.
    let pairs = c.args.pairs.now.items in
    let inputs = c.args.course.now.found.inputs.items in
    subst (AreReached c.args.site.now (before ++ c.args.class ∷ []))
    (sym (c.in_ok-push_pairs.ensures ∙ ap (λ l. pairs ++ map (λ input. (input, c.args.class)) l) c.as_slice.ensures.value))
    (reached_more c.args.site.now c.args.class before pairs inputs c.requires.course.reached are)
