use Rattle.std.proofs.Common.{◌∷◌, ◌++◌, [], sym, ap, subst, refl, ◌∙◌}
use Rattle.sy_checker.specs.internal.Survey.{Pushes}
use Rattle.sy_checker.proofs.Grouping.{begun}
use Rattle.sy_checker.proofs.kinds.groups.begin.Goals as goal

pub returns : goal.returns
returns c =
    subst (Pushes c.args.class c.args.input c.args.kind c.args.groups.now.items) (sym c.in_ok-push-2.ensures.items)
    (begun c.args.groups.now.items c.args.class c.args.input c.args.kind
    (record { input = c.args.input; kind = c.args.kind; classes = c.push.new.self }) refl
    (c.in_ok-push.ensures.items ∙ ap (λ l. l ++ c.args.class ∷ []) c.new-classes.ensures.items) c.requires.new)
