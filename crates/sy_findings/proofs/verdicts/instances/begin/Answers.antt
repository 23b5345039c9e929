use Rattle.std.proofs.Common.{◌∷◌, ◌++◌, [], sym, ap, subst, refl, ◌≡◌, ◌∙◌}
use Rattle.sy_findings.specs.internal.Instances.{Adds}
use Rattle.sy_findings.proofs.Telling.{begun}
use Rattle.sy_findings.proofs.verdicts.instances.begin.Goals as goal

pub returns : goal.returns
returns c =
    subst (Adds (λ z. z ≡ c.args.class) c.args.input c.args.kind c.args.instances.now.items) (sym c.in_ok-push-2.ensures.items)
    (begun c.args.instances.now.items c.args.class c.args.input c.args.kind
    (record { input = c.args.input; kind = c.args.kind; occurrence = c.args.occurrence; classes = c.push.new.self }) refl
    (c.in_ok-push.ensures.items ∙ ap (λ l. l ++ c.args.class ∷ []) c.new-classes.ensures.items))
