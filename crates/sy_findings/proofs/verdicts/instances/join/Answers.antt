use Rattle.std.proofs.Common.{◌≡◌, ◌++◌, ◌∷◌, [], ap, ◌∙◌}
use Rattle.std.proofs.lemmas.Option.{get_or_from_slice_get}
use Rattle.sy_findings.specs.Instances.{subject}
use Rattle.sy_findings.specs.declared.verdicts.instances.Instance.{Instance}
use Rattle.sy_findings.proofs.Telling.{joined}
use Rattle.sy_findings.proofs.verdicts.instances.join.Goals as goal

pub returns : goal.returns
returns c =
    let at = c.requires.at in
    let one : c.index_mut.result.now ≡ at.instance = c.index_mut.ensures.value ∙ get_or_from_slice_get c.args.instances.now.items c.args.place at.instance _ at.stands in
    joined c.args.instances.now.items c.args.place c.args.class c.args.input c.args.kind at c.push_class.new.instance
    (c.in_ok-push_class.ensures.subject ∙ ap subject one)
    (c.in_ok-push_class.ensures.classes ∙ ap (λ (g : Instance). g.classes.items ++ c.args.class ∷ []) one)
