use Rattle.std.proofs.Common.{◌≡◌, ◌++◌, ◌∷◌, [], ap, ◌∙◌}
use Rattle.std.proofs.lemmas.Option.{get_or_from_slice_get}
use Rattle.sy_checker.specs.Survey.{subject}
use Rattle.sy_checker.specs.declared.kinds.groups.Group.{Group}
use Rattle.sy_checker.proofs.Grouping.{joined}
use Rattle.sy_checker.proofs.kinds.groups.join.Goals as goal

pub returns : goal.returns
returns c =
    let at = c.requires.at in
    let one : c.index_mut.result.now ≡ at.group = c.index_mut.ensures.value ∙ get_or_from_slice_get c.args.groups.now.items c.args.place at.group _ at.stands in
    joined c.args.groups.now.items c.args.place c.args.class c.args.input c.args.kind at c.push_class.new.group
    (c.in_ok-push_class.ensures.subject ∙ ap subject one)
    (c.in_ok-push_class.ensures.classes ∙ ap (λ (g : Group). g.classes.items ++ c.args.class ∷ []) one)
