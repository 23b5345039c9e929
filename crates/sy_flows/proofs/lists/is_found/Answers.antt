use Rattle.std.proofs.Common.{◌∙◌, ap, false, get_or}
use Rattle.std.specs.List.{list_any}
use Rattle.sy_flows.specs.Leads.{same_list}
use Rattle.sy_flows.proofs.lists.is_found.Goals as goal

pub returns-then-list-ge64 : goal.returns-then-list-ge64
returns-then-list-ge64 c = c.is_among.ensures ∙ ap (list_any (same_list c.args.list)) c.as_slice.ensures.value

pub returns : goal.returns
returns c =
    c.is_marked.ensures ∙ ap (λ p. get_or c.args.marks.now p false) c.place_of.ensures
    ∙ c.requires.marked c.args.list c.if-list-ge64.false
