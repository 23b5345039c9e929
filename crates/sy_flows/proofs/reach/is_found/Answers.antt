use Rattle.std.proofs.Common.{◌∙◌, ap, false, get_or}
use Rattle.std.specs.List.{list_any}
use Rattle.sy_flows.specs.Members.{same_input}
use Rattle.sy_flows.proofs.reach.is_found.Goals as goal

pub returns-then-input-ge64 : goal.returns-then-input-ge64
returns-then-input-ge64 c = c.is_among.ensures ∙ ap (list_any (same_input c.args.input)) c.as_slice.ensures.value

pub returns : goal.returns
returns c =
    c.is_marked.ensures ∙ ap (λ p. get_or c.args.marks.now p false) c.place_of.ensures
    ∙ c.requires.marked c.args.input c.if-input-ge64.false
