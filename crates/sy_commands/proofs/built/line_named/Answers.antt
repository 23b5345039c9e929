use Rattle.std.proofs.Common.{rules, tests, nat_eq}
use Rattle.std.specs.List.{starts_with}
use Rattle.std.proofs.lemmas.Iterator.Search.{find_from_yields_List}
use Rattle.std.proofs.lemmas.Iterator.Splits.{YieldsList-from_slice_split}
use Rattle.sy_commands.proofs.built.line_named.Goals as goal

pub returns : goal.returns
returns c = find_from_yields_List (λ line. starts_with nat_eq line c.args.name.now) _ _ _ c.find.ensures.ran
    (YieldsList-from_slice_split _ _ c.args.lines.now c.split.ensures.rest c.split.ensures.done c.split.ensures.closure (λ x r q k. search (rules, tests)))
    (λ x r q k. search (rules, tests))
