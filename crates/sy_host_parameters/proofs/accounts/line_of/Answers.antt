use Rattle.std.proofs.Common.{rules, tests}
use Rattle.std.proofs.lemmas.Iterator.Search.{find_from_yields_List}
use Rattle.std.proofs.lemmas.Iterator.Splits.{YieldsList-from_slice_split}
use Rattle.sy_host_parameters.specs.Accounts.{is_of}
use Rattle.sy_host_parameters.proofs.accounts.line_of.Goals as goal

pub returns : goal.returns
returns c = find_from_yields_List (λ line. is_of c.args.name.now line) _ _ _ c.find.ensures.ran
    (YieldsList-from_slice_split _ _ c.args.table.now c.split.ensures.rest c.split.ensures.done c.split.ensures.closure (λ x r q k. search (rules, tests)))
    (λ x r q k. search (rules, tests))
