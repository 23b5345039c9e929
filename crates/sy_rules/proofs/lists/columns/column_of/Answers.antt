use Rattle.std.proofs.Common.{Some, ap, sym, ◌∙◌}
use Rattle.std.proofs.lemmas.Option.{slice_get-get_or}
use Rattle.sy_rules.proofs.lists.columns.column_of.Goals as goal

pub returns-then-are_alike-clause-found : goal.returns-then-are_alike-clause-found
returns-then-are_alike-clause-found c = λ within.
    let lookup = c.in-Some.ensures.lookup in
    record {
      one = c.in-Some.other.now;
      there = slice_get-get_or c.args.classes.now c.loop-other.column c.in-Some.other.now lookup.3.0 ∙ ap Some (sym lookup.1);
      alike = c.are_alike.ensures c.if-are_alike.true;
    }
