use Rattle.sy_checker.proofs.reach.loops.ranks_of.Goals as goal

pub visit_entries-requires-clause-ranked : goal.visit_entries-requires-clause-ranked
visit_entries-requires-clause-ranked c = c.in-Ok.ensures.ranked c.args.class
