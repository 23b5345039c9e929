use Rattle.std.proofs.Common.{◌<◌, sym, ◌∙◌}
use Rattle.sy_select.proofs.NameLaws.{facility_below, if_some}
use Rattle.sy_select.proofs.names.facility_of.Goals as goal
use Rattle.sy_select.specs.Names.{facility_of}

pub returns-clause-bound : goal.returns-clause-bound
unfolding facility_of
returns-clause-bound c = if_some (λ f. f < 24) c.number_of.result (λ f e. facility_below c.args.name.now f (sym c.number_of.ensures ∙ e))
