use Rattle.std.proofs.Common.{◌<◌, sym, ◌∙◌}
use Rattle.sy_select.proofs.NameLaws.{severity_below, if_some}
use Rattle.sy_select.proofs.names.severity_of.Goals as goal
use Rattle.sy_select.specs.Names.{severity_of}

pub returns-clause-bound : goal.returns-clause-bound
unfolding severity_of
returns-clause-bound c = if_some (λ s. s < 8) c.number_of.result (λ s e. severity_below c.args.name.now s (sym c.number_of.ensures ∙ e))
