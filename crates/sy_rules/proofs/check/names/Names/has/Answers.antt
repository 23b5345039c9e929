use Rattle.std.proofs.Common.{◌∙◌, ap}
use Rattle.sy_rules.specs.check.ScriptFaults.{is_among}
use Rattle.sy_rules.proofs.lemmas.check.NameSets.{any_at}
use Rattle.sy_rules.proofs.check.names.Names.has.Goals as goal

pub returns : goal.returns
returns c = c.contains.ensures ∙ any_at c.args.name.now _ ∙ ap (is_among c.args.name.now) c.self.view_is
