use Rattle.std.proofs.Common.{◌∙◌, ◌||◌, ap}
use Rattle.std.specs.Str.{bytes_eq}
use Rattle.sy_rules.specs.check.ScriptFaults.{is_among}
use Rattle.sy_rules.proofs.lemmas.check.NameSets.{one_name_more}
use Rattle.sy_rules.proofs.check.names.Names.insert.Goals as goal

pub returns : goal.returns
returns c other = one_name_more c.args.name _ _ c.in_ok-insert.ensures.updates other ∙ ap (λ names. is_among other names || bytes_eq other c.args.name.now) c.self.view_is
