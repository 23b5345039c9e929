use Rattle.std.proofs.Common.{map}
use Rattle.sy_rules.specs.items.ItemViews.{item}
use Rattle.sy_rules.proofs.lemmas.check.CleanItems.{are_clean}
use Rattle.sy_rules.proofs.lemmas.check.ItemsThere.{clean_in_text}
use Rattle.sy_rules.proofs.check.script.check_script.Goals as goal

pub check_workers-requires : goal.check_workers-requires
check_workers-requires c = are_clean (map item c.args.items.now) (clean_in_text c.args.items.now c.in_ok-check_each-in-Ok.ensures.ok)
