-- What only the parts of texts say.
use Rattle.sy_script.specs.declared.tree.Block.{Block}
use Rattle.sy_script.specs.declared.tree.Block.TheFolds.{fold-Block}
use Rattle.sy_rules.specs.lists.Texts.{Text, Part, Front, block_step, stmt_step}

-- ---- the lists of a file

abbrev pub text_of : Part → Text
text_of (Part.Inside t) = t
text_of (Part.Outside t) = t

abbrev pub front_of_block : Block → Front
front_of_block = fold-Block Front Front block_step stmt_step
