-- What only the parts of an outline say.
use Rattle.std.specs.Prelude.{List}
use Rattle.sy_script.specs.declared.tree.Block.{Block}
use Rattle.sy_script.specs.declared.tree.Block.TheFolds.{fold-Block}
use Rattle.sy_rules.specs.items.Outline.{Placed, block_step, stmt_step}

abbrev pub placed_in_block : Block → List Placed
placed_in_block = fold-Block (List Placed) (List Placed) block_step stmt_step
