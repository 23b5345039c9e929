-- How deep a block stands.
use Rattle.std.specs.Prelude.{ℕ}
use Rattle.sy_script.specs.declared.tree.Block.{Block}
use Rattle.sy_script.specs.declared.tree.Block.TheFolds.{fold-Block}
use Rattle.sy_script.specs.Depth.{block_step, stmt_step}

abbrev pub block_depth : Block → ℕ
block_depth = fold-Block ℕ ℕ block_step stmt_step
