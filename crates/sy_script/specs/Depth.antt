-- How deep a script nests: each block counts one, with braces or without, so each `else if` too; each pair of parentheses round an expression one, and each `not`.
-- Nothing else counts: no parentheses of parameters or of `prifilt`, and no braces of a ruleset. A step says what a part's depth is, given those of its parts.
use Rattle.std.specs.Prelude.{ℕ, ◌+◌, nat_lt, if◌then◌else◌, List, [], ◌∷◌, Some, None, map}
use Rattle.sy_script.specs.declared.tree.ExprTree.{ExprTree}
use Rattle.sy_script.specs.declared.tree.ExprTree.TheOpen.{ExprTree-F}
use Rattle.sy_script.specs.declared.tree.ExprTree.TheFolds.{fold-ExprTree}
use Rattle.sy_script.specs.declared.tree.Block.{Block}
use Rattle.sy_script.specs.declared.tree.Block.TheOpen.{Block-F, Stmt-F}
use Rattle.sy_script.specs.declared.tree.Block.TheFolds.{fold-Stmt}
use Rattle.sy_script.specs.declared.tree.Stmt.{Stmt}
use Rattle.sy_script.specs.declared.tree.Top.{Top}
use Rattle.sy_script.specs.declared.tree.Top.TheVariants as t
use Rattle.sy_script.specs.declared.tree.Script.{Script}

abbrev pub greater : ℕ → ℕ → ℕ
greater n m = if nat_lt n m then m else n

-- the greatest, or 0
abbrev pub most : List ℕ → ℕ
most [] = 0
most (n ∷ ns) = greater n (most ns)

abbrev pub expr_step : ExprTree-F ℕ → ℕ
expr_step (ExprTree-F.Or parts) = most parts
expr_step (ExprTree-F.And parts) = most parts
expr_step (ExprTree-F.Not inner) = inner + 1
expr_step (ExprTree-F.Group inner) = inner + 1
expr_step (ExprTree-F.Prifilt selector) = 0
expr_step (ExprTree-F.Compare comparison) = 0

abbrev pub expr_depth : ExprTree → ℕ
expr_depth = fold-ExprTree ℕ expr_step

abbrev pub block_step : Block-F ℕ ℕ → ℕ
block_step (Block-F.Single inner) = inner + 1
block_step (Block-F.Braced inner) = most inner + 1

abbrev pub stmt_step : Stmt-F ℕ ℕ → ℕ
stmt_step (Stmt-F.Action span params) = 0
stmt_step (Stmt-F.Call name) = 0
stmt_step (Stmt-F.Stop span) = 0
stmt_step (Stmt-F.If test done None) = greater (expr_depth test) done
stmt_step (Stmt-F.If test done (Some otherwise)) = greater (expr_depth test) (greater done otherwise)

abbrev pub stmt_depth : Stmt → ℕ
stmt_depth = fold-Stmt ℕ ℕ block_step stmt_step

abbrev pub top_depth : Top → ℕ
top_depth (t.Object found) = 0
top_depth (t.Ruleset found) = most (map stmt_depth found.body)
top_depth (t.Stmt found) = stmt_depth found

abbrev pub depth : Script → ℕ
depth script = most (map top_depth script.tops)
