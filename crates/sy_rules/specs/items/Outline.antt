-- The items of a script that a plan is made of, in the order of the text.
use Rattle.std.specs.Prelude.{ℕ, List, [], ◌∷◌, ◌++◌, Some, None, map}
use Rattle.sy_script.specs.declared.tree.Param.{Param}
use Rattle.sy_script.specs.declared.tree.ObjectKind.{ObjectKind}
use Rattle.sy_script.specs.declared.tree.ExprTree.{ExprTree}
use Rattle.sy_script.specs.declared.tree.Block.{Block}
use Rattle.sy_script.specs.declared.tree.Block.TheOpen.{Block-F, Stmt-F}
use Rattle.sy_script.specs.declared.tree.Block.TheFolds.{fold-Stmt}
use Rattle.sy_script.specs.declared.tree.Stmt.{Stmt}
use Rattle.sy_script.specs.declared.tree.Top.{Top}
use Rattle.sy_script.specs.declared.tree.Top.TheVariants as t
use Rattle.sy_script.specs.declared.tree.Script.{Script}
use Rattle.sy_script.specs.declared.tree.Span.{Span}
use Rattle.sy_rules.specs.Faults.{nowhere}

pub data Item : Type 0 where
  -- an object that stands alone
  Object : ObjectKind → List Param → Item
  -- the head of a ruleset, before its statements
  Ruleset : List Param → Item
  Action : List Param → Item
  -- a call of the ruleset of this name
  Call : List ℕ → Item
  -- the test of an `if`, before its blocks
  Test : ExprTree → Item

-- An item and its place in the text: that of the word of an object or an action, and of the name in a call. A test has none, since what is wrong
-- with it stands at a part of it.
pub record Placed : Type 0 where
  pub span : Span
  pub item : Item

abbrev pub placed : Span → Item → Placed
placed span item = record { span = span; item = item }

-- lists one after another
abbrev pub joined : {A : Type 0} → List (List A) → List A
joined [] = []
joined (xs ∷ xss) = xs ++ joined xss

abbrev pub block_step : Block-F (List Placed) (List Placed) → List Placed
block_step (Block-F.Single inner) = inner
block_step (Block-F.Braced inner) = joined inner

abbrev pub stmt_step : Stmt-F (List Placed) (List Placed) → List Placed
stmt_step (Stmt-F.Action span params) = placed span (Item.Action params) ∷ []
stmt_step (Stmt-F.Call name) = placed name.span (Item.Call name.text) ∷ []
stmt_step (Stmt-F.Stop span) = []
stmt_step (Stmt-F.If test done None) = placed nowhere (Item.Test test) ∷ done
stmt_step (Stmt-F.If test done (Some otherwise)) = placed nowhere (Item.Test test) ∷ (done ++ otherwise)

abbrev pub placed_in_stmt : Stmt → List Placed
placed_in_stmt = fold-Stmt (List Placed) (List Placed) block_step stmt_step

abbrev pub placed_in_body : List Stmt → List Placed
placed_in_body body = joined (map placed_in_stmt body)

abbrev pub placed_in_top : Top → List Placed
placed_in_top (t.Object found) = placed found.span (Item.Object found.kind found.params) ∷ []
placed_in_top (t.Ruleset found) = placed found.span (Item.Ruleset found.params) ∷ placed_in_body found.body
placed_in_top (t.Stmt found) = placed_in_stmt found

abbrev pub placed_in_tops : List Top → List Placed
placed_in_tops tops = joined (map placed_in_top tops)

-- the items of a script, with their places
abbrev pub placed_items : Script → List Placed
placed_items script = placed_in_tops script.tops

-- and without them
abbrev pub items_of : List Placed → List Item
items_of all = map (λ x. x.item) all

abbrev pub items_of_tops : List Top → List Item
items_of_tops tops = items_of (placed_in_tops tops)

abbrev pub items : Script → List Item
items script = items_of_tops script.tops
