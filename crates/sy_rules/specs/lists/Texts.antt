-- The statements of a ruleset as they are written: blocks as lists, without their places in the text.
use Rattle.std.specs.Prelude.{ℕ, List, [], ◌∷◌, ◌++◌, Some, None, map}
use Rattle.sy_script.specs.declared.tree.Param.{Param}
use Rattle.sy_script.specs.declared.tree.ExprTree.{ExprTree}
use Rattle.sy_script.specs.declared.tree.Block.{Block}
use Rattle.sy_script.specs.declared.tree.Block.TheOpen.{Block-F, Stmt-F}
use Rattle.sy_script.specs.declared.tree.Block.TheFolds.{fold-Stmt}
use Rattle.sy_script.specs.declared.tree.Stmt.{Stmt}
use Rattle.sy_script.specs.declared.tree.Top.{Top}
use Rattle.sy_script.specs.declared.tree.Top.TheVariants as top

pub data Text : Type 0 where
  End : Text
  Action : List Param → Text → Text
  -- a call of the ruleset of this name
  Call : List ℕ → Text → Text
  Stop : Text → Text
  -- a test, what is done where it holds, what is done otherwise, and what follows
  If : ExprTree → Text → Text → Text → Text

-- ---- a statement or a block, before what follows

abbrev pub Front : Type 0
Front = Text → Text

abbrev pub together : List Front → Front
together [] rest = rest
together (f ∷ fs) rest = f (together fs rest)

abbrev pub block_step : Block-F Front Front → Front
block_step (Block-F.Single inner) rest = inner rest
block_step (Block-F.Braced inner) rest = together inner rest

abbrev pub stmt_step : Stmt-F Front Front → Front
stmt_step (Stmt-F.Action span params) rest = Text.Action params rest
stmt_step (Stmt-F.Call name) rest = Text.Call name.text rest
stmt_step (Stmt-F.Stop span) rest = Text.Stop rest
stmt_step (Stmt-F.If test done None) rest = Text.If test (done Text.End) Text.End rest
stmt_step (Stmt-F.If test done (Some otherwise)) rest = Text.If test (done Text.End) (otherwise Text.End) rest

abbrev pub front_of_stmt : Stmt → Front
front_of_stmt = fold-Stmt Front Front block_step stmt_step

abbrev pub front_of_body : List Stmt → Front
front_of_body body = together (map front_of_stmt body)

-- ---- what stands in a text, in its order

abbrev pub actions : Text → List (List Param)
actions Text.End = []
actions (Text.Action params rest) = params ∷ actions rest
actions (Text.Call name rest) = actions rest
actions (Text.Stop rest) = actions rest
actions (Text.If test done otherwise rest) = actions done ++ (actions otherwise ++ actions rest)

abbrev pub tests : Text → List ExprTree
tests Text.End = []
tests (Text.Action params rest) = tests rest
tests (Text.Call name rest) = tests rest
tests (Text.Stop rest) = tests rest
tests (Text.If test done otherwise rest) = test ∷ (tests done ++ (tests otherwise ++ tests rest))

-- ---- the parts of a file

-- a part of a file, as far as it has statements: those of a ruleset, or one outside every ruleset
pub data Part : Type 0 where
  Inside : Text → Part
  Outside : Text → Part

abbrev pub part_of : Top → List Part
part_of (top.Object found) = []
part_of (top.Ruleset found) = Part.Inside (front_of_body found.body Text.End) ∷ []
part_of (top.Stmt found) = Part.Outside (front_of_stmt found Text.End) ∷ []

abbrev pub parts : List Top → List Part
parts [] = []
parts (t ∷ tops) = part_of t ++ parts tops
