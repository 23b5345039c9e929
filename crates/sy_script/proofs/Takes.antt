-- Whatever the grammar reads takes a token.
use Rattle.std.proofs.Common.{ℕ, ◌<◌, ◌≤◌, List, length, arith}
use Rattle.sy_script.specs.declared.token.Kind.{Kind}
use Rattle.sy_script.specs.declared.token.Token.{Token}
use Rattle.sy_script.specs.declared.tree.Param.{Param}
use Rattle.sy_script.specs.declared.tree.Operand.{Operand}
use Rattle.sy_script.specs.declared.tree.ExprTree.{ExprTree}
use Rattle.sy_script.specs.declared.tree.Block.{Block}
use Rattle.sy_script.specs.declared.tree.Stmt.{Stmt}
use Rattle.sy_script.specs.declared.tree.Top.{Top}
use Rattle.sy_script.specs.Grammar as g

params_in_takes : {text : List ℕ} {x : List Param} {ts rest : List Token} → g.ParamsIn text x ts rest → length rest < length ts
params_in_takes (g.ParamsIn.close h) = omega arith
params_in_takes (g.ParamsIn.param a b c d) = omega (arith, params_in_takes d)

params_takes : {text : List ℕ} {x : List Param} {ts rest : List Token} → g.ParamsAt text x ts rest → length rest < length ts
params_takes (g.ParamsAt.params h d) = omega (arith, params_in_takes d)

operand_takes : {text : List ℕ} {x : Operand} {ts rest : List Token} → g.OperandAt text x ts rest → length rest < length ts
operand_takes (g.OperandAt.number h) = omega arith
operand_takes (g.OperandAt.string h) = omega arith

prifilt_takes : {text : List ℕ} {x : ExprTree} {ts rest : List Token} → g.PrifiltAt text x ts rest → length rest < length ts
prifilt_takes (g.PrifiltAt.prifilt a b c d) = omega arith

mutual
  pub group_takes : {text : List ℕ} {left : ℕ} {x : ExprTree} {ts rest : List Token} → g.GroupAt text left x ts rest → length rest < length ts
  group_takes (g.GroupAt.group a inner b) = omega (arith, expr_takes inner)

  pub unit_takes : {text : List ℕ} {left : ℕ} {x : ExprTree} {ts rest : List Token} → g.UnitAt text left x ts rest → length rest < length ts
  unit_takes (g.UnitAt.grouped inner) = group_takes inner
  unit_takes (g.UnitAt.not_grouped a inner) = omega (arith, group_takes inner)
  unit_takes (g.UnitAt.selected inner) = prifilt_takes inner
  unit_takes (g.UnitAt.not_selected a inner) = omega (arith, prifilt_takes inner)
  unit_takes (g.UnitAt.compared a b c) = omega (arith, operand_takes c)

  pub more_takes : {text : List ℕ} {left : ℕ} {joint : Kind} {x : List ExprTree} {ts rest : List Token} → g.MoreAt text left joint x ts rest → length rest ≤ length ts
  more_takes g.MoreAt.none = omega arith
  more_takes (g.MoreAt.more a b c) = omega (arith, unit_takes b, more_takes c)

  pub expr_takes : {text : List ℕ} {left : ℕ} {x : ExprTree} {ts rest : List Token} → g.ExprAt text left x ts rest → length rest < length ts
  expr_takes (g.ExprAt.alone a) = unit_takes a
  expr_takes (g.ExprAt.any a b) = omega (arith, unit_takes a, more_takes b)
  expr_takes (g.ExprAt.all a b) = omega (arith, unit_takes a, more_takes b)

mutual
  pub stmt_takes : {text : List ℕ} {left : ℕ} {x : Stmt} {ts rest : List Token} → g.StmtAt text left x ts rest → length rest < length ts
  stmt_takes (g.StmtAt.action a b) = omega (arith, params_takes b)
  stmt_takes (g.StmtAt.call a b) = omega arith
  stmt_takes (g.StmtAt.stop a) = omega arith
  stmt_takes (g.StmtAt.one_way a b c d e) = omega (arith, expr_takes b, block_takes d)
  stmt_takes (g.StmtAt.two_ways a b c d e f) = omega (arith, expr_takes b, block_takes d, block_takes f)

  pub block_takes : {text : List ℕ} {left : ℕ} {x : Block} {ts rest : List Token} → g.BlockAt text left x ts rest → length rest < length ts
  block_takes (g.BlockAt.single a) = stmt_takes a
  block_takes (g.BlockAt.braced a b) = omega (arith, body_takes b)

  pub body_takes : {text : List ℕ} {left : ℕ} {x : List Stmt} {ts rest : List Token} → g.BodyAt text left x ts rest → length rest < length ts
  body_takes (g.BodyAt.close a) = omega arith
  body_takes (g.BodyAt.stmt a b) = omega (arith, stmt_takes a, body_takes b)

pub top_takes : {text : List ℕ} {left : ℕ} {x : Top} {ts rest : List Token} → g.TopAt text left x ts rest → length rest < length ts
top_takes (g.TopAt.object a b) = omega (arith, params_takes b)
top_takes (g.TopAt.rules a b c d) = omega (arith, params_takes b, body_takes d)
top_takes (g.TopAt.stmt a) = stmt_takes a
