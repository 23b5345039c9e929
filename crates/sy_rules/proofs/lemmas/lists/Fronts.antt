-- What each statement and block is before what follows.
use Rattle.std.proofs.Common.{◌≡◌, List, Option, Some, None, sym, ap, ◌∙◌}
use Rattle.sy_script.specs.declared.tree.Span.{Span}
use Rattle.sy_script.specs.declared.tree.Word.{Word}
use Rattle.sy_script.specs.declared.tree.Param.{Param}
use Rattle.sy_script.specs.declared.tree.ExprTree.{ExprTree}
use Rattle.sy_script.specs.declared.tree.Block.{Block}
use Rattle.sy_script.specs.declared.tree.Block.TheOpen.{Stmt-F}
use Rattle.sy_script.specs.declared.tree.Block.TheFolds.{fold-roll-Stmt}
use Rattle.sy_script.specs.declared.tree.Stmt.TheVariants as s
use Rattle.sy_rules.specs.lists.Texts.{Text, Front, block_step, stmt_step, front_of_stmt}
use Rattle.sy_rules.specs.internal.Texts.{front_of_block}
use Rattle.sy_rules.specs.internal.TextTables.{front_of_otherwise}

pub action_is : (w : Span) (ps : List Param) → front_of_stmt (s.Action w ps) ≡ Text.Action ps
action_is w ps = ap front_of_stmt (sym (s.rolls-Action w ps)) ∙ fold-roll-Stmt Front Front block_step stmt_step (Stmt-F.Action w ps)

pub call_is : (name : Word) → front_of_stmt (s.Call name) ≡ Text.Call name.text
call_is w = ap front_of_stmt (sym (s.rolls-Call w)) ∙ fold-roll-Stmt Front Front block_step stmt_step (Stmt-F.Call w)

pub stop_is : (w : Span) → front_of_stmt (s.Stop w) ≡ Text.Stop
stop_is w = ap front_of_stmt (sym (s.rolls-Stop w)) ∙ fold-roll-Stmt Front Front block_step stmt_step (Stmt-F.Stop w)

pub if_is : (x : ExprTree) (done : Block) (otherwise : Option Block) → front_of_stmt (s.If x done otherwise) ≡ (λ rest. Text.If x (front_of_block done Text.End) (front_of_otherwise otherwise Text.End) rest)
if_is x done None = ap front_of_stmt (sym (s.rolls-If x done None)) ∙ fold-roll-Stmt Front Front block_step stmt_step (Stmt-F.If x done None)
if_is x done (Some block) = ap front_of_stmt (sym (s.rolls-If x done (Some block))) ∙ fold-roll-Stmt Front Front block_step stmt_step (Stmt-F.If x done (Some block))
