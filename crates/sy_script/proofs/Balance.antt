-- Whatever the grammar reads has each of its parentheses and braces closed.
use Rattle.std.proofs.Common.{◌≡◌, ℕ, true, false, List, ◌∷◌, Some, refl, ap, ◌∙◌, subst}
use Rattle.sy_script.specs.declared.token.Kind.{Kind}
use Rattle.sy_script.specs.declared.token.Kind.TheVariants as k
use Rattle.sy_script.specs.declared.token.Token.{Token}
use Rattle.sy_script.specs.declared.tree.Param.{Param}
use Rattle.sy_script.specs.declared.tree.Operator.{Operator}
use Rattle.sy_script.specs.declared.tree.Operand.{Operand}
use Rattle.sy_script.specs.declared.tree.ExprTree.{ExprTree}
use Rattle.sy_script.specs.declared.tree.ObjectKind.{ObjectKind}
use Rattle.sy_script.specs.declared.tree.Block.{Block}
use Rattle.sy_script.specs.declared.tree.Stmt.{Stmt}
use Rattle.sy_script.specs.declared.tree.Top.{Top}
use Rattle.sy_script.specs.Terms.{is_text, is_word, object_kind, operator_of}
use Rattle.sy_script.specs.Grammar as g
use Rattle.sy_script.specs.Brackets.{is_bracket, Balanced}

pub balanced_on : {ts us rest : List Token} → Balanced ts us → Balanced us rest → Balanced ts rest
balanced_on Balanced.none b = b
balanced_on (Balanced.other h a) b = Balanced.other h (balanced_on a b)
balanced_on (Balanced.parens h a c d) b = Balanced.parens h a c (balanced_on d b)
balanced_on (Balanced.braces h a c d) b = Balanced.braces h a c (balanced_on d b)

pub word_plain : (a : Kind) → is_word a ≡ true → is_bracket a ≡ false
word_plain k.LeftParen h = absurd cc
word_plain k.RightParen h = absurd cc
word_plain k.LeftBrace h = absurd cc
word_plain k.RightBrace h = absurd cc
word_plain _ h = refl

pub text_plain : (a : Kind) → is_text a ≡ true → is_bracket a ≡ false
text_plain k.LeftParen h = absurd cc
text_plain k.RightParen h = absurd cc
text_plain k.LeftBrace h = absurd cc
text_plain k.RightBrace h = absurd cc
text_plain _ h = refl

pub operator_plain : (a : Kind) (o : Operator) → operator_of a ≡ Some o → is_bracket a ≡ false
operator_plain k.LeftParen o h = absurd cc
operator_plain k.RightParen o h = absurd cc
operator_plain k.LeftBrace o h = absurd cc
operator_plain k.RightBrace o h = absurd cc
operator_plain _ o h = refl

pub object_plain : (a : Kind) (o : ObjectKind) → object_kind a ≡ Some o → is_bracket a ≡ false
object_plain k.LeftParen o h = absurd cc
object_plain k.RightParen o h = absurd cc
object_plain k.LeftBrace o h = absurd cc
object_plain k.RightBrace o h = absurd cc
object_plain _ o h = refl

-- a token of this kind is no parenthesis and no brace
pub plain : {ts rest : List Token} (t : Token) (kind : Kind) → t.kind ≡ kind → is_bracket kind ≡ false → Balanced ts rest → Balanced (t ∷ ts) rest
plain t kind is none b = Balanced.other (ap is_bracket is ∙ none) b

params_in_balanced : {text : List ℕ} {x : List Param} {ts rest : List Token} → g.ParamsIn text x ts rest → (c : Token) × (us : List Token) × Balanced ts (c ∷ us) × (c.kind ≡ k.RightParen) × (us ≡ rest)
params_in_balanced (g.ParamsIn.close {c = c} {rest = rest} h) = (c, rest, Balanced.none, h, refl)
params_in_balanced (g.ParamsIn.param {n = n} {a = a} {v = v} name assign quoted more) =
    let m = params_in_balanced more in
    (m.0, m.1, Balanced.other (word_plain n.kind name) (plain a k.Assign assign refl (plain v k.Quoted quoted refl m.2)), m.3, m.4)

to_rest : {ts us rest : List Token} → us ≡ rest → Balanced ts us → Balanced ts rest
to_rest {ts = ts} e b = let P : List Token → Type 0 = λ v. Balanced ts v in subst P e b

pub params_balanced : {text : List ℕ} {x : List Param} {ts rest : List Token} → g.ParamsAt text x ts rest → Balanced ts rest
params_balanced (g.ParamsAt.params h d) = let m = params_in_balanced d in Balanced.parens h m.2 m.3 (to_rest m.4 Balanced.none)

operand_balanced : {text : List ℕ} {x : Operand} {ts rest : List Token} → g.OperandAt text x ts rest → Balanced ts rest
operand_balanced (g.OperandAt.number {n = n} h) = plain n k.Number h refl Balanced.none
operand_balanced (g.OperandAt.string {v = v} h) = Balanced.other (text_plain v.kind h) Balanced.none

pub prifilt_balanced : {text : List ℕ} {x : ExprTree} {ts rest : List Token} → g.PrifiltAt text x ts rest → Balanced ts rest
prifilt_balanced (g.PrifiltAt.prifilt {w = w} {v = v} a b c d) = plain w k.Prifilt a refl (Balanced.parens b (Balanced.other (text_plain v.kind c) Balanced.none) d Balanced.none)

mutual
  pub group_balanced : {text : List ℕ} {left : ℕ} {x : ExprTree} {ts rest : List Token} → g.GroupAt text left x ts rest → Balanced ts rest
  group_balanced (g.GroupAt.group a inner b) = Balanced.parens a (expr_balanced inner) b Balanced.none

  pub unit_balanced : {text : List ℕ} {left : ℕ} {x : ExprTree} {ts rest : List Token} → g.UnitAt text left x ts rest → Balanced ts rest
  unit_balanced (g.UnitAt.grouped inner) = group_balanced inner
  unit_balanced (g.UnitAt.not_grouped {n = n} a inner) = plain n k.Not a refl (group_balanced inner)
  unit_balanced (g.UnitAt.selected inner) = prifilt_balanced inner
  unit_balanced (g.UnitAt.not_selected {n = n} a inner) = plain n k.Not a refl (prifilt_balanced inner)
  unit_balanced (g.UnitAt.compared {p = p} {o = o} a b c) = plain p k.Property a refl (Balanced.other (operator_plain o.kind _ b) (operand_balanced c))

  pub or_balanced : {text : List ℕ} {left : ℕ} {x : List ExprTree} {ts rest : List Token} → g.MoreAt text left k.Or x ts rest → Balanced ts rest
  or_balanced g.MoreAt.none = Balanced.none
  or_balanced (g.MoreAt.more {j = j} a b c) = plain j k.Or a refl (balanced_on (unit_balanced b) (or_balanced c))

  pub and_balanced : {text : List ℕ} {left : ℕ} {x : List ExprTree} {ts rest : List Token} → g.MoreAt text left k.And x ts rest → Balanced ts rest
  and_balanced g.MoreAt.none = Balanced.none
  and_balanced (g.MoreAt.more {j = j} a b c) = plain j k.And a refl (balanced_on (unit_balanced b) (and_balanced c))

  pub expr_balanced : {text : List ℕ} {left : ℕ} {x : ExprTree} {ts rest : List Token} → g.ExprAt text left x ts rest → Balanced ts rest
  expr_balanced (g.ExprAt.alone a) = unit_balanced a
  expr_balanced (g.ExprAt.any a b) = balanced_on (unit_balanced a) (or_balanced b)
  expr_balanced (g.ExprAt.all a b) = balanced_on (unit_balanced a) (and_balanced b)

mutual
  pub stmt_balanced : {text : List ℕ} {left : ℕ} {x : Stmt} {ts rest : List Token} → g.StmtAt text left x ts rest → Balanced ts rest
  stmt_balanced (g.StmtAt.action {a = w} a b) = plain w k.Action a refl (params_balanced b)
  stmt_balanced (g.StmtAt.call {c = c} {n = n} a b) = plain c k.Call a refl (Balanced.other (word_plain n.kind b) Balanced.none)
  stmt_balanced (g.StmtAt.stop {w = w} a) = plain w k.Stop a refl Balanced.none
  stmt_balanced (g.StmtAt.one_way {i = i} {w = w} a b c d e) = plain i k.If a refl (balanced_on (expr_balanced b) (plain w k.Then c refl (block_balanced d)))
  stmt_balanced (g.StmtAt.two_ways {i = i} {w = w} {o = o} a b c d e f) =
      plain i k.If a refl (balanced_on (expr_balanced b) (plain w k.Then c refl (balanced_on (block_balanced d) (plain o k.Else e refl (block_balanced f)))))

  pub block_balanced : {text : List ℕ} {left : ℕ} {x : Block} {ts rest : List Token} → g.BlockAt text left x ts rest → Balanced ts rest
  block_balanced (g.BlockAt.single a) = stmt_balanced a
  block_balanced (g.BlockAt.braced a b) = let m = body_balanced b in Balanced.braces a m.2 m.3 (to_rest m.4 Balanced.none)

  pub body_balanced : {text : List ℕ} {left : ℕ} {x : List Stmt} {ts rest : List Token} → g.BodyAt text left x ts rest → (c : Token) × (us : List Token) × Balanced ts (c ∷ us) × (c.kind ≡ k.RightBrace) × (us ≡ rest)
  body_balanced (g.BodyAt.close {c = c} {rest = rest} h) = (c, rest, Balanced.none, h, refl)
  body_balanced (g.BodyAt.stmt a b) = let m = body_balanced b in (m.0, m.1, balanced_on (stmt_balanced a) m.2, m.3, m.4)

pub top_balanced : {text : List ℕ} {left : ℕ} {x : Top} {ts rest : List Token} → g.TopAt text left x ts rest → Balanced ts rest
top_balanced (g.TopAt.object {w = w} a b) = Balanced.other (object_plain w.kind _ a) (params_balanced b)
top_balanced (g.TopAt.rules {w = w} a b c d) = let m = body_balanced d in plain w k.Ruleset a refl (balanced_on (params_balanced b) (Balanced.braces c m.2 m.3 (to_rest m.4 Balanced.none)))
top_balanced (g.TopAt.stmt a) = stmt_balanced a
