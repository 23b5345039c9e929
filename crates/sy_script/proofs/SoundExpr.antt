-- What reading an expression gives is in the grammar.
use Rattle.std.proofs.Common.{◌≡◌, ◌⊎◌, inl, inr, ℕ, zero, suc, Bool, true, false, List, [], ◌∷◌, ◌++◌, length, Option, Some, None, Ok, refl, sym, ap, ◌∙◌, append_assoc, append-nil}
use Rattle.std.specs.Prelude.{is_some}
use Rattle.std.proofs.lemmas.Bool.{false≢true}
use Rattle.sy_script.specs.declared.token.Kind.{Kind}
use Rattle.sy_script.specs.declared.token.Kind.TheVariants as k
use Rattle.sy_script.specs.declared.token.Token.{Token}
use Rattle.sy_script.specs.declared.tree.Operator.{Operator}
use Rattle.sy_script.specs.declared.tree.Operand.{Operand}
use Rattle.sy_script.specs.declared.tree.ExprTree.{ExprTree}
use Rattle.sy_script.specs.declared.tree.ExprTree.TheVariants as e
use Rattle.sy_script.specs.Terms.{is_text, operator_of}
use Rattle.sy_script.specs.internal.Reading.{Parser, Open, and_then, first, expect, behind, text}
use Rattle.sy_script.specs.internal.ReadingExpr.{operand_by, operand, compared_by, comparison, prifilt, Level, unit_by, unit_at, part_behind, chain_from, chain_at, joined_by, expr_at, group_at, negated_by, negation_at, level, expr}
use Rattle.sy_script.specs.Grammar as g
use Rattle.sy_script.proofs.Sound.{bind_ok, pure_ok, first_ok, expect_ok, behind_ok, text_ok, move}

none_some : {A : Type 0} (b : Option A) → b ≡ None → is_some b ≡ true → ⊥
none_some None h some = false≢true some
none_some (Some x) h some = absurd cc

behind_nil : (kind : Kind) → behind kind [] ≡ None
unfolding behind
behind_nil kind = refl

-- ---- parts without an expression

operand_by_ok : (bytes : List ℕ) (kind : Kind) (t : Token) (rest : List Token) (y : Operand × List Token) → t.kind ≡ kind → operand_by bytes kind t rest ≡ Ok y → g.OperandAt bytes y.0 (t ∷ rest) y.1
operand_by_ok bytes k.Number t rest y is h = let s = pure_ok _ rest y h in move (g.OperandAt bytes) s.0 refl s.1 (g.OperandAt.number is)
operand_by_ok bytes k.Quoted t rest y is h = let s = pure_ok _ rest y h in let q : is_text t.kind ≡ true = ap is_text is in move (g.OperandAt bytes) s.0 refl s.1 (g.OperandAt.string q)
operand_by_ok bytes k.SingleQuoted t rest y is h = let s = pure_ok _ rest y h in let q : is_text t.kind ≡ true = ap is_text is in move (g.OperandAt bytes) s.0 refl s.1 (g.OperandAt.string q)
operand_by_ok bytes _ t rest y is h = absurd cc

operand_ok : (bytes : List ℕ) (o : Open) (ts : List Token) (y : Operand × List Token) → operand bytes o ts ≡ Ok y → g.OperandAt bytes y.0 ts y.1
unfolding operand
operand_ok bytes o ts y h =
    let s = bind_ok (first o ts) _ y h in
    move (g.OperandAt bytes) refl (sym (first_ok o ts s.0 s.1)) refl (operand_by_ok bytes s.0.0.kind s.0.0 s.0.1 y refl s.2)

compared_by_ok : (bytes : List ℕ) (left : ℕ) (p : Token) (o : Open) (sign : Token) (operator : Option Operator) (rest : List Token) (y : ExprTree × List Token) → p.kind ≡ k.Property → operator_of sign.kind ≡ operator →
    compared_by bytes p o sign operator rest ≡ Ok y → g.UnitAt bytes left y.0 (p ∷ sign ∷ rest) y.1
compared_by_ok bytes left p o sign None rest y is_p is_o h = absurd cc
compared_by_ok bytes left p o sign (Some operator) rest y is_p is_o h =
    let s = bind_ok (operand bytes o rest) _ y h in
    let t = pure_ok _ s.0.1 y s.2 in
    let against : g.OperandAt bytes s.0.0 rest y.1 = move (g.OperandAt bytes) refl refl t.1 (operand_ok bytes o rest s.0 s.1) in
    move (g.UnitAt bytes left) t.0 refl refl (g.UnitAt.compared is_p is_o against)

comparison_ok : (bytes : List ℕ) (left : ℕ) (p : Token) (o : Open) (ts : List Token) (y : ExprTree × List Token) → p.kind ≡ k.Property → comparison bytes p o ts ≡ Ok y → g.UnitAt bytes left y.0 (p ∷ ts) y.1
unfolding comparison
comparison_ok bytes left p o ts y is h =
    let s = bind_ok (first o ts) _ y h in
    move (g.UnitAt bytes left) refl (ap (λ r. p ∷ r) (sym (first_ok o ts s.0 s.1))) refl (compared_by_ok bytes left p o s.0.0 (operator_of s.0.0.kind) s.0.1 y is refl s.2)

prifilt_ok : (bytes : List ℕ) (o : Open) (w : Token) (ts : List Token) (y : ExprTree × List Token) → w.kind ≡ k.Prifilt → prifilt bytes o ts ≡ Ok y → g.PrifiltAt bytes y.0 (w ∷ ts) y.1
unfolding prifilt
prifilt_ok bytes o w ts y is h =
    let s = bind_ok (expect k.LeftParen o ts) _ y h in
    let p = expect_ok k.LeftParen o ts s.0 s.1 in
    let s2 = bind_ok (text bytes (Some s.0.0.span.start) s.0.1) _ y s.2 in
    let v = text_ok bytes (Some s.0.0.span.start) s.0.1 s2.0 s2.1 in
    let s3 = bind_ok (expect k.RightParen (Some s.0.0.span.start) s2.0.1) _ y s2.2 in
    let c = expect_ok k.RightParen (Some s.0.0.span.start) s2.0.1 s3.0 s3.1 in
    let t = pure_ok _ s3.0.1 y s3.2 in
    let tail : s.0.0 ∷ v.0 ∷ s3.0.0 ∷ s3.0.1 ≡ ts = sym (p.0 ∙ ap (λ r. s.0.0 ∷ r) (v.1 ∙ ap (λ r. v.0 ∷ r) c.0)) in
    move (g.PrifiltAt bytes) (ap e.Prifilt v.3 ∙ t.0) (ap (λ r. w ∷ r) tail) t.1 (g.PrifiltAt.prifilt is p.1 v.2 c.1)

-- ---- what reads one level deeper

pub record Sound (bytes : List ℕ) (left : ℕ) (l : Level) : Type 0 where
  pub groups : (t : Token) (rest : List Token) (y : ExprTree × List Token) → t.kind ≡ k.LeftParen → l.group t rest ≡ Ok y → g.GroupAt bytes left y.0 (t ∷ rest) y.1
  pub negations : (o : Open) (t : Token) (rest : List Token) (y : ExprTree × List Token) → t.kind ≡ k.Not → l.negation o t rest ≡ Ok y → g.UnitAt bytes left y.0 (t ∷ rest) y.1

module _ (bytes : List ℕ) (left : ℕ) (l : Level) (deep : Sound bytes left l) where
  unit_by_ok : (o : Open) (kind : Kind) (t : Token) (rest : List Token) (y : ExprTree × List Token) → t.kind ≡ kind → unit_by bytes l o kind t rest ≡ Ok y → g.UnitAt bytes left y.0 (t ∷ rest) y.1
  unit_by_ok o k.LeftParen t rest y is h = g.UnitAt.grouped (deep.groups t rest y is h)
  unit_by_ok o k.Not t rest y is h = deep.negations o t rest y is h
  unit_by_ok o k.Prifilt t rest y is h = g.UnitAt.selected (prifilt_ok bytes o t rest y is h)
  unit_by_ok o k.Property t rest y is h = comparison_ok bytes left t o rest y is h
  unit_by_ok o _ t rest y is h = absurd cc

  pub unit_ok : (o : Open) (ts : List Token) (y : ExprTree × List Token) → unit_at bytes l o ts ≡ Ok y → g.UnitAt bytes left y.0 ts y.1
  unit_ok o ts y h =
      let s = bind_ok (first o ts) _ y h in
      move (g.UnitAt bytes left) refl (sym (first_ok o ts s.0 s.1)) refl (unit_by_ok o s.0.0.kind s.0.0 s.0.1 y refl s.2)

  part_ok : (b : Option (List Token)) (part : Parser ExprTree) (found : List ExprTree) (ts : List Token) (more : ExprTree → Parser (List ExprTree)) (y : List ExprTree × List Token) → part_behind b part found ts more ≡ Ok y →
      ((found ≡ y.0) × (ts ≡ y.1) × (b ≡ None)) ⊎ ((after : List Token) × (b ≡ Some after) × (and_then (part after) more ≡ Ok y))
  part_ok None part found ts more y h = inl ((pure_ok found ts y h).0, (pure_ok found ts y h).1, refl)
  part_ok (Some after) part found ts more y h = inr (after, refl, h)

  abbrev Grown : List ExprTree → (List ExprTree → Type 0) → List ExprTree → Type 0
  Grown found P all = (xs : List ExprTree) × (all ≡ found ++ xs) × P xs

  chain_from_ok : (o : Open) (joint : Kind) (n : ℕ) (found : List ExprTree) (ts : List Token) (y : List ExprTree × List Token) → chain_from joint (unit_at bytes l o) n found ts ≡ Ok y →
      Grown found (λ xs. g.MoreAt bytes left joint xs ts y.1) y.0
  unfolding chain_from
  chain_from_ok o joint zero found ts y h =
      let s = pure_ok found ts y h in
      ([], sym s.0 ∙ sym (append-nil found), move (g.MoreAt bytes left joint) refl refl s.1 g.MoreAt.none)
  chain_from_ok o joint (suc n) found ts y h =
      elim (part_ok (behind joint ts) (unit_at bytes l o) found ts _ y h) [
        | inl s ↦ ([], sym s.0 ∙ sym (append-nil found), move (g.MoreAt bytes left joint) refl refl s.1 g.MoreAt.none)
        | inr w ↦
            let j = behind_ok joint ts w.0 w.1 in
            let s = bind_ok (unit_at bytes l o w.0) _ y w.2 in
            let more = chain_from_ok o joint n (found ++ s.0.0 ∷ []) s.0.1 y s.2 in
            (s.0.0 ∷ more.0, more.1 ∙ append_assoc found (s.0.0 ∷ []) more.0, move (g.MoreAt bytes left joint) refl (sym j.1) refl (g.MoreAt.more j.2 (unit_ok o w.0 s.0 s.1) more.2))
      ]

  -- where a part follows, one is read
  chain_some_ok : (o : Open) (joint : Kind) (n : ℕ) (found : List ExprTree) (ts : List Token) (y : List ExprTree × List Token) → is_some (behind joint ts) ≡ true → chain_from joint (unit_at bytes l o) (suc n) found ts ≡ Ok y →
      (z : ExprTree) × (zs : List ExprTree) × (y.0 ≡ found ++ z ∷ zs) × g.MoreAt bytes left joint (z ∷ zs) ts y.1
  unfolding chain_from
  chain_some_ok o joint n found ts y some h =
      elim (part_ok (behind joint ts) (unit_at bytes l o) found ts _ y h) [
        | inl s ↦ absurd (none_some (behind joint ts) s.2 some)
        | inr w ↦
            let j = behind_ok joint ts w.0 w.1 in
            let s = bind_ok (unit_at bytes l o w.0) _ y w.2 in
            let more = chain_from_ok o joint n (found ++ s.0.0 ∷ []) s.0.1 y s.2 in
            (s.0.0, more.0, more.1 ∙ append_assoc found (s.0.0 ∷ []) more.0, move (g.MoreAt bytes left joint) refl (sym j.1) refl (g.MoreAt.more j.2 (unit_ok o w.0 s.0 s.1) more.2))
      ]

  chain_ok : (o : Open) (joint : Kind) (x : ExprTree) (ts : List Token) (y : List ExprTree × List Token) → is_some (behind joint ts) ≡ true → chain_at bytes l o joint x ts ≡ Ok y →
      (z : ExprTree) × (zs : List ExprTree) × (y.0 ≡ x ∷ z ∷ zs) × g.MoreAt bytes left joint (z ∷ zs) ts y.1
  chain_ok o joint x [] y some h = absurd (none_some (behind joint []) (behind_nil joint) some)
  chain_ok o joint x (t ∷ ts) y some h = chain_some_ok o joint (length ts) (x ∷ []) (t ∷ ts) y some h

  joined_ok : (o : Open) (x : ExprTree) (is_or is_and : Bool) (ts mid : List Token) (y : ExprTree × List Token) → is_some (behind k.Or mid) ≡ is_or → is_some (behind k.And mid) ≡ is_and →
      g.UnitAt bytes left x ts mid → joined_by bytes l o x is_or is_and mid ≡ Ok y → g.ExprAt bytes left y.0 ts y.1
  joined_ok o x false false ts mid y is_or is_and unit h = let s = pure_ok x mid y h in move (g.ExprAt bytes left) s.0 refl s.1 (g.ExprAt.alone unit)
  joined_ok o x true is_and ts mid y is_or other unit h =
      let s = bind_ok (chain_at bytes l o k.Or x mid) _ y h in
      let p = pure_ok _ s.0.1 y s.2 in
      let c = chain_ok o k.Or x mid s.0 is_or s.1 in
      move (g.ExprAt bytes left) (ap e.Or (sym c.2) ∙ p.0) refl p.1 (g.ExprAt.any unit c.3)
  joined_ok o x false true ts mid y other is_and unit h =
      let s = bind_ok (chain_at bytes l o k.And x mid) _ y h in
      let p = pure_ok _ s.0.1 y s.2 in
      let c = chain_ok o k.And x mid s.0 is_and s.1 in
      move (g.ExprAt bytes left) (ap e.And (sym c.2) ∙ p.0) refl p.1 (g.ExprAt.all unit c.3)

  pub expr_ok : (o : Open) (ts : List Token) (y : ExprTree × List Token) → expr_at bytes l o ts ≡ Ok y → g.ExprAt bytes left y.0 ts y.1
  expr_ok o ts y h =
      let s = bind_ok (unit_at bytes l o ts) _ y h in
      joined_ok o s.0.0 _ _ ts s.0.1 y refl refl (unit_ok o ts s.0 s.1) s.2

  pub group_ok : (t : Token) (rest : List Token) (y : ExprTree × List Token) → t.kind ≡ k.LeftParen → group_at bytes l t rest ≡ Ok y → g.GroupAt bytes (suc left) y.0 (t ∷ rest) y.1
  group_ok t rest y is h =
      let s = bind_ok (expr_at bytes l (Some t.span.start) rest) _ y h in
      let s2 = bind_ok (expect k.RightParen (Some t.span.start) s.0.1) _ y s.2 in
      let c = expect_ok k.RightParen (Some t.span.start) s.0.1 s2.0 s2.1 in
      let p = pure_ok _ s2.0.1 y s2.2 in
      let inner : g.ExprAt bytes left s.0.0 rest (s2.0.0 ∷ s2.0.1) = move (g.ExprAt bytes left) refl refl c.0 (expr_ok (Some t.span.start) rest s.0 s.1) in
      move (g.GroupAt bytes (suc left)) p.0 refl p.1 (g.GroupAt.group is inner c.1)

  negated_ok : (o : Open) (n : Token) (kind : Kind) (t : Token) (rest : List Token) (x : ExprTree × List Token) → n.kind ≡ k.Not → t.kind ≡ kind → negated_by bytes l o kind t rest ≡ Ok x → g.UnitAt bytes (suc left) (e.Not x.0) (n ∷ t ∷ rest) x.1
  negated_ok o n k.LeftParen t rest x is_n is h = g.UnitAt.not_grouped is_n (deep.groups t rest x is h)
  negated_ok o n k.Prifilt t rest x is_n is h = g.UnitAt.not_selected is_n (prifilt_ok bytes o t rest x is h)
  negated_ok o n _ t rest x is_n is h = absurd cc

  pub negation_ok : (o : Open) (n : Token) (rest : List Token) (y : ExprTree × List Token) → n.kind ≡ k.Not → negation_at bytes l o rest ≡ Ok y → g.UnitAt bytes (suc left) y.0 (n ∷ rest) y.1
  negation_ok o n rest y is h =
      let s = bind_ok (first o rest) _ y h in
      let s2 = bind_ok (negated_by bytes l o s.0.0.kind s.0.0 s.0.1) _ y s.2 in
      let p = pure_ok _ s2.0.1 y s2.2 in
      move (g.UnitAt bytes (suc left)) p.0 (ap (λ r. n ∷ r) (sym (first_ok o rest s.0 s.1))) p.1 (negated_ok o n s.0.0.kind s.0.0 s.0.1 s2.0 is refl s2.1)

pub level_ok : (bytes : List ℕ) (left : ℕ) → Sound bytes left (level bytes left)
unfolding level
level_ok bytes zero = record { groups = λ t rest y is h. absurd cc; negations = λ o t rest y is h. absurd cc }
level_ok bytes (suc left) = record {
  groups = group_ok bytes left (level bytes left) (level_ok bytes left);
  negations = negation_ok bytes left (level bytes left) (level_ok bytes left);
}

pub whole_ok : (bytes : List ℕ) (left : ℕ) (o : Open) (ts : List Token) (y : ExprTree × List Token) → expr bytes left o ts ≡ Ok y → g.ExprAt bytes left y.0 ts y.1
unfolding expr
whole_ok bytes left o ts y h = expr_ok bytes left (level bytes left) (level_ok bytes left) o ts y h
