-- What stands where the reading of an expression stops.
use Rattle.std.proofs.Common.{◌≡◌, ℕ, zero, suc, Bool, true, false, List, [], ◌∷◌, ◌++◌, length, Option, Some, None, Ok, Err, refl, ap, subst}
use Rattle.std.specs.Prelude.{is_some}
use Rattle.sy_script.specs.declared.token.Kind.{Kind}
use Rattle.sy_script.specs.declared.token.Kind.TheVariants as k
use Rattle.sy_script.specs.declared.token.Token.{Token}
use Rattle.sy_script.specs.declared.halt.Halt.{Halt}
use Rattle.sy_script.specs.declared.tree.Operator.{Operator}
use Rattle.sy_script.specs.declared.tree.Operand.{Operand}
use Rattle.sy_script.specs.declared.tree.ExprTree.{ExprTree}
use Rattle.sy_script.specs.Terms.{operator_of}
use Rattle.sy_script.specs.internal.Reading.{Parser, Open, and_then, first, expect, behind, text}
use Rattle.sy_script.specs.internal.ReadingExpr.{operand_by, operand, compared_by, comparison, prifilt, Level, unit_by, unit_at, part_behind, chain_from, chain_at, joined_by, expr_at, group_at, negated_by, negation_at, level, expr}
use Rattle.sy_script.specs.Grammar as g
use Rattle.sy_script.specs.Brackets.{opens, is_bracket, Balanced}
use Rattle.sy_script.specs.Standing.{is_joint, ExprPlace, UnitPlace, JointPlace, GroupPlace}
use Rattle.sy_script.specs.Faults.{Deepens}
use Rattle.sy_script.proofs.Sound.{behind_ok, first_ok, expect_ok, text_ok, move}
use Rattle.sy_script.proofs.SoundExpr.{unit_ok, expr_ok, level_ok}
use Rattle.sy_script.proofs.Balance.{operator_plain, text_plain, unit_balanced, expr_balanced}
use Rattle.sy_script.proofs.Moves.{expr_moves}
use Rattle.sy_script.proofs.Holes.{tok, Fits, Hole, fits, over, AUnit, AGroup, APrifilt, a_unit, a_prifilt, unit_hole, group_hole}
use Rattle.sy_script.proofs.Reported.{IsOpen, open_on, open_in, open_plain, open_as, Reported, reported_as, bind_reported, pure_reported, fits_as, hole_as, stray, first_reported, expect_reported, text_reported}

module _ (bytes : List ℕ) (ts : List Token) where
  operand_by_reported : (kind : Kind) (t : Token) (us : List Token) (h : Halt) → Fits bytes ts (t ∷ us) → operand_by bytes kind t us ≡ Err h → Reported bytes ts h
  operand_by_reported k.Number t us h f e = absurd cc
  operand_by_reported k.Quoted t us h f e = absurd cc
  operand_by_reported k.SingleQuoted t us h f e = absurd cc
  operand_by_reported _ t us h f e = reported_as bytes ts {A = Operand} e (stray bytes ts t us f)

  operand_reported : (o : Open) (us : List Token) (h : Halt) → IsOpen ts o us → Fits bytes ts us → operand bytes o us ≡ Err h → Reported bytes ts h
  unfolding operand
  operand_reported o us h is f e = bind_reported bytes ts (first o us) _ h e (first_reported bytes ts o us h is f) (λ x ok. operand_by_reported x.0.kind x.0 x.1 h (fits_as bytes ts (first_ok o us x ok) f))

  -- after a property, and after the operator
  signed : (p : Token) (us : List Token) → p.kind ≡ k.Property → Hole bytes ts (AUnit bytes) (p ∷ us) → Fits bytes ts us
  signed p us is_p hole =
      let P : List Token → Type 0 = λ v. AUnit bytes (p ∷ v) in
      fits P (over (AUnit bytes) P hole (p ∷ []) refl (λ w q. q)) (tok k.Equal ∷ tok k.Number ∷ []) (0, _, g.UnitAt.compared is_p refl (g.OperandAt.number refl))

  against : (p sign : Token) (operator : Operator) (us : List Token) → p.kind ≡ k.Property → operator_of sign.kind ≡ Some operator → Hole bytes ts (AUnit bytes) (p ∷ sign ∷ us) → Fits bytes ts us
  against p sign operator us is_p is_o hole =
      let P : List Token → Type 0 = λ v. AUnit bytes (p ∷ sign ∷ v) in
      fits P (over (AUnit bytes) P hole (p ∷ sign ∷ []) refl (λ w q. q)) (tok k.Number ∷ []) (0, _, g.UnitAt.compared is_p is_o (g.OperandAt.number refl))

  compared_reported : (p : Token) (o : Open) (sign : Token) (operator : Option Operator) (us : List Token) (h : Halt) → p.kind ≡ k.Property → operator_of sign.kind ≡ operator → IsOpen ts o (sign ∷ us) → Hole bytes ts (AUnit bytes) (p ∷ sign ∷ us) → compared_by bytes p o sign operator us ≡ Err h → Reported bytes ts h
  compared_reported p o sign None us h is_p is_o is hole e = reported_as bytes ts {A = ExprTree} e (stray bytes ts sign us (signed p (sign ∷ us) is_p hole))
  compared_reported p o sign (Some operator) us h is_p is_o is hole e = bind_reported bytes ts (operand bytes o us) _ h e (operand_reported o us h (open_on is (Balanced.other (operator_plain sign.kind operator is_o) Balanced.none)) (against p sign operator us is_p is_o hole)) (λ x ok. pure_reported bytes ts _ x.1 h)

  comparison_reported : (p : Token) (o : Open) (us : List Token) (h : Halt) → p.kind ≡ k.Property → IsOpen ts o us → Hole bytes ts (AUnit bytes) (p ∷ us) → comparison bytes p o us ≡ Err h → Reported bytes ts h
  unfolding comparison
  comparison_reported p o us h is_p is hole e = bind_reported bytes ts (first o us) _ h e (first_reported bytes ts o us h is (signed p us is_p hole)) (λ x ok.
      compared_reported p o x.0 (operator_of x.0.kind) x.1 h is_p refl (open_as (first_ok o us x ok) is) (hole_as bytes ts (AUnit bytes) (ap (λ r. p ∷ r) (first_ok o us x ok)) hole))

  prifilt_reported : (w : Token) (o : Open) (us : List Token) (h : Halt) → w.kind ≡ k.Prifilt → IsOpen ts o us → Hole bytes ts (λ v. APrifilt bytes (w ∷ v)) us → prifilt bytes o us ≡ Err h → Reported bytes ts h
  unfolding prifilt
  prifilt_reported w o us h is_w is hole e = bind_reported bytes ts (expect k.LeftParen o us) _ h e (expect_reported bytes ts k.LeftParen o us h is (fits (λ v. APrifilt bytes (w ∷ v)) hole (tok k.LeftParen ∷ tok k.Quoted ∷ tok k.RightParen ∷ []) (_, g.PrifiltAt.prifilt is_w refl refl refl))) (λ x ok e2.
      let p = expect_ok k.LeftParen o us x ok in
      let P : List Token → Type 0 = λ v. APrifilt bytes (w ∷ x.0 ∷ v) in
      let hole2 : Hole bytes ts P x.1 = over (λ v. APrifilt bytes (w ∷ v)) P hole (x.0 ∷ []) p.0 (λ v q. q) in
      let s : Open = Some x.0.span.start in
      let is2 : IsOpen ts s x.1 = open_in x.0 x.1 (open_as p.0 is) (ap opens p.1) in
      bind_reported bytes ts (text bytes s x.1) _ h e2 (text_reported bytes ts s x.1 h is2 (fits P hole2 (tok k.Quoted ∷ tok k.RightParen ∷ []) (_, g.PrifiltAt.prifilt is_w p.1 refl refl))) (λ y ok2 e3.
      let v = text_ok bytes s x.1 y ok2 in
      let Q : List Token → Type 0 = λ r. APrifilt bytes (w ∷ x.0 ∷ v.0 ∷ r) in
      let hole3 : Hole bytes ts Q y.1 = over P Q hole2 (v.0 ∷ []) v.1 (λ r q. q) in
      let is3 : IsOpen ts s y.1 = open_on (open_as v.1 is2) (Balanced.other (text_plain v.0.kind v.2) Balanced.none) in
      bind_reported bytes ts (expect k.RightParen s y.1) _ h e3 (expect_reported bytes ts k.RightParen s y.1 h is3 (fits Q hole3 (tok k.RightParen ∷ []) (_, g.PrifiltAt.prifilt is_w p.1 v.2 refl))) (λ z ok3. pure_reported bytes ts _ z.1 h)))

  record Deep (left : ℕ) (l : Level) : Type 0 where
    groups : (o : Open) (t : Token) (us : List Token) (h : Halt) → t.kind ≡ k.LeftParen → GroupPlace bytes ts left (t ∷ us) → IsOpen ts o (t ∷ us) → l.group t us ≡ Err h → Reported bytes ts h
    negations : (o : Open) (t : Token) (us : List Token) (h : Halt) → t.kind ≡ k.Not → UnitPlace bytes ts left (t ∷ us) → IsOpen ts o (t ∷ us) → l.negation o t us ≡ Err h → Reported bytes ts h

  chain_cases : (b : Option (List Token)) (part : Parser ExprTree) (found : List ExprTree) (us : List Token) (more : ExprTree → Parser (List ExprTree)) (h : Halt) → part_behind b part found us more ≡ Err h →
      (after : List Token) × (b ≡ Some after) × (and_then (part after) more ≡ Err h)
  chain_cases None part found us more h e = absurd cc
  chain_cases (Some after) part found us more h e = (after, refl, e)

  joint_plain : (kind : Kind) → is_joint kind ≡ true → is_bracket kind ≡ false
  joint_plain k.LeftParen h = absurd cc
  joint_plain k.RightParen h = absurd cc
  joint_plain k.LeftBrace h = absurd cc
  joint_plain k.RightBrace h = absurd cc
  joint_plain _ h = refl

  module _ (left : ℕ) (deep : Deep left (level bytes left)) where
    unit_fits : {us : List Token} → UnitPlace bytes ts left us → Fits bytes ts us
    unit_fits place = fits (AUnit bytes) (unit_hole bytes ts place) _ (a_unit bytes)

    unit_by_reported : (o : Open) (kind : Kind) (t : Token) (us : List Token) (h : Halt) → t.kind ≡ kind → UnitPlace bytes ts left (t ∷ us) → IsOpen ts o (t ∷ us) → unit_by bytes (level bytes left) o kind t us ≡ Err h → Reported bytes ts h
    unit_by_reported o k.LeftParen t us h same place is e = deep.groups o t us h same (GroupPlace.unit place) is e
    unit_by_reported o k.Not t us h same place is e = deep.negations o t us h same place is e
    unit_by_reported o k.Prifilt t us h same place is e =
        prifilt_reported t o us h same (open_plain t us is same refl) (over (AUnit bytes) (λ v. APrifilt bytes (t ∷ v)) (unit_hole bytes ts place) (t ∷ []) refl (λ w q. (0, q.0, g.UnitAt.selected q.1))) e
    unit_by_reported o k.Property t us h same place is e = comparison_reported t o us h same (open_plain t us is same refl) (unit_hole bytes ts place) e
    unit_by_reported o _ t us h same place is e = reported_as bytes ts {A = ExprTree} e (stray bytes ts t us (unit_fits place))

    unit_place : {us vs : List Token} → us ≡ vs → UnitPlace bytes ts left us → UnitPlace bytes ts left vs
    unit_place e p = let P : List Token → Type 0 = λ v. UnitPlace bytes ts left v in subst P e p

    unit_reported : (o : Open) (us : List Token) (h : Halt) → UnitPlace bytes ts left us → IsOpen ts o us → unit_at bytes (level bytes left) o us ≡ Err h → Reported bytes ts h
    unit_reported o us h place is e = bind_reported bytes ts (first o us) _ h e (first_reported bytes ts o us h is (unit_fits place)) (λ x ok.
        let same = first_ok o us x ok in unit_by_reported o x.0.kind x.0 x.1 h refl (unit_place same place) (open_as same is))

    unit_read : (o : Open) (us : List Token) (x : ExprTree × List Token) → unit_at bytes (level bytes left) o us ≡ Ok x → g.UnitAt bytes left x.0 us x.1
    unit_read o us x ok = unit_ok bytes left (level bytes left) (level_ok bytes left) o us x ok

    -- what is left where a unit has been read, with the place of the one that may follow
    chain_reported : (o : Open) (joint : Kind) (n : ℕ) (found : List ExprTree) (us : List Token) (h : Halt) → is_joint joint ≡ true →
        ((j : Token) (after : List Token) → us ≡ j ∷ after → j.kind ≡ joint → JointPlace bytes ts left joint after) → IsOpen ts o us →
        chain_from joint (unit_at bytes (level bytes left) o) n found us ≡ Err h → Reported bytes ts h
    unfolding chain_from
    chain_reported o joint zero found us h is_j place is e = absurd cc
    chain_reported o joint (suc n) found us h is_j place is e =
        let w = chain_cases (behind joint us) (unit_at bytes (level bytes left) o) found us _ h e in
        let c = behind_ok joint us w.0 w.1 in
        let at : JointPlace bytes ts left joint w.0 = place c.0 w.0 c.1 c.2 in
        let is2 : IsOpen ts o w.0 = open_plain c.0 w.0 (open_as c.1 is) c.2 (joint_plain joint is_j) in
        bind_reported bytes ts (unit_at bytes (level bytes left) o w.0) _ h w.2 (unit_reported o w.0 h (UnitPlace.next at) is2) (λ x ok e2.
        let u = unit_read o w.0 x ok in
        chain_reported o joint n (found ++ x.0 ∷ []) x.1 h is_j (λ j after same is_joint. JointPlace.more at (move (g.UnitAt bytes left) refl refl same u) is_joint) (open_on is2 (unit_balanced u)) e2)

    joined_reported : (o : Open) (start : ExprTree) (us mid : List Token) (b c : Bool) (h : Halt) → ExprPlace bytes ts left us → g.UnitAt bytes left start us mid → IsOpen ts o mid → joined_by bytes (level bytes left) o start b c mid ≡ Err h → Reported bytes ts h
    joined_reported o start us mid true c h place u is e = bind_reported bytes ts (chain_at bytes (level bytes left) o k.Or start mid) _ h e
        (chain_reported o k.Or (length mid) (start ∷ []) mid h refl (λ j after same is_or. JointPlace.one place (move (g.UnitAt bytes left) refl refl same u) is_or refl) is) (λ x ok. pure_reported bytes ts _ x.1 h)
    joined_reported o start us mid false true h place u is e = bind_reported bytes ts (chain_at bytes (level bytes left) o k.And start mid) _ h e
        (chain_reported o k.And (length mid) (start ∷ []) mid h refl (λ j after same is_and. JointPlace.one place (move (g.UnitAt bytes left) refl refl same u) is_and refl) is) (λ x ok. pure_reported bytes ts _ x.1 h)
    joined_reported o start us mid false false h place u is e = pure_reported bytes ts _ mid h e

    expr_reported : (o : Open) (us : List Token) (h : Halt) → ExprPlace bytes ts left us → IsOpen ts o us → expr_at bytes (level bytes left) o us ≡ Err h → Reported bytes ts h
    expr_reported o us h place is e = bind_reported bytes ts (unit_at bytes (level bytes left) o us) _ h e (unit_reported o us h (UnitPlace.start place) is) (λ x ok.
        let u = unit_read o us x ok in
        joined_reported o x.0 us x.1 (is_some (behind k.Or x.1)) (is_some (behind k.And x.1)) h place u (open_on is (unit_balanced u)))

    expr_read : (o : Open) (us : List Token) (x : ExprTree × List Token) → expr_at bytes (level bytes left) o us ≡ Ok x → g.ExprAt bytes left x.0 us x.1
    expr_read o us x ok = expr_ok bytes left (level bytes left) (level_ok bytes left) o us x ok

    -- after the expression of a parenthesis
    enclosed : (t : Token) (us mid : List Token) (x : ExprTree) → t.kind ≡ k.LeftParen → GroupPlace bytes ts (suc left) (t ∷ us) → g.ExprAt bytes left x us mid → Fits bytes ts mid
    enclosed t us mid x same place d =
        let m = expr_moves d in
        let P : List Token → Type 0 = λ v. AGroup bytes (t ∷ (m.0 ++ v)) in
        fits P (over (AGroup bytes) P (group_hole bytes ts place) (t ∷ m.0) (ap (λ r. t ∷ r) m.1) (λ v q. q)) (tok k.RightParen ∷ []) (suc left, _, g.GroupAt.group same (m.2 (tok k.RightParen ∷ []) (λ a b. cc)) refl)

    group_reported : (o : Open) (t : Token) (us : List Token) (h : Halt) → t.kind ≡ k.LeftParen → GroupPlace bytes ts (suc left) (t ∷ us) → IsOpen ts o (t ∷ us) → group_at bytes (level bytes left) t us ≡ Err h → Reported bytes ts h
    group_reported o t us h same place is e =
        let s : Open = Some t.span.start in
        let is2 : IsOpen ts s us = open_in t us is (ap opens same) in
        bind_reported bytes ts (expr_at bytes (level bytes left) s us) _ h e (expr_reported s us h (ExprPlace.group place same) is2) (λ x ok e2.
        bind_reported bytes ts (expect k.RightParen s x.1) _ h e2 (expect_reported bytes ts k.RightParen s x.1 h (open_on is2 (expr_balanced (expr_read s us x ok))) (enclosed t us x.1 x.0 same place (expr_read s us x ok))) (λ y ok2. pure_reported bytes ts _ y.1 h))

    -- after `not`
    negated : (n : Token) (us : List Token) → n.kind ≡ k.Not → UnitPlace bytes ts (suc left) (n ∷ us) → Fits bytes ts us
    negated n us is_not place =
        let P : List Token → Type 0 = λ v. AUnit bytes (n ∷ v) in
        fits P (over (AUnit bytes) P (unit_hole bytes ts place) (n ∷ []) refl (λ w q. q)) _ (let p = a_prifilt bytes in (1, _, g.UnitAt.not_selected is_not p.1))

    negated_reported : (o : Open) (kind : Kind) (t n : Token) (us : List Token) (h : Halt) → t.kind ≡ kind → n.kind ≡ k.Not → UnitPlace bytes ts (suc left) (n ∷ t ∷ us) → IsOpen ts o (t ∷ us) → negated_by bytes (level bytes left) o kind t us ≡ Err h → Reported bytes ts h
    negated_reported o k.LeftParen t n us h same is_not place is e = deep.groups o t us h same (GroupPlace.negated place is_not) is e
    negated_reported o k.Prifilt t n us h same is_not place is e =
        prifilt_reported t o us h same (open_plain t us is same refl) (over (AUnit bytes) (λ v. APrifilt bytes (t ∷ v)) (unit_hole bytes ts place) (n ∷ t ∷ []) refl (λ w q. (1, _, g.UnitAt.not_selected is_not q.1))) e
    negated_reported o _ t n us h same is_not place is e = reported_as bytes ts {A = ExprTree} e (stray bytes ts t us (negated n (t ∷ us) is_not place))

    negation_reported : (o : Open) (n : Token) (us : List Token) (h : Halt) → n.kind ≡ k.Not → UnitPlace bytes ts (suc left) (n ∷ us) → IsOpen ts o (n ∷ us) → negation_at bytes (level bytes left) o us ≡ Err h → Reported bytes ts h
    negation_reported o n us h is_not place is e =
        let is2 : IsOpen ts o us = open_plain n us is is_not refl in
        bind_reported bytes ts (first o us) _ h e (first_reported bytes ts o us h is2 (negated n us is_not place)) (λ x ok e2.
        let same = first_ok o us x ok in
        let at : UnitPlace bytes ts (suc left) (n ∷ x.0 ∷ x.1) = (let P : List Token → Type 0 = λ v. UnitPlace bytes ts (suc left) (n ∷ v) in subst P same place) in
        bind_reported bytes ts (negated_by bytes (level bytes left) o x.0.kind x.0 x.1) _ h e2 (negated_reported o x.0.kind x.0 n x.1 h refl is_not at (open_as same is2)) (λ y ok2. pure_reported bytes ts _ y.1 h))

  level_reported : (left : ℕ) → Deep left (level bytes left)
  unfolding level
  level_reported zero = record {
    groups = λ o t us h same place is e. reported_as bytes ts {A = ExprTree} e (t, refl, Deepens.group place same);
    negations = λ o t us h same place is e. reported_as bytes ts {A = ExprTree} e (t, refl, Deepens.negation place same);
  }
  level_reported (suc left) = record { groups = group_reported left (level_reported left); negations = negation_reported left (level_reported left) }

  pub whole_expr_reported : (left : ℕ) (o : Open) (us : List Token) (h : Halt) → ExprPlace bytes ts left us → IsOpen ts o us → expr bytes left o us ≡ Err h → Reported bytes ts h
  unfolding expr
  whole_expr_reported left o us h place is e = expr_reported left (level_reported left) o us h place is e
