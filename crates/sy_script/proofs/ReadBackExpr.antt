-- What is an expression in the grammar is read.
use Rattle.std.proofs.Common.{◌≡◌, ◌≤◌, ℕ, zero, suc, true, false, List, [], ◌∷◌, ◌++◌, length, Some, None, Ok, refl, sym, ap, ◌∙◌, append_assoc, append-nil, arith}
use Rattle.std.specs.Prelude.{is_some}
use Rattle.sy_script.specs.declared.token.Kind.{Kind}
use Rattle.sy_script.specs.declared.token.Kind.TheVariants as k
use Rattle.sy_script.specs.declared.token.Token.{Token}
use Rattle.sy_script.specs.declared.tree.Operator.{Operator}
use Rattle.sy_script.specs.declared.tree.Operand.{Operand}
use Rattle.sy_script.specs.declared.tree.Operand.TheVariants as value
use Rattle.sy_script.specs.declared.tree.ExprTree.{ExprTree}
use Rattle.sy_script.specs.declared.tree.ExprTree.TheVariants as e
use Rattle.sy_script.specs.Terms.{comparison_of, is_text, operator_of, text_of}
use Rattle.sy_script.specs.internal.Reading.{Parser, Open, same_kind, expect, behind, text}
use Rattle.sy_script.specs.internal.ReadingExpr.{operand_by, operand, compared_by, comparison, prifilt, Level, unit_by, unit_at, part_behind, chain_from, chain_at, joined_by, expr_at, negated_by, negation_at, level, expr}
use Rattle.sy_script.specs.Grammar as g
use Rattle.sy_script.proofs.Takes.{unit_takes}
use Rattle.sy_script.proofs.ReadBack.{then_reads, expect_reads, behind_reads, behind_other, text_reads}

-- ---- parts without an expression

text_operand : (bytes : List ℕ) (kind : Kind) (v : Token) (rest : List Token) → is_text kind ≡ true → operand_by bytes kind v rest ≡ Ok (value.Text (text_of bytes v.span), rest)
text_operand bytes k.Quoted v rest h = refl
text_operand bytes k.SingleQuoted v rest h = refl
text_operand bytes _ v rest h = absurd cc

operand_reads : {bytes : List ℕ} (o : Open) {x : Operand} {ts rest : List Token} → g.OperandAt bytes x ts rest → operand bytes o ts ≡ Ok (x, rest)
unfolding operand
operand_reads {bytes} o (g.OperandAt.number {n = n} {rest = rest} h) = ap (λ kind. operand_by bytes kind n rest) h
operand_reads {bytes} o (g.OperandAt.string {v = v} {rest = rest} h) = text_operand bytes v.kind v rest h

comparison_reads : {bytes : List ℕ} (p sign : Token) (o : Open) (operator : Operator) {x : Operand} {ts rest : List Token} → operator_of sign.kind ≡ Some operator → g.OperandAt bytes x ts rest →
    comparison bytes p o (sign ∷ ts) ≡ Ok (comparison_of bytes p sign operator x, rest)
unfolding comparison
comparison_reads {bytes} p sign o operator {x} {ts} {rest} h d =
    ap (λ operator. compared_by bytes p o sign operator ts) h ∙ then_reads (operand bytes o ts) _ x rest _ (operand_reads o d) refl

prifilt_tail : (bytes : List ℕ) (o : Open) (p v c : Token) (rest : List Token) → p.kind ≡ k.LeftParen → is_text v.kind ≡ true → c.kind ≡ k.RightParen →
    prifilt bytes o (p ∷ v ∷ c ∷ rest) ≡ Ok (e.Prifilt (text_of bytes v.span), rest)
unfolding prifilt
prifilt_tail bytes o p v c rest is_p is_v is_c =
    then_reads (expect k.LeftParen o (p ∷ v ∷ c ∷ rest)) _ _ _ _ (expect_reads k.LeftParen o p (v ∷ c ∷ rest) is_p)
    (then_reads (text bytes (Some p.span.start) (v ∷ c ∷ rest)) _ _ _ _ (text_reads bytes (Some p.span.start) v (c ∷ rest) is_v)
    (then_reads (expect k.RightParen (Some p.span.start) (c ∷ rest)) _ _ _ _ (expect_reads k.RightParen (Some p.span.start) c rest is_c) refl))

prifilt_unit : {bytes : List ℕ} (l : Level) (o : Open) {x : ExprTree} {ts rest : List Token} → g.PrifiltAt bytes x ts rest → unit_at bytes l o ts ≡ Ok (x, rest)
prifilt_unit {bytes} l o (g.PrifiltAt.prifilt {w = w} {o = p} {v = v} {c = c} {rest = rest} is_w is_p is_v is_c) =
    ap (λ kind. unit_by bytes l o kind w (p ∷ v ∷ c ∷ rest)) is_w ∙ prifilt_tail bytes o p v c rest is_p is_v is_c

prifilt_negated : {bytes : List ℕ} (l : Level) (o : Open) {x : ExprTree} {ts rest : List Token} → g.PrifiltAt bytes x ts rest → negation_at bytes l o ts ≡ Ok (e.Not x, rest)
prifilt_negated {bytes} l o (g.PrifiltAt.prifilt {w = w} {o = p} {v = v} {c = c} {rest = rest} is_w is_p is_v is_c) =
    then_reads (negated_by bytes l o w.kind w (p ∷ v ∷ c ∷ rest)) _ _ _ _ (ap (λ kind. negated_by bytes l o kind w (p ∷ v ∷ c ∷ rest)) is_w ∙ prifilt_tail bytes o p v c rest is_p is_v is_c) refl

-- ---- a parenthesis, as a unit and after `not`

group_unit : (bytes : List ℕ) (l : Level) (o : Open) (t : Token) (ts rest : List Token) (x : ExprTree) → t.kind ≡ k.LeftParen → l.group t ts ≡ Ok (x, rest) → unit_at bytes l o (t ∷ ts) ≡ Ok (x, rest)
group_unit bytes l o t ts rest x is h = ap (λ kind. unit_by bytes l o kind t ts) is ∙ h

group_negated : (bytes : List ℕ) (l : Level) (o : Open) (t : Token) (ts rest : List Token) (x : ExprTree) → t.kind ≡ k.LeftParen → l.group t ts ≡ Ok (x, rest) → negation_at bytes l o (t ∷ ts) ≡ Ok (e.Not x, rest)
group_negated bytes l o t ts rest x is h =
    then_reads (negated_by bytes l o t.kind t ts) _ x rest _ (ap (λ kind. negated_by bytes l o kind t ts) is ∙ h) refl

not_unit : (bytes : List ℕ) (left : ℕ) (o : Open) (n : Token) (ts rest : List Token) (x : ExprTree) → n.kind ≡ k.Not → negation_at bytes (level bytes left) o ts ≡ Ok (x, rest) → unit_at bytes (level bytes (suc left)) o (n ∷ ts) ≡ Ok (x, rest)
unfolding level
not_unit bytes left o n ts rest x is h = ap (λ kind. unit_by bytes (level bytes (suc left)) o kind n ts) is ∙ h

compared_unit : (bytes : List ℕ) (l : Level) (o : Open) (p : Token) (ts rest : List Token) (x : ExprTree) → p.kind ≡ k.Property → comparison bytes p o ts ≡ Ok (x, rest) → unit_at bytes l o (p ∷ ts) ≡ Ok (x, rest)
compared_unit bytes l o p ts rest x is h = ap (λ kind. unit_by bytes l o kind p ts) is ∙ h

-- no further part follows
pub record NoJoint (rest : List Token) : Type 0 where
  pub no_or : behind k.Or rest ≡ None
  pub no_and : behind k.And rest ≡ None

pub no_joint : (a : Kind) (t : Token) (rest : List Token) → t.kind ≡ a → same_kind a k.Or ≡ false → same_kind a k.And ≡ false → NoJoint (t ∷ rest)
no_joint a t rest is or and = record { no_or = behind_other k.Or a t rest is or; no_and = behind_other k.And a t rest is and }

paren_no_joint : (t : Token) (rest : List Token) → t.kind ≡ k.RightParen → NoJoint (t ∷ rest)
unfolding same_kind
paren_no_joint t rest is = no_joint k.RightParen t rest is refl refl

pub then_no_joint : (t : Token) (rest : List Token) → t.kind ≡ k.Then → NoJoint (t ∷ rest)
unfolding same_kind
then_no_joint t rest is = no_joint k.Then t rest is refl refl

grouped : (bytes : List ℕ) (left : ℕ) (p c : Token) (ts rest : List Token) (x : ExprTree) → expr_at bytes (level bytes left) (Some p.span.start) ts ≡ Ok (x, c ∷ rest) → c.kind ≡ k.RightParen → (level bytes (suc left)).group p ts ≡ Ok (e.Group x, rest)
unfolding level
grouped bytes left p c ts rest x h is =
    then_reads (expr_at bytes (level bytes left) (Some p.span.start) ts) _ x (c ∷ rest) _ h
    (then_reads (expect k.RightParen (Some p.span.start) (c ∷ rest)) _ _ _ _ (expect_reads k.RightParen (Some p.span.start) c rest is) refl)

chain_end : (joint : Kind) (part : Parser ExprTree) (n : ℕ) (found : List ExprTree) (ts : List Token) → behind joint ts ≡ None → chain_from joint part n found ts ≡ Ok (found ++ [], ts)
unfolding chain_from
chain_end joint part zero found ts h = ap (λ l. Ok (l, ts)) (sym (append-nil found))
chain_end joint part (suc n) found ts h = ap (λ b. part_behind b part found ts (λ x. chain_from joint part n (found ++ x ∷ []))) h ∙ ap (λ l. Ok (l, ts)) (sym (append-nil found))

chain_more : (joint : Kind) (part : Parser ExprTree) (n : ℕ) (found xs : List ExprTree) (j : Token) (ts mid rest : List Token) (x : ExprTree) → j.kind ≡ joint → part ts ≡ Ok (x, mid) → chain_from joint part n (found ++ x ∷ []) mid ≡ Ok ((found ++ x ∷ []) ++ xs, rest) →
    chain_from joint part (suc n) found (j ∷ ts) ≡ Ok (found ++ x ∷ xs, rest)
unfolding chain_from
chain_more joint part n found xs j ts mid rest x is one more =
    ap (λ b. part_behind b part found (j ∷ ts) (λ x. chain_from joint part n (found ++ x ∷ []))) (behind_reads joint j ts is)
    ∙ (then_reads (part ts) _ x mid _ one more ∙ ap (λ l. Ok (l, rest)) (append_assoc found (x ∷ []) xs))

alone_expr : (bytes : List ℕ) (l : Level) (o : Open) (ts rest : List Token) (x : ExprTree) → unit_at bytes l o ts ≡ Ok (x, rest) → NoJoint rest → expr_at bytes l o ts ≡ Ok (x, rest)
alone_expr bytes l o ts rest x h none =
    then_reads (unit_at bytes l o ts) _ x rest _ h
    (ap (λ b. joined_by bytes l o x (is_some b) (is_some (behind k.And rest)) rest) none.no_or ∙ ap (λ b. joined_by bytes l o x false (is_some b) rest) none.no_and)

any_expr : (bytes : List ℕ) (l : Level) (o : Open) (j : Token) (ts us rest : List Token) (x : ExprTree) (xs : List ExprTree) → unit_at bytes l o ts ≡ Ok (x, j ∷ us) → j.kind ≡ k.Or → chain_at bytes l o k.Or x (j ∷ us) ≡ Ok (xs, rest) →
    expr_at bytes l o ts ≡ Ok (e.Or xs, rest)
any_expr bytes l o j ts us rest x xs h is more =
    then_reads (unit_at bytes l o ts) _ x (j ∷ us) _ h
    (ap (λ b. joined_by bytes l o x (is_some b) (is_some (behind k.And (j ∷ us))) (j ∷ us)) (behind_reads k.Or j us is)
    ∙ then_reads (chain_at bytes l o k.Or x (j ∷ us)) _ xs rest _ more refl)

pub and_not_or : (j : Token) (us : List Token) → j.kind ≡ k.And → behind k.Or (j ∷ us) ≡ None
unfolding same_kind
and_not_or j us is = behind_other k.Or k.And j us is refl

all_expr : (bytes : List ℕ) (l : Level) (o : Open) (j : Token) (ts us rest : List Token) (x : ExprTree) (xs : List ExprTree) → unit_at bytes l o ts ≡ Ok (x, j ∷ us) → j.kind ≡ k.And → chain_at bytes l o k.And x (j ∷ us) ≡ Ok (xs, rest) →
    expr_at bytes l o ts ≡ Ok (e.And xs, rest)
all_expr bytes l o j ts us rest x xs h is more =
    then_reads (unit_at bytes l o ts) _ x (j ∷ us) _ h
    (ap (λ b. joined_by bytes l o x (is_some b) (is_some (behind k.And (j ∷ us))) (j ∷ us)) (and_not_or j us is)
    ∙ (ap (λ b. joined_by bytes l o x false (is_some b) (j ∷ us)) (behind_reads k.And j us is)
    ∙ then_reads (chain_at bytes l o k.And x (j ∷ us)) _ xs rest _ more refl))

-- the first joint of a chain of at least one more part
pub record Joint (joint : Kind) (mid : List Token) : Type 0 where
  pub j : Token
  pub us : List Token
  pub is_mid : mid ≡ j ∷ us
  pub is_joint : j.kind ≡ joint

joint_of : {bytes : List ℕ} {left : ℕ} {joint : Kind} {x : ExprTree} {xs : List ExprTree} {mid rest : List Token} → g.MoreAt bytes left joint (x ∷ xs) mid rest → Joint joint mid
joint_of (g.MoreAt.more {j = j} {ts = ts} is a b) = record { j = j; us = ts; is_mid = refl; is_joint = is }

any_from : (bytes : List ℕ) (l : Level) (o : Open) (ts mid rest : List Token) (x : ExprTree) (xs : List ExprTree) → unit_at bytes l o ts ≡ Ok (x, mid) → Joint k.Or mid → chain_at bytes l o k.Or x mid ≡ Ok (xs, rest) → expr_at bytes l o ts ≡ Ok (e.Or xs, rest)
any_from bytes l o ts mid rest x xs h w more =
    any_expr bytes l o w.j ts w.us rest x xs (h ∙ ap (λ m. Ok (x, m)) w.is_mid) w.is_joint (ap (λ m. chain_at bytes l o k.Or x m) (sym w.is_mid) ∙ more)

all_from : (bytes : List ℕ) (l : Level) (o : Open) (ts mid rest : List Token) (x : ExprTree) (xs : List ExprTree) → unit_at bytes l o ts ≡ Ok (x, mid) → Joint k.And mid → chain_at bytes l o k.And x mid ≡ Ok (xs, rest) → expr_at bytes l o ts ≡ Ok (e.And xs, rest)
all_from bytes l o ts mid rest x xs h w more =
    all_expr bytes l o w.j ts w.us rest x xs (h ∙ ap (λ m. Ok (x, m)) w.is_mid) w.is_joint (ap (λ m. chain_at bytes l o k.And x m) (sym w.is_mid) ∙ more)

-- what a parenthesis begins
pub record Opens (bytes : List ℕ) (left : ℕ) (x : ExprTree) (ts rest : List Token) : Type 0 where
  pub t : Token
  pub us : List Token
  pub is_ts : ts ≡ t ∷ us
  pub is_paren : t.kind ≡ k.LeftParen
  pub reads : (level bytes left).group t us ≡ Ok (x, rest)

opens_unit : (bytes : List ℕ) (left : ℕ) (o : Open) (x : ExprTree) (ts rest : List Token) → Opens bytes left x ts rest → unit_at bytes (level bytes left) o ts ≡ Ok (x, rest)
opens_unit bytes left o x ts rest w = ap (unit_at bytes (level bytes left) o) w.is_ts ∙ group_unit bytes (level bytes left) o w.t w.us rest x w.is_paren w.reads

opens_negated : (bytes : List ℕ) (left : ℕ) (o : Open) (x : ExprTree) (ts rest : List Token) → Opens bytes left x ts rest → negation_at bytes (level bytes left) o ts ≡ Ok (e.Not x, rest)
opens_negated bytes left o x ts rest w = ap (negation_at bytes (level bytes left) o) w.is_ts ∙ group_negated bytes (level bytes left) o w.t w.us rest x w.is_paren w.reads

mutual
  group_opens : {bytes : List ℕ} {left : ℕ} {x : ExprTree} {ts rest : List Token} → g.GroupAt bytes left x ts rest → Opens bytes left x ts rest
  group_opens {bytes} (g.GroupAt.group {left = left} {o = p} {c = c} {x = x} {ts = ts} {rest = rest} is inner is_c) =
      record { t = p; us = ts; is_ts = refl; is_paren = is; reads = grouped bytes left p c ts rest x (expr_reads (Some p.span.start) (paren_no_joint c rest is_c) inner) is_c }

  pub unit_reads : {bytes : List ℕ} {left : ℕ} {x : ExprTree} {ts rest : List Token} (o : Open) → g.UnitAt bytes left x ts rest → unit_at bytes (level bytes left) o ts ≡ Ok (x, rest)
  unit_reads {bytes} o (g.UnitAt.grouped {left = left} {x = x} {ts = ts} {rest = rest} d) = opens_unit bytes left o x ts rest (group_opens d)
  unit_reads {bytes} o (g.UnitAt.not_grouped {left = left} {n = n} {x = x} {ts = ts} {rest = rest} is d) =
      not_unit bytes left o n ts rest (e.Not x) is (opens_negated bytes left o x ts rest (group_opens d))
  unit_reads {bytes} o (g.UnitAt.selected {left = left} d) = prifilt_unit (level bytes left) o d
  unit_reads {bytes} o (g.UnitAt.not_selected {left = left} {n = n} {x = x} {ts = ts} {rest = rest} is d) = not_unit bytes left o n ts rest (e.Not x) is (prifilt_negated (level bytes left) o d)
  unit_reads {bytes} o (g.UnitAt.compared {left = left} {p = p} {o = sign} {operator = operator} {operand = x} {ts = ts} {rest = rest} is_p is_o d) =
      compared_unit bytes (level bytes left) o p (sign ∷ ts) rest (comparison_of bytes p sign operator x) is_p (comparison_reads p sign o operator is_o d)

  more_reads : {bytes : List ℕ} {left : ℕ} {joint : Kind} {xs : List ExprTree} {ts rest : List Token} (o : Open) (n : ℕ) (found : List ExprTree) → length ts ≤ n → behind joint rest ≡ None → g.MoreAt bytes left joint xs ts rest →
      chain_from joint (unit_at bytes (level bytes left) o) n found ts ≡ Ok (found ++ xs, rest)
  more_reads {bytes} o n found small none (g.MoreAt.none {left = left} {joint = joint} {rest = rest}) = chain_end joint (unit_at bytes (level bytes left) o) n found rest none
  more_reads {bytes} o zero found small none (g.MoreAt.more a b c) = absurd (omega arith)
  more_reads {bytes} o (suc n) found small none (g.MoreAt.more {left = left} {joint = joint} {j = j} {x = x} {xs = xs} {ts = ts} {mid = mid} {rest = rest} is one others) =
      chain_more joint (unit_at bytes (level bytes left) o) n found xs j ts mid rest x is (unit_reads o one) (more_reads o n (found ++ x ∷ []) (omega (arith, unit_takes one)) none others)

  pub expr_reads : {bytes : List ℕ} {left : ℕ} {x : ExprTree} {ts rest : List Token} (o : Open) → NoJoint rest → g.ExprAt bytes left x ts rest → expr_at bytes (level bytes left) o ts ≡ Ok (x, rest)
  expr_reads {bytes} o none (g.ExprAt.alone {left = left} {x = x} {ts = ts} {rest = rest} a) = alone_expr bytes (level bytes left) o ts rest x (unit_reads o a) none
  expr_reads {bytes} o none (g.ExprAt.any {left = left} {x = x} {y = y} {xs = xs} {ts = ts} {mid = mid} {rest = rest} a b) =
      any_from bytes (level bytes left) o ts mid rest x (x ∷ y ∷ xs) (unit_reads o a) (joint_of b) (more_reads o (length mid) (x ∷ []) (omega arith) none.no_or b)
  expr_reads {bytes} o none (g.ExprAt.all {left = left} {x = x} {y = y} {xs = xs} {ts = ts} {mid = mid} {rest = rest} a b) =
      all_from bytes (level bytes left) o ts mid rest x (x ∷ y ∷ xs) (unit_reads o a) (joint_of b) (more_reads o (length mid) (x ∷ []) (omega arith) none.no_and b)

pub whole_reads : {bytes : List ℕ} {left : ℕ} {x : ExprTree} {ts rest : List Token} (o : Open) → NoJoint rest → g.ExprAt bytes left x ts rest → expr bytes left o ts ≡ Ok (x, rest)
unfolding expr
whole_reads o none d = expr_reads o none d
