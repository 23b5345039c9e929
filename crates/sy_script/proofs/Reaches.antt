-- Where a rule of the grammar may begin, reading comes there: if it stops there, it stops so altogether.
use Rattle.std.proofs.Common.{◌≡◌, ◌<◌, ◌≤◌, ℕ, zero, suc, true, false, List, [], ◌∷◌, ◌++◌, length, Some, None, Ok, Err, refl, ap, ◌∙◌, arith}
use Rattle.std.specs.Prelude.{is_some}
use Rattle.sy_script.specs.declared.token.Kind.{Kind}
use Rattle.sy_script.specs.declared.token.Kind.TheVariants as k
use Rattle.sy_script.specs.declared.token.Token.{Token}
use Rattle.sy_script.specs.declared.halt.Halt.{Halt}
use Rattle.sy_script.specs.declared.halt.Halt.TheVariants as halt
use Rattle.sy_script.specs.declared.tree.ExprTree.{ExprTree}
use Rattle.sy_script.specs.declared.tree.Param.{Param}
use Rattle.sy_script.specs.declared.tree.Block.{Block}
use Rattle.sy_script.specs.declared.tree.Stmt.{Stmt}
use Rattle.sy_script.specs.declared.tree.Top.{Top}
use Rattle.sy_script.specs.Terms.{max_depth, object_kind}
use Rattle.sy_script.specs.internal.Reading.{Outcome, Parser, Open, and_then, same_kind, expect, behind, turn, items_from, params}
use Rattle.sy_script.specs.internal.ReadingExpr.{unit_by, unit_at, part_behind, chain_from, chain_at, joined_by, expr_at, negated_by, level, expr}
use Rattle.sy_script.specs.internal.ReadingStmt.{refusal_by, too_deep_by, otherwise_by, stmt_at, block_by, block, stmt, body, rules, other_top, top_by, top, tops_from, tops}
use Rattle.sy_script.specs.Grammar as g
use Rattle.sy_script.specs.Standing.{is_joint, TopPlace, StmtPlace, BodyPlace, BlockPlace, ExprPlace, UnitPlace, JointPlace, GroupPlace}
use Rattle.sy_script.specs.Faults.{begins_block, is_left_out, Deepens, BeginsLeftOut}
use Rattle.sy_script.proofs.Takes.{unit_takes, stmt_takes, top_takes}
use Rattle.sy_script.proofs.ReadBack.{then_reads, same_is, expect_reads, behind_reads, behind_other, params_reads}
use Rattle.sy_script.proofs.ReadBackExpr.{then_no_joint, and_not_or, unit_reads, whole_reads}
use Rattle.sy_script.proofs.ReadBackStmt.{starts, by_kind, no_brace, stmt_reads, block_reads, top_reads}
use Rattle.sy_script.proofs.LocalStmt.{tops_err, tops_step}

-- what the tokens begin with where a statement begins
data Head : Kind → Type 0 where
  with_left_out : Head k.LeftOut
  with_property : Head k.Property
  with_if : Head k.If

head_object : {kind : Kind} → Head kind → object_kind kind ≡ None
head_object Head.with_left_out = refl
head_object Head.with_property = refl
head_object Head.with_if = refl

head_rules : {kind : Kind} → Head kind → same_kind kind k.Ruleset ≡ false
unfolding same_kind
head_rules Head.with_left_out = refl
head_rules Head.with_property = refl
head_rules Head.with_if = refl

head_open : {kind : Kind} → Head kind → same_kind kind k.LeftBrace ≡ false
unfolding same_kind
head_open Head.with_left_out = refl
head_open Head.with_property = refl
head_open Head.with_if = refl

head_close : {kind : Kind} → Head kind → same_kind kind k.RightBrace ≡ false
unfolding same_kind
head_close Head.with_left_out = refl
head_close Head.with_property = refl
head_close Head.with_if = refl

stops_then : {A B : Type 0} (r : Outcome A) (f : A → Parser B) (h : Halt) → r ≡ Err h → and_then r f ≡ Err h
stops_then r f h is = ap (λ r. and_then r f) is

-- what reading does in a body, with any number of turns left
abbrev InBody : List ℕ → Halt → ℕ → List Token → Type 0
InBody bytes h left us = (o : Open) (found : List Stmt) (m : ℕ) → length us ≤ m → items_from k.RightBrace o (stmt_at bytes left (block bytes left) o) m found us ≡ Err h

-- and at the top
abbrev AtTop : List ℕ → Halt → List Token → Type 0
AtTop bytes h us = (found : List Top) (m : ℕ) → length us ≤ m → tops_from bytes max_depth m found us ≡ Err h

-- and after `or` or `and`
abbrev InChain : List ℕ → Halt → ℕ → Kind → List Token → Type 0
InChain bytes h left joint us =
    (o : Open) (found : List ExprTree) (m : ℕ) → length us ≤ m → and_then (unit_at bytes (level bytes left) o us) (λ x. chain_from joint (unit_at bytes (level bytes left) o) m (found ++ x ∷ [])) ≡ Err h

module _ (bytes : List ℕ) (h : Halt) where
  -- ---- one step outwards

  stmt_top : (t : Token) (rest : List Token) (kind : Kind) → Head kind → t.kind ≡ kind → stmt_at bytes max_depth (block bytes max_depth) None (t ∷ rest) ≡ Err h → top bytes max_depth (t ∷ rest) ≡ Err h
  unfolding top stmt
  stmt_top t rest kind head is stops =
      ap (λ o. top_by bytes max_depth o t rest (t ∷ rest)) (ap object_kind is ∙ head_object head)
      ∙ (ap (λ b. other_top bytes max_depth b t rest (t ∷ rest)) (ap (λ kind. same_kind kind k.Ruleset) is ∙ head_rules head) ∙ stops_then (stmt bytes max_depth None (t ∷ rest)) _ h stops)

  body_stops : (left : ℕ) (o : Open) (m : ℕ) (found : List Stmt) (us : List Token) → behind k.RightBrace us ≡ None → stmt_at bytes left (block bytes left) o us ≡ Err h → 0 < m →
      items_from k.RightBrace o (stmt_at bytes left (block bytes left) o) m found us ≡ Err h
  unfolding items_from
  body_stops left o zero found us none stops some = absurd (omega arith)
  body_stops left o (suc m) found us none stops some =
      ap (λ b. turn b found (and_then (stmt_at bytes left (block bytes left) o us) (λ x. items_from k.RightBrace o (stmt_at bytes left (block bytes left) o) m (found ++ x ∷ [])))) none
      ∙ stops_then (stmt_at bytes left (block bytes left) o us) _ h stops

  body_goes : (left : ℕ) (o : Open) (m : ℕ) (found : List Stmt) (us : List Token) (x : Stmt) (mid : List Token) → behind k.RightBrace us ≡ None → stmt_at bytes left (block bytes left) o us ≡ Ok (x, mid) →
      length mid < length us → length us ≤ m → ((m' : ℕ) → length mid ≤ m' → items_from k.RightBrace o (stmt_at bytes left (block bytes left) o) m' (found ++ x ∷ []) mid ≡ Err h) →
      items_from k.RightBrace o (stmt_at bytes left (block bytes left) o) m found us ≡ Err h
  unfolding items_from
  body_goes left o zero found us x mid none one less small more = absurd (omega arith)
  body_goes left o (suc m) found us x mid none one less small more =
      ap (λ b. turn b found (and_then (stmt_at bytes left (block bytes left) o us) (λ x. items_from k.RightBrace o (stmt_at bytes left (block bytes left) o) m (found ++ x ∷ [])))) none
      ∙ then_reads (stmt_at bytes left (block bytes left) o us) _ x mid _ one (more m (omega arith))

  single_stops : (left : ℕ) (o : Open) (t : Token) (rest : List Token) (kind : Kind) → Head kind → t.kind ≡ kind → stmt_at bytes left (block bytes left) o (t ∷ rest) ≡ Err h → block bytes (suc left) o (t ∷ rest) ≡ Err h
  unfolding block
  single_stops left o t rest kind head is stops =
      ap (λ b. block_by bytes left (block bytes left) o b t rest (t ∷ rest)) (ap (λ kind. same_kind kind k.LeftBrace) is ∙ head_open head)
      ∙ stops_then (stmt_at bytes left (block bytes left) o (t ∷ rest)) _ h stops

  braced_stops : (left : ℕ) (o : Open) (w : Token) (rest : List Token) → w.kind ≡ k.LeftBrace → InBody bytes h left rest → block bytes (suc left) o (w ∷ rest) ≡ Err h
  unfolding block
  braced_stops left o w rest is f =
      ap (λ b. block_by bytes left (block bytes left) o b w rest (w ∷ rest)) (same_is w.kind k.LeftBrace is)
      ∙ stops_then (items_from k.RightBrace (Some w.span.start) (stmt_at bytes left (block bytes left) (Some w.span.start)) (length rest) [] rest) _ h (f (Some w.span.start) [] (length rest) (omega arith))

  body_stop : (o : Open) (rest : List Token) → InBody bytes h max_depth rest → body bytes max_depth o rest ≡ Err h
  unfolding body
  body_stop o rest f = f o [] (length rest) (omega arith)

  rules_stops : (w v : Token) {ps : List Param} {us rest : List Token} → w.kind ≡ k.Ruleset → g.ParamsAt bytes ps us (v ∷ rest) → v.kind ≡ k.LeftBrace → InBody bytes h max_depth rest → top bytes max_depth (w ∷ us) ≡ Err h
  unfolding top rules
  rules_stops w v {ps} {us} {rest} is found is_v f =
      ap (λ o. top_by bytes max_depth o w us (w ∷ us)) (ap object_kind is)
      ∙ (ap (λ b. other_top bytes max_depth b w us (w ∷ us)) (same_is w.kind k.Ruleset is)
      ∙ stops_then (rules bytes max_depth w us) _ h
      (then_reads (params bytes None us) _ ps (v ∷ rest) _ (params_reads bytes None found)
      (then_reads (expect k.LeftBrace None (v ∷ rest)) _ v rest _ (expect_reads k.LeftBrace None v rest is_v)
      (stops_then (body bytes max_depth (Some v.span.start) rest) _ h (body_stop (Some v.span.start) rest f)))))

  test_stops : (left : ℕ) (o : Open) (i : Token) (us : List Token) → i.kind ≡ k.If → expr_at bytes (level bytes left) o us ≡ Err h → stmt_at bytes left (block bytes left) o (i ∷ us) ≡ Err h
  unfolding expr
  test_stops left o i us is stops = by_kind bytes left (block bytes left) o k.If i us _ is (stops_then (expr bytes left o us) _ h stops)

  done_stops : (left : ℕ) (o : Open) (i w : Token) {x : ExprTree} {us rest : List Token} → i.kind ≡ k.If → g.ExprAt bytes left x us (w ∷ rest) → w.kind ≡ k.Then → block bytes left o rest ≡ Err h → stmt_at bytes left (block bytes left) o (i ∷ us) ≡ Err h
  done_stops left o i w {x} {us} {rest} is test is_w stops =
      by_kind bytes left (block bytes left) o k.If i us _ is
      (then_reads (expr bytes left o us) _ x (w ∷ rest) _ (whole_reads o (then_no_joint w rest is_w) test)
      (then_reads (expect k.Then o (w ∷ rest)) _ w rest _ (expect_reads k.Then o w rest is_w)
      (stops_then (block bytes left o rest) _ h stops)))

  otherwise_stops : (left : ℕ) (o : Open) (i w v : Token) {x : ExprTree} {done : Block} {us vs rest : List Token} → i.kind ≡ k.If → g.ExprAt bytes left x us (w ∷ vs) → w.kind ≡ k.Then → g.BlockAt bytes left done vs (v ∷ rest) → v.kind ≡ k.Else →
      block bytes left o rest ≡ Err h → stmt_at bytes left (block bytes left) o (i ∷ us) ≡ Err h
  otherwise_stops left o i w v {x} {done} {us} {vs} {rest} is test is_w inner is_v stops =
      by_kind bytes left (block bytes left) o k.If i us _ is
      (then_reads (expr bytes left o us) _ x (w ∷ vs) _ (whole_reads o (then_no_joint w vs is_w) test)
      (then_reads (expect k.Then o (w ∷ vs)) _ w vs _ (expect_reads k.Then o w vs is_w)
      (then_reads (block bytes left o vs) _ done (v ∷ rest) _ (block_reads o inner)
      (ap (λ b. otherwise_by (block bytes left) o x done b (v ∷ rest)) (behind_reads k.Else v rest is_v) ∙ stops_then (block bytes left o rest) _ h stops))))

  group_stops : (left : ℕ) (o : Token) (rest : List Token) → expr_at bytes (level bytes left) (Some o.span.start) rest ≡ Err h → (level bytes (suc left)).group o rest ≡ Err h
  unfolding level
  group_stops left o rest stops = stops_then (expr_at bytes (level bytes left) (Some o.span.start) rest) _ h stops

  negated_stops : (left : ℕ) (o : Open) (n t : Token) (rest : List Token) → n.kind ≡ k.Not → t.kind ≡ k.LeftParen → (level bytes left).group t rest ≡ Err h → unit_at bytes (level bytes (suc left)) o (n ∷ t ∷ rest) ≡ Err h
  unfolding level
  negated_stops left o n t rest is_n is stops =
      ap (λ kind. unit_by bytes (level bytes (suc left)) o kind n (t ∷ rest)) is_n
      ∙ stops_then (negated_by bytes (level bytes left) o t.kind t rest) _ h (ap (λ kind. negated_by bytes (level bytes left) o kind t rest) is ∙ stops)

  chain_step : (left : ℕ) (o : Open) (joint : Kind) (found : List ExprTree) (j : Token) (rest : List Token) (m : ℕ) → j.kind ≡ joint → length rest < m → InChain bytes h left joint rest → chain_from joint (unit_at bytes (level bytes left) o) m found (j ∷ rest) ≡ Err h
  unfolding chain_from
  chain_step left o joint found j rest zero is small f = absurd (omega arith)
  chain_step left o joint found j rest (suc m) is small f =
      ap (λ b. part_behind b (unit_at bytes (level bytes left) o) found (j ∷ rest) (λ x. chain_from joint (unit_at bytes (level bytes left) o) m (found ++ x ∷ []))) (behind_reads joint j rest is) ∙ f o found m (omega arith)

  joined_stops : (left : ℕ) (o : Open) (x : ExprTree) (joint : Kind) (j : Token) (rest : List Token) → is_joint joint ≡ true → j.kind ≡ joint → InChain bytes h left joint rest →
      joined_by bytes (level bytes left) o x (is_some (behind k.Or (j ∷ rest))) (is_some (behind k.And (j ∷ rest))) (j ∷ rest) ≡ Err h
  joined_stops left o x k.Or j rest is_j is f =
      ap (λ b. joined_by bytes (level bytes left) o x (is_some b) (is_some (behind k.And (j ∷ rest))) (j ∷ rest)) (behind_reads k.Or j rest is)
      ∙ stops_then (chain_at bytes (level bytes left) o k.Or x (j ∷ rest)) _ h (chain_step left o k.Or (x ∷ []) j rest (suc (length rest)) is (omega arith) f)
  joined_stops left o x k.And j rest is_j is f =
      ap (λ b. joined_by bytes (level bytes left) o x (is_some b) (is_some (behind k.And (j ∷ rest))) (j ∷ rest)) (and_not_or j rest is)
      ∙ (ap (λ b. joined_by bytes (level bytes left) o x false (is_some b) (j ∷ rest)) (behind_reads k.And j rest is)
      ∙ stops_then (chain_at bytes (level bytes left) o k.And x (j ∷ rest)) _ h (chain_step left o k.And (x ∷ []) j rest (suc (length rest)) is (omega arith) f))
  joined_stops left o x _ j rest is_j is f = absurd cc

  chain_stops : (left : ℕ) (o : Open) (joint : Kind) {x : ExprTree} (j : Token) {us rest : List Token} → is_joint joint ≡ true → g.UnitAt bytes left x us (j ∷ rest) → j.kind ≡ joint → InChain bytes h left joint rest → expr_at bytes (level bytes left) o us ≡ Err h
  chain_stops left o joint {x} j {us} {rest} is_j one is f = then_reads (unit_at bytes (level bytes left) o us) _ x (j ∷ rest) _ (unit_reads o one) (joined_stops left o x joint j rest is_j is f)

  -- ---- all steps outwards

  module _ (ts : List Token) where
    top_reach : {us : List Token} → TopPlace bytes ts us → AtTop bytes h us → tops bytes max_depth ts ≡ Err h
    unfolding tops
    top_reach TopPlace.start f = f [] (length ts) (omega arith)
    top_reach (TopPlace.next {x = x} {us = us} {rest = rest} p d) f = top_reach p (λ found m small. tops_step bytes m found us x rest _ (top_reads d) (top_takes d) small (λ m' small'. f (found ++ x ∷ []) m' small'))

    mutual
      stmt_reach : {left : ℕ} (t : Token) (rest : List Token) (kind : Kind) → Head kind → t.kind ≡ kind → StmtPlace bytes ts left (t ∷ rest) → ((o : Open) → stmt_at bytes left (block bytes left) o (t ∷ rest) ≡ Err h) → tops bytes max_depth ts ≡ Err h
      stmt_reach t rest kind head is (StmtPlace.top p) f = top_reach p (λ found m small. tops_err bytes m found (t ∷ rest) h (omega arith) small (stmt_top t rest kind head is (f None)))
      stmt_reach {left} t rest kind head is (StmtPlace.in_body p) f = body_reach p (λ o found m small. body_stops left o m found (t ∷ rest) (behind_other k.RightBrace kind t rest is (head_close head)) (f o) (omega arith))
      stmt_reach {left} t rest kind head is (StmtPlace.single p) f = block_reach p (λ o. single_stops left o t rest kind head is (f o))

      body_reach : {left : ℕ} {us : List Token} → BodyPlace bytes ts left us → InBody bytes h left us → tops bytes max_depth ts ≡ Err h
      body_reach (BodyPlace.rules {w = w} {o = v} {us = us} p is found is_v) f = top_reach p (λ found2 m small. tops_err bytes m found2 (w ∷ us) h (omega arith) small (rules_stops w v is found is_v f))
      body_reach (BodyPlace.braced {left = left} {o = o} {rest = rest} p is) f = block_reach p (λ q. braced_stops left q o rest is f)
      body_reach (BodyPlace.next {left = left} {x = x} {us = us} {rest = rest} p d) f =
          body_reach p (λ o found m small. body_goes left o m found us x rest (no_brace us (starts d)) (stmt_reads o d) (stmt_takes d) small (λ m' small'. f o (found ++ x ∷ []) m' small'))

      block_reach : {left : ℕ} {us : List Token} → BlockPlace bytes ts left us → ((o : Open) → block bytes left o us ≡ Err h) → tops bytes max_depth ts ≡ Err h
      block_reach (BlockPlace.done {left = left} {i = i} {w = w} {us = us} p is test is_w) f = stmt_reach i us k.If Head.with_if is p (λ o. done_stops left o i w is test is_w (f o))
      block_reach (BlockPlace.otherwise {left = left} {i = i} {w = w} {o = v} {us = us} p is test is_w inner is_v) f = stmt_reach i us k.If Head.with_if is p (λ o. otherwise_stops left o i w v is test is_w inner is_v (f o))

    mutual
      expr_reach : {left : ℕ} {us : List Token} → ExprPlace bytes ts left us → ((o : Open) → expr_at bytes (level bytes left) o us ≡ Err h) → tops bytes max_depth ts ≡ Err h
      expr_reach (ExprPlace.test {left = left} {i = i} {rest = rest} p is) f = stmt_reach i rest k.If Head.with_if is p (λ o. test_stops left o i rest is (f o))
      expr_reach (ExprPlace.group {left = left} {o = o} {rest = rest} p is) f = group_reach o rest is p (group_stops left o rest (f (Some o.span.start)))

      unit_reach : {left : ℕ} {us : List Token} → UnitPlace bytes ts left us → ((o : Open) → unit_at bytes (level bytes left) o us ≡ Err h) → tops bytes max_depth ts ≡ Err h
      unit_reach {left} {us} (UnitPlace.start p) f = expr_reach p (λ o. stops_then (unit_at bytes (level bytes left) o us) _ h (f o))
      unit_reach {left} {us} (UnitPlace.next p) f = joint_reach p (λ o found m small. stops_then (unit_at bytes (level bytes left) o us) _ h (f o))

      joint_reach : {left : ℕ} {joint : Kind} {us : List Token} → JointPlace bytes ts left joint us → InChain bytes h left joint us → tops bytes max_depth ts ≡ Err h
      joint_reach (JointPlace.one {left = left} {joint = joint} {j = j} p one is is_j) f = expr_reach p (λ o. chain_stops left o joint j is_j one is f)
      joint_reach (JointPlace.more {left = left} {joint = joint} {x = x} {j = j} {us = us} {rest = rest} p one is) f =
          joint_reach p (λ o found m small. then_reads (unit_at bytes (level bytes left) o us) _ x (j ∷ rest) _ (unit_reads o one) (chain_step left o joint (found ++ x ∷ []) j rest m is (omega (arith, unit_takes one, small)) f))

      group_reach : {left : ℕ} (t : Token) (rest : List Token) → t.kind ≡ k.LeftParen → GroupPlace bytes ts left (t ∷ rest) → (level bytes left).group t rest ≡ Err h → tops bytes max_depth ts ≡ Err h
      group_reach {left} t rest is (GroupPlace.unit p) f = unit_reach p (λ o. ap (λ kind. unit_by bytes (level bytes left) o kind t rest) is ∙ f)
      group_reach {left} t rest is (GroupPlace.negated {n = n} p is_n) f = unit_reach p (λ o. negated_stops left o n t rest is_n is f)

-- ---- faults 24 and 26

out_head : (kind : Kind) → is_left_out kind ≡ true → Head kind
out_head k.LeftOut h = Head.with_left_out
out_head k.Property h = Head.with_property
out_head _ h = absurd cc

out_stops : (bytes : List ℕ) (left : ℕ) (o : Open) (kind : Kind) (t : Token) (rest : List Token) → is_left_out kind ≡ true → t.kind ≡ kind → stmt_at bytes left (block bytes left) o (t ∷ rest) ≡ Err (halt.LeftOut t.span)
out_stops bytes left o k.LeftOut t rest h is = by_kind bytes left (block bytes left) o k.LeftOut t rest _ is (ap (λ kind. Err (refusal_by kind t)) is)
out_stops bytes left o k.Property t rest h is = by_kind bytes left (block bytes left) o k.Property t rest _ is (ap (λ kind. Err (refusal_by kind t)) is)
out_stops bytes left o _ t rest h is = absurd cc

out_deep : (kind : Kind) (t : Token) → is_left_out kind ≡ true → t.kind ≡ kind → too_deep_by kind t ≡ halt.LeftOut t.span
out_deep k.LeftOut t h is = ap (λ kind. refusal_by kind t) is
out_deep k.Property t h is = ap (λ kind. refusal_by kind t) is
out_deep _ t h is = absurd cc

out_block : (bytes : List ℕ) (left : ℕ) (o : Open) (t : Token) (rest : List Token) → is_left_out t.kind ≡ true → block bytes left o (t ∷ rest) ≡ Err (halt.LeftOut t.span)
unfolding block
out_block bytes zero o t rest h = ap Err (out_deep t.kind t h refl)
out_block bytes (suc left) o t rest h = single_stops bytes (halt.LeftOut t.span) left o t rest t.kind (out_head t.kind h) refl (out_stops bytes left o t.kind t rest h refl)

-- What begins what is left out is answered.
pub left_out_reads : (bytes : List ℕ) (ts : List Token) (t : Token) → BeginsLeftOut bytes ts t → tops bytes max_depth ts ≡ Err (halt.LeftOut t.span)
left_out_reads bytes ts t (BeginsLeftOut.stmt {left = left} {rest = rest} p h) = stmt_reach bytes (halt.LeftOut t.span) ts t rest t.kind (out_head t.kind h) refl p (λ o. out_stops bytes left o t.kind t rest h refl)
left_out_reads bytes ts t (BeginsLeftOut.block {left = left} {rest = rest} p h) = block_reach bytes (halt.LeftOut t.span) ts p (λ o. out_block bytes left o t rest h)

deep_by : (kind : Kind) (t : Token) → begins_block kind ≡ true → too_deep_by kind t ≡ halt.TooDeep t.span
deep_by k.LeftBrace t h = refl
deep_by k.Action t h = refl
deep_by k.Call t h = refl
deep_by k.Stop t h = refl
deep_by k.If t h = refl
deep_by _ t h = absurd cc

deep_block : (bytes : List ℕ) (o : Open) (t : Token) (rest : List Token) → begins_block t.kind ≡ true → block bytes 0 o (t ∷ rest) ≡ Err (halt.TooDeep t.span)
unfolding block
deep_block bytes o t rest h = ap Err (deep_by t.kind t h)

deep_group : (bytes : List ℕ) (t : Token) (rest : List Token) → (level bytes 0).group t rest ≡ Err (halt.TooDeep t.span)
unfolding level
deep_group bytes t rest = refl

deep_negation : (bytes : List ℕ) (o : Open) (t : Token) (rest : List Token) → t.kind ≡ k.Not → unit_at bytes (level bytes 0) o (t ∷ rest) ≡ Err (halt.TooDeep t.span)
unfolding level
deep_negation bytes o t rest is = ap (λ kind. unit_by bytes (level bytes 0) o kind t rest) is

-- What makes the depth 33 is answered.
pub deepens_reads : (bytes : List ℕ) (ts : List Token) (t : Token) → Deepens bytes ts t → tops bytes max_depth ts ≡ Err (halt.TooDeep t.span)
deepens_reads bytes ts t (Deepens.group {rest = rest} p is) = group_reach bytes (halt.TooDeep t.span) ts t rest is p (deep_group bytes t rest)
deepens_reads bytes ts t (Deepens.negation {rest = rest} p is) = unit_reach bytes (halt.TooDeep t.span) ts p (λ o. deep_negation bytes o t rest is)
deepens_reads bytes ts t (Deepens.block {rest = rest} p h) = block_reach bytes (halt.TooDeep t.span) ts p (λ o. deep_block bytes o t rest h)
