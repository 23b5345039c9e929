-- Where a rule of the grammar may begin, the tokens up to there are the beginning of a script: whatever the rule reads goes on with it.
use Rattle.std.proofs.Common.{◌≡◌, ℕ, suc, ◌+◌, true, List, [], ◌∷◌, ◌++◌, refl, sym, ap, ◌∙◌, subst, append_assoc, append-nil, arith}
use Rattle.sy_script.specs.declared.token.Kind.{Kind}
use Rattle.sy_script.specs.declared.token.Kind.TheVariants as k
use Rattle.sy_script.specs.declared.token.Token.{Token}
use Rattle.sy_script.specs.declared.tree.Param.{Param}
use Rattle.sy_script.specs.declared.tree.ExprTree.{ExprTree}
use Rattle.sy_script.specs.declared.tree.Block.{Block}
use Rattle.sy_script.specs.declared.tree.Stmt.{Stmt}
use Rattle.sy_script.specs.declared.tree.Top.{Top}
use Rattle.sy_script.specs.declared.tree.Top.TheVariants as t
use Rattle.sy_script.specs.Terms.{max_depth}
use Rattle.sy_script.specs.Grammar as g
use Rattle.sy_script.specs.Standing.{is_joint, TopPlace, StmtPlace, BodyPlace, BlockPlace, ExprPlace, UnitPlace, JointPlace, GroupPlace}
use Rattle.sy_script.proofs.Depths.{expr_up, unit_up, more_up, stmt_up, block_up, body_up, top_up, tops_up}
use Rattle.sy_script.proofs.Moves.{params_moves, unit_moves, expr_moves, stmt_moves, block_moves, top_moves, with_tail, body_no_else, tops_no_else}

-- a token of this kind
abbrev pub tok : Kind → Token
tok kind = record { kind = kind; span = record { start = 0; end = 0 } }

pub begins_front : (bytes : List ℕ) (f h : List Token) → g.Begins bytes (f ++ h) → g.Begins bytes f
begins_front bytes f h b = let P : List Token → Type 0 = λ v. g.TopsAt bytes b.0 b.1 v in (b.0, b.1, h ++ b.2, subst P (append_assoc f h b.2) b.3)

-- the tokens up to these are the beginning of a script
pub record Fits (bytes : List ℕ) (ts us : List Token) : Type 0 where
  pub front : List Token
  pub is_ts : ts ≡ front ++ us
  pub begins : g.Begins bytes front

-- and with each of some kind after them too
pub record Hole (bytes : List ℕ) (ts : List Token) (R : List Token → Type 0) (us : List Token) : Type 0 where
  pub front : List Token
  pub is_ts : ts ≡ front ++ us
  pub fill : (w : List Token) → R w → g.Begins bytes (front ++ w)

module _ {bytes : List ℕ} {ts : List Token} where
  pub fits : (R : List Token → Type 0) {us : List Token} → Hole bytes ts R us → (w : List Token) → R w → Fits bytes ts us
  fits R h w r = record { front = h.front; is_ts = h.is_ts; begins = begins_front bytes h.front w (h.fill w r) }

  pub over : (R Q : List Token → Type 0) {us0 us : List Token} → Hole bytes ts R us0 → (f : List Token) → us0 ≡ f ++ us → ((w : List Token) → Q w → R (f ++ w)) → Hole bytes ts Q us
  over R Q {us = us} h f e each = record {
    front = h.front ++ f;
    is_ts = h.is_ts ∙ (ap (λ r. h.front ++ r) e ∙ sym (append_assoc h.front f us));
    fill = λ w q. let P : List Token → Type 0 = λ v. g.Begins bytes v in subst P (sym (append_assoc h.front f w)) (h.fill (f ++ w) (each w q));
  }

  pub pad : (R Q : List Token → Type 0) {us : List Token} → Hole bytes ts R us → (tail : List Token) → ((w : List Token) → Q w → R (w ++ tail)) → Hole bytes ts Q us
  pad R Q h tail each = record {
    front = h.front;
    is_ts = h.is_ts;
    fill = λ w q. let P : List Token → Type 0 = λ v. g.Begins bytes v in begins_front bytes (h.front ++ w) tail (subst P (sym (append_assoc h.front w tail)) (h.fill (w ++ tail) (each w q)));
  }

  pub via : (R Q : List Token → Type 0) {us0 us : List Token} → Hole bytes ts R us0 → (f : List Token) (o : Token) → us0 ≡ f ++ o ∷ us → ((w : List Token) → Q w → R (f ++ o ∷ w)) → Hole bytes ts Q us
  via R Q {us = us} h f o e each = over R Q h (f ++ o ∷ []) (e ∙ sym (append_assoc f (o ∷ []) us)) (λ w q. subst R (sym (append_assoc f (o ∷ []) w)) (each w q))

-- ---- what may stand in a hole, at any depth

abbrev pub Tops : List ℕ → List Token → Type 0
Tops bytes w = (d : ℕ) × (x : List Top) × g.TopsAt bytes d x w

abbrev pub AStmt : List ℕ → List Token → Type 0
AStmt bytes w = (d : ℕ) × (x : Stmt) × g.StmtAt bytes d x w []

abbrev pub ABody : List ℕ → List Token → Type 0
ABody bytes w = (d : ℕ) × (x : List Stmt) × g.BodyAt bytes d x w []

abbrev pub ABlock : List ℕ → List Token → Type 0
ABlock bytes w = (d : ℕ) × (x : Block) × g.BlockAt bytes d x w []

abbrev pub AnExpr : List ℕ → List Token → Type 0
AnExpr bytes w = (d : ℕ) × (x : ExprTree) × g.ExprAt bytes d x w []

abbrev pub AUnit : List ℕ → List Token → Type 0
AUnit bytes w = (d : ℕ) × (x : ExprTree) × g.UnitAt bytes d x w []

abbrev pub AGroup : List ℕ → List Token → Type 0
AGroup bytes w = (d : ℕ) × (x : ExprTree) × g.GroupAt bytes d x w []

abbrev pub APrifilt : List ℕ → List Token → Type 0
APrifilt bytes w = (x : ExprTree) × g.PrifiltAt bytes x w []

abbrev pub AChain : List ℕ → Kind → List Token → Type 0
AChain bytes joint w = (d : ℕ) × (x : ExprTree) × (xs : List ExprTree) × (mid : List Token) × g.UnitAt bytes d x w mid × g.MoreAt bytes d joint xs mid []

abbrev pub Params : List ℕ → List Token → Type 0
Params bytes w = (x : List Param) × g.ParamsAt bytes x w []

abbrev pub InParams : List ℕ → List Token → Type 0
InParams bytes w = (x : List Param) × g.ParamsIn bytes x w []

-- ---- the shortest of each

pub a_stmt : (bytes : List ℕ) → AStmt bytes (tok k.Stop ∷ [])
a_stmt bytes = (0, _, g.StmtAt.stop refl)

pub a_block : (bytes : List ℕ) → ABlock bytes (tok k.Stop ∷ [])
a_block bytes = (1, _, g.BlockAt.single (g.StmtAt.stop refl))

pub a_body : (bytes : List ℕ) → ABody bytes (tok k.RightBrace ∷ [])
a_body bytes = (0, _, g.BodyAt.close refl)

pub a_prifilt : (bytes : List ℕ) → APrifilt bytes (tok k.Prifilt ∷ tok k.LeftParen ∷ tok k.Quoted ∷ tok k.RightParen ∷ [])
a_prifilt bytes = (_, g.PrifiltAt.prifilt refl refl refl refl)

pub a_unit : (bytes : List ℕ) → AUnit bytes (tok k.Prifilt ∷ tok k.LeftParen ∷ tok k.Quoted ∷ tok k.RightParen ∷ [])
a_unit bytes = let p = a_prifilt bytes in (0, p.0, g.UnitAt.selected p.1)

-- ---- rules, at any depth

-- after `if` and an expression
tested : (bytes : List ℕ) (i w : Token) {left : ℕ} {x : ExprTree} (f v : List Token) → i.kind ≡ k.If → ((to : List Token) → g.ExprAt bytes left x (f ++ w ∷ to) (w ∷ to)) → w.kind ≡ k.Then → ABlock bytes v → AStmt bytes (i ∷ (f ++ w ∷ v))
tested bytes i w {left} f v is test is_w b = (left + b.0, _, g.StmtAt.one_way is (expr_up (left + b.0) (omega arith) (test v)) is_w (block_up (left + b.0) (omega arith) b.2) tt)

chosen : (bytes : List ℕ) (i w o : Token) {left : ℕ} {x : ExprTree} {done : Block} (f h v : List Token) → i.kind ≡ k.If → ((to : List Token) → g.ExprAt bytes left x (f ++ w ∷ to) (w ∷ to)) → w.kind ≡ k.Then →
    ((to : List Token) → g.BlockAt bytes left done (h ++ o ∷ to) (o ∷ to)) → o.kind ≡ k.Else → ABlock bytes v → AStmt bytes (i ∷ (f ++ w ∷ (h ++ o ∷ v)))
chosen bytes i w o {left} f h v is test is_w done is_o b =
    (left + b.0, _, g.StmtAt.two_ways is (expr_up (left + b.0) (omega arith) (test (h ++ o ∷ v))) is_w (block_up (left + b.0) (omega arith) (done v)) is_o (block_up (left + b.0) (omega arith) b.2))

-- an expression is a test
abbrev pub then_stop : List Token
then_stop = tok k.Then ∷ tok k.Stop ∷ []

pub a_test : (bytes : List ℕ) (i : Token) (w : List Token) → i.kind ≡ k.If → AnExpr bytes w → AStmt bytes (i ∷ (w ++ then_stop))
a_test bytes i w is x =
    let whole : g.ExprAt bytes x.0 x.1 (w ++ then_stop) then_stop = with_tail (g.ExprAt bytes x.0 x.1) w (expr_moves x.2) then_stop (λ e. cc) in
    (suc x.0, _, g.StmtAt.one_way is (expr_up (suc x.0) (omega arith) whole) refl (g.BlockAt.single (g.StmtAt.stop refl)) tt)

a_group : (bytes : List ℕ) (o : Token) (w : List Token) → o.kind ≡ k.LeftParen → AnExpr bytes w → AGroup bytes (o ∷ (w ++ tok k.RightParen ∷ []))
a_group bytes o w is x = (suc x.0, _, g.GroupAt.group is (with_tail (g.ExprAt bytes x.0 x.1) w (expr_moves x.2) (tok k.RightParen ∷ []) (λ e. cc)) refl)

chained : (bytes : List ℕ) (joint : Kind) (j : Token) {left : ℕ} {x : ExprTree} (f w : List Token) → is_joint joint ≡ true → j.kind ≡ joint → ((to : List Token) → g.UnitAt bytes left x (f ++ j ∷ to) (j ∷ to)) → AChain bytes joint w → AnExpr bytes (f ++ j ∷ w)
chained bytes k.Or j {left} f w is_j is one c = (left + c.0, _, g.ExprAt.any (unit_up (left + c.0) (omega arith) (one w)) (g.MoreAt.more is (unit_up (left + c.0) (omega arith) c.4) (more_up (left + c.0) (omega arith) c.5)))
chained bytes k.And j {left} f w is_j is one c = (left + c.0, _, g.ExprAt.all (unit_up (left + c.0) (omega arith) (one w)) (g.MoreAt.more is (unit_up (left + c.0) (omega arith) c.4) (more_up (left + c.0) (omega arith) c.5)))
chained bytes _ j f w is_j is one c = absurd cc

rechained : (bytes : List ℕ) (joint : Kind) (j : Token) {left : ℕ} {x : ExprTree} (f w : List Token) → j.kind ≡ joint → ((to : List Token) → g.UnitAt bytes left x (f ++ j ∷ to) (j ∷ to)) → AChain bytes joint w → AChain bytes joint (f ++ j ∷ w)
rechained bytes joint j {left} {x} f w is one c =
    (left + c.0, x, c.1 ∷ c.2, j ∷ w, unit_up (left + c.0) (omega arith) (one w), g.MoreAt.more is (unit_up (left + c.0) (omega arith) c.4) (more_up (left + c.0) (omega arith) c.5))

-- ---- holes at each place

module _ (bytes : List ℕ) (ts : List Token) where
  start_hole : Hole bytes ts (Tops bytes) ts
  start_hole = record { front = []; is_ts = refl; fill = λ w r. let P : List Token → Type 0 = λ v. g.TopsAt bytes r.0 r.1 v in (r.0, r.1, [], subst P (sym (append-nil w)) r.2) }

  pub top_hole : {us : List Token} → TopPlace bytes ts us → Hole bytes ts (Tops bytes) us
  top_hole TopPlace.start = start_hole
  top_hole (TopPlace.next p d) =
      let m = top_moves d in
      over (Tops bytes) (Tops bytes) (top_hole p) m.0 m.1 (λ w q.
      (max_depth + q.0, _, g.TopsAt.more (top_up (max_depth + q.0) (omega arith) (m.2 w (λ h. tops_no_else q.2))) (tops_up (max_depth + q.0) (omega arith) q.2)))

  mutual
    pub stmt_hole : {left : ℕ} {us : List Token} → StmtPlace bytes ts left us → Hole bytes ts (AStmt bytes) us
    stmt_hole (StmtPlace.top p) = over (Tops bytes) (AStmt bytes) (top_hole p) [] refl (λ w q. (q.0, t.Stmt q.1 ∷ [], g.TopsAt.more (g.TopAt.stmt q.2) g.TopsAt.none))
    stmt_hole (StmtPlace.in_body p) = pad (ABody bytes) (AStmt bytes) (body_hole p) (tok k.RightBrace ∷ []) (λ w q.
        (q.0, q.1 ∷ [], g.BodyAt.stmt (with_tail (g.StmtAt bytes q.0 q.1) w (stmt_moves q.2) (tok k.RightBrace ∷ []) (λ e. cc)) (g.BodyAt.close refl)))
    stmt_hole (StmtPlace.single p) = over (ABlock bytes) (AStmt bytes) (block_hole p) [] refl (λ w q. (suc q.0, _, g.BlockAt.single q.2))

    pub body_hole : {left : ℕ} {us : List Token} → BodyPlace bytes ts left us → Hole bytes ts (ABody bytes) us
    body_hole (BodyPlace.rules {w = w} {o = o} p is found is_o) =
        let m = params_moves found in
        via (Tops bytes) (ABody bytes) (top_hole p) (w ∷ m.0) o (ap (λ r. w ∷ r) m.1) (λ v q. (q.0, _, g.TopsAt.more (g.TopAt.rules is (m.2 (o ∷ v) (λ h. h)) is_o q.2) g.TopsAt.none))
    body_hole (BodyPlace.braced {o = o} p is) = over (ABlock bytes) (ABody bytes) (block_hole p) (o ∷ []) refl (λ w q. (suc q.0, _, g.BlockAt.braced is q.2))
    body_hole (BodyPlace.next {left = left} p d) =
        let m = stmt_moves d in
        over (ABody bytes) (ABody bytes) (body_hole p) m.0 m.1 (λ w q.
        (left + q.0, _, g.BodyAt.stmt (stmt_up (left + q.0) (omega arith) (m.2 w (λ h. body_no_else q.2))) (body_up (left + q.0) (omega arith) q.2)))

    pub block_hole : {left : ℕ} {us : List Token} → BlockPlace bytes ts left us → Hole bytes ts (ABlock bytes) us
    block_hole (BlockPlace.done {i = i} {w = w} p is test is_w) =
        let m = expr_moves test in
        via (AStmt bytes) (ABlock bytes) (stmt_hole p) (i ∷ m.0) w (ap (λ r. i ∷ r) m.1) (λ v q. tested bytes i w m.0 v is (λ to. m.2 (w ∷ to) (λ h. h)) is_w q)
    block_hole (BlockPlace.otherwise {i = i} {w = w} {o = o} p is test is_w inner is_o) =
        let m = expr_moves test in
        let n = block_moves inner in
        via (λ v. AStmt bytes (i ∷ (m.0 ++ w ∷ v))) (ABlock bytes) (via (AStmt bytes) (λ v. AStmt bytes (i ∷ (m.0 ++ w ∷ v))) (stmt_hole p) (i ∷ m.0) w (ap (λ r. i ∷ r) m.1) (λ v q. q)) n.0 o n.1
        (λ v q. chosen bytes i w o m.0 n.0 v is (λ to. m.2 (w ∷ to) (λ h. h)) is_w (λ to. n.2 (o ∷ to) (λ h. h)) is_o q)

  mutual
    pub expr_hole : {left : ℕ} {us : List Token} → ExprPlace bytes ts left us → Hole bytes ts (AnExpr bytes) us
    expr_hole (ExprPlace.test {i = i} p is) =
        pad (λ v. AStmt bytes (i ∷ v)) (AnExpr bytes) (over (AStmt bytes) (λ v. AStmt bytes (i ∷ v)) (stmt_hole p) (i ∷ []) refl (λ v q. q)) then_stop (λ w q. a_test bytes i w is q)
    expr_hole (ExprPlace.group {o = o} p is) =
        pad (λ v. AGroup bytes (o ∷ v)) (AnExpr bytes) (over (AGroup bytes) (λ v. AGroup bytes (o ∷ v)) (group_hole p) (o ∷ []) refl (λ v q. q)) (tok k.RightParen ∷ []) (λ w q. a_group bytes o w is q)

    pub unit_hole : {left : ℕ} {us : List Token} → UnitPlace bytes ts left us → Hole bytes ts (AUnit bytes) us
    unit_hole (UnitPlace.start p) = over (AnExpr bytes) (AUnit bytes) (expr_hole p) [] refl (λ w q. (q.0, q.1, g.ExprAt.alone q.2))
    unit_hole (UnitPlace.next {joint = joint} p) = over (AChain bytes joint) (AUnit bytes) (joint_hole p) [] refl (λ w q. (q.0, q.1, [], [], q.2, g.MoreAt.none))

    pub joint_hole : {left : ℕ} {joint : Kind} {us : List Token} → JointPlace bytes ts left joint us → Hole bytes ts (AChain bytes joint) us
    joint_hole (JointPlace.one {joint = joint} {j = j} p one is is_j) =
        let m = unit_moves one in
        via (AnExpr bytes) (AChain bytes joint) (expr_hole p) m.0 j m.1 (λ w q. chained bytes joint j m.0 w is_j is (λ to. m.2 (j ∷ to) (λ h. h)) q)
    joint_hole (JointPlace.more {joint = joint} {j = j} p one is) =
        let m = unit_moves one in
        via (AChain bytes joint) (AChain bytes joint) (joint_hole p) m.0 j m.1 (λ w q. rechained bytes joint j m.0 w is (λ to. m.2 (j ∷ to) (λ h. h)) q)

    pub group_hole : {left : ℕ} {us : List Token} → GroupPlace bytes ts left us → Hole bytes ts (AGroup bytes) us
    group_hole (GroupPlace.unit p) = over (AUnit bytes) (AGroup bytes) (unit_hole p) [] refl (λ w q. (q.0, q.1, g.UnitAt.grouped q.2))
    group_hole (GroupPlace.negated {n = n} p is) = over (AUnit bytes) (AGroup bytes) (unit_hole p) (n ∷ []) refl (λ w q. (suc q.0, _, g.UnitAt.not_grouped is q.2))
