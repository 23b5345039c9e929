-- What a rule of the grammar reads, it reads before any other rest too, but that an `else` may not come where none came.
use Rattle.std.proofs.Common.{◌≡◌, ℕ, List, [], ◌∷◌, ◌++◌, Option, Some, None, refl, sym, ap, ◌∙◌, subst, append_assoc, append-nil}
use Rattle.sy_script.specs.declared.token.Kind.{Kind}
use Rattle.sy_script.specs.declared.token.Kind.TheVariants as k
use Rattle.sy_script.specs.declared.token.Token.{Token}
use Rattle.sy_script.specs.declared.tree.Param.{Param}
use Rattle.sy_script.specs.declared.tree.Operand.{Operand}
use Rattle.sy_script.specs.declared.tree.ExprTree.{ExprTree}
use Rattle.sy_script.specs.declared.tree.ObjectKind.{ObjectKind}
use Rattle.sy_script.specs.declared.tree.Block.{Block}
use Rattle.sy_script.specs.declared.tree.Stmt.{Stmt}
use Rattle.sy_script.specs.declared.tree.Top.{Top}
use Rattle.sy_script.specs.Terms.{object_kind}
use Rattle.sy_script.specs.Grammar as g
use Rattle.sy_script.specs.Grammar.{NoElse}

-- these are some tokens and then the rest, and what they are, they are before another rest
abbrev pub Moved : (List Token → List Token → Type 0) → List Token → List Token → Type 0
Moved R ts rest = (front : List Token) × (ts ≡ front ++ rest) × ((to : List Token) → (NoElse rest → NoElse to) → R (front ++ to) to)

keep_front : (f rest to : List Token) → (NoElse rest → NoElse to) → NoElse (f ++ rest) → NoElse (f ++ to)
keep_front [] rest to same h = same h
keep_front (t ∷ f) rest to same h = h

keep : (f mid rest to : List Token) → mid ≡ f ++ rest → (NoElse rest → NoElse to) → NoElse mid → NoElse (f ++ to)
keep f mid rest to e same h = let P : List Token → Type 0 = λ v. NoElse v in keep_front f rest to same (subst P e h)

joined : (f g ts us rest : List Token) → ts ≡ f ++ us → us ≡ g ++ rest → ts ≡ (f ++ g) ++ rest
joined f g ts us rest a b = a ∙ (ap (λ r. f ++ r) b ∙ sym (append_assoc f g rest))

joined_by : (f : List Token) (c : Token) (g ts us rest : List Token) → ts ≡ f ++ c ∷ us → us ≡ g ++ rest → ts ≡ (f ++ c ∷ g) ++ rest
joined_by f c g ts us rest a b = a ∙ (ap (λ r. f ++ c ∷ r) b ∙ sym (append_assoc f (c ∷ g) rest))

regroup : (P : List Token → Type 0) (f g to : List Token) → P (f ++ (g ++ to)) → P ((f ++ g) ++ to)
regroup P f g to h = subst P (sym (append_assoc f g to)) h

params_in_moves : {text : List ℕ} {x : List Param} {ts rest : List Token} → g.ParamsIn text x ts rest → Moved (g.ParamsIn text x) ts rest
params_in_moves (g.ParamsIn.close {c = c} h) = (c ∷ [], refl, λ to same. g.ParamsIn.close h)
params_in_moves (g.ParamsIn.param {n = n} {a = a} {v = v} name assign quoted more) =
    let m = params_in_moves more in
    (n ∷ a ∷ v ∷ m.0, ap (λ r. n ∷ a ∷ v ∷ r) m.1, λ to same. g.ParamsIn.param name assign quoted (m.2 to same))

pub params_moves : {text : List ℕ} {x : List Param} {ts rest : List Token} → g.ParamsAt text x ts rest → Moved (g.ParamsAt text x) ts rest
params_moves (g.ParamsAt.params {o = o} h inner) = let m = params_in_moves inner in (o ∷ m.0, ap (λ r. o ∷ r) m.1, λ to same. g.ParamsAt.params h (m.2 to same))

operand_moves : {text : List ℕ} {x : Operand} {ts rest : List Token} → g.OperandAt text x ts rest → Moved (g.OperandAt text x) ts rest
operand_moves (g.OperandAt.number {n = n} h) = (n ∷ [], refl, λ to same. g.OperandAt.number h)
operand_moves (g.OperandAt.string {v = v} h) = (v ∷ [], refl, λ to same. g.OperandAt.string h)

pub prifilt_moves : {text : List ℕ} {x : ExprTree} {ts rest : List Token} → g.PrifiltAt text x ts rest → Moved (g.PrifiltAt text x) ts rest
prifilt_moves (g.PrifiltAt.prifilt {w = w} {o = o} {v = v} {c = c} a b d e) = (w ∷ o ∷ v ∷ c ∷ [], refl, λ to same. g.PrifiltAt.prifilt a b d e)

mutual
  pub group_moves : {text : List ℕ} {left : ℕ} {x : ExprTree} {ts rest : List Token} → g.GroupAt text left x ts rest → Moved (g.GroupAt text left x) ts rest
  group_moves {text} {left} {x = y} (g.GroupAt.group {left = n} {o = o} {c = c} {x = x} {ts = ts} {rest = rest} is inner is_c) =
      let m = expr_moves inner in (
        o ∷ (m.0 ++ c ∷ []),
        ap (λ r. o ∷ r) (joined_by m.0 c [] ts rest rest m.1 refl),
        λ to same. regroup (λ v. g.GroupAt text left y (o ∷ v) to) m.0 (c ∷ []) to (g.GroupAt.group is (m.2 (c ∷ to) (λ h. h)) is_c),
      )

  pub unit_moves : {text : List ℕ} {left : ℕ} {x : ExprTree} {ts rest : List Token} → g.UnitAt text left x ts rest → Moved (g.UnitAt text left x) ts rest
  unit_moves (g.UnitAt.grouped inner) = let m = group_moves inner in (m.0, m.1, λ to same. g.UnitAt.grouped (m.2 to same))
  unit_moves (g.UnitAt.not_grouped {n = n} is inner) = let m = group_moves inner in (n ∷ m.0, ap (λ r. n ∷ r) m.1, λ to same. g.UnitAt.not_grouped is (m.2 to same))
  unit_moves (g.UnitAt.selected inner) = let m = prifilt_moves inner in (m.0, m.1, λ to same. g.UnitAt.selected (m.2 to same))
  unit_moves (g.UnitAt.not_selected {n = n} is inner) = let m = prifilt_moves inner in (n ∷ m.0, ap (λ r. n ∷ r) m.1, λ to same. g.UnitAt.not_selected is (m.2 to same))
  unit_moves (g.UnitAt.compared {p = p} {o = o} a b c) = let m = operand_moves c in (p ∷ o ∷ m.0, ap (λ r. p ∷ o ∷ r) m.1, λ to same. g.UnitAt.compared a b (m.2 to same))

  more_moves : {text : List ℕ} {left : ℕ} {joint : Kind} {x : List ExprTree} {ts rest : List Token} → g.MoreAt text left joint x ts rest → Moved (g.MoreAt text left joint x) ts rest
  more_moves g.MoreAt.none = ([], refl, λ to same. g.MoreAt.none)
  more_moves {text} {left} {joint} (g.MoreAt.more {j = j} {x = x} {xs = xs} {ts = ts} {mid = mid} {rest = rest} is a b) =
      let m = unit_moves a in
      let n = more_moves b in (
        j ∷ (m.0 ++ n.0),
        ap (λ r. j ∷ r) (joined m.0 n.0 ts mid rest m.1 n.1),
        λ to same. regroup (λ v. g.MoreAt text left joint (x ∷ xs) (j ∷ v) to) m.0 n.0 to (g.MoreAt.more is (m.2 (n.0 ++ to) (keep n.0 mid rest to n.1 same)) (n.2 to same)),
      )

  pub expr_moves : {text : List ℕ} {left : ℕ} {x : ExprTree} {ts rest : List Token} → g.ExprAt text left x ts rest → Moved (g.ExprAt text left x) ts rest
  expr_moves (g.ExprAt.alone a) = let m = unit_moves a in (m.0, m.1, λ to same. g.ExprAt.alone (m.2 to same))
  expr_moves {text} {left} {x = z} (g.ExprAt.any {ts = ts} {mid = mid} {rest = rest} a b) =
      let m = unit_moves a in
      let n = more_moves b in
      (m.0 ++ n.0, joined m.0 n.0 ts mid rest m.1 n.1, λ to same. regroup (λ v. g.ExprAt text left z v to) m.0 n.0 to (g.ExprAt.any (m.2 (n.0 ++ to) (keep n.0 mid rest to n.1 same)) (n.2 to same)))
  expr_moves {text} {left} {x = z} (g.ExprAt.all {ts = ts} {mid = mid} {rest = rest} a b) =
      let m = unit_moves a in
      let n = more_moves b in
      (m.0 ++ n.0, joined m.0 n.0 ts mid rest m.1 n.1, λ to same. regroup (λ v. g.ExprAt text left z v to) m.0 n.0 to (g.ExprAt.all (m.2 (n.0 ++ to) (keep n.0 mid rest to n.1 same)) (n.2 to same)))

mutual
  pub stmt_moves : {text : List ℕ} {left : ℕ} {x : Stmt} {ts rest : List Token} → g.StmtAt text left x ts rest → Moved (g.StmtAt text left x) ts rest
  stmt_moves (g.StmtAt.action {a = a} is found) = let m = params_moves found in (a ∷ m.0, ap (λ r. a ∷ r) m.1, λ to same. g.StmtAt.action is (m.2 to same))
  stmt_moves (g.StmtAt.call {c = c} {n = n} is is_n) = (c ∷ n ∷ [], refl, λ to same. g.StmtAt.call is is_n)
  stmt_moves (g.StmtAt.stop {w = w} is) = (w ∷ [], refl, λ to same. g.StmtAt.stop is)
  stmt_moves {text} {left} {x = y} (g.StmtAt.one_way {i = i} {w = w} {ts = ts} {us = us} {rest = rest} is test is_w inner none) =
      let m = expr_moves test in
      let n = block_moves inner in (
        i ∷ (m.0 ++ w ∷ n.0),
        ap (λ r. i ∷ r) (joined_by m.0 w n.0 ts us rest m.1 n.1),
        λ to same. regroup (λ v. g.StmtAt text left y (i ∷ v) to) m.0 (w ∷ n.0) to (g.StmtAt.one_way is (m.2 (w ∷ (n.0 ++ to)) (λ h. h)) is_w (n.2 to same) (same none)),
      )
  stmt_moves {text} {left} {x = y} (g.StmtAt.two_ways {i = i} {w = w} {o = o} {ts = ts} {us = us} {vs = vs} {rest = rest} is test is_w inner is_o last) =
      let m = expr_moves test in
      let n = block_moves inner in
      let l = block_moves last in (
        i ∷ (m.0 ++ w ∷ (n.0 ++ o ∷ l.0)),
        ap (λ r. i ∷ r) (joined_by m.0 w (n.0 ++ o ∷ l.0) ts us rest m.1 (joined_by n.0 o l.0 us vs rest n.1 l.1)),
        λ to same. regroup (λ v. g.StmtAt text left y (i ∷ v) to) m.0 (w ∷ (n.0 ++ o ∷ l.0)) to
            (regroup (λ v. g.StmtAt text left y (i ∷ (m.0 ++ w ∷ v)) to) n.0 (o ∷ l.0) to
            (g.StmtAt.two_ways is (m.2 (w ∷ (n.0 ++ o ∷ (l.0 ++ to))) (λ h. h)) is_w (n.2 (o ∷ (l.0 ++ to)) (λ h. h)) is_o (l.2 to same))),
      )

  pub block_moves : {text : List ℕ} {left : ℕ} {x : Block} {ts rest : List Token} → g.BlockAt text left x ts rest → Moved (g.BlockAt text left x) ts rest
  block_moves (g.BlockAt.single a) = let m = stmt_moves a in (m.0, m.1, λ to same. g.BlockAt.single (m.2 to same))
  block_moves (g.BlockAt.braced {o = o} is a) = let m = body_moves a in (o ∷ m.0, ap (λ r. o ∷ r) m.1, λ to same. g.BlockAt.braced is (m.2 to same))

  pub body_moves : {text : List ℕ} {left : ℕ} {x : List Stmt} {ts rest : List Token} → g.BodyAt text left x ts rest → Moved (g.BodyAt text left x) ts rest
  body_moves (g.BodyAt.close {c = c} is) = (c ∷ [], refl, λ to same. g.BodyAt.close is)
  body_moves {text} {left} {x = y} (g.BodyAt.stmt {ts = ts} {mid = mid} {rest = rest} a b) =
      let m = stmt_moves a in
      let n = body_moves b in
      (m.0 ++ n.0, joined m.0 n.0 ts mid rest m.1 n.1, λ to same. regroup (λ v. g.BodyAt text left y v to) m.0 n.0 to (g.BodyAt.stmt (m.2 (n.0 ++ to) (keep n.0 mid rest to n.1 same)) (n.2 to same)))

pub top_moves : {text : List ℕ} {left : ℕ} {x : Top} {ts rest : List Token} → g.TopAt text left x ts rest → Moved (g.TopAt text left x) ts rest
top_moves (g.TopAt.object {w = w} is found) = let m = params_moves found in (w ∷ m.0, ap (λ r. w ∷ r) m.1, λ to same. g.TopAt.object is (m.2 to same))
top_moves {text} {left} {x = y} (g.TopAt.rules {w = w} {o = o} {ts = ts} {us = us} {rest = rest} is found is_o inner) =
    let m = params_moves found in
    let n = body_moves inner in (
      w ∷ (m.0 ++ o ∷ n.0),
      ap (λ r. w ∷ r) (joined_by m.0 o n.0 ts us rest m.1 n.1),
      λ to same. regroup (λ v. g.TopAt text left y (w ∷ v) to) m.0 (o ∷ n.0) to (g.TopAt.rules is (m.2 (o ∷ (n.0 ++ to)) (λ h. h)) is_o (n.2 to same)),
    )
top_moves (g.TopAt.stmt a) = let m = stmt_moves a in (m.0, m.1, λ to same. g.TopAt.stmt (m.2 to same))

-- what is all of some tokens, with more after them
pub with_tail : (R : List Token → List Token → Type 0) (w : List Token) → Moved R w [] → (tail : List Token) → NoElse tail → R (w ++ tail) tail
with_tail R w m tail none =
    let P : List Token → Type 0 = λ v. R (v ++ tail) tail in
    subst P (sym (m.1 ∙ append-nil m.0)) (m.2 tail (λ h. none))

-- ---- nothing begins with `else`

not_else : (t : Token) (kind : Kind) → t.kind ≡ kind → (kind ≡ k.Else → ⊥) → t.kind ≡ k.Else → ⊥
not_else t kind is other e = other (sym is ∙ e)

pub stmt_no_else : {text : List ℕ} {left : ℕ} {x : Stmt} {ts rest : List Token} → g.StmtAt text left x ts rest → NoElse ts
stmt_no_else (g.StmtAt.action {a = w} is a) = not_else w k.Action is (λ e. cc)
stmt_no_else (g.StmtAt.call {c = w} is a) = not_else w k.Call is (λ e. cc)
stmt_no_else (g.StmtAt.stop {w = w} is) = not_else w k.Stop is (λ e. cc)
stmt_no_else (g.StmtAt.one_way {i = w} is a b c d) = not_else w k.If is (λ e. cc)
stmt_no_else (g.StmtAt.two_ways {i = w} is a b c d e) = not_else w k.If is (λ e. cc)

pub body_no_else : {text : List ℕ} {left : ℕ} {x : List Stmt} {ts rest : List Token} → g.BodyAt text left x ts rest → NoElse ts
body_no_else (g.BodyAt.close {c = w} is) = not_else w k.RightBrace is (λ e. cc)
body_no_else (g.BodyAt.stmt a b) = stmt_no_else a

object_no_else : (w : Token) (kind : ObjectKind) → object_kind w.kind ≡ Some kind → w.kind ≡ k.Else → ⊥
object_no_else w kind is e = let no : (let r : Option ObjectKind = None in r) ≡ Some kind = sym (ap object_kind e) ∙ is in cc

pub tops_no_else : {text : List ℕ} {left : ℕ} {x : List Top} {ts : List Token} → g.TopsAt text left x ts → NoElse ts
tops_no_else g.TopsAt.none = tt
tops_no_else (g.TopsAt.more (g.TopAt.object {w = w} {kind = kind} is a) b) = object_no_else w kind is
tops_no_else (g.TopsAt.more (g.TopAt.rules {w = w} is a c d) b) = not_else w k.Ruleset is (λ e. cc)
tops_no_else (g.TopsAt.more (g.TopAt.stmt a) b) = stmt_no_else a
