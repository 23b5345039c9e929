-- What stands where the reading of statements and files stops.
use Rattle.std.proofs.Common.{◌≡◌, ◌<◌, ℕ, zero, suc, Bool, true, false, List, [], ◌∷◌, ◌++◌, length, Option, Some, None, Result, Ok, Err, refl, sym, ap, subst, arith}
use Rattle.sy_script.specs.declared.token.Kind.{Kind}
use Rattle.sy_script.specs.declared.token.Kind.TheVariants as k
use Rattle.sy_script.specs.declared.token.Token.{Token}
use Rattle.sy_script.specs.declared.halt.Halt.{Halt}
use Rattle.sy_script.specs.declared.tree.Param.{Param}
use Rattle.sy_script.specs.declared.tree.ExprTree.{ExprTree}
use Rattle.sy_script.specs.declared.tree.ObjectKind.{ObjectKind}
use Rattle.sy_script.specs.declared.tree.Block.{Block}
use Rattle.sy_script.specs.declared.tree.Stmt.{Stmt}
use Rattle.sy_script.specs.declared.tree.Top.{Top}
use Rattle.sy_script.specs.Terms.{max_depth, object_kind}
use Rattle.sy_script.specs.internal.Reading.{Outcome, Open, same_kind, first, expect, behind, word, params}
use Rattle.sy_script.specs.internal.ReadingExpr.{expr}
use Rattle.sy_script.specs.internal.ReadingStmt.{refusal_by, refusal, too_deep_by, otherwise_by, choice_at, stmt_by, stmt_at, body_at, block_by, block, stmt, body, rules, other_top, top_by, top, tops_then, tops_from, tops}
use Rattle.sy_script.specs.Grammar as g
use Rattle.sy_script.specs.Brackets.{opens, Balanced}
use Rattle.sy_script.specs.Standing.{TopPlace, StmtPlace, BodyPlace, BlockPlace, ExprPlace}
use Rattle.sy_script.specs.Faults.{begins_block, is_left_out, Deepens, BeginsLeftOut}
use Rattle.sy_script.proofs.Takes.{stmt_takes}
use Rattle.sy_script.proofs.Sound.{first_ok, expect_ok, behind_ok, kind_is, params_ok, move}
use Rattle.sy_script.proofs.SoundExpr.{whole_ok}
use Rattle.sy_script.proofs.SoundStmt.{stmt_ok, block_ok, top_ok}
use Rattle.sy_script.proofs.Balance.{object_plain, params_balanced, expr_balanced, stmt_balanced, block_balanced, top_balanced}
use Rattle.sy_script.proofs.Depths.{expr_up}
use Rattle.sy_script.proofs.Moves.{params_moves, expr_moves, with_tail}
use Rattle.sy_script.proofs.Holes.{tok, then_stop, Fits, Hole, fits, over, pad, Tops, AStmt, ABlock, ABody, Params, a_stmt, a_block, a_body, top_hole, stmt_hole, body_hole, block_hole}
use Rattle.sy_script.proofs.Reported.{IsOpen, open_on, open_in, open_plain, open_as, Stray, stray, Reported, reported_as, bind_reported, pure_reported, first_reported, expect_reported, word_reported, expect_open, items_reported, params_reported}
use Rattle.sy_script.proofs.ReportedExpr.{whole_expr_reported}

module _ (bytes : List ℕ) (ts : List Token) where
  refusal_reported : (kind : Kind) (t : Token) → Stray bytes ts t.span → (k.LeftOut ≡ t.kind → BeginsLeftOut bytes ts t) → (k.Property ≡ t.kind → BeginsLeftOut bytes ts t) → kind ≡ t.kind → Reported bytes ts (refusal_by kind t)
  refusal_reported k.LeftOut t s a b same = (t, refl, a same)
  refusal_reported k.Property t s a b same = (t, refl, b same)
  refusal_reported _ t s a b same = s

  left_out_stmt : (left : ℕ) (t : Token) (us : List Token) → StmtPlace bytes ts left (t ∷ us) → Reported bytes ts (refusal t)
  left_out_stmt left t us place = refusal_reported t.kind t (stray bytes ts t us (fits (AStmt bytes) (stmt_hole bytes ts place) _ (a_stmt bytes))) (λ same. BeginsLeftOut.stmt place (ap is_left_out (sym same))) (λ same. BeginsLeftOut.stmt place (ap is_left_out (sym same))) refl

  left_out_block : (left : ℕ) (t : Token) (us : List Token) → BlockPlace bytes ts left (t ∷ us) → Reported bytes ts (refusal t)
  left_out_block left t us place = refusal_reported t.kind t (stray bytes ts t us (fits (ABlock bytes) (block_hole bytes ts place) _ (a_block bytes))) (λ same. BeginsLeftOut.block place (ap is_left_out (sym same))) (λ same. BeginsLeftOut.block place (ap is_left_out (sym same))) refl

  deep_reported : (kind : Kind) (t : Token) → (begins_block kind ≡ true → Deepens bytes ts t) → Reported bytes ts (refusal t) → Reported bytes ts (too_deep_by kind t)
  deep_reported k.LeftBrace t deep other = (t, refl, deep refl)
  deep_reported k.Action t deep other = (t, refl, deep refl)
  deep_reported k.Call t deep other = (t, refl, deep refl)
  deep_reported k.Stop t deep other = (t, refl, deep refl)
  deep_reported k.If t deep other = (t, refl, deep refl)
  deep_reported _ t deep other = other

  record Blocks (left : ℕ) : Type 0 where
    reported : (o : Open) (us : List Token) (h : Halt) → BlockPlace bytes ts left us → IsOpen ts o us → block bytes left o us ≡ Err h → Reported bytes ts h

  module _ (left : ℕ) (deep : Blocks left) where
    stmt_place : {us vs : List Token} → us ≡ vs → StmtPlace bytes ts left us → StmtPlace bytes ts left vs
    stmt_place e p = let P : List Token → Type 0 = λ v. StmtPlace bytes ts left v in subst P e p

    otherwise_reported : (o : Open) (x : ExprTree) (done : Block) (next : Option (List Token)) (us : List Token) (h : Halt) → behind k.Else us ≡ next → IsOpen ts o us →
        ((e : Token) (after : List Token) → us ≡ e ∷ after → e.kind ≡ k.Else → BlockPlace bytes ts left after) → otherwise_by (block bytes left) o x done next us ≡ Err h → Reported bytes ts h
    otherwise_reported o x done None us h is_next is place e = pure_reported bytes ts _ us h e
    otherwise_reported o x done (Some after) us h is_next is place e =
        let c = behind_ok k.Else us after is_next in
        bind_reported bytes ts (block bytes left o after) _ h e (deep.reported o after h (place c.0 after c.1 c.2) (open_plain c.0 after (open_as c.1 is) c.2 refl)) (λ y ok. pure_reported bytes ts _ y.1 h)

    -- after `if` and its expression
    tested : (i : Token) (us mid : List Token) (x : ExprTree) → i.kind ≡ k.If → StmtPlace bytes ts left (i ∷ us) → g.ExprAt bytes left x us mid → Fits bytes ts mid
    tested i us mid x same place d =
        let m = expr_moves d in
        let P : List Token → Type 0 = λ v. AStmt bytes (i ∷ (m.0 ++ v)) in
        fits P (over (AStmt bytes) P (stmt_hole bytes ts place) (i ∷ m.0) (ap (λ r. i ∷ r) m.1) (λ v q. q)) then_stop
        (suc left, _, g.StmtAt.one_way same (expr_up (suc left) (omega arith) (m.2 then_stop (λ a b. cc))) refl (g.BlockAt.single (g.StmtAt.stop refl)) tt)

    choice_reported : (o : Open) (i : Token) (us : List Token) (h : Halt) → i.kind ≡ k.If → StmtPlace bytes ts left (i ∷ us) → IsOpen ts o (i ∷ us) → choice_at bytes left (block bytes left) o us ≡ Err h → Reported bytes ts h
    choice_reported o i us h same place is e =
        let is1 : IsOpen ts o us = open_plain i us is same refl in
        bind_reported bytes ts (expr bytes left o us) _ h e (whole_expr_reported bytes ts left o us h (ExprPlace.test place same) is1) (λ x ok e2.
        let test : g.ExprAt bytes left x.0 us x.1 = whole_ok bytes left o us x ok in
        let is2 : IsOpen ts o x.1 = open_on is1 (expr_balanced test) in
        bind_reported bytes ts (expect k.Then o x.1) _ h e2 (expect_reported bytes ts k.Then o x.1 h is2 (tested i us x.1 x.0 same place test)) (λ w ok2 e3.
        let t = expect_ok k.Then o x.1 w ok2 in
        let test2 : g.ExprAt bytes left x.0 us (w.0 ∷ w.1) = move (g.ExprAt bytes left) refl refl t.0 test in
        let is3 : IsOpen ts o w.1 = expect_open bytes ts k.Then o x.1 w refl ok2 is2 in
        bind_reported bytes ts (block bytes left o w.1) _ h e3 (deep.reported o w.1 h (BlockPlace.done place same test2 t.1) is3) (λ d ok3 e4.
        let done : g.BlockAt bytes left d.0 w.1 d.1 = block_ok bytes left o w.1 d ok3 in
        otherwise_reported o x.0 d.0 (behind k.Else d.1) d.1 h refl (open_on is3 (block_balanced done))
        (λ v after at is_else. BlockPlace.otherwise place same test2 t.1 (move (g.BlockAt bytes left) refl refl at done) is_else) e4)))

    -- after `call`
    called : (t : Token) (us : List Token) → t.kind ≡ k.Call → StmtPlace bytes ts left (t ∷ us) → Fits bytes ts us
    called t us same place =
        let P : List Token → Type 0 = λ v. AStmt bytes (t ∷ v) in
        fits P (over (AStmt bytes) P (stmt_hole bytes ts place) (t ∷ []) refl (λ w q. q)) (tok k.Name ∷ []) (0, _, g.StmtAt.call same refl)

    stmt_by_reported : (o : Open) (kind : Kind) (t : Token) (us : List Token) (h : Halt) → t.kind ≡ kind → StmtPlace bytes ts left (t ∷ us) → IsOpen ts o (t ∷ us) → stmt_by bytes left (block bytes left) o kind t us ≡ Err h → Reported bytes ts h
    stmt_by_reported o k.Action t us h same place is e = bind_reported bytes ts (params bytes o us) _ h e (params_reported bytes ts o us h (open_plain t us is same refl) (over (AStmt bytes) (Params bytes) (stmt_hole bytes ts place) (t ∷ []) refl (λ w q. (0, _, g.StmtAt.action same q.1)))) (λ x ok. pure_reported bytes ts _ x.1 h)
    stmt_by_reported o k.Call t us h same place is e = bind_reported bytes ts (word bytes o us) _ h e (word_reported bytes ts o us h (open_plain t us is same refl) (called t us same place)) (λ x ok. pure_reported bytes ts _ x.1 h)
    stmt_by_reported o k.Stop t us h same place is e = pure_reported bytes ts _ us h e
    stmt_by_reported o k.If t us h same place is e = choice_reported o t us h same place is e
    stmt_by_reported o _ t us h same place is e = reported_as bytes ts {A = Stmt} e (left_out_stmt left t us place)

    stmt_reported : (o : Open) (us : List Token) (h : Halt) → IsOpen ts o us → StmtPlace bytes ts left us → stmt_at bytes left (block bytes left) o us ≡ Err h → Reported bytes ts h
    stmt_reported o us h is place e = bind_reported bytes ts (first o us) _ h e (first_reported bytes ts o us h is (fits (AStmt bytes) (stmt_hole bytes ts place) _ (a_stmt bytes))) (λ x ok.
        let same = first_ok o us x ok in stmt_by_reported o x.0.kind x.0 x.1 h refl (stmt_place same place) (open_as same is))

    stmt_read : (o : Open) (us : List Token) (x : Stmt × List Token) → stmt_at bytes left (block bytes left) o us ≡ Ok x → g.StmtAt bytes left x.0 us x.1
    stmt_read o us x ok = stmt_ok bytes left (block bytes left) (block_ok bytes left) o us x ok

    body_next : (o : Open) (us : List Token) (x : Stmt) (mid : List Token) → BodyPlace bytes ts left us → stmt_at bytes left (block bytes left) o us ≡ Ok (x, mid) → Balanced us mid × BodyPlace bytes ts left mid × (length mid < length us)
    body_next o us x mid place ok = let d = stmt_read o us (x, mid) ok in (stmt_balanced d, BodyPlace.next place d, stmt_takes d)

    body_reported : (o : Open) (us : List Token) (h : Halt) → IsOpen ts o us → BodyPlace bytes ts left us → body_at bytes left (block bytes left) o us ≡ Err h → Reported bytes ts h
    body_reported o us h is place e =
        items_reported bytes ts k.RightBrace o (stmt_at bytes left (block bytes left) o) (BodyPlace bytes ts left) (λ us h is p. stmt_reported o us h is (StmtPlace.in_body p)) (body_next o) (λ us p. fits (ABody bytes) (body_hole bytes ts p) _ (a_body bytes)) (length us) [] us h (omega arith) is place e

    block_by_reported : (o : Open) (is_brace : Bool) (t : Token) (after us : List Token) (h : Halt) → same_kind t.kind k.LeftBrace ≡ is_brace → us ≡ t ∷ after → BlockPlace bytes ts (suc left) us → IsOpen ts o us →
        block_by bytes left (block bytes left) o is_brace t after us ≡ Err h → Reported bytes ts h
    block_by_reported o true t after us h is_brace at place is e =
        let brace : t.kind ≡ k.LeftBrace = kind_is _ _ is_brace in
        let P : List Token → Type 0 = λ v. BlockPlace bytes ts (suc left) v in
        bind_reported bytes ts (body_at bytes left (block bytes left) (Some t.span.start) after) _ h e
        (body_reported (Some t.span.start) after h (open_in t after (open_as at is) (ap opens brace)) (BodyPlace.braced (subst P at place) brace)) (λ x ok. pure_reported bytes ts _ x.1 h)
    block_by_reported o false t after us h is_brace at place is e =
        bind_reported bytes ts (stmt_at bytes left (block bytes left) o us) _ h e (stmt_reported o us h is (StmtPlace.single place)) (λ x ok. pure_reported bytes ts _ x.1 h)

  blocks_reported : (left : ℕ) → Blocks left
  unfolding block
  blocks_reported zero = record {
    reported = λ o us h place is e. bind_reported bytes ts (first o us) _ h e (first_reported bytes ts o us h is (fits (ABlock bytes) (block_hole bytes ts place) _ (a_block bytes))) (λ x ok e2.
        let P : List Token → Type 0 = λ v. BlockPlace bytes ts 0 v in
        let at : BlockPlace bytes ts 0 (x.0 ∷ x.1) = subst P (first_ok o us x ok) place in
        reported_as bytes ts {A = Block} e2 (deep_reported x.0.kind x.0 (λ begins. Deepens.block at begins) (left_out_block 0 x.0 x.1 at)));
  }
  blocks_reported (suc left) = record {
    reported = λ o us h place is e. bind_reported bytes ts (first o us) _ h e (first_reported bytes ts o us h is (fits (ABlock bytes) (block_hole bytes ts place) _ (a_block bytes))) (λ x ok e2.
        block_by_reported left (blocks_reported left) o (same_kind x.0.kind k.LeftBrace) x.0 x.1 us h refl (first_ok o us x ok) place is e2);
  }

  whole_stmt_reported : (us : List Token) (h : Halt) → IsOpen ts None us → TopPlace bytes ts us → stmt bytes max_depth None us ≡ Err h → Reported bytes ts h
  unfolding stmt
  whole_stmt_reported us h is place e = stmt_reported max_depth (blocks_reported max_depth) None us h is (StmtPlace.top place) e

  whole_body_reported : (o : Open) (us : List Token) (h : Halt) → IsOpen ts o us → BodyPlace bytes ts max_depth us → body bytes max_depth o us ≡ Err h → Reported bytes ts h
  unfolding body
  whole_body_reported o us h is place e = body_reported max_depth (blocks_reported max_depth) o us h is place e

  -- ---- the top of a file

  -- the braces of a ruleset
  braces : List Token
  braces = tok k.LeftBrace ∷ tok k.RightBrace ∷ []

  rules_hole : (w : Token) (us : List Token) → w.kind ≡ k.Ruleset → TopPlace bytes ts (w ∷ us) → Hole bytes ts (Params bytes) us
  unfolding braces
  rules_hole w us same place =
      let P : List Token → Type 0 = λ v. Tops bytes (w ∷ v) in
      pad P (Params bytes) (over (Tops bytes) P (top_hole bytes ts place) (w ∷ []) refl (λ v q. q)) braces (λ v q.
      (0, _, g.TopsAt.more (g.TopAt.rules same (with_tail (g.ParamsAt bytes q.0) v (params_moves q.1) braces (λ e. cc)) refl (g.BodyAt.close refl)) g.TopsAt.none))

  -- after a ruleset's parameters
  headed : (w : Token) (us mid : List Token) (ps : List Param) → w.kind ≡ k.Ruleset → TopPlace bytes ts (w ∷ us) → g.ParamsAt bytes ps us mid → Fits bytes ts mid
  unfolding braces
  headed w us mid ps same place d =
      let m = params_moves d in
      let P : List Token → Type 0 = λ v. Tops bytes (w ∷ (m.0 ++ v)) in
      fits P (over (Tops bytes) P (top_hole bytes ts place) (w ∷ m.0) (ap (λ r. w ∷ r) m.1) (λ v q. q)) braces
      (0, _, g.TopsAt.more (g.TopAt.rules same (m.2 braces (λ a b. cc)) refl (g.BodyAt.close refl)) g.TopsAt.none)

  rules_reported : (w : Token) (us : List Token) (h : Halt) → w.kind ≡ k.Ruleset → TopPlace bytes ts (w ∷ us) → IsOpen ts None us → rules bytes max_depth w us ≡ Err h → Reported bytes ts h
  unfolding rules
  rules_reported w us h same place is e = bind_reported bytes ts (params bytes None us) _ h e (params_reported bytes ts None us h is (rules_hole w us same place)) (λ x ok e2.
      let ps : g.ParamsAt bytes x.0 us x.1 = params_ok bytes None us x ok in
      let is2 : IsOpen ts None x.1 = open_on is (params_balanced ps) in
      bind_reported bytes ts (expect k.LeftBrace None x.1) _ h e2 (expect_reported bytes ts k.LeftBrace None x.1 h is2 (headed w us x.1 x.0 same place ps)) (λ o ok2 e3.
      let b = expect_ok k.LeftBrace None x.1 o ok2 in
      let ps2 : g.ParamsAt bytes x.0 us (o.0 ∷ o.1) = move (g.ParamsAt bytes) refl refl b.0 ps in
      let s : Open = Some o.0.span.start in
      bind_reported bytes ts (body bytes max_depth s o.1) _ h e3 (whole_body_reported s o.1 h (open_in o.0 o.1 (open_as b.0 is2) (ap opens b.1)) (BodyPlace.rules place same ps2 b.1)) (λ y ok3. pure_reported bytes ts _ y.1 h)))

  other_top_reported : (is_rules : Bool) (w : Token) (after us : List Token) (h : Halt) → same_kind w.kind k.Ruleset ≡ is_rules → us ≡ w ∷ after → TopPlace bytes ts us → IsOpen ts None us → other_top bytes max_depth is_rules w after us ≡ Err h → Reported bytes ts h
  other_top_reported true w after us h is_rules at place is e =
      let same : w.kind ≡ k.Ruleset = kind_is _ _ is_rules in
      let P : List Token → Type 0 = λ v. TopPlace bytes ts v in
      bind_reported bytes ts (rules bytes max_depth w after) _ h e (rules_reported w after h same (subst P at place) (open_plain w after (open_as at is) same refl)) (λ x ok. pure_reported bytes ts _ x.1 h)
  other_top_reported false w after us h is_rules at place is e = bind_reported bytes ts (stmt bytes max_depth None us) _ h e (whole_stmt_reported us h is place) (λ x ok. pure_reported bytes ts _ x.1 h)

  top_by_reported : (kind : Option ObjectKind) (w : Token) (after us : List Token) (h : Halt) → object_kind w.kind ≡ kind → us ≡ w ∷ after → TopPlace bytes ts us → IsOpen ts None us → top_by bytes max_depth kind w after us ≡ Err h → Reported bytes ts h
  top_by_reported (Some kind) w after us h same at place is e =
      bind_reported bytes ts (params bytes None after) _ h e (params_reported bytes ts None after h (open_on (open_as at is) (Balanced.other (object_plain w.kind kind same) Balanced.none)) (over (Tops bytes) (Params bytes) (top_hole bytes ts place) (w ∷ []) at (λ v q. (0, _, g.TopsAt.more (g.TopAt.object same q.1) g.TopsAt.none)))) (λ x ok. pure_reported bytes ts _ x.1 h)
  top_by_reported None w after us h same at place is e = other_top_reported (same_kind w.kind k.Ruleset) w after us h refl at place is e

  top_reported : (us : List Token) (h : Halt) → TopPlace bytes ts us → IsOpen ts None us → top bytes max_depth us ≡ Err h → Reported bytes ts h
  unfolding top
  top_reported us h place is e = bind_reported bytes ts (first None us) _ h e (first_reported bytes ts None us h is (fits (Tops bytes) (top_hole bytes ts place) [] (0, [], g.TopsAt.none))) (λ x ok. top_by_reported (object_kind x.0.kind) x.0 x.1 us h refl (first_ok None us x ok) place is)

  tops_cases : (r : Outcome Top) (more : Top → List Token → Result (List Top) Halt) (h : Halt) → tops_then r more ≡ Err h → (r ≡ Err h → Reported bytes ts h) → ((x : Top × List Token) → r ≡ Ok x → more x.0 x.1 ≡ Err h → Reported bytes ts h) → Reported bytes ts h
  tops_cases (Ok x) more h e one two = two x refl e
  tops_cases (Err d) more h e one two = one (let same : d ≡ h = cc in ap Err same)

  tops_from_reported : (n : ℕ) (found : List Top) (us : List Token) (h : Halt) → TopPlace bytes ts us → IsOpen ts None us → tops_from bytes max_depth n found us ≡ Err h → Reported bytes ts h
  unfolding tops_from
  tops_from_reported zero found us h place is e = absurd cc
  tops_from_reported (suc n) found [] h place is e = absurd cc
  tops_from_reported (suc n) found (w ∷ us) h place is e = tops_cases (top bytes max_depth (w ∷ us)) _ h e (top_reported (w ∷ us) h place is) (λ x ok.
      let d = top_ok bytes (w ∷ us) x ok in
      tops_from_reported n (found ++ x.0 ∷ []) x.1 h (TopPlace.next place d) (open_on is (top_balanced d)))

pub tops_reported : (bytes : List ℕ) (ts : List Token) (h : Halt) → tops bytes max_depth ts ≡ Err h → Reported bytes ts h
unfolding tops
tops_reported bytes ts h e = tops_from_reported bytes ts (length ts) [] ts h TopPlace.start (IsOpen.nothing Balanced.none) e
