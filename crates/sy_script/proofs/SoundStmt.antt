-- What reading a script gives is in the grammar.
use Rattle.std.proofs.Common.{◌≡◌, inl, inr, ◌≤◌, ℕ, zero, suc, Bool, true, false, List, [], ◌∷◌, ◌++◌, length, Option, Some, None, Result, Ok, Err, refl, sym, ap, ◌∙◌, subst, append_assoc, append-nil, arith}
use Rattle.sy_script.specs.declared.token.Kind.{Kind}
use Rattle.sy_script.specs.declared.token.Kind.TheVariants as k
use Rattle.sy_script.specs.declared.token.Token.{Token}
use Rattle.sy_script.specs.declared.token.Ending.{Ending}
use Rattle.sy_script.specs.declared.token.Ending.TheVariants as ending
use Rattle.sy_script.specs.declared.halt.Halt.{Halt}
use Rattle.sy_script.specs.declared.tree.ExprTree.{ExprTree}
use Rattle.sy_script.specs.declared.tree.ObjectKind.{ObjectKind}
use Rattle.sy_script.specs.declared.tree.Block.{Block}
use Rattle.sy_script.specs.declared.tree.Stmt.{Stmt}
use Rattle.sy_script.specs.declared.tree.Stmt.TheVariants as s
use Rattle.sy_script.specs.declared.tree.Ruleset.{Ruleset}
use Rattle.sy_script.specs.declared.tree.Top.{Top}
use Rattle.sy_script.specs.declared.tree.Top.TheVariants as t
use Rattle.sy_script.specs.declared.tree.Script.{Script}
use Rattle.sy_script.specs.Terms.{max_depth, max_text, object_kind}
use Rattle.sy_script.specs.internal.Lex.{tokens}
use Rattle.sy_script.specs.internal.Reading.{Outcome, Parser, Open, and_then, refuse, same_kind, first, expect, behind, word, items_from, params}
use Rattle.sy_script.specs.internal.ReadingExpr.{expr}
use Rattle.sy_script.specs.internal.ReadingStmt.{otherwise_by, choice_at, stmt_by, stmt_at, body_at, block_by, block, stmt, body, rules, other_top, top_by, top, tops_then, tops_from, tops}
use Rattle.sy_script.specs.internal.Answer.{ended, reading}
use Rattle.sy_script.specs.Grammar as g
use Rattle.sy_script.proofs.Sound.{bind_ok, ok_is, pure_ok, kind_is, first_ok, expect_ok, behind_ok, word_ok, params_ok, turn_ok, move}
use Rattle.sy_script.proofs.SoundExpr.{whole_ok}
use Rattle.sy_script.proofs.ReadBack.{no_else}
use Rattle.sy_script.proofs.Takes.{top_takes}
use Rattle.sy_script.proofs.Cuts.{whole_cut}

-- ---- statements, where blocks are in the grammar

abbrev Grown : {A : Type 0} → List A → (List A → Type 0) → List A → Type 0
Grown {A} found P all = (xs : List A) × (all ≡ found ++ xs) × P xs

module _ (bytes : List ℕ) (left : ℕ) (inner : Open → Parser Block) (deep : (o : Open) (ts : List Token) (y : Block × List Token) → inner o ts ≡ Ok y → g.BlockAt bytes left y.0 ts y.1) where
  otherwise_ok : (o : Open) (x : ExprTree) (done : Block) (i w : Token) (ts us : List Token) (next : Option (List Token)) (mid : List Token) (y : Stmt × List Token) →
      i.kind ≡ k.If → g.ExprAt bytes left x ts (w ∷ us) → w.kind ≡ k.Then → g.BlockAt bytes left done us mid → behind k.Else mid ≡ next →
      otherwise_by inner o x done next mid ≡ Ok y → g.StmtAt bytes left y.0 (i ∷ ts) y.1
  otherwise_ok o x done i w ts us None mid y is test is_w block is_next h =
      let p = pure_ok _ mid y h in
      move (g.StmtAt bytes left) p.0 refl p.1 (g.StmtAt.one_way is test is_w block (no_else mid is_next))
  otherwise_ok o x done i w ts us (Some after) mid y is test is_w block is_next h =
      let s = bind_ok (inner o after) _ y h in
      let p = pure_ok _ s.0.1 y s.2 in
      let c = behind_ok k.Else mid after is_next in
      let whole : g.BlockAt bytes left done us (c.0 ∷ after) = move (g.BlockAt bytes left) refl refl c.1 block in
      move (g.StmtAt bytes left) p.0 refl p.1 (g.StmtAt.two_ways is test is_w whole c.2 (deep o after s.0 s.1))

  choice_ok : (o : Open) (i : Token) (ts : List Token) (y : Stmt × List Token) → i.kind ≡ k.If → choice_at bytes left inner o ts ≡ Ok y → g.StmtAt bytes left y.0 (i ∷ ts) y.1
  choice_ok o i ts y is h =
      let s = bind_ok (expr bytes left o ts) _ y h in
      let s2 = bind_ok (expect k.Then o s.0.1) _ y s.2 in
      let w = expect_ok k.Then o s.0.1 s2.0 s2.1 in
      let s3 = bind_ok (inner o s2.0.1) _ y s2.2 in
      let test : g.ExprAt bytes left s.0.0 ts (s2.0.0 ∷ s2.0.1) = move (g.ExprAt bytes left) refl refl w.0 (whole_ok bytes left o ts s.0 s.1) in
      otherwise_ok o s.0.0 s3.0.0 i s2.0.0 ts s2.0.1 (behind k.Else s3.0.1) s3.0.1 y is test w.1 (deep o s2.0.1 s3.0 s3.1) refl s3.2

  stmt_by_ok : (o : Open) (kind : Kind) (w : Token) (rest : List Token) (y : Stmt × List Token) → w.kind ≡ kind → stmt_by bytes left inner o kind w rest ≡ Ok y → g.StmtAt bytes left y.0 (w ∷ rest) y.1
  stmt_by_ok o k.Action w rest y is h =
      let s = bind_ok (params bytes o rest) _ y h in
      let p = pure_ok _ s.0.1 y s.2 in
      move (g.StmtAt bytes left) p.0 refl p.1 (g.StmtAt.action is (params_ok bytes o rest s.0 s.1))
  stmt_by_ok o k.Call w rest y is h =
      let first_read = bind_ok (word bytes o rest) _ y h in
      let p = pure_ok _ first_read.0.1 y first_read.2 in
      let n = word_ok bytes o rest first_read.0 first_read.1 in
      move (g.StmtAt bytes left) (ap s.Call n.3 ∙ p.0) (ap (λ r. w ∷ r) (sym n.1)) p.1 (g.StmtAt.call is n.2)
  stmt_by_ok o k.Stop w rest y is h =
      let p = pure_ok _ rest y h in
      move (g.StmtAt bytes left) p.0 refl p.1 (g.StmtAt.stop is)
  stmt_by_ok o k.If w rest y is h = choice_ok o w rest y is h
  stmt_by_ok o _ w rest y is h = absurd cc

  pub stmt_ok : (o : Open) (ts : List Token) (y : Stmt × List Token) → stmt_at bytes left inner o ts ≡ Ok y → g.StmtAt bytes left y.0 ts y.1
  stmt_ok o ts y h =
      let s = bind_ok (first o ts) _ y h in
      move (g.StmtAt bytes left) refl (sym (first_ok o ts s.0 s.1)) refl (stmt_by_ok o s.0.0.kind s.0.0 s.0.1 y refl s.2)

  body_from_ok : (o : Open) (n : ℕ) (found : List Stmt) (ts : List Token) (y : List Stmt × List Token) → items_from k.RightBrace o (stmt_at bytes left inner o) n found ts ≡ Ok y →
      Grown found (λ xs. g.BodyAt bytes left xs ts y.1) y.0
  unfolding items_from
  body_from_ok o zero found ts y h = absurd cc
  body_from_ok o (suc n) found ts y h =
      elim (turn_ok (behind k.RightBrace ts) found _ y h) [
        | inl w ↦
            let c = behind_ok k.RightBrace ts w.0 w.1 in
            ([], sym w.2 ∙ sym (append-nil found), move (g.BodyAt bytes left) refl (sym c.1) w.3 (g.BodyAt.close c.2))
        | inr more ↦
            let s = bind_ok (stmt_at bytes left inner o ts) _ y more in
            let rest = body_from_ok o n (found ++ s.0.0 ∷ []) s.0.1 y s.2 in
            (s.0.0 ∷ rest.0, rest.1 ∙ append_assoc found (s.0.0 ∷ []) rest.0, g.BodyAt.stmt (stmt_ok o ts s.0 s.1) rest.2)
      ]

  pub body_ok : (o : Open) (ts : List Token) (y : List Stmt × List Token) → body_at bytes left inner o ts ≡ Ok y → g.BodyAt bytes left y.0 ts y.1
  body_ok o ts y h = let w = body_from_ok o (length ts) [] ts y h in move (g.BodyAt bytes left) (sym w.1) refl refl w.2

  pub block_by_ok : (o : Open) (is_brace : Bool) (w : Token) (after ts : List Token) (y : Block × List Token) → same_kind w.kind k.LeftBrace ≡ is_brace → ts ≡ w ∷ after → block_by bytes left inner o is_brace w after ts ≡ Ok y →
      g.BlockAt bytes (suc left) y.0 ts y.1
  block_by_ok o true w after ts y is at h =
      let s = bind_ok (body_at bytes left inner (Some w.span.start) after) _ y h in
      let p = pure_ok _ s.0.1 y s.2 in
      move (g.BlockAt bytes (suc left)) p.0 (sym at) p.1 (g.BlockAt.braced (kind_is _ _ is) (body_ok (Some w.span.start) after s.0 s.1))
  block_by_ok o false w after ts y is at h =
      let s = bind_ok (stmt_at bytes left inner o ts) _ y h in
      let p = pure_ok _ s.0.1 y s.2 in
      move (g.BlockAt bytes (suc left)) p.0 refl p.1 (g.BlockAt.single (stmt_ok o ts s.0 s.1))

refused : {A : Type 0} (r : Outcome Token) (f : Token → Halt) (y : A × List Token) → and_then r (λ w. refuse (f w)) ≡ Ok y → ⊥
refused (Ok x) f y h = absurd cc
refused (Err x) f y h = absurd cc

pub block_ok : (bytes : List ℕ) (left : ℕ) (o : Open) (ts : List Token) (y : Block × List Token) → block bytes left o ts ≡ Ok y → g.BlockAt bytes left y.0 ts y.1
unfolding block
block_ok bytes zero o ts y h = absurd (refused (first o ts) _ y h)
block_ok bytes (suc left) o ts y h =
    let s = bind_ok (first o ts) _ y h in
    block_by_ok bytes left (block bytes left) (block_ok bytes left) o (same_kind s.0.0.kind k.LeftBrace) s.0.0 s.0.1 ts y refl (first_ok o ts s.0 s.1) s.2

pub whole_stmt_ok : (bytes : List ℕ) (left : ℕ) (o : Open) (ts : List Token) (y : Stmt × List Token) → stmt bytes left o ts ≡ Ok y → g.StmtAt bytes left y.0 ts y.1
unfolding stmt
whole_stmt_ok bytes left o ts y h = stmt_ok bytes left (block bytes left) (block_ok bytes left) o ts y h

pub whole_body_ok : (bytes : List ℕ) (left : ℕ) (o : Open) (ts : List Token) (y : List Stmt × List Token) → body bytes left o ts ≡ Ok y → g.BodyAt bytes left y.0 ts y.1
unfolding body
whole_body_ok bytes left o ts y h = body_ok bytes left (block bytes left) (block_ok bytes left) o ts y h

-- ---- the top of a file

rules_ok : (bytes : List ℕ) (w : Token) (ts : List Token) (y : Ruleset × List Token) → w.kind ≡ k.Ruleset → rules bytes max_depth w ts ≡ Ok y → g.TopAt bytes max_depth (t.Ruleset y.0) (w ∷ ts) y.1
unfolding rules
rules_ok bytes w ts y is h =
    let s = bind_ok (params bytes None ts) _ y h in
    let s2 = bind_ok (expect k.LeftBrace None s.0.1) _ y s.2 in
    let brace = expect_ok k.LeftBrace None s.0.1 s2.0 s2.1 in
    let s3 = bind_ok (body bytes max_depth (Some s2.0.0.span.start) s2.0.1) _ y s2.2 in
    let p = pure_ok _ s3.0.1 y s3.2 in
    let found : g.ParamsAt bytes s.0.0 ts (s2.0.0 ∷ s2.0.1) = move (g.ParamsAt bytes) refl refl brace.0 (params_ok bytes None ts s.0 s.1) in
    move (g.TopAt bytes max_depth) (ap t.Ruleset p.0) refl p.1 (g.TopAt.rules is found brace.1 (whole_body_ok bytes max_depth (Some s2.0.0.span.start) s2.0.1 s3.0 s3.1))

other_top_ok : (bytes : List ℕ) (is_rules : Bool) (w : Token) (after ts : List Token) (y : Top × List Token) → same_kind w.kind k.Ruleset ≡ is_rules → ts ≡ w ∷ after → other_top bytes max_depth is_rules w after ts ≡ Ok y → g.TopAt bytes max_depth y.0 ts y.1
other_top_ok bytes true w after ts y is at h =
    let s = bind_ok (rules bytes max_depth w after) _ y h in
    let p = pure_ok _ s.0.1 y s.2 in
    move (g.TopAt bytes max_depth) p.0 (sym at) p.1 (rules_ok bytes w after s.0 (kind_is _ _ is) s.1)
other_top_ok bytes false w after ts y is at h =
    let s = bind_ok (stmt bytes max_depth None ts) _ y h in
    let p = pure_ok _ s.0.1 y s.2 in
    move (g.TopAt bytes max_depth) p.0 refl p.1 (g.TopAt.stmt (whole_stmt_ok bytes max_depth None ts s.0 s.1))

top_by_ok : (bytes : List ℕ) (kind : Option ObjectKind) (w : Token) (after ts : List Token) (y : Top × List Token) → object_kind w.kind ≡ kind → ts ≡ w ∷ after → top_by bytes max_depth kind w after ts ≡ Ok y → g.TopAt bytes max_depth y.0 ts y.1
top_by_ok bytes (Some kind) w after ts y is at h =
    let s = bind_ok (params bytes None after) _ y h in
    let p = pure_ok _ s.0.1 y s.2 in
    move (g.TopAt bytes max_depth) p.0 (sym at) p.1 (g.TopAt.object is (params_ok bytes None after s.0 s.1))
top_by_ok bytes None w after ts y is at h = other_top_ok bytes (same_kind w.kind k.Ruleset) w after ts y refl at h

pub top_ok : (bytes : List ℕ) (ts : List Token) (y : Top × List Token) → top bytes max_depth ts ≡ Ok y → g.TopAt bytes max_depth y.0 ts y.1
unfolding top
top_ok bytes ts y h =
    let s = bind_ok (first None ts) _ y h in
    top_by_ok bytes (object_kind s.0.0.kind) s.0.0 s.0.1 ts y refl (first_ok None ts s.0 s.1) s.2

tops_then_ok : (r : Outcome Top) (more : Top → List Token → Result (List Top) Halt) (y : List Top) → tops_then r more ≡ Ok y → (x : Top × List Token) × (r ≡ Ok x) × (more x.0 x.1 ≡ Ok y)
tops_then_ok (Ok x) more y h = (x, refl, h)
tops_then_ok (Err e) more y h = absurd cc

tops_from_ok : (bytes : List ℕ) (n : ℕ) (found : List Top) (ts : List Token) (y : List Top) → length ts ≤ n → tops_from bytes max_depth n found ts ≡ Ok y → Grown found (λ xs. g.TopsAt bytes max_depth xs ts) y
unfolding tops_from
tops_from_ok bytes zero found [] y small h = ([], sym (ok_is h) ∙ sym (append-nil found), g.TopsAt.none)
tops_from_ok bytes zero found (w ∷ ts) y small h = absurd (omega arith)
tops_from_ok bytes (suc n) found [] y small h = ([], sym (ok_is h) ∙ sym (append-nil found), g.TopsAt.none)
tops_from_ok bytes (suc n) found (w ∷ ts) y small h =
    let s = tops_then_ok (top bytes max_depth (w ∷ ts)) _ y h in
    let one = top_ok bytes (w ∷ ts) s.0 s.1 in
    let rest = tops_from_ok bytes n (found ++ s.0.0 ∷ []) s.0.1 y (omega (arith, top_takes one)) s.2 in
    (s.0.0 ∷ rest.0, rest.1 ∙ append_assoc found (s.0.0 ∷ []) rest.0, g.TopsAt.more one rest.2)

pub tops_ok : (bytes : List ℕ) (ts : List Token) (y : List Top) → tops bytes max_depth ts ≡ Ok y → g.TopsAt bytes max_depth y ts
unfolding tops
tops_ok bytes ts y h =
    let w = tops_from_ok bytes (length ts) [] ts y (omega arith) h in
    let P : List Top → Type 0 = λ v. g.TopsAt bytes max_depth v ts in
    subst P (sym w.1) w.2

ended_ok : (text : List ℕ) (end : Ending) (r : Result (List Top) Halt) (script : Script) → ended (length text) end r ≡ Ok script → (end ≡ ending.Complete) × (r ≡ Ok script.tops)
ended_ok text ending.Complete (Ok tops) script h = (refl, ap Ok (ap (λ (x : Script). x.tops) (let e : (let q : Script = record { tops = tops } in q) ≡ script = cc in e)))
ended_ok text (ending.Byte at) (Ok tops) script h = absurd cc
ended_ok text (ending.Open at) (Ok tops) script h = absurd cc
ended_ok text end (Err halt) script h = absurd cc

pub reading_ok : (text : List ℕ) (script : Script) → length text ≤ max_text → reading text ≡ Ok script → g.IsScript text script
unfolding reading
reading_ok text script small h =
    let w = ended_ok text (tokens text).1 _ script h in
    record { small = small; tokens = (tokens text).0; are_tokens = whole_cut text w.0; tree = tops_ok text (tokens text).0 script.tops w.1 }
