-- Statements and files look at no token after the one that they stop at.
use Rattle.std.proofs.Common.{◌≡◌, ◌⊎◌, inl, inr, ◌<◌, ◌≤◌, ℕ, zero, suc, Bool, true, false, List, [], ◌∷◌, ◌++◌, length, Option, Some, None, Result, Ok, Err, refl, sym, ap, ◌∙◌, subst, append_assoc, arith, length-append}
use Rattle.sy_script.specs.declared.token.Kind.{Kind}
use Rattle.sy_script.specs.declared.token.Kind.TheVariants as k
use Rattle.sy_script.specs.declared.token.Token.{Token}
use Rattle.sy_script.specs.declared.halt.Halt.{Halt}
use Rattle.sy_script.specs.declared.halt.Halt.TheVariants as halt
use Rattle.sy_script.specs.declared.tree.ExprTree.{ExprTree}
use Rattle.sy_script.specs.declared.tree.ObjectKind.{ObjectKind}
use Rattle.sy_script.specs.declared.tree.Block.{Block}
use Rattle.sy_script.specs.declared.tree.Stmt.{Stmt}
use Rattle.sy_script.specs.declared.tree.Top.{Top}
use Rattle.sy_script.specs.Terms.{max_depth, object_kind}
use Rattle.sy_script.specs.internal.Reading.{Outcome, Parser, Open, and_then, refuse, same_kind, behind, first, params}
use Rattle.sy_script.specs.internal.ReadingStmt.{refusal_by, refusal, too_deep_by, too_deep, otherwise_by, choice_at, stmt_by, stmt_at, body_at, block_by, block, stmt, body, rules, other_top, top_by, top, tops_then, tops_from, tops}
use Rattle.sy_script.specs.Grammar as g
use Rattle.sy_script.proofs.DeadEnd.{StopsAt, AtToken, IsDeadEnd}
use Rattle.sy_script.proofs.Takes.{stmt_takes, top_takes}
use Rattle.sy_script.proofs.Sound.{pure_ok, behind_ok}
use Rattle.sy_script.proofs.SoundStmt.{stmt_ok, block_ok, top_ok}
use Rattle.sy_script.proofs.ReadBack.{behind_reads}
use Rattle.sy_script.proofs.ReadBackStmt.{tops_reads}
use Rattle.sy_script.proofs.Local.{Alike, behind_alike, Goes, Stops, Local, After, local_bind, local_pure, after_local, after_refuse, first_then, expect_local, word_local}
use Rattle.sy_script.proofs.LocalItems.{items_local, params_local}
use Rattle.sy_script.proofs.LocalExpr.{expr_local, alike_to}

refusal_spot : (kind : Kind) (t : Token) → StopsAt (refusal_by kind t) t
refusal_spot k.LeftOut t = refl
refusal_spot k.Property t = refl
refusal_spot _ t = refl

deep_spot : (kind : Kind) (t : Token) → StopsAt (refusal t) t → StopsAt (too_deep_by kind t) t
deep_spot k.LeftBrace t h = refl
deep_spot k.Action t h = refl
deep_spot k.Call t h = refl
deep_spot k.Stop t h = refl
deep_spot k.If t h = refl
deep_spot _ t h = h

-- a parser that chooses by its first token: one that reads after it, or one that reads from it
module _ {A : Type 0} (o : Open) (test : Token → Bool) (q : Token → Parser A) (r : Parser A) (lq : (t : Token) → Local (q t)) (lr : Local r)
    (p : Parser A) (p_nil : p [] ≡ Err (halt.End o)) (p_true : (t : Token) (us : List Token) → test t ≡ true → p (t ∷ us) ≡ q t us) (p_false : (t : Token) (us : List Token) → test t ≡ false → p (t ∷ us) ≡ r (t ∷ us)) where
  reread : (t : Token) (us vs : List Token) → test t ≡ false → Alike (t ∷ us) vs → p vs ≡ r vs
  reread t us [] is a = absurd a
  reread t us (v ∷ vs) is a = p_false v vs (ap test (sym a) ∙ is)

  goes_by : (b : Bool) (t : Token) (us : List Token) (y : A) (rest : List Token) → test t ≡ b → p (t ∷ us) ≡ Ok (y, rest) → Goes p (t ∷ us) y rest
  goes_by true t us y rest is e =
      let a = (lq t).goes us y rest (sym (p_true t us is) ∙ e) in
      record { front = t ∷ a.front; is_ts = ap (λ r. t ∷ r) a.is_ts; again = λ more same. p_true t (a.front ++ more) is ∙ a.again more same }
  goes_by false t us y rest is e =
      let a = lr.goes (t ∷ us) y rest (sym (p_false t us is) ∙ e) in
      record { front = a.front; is_ts = a.is_ts; again = λ more same. reread t us (a.front ++ more) is (alike_to (t ∷ us) a.front rest more a.is_ts same) ∙ a.again more same }

  stops_by : (b : Bool) (t : Token) (us : List Token) (h : Halt) → AtToken h → test t ≡ b → p (t ∷ us) ≡ Err h → Stops p (t ∷ us) h
  stops_by true t us h hard is e =
      let a = (lq t).stops us h hard (sym (p_true t us is) ∙ e) in
      record { front = t ∷ a.front; t = a.t; rest = a.rest; is_ts = ap (λ r. t ∷ r) a.is_ts; spot = a.spot; again = λ more. p_true t (a.front ++ a.t ∷ more) is ∙ a.again more }
  stops_by false t us h hard is e =
      let a = lr.stops (t ∷ us) h hard (sym (p_false t us is) ∙ e) in
      record { front = a.front; t = a.t; rest = a.rest; is_ts = a.is_ts; spot = a.spot; again = λ more. reread t us (a.front ++ a.t ∷ more) is (alike_to (t ∷ us) a.front (a.t ∷ a.rest) (a.t ∷ more) a.is_ts refl) ∙ a.again more }

  goes : (ts : List Token) (y : A) (rest : List Token) → p ts ≡ Ok (y, rest) → Goes p ts y rest
  goes [] y rest e = absurd (let no : Err (halt.End o) ≡ Ok (y, rest) = sym p_nil ∙ e in cc)
  goes (t ∷ us) y rest e = goes_by (test t) t us y rest refl e

  stops : (ts : List Token) (h : Halt) → AtToken h → p ts ≡ Err h → Stops p ts h
  stops [] h hard e = let no : (let r : Outcome A = Err (halt.End o) in r) ≡ Err h = sym p_nil ∙ e in let same : halt.End o ≡ h = cc in absurd (subst (λ (h : Halt). AtToken h) (sym same) hard)
  stops (t ∷ us) h hard e = stops_by (test t) t us h hard refl e

  local_choose : Local p
  local_choose = record { goes = goes; stops = stops }

module _ (bytes : List ℕ) (left : ℕ) (inner_local : (o : Open) → Local (block bytes left o)) where
  otherwise_local : (o : Open) (x : ExprTree) (done : Block) → Local (λ ts. otherwise_by (block bytes left) o x done (behind k.Else ts) ts)
  otherwise_local o x done = record { goes = λ ts y rest e. goes_other (behind k.Else ts) ts y rest refl e; stops = λ ts h hard e. stops_other (behind k.Else ts) ts h hard refl e } where
    P : Parser Stmt
    P = λ ts. otherwise_by (block bytes left) o x done (behind k.Else ts) ts

    goes_other : (b : Option (List Token)) (ts : List Token) (y : Stmt) (rest : List Token) → behind k.Else ts ≡ b → otherwise_by (block bytes left) o x done b ts ≡ Ok (y, rest) → Goes (λ ts. otherwise_by (block bytes left) o x done (behind k.Else ts) ts) ts y rest
    goes_other None ts y rest is h =
        let p = pure_ok _ ts (y, rest) h in
        record {
          front = [];
          is_ts = p.1;
          again = λ more same. let Q : List Token → Type 0 = λ v. Alike v more in
              ap (λ b. otherwise_by (block bytes left) o x done b more) (behind_alike k.Else ts more (subst Q (sym p.1) same) is) ∙ ap (λ v. Ok (v, more)) p.0;
        }
    goes_other (Some after) ts y rest is h =
        let c = behind_ok k.Else ts after is in
        let a = (local_bind (block bytes left o) _ (inner_local o) (λ other. local_pure _)).goes after y rest h in
        record {
          front = c.0 ∷ a.front;
          is_ts = c.1 ∙ ap (λ r. c.0 ∷ r) a.is_ts;
          again = λ more same. ap (λ b. otherwise_by (block bytes left) o x done b (c.0 ∷ (a.front ++ more))) (behind_reads k.Else c.0 (a.front ++ more) c.2) ∙ a.again more same;
        }

    stops_other : (b : Option (List Token)) (ts : List Token) (h : Halt) → AtToken h → behind k.Else ts ≡ b → otherwise_by (block bytes left) o x done b ts ≡ Err h → Stops (λ ts. otherwise_by (block bytes left) o x done (behind k.Else ts) ts) ts h
    stops_other None ts h hard is e = absurd cc
    stops_other (Some after) ts h hard is e =
        let c = behind_ok k.Else ts after is in
        let a = (local_bind (block bytes left o) _ (inner_local o) (λ other. local_pure _)).stops after h hard e in
        record {
          front = c.0 ∷ a.front;
          t = a.t;
          rest = a.rest;
          is_ts = c.1 ∙ ap (λ r. c.0 ∷ r) a.is_ts;
          spot = a.spot;
          again = λ more. ap (λ b. otherwise_by (block bytes left) o x done b (c.0 ∷ (a.front ++ a.t ∷ more))) (behind_reads k.Else c.0 (a.front ++ a.t ∷ more) c.2) ∙ a.again more;
        }

  choice_local : (o : Open) → Local (choice_at bytes left (block bytes left) o)
  choice_local o = local_bind _ _ (expr_local bytes left o) (λ x. local_bind _ _ (expect_local k.Then o) (λ w. local_bind _ _ (inner_local o) (λ done. otherwise_local o x done)))

  stmt_after : (o : Open) (kind : Kind) (t : Token) → After t (stmt_by bytes left (block bytes left) o kind t)
  stmt_after o k.Action t = after_local t _ (local_bind _ _ (params_local bytes o) (λ found. local_pure _))
  stmt_after o k.Call t = after_local t _ (local_bind _ _ (word_local bytes o) (λ name. local_pure _))
  stmt_after o k.Stop t = after_local t _ (local_pure _)
  stmt_after o k.If t = after_local t _ (choice_local o)
  stmt_after o _ t = after_refuse t (refusal t) (refusal_spot t.kind t)

  stmt_at_local : (o : Open) → Local (stmt_at bytes left (block bytes left) o)
  stmt_at_local o = first_then o _ (λ t. stmt_after o t.kind t)

  stmt_less : (o : Open) (us : List Token) (x : Stmt) (mid : List Token) → stmt_at bytes left (block bytes left) o us ≡ Ok (x, mid) → length mid < length us
  stmt_less o us x mid h = stmt_takes (stmt_ok bytes left (block bytes left) (block_ok bytes left) o us (x, mid) h)

  body_at_local : (o : Open) → Local (body_at bytes left (block bytes left) o)
  body_at_local o = items_local k.RightBrace o (stmt_at bytes left (block bytes left) o) (stmt_at_local o) (stmt_less o)

  block_suc_local : (o : Open) → Local (block bytes (suc left) o)
  unfolding block
  block_suc_local o =
      local_choose o (λ t. same_kind t.kind k.LeftBrace) (λ t after. block_by bytes left (block bytes left) o true t after []) (λ ts. block_by bytes left (block bytes left) o false (record { kind = k.Name; span = record { start = 0; end = 0 } }) [] ts)
      (λ t. local_bind (body_at bytes left (block bytes left) (Some t.span.start)) _ (body_at_local (Some t.span.start)) (λ xs. local_pure _))
      (local_bind (stmt_at bytes left (block bytes left) o) _ (stmt_at_local o) (λ x. local_pure _))
      (block bytes (suc left) o) refl (λ t us is. ap (λ b. block_by bytes left (block bytes left) o b t us (t ∷ us)) is) (λ t us is. ap (λ b. block_by bytes left (block bytes left) o b t us (t ∷ us)) is)

block_local : (bytes : List ℕ) (left : ℕ) (o : Open) → Local (block bytes left o)
unfolding block
block_local bytes zero o = first_then o _ (λ t. after_refuse t (too_deep t) (deep_spot t.kind t (refusal_spot t.kind t)))
block_local bytes (suc left) o = block_suc_local bytes left (block_local bytes left) o

stmt_local : (bytes : List ℕ) (left : ℕ) (o : Open) → Local (stmt bytes left o)
unfolding stmt
stmt_local bytes left o = stmt_at_local bytes left (block_local bytes left) o

body_local : (bytes : List ℕ) (left : ℕ) (o : Open) → Local (body bytes left o)
unfolding body
body_local bytes left o = body_at_local bytes left (block_local bytes left) o

rules_local : (bytes : List ℕ) (w : Token) → Local (rules bytes max_depth w)
unfolding rules
rules_local bytes w = local_bind _ _ (params_local bytes None) (λ found. local_bind _ _ (expect_local k.LeftBrace None) (λ v. local_bind _ _ (body_local bytes max_depth (Some v.span.start)) (λ xs. local_pure _)))

-- ---- the top of a file

other : List ℕ → Parser Top
other bytes = λ ts. and_then (first None ts) (λ t after. other_top bytes max_depth (same_kind t.kind k.Ruleset) t after ts)

blank : Token
blank = record { kind = k.Name; span = record { start = 0; end = 0 } }

other_local : (bytes : List ℕ) → Local (other bytes)
unfolding other
other_local bytes =
    local_choose None (λ t. same_kind t.kind k.Ruleset) (λ t after. other_top bytes max_depth true t after []) (λ ts. other_top bytes max_depth false blank [] ts)
    (λ t. local_bind (rules bytes max_depth t) _ (rules_local bytes t) (λ x. local_pure _)) (local_bind (stmt bytes max_depth None) _ (stmt_local bytes max_depth None) (λ x. local_pure _))
    (other bytes) refl (λ t us is. ap (λ b. other_top bytes max_depth b t us (t ∷ us)) is) (λ t us is. ap (λ b. other_top bytes max_depth b t us (t ∷ us)) is)

is_object : Option ObjectKind → Bool
is_object None = false
is_object (Some kind) = true

local_memory : {A : Type 0} → (let p : Parser A = refuse halt.Memory in Local p)
local_memory = record {
  goes = λ ts x rest e. absurd cc;
  stops = λ ts h hard e. let same : halt.Memory ≡ h = cc in absurd (subst (λ (h : Halt). AtToken h) (sym same) hard);
}

object_at : List ℕ → Option ObjectKind → Token → Parser Top
object_at bytes (Some kind) t = λ after. top_by bytes max_depth (Some kind) t after []
object_at bytes None t = refuse halt.Memory

object_local : (bytes : List ℕ) (kind : Option ObjectKind) (t : Token) → Local (object_at bytes kind t)
unfolding object_at
object_local bytes (Some kind) t = local_bind (params bytes None) _ (params_local bytes None) (λ ps. local_pure _)
object_local bytes None t = local_memory

top_object : (bytes : List ℕ) (kind : Option ObjectKind) (t : Token) (us : List Token) → is_object kind ≡ true → top_by bytes max_depth kind t us (t ∷ us) ≡ object_at bytes kind t us
unfolding is_object object_at
top_object bytes (Some kind) t us is = refl
top_object bytes None t us is = absurd cc

top_other : (bytes : List ℕ) (kind : Option ObjectKind) (t : Token) (us : List Token) → is_object kind ≡ false → top_by bytes max_depth kind t us (t ∷ us) ≡ other bytes (t ∷ us)
unfolding is_object other
top_other bytes (Some kind) t us is = absurd cc
top_other bytes None t us is = refl

top_local : (bytes : List ℕ) → Local (top bytes max_depth)
unfolding top
top_local bytes =
    local_choose None (λ t. is_object (object_kind t.kind)) (λ t. object_at bytes (object_kind t.kind) t) (other bytes) (λ t. object_local bytes (object_kind t.kind) t) (other_local bytes)
    (top bytes max_depth) refl (λ t us is. top_object bytes (object_kind t.kind) t us is) (λ t us is. top_other bytes (object_kind t.kind) t us is)

top_less : (bytes : List ℕ) (us : List Token) (x : Top) (mid : List Token) → top bytes max_depth us ≡ Ok (x, mid) → length mid < length us
top_less bytes us x mid h = top_takes (top_ok bytes us (x, mid) h)

pub tops_err : (bytes : List ℕ) (m : ℕ) (found : List Top) (vs : List Token) (h : Halt) → 0 < length vs → length vs ≤ m → top bytes max_depth vs ≡ Err h → tops_from bytes max_depth m found vs ≡ Err h
unfolding tops_from
tops_err bytes m found [] h some small e = absurd (omega arith)
tops_err bytes zero found (v ∷ vs) h some small e = absurd (omega arith)
tops_err bytes (suc m) found (v ∷ vs) h some small e = ap (λ r. tops_then r (λ x. tops_from bytes max_depth m (found ++ x ∷ []))) e

pub tops_step : (bytes : List ℕ) (m : ℕ) (found : List Top) (vs : List Token) (x : Top) (mid : List Token) (r : Result (List Top) Halt) → top bytes max_depth vs ≡ Ok (x, mid) → length mid < length vs → length vs ≤ m →
    ((m' : ℕ) → length mid ≤ m' → tops_from bytes max_depth m' (found ++ x ∷ []) mid ≡ r) → tops_from bytes max_depth m found vs ≡ r
unfolding tops_from
tops_step bytes m found [] x mid r e less small more = absurd (omega arith)
tops_step bytes zero found (v ∷ vs) x mid r e less small more = absurd (omega arith)
tops_step bytes (suc m) found (v ∷ vs) x mid r e less small more = ap (λ r. tops_then r (λ x. tops_from bytes max_depth m (found ++ x ∷ []))) e ∙ more m (omega arith)

tops_cases : (r : Outcome Top) (more : Top → List Token → Result (List Top) Halt) (h : Halt) → tops_then r more ≡ Err h → (r ≡ Err h) ⊎ ((x : Top × List Token) × (r ≡ Ok x) × (more x.0 x.1 ≡ Err h))
tops_cases (Ok x) more h e = inr (x, refl, e)
tops_cases (Err d) more h e = inl (let same : d ≡ h = cc in ap Err same)

record Stop (bytes : List ℕ) (found : List Top) (ts : List Token) (h : Halt) : Type 0 where
  front : List Token
  t : Token
  rest : List Token
  is_ts : ts ≡ front ++ t ∷ rest
  spot : StopsAt h t
  again : (more : List Token) (m : ℕ) → length (front ++ t ∷ more) ≤ m → tops_from bytes max_depth m found (front ++ t ∷ more) ≡ Err h

tops_stop : (bytes : List ℕ) (n : ℕ) (found : List Top) (ts : List Token) (h : Halt) → AtToken h → tops_from bytes max_depth n found ts ≡ Err h → Stop bytes found ts h
unfolding tops_from
tops_stop bytes zero found ts h hard e = absurd cc
tops_stop bytes (suc n) found [] h hard e = absurd cc
tops_stop bytes (suc n) found (w ∷ ws) h hard e = elim (tops_cases (top bytes max_depth (w ∷ ws)) _ h e) [
  | inl d ↦
      let a = (top_local bytes).stops (w ∷ ws) h hard d in
      record {
        front = a.front;
        t = a.t;
        rest = a.rest;
        is_ts = a.is_ts;
        spot = a.spot;
        again = λ more m small. tops_err bytes m found (a.front ++ a.t ∷ more) h (omega (arith, length-append a.front (a.t ∷ more))) small (a.again more);
      }
  | inr s ↦
      let a = (top_local bytes).goes (w ∷ ws) s.0.0 s.0.1 s.1 in
      let b = tops_stop bytes n (found ++ s.0.0 ∷ []) s.0.1 h hard s.2 in
      record {
        front = a.front ++ b.front;
        t = b.t;
        rest = b.rest;
        is_ts = a.is_ts ∙ (ap (λ r. a.front ++ r) b.is_ts ∙ sym (append_assoc a.front b.front (b.t ∷ b.rest)));
        spot = b.spot;
        again = λ more m small.
            let us : List Token = a.front ++ (b.front ++ b.t ∷ more) in
            let head : Alike s.0.1 (b.front ++ b.t ∷ more) = alike_to s.0.1 b.front (b.t ∷ b.rest) (b.t ∷ more) b.is_ts refl in
            let one : top bytes max_depth us ≡ Ok (s.0.0, b.front ++ b.t ∷ more) = a.again (b.front ++ b.t ∷ more) head in
            ap (λ ts. tops_from bytes max_depth m found ts) (append_assoc a.front b.front (b.t ∷ more))
            ∙ tops_step bytes m found us s.0.0 (b.front ++ b.t ∷ more) _ one (top_less bytes us s.0.0 (b.front ++ b.t ∷ more) one) (omega (arith, ap length (append_assoc a.front b.front (b.t ∷ more)), small)) (λ m' small'. b.again more m' small');
      }
]

-- where reading stops, it stops whatever follows
pub record TopStop (bytes : List ℕ) (ts : List Token) (h : Halt) : Type 0 where
  pub front : List Token
  pub t : Token
  pub rest : List Token
  pub is_ts : ts ≡ front ++ t ∷ rest
  pub spot : StopsAt h t
  pub again : (more : List Token) → tops bytes max_depth (front ++ t ∷ more) ≡ Err h

pub top_stop : (bytes : List ℕ) (ts : List Token) (h : Halt) → AtToken h → tops bytes max_depth ts ≡ Err h → TopStop bytes ts h
unfolding tops
top_stop bytes ts h hard e =
    let a = tops_stop bytes (length ts) [] ts h hard e in
    record { front = a.front; t = a.t; rest = a.rest; is_ts = a.is_ts; spot = a.spot; again = λ more. a.again more (length (a.front ++ a.t ∷ more)) (omega arith) }

no_tree : (bytes : List ℕ) (ts : List Token) (h : Halt) (tree : List Top) → tops_from bytes max_depth (length ts) [] ts ≡ Err h → g.TopsAt bytes max_depth tree ts → ⊥
unfolding tops
no_tree bytes ts h tree e d = let read : tops_from bytes max_depth (length ts) [] ts ≡ Ok tree = tops_reads d in let no : (let r : Result (List Top) Halt = Ok tree in r) ≡ Err h = sym read ∙ e in cc

pub dead_end : (bytes : List ℕ) (ts : List Token) (h : Halt) → AtToken h → tops bytes max_depth ts ≡ Err h → IsDeadEnd bytes ts h
unfolding tops
dead_end bytes ts h hard e =
    let a = tops_stop bytes (length ts) [] ts h hard e in
    record { front = a.front; t = a.t; rest = a.rest; is_ts = a.is_ts; stops = a.spot; none = λ tree more d. no_tree bytes (a.front ++ a.t ∷ more) h tree (a.again more (length (a.front ++ a.t ∷ more)) (omega arith)) d }
