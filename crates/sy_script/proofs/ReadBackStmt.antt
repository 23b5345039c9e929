-- What is a script in the grammar is read.
use Rattle.std.proofs.Common.{◌≡◌, ◌<◌, ◌≤◌, ℕ, zero, suc, false, List, [], ◌∷◌, ◌++◌, length, Some, None, Result, Ok, refl, sym, ap, ◌∙◌, append_assoc, append-nil, arith}
use Rattle.sy_script.specs.declared.token.Kind.{Kind}
use Rattle.sy_script.specs.declared.token.Kind.TheVariants as k
use Rattle.sy_script.specs.declared.token.Token.{Token}
use Rattle.sy_script.specs.declared.token.Ending.TheVariants as ending
use Rattle.sy_script.specs.declared.tree.Param.{Param}
use Rattle.sy_script.specs.declared.tree.ExprTree.{ExprTree}
use Rattle.sy_script.specs.declared.tree.ObjectKind.{ObjectKind}
use Rattle.sy_script.specs.declared.tree.Block.{Block}
use Rattle.sy_script.specs.declared.tree.Block.TheVariants as b
use Rattle.sy_script.specs.declared.tree.Stmt.{Stmt}
use Rattle.sy_script.specs.declared.tree.Stmt.TheVariants as s
use Rattle.sy_script.specs.declared.tree.Top.{Top}
use Rattle.sy_script.specs.declared.tree.Top.TheVariants as t
use Rattle.sy_script.specs.declared.tree.Script.{Script}
use Rattle.sy_script.specs.declared.script.PlacedFault.{PlacedFault}
use Rattle.sy_script.specs.Terms.{max_depth, object_kind}
use Rattle.sy_script.specs.internal.Lex.{Lexing}
use Rattle.sy_script.specs.internal.Reading.{Outcome, Parser, Open, and_then, same_kind, first, expect, behind, word, turn, items_from, params}
use Rattle.sy_script.specs.internal.ReadingExpr.{expr}
use Rattle.sy_script.specs.internal.ReadingStmt.{otherwise_by, choice_at, stmt_by, stmt_at, body_at, block_by, block, stmt, body, rules, other_top, top_by, top, tops_then, tops_from, tops}
use Rattle.sy_script.specs.internal.Answer.{ended, reading}
use Rattle.sy_script.specs.Grammar as g
use Rattle.sy_script.proofs.Cuts.{are_tokens}
use Rattle.sy_script.proofs.Takes.{stmt_takes, top_takes}
use Rattle.sy_script.proofs.ReadBack.{then_reads, else_behind, expect_reads, behind_reads, behind_other, same_is, word_reads, params_reads}
use Rattle.sy_script.proofs.ReadBackExpr.{whole_reads, then_no_joint}

-- ---- statements

-- how a statement begins
pub data Begins : Kind → Type 0 where
  with_action : Begins k.Action
  with_call : Begins k.Call
  with_stop : Begins k.Stop
  with_if : Begins k.If

pub record Starts (ts : List Token) : Type 0 where
  pub w : Token
  pub us : List Token
  pub kind : Kind
  pub is_ts : ts ≡ w ∷ us
  pub is_kind : w.kind ≡ kind
  pub begins : Begins kind

pub starts : {bytes : List ℕ} {left : ℕ} {x : Stmt} {ts rest : List Token} → g.StmtAt bytes left x ts rest → Starts ts
starts (g.StmtAt.action {a = w} {ts = ts} is a) = record { w = w; us = ts; kind = k.Action; is_ts = refl; is_kind = is; begins = Begins.with_action }
starts (g.StmtAt.call {c = w} {n = n} {rest = rest} is a) = record { w = w; us = n ∷ rest; kind = k.Call; is_ts = refl; is_kind = is; begins = Begins.with_call }
starts (g.StmtAt.stop {w = w} {rest = rest} is) = record { w = w; us = rest; kind = k.Stop; is_ts = refl; is_kind = is; begins = Begins.with_stop }
starts (g.StmtAt.one_way {i = w} {ts = ts} is c d f h) = record { w = w; us = ts; kind = k.If; is_ts = refl; is_kind = is; begins = Begins.with_if }
starts (g.StmtAt.two_ways {i = w} {ts = ts} is c d f h j) = record { w = w; us = ts; kind = k.If; is_ts = refl; is_kind = is; begins = Begins.with_if }

-- no statement begins with these
no_close : {kind : Kind} → Begins kind → same_kind kind k.RightBrace ≡ false
unfolding same_kind
no_close Begins.with_action = refl
no_close Begins.with_call = refl
no_close Begins.with_stop = refl
no_close Begins.with_if = refl

no_open : {kind : Kind} → Begins kind → same_kind kind k.LeftBrace ≡ false
unfolding same_kind
no_open Begins.with_action = refl
no_open Begins.with_call = refl
no_open Begins.with_stop = refl
no_open Begins.with_if = refl

no_rules : {kind : Kind} → Begins kind → same_kind kind k.Ruleset ≡ false
unfolding same_kind
no_rules Begins.with_action = refl
no_rules Begins.with_call = refl
no_rules Begins.with_stop = refl
no_rules Begins.with_if = refl

no_object : {kind : Kind} → Begins kind → object_kind kind ≡ None
no_object Begins.with_action = refl
no_object Begins.with_call = refl
no_object Begins.with_stop = refl
no_object Begins.with_if = refl

choice_start : (bytes : List ℕ) (left : ℕ) (inner : Open → Parser Block) (o : Open) (x : ExprTree) (done : Block) (w : Token) (ts us mid : List Token) (y : Outcome Stmt) →
    expr bytes left o ts ≡ Ok (x, w ∷ us) → w.kind ≡ k.Then → inner o us ≡ Ok (done, mid) → otherwise_by inner o x done (behind k.Else mid) mid ≡ y → choice_at bytes left inner o ts ≡ y
choice_start bytes left inner o x done w ts us mid y test is block more =
    then_reads (expr bytes left o ts) _ x (w ∷ us) _ test
    (then_reads (expect k.Then o (w ∷ us)) _ w us _ (expect_reads k.Then o w us is)
    (then_reads (inner o us) _ done mid _ block more))

one_way_reads : (bytes : List ℕ) (left : ℕ) (inner : Open → Parser Block) (o : Open) (x : ExprTree) (done : Block) (w : Token) (ts us rest : List Token) →
    expr bytes left o ts ≡ Ok (x, w ∷ us) → w.kind ≡ k.Then → inner o us ≡ Ok (done, rest) → behind k.Else rest ≡ None → choice_at bytes left inner o ts ≡ Ok (s.If x done None, rest)
one_way_reads bytes left inner o x done w ts us rest test is block none =
    choice_start bytes left inner o x done w ts us rest _ test is block (ap (λ b. otherwise_by inner o x done b rest) none)

two_ways_reads : (bytes : List ℕ) (left : ℕ) (inner : Open → Parser Block) (o : Open) (x : ExprTree) (done other : Block) (w v : Token) (ts us vs rest : List Token) →
    expr bytes left o ts ≡ Ok (x, w ∷ us) → w.kind ≡ k.Then → inner o us ≡ Ok (done, v ∷ vs) → v.kind ≡ k.Else → inner o vs ≡ Ok (other, rest) → choice_at bytes left inner o ts ≡ Ok (s.If x done (Some other), rest)
two_ways_reads bytes left inner o x done other w v ts us vs rest test is block is_else more =
    choice_start bytes left inner o x done w ts us (v ∷ vs) _ test is block
    (ap (λ b. otherwise_by inner o x done b (v ∷ vs)) (behind_reads k.Else v vs is_else) ∙ then_reads (inner o vs) _ other rest _ more refl)

pub by_kind : (bytes : List ℕ) (left : ℕ) (inner : Open → Parser Block) (o : Open) (kind : Kind) (w : Token) (ts : List Token) (y : Outcome Stmt) → w.kind ≡ kind → stmt_by bytes left inner o kind w ts ≡ y → stmt_at bytes left inner o (w ∷ ts) ≡ y
by_kind bytes left inner o kind w ts y is h = ap (λ kind. stmt_by bytes left inner o kind w ts) is ∙ h

body_end : (bytes : List ℕ) (left : ℕ) (inner : Open → Parser Block) (o : Open) (n : ℕ) (found : List Stmt) (c : Token) (rest : List Token) → c.kind ≡ k.RightBrace →
    items_from k.RightBrace o (stmt_at bytes left inner o) (suc n) found (c ∷ rest) ≡ Ok (found ++ [], rest)
unfolding items_from
body_end bytes left inner o n found c rest is =
    ap (λ b. turn b found (and_then (stmt_at bytes left inner o (c ∷ rest)) (λ x. items_from k.RightBrace o (stmt_at bytes left inner o) n (found ++ x ∷ [])))) (behind_reads k.RightBrace c rest is)
    ∙ ap (λ l. Ok (l, rest)) (sym (append-nil found))

pub no_brace : (ts : List Token) → Starts ts → behind k.RightBrace ts ≡ None
no_brace ts w = ap (behind k.RightBrace) w.is_ts ∙ behind_other k.RightBrace w.kind w.w w.us w.is_kind (no_close w.begins)

body_more : (bytes : List ℕ) (left : ℕ) (inner : Open → Parser Block) (o : Open) (n : ℕ) (found xs : List Stmt) (x : Stmt) (ts mid rest : List Token) → Starts ts → stmt_at bytes left inner o ts ≡ Ok (x, mid) →
    items_from k.RightBrace o (stmt_at bytes left inner o) n (found ++ x ∷ []) mid ≡ Ok ((found ++ x ∷ []) ++ xs, rest) → items_from k.RightBrace o (stmt_at bytes left inner o) (suc n) found ts ≡ Ok (found ++ x ∷ xs, rest)
unfolding items_from
body_more bytes left inner o n found xs x ts mid rest begins one more =
    ap (λ b. turn b found (and_then (stmt_at bytes left inner o ts) (λ x. items_from k.RightBrace o (stmt_at bytes left inner o) n (found ++ x ∷ [])))) (no_brace ts begins)
    ∙ (then_reads (stmt_at bytes left inner o ts) _ x mid _ one more ∙ ap (λ l. Ok (l, rest)) (append_assoc found (x ∷ []) xs))

single_reads : (bytes : List ℕ) (left : ℕ) (o : Open) (x : Stmt) (ts rest : List Token) → Starts ts → stmt_at bytes left (block bytes left) o ts ≡ Ok (x, rest) → block bytes (suc left) o ts ≡ Ok (b.Single x, rest)
unfolding block
single_reads bytes left o x ts rest w h =
    then_reads (first o ts) _ w.w w.us _ (ap (first o) w.is_ts)
    (ap (λ is. block_by bytes left (block bytes left) o is w.w w.us ts) (ap (λ kind. same_kind kind k.LeftBrace) w.is_kind ∙ no_open w.begins)
    ∙ then_reads (stmt_at bytes left (block bytes left) o ts) _ x rest _ h refl)

braced_reads : (bytes : List ℕ) (left : ℕ) (o : Open) (w : Token) (xs : List Stmt) (ts rest : List Token) → w.kind ≡ k.LeftBrace → body_at bytes left (block bytes left) (Some w.span.start) ts ≡ Ok (xs, rest) →
    block bytes (suc left) o (w ∷ ts) ≡ Ok (b.Braced xs, rest)
unfolding block
braced_reads bytes left o w xs ts rest is h =
    ap (λ is. block_by bytes left (block bytes left) o is w ts (w ∷ ts)) (same_is w.kind k.LeftBrace is)
    ∙ then_reads (body_at bytes left (block bytes left) (Some w.span.start) ts) _ xs rest _ h refl

mutual
  pub stmt_reads : {bytes : List ℕ} {left : ℕ} {x : Stmt} {ts rest : List Token} (o : Open) → g.StmtAt bytes left x ts rest → stmt_at bytes left (block bytes left) o ts ≡ Ok (x, rest)
  stmt_reads {bytes} o (g.StmtAt.action {left = left} {a = w} {ps = ps} {ts = ts} {rest = rest} is found) =
      by_kind bytes left (block bytes left) o k.Action w ts _ is (then_reads (params bytes o ts) _ ps rest _ (params_reads bytes o found) refl)
  stmt_reads {bytes} o (g.StmtAt.call {left = left} {c = w} {n = n} {rest = rest} is is_n) =
      by_kind bytes left (block bytes left) o k.Call w (n ∷ rest) _ is (then_reads (word bytes o (n ∷ rest)) _ _ rest _ (word_reads bytes o n rest is_n) refl)
  stmt_reads {bytes} o (g.StmtAt.stop {left = left} {w = w} {rest = rest} is) = by_kind bytes left (block bytes left) o k.Stop w rest _ is refl
  stmt_reads {bytes} o (g.StmtAt.one_way {left = left} {i = i} {w = w} {x = x} {done = done} {ts = ts} {us = us} {rest = rest} is test is_w inner none) =
      by_kind bytes left (block bytes left) o k.If i ts _ is
      (one_way_reads bytes left (block bytes left) o x done w ts us rest (whole_reads o (then_no_joint w us is_w) test) is_w (block_reads o inner) (else_behind rest none))
  stmt_reads {bytes} o (g.StmtAt.two_ways {left = left} {i = i} {w = w} {o = v} {x = x} {done = done} {other = other} {ts = ts} {us = us} {vs = vs} {rest = rest} is test is_w inner is_v last) =
      by_kind bytes left (block bytes left) o k.If i ts _ is
      (two_ways_reads bytes left (block bytes left) o x done other w v ts us vs rest (whole_reads o (then_no_joint w us is_w) test) is_w (block_reads o inner) is_v (block_reads o last))

  pub block_reads : {bytes : List ℕ} {left : ℕ} {x : Block} {ts rest : List Token} (o : Open) → g.BlockAt bytes left x ts rest → block bytes left o ts ≡ Ok (x, rest)
  block_reads {bytes} o (g.BlockAt.single {left = left} {x = x} {ts = ts} {rest = rest} inner) = single_reads bytes left o x ts rest (starts inner) (stmt_reads o inner)
  block_reads {bytes} o (g.BlockAt.braced {left = left} {o = w} {xs = xs} {ts = ts} {rest = rest} is inner) =
      braced_reads bytes left o w xs ts rest is (body_reads (Some w.span.start) (length ts) [] (omega arith) inner)

  body_reads : {bytes : List ℕ} {left : ℕ} {xs : List Stmt} {ts rest : List Token} (o : Open) (n : ℕ) (found : List Stmt) → length ts ≤ n → g.BodyAt bytes left xs ts rest →
      items_from k.RightBrace o (stmt_at bytes left (block bytes left) o) n found ts ≡ Ok (found ++ xs, rest)
  body_reads {bytes} o zero found small (g.BodyAt.close is) = absurd (omega arith)
  body_reads {bytes} o (suc n) found small (g.BodyAt.close {left = left} {c = c} {rest = rest} is) = body_end bytes left (block bytes left) o n found c rest is
  body_reads {bytes} o zero found small (g.BodyAt.stmt one others) = absurd (omega (arith, stmt_takes one))
  body_reads {bytes} o (suc n) found small (g.BodyAt.stmt {left = left} {x = x} {xs = xs} {ts = ts} {mid = mid} {rest = rest} one others) =
      body_more bytes left (block bytes left) o n found xs x ts mid rest (starts one) (stmt_reads o one) (body_reads o n (found ++ x ∷ []) (omega (arith, stmt_takes one)) others)

whole_stmt_reads : {bytes : List ℕ} {left : ℕ} {x : Stmt} {ts rest : List Token} (o : Open) → g.StmtAt bytes left x ts rest → stmt bytes left o ts ≡ Ok (x, rest)
unfolding stmt
whole_stmt_reads o d = stmt_reads o d

whole_body_reads : {bytes : List ℕ} {left : ℕ} {xs : List Stmt} {ts rest : List Token} (o : Open) → g.BodyAt bytes left xs ts rest → body bytes left o ts ≡ Ok (xs, rest)
unfolding body
whole_body_reads {bytes} {left} {xs} {ts} {rest} o d = body_reads o (length ts) [] (omega arith) d

-- ---- the top of a file

rules_read : (bytes : List ℕ) (left : ℕ) (w v : Token) (ps : List Param) (xs : List Stmt) (ts us rest : List Token) → params bytes None ts ≡ Ok (ps, v ∷ us) → v.kind ≡ k.LeftBrace → body bytes left (Some v.span.start) us ≡ Ok (xs, rest) →
    rules bytes left w ts ≡ Ok (record { span = w.span; params = ps; body = xs }, rest)
unfolding rules
rules_read bytes left w v ps xs ts us rest found is inner =
    then_reads (params bytes None ts) _ ps (v ∷ us) _ found
    (then_reads (expect k.LeftBrace None (v ∷ us)) _ v us _ (expect_reads k.LeftBrace None v us is)
    (then_reads (body bytes left (Some v.span.start) us) _ xs rest _ inner refl))

object_top : (bytes : List ℕ) (left : ℕ) (w : Token) (kind : ObjectKind) (ps : List Param) (ts rest : List Token) → object_kind w.kind ≡ Some kind → params bytes None ts ≡ Ok (ps, rest) →
    top bytes left (w ∷ ts) ≡ Ok (t.Object (record { kind = kind; span = w.span; params = ps }), rest)
unfolding top
object_top bytes left w kind ps ts rest is h = ap (λ o. top_by bytes left o w ts (w ∷ ts)) is ∙ then_reads (params bytes None ts) _ ps rest _ h refl

no_rules_object : (w : Token) → w.kind ≡ k.Ruleset → object_kind w.kind ≡ None
no_rules_object w is = ap object_kind is

rules_top : (bytes : List ℕ) (left : ℕ) (w v : Token) (ps : List Param) (xs : List Stmt) (ts us rest : List Token) → w.kind ≡ k.Ruleset → params bytes None ts ≡ Ok (ps, v ∷ us) → v.kind ≡ k.LeftBrace → body bytes left (Some v.span.start) us ≡ Ok (xs, rest) →
    top bytes left (w ∷ ts) ≡ Ok (t.Ruleset (record { span = w.span; params = ps; body = xs }), rest)
unfolding top
rules_top bytes left w v ps xs ts us rest is found is_v inner =
    ap (λ o. top_by bytes left o w ts (w ∷ ts)) (no_rules_object w is)
    ∙ (ap (λ is. other_top bytes left is w ts (w ∷ ts)) (same_is w.kind k.Ruleset is)
    ∙ then_reads (rules bytes left w ts) _ _ rest _ (rules_read bytes left w v ps xs ts us rest found is_v inner) refl)

stmt_top : (bytes : List ℕ) (left : ℕ) (x : Stmt) (ts rest : List Token) → Starts ts → stmt bytes left None ts ≡ Ok (x, rest) → top bytes left ts ≡ Ok (t.Stmt x, rest)
unfolding top
stmt_top bytes left x ts rest w h =
    then_reads (first None ts) _ w.w w.us _ (ap (first None) w.is_ts)
    (ap (λ o. top_by bytes left o w.w w.us ts) (ap object_kind w.is_kind ∙ no_object w.begins)
    ∙ (ap (λ is. other_top bytes left is w.w w.us ts) (ap (λ kind. same_kind kind k.Ruleset) w.is_kind ∙ no_rules w.begins)
    ∙ then_reads (stmt bytes left None ts) _ x rest _ h refl))

pub top_reads : {bytes : List ℕ} {left : ℕ} {x : Top} {ts rest : List Token} → g.TopAt bytes left x ts rest → top bytes left ts ≡ Ok (x, rest)
top_reads {bytes} {left} (g.TopAt.object {w = w} {kind = kind} {ps = ps} {ts = ts} {rest = rest} is found) = object_top bytes left w kind ps ts rest is (params_reads bytes None found)
top_reads {bytes} {left} (g.TopAt.rules {w = w} {o = v} {ps = ps} {xs = xs} {ts = ts} {us = us} {rest = rest} is found is_v inner) =
    rules_top bytes left w v ps xs ts us rest is (params_reads bytes None found) is_v (whole_body_reads (Some v.span.start) inner)
top_reads {bytes} {left} (g.TopAt.stmt {x = x} {ts = ts} {rest = rest} inner) = stmt_top bytes left x ts rest (starts inner) (whole_stmt_reads None inner)

tops_more : (bytes : List ℕ) (left : ℕ) (n : ℕ) (found xs : List Top) (x : Top) (ts mid : List Token) → 0 < length ts → top bytes left ts ≡ Ok (x, mid) → tops_from bytes left n (found ++ x ∷ []) mid ≡ Ok ((found ++ x ∷ []) ++ xs) → tops_from bytes left (suc n) found ts ≡ Ok (found ++ x ∷ xs)
unfolding tops_from
tops_more bytes left n found xs x [] mid some one more = absurd (omega arith)
tops_more bytes left n found xs x (w ∷ ts) mid some one more =
    ap (λ r. tops_then r (λ x. tops_from bytes left n (found ++ x ∷ []))) one ∙ (more ∙ ap Ok (append_assoc found (x ∷ []) xs))

tops_end : (bytes : List ℕ) (left : ℕ) (n : ℕ) (found : List Top) → tops_from bytes left n found [] ≡ Ok (found ++ [])
unfolding tops_from
tops_end bytes left zero found = ap Ok (sym (append-nil found))
tops_end bytes left (suc n) found = ap Ok (sym (append-nil found))

tops_from_reads : {bytes : List ℕ} {left : ℕ} {xs : List Top} {ts : List Token} (n : ℕ) (found : List Top) → length ts ≤ n → g.TopsAt bytes left xs ts → tops_from bytes left n found ts ≡ Ok (found ++ xs)
tops_from_reads {bytes} {left} n found small g.TopsAt.none = tops_end bytes left n found
tops_from_reads {bytes} {left} zero found small (g.TopsAt.more one others) = absurd (omega (arith, top_takes one))
tops_from_reads {bytes} {left} (suc n) found small (g.TopsAt.more {x = x} {xs = xs} {ts = ts} {mid = mid} one others) =
    tops_more bytes left n found xs x ts mid (omega (arith, top_takes one)) (top_reads one) (tops_from_reads n (found ++ x ∷ []) (omega (arith, top_takes one)) others)

pub tops_reads : {bytes : List ℕ} {left : ℕ} {xs : List Top} {ts : List Token} → g.TopsAt bytes left xs ts → tops bytes left ts ≡ Ok xs
unfolding tops
tops_reads {bytes} {left} {xs} {ts} d = tops_from_reads (length ts) [] (omega arith) d

pub script_reads : (text : List ℕ) (script : Script) → g.IsScript text script → reading text ≡ Ok script
unfolding reading
script_reads text script is =
    ap (λ (l : Lexing). ended (length text) l.1 (tops text max_depth l.0)) (are_tokens text is.tokens is.are_tokens) ∙ ap (ended (length text) ending.Complete) (tops_reads is.tree)

-- one text, one tree
pub one_tree : (text : List ℕ) (a b : Script) → g.IsScript text a → g.IsScript text b → a ≡ b
one_tree text a b is_a is_b = let e : (let r : Result Script PlacedFault = Ok a in r) ≡ Ok b = sym (script_reads text a is_a) ∙ script_reads text b is_b in cc
