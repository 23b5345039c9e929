-- What is in the grammar is read.
use Rattle.std.proofs.Common.{◌≡◌, ◌≢◌, ◌≤◌, ℕ, zero, suc, true, false, cond, List, [], ◌∷◌, ◌++◌, length, Option, Some, None, Ok, refl, sym, ap, ◌∙◌, append_assoc, append-nil, arith}
use denote.Enum.Bare.{true_same, false_same}
use Rattle.std.proofs.lemmas.Bool.{false≢true}
use Rattle.sy_script.specs.contracts.token.Kind.{the_type}
use Rattle.sy_script.specs.declared.token.Kind.{Kind}
use Rattle.sy_script.specs.declared.token.Kind.TheVariants as k
use Rattle.sy_script.specs.declared.token.Token.{Token}
use Rattle.sy_script.specs.declared.tree.Param.{Param}
use Rattle.sy_script.specs.Terms.{is_text, is_word, text_of, word_of}
use Rattle.sy_script.specs.internal.Reading.{Outcome, Parser, Open, and_then, same_kind, that, expect, behind, word, text, param, turn, items_from, params_in, params}
use Rattle.sy_script.specs.Grammar as g

-- ---- steps

pub then_reads : {A B : Type 0} (r : Outcome A) (f : A → Parser B) (x : A) (mid : List Token) (y : Outcome B) → r ≡ Ok (x, mid) → f x mid ≡ y → and_then r f ≡ y
then_reads r f x mid y h more = ap (λ r. and_then r f) h ∙ more

pub same_is : (a b : Kind) → a ≡ b → same_kind a b ≡ true
unfolding same_kind
same_is a b h = true_same the_type a b h

pub expect_reads : (kind : Kind) (o : Open) (t : Token) (ts : List Token) → t.kind ≡ kind → expect kind o (t ∷ ts) ≡ Ok (t, ts)
unfolding expect
expect_reads kind o t ts h = ap (λ b. that b t ts) (same_is t.kind kind h)

pub behind_reads : (kind : Kind) (t : Token) (ts : List Token) → t.kind ≡ kind → behind kind (t ∷ ts) ≡ Some ts
unfolding behind
behind_reads kind t ts h = ap (λ b. cond b (Some ts) None) (same_is t.kind kind h)

pub behind_other : (kind a : Kind) (t : Token) (ts : List Token) → t.kind ≡ a → same_kind a kind ≡ false → behind kind (t ∷ ts) ≡ None
unfolding behind
behind_other kind a t ts h other = ap (λ b. cond b (Some ts) None) (ap (λ a. same_kind a kind) h ∙ other)

-- no `else` comes next, for the reader as for the grammar
pub no_else : (ts : List Token) → behind k.Else ts ≡ None → g.NoElse ts
no_else [] h = tt
no_else (t ∷ ts) h = λ is. let no : (let r : Option (List Token) = Some ts in r) ≡ None = sym (behind_reads k.Else t ts is) ∙ h in cc

pub other_kind : (a b : Kind) → a ≢ b → same_kind a b ≡ false
unfolding same_kind
other_kind a b h = false_same the_type tt a b h

pub else_behind : (ts : List Token) → g.NoElse ts → behind k.Else ts ≡ None
unfolding behind
else_behind [] h = refl
else_behind (t ∷ ts) h = ap (λ b. cond b (Some ts) None) (other_kind t.kind k.Else h)

-- no word is a parenthesis
pub word_other : (a : Kind) → is_word a ≡ true → same_kind a k.RightParen ≡ false
unfolding same_kind
word_other a h = false_same the_type tt a k.RightParen (λ e. false≢true (sym (ap is_word e) ∙ h))

pub word_reads : (bytes : List ℕ) (o : Open) (n : Token) (ts : List Token) → is_word n.kind ≡ true → word bytes o (n ∷ ts) ≡ Ok (word_of bytes n.span, ts)
unfolding word
word_reads bytes o n ts h = rw h

pub text_reads : (bytes : List ℕ) (o : Open) (v : Token) (ts : List Token) → is_text v.kind ≡ true → text bytes o (v ∷ ts) ≡ Ok (text_of bytes v.span, ts)
unfolding text
text_reads bytes o v ts h = rw h

-- ---- parameters

pub param_reads : (bytes : List ℕ) (o : Open) (n a v : Token) (ts : List Token) → is_word n.kind ≡ true → a.kind ≡ k.Assign → v.kind ≡ k.Quoted →
    param bytes o (n ∷ a ∷ v ∷ ts) ≡ Ok (record { name = word_of bytes n.span; value = text_of bytes v.span }, ts)
unfolding param
param_reads bytes o n a v ts name assign quoted =
    then_reads (word bytes o (n ∷ a ∷ v ∷ ts)) _ _ _ _ (word_reads bytes o n (a ∷ v ∷ ts) name)
    (then_reads (expect k.Assign o (a ∷ v ∷ ts)) _ _ _ _ (expect_reads k.Assign o a (v ∷ ts) assign)
    (then_reads (expect k.Quoted o (v ∷ ts)) _ _ _ _ (expect_reads k.Quoted o v ts quoted) refl))

params_from_reads : (bytes : List ℕ) (o : Open) (n : ℕ) (found : List Param) {ps : List Param} {ts rest : List Token} → length ts ≤ n → g.ParamsIn bytes ps ts rest →
    items_from k.RightParen o (param bytes o) n found ts ≡ Ok (found ++ ps, rest)
unfolding items_from
params_from_reads bytes o zero found small (g.ParamsIn.close h) = absurd (omega arith)
params_from_reads bytes o zero found small (g.ParamsIn.param a b c d) = absurd (omega arith)
params_from_reads bytes o (suc n) found small (g.ParamsIn.close {c = c} {rest = rest} h) =
    ap (λ b. turn b found (and_then (param bytes o (c ∷ rest)) (λ x. items_from k.RightParen o (param bytes o) n (found ++ x ∷ [])))) (behind_reads k.RightParen c rest h)
    ∙ ap (λ l. Ok (l, rest)) (sym (append-nil found))
params_from_reads bytes o (suc n) found small (g.ParamsIn.param {n = m} {a = a} {v = v} {ps = ps} {ts = ts} {rest = rest} name assign quoted more) =
    let p : Param = record { name = word_of bytes m.span; value = text_of bytes v.span } in
    ap (λ b. turn b found (and_then (param bytes o (m ∷ a ∷ v ∷ ts)) (λ x. items_from k.RightParen o (param bytes o) n (found ++ x ∷ [])))) (behind_other k.RightParen m.kind m (a ∷ v ∷ ts) refl (word_other m.kind name))
    ∙ (then_reads (param bytes o (m ∷ a ∷ v ∷ ts)) _ p ts _ (param_reads bytes o m a v ts name assign quoted) (params_from_reads bytes o n (found ++ p ∷ []) (omega arith) more)
    ∙ ap (λ l. Ok (l, rest)) (append_assoc found (p ∷ []) ps))

pub params_reads : (bytes : List ℕ) (o : Open) {ps : List Param} {ts rest : List Token} → g.ParamsAt bytes ps ts rest → params bytes o ts ≡ Ok (ps, rest)
unfolding params params_in
params_reads bytes o (g.ParamsAt.params {o = p} {ts = ts} h inner) =
    then_reads (expect k.LeftParen o (p ∷ ts)) _ _ _ _ (expect_reads k.LeftParen o p ts h) (params_from_reads bytes (Some p.span.start) (length ts) [] (omega arith) inner)
