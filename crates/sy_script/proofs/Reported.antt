-- What stands where reading stops: what is open, and that a token is too deep or begins what is left out.
use Rattle.std.proofs.Common.{◌≡◌, inl, inr, ◌<◌, ◌≤◌, ℕ, zero, suc, Bool, true, false, cond, List, [], ◌∷◌, ◌++◌, length, Option, Some, None, Ok, Err, refl, sym, ap, ◌∙◌, subst, append_assoc, append-nil, arith}
use Rattle.sy_script.specs.declared.token.Kind.{Kind}
use Rattle.sy_script.specs.declared.token.Kind.TheVariants as k
use Rattle.sy_script.specs.declared.token.Token.{Token}
use Rattle.sy_script.specs.declared.halt.Halt.{Halt}
use Rattle.sy_script.specs.declared.halt.Halt.TheVariants as halt
use Rattle.sy_script.specs.declared.tree.Param.{Param}
use Rattle.sy_script.specs.declared.tree.Span.{Span}
use Rattle.sy_script.specs.Terms.{is_text, is_word, text_of, word_of}
use Rattle.sy_script.specs.internal.Reading.{Outcome, Parser, Open, and_then, pure, refuse, same_kind, first, expect, behind, word, text, param, turn, items_from, params_in, params}
use Rattle.sy_script.specs.Grammar as g
use Rattle.sy_script.specs.Brackets.{opens, is_bracket, Balanced, IsInnermost}
use Rattle.sy_script.specs.Faults.{Deepens, BeginsLeftOut}
use Rattle.sy_script.proofs.Sound.{first_ok, expect_ok, word_ok, param_ok}
use Rattle.sy_script.proofs.Local.{bind_err}
use Rattle.sy_script.proofs.Holes.{tok, Fits, Hole, fits, over, Params, InParams}
use Rattle.sy_script.proofs.Balance.{balanced_on, plain, word_plain}

-- what is open after these tokens, where reading goes on
pub data IsOpen (ts : List Token) : Open → List Token → Type 0 where
  nothing : {rest : List Token} → Balanced ts rest → IsOpen ts None rest
  bracket : {o : Token} {rest : List Token} → IsInnermost ts o rest → IsOpen ts (Some o.span.start) rest

pub open_on : {ts us rest : List Token} {o : Open} → IsOpen ts o us → Balanced us rest → IsOpen ts o rest
open_on (IsOpen.nothing b) a = IsOpen.nothing (balanced_on b a)
open_on (IsOpen.bracket i) a = IsOpen.bracket (record { front = i.front; inside = i.inside; is_ts = i.is_ts; is_opening = i.is_opening; is_closed = balanced_on i.is_closed a })

joined : (f : List Token) (c : Token) (g ts us rest : List Token) → ts ≡ f ++ c ∷ us → us ≡ g ++ rest → ts ≡ (f ++ c ∷ g) ++ rest
joined f c g ts us rest a b = a ∙ (ap (λ r. f ++ c ∷ r) b ∙ sym (append_assoc f (c ∷ g) rest))

-- the tokens before what is left
pub balanced_front : {ts rest : List Token} → Balanced ts rest → (front : List Token) × (ts ≡ front ++ rest)
balanced_front Balanced.none = ([], refl)
balanced_front (Balanced.other {t = t} h a) = let f = balanced_front a in (t ∷ f.0, ap (λ r. t ∷ r) f.1)
balanced_front (Balanced.parens {o = o} {c = c} {rest = rest} h a d b) = let f = balanced_front a in let g = balanced_front b in (o ∷ (f.0 ++ c ∷ g.0), ap (λ r. o ∷ r) (joined f.0 c g.0 _ _ rest f.1 g.1))
balanced_front (Balanced.braces {o = o} {c = c} {rest = rest} h a d b) = let f = balanced_front a in let g = balanced_front b in (o ∷ (f.0 ++ c ∷ g.0), ap (λ r. o ∷ r) (joined f.0 c g.0 _ _ rest f.1 g.1))

pub opened_front : {ts us : List Token} {o : Open} → IsOpen ts o us → (front : List Token) × (ts ≡ front ++ us)
opened_front (IsOpen.nothing b) = balanced_front b
opened_front (IsOpen.bracket {o = o} {rest = rest} i) = let f = balanced_front i.is_closed in (i.front ++ o ∷ f.0, i.is_ts ∙ (ap (λ r. i.front ++ o ∷ r) f.1 ∙ sym (append_assoc i.front (o ∷ f.0) rest)))

-- after a parenthesis or a brace
pub open_in : {ts : List Token} {p : Open} (o : Token) (rest : List Token) → IsOpen ts p (o ∷ rest) → opens o.kind ≡ true → IsOpen ts (Some o.span.start) rest
open_in o rest is op = let f = opened_front is in IsOpen.bracket (record { front = f.0; inside = rest; is_ts = f.1; is_opening = op; is_closed = Balanced.none })

-- after a token of a kind that opens and closes nothing
pub open_plain : {ts : List Token} {o : Open} {kind : Kind} (t : Token) (rest : List Token) → IsOpen ts o (t ∷ rest) → t.kind ≡ kind → is_bracket kind ≡ false → IsOpen ts o rest
open_plain {kind = kind} t rest is same none = open_on is (plain t kind same none Balanced.none)

pub open_as : {ts us vs : List Token} {o : Open} → us ≡ vs → IsOpen ts o us → IsOpen ts o vs
open_as {ts = ts} {o = o} e is = let P : List Token → Type 0 = λ v. IsOpen ts o v in subst P e is

-- ---- what is said of a halt

-- the tokens up to the one with this span are the beginning of a script
pub record Stray (text : List ℕ) (ts : List Token) (span : Span) : Type 0 where
  pub t : Token
  pub rest : List Token
  pub spot : t.span ≡ span
  pub up_to : Fits text ts (t ∷ rest)

abbrev pub Reported : List ℕ → List Token → Halt → Type 0
Reported text ts halt.Memory = ⊥
Reported text ts (halt.Unexpected span) = Stray text ts span
Reported text ts (halt.TooDeep span) = (t : Token) × (t.span ≡ span) × Deepens text ts t
Reported text ts (halt.LeftOut span) = (t : Token) × (t.span ≡ span) × BeginsLeftOut text ts t
Reported text ts (halt.End opened) = IsOpen ts opened [] × g.Begins text ts

module _ (bytes : List ℕ) (ts : List Token) where
  pub reported_as : {d h : Halt} {A : Type 0} → (let r : Outcome A = Err d in r ≡ Err h) → Reported bytes ts d → Reported bytes ts h
  reported_as {d} {h} e reported = let same : d ≡ h = cc in subst (λ (h : Halt). Reported bytes ts h) same reported

  pub bind_reported : {A B : Type 0} (r : Outcome A) (f : A → Parser B) (h : Halt) → and_then r f ≡ Err h → (r ≡ Err h → Reported bytes ts h) → ((x : A × List Token) → r ≡ Ok x → f x.0 x.1 ≡ Err h → Reported bytes ts h) → Reported bytes ts h
  bind_reported r f h e one two = elim (bind_err r f h e) [
    | inl d ↦ one d
    | inr s ↦ two s.0 s.1 s.2
  ]

  pub pure_reported : {A : Type 0} (x : A) (us : List Token) (h : Halt) → pure x us ≡ Err h → Reported bytes ts h
  pure_reported x us h e = absurd cc

  pub fits_as : {us vs : List Token} → us ≡ vs → Fits bytes ts us → Fits bytes ts vs
  fits_as e f = let P : List Token → Type 0 = λ v. Fits bytes ts v in subst P e f

  pub hole_as : (R : List Token → Type 0) {us vs : List Token} → us ≡ vs → Hole bytes ts R us → Hole bytes ts R vs
  hole_as R e f = let P : List Token → Type 0 = λ v. Hole bytes ts R v in subst P e f

  fits_all : Fits bytes ts [] → g.Begins bytes ts
  fits_all f = let P : List Token → Type 0 = λ v. g.Begins bytes v in subst P (sym (f.is_ts ∙ append-nil f.front)) f.begins

  pub stray : (t : Token) (us : List Token) → Fits bytes ts (t ∷ us) → Stray bytes ts t.span
  stray t us f = record { t = t; rest = us; spot = refl; up_to = f }

  pub stray_first : (o : Open) (us : List Token) (x : Token × List Token) → Fits bytes ts us → first o us ≡ Ok x → Stray bytes ts x.0.span
  stray_first o us x f ok = stray x.0 x.1 (fits_as (first_ok o us x ok) f)

  pub if_reported : {A : Type 0} (b : Bool) (x : A) (span : Span) (us : List Token) (h : Halt) → Stray bytes ts span → (let p : Parser A = cond b (pure x) (refuse (halt.Unexpected span)) in p us ≡ Err h) → Reported bytes ts h
  if_reported true x span us h s e = absurd cc
  if_reported {A} false x span us h s e = reported_as {A = A} e s

  pub first_reported : (o : Open) (us : List Token) (h : Halt) → IsOpen ts o us → Fits bytes ts us → first o us ≡ Err h → Reported bytes ts h
  first_reported o [] h is f e = reported_as {A = Token} e (is, fits_all f)
  first_reported o (t ∷ us) h is f e = absurd cc

  pub expect_reported : (kind : Kind) (o : Open) (us : List Token) (h : Halt) → IsOpen ts o us → Fits bytes ts us → expect kind o us ≡ Err h → Reported bytes ts h
  unfolding expect
  expect_reported kind o us h is f e = bind_reported (first o us) _ h e (first_reported o us h is f) (λ x ok. if_reported (same_kind x.0.kind kind) x.0 x.0.span x.1 h (stray_first o us x f ok))

  pub word_reported : (o : Open) (us : List Token) (h : Halt) → IsOpen ts o us → Fits bytes ts us → word bytes o us ≡ Err h → Reported bytes ts h
  unfolding word
  word_reported o us h is f e = bind_reported (first o us) _ h e (first_reported o us h is f) (λ x ok. if_reported (is_word x.0.kind) (word_of bytes x.0.span) x.0.span x.1 h (stray_first o us x f ok))

  pub text_reported : (o : Open) (us : List Token) (h : Halt) → IsOpen ts o us → Fits bytes ts us → text bytes o us ≡ Err h → Reported bytes ts h
  unfolding text
  text_reported o us h is f e = bind_reported (first o us) _ h e (first_reported o us h is f) (λ x ok. if_reported (is_text x.0.kind) (text_of bytes x.0.span) x.0.span x.1 h (stray_first o us x f ok))

  -- ---- what is open after what was read

  pub expect_open : (kind : Kind) (o : Open) (us : List Token) (x : Token × List Token) → is_bracket kind ≡ false → expect kind o us ≡ Ok x → {p : Open} → IsOpen ts p us → IsOpen ts p x.1
  expect_open kind o us x none e is = let t = expect_ok kind o us x e in open_plain x.0 x.1 (open_as t.0 is) t.1 none

  -- a `)` ends parameters, and so do the tokens of one and a `)`
  closing : (us : List Token) → Hole bytes ts (InParams bytes) us → Fits bytes ts us
  closing us hole = fits (InParams bytes) hole (tok k.RightParen ∷ []) ([], g.ParamsIn.close refl)

  named : (n : Token) (us vs : List Token) → us ≡ n ∷ vs → is_word n.kind ≡ true → Hole bytes ts (InParams bytes) us → Fits bytes ts vs
  named n us vs e is hole =
      let P : List Token → Type 0 = λ v. InParams bytes (n ∷ v) in
      fits P (over (InParams bytes) P hole (n ∷ []) e (λ w q. q)) (tok k.Assign ∷ tok k.Quoted ∷ tok k.RightParen ∷ []) (_, g.ParamsIn.param is refl refl (g.ParamsIn.close refl))

  assigned : (n a : Token) (us vs : List Token) → us ≡ n ∷ a ∷ vs → is_word n.kind ≡ true → a.kind ≡ k.Assign → Hole bytes ts (InParams bytes) us → Fits bytes ts vs
  assigned n a us vs e is is_a hole =
      let P : List Token → Type 0 = λ v. InParams bytes (n ∷ a ∷ v) in
      fits P (over (InParams bytes) P hole (n ∷ a ∷ []) e (λ w q. q)) (tok k.Quoted ∷ tok k.RightParen ∷ []) (_, g.ParamsIn.param is is_a refl (g.ParamsIn.close refl))

  param_reported : (o : Open) (us : List Token) (h : Halt) → IsOpen ts o us → Hole bytes ts (InParams bytes) us → param bytes o us ≡ Err h → Reported bytes ts h
  unfolding param
  param_reported o us h is hole e = bind_reported (word bytes o us) _ h e (word_reported o us h is (closing us hole)) (λ x ok e2.
      let w = word_ok bytes o us x ok in
      let is2 : IsOpen ts o x.1 = open_on (open_as w.1 is) (Balanced.other (word_plain w.0.kind w.2) Balanced.none) in
      bind_reported (expect k.Assign o x.1) _ h e2 (expect_reported k.Assign o x.1 h is2 (named w.0 us x.1 w.1 w.2 hole)) (λ y ok2 e3.
      let t = expect_ok k.Assign o x.1 y ok2 in
      let is3 : IsOpen ts o y.1 = expect_open k.Assign o x.1 y refl ok2 is2 in
      bind_reported (expect k.Quoted o y.1) _ h e3 (expect_reported k.Quoted o y.1 h is3 (assigned w.0 y.0 us y.1 (w.1 ∙ ap (λ r. w.0 ∷ r) t.0) w.2 t.1 hole)) (λ z ok3 e4. pure_reported _ z.1 h e4)))

-- ---- items up to a closing token

turn_cases : {A : Type 0} (b : Option (List Token)) (found : List A) (more : Outcome (List A)) (h : Halt) → turn b found more ≡ Err h → (b ≡ None) × (more ≡ Err h)
turn_cases (Some after) found more h e = absurd cc
turn_cases None found more h e = (refl, e)

module _ (bytes : List ℕ) (ts : List Token) {A : Type 0} (close : Kind) (o : Open) (item : Parser A) (P : List Token → Type 0)
    (reported : (us : List Token) (h : Halt) → IsOpen ts o us → P us → item us ≡ Err h → Reported bytes ts h)
    (next : (us : List Token) (x : A) (mid : List Token) → P us → item us ≡ Ok (x, mid) → Balanced us mid × P mid × (length mid < length us))
    (there : (us : List Token) → P us → Fits bytes ts us) where
  pub items_reported : (n : ℕ) (found : List A) (us : List Token) (h : Halt) → length us ≤ n → IsOpen ts o us → P us → items_from close o item n found us ≡ Err h → Reported bytes ts h
  unfolding items_from
  items_reported zero found [] h small is p e = reported_as bytes ts {A = List A} e (is, fits_all bytes ts (there [] p))
  items_reported zero found (u ∷ us) h small is p e = absurd (omega arith)
  items_reported (suc n) found us h small is p e =
      let w = turn_cases (behind close us) found _ h e in
      bind_reported bytes ts (item us) _ h w.1 (reported us h is p) (λ x ok e2.
      let m = next us x.0 x.1 p ok in
      items_reported n (found ++ x.0 ∷ []) x.1 h (omega (arith, m.2)) (open_on is m.0) m.1 e2)

param_next : (bytes : List ℕ) (ts : List Token) (o : Open) (us : List Token) (x : Param) (mid : List Token) → Hole bytes ts (InParams bytes) us → param bytes o us ≡ Ok (x, mid) → Balanced us mid × Hole bytes ts (InParams bytes) mid × (length mid < length us)
param_next bytes ts o us x mid hole h =
    let p = param_ok bytes o us (x, mid) h in
    let P : List Token → Type 0 = λ v. Balanced v mid in
    (subst P (sym p.3) (Balanced.other (word_plain p.0.kind p.4) (plain p.1 k.Assign p.5 refl (plain p.2 k.Quoted p.6 refl Balanced.none))), over (InParams bytes) (InParams bytes) hole (p.0 ∷ p.1 ∷ p.2 ∷ []) p.3 (λ w q. (_, g.ParamsIn.param p.4 p.5 p.6 q.1)), omega (arith, ap length p.3))

pub params_reported : (bytes : List ℕ) (ts : List Token) (o : Open) (us : List Token) (h : Halt) → IsOpen ts o us → Hole bytes ts (Params bytes) us → params bytes o us ≡ Err h → Reported bytes ts h
unfolding params params_in
params_reported bytes ts o us h is hole e = bind_reported bytes ts (expect k.LeftParen o us) _ h e (expect_reported bytes ts k.LeftParen o us h is (fits (Params bytes) hole (tok k.LeftParen ∷ tok k.RightParen ∷ []) ([], g.ParamsAt.params refl (g.ParamsIn.close refl)))) (λ x ok e2.
    let t = expect_ok k.LeftParen o us x ok in
    let s : Open = Some x.0.span.start in
    items_reported bytes ts k.RightParen s (param bytes s) (Hole bytes ts (InParams bytes)) (λ us h is p. param_reported bytes ts s us h is p) (param_next bytes ts s) (closing bytes ts) (length x.1) [] x.1 h (omega arith) (open_in x.0 x.1 (open_as t.0 is) (ap opens t.1))
    (over (Params bytes) (InParams bytes) hole (x.0 ∷ []) t.0 (λ w q. (_, g.ParamsAt.params t.1 q.1))) e2)
