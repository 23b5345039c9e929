-- What reading gives is in the grammar.
use Rattle.std.proofs.Common.{◌≡◌, ◌⊎◌, inl, inr, ℕ, zero, suc, Bool, true, false, cond, List, [], ◌∷◌, ◌++◌, length, Option, Some, None, Result, Ok, Err, refl, sym, ap, ◌∙◌, subst, append_assoc, append-nil}
use denote.Enum.Bare.{same_true}
use Rattle.sy_script.specs.contracts.token.Kind.{the_type}
use Rattle.sy_script.specs.declared.token.Kind.{Kind}
use Rattle.sy_script.specs.declared.token.Kind.TheVariants as k
use Rattle.sy_script.specs.declared.token.Token.{Token}
use Rattle.sy_script.specs.declared.halt.Halt.{Halt}
use Rattle.sy_script.specs.declared.tree.Word.{Word}
use Rattle.sy_script.specs.declared.tree.Text.{Text}
use Rattle.sy_script.specs.declared.tree.Param.{Param}
use Rattle.sy_script.specs.Terms.{is_text, is_word, text_of, word_of}
use Rattle.sy_script.specs.internal.Reading.{Outcome, Parser, Open, and_then, pure, refuse, same_kind, first, expect, behind, word, text, param, turn, items_from, params_in, params}
use Rattle.sy_script.specs.Grammar as g

-- what stands at these tokens, under other names
pub move : {X : Type 0} (R : X → List Token → List Token → Type 0) {x x' : X} {ts ts' rest rest' : List Token} → x ≡ x' → ts ≡ ts' → rest ≡ rest' → R x ts rest → R x' ts' rest'
move {X} R {x = x} {x' = x'} {ts = ts} {ts' = ts'} {rest = rest} {rest' = rest'} a b c h =
    let P : X → Type 0 = λ v. R v ts rest in
    let Q : List Token → Type 0 = λ v. R x' v rest in
    let S : List Token → Type 0 = λ v. R x' ts' v in
    subst S c (subst Q b (subst P a h))

-- ---- steps

-- what was read first, and what was read then
pub bind_ok : {A B : Type 0} (r : Outcome A) (f : A → Parser B) (y : B × List Token) → and_then r f ≡ Ok y → (x : A × List Token) × (r ≡ Ok x) × (f x.0 x.1 ≡ Ok y)
bind_ok (Ok x) f y h = (x, refl, h)
bind_ok (Err e) f y h = absurd cc

pub ok_is : {A : Type 0} {x y : A} → (let r : Result A Halt = Ok x in r ≡ Ok y) → x ≡ y
ok_is h = cc

pub if_ok : {A : Type 0} (b : Bool) (x : A) (e : Halt) (ts : List Token) (y : A × List Token) → (let p : Parser A = cond b (pure x) (refuse e) in p ts ≡ Ok y) → (b ≡ true) × (x ≡ y.0) × (ts ≡ y.1)
if_ok true x e ts y h = (refl, ap (λ p. p.0) (ok_is h), ap (λ p. p.1) (ok_is h))
if_ok false x e ts y h = absurd cc

pub pure_ok : {A : Type 0} (x : A) (ts : List Token) (y : A × List Token) → pure x ts ≡ Ok y → (x ≡ y.0) × (ts ≡ y.1)
pure_ok x ts y h = (ap (λ p. p.0) (ok_is h), ap (λ p. p.1) (ok_is h))

pub kind_is : (a b : Kind) → same_kind a b ≡ true → a ≡ b
unfolding same_kind
kind_is a b h = same_true the_type tt a b h

pub first_ok : (o : Open) (ts : List Token) (y : Token × List Token) → first o ts ≡ Ok y → ts ≡ y.0 ∷ y.1
first_ok o [] y h = absurd cc
first_ok o (t ∷ ts) y h = ap (λ (p : Token × List Token). p.0 ∷ p.1) (ok_is h)

pub expect_ok : (kind : Kind) (o : Open) (ts : List Token) (y : Token × List Token) → expect kind o ts ≡ Ok y → (ts ≡ y.0 ∷ y.1) × (y.0.kind ≡ kind)
unfolding expect
expect_ok kind o ts y h =
    let s = bind_ok (first o ts) _ y h in
    let t = if_ok (same_kind s.0.0.kind kind) s.0.0 _ s.0.1 y s.2 in
    (first_ok o ts s.0 s.1 ∙ (ap (λ x. x ∷ s.0.1) t.1 ∙ ap (λ x. y.0 ∷ x) t.2), sym (ap (λ x. x.kind) t.1) ∙ kind_is _ _ t.0)

pub behind_ok : (kind : Kind) (ts after : List Token) → behind kind ts ≡ Some after → (c : Token) × (ts ≡ c ∷ after) × (c.kind ≡ kind)
unfolding behind
behind_ok kind [] after h = absurd cc
behind_ok kind (t ∷ ts) after h = by_test (same_kind t.kind kind) refl h where
  by_test : (b : Bool) → same_kind t.kind kind ≡ b → cond b (Some ts) None ≡ Some after → (c : Token) × (t ∷ ts ≡ c ∷ after) × (c.kind ≡ kind)
  by_test true is same = (t, ap (λ x. t ∷ x) (let e : ts ≡ after = cc in e), kind_is _ _ is)
  by_test false is same = absurd cc

pub word_ok : (bytes : List ℕ) (o : Open) (ts : List Token) (y : Word × List Token) → word bytes o ts ≡ Ok y → (n : Token) × (ts ≡ n ∷ y.1) × (is_word n.kind ≡ true) × (word_of bytes n.span ≡ y.0)
unfolding word
word_ok bytes o ts y h =
    let s = bind_ok (first o ts) _ y h in
    let t = if_ok (is_word s.0.0.kind) (word_of bytes s.0.0.span) _ s.0.1 y s.2 in
    (s.0.0, first_ok o ts s.0 s.1 ∙ ap (λ x. s.0.0 ∷ x) t.2, t.0, t.1)

pub text_ok : (bytes : List ℕ) (o : Open) (ts : List Token) (y : Text × List Token) → text bytes o ts ≡ Ok y → (v : Token) × (ts ≡ v ∷ y.1) × (is_text v.kind ≡ true) × (text_of bytes v.span ≡ y.0)
unfolding text
text_ok bytes o ts y h =
    let s = bind_ok (first o ts) _ y h in
    let t = if_ok (is_text s.0.0.kind) (text_of bytes s.0.0.span) _ s.0.1 y s.2 in
    (s.0.0, first_ok o ts s.0 s.1 ∙ ap (λ x. s.0.0 ∷ x) t.2, t.0, t.1)

-- ---- parameters

pub param_ok : (bytes : List ℕ) (o : Open) (ts : List Token) (y : Param × List Token) → param bytes o ts ≡ Ok y →
    (n : Token) × (a : Token) × (v : Token) × (ts ≡ n ∷ a ∷ v ∷ y.1) × (is_word n.kind ≡ true) × (a.kind ≡ k.Assign) × (v.kind ≡ k.Quoted) × ((let p : Param = record { name = word_of bytes n.span; value = text_of bytes v.span } in p) ≡ y.0)
unfolding param
param_ok bytes o ts y h =
    let s = bind_ok (word bytes o ts) _ y h in
    let w = word_ok bytes o ts s.0 s.1 in
    let s2 = bind_ok (expect k.Assign o s.0.1) _ y s.2 in
    let a = expect_ok k.Assign o s.0.1 s2.0 s2.1 in
    let s3 = bind_ok (expect k.Quoted o s2.0.1) _ y s2.2 in
    let v = expect_ok k.Quoted o s2.0.1 s3.0 s3.1 in
    let e = pure_ok _ s3.0.1 y s3.2 in (
      w.0,
      s2.0.0,
      s3.0.0,
      w.1 ∙ ap (λ x. w.0 ∷ x) (a.0 ∙ ap (λ x. s2.0.0 ∷ x) (v.0 ∙ ap (λ x. s3.0.0 ∷ x) e.1)),
      w.2,
      a.1,
      v.1,
      ap (λ (x : Word). let p : Param = record { name = x; value = text_of bytes s3.0.0.span } in p) w.3 ∙ e.0,
    )

pub turn_ok : {A : Type 0} (b : Option (List Token)) (found : List A) (more : Outcome (List A)) (y : List A × List Token) → turn b found more ≡ Ok y →
    ((after : List Token) × (b ≡ Some after) × (found ≡ y.0) × (after ≡ y.1)) ⊎ (more ≡ Ok y)
turn_ok (Some after) found more y h = inl (after, refl, ap (λ p. p.0) (ok_is h), ap (λ p. p.1) (ok_is h))
turn_ok None found more y h = inr h

-- what was there, and more
abbrev Grown : {A : Type 0} → List A → (List A → Type 0) → List A → Type 0
Grown {A} found P all = (xs : List A) × (all ≡ found ++ xs) × P xs

grown : {A : Type 0} (found : List A) (x : A) (P Q : List A → Type 0) (all : List A) → ((xs : List A) → P xs → Q (x ∷ xs)) → Grown (found ++ x ∷ []) P all → Grown found Q all
grown found x P Q all f g = (x ∷ g.0, g.1 ∙ append_assoc found (x ∷ []) g.0, f g.0 g.2)

grown_none : {A : Type 0} (found : List A) (P : List A → Type 0) (all : List A) → found ≡ all → P [] → Grown found P all
grown_none found P all e p = ([], sym e ∙ sym (append-nil found), p)

close_params : (bytes : List ℕ) (ts after rest : List Token) → behind k.RightParen ts ≡ Some after → after ≡ rest → g.ParamsIn bytes [] ts rest
close_params bytes ts after rest h e =
    let c = behind_ok k.RightParen ts after h in
    move (g.ParamsIn bytes) refl (sym c.1) e (g.ParamsIn.close c.2)

one_param : (bytes : List ℕ) (ts mid rest : List Token) (p : Param) (ps : List Param) (n a v : Token) → ts ≡ n ∷ a ∷ v ∷ mid → is_word n.kind ≡ true → a.kind ≡ k.Assign → v.kind ≡ k.Quoted →
    (let q : Param = record { name = word_of bytes n.span; value = text_of bytes v.span } in q) ≡ p → g.ParamsIn bytes ps mid rest → g.ParamsIn bytes (p ∷ ps) ts rest
one_param bytes ts mid rest p ps n a v is name assign quoted same more = move (g.ParamsIn bytes) (ap (λ q. q ∷ ps) same) (sym is) refl (g.ParamsIn.param name assign quoted more)

params_from_ok : (bytes : List ℕ) (o : Open) (n : ℕ) (found : List Param) (ts : List Token) (y : List Param × List Token) → items_from k.RightParen o (param bytes o) n found ts ≡ Ok y →
    Grown found (λ ps. g.ParamsIn bytes ps ts y.1) y.0
unfolding items_from
params_from_ok bytes o zero found ts y h = absurd cc
params_from_ok bytes o (suc n) found ts y h =
    elim (turn_ok (behind k.RightParen ts) found _ y h) [
      | inl w ↦ grown_none found _ y.0 w.2 (close_params bytes ts w.0 y.1 w.1 w.3)
      | inr more ↦
          let s = bind_ok (param bytes o ts) _ y more in
          let p = param_ok bytes o ts s.0 s.1 in
          grown found s.0.0 _ _ y.0 (λ ps. one_param bytes ts s.0.1 y.1 s.0.0 ps p.0 p.1 p.2 p.3 p.4 p.5 p.6 p.7) (params_from_ok bytes o n (found ++ s.0.0 ∷ []) s.0.1 y s.2)
    ]

pub params_in_ok : (bytes : List ℕ) (o : Open) (ts : List Token) (y : List Param × List Token) → params_in bytes o ts ≡ Ok y → g.ParamsIn bytes y.0 ts y.1
unfolding params_in
params_in_ok bytes o ts y h = let w = params_from_ok bytes o (length ts) [] ts y h in move (g.ParamsIn bytes) (sym w.1) refl refl w.2

pub params_ok : (bytes : List ℕ) (o : Open) (ts : List Token) (y : List Param × List Token) → params bytes o ts ≡ Ok y → g.ParamsAt bytes y.0 ts y.1
unfolding params
params_ok bytes o ts y h =
    let s = bind_ok (expect k.LeftParen o ts) _ y h in
    let p = expect_ok k.LeftParen o ts s.0 s.1 in
    move (g.ParamsAt bytes) refl (sym p.0) refl (g.ParamsAt.params p.1 (params_in_ok bytes (Some s.0.0.span.start) s.0.1 y s.2))
