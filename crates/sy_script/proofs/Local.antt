-- Reading looks at no token after the one that it stops at, and at one after what it reads.
use Rattle.std.proofs.Common.{◌≡◌, ◌⊎◌, inl, inr, ℕ, Bool, true, false, cond, List, [], ◌∷◌, ◌++◌, Some, None, Ok, Err, refl, sym, ap, ◌∙◌, subst, append_assoc}
use Rattle.sy_script.specs.declared.token.Kind.{Kind}
use Rattle.sy_script.specs.declared.token.Kind.TheVariants as k
use Rattle.sy_script.specs.declared.token.Token.{Token}
use Rattle.sy_script.specs.declared.halt.Halt.{Halt}
use Rattle.sy_script.specs.declared.halt.Halt.TheVariants as halt
use Rattle.sy_script.specs.Terms.{is_text, is_word, text_of, word_of}
use Rattle.sy_script.specs.internal.Reading.{Outcome, Parser, Open, and_then, ◌>>=◌, pure, refuse, same_kind, first, expect, behind, word, text, param}
use Rattle.sy_script.proofs.DeadEnd.{StopsAt, AtToken}
use Rattle.sy_script.proofs.Sound.{bind_ok, pure_ok}
use Rattle.sy_script.proofs.ReadBack.{then_reads}

-- ---- lists of tokens that begin alike

abbrev pub Alike : List Token → List Token → Type 0
Alike [] [] = Unit {0}
Alike [] (u ∷ us) = ⊥
Alike (t ∷ ts) [] = ⊥
Alike (t ∷ ts) (u ∷ us) = t ≡ u

pub alike_front : (front ts us : List Token) → Alike ts us → Alike (front ++ ts) (front ++ us)
alike_front [] ts us h = h
alike_front (t ∷ front) ts us h = refl

pub alike_self : (ts : List Token) → Alike ts ts
alike_self [] = tt
alike_self (t ∷ ts) = refl

pub behind_alike : (kind : Kind) (ts us : List Token) → Alike ts us → behind kind ts ≡ None → behind kind us ≡ None
unfolding behind
behind_alike kind [] [] a h = h
behind_alike kind [] (u ∷ us) a h = absurd a
behind_alike kind (t ∷ ts) [] a h = absurd a
behind_alike kind (t ∷ ts) (u ∷ us) a h = by_test (same_kind t.kind kind) refl h where
  by_test : (b : Bool) → same_kind t.kind kind ≡ b → cond b (Some ts) None ≡ None → cond (same_kind u.kind kind) (Some us) None ≡ None
  by_test true is none = absurd cc
  by_test false is none = ap (λ b. cond b (Some us) None) (ap (λ (t : Token). same_kind t.kind kind) (sym a) ∙ is)

-- ---- what reading keeps

pub record Goes {A : Type 0} (p : Parser A) (ts : List Token) (x : A) (rest : List Token) : Type 0 where
  pub front : List Token
  pub is_ts : ts ≡ front ++ rest
  pub again : (more : List Token) → Alike rest more → p (front ++ more) ≡ Ok (x, more)

pub record Stops {A : Type 0} (p : Parser A) (ts : List Token) (h : Halt) : Type 0 where
  pub front : List Token
  pub t : Token
  pub rest : List Token
  pub is_ts : ts ≡ front ++ t ∷ rest
  pub spot : StopsAt h t
  pub again : (more : List Token) → p (front ++ t ∷ more) ≡ Err h

pub record Local {A : Type 0} (p : Parser A) : Type 0 where
  pub goes : (ts : List Token) (x : A) (rest : List Token) → p ts ≡ Ok (x, rest) → Goes p ts x rest
  pub stops : (ts : List Token) (h : Halt) → AtToken h → p ts ≡ Err h → Stops p ts h

-- reads after a token, at which it may stop too
pub record After {A : Type 0} (t : Token) (p : Parser A) : Type 0 where
  pub goes : (ts : List Token) (x : A) (rest : List Token) → p ts ≡ Ok (x, rest) → Goes p ts x rest
  pub stops : (ts : List Token) (h : Halt) → AtToken h → p ts ≡ Err h → (StopsAt h t × ((more : List Token) → p more ≡ Err h)) ⊎ Stops p ts h

pub bind_err : {A B : Type 0} (r : Outcome A) (f : A → Parser B) (h : Halt) → and_then r f ≡ Err h → (r ≡ Err h) ⊎ ((x : A × List Token) × (r ≡ Ok x) × (f x.0 x.1 ≡ Err h))
bind_err (Ok x) f h e = inr (x, refl, e)
bind_err {A} {B} (Err d) f h e = inl (let same : d ≡ h = cc in ap Err same)

module _ {A B : Type 0} (p : Parser A) (f : A → Parser B) where
  goes_then : (ts : List Token) (x : A) (mid : List Token) (y : B) (rest : List Token) → Goes p ts x mid → Goes (f x) mid y rest → Goes (p >>= f) ts y rest
  goes_then ts x mid y rest a b = record {
    front = a.front ++ b.front;
    is_ts = a.is_ts ∙ (ap (λ r. a.front ++ r) b.is_ts ∙ sym (append_assoc a.front b.front rest));
    again = λ more same.
        let Q : List Token → Type 0 = λ v. Alike v (b.front ++ more) in
        ap (λ ts. and_then (p ts) f) (append_assoc a.front b.front more)
        ∙ then_reads (p (a.front ++ (b.front ++ more))) f x (b.front ++ more) _ (a.again (b.front ++ more) (subst Q (sym b.is_ts) (alike_front b.front rest more same))) (b.again more same);
  }

  stops_then : (ts : List Token) (x : A) (mid : List Token) (h : Halt) → Goes p ts x mid → Stops (f x) mid h → Stops (p >>= f) ts h
  stops_then ts x mid h a b = record {
    front = a.front ++ b.front;
    t = b.t;
    rest = b.rest;
    is_ts = a.is_ts ∙ (ap (λ r. a.front ++ r) b.is_ts ∙ sym (append_assoc a.front b.front (b.t ∷ b.rest)));
    spot = b.spot;
    again = λ more.
        let Q : List Token → Type 0 = λ v. Alike v (b.front ++ b.t ∷ more) in
        ap (λ ts. and_then (p ts) f) (append_assoc a.front b.front (b.t ∷ more))
        ∙ then_reads (p (a.front ++ (b.front ++ b.t ∷ more))) f x (b.front ++ b.t ∷ more) _ (a.again (b.front ++ b.t ∷ more) (subst Q (sym b.is_ts) (alike_front b.front (b.t ∷ b.rest) (b.t ∷ more) refl))) (b.again more);
  }

  stops_first : (ts : List Token) (h : Halt) → Stops p ts h → Stops (p >>= f) ts h
  stops_first ts h a = record { front = a.front; t = a.t; rest = a.rest; is_ts = a.is_ts; spot = a.spot; again = λ more. ap (λ r. and_then r f) (a.again more) }

  pub local_bind : Local p → ((x : A) → Local (f x)) → Local (p >>= f)
  local_bind lp lf = record {
    goes = λ ts y rest e. let s = bind_ok (p ts) f (y, rest) e in goes_then ts s.0.0 s.0.1 y rest (lp.goes ts s.0.0 s.0.1 s.1) ((lf s.0.0).goes s.0.1 y rest s.2);
    stops = λ ts h hard e. elim (bind_err (p ts) f h e) [
      | inl d ↦ stops_first ts h (lp.stops ts h hard d)
      | inr s ↦ stops_then ts s.0.0 s.0.1 h (lp.goes ts s.0.0 s.0.1 s.1) ((lf s.0.0).stops s.0.1 h hard s.2)
    ];
  }

  pub after_bind : (t : Token) → After t p → ((x : A) → Local (f x)) → After t (p >>= f)
  after_bind t lp lf = record {
    goes = λ ts y rest e. let s = bind_ok (p ts) f (y, rest) e in goes_then ts s.0.0 s.0.1 y rest (lp.goes ts s.0.0 s.0.1 s.1) ((lf s.0.0).goes s.0.1 y rest s.2);
    stops = λ ts h hard e. elim (bind_err (p ts) f h e) [
      | inl d ↦ elim (lp.stops ts h hard d) [
        | inl here ↦ inl (here.0, λ more. ap (λ r. and_then r f) (here.1 more))
        | inr there ↦ inr (stops_first ts h there)
      ]
      | inr s ↦ inr (stops_then ts s.0.0 s.0.1 h (lp.goes ts s.0.0 s.0.1 s.1) ((lf s.0.0).stops s.0.1 h hard s.2))
    ];
  }

pub local_pure : {A : Type 0} (x : A) → Local (pure x)
local_pure x = record {
  goes = λ ts y rest e. let s = pure_ok x ts (y, rest) e in record { front = []; is_ts = s.1; again = λ more same. ap (λ v. Ok (v, more)) s.0 };
  stops = λ ts h hard e. absurd cc;
}

pub after_local : {A : Type 0} (t : Token) (p : Parser A) → Local p → After t p
after_local t p l = record { goes = l.goes; stops = λ ts h hard e. inr (l.stops ts h hard e) }

pub after_refuse : {A : Type 0} (t : Token) (d : Halt) → StopsAt d t → (let p : Parser A = refuse d in After t p)
after_refuse t d spot = record {
  goes = λ ts x rest e. absurd cc;
  stops = λ ts h hard e. let same : d ≡ h = cc in inl (subst (λ (h : Halt). StopsAt h t) same spot, λ more. ap Err same);
}

pub after_if : {A : Type 0} (t : Token) (b : Bool) (p q : Parser A) → After t p → After t q → After t (cond b p q)
after_if t true p q lp lq = lp
after_if t false p q lp lq = lq

pub first_then : {A : Type 0} (o : Open) (body : Token → Parser A) → ((t : Token) → After t (body t)) → Local (first o >>= body)
first_then {A} o body each = record { goes = goes; stops = stops } where
  goes : (ts : List Token) (x : A) (rest : List Token) → and_then (first o ts) body ≡ Ok (x, rest) → Goes (first o >>= body) ts x rest
  goes [] x rest e = absurd cc
  goes (t ∷ ts) x rest e = let a = (each t).goes ts x rest e in record { front = t ∷ a.front; is_ts = ap (λ r. t ∷ r) a.is_ts; again = a.again }

  stops : (ts : List Token) (h : Halt) → AtToken h → and_then (first o ts) body ≡ Err h → Stops (first o >>= body) ts h
  stops [] h hard e = let same : halt.End o ≡ h = cc in absurd (subst (λ (h : Halt). AtToken h) (sym same) hard)
  stops (t ∷ ts) h hard e = elim ((each t).stops ts h hard e) [
    | inl here ↦ record { front = []; t = t; rest = ts; is_ts = refl; spot = here.0; again = here.1 }
    | inr a ↦ record { front = t ∷ a.front; t = a.t; rest = a.rest; is_ts = ap (λ r. t ∷ r) a.is_ts; spot = a.spot; again = a.again }
  ]

-- ---- tokens, words, strings, parameters

pub expect_local : (kind : Kind) (o : Open) → Local (expect kind o)
unfolding expect
expect_local kind o = first_then o _ (λ t. after_if t (same_kind t.kind kind) (pure t) _ (after_local t _ (local_pure t)) (after_refuse t (halt.Unexpected t.span) refl))

pub word_local : (bytes : List ℕ) (o : Open) → Local (word bytes o)
unfolding word
word_local bytes o = first_then o _ (λ t. after_if t (is_word t.kind) (pure (word_of bytes t.span)) _ (after_local t _ (local_pure _)) (after_refuse t (halt.Unexpected t.span) refl))

pub text_local : (bytes : List ℕ) (o : Open) → Local (text bytes o)
unfolding text
text_local bytes o = first_then o _ (λ t. after_if t (is_text t.kind) (pure (text_of bytes t.span)) _ (after_local t _ (local_pure _)) (after_refuse t (halt.Unexpected t.span) refl))

pub param_local : (bytes : List ℕ) (o : Open) → Local (param bytes o)
unfolding param
param_local bytes o = local_bind _ _ (word_local bytes o) (λ name. local_bind _ _ (expect_local k.Assign o) (λ a. local_bind _ _ (expect_local k.Quoted o) (λ v. local_pure _)))
