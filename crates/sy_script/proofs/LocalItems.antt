-- Items up to a closing token look at no token after the one that they stop at.
use Rattle.std.proofs.Common.{◌≡◌, ◌⊎◌, inl, inr, ◌<◌, ◌≤◌, ℕ, zero, suc, List, [], ◌∷◌, ◌++◌, length, Option, Some, None, Ok, Err, refl, sym, ap, ◌∙◌, subst, append_assoc, arith, length-append}
use Rattle.sy_script.specs.declared.token.Kind.{Kind}
use Rattle.sy_script.specs.declared.token.Kind.TheVariants as k
use Rattle.sy_script.specs.declared.token.Token.{Token}
use Rattle.sy_script.specs.declared.halt.Halt.{Halt}
use Rattle.sy_script.specs.declared.halt.Halt.TheVariants as halt
use Rattle.sy_script.specs.declared.tree.Param.{Param}
use Rattle.sy_script.specs.internal.Reading.{Outcome, Parser, Open, and_then, behind, param, turn, items_from, items, params_in, params}
use Rattle.sy_script.proofs.DeadEnd.{StopsAt, AtToken}
use Rattle.sy_script.proofs.Sound.{bind_ok, ok_is, behind_ok, param_ok}
use Rattle.sy_script.proofs.ReadBack.{then_reads, behind_reads}
use Rattle.sy_script.proofs.Local.{Alike, alike_front, behind_alike, Local, bind_err, local_bind, expect_local, param_local}

turn_cases : {A : Type 0} (b : Option (List Token)) (found : List A) (more r : Outcome (List A)) → turn b found more ≡ r → ((after : List Token) × (b ≡ Some after) × (Ok (found, after) ≡ r)) ⊎ ((b ≡ None) × (more ≡ r))
turn_cases (Some after) found more r h = inl (after, refl, h)
turn_cases None found more r h = inr (refl, h)

module _ {A : Type 0} (close : Kind) (o : Open) (item : Parser A) (l : Local item) (takes : (us : List Token) (x : A) (mid : List Token) → item us ≡ Ok (x, mid) → length mid < length us) where
  record Go (found : List A) (ts : List Token) (y : List A) (rest : List Token) : Type 0 where
    front : List Token
    is_ts : ts ≡ front ++ rest
    again : (more : List Token) (m : ℕ) → length (front ++ more) ≤ m → Alike rest more → items_from close o item m found (front ++ more) ≡ Ok (y, more)

  record Stop (found : List A) (ts : List Token) (h : Halt) : Type 0 where
    front : List Token
    t : Token
    rest : List Token
    is_ts : ts ≡ front ++ t ∷ rest
    spot : StopsAt h t
    again : (more : List Token) (m : ℕ) → length (front ++ t ∷ more) ≤ m → items_from close o item m found (front ++ t ∷ more) ≡ Err h

  close_reads : (m : ℕ) (found : List A) (c : Token) (more : List Token) → c.kind ≡ close → 0 < m → items_from close o item m found (c ∷ more) ≡ Ok (found, more)
  unfolding items_from
  close_reads zero found c more is some = absurd (omega arith)
  close_reads (suc m) found c more is some = ap (λ b. turn b found (and_then (item (c ∷ more)) (λ x. items_from close o item m (found ++ x ∷ [])))) (behind_reads close c more is)

  item_reads : (m : ℕ) (found : List A) (us : List Token) (x : A) (mid : List Token) (r : Outcome (List A)) → behind close us ≡ None → item us ≡ Ok (x, mid) → length mid < length us → length us ≤ m →
      ((m' : ℕ) → length mid ≤ m' → items_from close o item m' (found ++ x ∷ []) mid ≡ r) → items_from close o item m found us ≡ r
  unfolding items_from
  item_reads zero found us x mid r none one less small more = absurd (omega arith)
  item_reads (suc m) found us x mid r none one less small more =
      ap (λ b. turn b found (and_then (item us) (λ x. items_from close o item m (found ++ x ∷ [])))) none ∙ then_reads (item us) _ x mid r one (more m (omega arith))

  item_stops : (m : ℕ) (found : List A) (us : List Token) (h : Halt) → behind close us ≡ None → item us ≡ Err h → 0 < m → items_from close o item m found us ≡ Err h
  unfolding items_from
  item_stops zero found us h none one some = absurd (omega arith)
  item_stops (suc m) found us h none one some =
      ap (λ b. turn b found (and_then (item us) (λ x. items_from close o item m (found ++ x ∷ [])))) none ∙ ap (λ r. and_then r (λ x. items_from close o item m (found ++ x ∷ []))) one

  alike_to : (ts front mid more : List Token) → ts ≡ front ++ mid → Alike mid more → Alike ts (front ++ more)
  alike_to ts front mid more is same = let Q : List Token → Type 0 = λ v. Alike v (front ++ more) in subst Q (sym is) (alike_front front mid more same)

  some_before : (front : List Token) (t : Token) (more : List Token) (m : ℕ) → length (front ++ t ∷ more) ≤ m → 0 < m
  some_before front t more m h = omega (arith, length-append front (t ∷ more))

  go : (n : ℕ) (found : List A) (ts : List Token) (y : List A) (rest : List Token) → items_from close o item n found ts ≡ Ok (y, rest) → Go found ts y rest
  unfolding items_from
  go zero found ts y rest h = absurd cc
  go (suc n) found ts y rest h = elim (turn_cases (behind close ts) found _ _ h) [
    | inl w ↦
        let c = behind_ok close ts w.0 w.1 in
        let e : (found, w.0) ≡ (y, rest) = ok_is w.2 in
        record {
          front = c.0 ∷ [];
          is_ts = c.1 ∙ ap (λ (p : List A × List Token). c.0 ∷ p.1) e;
          again = λ more m small same. close_reads m found c.0 more c.2 (omega arith) ∙ ap (λ (p : List A × List Token). Ok (p.0, more)) e;
        }
    | inr w ↦
        let s = bind_ok (item ts) _ (y, rest) w.1 in
        let a = l.goes ts s.0.0 s.0.1 s.1 in
        let b = go n (found ++ s.0.0 ∷ []) s.0.1 y rest s.2 in
        record {
          front = a.front ++ b.front;
          is_ts = a.is_ts ∙ (ap (λ r. a.front ++ r) b.is_ts ∙ sym (append_assoc a.front b.front rest));
          again = λ more m small same.
              let us : List Token = a.front ++ (b.front ++ more) in
              let head : Alike s.0.1 (b.front ++ more) = alike_to s.0.1 b.front rest more b.is_ts same in
              let one : item us ≡ Ok (s.0.0, b.front ++ more) = a.again (b.front ++ more) head in
              let none : behind close us ≡ None = behind_alike close ts us (alike_to ts a.front s.0.1 (b.front ++ more) a.is_ts head) w.0 in
              ap (λ ts. items_from close o item m found ts) (append_assoc a.front b.front more)
              ∙ item_reads m found us s.0.0 (b.front ++ more) _ none one (takes us _ _ one) (omega (arith, ap length (append_assoc a.front b.front more), small)) (λ m' small'. b.again more m' small' same);
        }
  ]

  stop : (n : ℕ) (found : List A) (ts : List Token) (h : Halt) → AtToken h → items_from close o item n found ts ≡ Err h → Stop found ts h
  unfolding items_from
  stop zero found ts h hard e = let same : halt.End o ≡ h = cc in absurd (subst (λ (h : Halt). AtToken h) (sym same) hard)
  stop (suc n) found ts h hard e = elim (turn_cases (behind close ts) found _ _ e) [
    | inl w ↦ absurd (let no : Ok (found, w.0) ≡ Err h = w.2 in cc)
    | inr w ↦ elim (bind_err (item ts) _ h w.1) [
      | inl d ↦
          let a = l.stops ts h hard d in
          record {
            front = a.front;
            t = a.t;
            rest = a.rest;
            is_ts = a.is_ts;
            spot = a.spot;
            again = λ more m small.
                let none : behind close (a.front ++ a.t ∷ more) ≡ None = behind_alike close ts (a.front ++ a.t ∷ more) (alike_to ts a.front (a.t ∷ a.rest) (a.t ∷ more) a.is_ts refl) w.0 in
                item_stops m found (a.front ++ a.t ∷ more) h none (a.again more) (some_before a.front a.t more m small);
          }
      | inr s ↦
          let a = l.goes ts s.0.0 s.0.1 s.1 in
          let b = stop n (found ++ s.0.0 ∷ []) s.0.1 h hard s.2 in
          record {
            front = a.front ++ b.front;
            t = b.t;
            rest = b.rest;
            is_ts = a.is_ts ∙ (ap (λ r. a.front ++ r) b.is_ts ∙ sym (append_assoc a.front b.front (b.t ∷ b.rest)));
            spot = b.spot;
            again = λ more m small.
                let us : List Token = a.front ++ (b.front ++ b.t ∷ more) in
                let head : Alike s.0.1 (b.front ++ b.t ∷ more) = alike_to s.0.1 b.front (b.t ∷ b.rest) (b.t ∷ more) b.is_ts refl in
                let one : item us ≡ Ok (s.0.0, b.front ++ b.t ∷ more) = a.again (b.front ++ b.t ∷ more) head in
                let none : behind close us ≡ None = behind_alike close ts us (alike_to ts a.front s.0.1 (b.front ++ b.t ∷ more) a.is_ts head) w.0 in
                ap (λ ts. items_from close o item m found ts) (append_assoc a.front b.front (b.t ∷ more))
                ∙ item_reads m found us s.0.0 (b.front ++ b.t ∷ more) _ none one (takes us _ _ one) (omega (arith, ap length (append_assoc a.front b.front (b.t ∷ more)), small)) (λ m' small'. b.again more m' small');
          }
    ]
  ]

  pub items_local : Local (items close o item)
  items_local = record {
    goes = λ ts y rest e. let a = go (length ts) [] ts y rest e in record { front = a.front; is_ts = a.is_ts; again = λ more same. a.again more (length (a.front ++ more)) (omega arith) same };
    stops = λ ts h hard e. let a = stop (length ts) [] ts h hard e in record { front = a.front; t = a.t; rest = a.rest; is_ts = a.is_ts; spot = a.spot; again = λ more. a.again more (length (a.front ++ a.t ∷ more)) (omega arith) };
  }

param_takes : (bytes : List ℕ) (o : Open) (us : List Token) (x : Param) (mid : List Token) → param bytes o us ≡ Ok (x, mid) → length mid < length us
param_takes bytes o us x mid h = let p = param_ok bytes o us (x, mid) h in omega (arith, ap length p.3)

pub params_local : (bytes : List ℕ) (o : Open) → Local (params bytes o)
unfolding params params_in
params_local bytes o = local_bind _ _ (expect_local k.LeftParen o) (λ t. items_local k.RightParen (Some t.span.start) (param bytes (Some t.span.start)) (param_local bytes (Some t.span.start)) (param_takes bytes (Some t.span.start)))
