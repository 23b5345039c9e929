-- A token has one place among those of a text.
use Rattle.std.proofs.Common.{◌≡◌, ℕ, ◌≤◌, List, [], ◌∷◌, ◌++◌, refl, sym, ap, ◌∙◌, subst, arith}
use Rattle.sy_script.specs.declared.token.Token.{Token}
use Rattle.sy_script.specs.declared.tree.Span.{Span}
use Rattle.sy_script.specs.Spans.{InOrder}

later : (low high : ℕ) (f r : List Token) (t : Token) → InOrder low (f ++ t ∷ r) high → low ≤ t.span.start
later low high [] r t o = o.0
later low high (u ∷ f) r t o = omega (arith, o.0, o.1, later u.span.end high f r t o.2)

not_later : (low high : ℕ) (t u : Token) (us f r : List Token) → InOrder low (t ∷ us) high → us ≡ f ++ u ∷ r → t.span ≡ u.span → ⊥
not_later low high t u us f r o e same =
    let P : List Token → Type 0 = λ v. InOrder t.span.end v high in
    omega (arith, o.1, later t.span.end high f r u (subst P e o.2), ap (λ (s : Span). s.start) same)

pub one_place : (low high : ℕ) (ts f g r s : List Token) (t u : Token) → InOrder low ts high → ts ≡ f ++ t ∷ r → ts ≡ g ++ u ∷ s → t.span ≡ u.span → f ≡ g
one_place low high [] [] g r s t u o a b same = absurd cc
one_place low high [] (x ∷ f) g r s t u o a b same = absurd cc
one_place low high (v ∷ ts) [] [] r s t u o a b same = refl
one_place low high (v ∷ ts) [] (y ∷ g) r s t u o a b same =
    let head : v ≡ t = cc in
    absurd (not_later low high v u ts g s o (let e : ts ≡ g ++ u ∷ s = cc in e) (ap (λ (x : Token). x.span) head ∙ same))
one_place low high (v ∷ ts) (x ∷ f) [] r s t u o a b same =
    let head : v ≡ u = cc in
    absurd (not_later low high v t ts f r o (let e : ts ≡ f ++ t ∷ r = cc in e) (ap (λ (x : Token). x.span) head ∙ sym same))
one_place low high (v ∷ ts) (x ∷ f) (y ∷ g) r s t u o a b same =
    let first_is : v ≡ x = cc in
    let second_is : v ≡ y = cc in
    let tails : f ≡ g = one_place v.span.end high ts f g r s t u o.2 (let e : ts ≡ f ++ t ∷ r = cc in e) (let e : ts ≡ g ++ u ∷ s = cc in e) same in
    ap (λ z. z ∷ f) (sym first_is ∙ second_is) ∙ ap (λ l. y ∷ l) tails
