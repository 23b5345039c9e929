-- Where each parenthesis and each brace is closed, none is open.
use Rattle.std.proofs.Common.{◌≡◌, ◌⊎◌, inl, inr, ℕ, zero, suc, ◌+◌, ◌≤◌, ◌<◌, true, false, List, [], ◌∷◌, ◌++◌, length, refl, sym, ap, ◌∙◌, append_assoc, arith, length-append}
use Rattle.sy_script.specs.declared.token.Kind.{Kind}
use Rattle.sy_script.specs.declared.token.Kind.TheVariants as k
use Rattle.sy_script.specs.declared.token.Token.{Token}
use Rattle.sy_script.specs.Brackets.{opens, is_bracket, Balanced, IsInnermost}
use Rattle.sy_script.proofs.Reported.{balanced_front}

up : Kind → ℕ
up k.LeftParen = 1
up k.LeftBrace = 1
up _ = 0

down : Kind → ℕ
down k.RightParen = 1
down k.RightBrace = 1
down _ = 0

ups : List Token → ℕ
ups [] = 0
ups (t ∷ ts) = up t.kind + ups ts

downs : List Token → ℕ
downs [] = 0
downs (t ∷ ts) = down t.kind + downs ts

no_up : (kind : Kind) → is_bracket kind ≡ false → up kind ≡ 0
unfolding up
no_up k.LeftParen h = absurd cc
no_up k.LeftBrace h = absurd cc
no_up _ h = refl

no_down : (kind : Kind) → is_bracket kind ≡ false → down kind ≡ 0
unfolding down
no_down k.RightParen h = absurd cc
no_down k.RightBrace h = absurd cc
no_down _ h = refl

up_one : (kind : Kind) → opens kind ≡ true → up kind ≡ 1
unfolding up
up_one k.LeftParen h = refl
up_one k.LeftBrace h = refl
up_one _ h = absurd cc

down_none : (kind : Kind) → opens kind ≡ true → down kind ≡ 0
unfolding down
down_none k.LeftParen h = refl
down_none k.LeftBrace h = refl
down_none _ h = absurd cc

-- as many are opened as are closed
even : {ts rest : List Token} → Balanced ts rest → ups ts + downs rest ≡ downs ts + ups rest
unfolding ups downs up down
even Balanced.none = omega arith
even (Balanced.other {t = t} h a) = omega (arith, no_up t.kind h, no_down t.kind h, even a)
even (Balanced.parens {o = o} {c = c} is_o a is_c b) = omega (arith, ap up is_o, ap down is_o, ap up is_c, ap down is_c, even a, even b)
even (Balanced.braces {o = o} {c = c} is_o a is_c b) = omega (arith, ap up is_o, ap down is_o, ap up is_c, ap down is_c, even a, even b)

le_or_more : (a b : ℕ) → (a ≤ b) ⊎ (b < a)
le_or_more zero b = inl (omega arith)
le_or_more (suc a) zero = inr (omega arith)
le_or_more (suc a) (suc b) = elim (le_or_more a b) [
  | inl h ↦ inl (omega (arith, h))
  | inr h ↦ inr (omega (arith, h))
]

-- of two tails of one list, the shorter is a tail of the longer
tail_in : (f h g v : List Token) → f ++ g ≡ h ++ v → length g ≤ length v → (more : List Token) × (v ≡ more ++ g)
tail_in f [] g v e small = (f, sym e)
tail_in [] (x ∷ h) g v e small = absurd (omega (arith, ap length e, length-append h v))
tail_in (y ∷ f) (x ∷ h) g v e small = tail_in f h g v (let same : f ++ g ≡ h ++ v = cc in same) small

behind_bracket : (c : Token) (ts us : List Token) {rest : List Token} (f g : List Token) → Balanced ts (c ∷ us) → Balanced us rest → ts ≡ f ++ g → length rest ≤ length g → up c.kind ≡ 0 → down c.kind ≡ 1 →
    (length (c ∷ us) ≤ length g → ups g + downs (c ∷ us) ≤ downs g + ups (c ∷ us)) → ((h : List Token) → us ≡ h ++ g → ups g + downs rest ≤ downs g + ups rest) → ups g + downs rest ≤ downs g + ups rest
unfolding ups downs
behind_bracket c ts us {rest} f g a b e small is_up is_down wide narrow = elim (le_or_more (length (c ∷ us)) (length g)) [
  | inl w ↦ omega (arith, wide w, even b, is_up, is_down)
  | inr w ↦ (
      let h = balanced_front a in
      let m = tail_in f (h.0 ++ c ∷ []) g us (sym e ∙ (h.1 ∙ sym (append_assoc h.0 (c ∷ []) us))) (omega (arith, w)) in
      narrow m.0 m.1)
]

-- a tail that holds all that is left closes at least as many as it opens
tail_closes : {ts rest : List Token} → Balanced ts rest → (f g : List Token) → ts ≡ f ++ g → length rest ≤ length g → ups g + downs rest ≤ downs g + ups rest
unfolding ups downs up down
tail_closes {ts = ts} b [] g e small = let same : ts ≡ g = e in omega (arith, even b, ap ups same, ap downs same)
tail_closes Balanced.none (x ∷ f) g e small = absurd (omega (arith, ap length e, length-append f g))
tail_closes (Balanced.other {t = t} {ts = ts} h a) (x ∷ f) g e small = tail_closes a f g (let same : ts ≡ f ++ g = cc in same) small
tail_closes (Balanced.parens {o = o} {c = c} {ts = ts} {us = us} is_o a is_c b) (x ∷ f) g e small = behind_bracket c ts us f g a b (let same : ts ≡ f ++ g = cc in same) small (ap up is_c) (ap down is_c)
    (λ wide. tail_closes a f g (let same : ts ≡ f ++ g = cc in same) wide) (λ h is. tail_closes b h g is small)
tail_closes (Balanced.braces {o = o} {c = c} {ts = ts} {us = us} is_o a is_c b) (x ∷ f) g e small = behind_bracket c ts us f g a b (let same : ts ≡ f ++ g = cc in same) small (ap up is_c) (ap down is_c)
    (λ wide. tail_closes a f g (let same : ts ≡ f ++ g = cc in same) wide) (λ h is. tail_closes b h g is small)

-- where all are closed, no opening is left
pub none_open : (ts : List Token) (o : Token) → Balanced ts [] → IsInnermost ts o [] → ⊥
unfolding ups downs
none_open ts o b i = omega (arith, tail_closes b i.front (o ∷ i.inside) i.is_ts (omega arith), even i.is_closed, up_one o.kind i.is_opening, down_none o.kind i.is_opening)
