-- At most one of the faults 21 and 22 stands in a text, and at one place.
use Rattle.std.proofs.Common.{◌≡◌, ◌⊎◌, inl, inr, ℕ, List, [], ◌∷◌, ◌++◌, refl, sym, ap, ◌∙◌, subst, append_assoc}
use Rattle.sy_script.specs.declared.token.Token.{Token}
use Rattle.sy_script.specs.declared.token.Ending.TheVariants as ending
use Rattle.sy_script.specs.declared.fault.FaultCode.{FaultCode}
use Rattle.sy_script.specs.declared.fault.FaultCode.TheVariants as code
use Rattle.sy_script.specs.internal.Lex.{Lexing, tokens}
use Rattle.sy_script.specs.Tokens.{AreTokens}
use Rattle.sy_script.specs.Brackets.{IsInnermost}
use Rattle.sy_script.specs.Faults.{IsBadByte, IsUnclosed, Unended}
use Rattle.sy_script.proofs.Cuts.{BadAt, OpenAt, one_cutting, are_tokens, bad_end, open_end}
use Rattle.sy_script.proofs.Even.{none_open}
use Rattle.sy_script.proofs.OneFault.{three}

-- two innermost openings are one
one_innermost : (ts : List Token) (o p : Token) → IsInnermost ts o [] → IsInnermost ts p [] → o ≡ p
one_innermost ts o p i j = elim (three i.front i.inside j.front j.inside o p (sym i.is_ts ∙ j.is_ts)) [
  | inl is ↦ is
  | inr w ↦ elim w [
    | inl m ↦ absurd (none_open i.inside p i.is_closed (record { front = m.0; inside = j.inside; is_ts = behind i.front j.front m.0 i.inside j.inside o p (sym i.is_ts ∙ j.is_ts) m.1; is_opening = j.is_opening; is_closed = j.is_closed }))
    | inr m ↦ absurd (none_open j.inside o j.is_closed (record { front = m.0; inside = i.inside; is_ts = behind j.front i.front m.0 j.inside i.inside p o (sym j.is_ts ∙ i.is_ts) m.1; is_opening = i.is_opening; is_closed = i.is_closed }))
  ]
] where
  heads_off : (f a b : List Token) → f ++ a ≡ f ++ b → a ≡ b
  heads_off [] a b e = e
  heads_off (x ∷ f) a b e = heads_off f a b (let same : f ++ a ≡ f ++ b = cc in same)

  behind : (f h more r s : List Token) (t u : Token) → f ++ t ∷ r ≡ h ++ u ∷ s → h ≡ (f ++ t ∷ []) ++ more → r ≡ more ++ u ∷ s
  behind f h more r s t u e is =
      heads_off (f ++ t ∷ []) r (more ++ u ∷ s) (append_assoc f (t ∷ []) r ∙ (e ∙ (ap (λ v. v ++ u ∷ s) is ∙ append_assoc (f ++ t ∷ []) more (u ∷ s))))

module _ (text : List ℕ) where
  complete : (ts : List Token) → AreTokens text ts → (tokens text).1 ≡ ending.Complete
  complete ts are = ap (λ (l : Lexing). l.1) (are_tokens text ts are)

  byte_end : (n : ℕ) → IsBadByte text n → (tokens text).1 ≡ ending.Byte n
  byte_end n (IsBadByte.begins_none c h) = bad_end text n c (BadAt.begins_none h)
  byte_end n (IsBadByte.no_escape b rest c q h e) = bad_end text n c (BadAt.no_escape b rest q h e)

  Opened : ℕ → Type 0
  Opened n = ((tokens text).1 ≡ ending.Open n) ⊎ ((ts : List Token) × (o : Token) × AreTokens text ts × IsInnermost ts o [] × (o.span.start ≡ n))

  opened : (n : ℕ) → IsUnclosed text n → Opened n
  unfolding Opened
  opened n (IsUnclosed.string c q h) = inl (open_end text n c (OpenAt.string q h))
  opened n (IsUnclosed.escape c q h) = inl (open_end text n c (OpenAt.escape q h))
  opened n (IsUnclosed.comment c h) = inl (open_end text n c (OpenAt.comment h))
  opened n (IsUnclosed.bracket {ts = ts} {o = o} are i) = inr (ts, o, are, i, refl)

  two_bytes : (n m : ℕ) → (tokens text).1 ≡ ending.Byte n → (tokens text).1 ≡ ending.Byte m → n ≡ m
  two_bytes n m a b = let e : ending.Byte n ≡ ending.Byte m = sym a ∙ b in cc

  byte_open : (n m : ℕ) → (tokens text).1 ≡ ending.Byte n → Opened m → ⊥
  unfolding Opened
  byte_open n m a (inl b) = let e : ending.Byte n ≡ ending.Open m = sym a ∙ b in cc
  byte_open n m a (inr b) = let e : ending.Byte n ≡ ending.Complete = sym a ∙ complete b.0 b.2 in cc

  two_opens : (n m : ℕ) → Opened n → Opened m → n ≡ m
  unfolding Opened
  two_opens n m (inl a) (inl b) = let e : ending.Open n ≡ ending.Open m = sym a ∙ b in cc
  two_opens n m (inl a) (inr b) = let e : ending.Open n ≡ ending.Complete = sym a ∙ complete b.0 b.2 in absurd cc
  two_opens n m (inr a) (inl b) = let e : ending.Open m ≡ ending.Complete = sym b ∙ complete a.0 a.2 in absurd cc
  two_opens n m (inr a) (inr b) =
      let P : List Token → Type 0 = λ v. IsInnermost v b.1 [] in
      let same : a.1 ≡ b.1 = one_innermost a.0 a.1 b.1 a.3 (subst P (one_cutting text b.0 a.0 b.2 a.2) b.3) in
      sym a.4 ∙ (ap (λ (t : Token). t.span.start) same ∙ b.4)

  by_code : (c d : FaultCode) (n m : ℕ) → Unended text c n → Unended text d m → (c ≡ d) × (n ≡ m)
  by_code code.Byte code.Byte n m a b = (refl, two_bytes n m (byte_end n a) (byte_end m b))
  by_code code.Byte code.Unclosed n m a b = absurd (byte_open n m (byte_end n a) (opened m b))
  by_code code.Unclosed code.Byte n m a b = absurd (byte_open m n (byte_end m b) (opened n a))
  by_code code.Unclosed code.Unclosed n m a b = (refl, two_opens n m (opened n a) (opened m b))
  by_code code.Byte code.Unexpected n m a b = absurd b
  by_code code.Byte code.TooDeep n m a b = absurd b
  by_code code.Byte code.TooLarge n m a b = absurd b
  by_code code.Byte code.LeftOut n m a b = absurd b
  by_code code.Byte code.NoMemory n m a b = absurd b
  by_code code.Unclosed code.Unexpected n m a b = absurd b
  by_code code.Unclosed code.TooDeep n m a b = absurd b
  by_code code.Unclosed code.TooLarge n m a b = absurd b
  by_code code.Unclosed code.LeftOut n m a b = absurd b
  by_code code.Unclosed code.NoMemory n m a b = absurd b
  by_code code.Unexpected d n m a b = absurd a
  by_code code.TooDeep d n m a b = absurd a
  by_code code.TooLarge d n m a b = absurd a
  by_code code.LeftOut d n m a b = absurd a
  by_code code.NoMemory d n m a b = absurd a

pub one_unended : (text : List ℕ) (c d : FaultCode) (n m : ℕ) → Unended text c n → Unended text d m → (c ≡ d) × (n ≡ m)
one_unended text c d n m a b = by_code text c d n m a b
