-- What a write leaves, whole or torn.
use Rattle.std.proofs.Common.{◌≡◌, ◌⊎◌, inl, inr, ℕ, zero, suc, ◌+◌, ◌≤◌, List, [], ◌∷◌, ◌++◌, length, take, drop, refl, sym, ◌∙◌, ap, arith}
use Rattle.sy_journal.specs.Storage.{written_at, Torn}
use Rattle.sy_journal.specs.Frames.{blank}

written_front : (bytes old : List ℕ) → length bytes ≤ length old → written_at zero bytes old ≡ bytes ++ drop (length bytes) old
written_front [] [] le = refl
written_front (b ∷ bytes) [] le = absurd (omega arith)
written_front [] (o ∷ old) le = refl
written_front (b ∷ bytes) (o ∷ old) le = ap (λ (l : List ℕ). b ∷ l) (written_front bytes old (omega (arith, le)))

pub written_is : (at : ℕ) (bytes old : List ℕ) (end : ℕ) → end ≡ at + length bytes → end ≤ length old → written_at at bytes old ≡ take at old ++ bytes ++ drop end old
written_is zero bytes old end is le =
    let same : end ≡ length bytes = omega (arith, is) in
    written_front bytes old (omega (arith, is, le)) ∙ ap (λ (n : ℕ). bytes ++ drop n old) (sym same)
written_is (suc at) bytes [] end is le = absurd (omega (arith, is, le))
written_is (suc at) bytes (o ∷ old) zero is le = absurd (omega (arith, is))
written_is (suc at) bytes (o ∷ old) (suc end) is le = ap (λ (l : List ℕ). o ∷ l) (written_is at bytes old end (omega (arith, is)) (omega (arith, le)))

pub torn_written : (at : ℕ) (bytes old : List ℕ) → Torn at bytes old (written_at at bytes old)
torn_written at bytes [] = refl
torn_written zero [] (o ∷ old) = (refl, refl)
torn_written zero (b ∷ bytes) (o ∷ old) = (inr refl, torn_written zero bytes old)
torn_written (suc at) bytes (o ∷ old) = (refl, torn_written at bytes old)

pub length-written_at : (at : ℕ) (bytes old : List ℕ) → length (written_at at bytes old) ≡ length old
length-written_at at bytes [] = refl
length-written_at zero [] (o ∷ old) = refl
length-written_at zero (b ∷ bytes) (o ∷ old) = omega (arith, length-written_at zero bytes old)
length-written_at (suc at) bytes (o ∷ old) = omega (arith, length-written_at at bytes old)

-- each byte is a zero or the written one
abbrev pub Faded : List ℕ → List ℕ → Type 0
Faded [] bytes = bytes ≡ []
Faded (w ∷ written) [] = ⊥
Faded (w ∷ written) (m ∷ bytes) = ((m ≡ 0) ⊎ (m ≡ w)) × Faded written bytes

-- what a torn write over zeros leaves
pub record Shape (written : List ℕ) (j : ℕ) (file : List ℕ) : Type 0 where
  pub bytes : List ℕ
  pub faded : Faded written bytes
  pub is : file ≡ bytes ++ blank j

torn_front : (written : List ℕ) (k j : ℕ) (c : List ℕ) → k ≡ length written + j → Torn zero written (blank k) c → Shape written j c
torn_front [] zero zero c is torn = record { bytes = []; faded = refl; is = torn }
torn_front [] zero (suc j) c is torn = absurd (omega (arith, is))
torn_front [] (suc k) j [] is torn = absurd torn
torn_front [] (suc k) j (x ∷ c) is torn =
    let same : suc k ≡ j = omega (arith, is) in
    record { bytes = []; faded = refl; is = (λ i. torn.0 i ∷ torn.1 i) ∙ ap blank same }
torn_front (w ∷ written) zero j c is torn = absurd (omega (arith, is))
torn_front (w ∷ written) (suc k) j [] is torn = absurd torn
torn_front (w ∷ written) (suc k) j (x ∷ c) is torn =
    let rest = torn_front written k j c (omega (arith, is)) torn.1 in
    record { bytes = x ∷ rest.bytes; faded = (torn.0, rest.faded); is = ap (λ (l : List ℕ). x ∷ l) rest.is }

pub record Behind (used written : List ℕ) (j : ℕ) (file : List ℕ) : Type 0 where
  pub bytes : List ℕ
  pub faded : Faded written bytes
  pub is : file ≡ used ++ bytes ++ blank j

pub torn_behind : (used written : List ℕ) (k j : ℕ) (c : List ℕ) → k ≡ length written + j → Torn (length used) written (used ++ blank k) c → Behind used written j c
torn_behind [] written k j c is torn = let s = torn_front written k j c is torn in record { bytes = s.bytes; faded = s.faded; is = s.is }
torn_behind (u ∷ used) written k j [] is torn = absurd torn
torn_behind (u ∷ used) written k j (x ∷ c) is torn =
    let s = torn_behind used written k j c is torn.1 in
    record { bytes = s.bytes; faded = s.faded; is = (λ i. torn.0 i ∷ s.is i) }

written_over : (written : List ℕ) (k j : ℕ) → k ≡ length written + j → written_at zero written (blank k) ≡ written ++ blank j
written_over [] zero zero is = refl
written_over [] zero (suc j) is = absurd (omega (arith, is))
written_over [] (suc k) j is = let same : suc k ≡ j = omega (arith, is) in ap blank same
written_over (w ∷ written) zero j is = absurd (omega (arith, is))
written_over (w ∷ written) (suc k) j is = ap (λ (l : List ℕ). w ∷ l) (written_over written k j (omega (arith, is)))

pub written_behind : (used written : List ℕ) (k j : ℕ) → k ≡ length written + j → written_at (length used) written (used ++ blank k) ≡ used ++ written ++ blank j
written_behind [] written k j is = written_over written k j is
written_behind (u ∷ used) written k j is = ap (λ (l : List ℕ). u ∷ l) (written_behind used written k j is)

pub length-blank : (n : ℕ) → length (blank n) ≡ n
length-blank zero = refl
length-blank (suc n) = omega (arith, length-blank n)

pub torn_same : (at : ℕ) (bytes old : List ℕ) → Torn at bytes old old
torn_same at bytes [] = refl
torn_same zero [] (o ∷ old) = (refl, refl)
torn_same zero (b ∷ bytes) (o ∷ old) = (inl refl, torn_same zero bytes old)
torn_same (suc at) bytes (o ∷ old) = (refl, torn_same at bytes old)
