-- How the word of a fault is shown.
use Rattle.std.proofs.Common.{◌≡◌, ℕ, Bool, true, false, List, [], ◌∷◌, ◌++◌, Some, None, cond, codes, refl, ap}
use Rattle.std.specs.Str.{IsUtf8, is_utf8}
use Rattle.sy_select.specs.Faults.{with_word}
use Rattle.std.proofs.lemmas.Str.{IsUtf8-from_is_utf8}

pub no_text : (bytes : List ℕ) → (IsUtf8 bytes → ⊥) → is_utf8 bytes ≡ false
no_text bytes none = by_test (is_utf8 bytes) refl where
  by_test : (b : Bool) → is_utf8 bytes ≡ b → b ≡ false
  by_test true e = absurd (none (IsUtf8-from_is_utf8 bytes e))
  by_test false e = refl

pub word_of_bytes : (text word : List ℕ) → (word ≡ [] → ⊥) → is_utf8 word ≡ false → with_word text word ≡ None
word_of_bytes text [] some is = absurd (some refl)
word_of_bytes text (b ∷ word) some is = ap (λ t. cond t (Some (text ++ (codes ": " ++ b ∷ word))) None) is
