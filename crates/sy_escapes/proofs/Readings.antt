-- How a line is read, a byte after the other.
use Rattle.std.proofs.Common.{◌≡◌, ℕ, List, [], ◌∷◌, ◌++◌, sym, ap, ◌∙◌}
use Rattle.std.proofs.lemmas.List.{append-nil, append_assoc}
use Rattle.std.specs.Prelude.{None}
use Rattle.sy_escapes.specs.Escapes.{escaped}
use Rattle.sy_escapes.specs.internal.Firsts.{first_of, found}
use Rattle.sy_escapes.specs.internal.Readings.{Reads}
use Rattle.sy_escapes.proofs.Exact.{escaped_nil, next_is, none_is, read_is}

pub reads_all : (line bytes : List ℕ) → bytes ≡ [] → Reads line bytes line
reads_all line bytes none = record {
  whole = λ later is. ap (λ b. escaped (b ++ later)) none ∙ is;
  only = λ all is. (all, ap (λ b. b ++ all) (sym none), is);
}

pub reads_more : (line bytes more rest after : List ℕ) (n : ℕ) → more ≡ bytes ++ n ∷ [] → Reads line bytes rest → first_of rest ≡ found n after → Reads line more after
reads_more line bytes more rest after n pushed reads first = record {
  whole = λ later is.
      ap (λ b. escaped (b ++ later)) pushed ∙ ap escaped (append_assoc bytes (n ∷ []) later)
      ∙ reads.whole (n ∷ later) (read_is later rest after n first is);
  only = λ all is. onward all (reads.only all is);
}
  where
    onward : (all : List ℕ) → (later : List ℕ) × (all ≡ bytes ++ later) × (escaped later ≡ rest) → (later : List ℕ) × (all ≡ more ++ later) × (escaped later ≡ after)
    onward all ([], whole, is) = absurd (nothing (sym (ap first_of (sym is ∙ escaped_nil)) ∙ first))
      where
        nothing : None ≡ found n after → ⊥
        nothing q = cc
    onward all (x ∷ xs, whole, is) =
        let both = next_is x xs rest after n is first in
        (xs, whole ∙ ap (λ k. bytes ++ k ∷ xs) both.0 ∙ sym (append_assoc bytes (n ∷ []) xs) ∙ ap (λ b. b ++ xs) (sym pushed), both.1)

pub nothing_reads : (line bytes rest : List ℕ) → Reads line bytes rest → first_of rest ≡ None → (rest ≡ [] → ⊥) → (all : List ℕ) → escaped all ≡ line → ⊥
nothing_reads line bytes rest reads none some all is = by (reads.only all is)
  where
    by : (later : List ℕ) × (all ≡ bytes ++ later) × (escaped later ≡ rest) → ⊥
    by ([], whole, is) = some (sym is ∙ escaped_nil)
    by (x ∷ xs, whole, is) = none_is x xs rest is none

pub no_more : (line bytes rest : List ℕ) → Reads line bytes rest → rest ≡ [] → escaped bytes ≡ line
no_more line bytes rest reads none = ap escaped (sym (append-nil bytes)) ∙ reads.whole [] (escaped_nil ∙ sym none)
