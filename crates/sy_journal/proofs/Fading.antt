-- Finishes that a crash may lose.
use Rattle.std.proofs.Common.{ℕ, zero, suc, List, [], ◌∷◌, refl, sym, ◌∙◌, subst, arith}
use Rattle.sy_journal.specs.Storage.{written_at, Torn, Follows}
use Rattle.sy_journal.specs.Finishes.{Fades, AllSet}
use Rattle.sy_journal.proofs.Torn.{torn_same}

pub fades_same : (set : List ℕ) → Fades set set
fades_same [] = refl
fades_same (s ∷ set) = ((λ none. none), fades_same set)

pub fades_torn : (at : ℕ) (bytes set found c : List ℕ) → AllSet bytes → Fades set found → Torn at bytes found c → Fades (written_at at bytes set) c
fades_torn at bytes [] [] c all fades torn = torn
fades_torn at bytes [] (f ∷ found) c all fades torn = absurd (cc fades)
fades_torn at bytes (s ∷ set) [] c all fades torn = absurd fades
fades_torn at bytes (s ∷ set) (f ∷ found) [] all fades torn = absurd torn
fades_torn zero [] (s ∷ set) (f ∷ found) (x ∷ c) all fades torn = ((λ none. torn.0 ∙ fades.0 none), subst (λ (l : List ℕ). Fades set l) (sym torn.1) fades.1)
fades_torn zero (b ∷ bytes) (s ∷ set) (f ∷ found) (x ∷ c) all fades torn = ((λ none. absurd (omega (arith, none, all.0))), fades_torn zero bytes set found c all.1 fades.1 torn.1)
fades_torn (suc at) bytes (s ∷ set) (f ∷ found) (x ∷ c) all fades torn = ((λ none. torn.0 ∙ fades.0 none), fades_torn at bytes set found c all fades.1 torn.1)

pub fades_written : (at : ℕ) (bytes set c : List ℕ) → AllSet bytes → Fades set c → Fades (written_at at bytes set) c
fades_written at bytes set c all fades = fades_torn at bytes set c c all fades (torn_same at bytes c)

pub finish_crash : (set bytes : List ℕ) (at : ℕ) (old new : List ℕ → Type 0) → AllSet bytes → ((c : List ℕ) → old c → Fades set c) → Follows (Torn at bytes) old new → (c : List ℕ) → new c → Fades (written_at at bytes set) c
finish_crash set bytes at old new all sound follows c left =
    let from = follows c left in
    fades_torn at bytes set from.0 c all (sound from.0 from.1) from.2
