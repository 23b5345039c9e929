-- A part changed at one place.
use Rattle.std.proofs.Common.{◌≡◌, ℕ, ◌<◌, Bool, true, false, if◌then◌else◌, List, [], ◌∷◌, length, refl, subst, ap, arith, get_or, set, ◌∙◌}
use Rattle.std.specs.Prelude.{◌≢◌}
use Rattle.sy_chain.specs.Entries.{Entry}
use Rattle.sy_board.specs.relay.Cells.{Cell, RelayState, at, set_cell, set_failures}

pub set_elim : {A : Type 0} (P : A → Type 0) (xs : List A) (k j : ℕ) (v d : A) → (k ≡ j → P v) → P (get_or xs j d) → P (get_or (set xs k v) j d)
set_elim P [] k j v d f p = p
set_elim P (x ∷ xs) ℕ.zero ℕ.zero v d f p = f refl
set_elim P (x ∷ xs) ℕ.zero (ℕ.suc j) v d f p = p
set_elim P (x ∷ xs) (ℕ.suc k) ℕ.zero v d f p = p
set_elim P (x ∷ xs) (ℕ.suc k) (ℕ.suc j) v d f p = set_elim P xs k j v d (λ e. f (ap ℕ.suc e)) p

pub set_same : {A : Type 0} (xs : List A) (k : ℕ) (v d : A) → k < length xs → get_or (set xs k v) k d ≡ v
set_same [] k v d l = absurd (omega arith)
set_same (x ∷ xs) ℕ.zero v d l = refl
set_same (x ∷ xs) (ℕ.suc k) v d l = let m : k < length xs = omega arith in set_same xs k v d m

pub set_other : {A : Type 0} (xs : List A) (k j : ℕ) (v d : A) → k ≢ j → get_or (set xs k v) j d ≡ get_or xs j d
set_other xs k j v d n = set_elim (λ x. x ≡ get_or xs j d) xs k j v d (λ e. absurd (n e)) refl

pub set_length : {A : Type 0} (xs : List A) (k : ℕ) (v : A) → length (set xs k v) ≡ length xs
set_length [] k v = refl
set_length (x ∷ xs) ℕ.zero v = refl
set_length (x ∷ xs) (ℕ.suc k) v = ap ℕ.suc (set_length xs k v)

-- the place is there
abbrev pub Has : RelayState → Cell → Type 0
Has part (Cell.Hand k) = k < length part.hands
Has part (Cell.Queue k) = k < length part.queues
Has part (Cell.Worker k) = k < length part.workers

-- the same places
pub record SameSizes (a b : RelayState) : Type 0 where
  pub hands : length a.hands ≡ length b.hands
  pub queues : length a.queues ≡ length b.queues
  pub workers : length a.workers ≡ length b.workers
  pub failures : length a.failures ≡ length b.failures

pub at_set : (part : RelayState) (c : Cell) (entries : List Entry) → Has part c → at (set_cell part c entries) c ≡ entries
at_set part (Cell.Hand k) entries l = set_same part.hands k entries [] l
at_set part (Cell.Queue k) entries l = set_same part.queues k entries [] l
at_set part (Cell.Worker k) entries l = set_same part.workers k entries [] l

-- what holds there of the new entries, and held everywhere before, holds everywhere
pub set_cell_elim : (P : Cell → List Entry → Type 0) (part : RelayState) (c : Cell) (es : List Entry) → P c es → ((d : Cell) → P d (at part d))
    → (d : Cell) → P d (at (set_cell part c es) d)
set_cell_elim P part (Cell.Hand k) es p all (Cell.Hand j) =
    set_elim (P (Cell.Hand j)) part.hands k j es [] (λ e. subst (λ z. P (Cell.Hand z) es) e p) (all (Cell.Hand j))
set_cell_elim P part (Cell.Queue k) es p all (Cell.Queue j) =
    set_elim (P (Cell.Queue j)) part.queues k j es [] (λ e. subst (λ z. P (Cell.Queue z) es) e p) (all (Cell.Queue j))
set_cell_elim P part (Cell.Worker k) es p all (Cell.Worker j) =
    set_elim (P (Cell.Worker j)) part.workers k j es [] (λ e. subst (λ z. P (Cell.Worker z) es) e p) (all (Cell.Worker j))
set_cell_elim P part (Cell.Hand k) es p all (Cell.Queue j) = all (Cell.Queue j)
set_cell_elim P part (Cell.Hand k) es p all (Cell.Worker j) = all (Cell.Worker j)
set_cell_elim P part (Cell.Queue k) es p all (Cell.Hand j) = all (Cell.Hand j)
set_cell_elim P part (Cell.Queue k) es p all (Cell.Worker j) = all (Cell.Worker j)
set_cell_elim P part (Cell.Worker k) es p all (Cell.Hand j) = all (Cell.Hand j)
set_cell_elim P part (Cell.Worker k) es p all (Cell.Queue j) = all (Cell.Queue j)

pub at_set_other : (part : RelayState) (c d : Cell) (es : List Entry) → c ≢ d → at (set_cell part c es) d ≡ at part d
at_set_other part c d es n = set_cell_elim (λ x old. (c ≢ x) → old ≡ at part x) part c es (λ no. absurd (no refl)) (λ x no. refl) d n

pub set_sizes : (part : RelayState) (c : Cell) (es : List Entry) → SameSizes (set_cell part c es) part
set_sizes part (Cell.Hand k) es = record { hands = set_length part.hands k es; queues = refl; workers = refl; failures = refl }
set_sizes part (Cell.Queue k) es = record { hands = refl; queues = set_length part.queues k es; workers = refl; failures = refl }
set_sizes part (Cell.Worker k) es = record { hands = refl; queues = refl; workers = set_length part.workers k es; failures = refl }

pub set_failures_sizes : (part : RelayState) (worker count : ℕ) → SameSizes (set_failures part worker count) part
set_failures_sizes part worker count = record { hands = refl; queues = refl; workers = refl; failures = set_length part.failures worker count }

pub same_sizes : (part : RelayState) → SameSizes part part
same_sizes part = record { hands = refl; queues = refl; workers = refl; failures = refl }

pub both_sizes : (a b c : RelayState) → SameSizes a b → SameSizes b c → SameSizes a c
both_sizes a b c x y = record { hands = x.hands ∙ y.hands; queues = x.queues ∙ y.queues; workers = x.workers ∙ y.workers; failures = x.failures ∙ y.failures }

pub if_elim : {A : Type 0} (P : A → Type 0) (b : Bool) (x y : A) → (b ≡ true → P x) → (b ≡ false → P y) → P (if b then x else y)
if_elim P true x y f g = f refl
if_elim P false x y f g = g refl
