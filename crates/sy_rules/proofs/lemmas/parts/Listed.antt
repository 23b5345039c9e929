-- Lists by their numbers.
use Rattle.std.proofs.Common.{◌≡◌, ℕ, zero, suc, ◌+◌, ◌<◌, List, [], ◌∷◌, Option, length, slice_index_or, slice_get, refl, ap, arith}
use Rattle.sy_rules.specs.lists.Lines.{Lines, body_of}
use Rattle.sy_rules.specs.PlanValue.{listed_from}
use Rattle.sy_rules.specs.Whole.{queue_in, body_in}

pub length-listed_from : (lines : List Lines) (number : ℕ) (queues : List (Option ℕ)) → length (listed_from lines number queues) ≡ length queues
length-listed_from lines number [] = refl
length-listed_from lines number (q ∷ qs) = ap suc (length-listed_from lines (number + 1) qs)

-- the queue of a list is the one at its place
pub queue_listed : (lines : List Lines) (number : ℕ) (queues : List (Option ℕ)) (k : ℕ) (d : Option ℕ) → k < length queues → queue_in (slice_get (listed_from lines number queues) k) ≡ slice_index_or queues k d
queue_listed lines number [] k d h = absurd (omega arith)
queue_listed lines number (q ∷ qs) zero d h = refl
queue_listed lines number (q ∷ qs) (suc k) d h = queue_listed lines (number + 1) qs k d (omega arith)

-- the text of a list is the one of its number
pub body_listed_at : (lines : List Lines) (number : ℕ) (queues : List (Option ℕ)) (k l : ℕ) → k < length queues → l ≡ number + k → body_in (slice_get (listed_from lines number queues) k) ≡ body_of lines l
body_listed_at lines number [] k l h e = absurd (omega (arith, h))
body_listed_at lines number (q ∷ qs) zero l h e =
    let same : l ≡ number = omega (arith, e) in
    rw same refl
body_listed_at lines number (q ∷ qs) (suc k) l h e = body_listed_at lines (number + 1) qs k l (omega (arith, h)) (omega (arith, e))
