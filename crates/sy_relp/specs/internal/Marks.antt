-- One of those that wait is marked as done.
use Rattle.std.specs.Prelude.{◌≡◌, ℕ, true, false, List, ◌∷◌, ◌++◌}
use Rattle.sy_relp.specs.declared.session.Kind.TheVariants.{Message}
use Rattle.sy_relp.specs.declared.session.Waiting.{Waiting}

-- the message of this number, as it waits and as it is done
abbrev pub undone : ℕ → Waiting
undone txnr = record { txnr = txnr; kind = Message; is_done = false }

abbrev pub done : ℕ → Waiting
done txnr = record { txnr = txnr; kind = Message; is_done = true }

-- one of those that wait is the message of this number, and is done now
abbrev pub MarksOne : List Waiting → ℕ → List Waiting → Type 0
MarksOne old txnr new = (before after : List Waiting) × (old ≡ before ++ undone txnr ∷ after) × (new ≡ before ++ done txnr ∷ after)

-- none of them is
abbrev pub MarksNone : List Waiting → ℕ → Type 0
MarksNone old txnr = (before after : List Waiting) → old ≡ before ++ undone txnr ∷ after → ⊥
