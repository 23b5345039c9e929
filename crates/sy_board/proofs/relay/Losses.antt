-- Entries lost to a worker.
use Rattle.std.proofs.Common.{◌≡◌, ℕ, ◌≤◌, Bool, true, false, List, [], ◌∷◌, length, map, sym, ◌∙◌, arith, refl, true≢false}
use Rattle.sy_chain.specs.Entries.{Entry}
use Rattle.sy_marks.specs.declared.marks.Marks.{Marks}
use Rattle.sy_marks.specs.Marks.{is_reached, lost_of}
use Rattle.sy_marks.proofs.Fronts.{reached_before}
use Rattle.sy_board.specs.relay.Steps.{Cause, Out}

abbrev pub losses_of : List Entry → List Out
losses_of es = map (Out.Lost Cause.Grab) es

-- ---- where the discard mark isn't reached

not_before : (mark k n : ℕ) → k ≤ n → is_reached mark n ≡ false → is_reached mark k ≡ false
not_before mark k n l h = go (is_reached mark k) refl
  where
    go : (b : Bool) → is_reached mark k ≡ b → b ≡ false
    go false e = refl
    go true e = absurd (true≢false (sym (reached_before mark k n l e) ∙ h))

pub none_lost : (marks : Marks) (n : ℕ) (es : List Entry) → is_reached marks.discard_mark (length es) ≡ false → lost_of marks n es ≡ []
none_lost marks ℕ.zero es h = refl
none_lost marks (ℕ.suc n) [] h = refl
none_lost marks (ℕ.suc n) (e ∷ es) h =
    let less : is_reached marks.discard_mark (length es) ≡ false = not_before marks.discard_mark (length es) (ℕ.suc (length es)) (omega arith) h in
    rw less (none_lost marks n es less)
