-- What a connection holds after a read, and what it answers at its end.
use Rattle.std.proofs.Common.{◌≡◌, ◌≢◌, ℕ, List, [], ◌++◌, sym, ap, ◌∙◌, subst, append_assoc}
use Rattle.std.specs.Prelude.{Option, Ok, Err, false}
use Rattle.std.specs.Io.KnownBytes.{IsAtEnd, Keeps}
use Rattle.std.proofs.KnownBytes.{Consumes-kept, Consumes-trans}
use Rattle.sy_wire.specs.Frames.{Held, IsOpen, stream}
use Rattle.sy_wire.specs.Steps.{Breaks, Ends, Fills, Refuses}
use Rattle.sy_wire.specs.declared.framer.FrameFault.TheVariants.{Truncated}
use Rattle.sy_runtime.specs.Connections.{Begins, Connects, Counts, Kept, Serves}
use Rattle.sy_runtime.specs.declared.connection_end.Finish.TheVariants as finish
use Rattle.sy_runtime.specs.declared.fault.RunFault.TheVariants as fault

pub ended : (ahead ahead' : Option (List ℕ)) (failed failed' : ℕ) (end : Counts) (kept : Kept) (old new : Held) → Serves ahead ahead' end kept old.left → Ends old new
    → IsAtEnd ahead' → Connects (Ok finish.Ended) end kept new.left ahead ahead' failed failed'
ended ahead ahead' failed failed' end kept old new s over at_end =
    let same : new.left ≡ old.left = ap (λ h. h.left) over.same in
    record { read = s.read; consumed = s.consumed; begins = subst (Begins s.read end kept) (sym same) s.begins; ends = (same ∙ over.none_left, at_end) }

pub truncated : (ahead ahead' : Option (List ℕ)) (failed failed' : ℕ) (end : Counts) (kept : Kept) (old new : Held) → Serves ahead ahead' end kept old.left → old.left ≢ []
    → IsOpen old.left → Breaks old new → IsAtEnd ahead' → Connects (Err (fault.Frame Truncated)) end kept new.left ahead ahead' failed failed'
truncated ahead ahead' failed failed' end kept old new s some is_open breaks at_end =
    let same : new.left ≡ old.left = ap (λ h. h.left) breaks.after in
    subst (λ left. Connects (Err (fault.Frame Truncated)) end kept left ahead ahead' failed failed') (sym same)
    (record { read = s.read; consumed = s.consumed; begins = s.begins; ends = (some, is_open, at_end) })

more : (read piece : List ℕ) (end : Counts) (kept : Kept) (left : List ℕ) → Begins read end kept left → Begins (read ++ piece) end kept (left ++ piece)
more read piece end kept left b = record {
  frames = b.frames;
  unread = b.unread;
  whole = ap (λ x. x ++ piece) b.whole ∙ append_assoc (stream b.frames) left piece;
  count = b.count;
  none = b.none;
  sorted = b.sorted;
  keeps = b.keeps;
}

-- bytes came
pub stepped : (ahead a a' : Option (List ℕ)) (end : Counts) (kept : Kept) (old new : Held) (count : ℕ) → Serves ahead a end kept old.left → Fills old count new a a'
    → Serves ahead a' end kept new.left
stepped ahead a a' end kept old new count s fills = record {
  read = s.read ++ fills.piece;
  consumed = Consumes-trans ahead a a' s.read fills.piece s.consumed fills.reads.consumed;
  begins = subst (λ l. Begins (s.read ++ fills.piece) end kept l) (sym (ap (λ h. h.left) fills.feeds.after)) (more s.read fills.piece end kept old.left s.begins);
}

pub stays_good : (a a' : Option (List ℕ)) (old new : Held) (count : ℕ) → Fills old count new a a' → new.has_failed ≡ false
stays_good a a' old new count fills = ap (λ h. h.has_failed) fills.feeds.after ∙ fills.feeds.good

-- none came, and none will
pub stepped_end : (ahead a a' : Option (List ℕ)) (end : Counts) (kept : Kept) (old new : Held) (count : ℕ) → Serves ahead a end kept old.left → Fills old count new a a'
    → count ≡ 0 → Serves ahead a' end kept new.left × IsAtEnd a'
stepped_end ahead a a' end kept old new count s fills none = (stepped ahead a a' end kept old new count s fills, fills.reads.at_end none)

-- a read that failed
pub stayed : (ahead a a' : Option (List ℕ)) (end : Counts) (kept : Kept) (old new : Held) → Serves ahead a end kept old.left → Refuses old new → Keeps a a'
    → Serves ahead a' end kept new.left
stayed ahead a a' end kept old new s refuses keeps =
    subst (λ h. Serves ahead a' end kept h.left) (sym refuses.same) (record { read = s.read; consumed = Consumes-kept ahead a a' s.read s.consumed keeps; begins = s.begins })

-- no read was made
pub untouched : (ahead a a' : Option (List ℕ)) (end : Counts) (kept : Kept) (old new : Held) → Serves ahead a end kept old.left → new ≡ old → a' ≡ a
    → Serves ahead a' end kept new.left
untouched ahead a a' end kept old new s same source =
    subst (λ x. Serves ahead x end kept new.left) (sym source) (subst (λ h. Serves ahead a end kept h.left) (sym same) s)
