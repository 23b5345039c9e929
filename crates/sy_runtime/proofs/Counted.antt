-- What all connections counted, where the board made a step.
use Rattle.std.proofs.Common.{◌≡◌, ℕ, ◌+◌, inl, inr, refl, ap, ◌∙◌, subst, arith}
use Rattle.std.specs.Prelude.{Option, Some, None, true}
use Rattle.sy_actions.specs.Devices.{DeliveredAll, Refused}
use Rattle.sy_board.specs.relay.Boards.{BoardState}
use Rattle.sy_runtime.specs.Connections.{Counts, all_unread, counted_both}
use Rattle.sy_runtime.specs.internal.Counted.{IsCounted, RoseAlike}
use Rattle.sy_runtime.specs.internal.Recording.{FailureIs, RecordIs, Settled}
use Rattle.sy_runtime.specs.declared.worker.recording.After.{After}
use Rattle.sy_runtime.specs.declared.worker.recording.After.TheVariants.{GoesOn, Pauses, Ends}

same : (old new : BoardState) → new ≡ old → new.totals.taken ≡ old.totals.taken
same old new is = ap (λ (b : BoardState). b.totals.taken) is

-- ---- what a worker records takes no message

settled_takes_none : (worker : ℕ) (old new : BoardState) (receipts left : DeliveredAll) → Settled worker old receipts new left
    → new.totals.taken ≡ old.totals.taken
settled_takes_none worker _ _ _ _ (Settled.none {board} {receipts}) = refl
settled_takes_none worker _ _ _ _ (Settled.more {old} {between} {new} {receipts} {left} {later} first (receipt, its, (of, settles, is))) =
    ap (λ (b : BoardState). b.totals.taken) is ∙ settled_takes_none worker old between receipts left first

failure_takes_none : (after : After) (old : BoardState) (worker : ℕ) (failure : Option Refused) (new : BoardState) → FailureIs after old worker failure new
    → new.totals.taken ≡ old.totals.taken
failure_takes_none GoesOn old worker None new is = same old new is
failure_takes_none GoesOn old worker (Some failure) new (of, gives, is) = ap (λ (b : BoardState). b.totals.taken) (is true)
failure_takes_none (Pauses time) old worker None new is = absurd is
failure_takes_none (Pauses time) old worker (Some failure) new ((of, fails, is), pause) = ap (λ (b : BoardState). b.totals.taken) (is true)
failure_takes_none Ends old worker None new is = absurd is
failure_takes_none Ends old worker (Some failure) new (is, why, fails) = same old new is

pub record_takes_none : (after : After) (old : BoardState) (worker : ℕ) (receipts : DeliveredAll) (failure : Option Refused) (new : BoardState)
    → RecordIs after old worker receipts failure new → new.totals.taken ≡ old.totals.taken
record_takes_none after old worker receipts failure new (inl (ends, is, none)) = same old new is
record_takes_none after old worker receipts failure new (inr (inl (ends, fault, (left, settled, refused)))) =
    settled_takes_none worker old new receipts left settled
record_takes_none after old worker receipts failure new (inr (inr (between, (left, settled, all), failed))) =
    failure_takes_none after between worker failure new failed ∙ settled_takes_none worker old between receipts left settled

-- ---- what is counted then

-- the board took nothing, and nothing was counted
pub still_counted : (board : Option BoardState) (old new : BoardState) (counts : Counts) → board ≡ Some old → IsCounted board counts
    → new.totals.taken ≡ old.totals.taken → IsCounted (Some new) counts
still_counted board old new counts there is takes_none =
    let counted : IsCounted (Some old) counts = subst (λ b. IsCounted b counts) there is in
    record { frames = counted.frames; taken = takes_none ∙ counted.taken }

-- a message was counted of both
pub took_alike : (counts counts' end end' : Counts) → counts' ≡ record counts { frames = counts.frames + 1; took = counts.took + 1 }
    → end' ≡ record end { frames = end.frames + 1; took = end.took + 1 } → RoseAlike counts counts' end end'
took_alike counts counts' end end' is more =
    let frames = ap (λ (c : Counts). c.frames) is in
    let unread = ap (λ (c : Counts). c.unread) is in
    let took = ap (λ (c : Counts). c.took) is in
    let end_frames = ap (λ (c : Counts). c.frames) more in
    let end_unread = ap (λ (c : Counts). c.unread) more in
    let end_took = ap (λ (c : Counts). c.took) more in
    record {
      frames = omega (arith, frames, end_frames);
      unread = omega (arith, unread, end_unread);
      took = omega (arith, took, end_took);
      once = omega (arith, frames, unread, took);
    }

-- a frame without a message was counted of both
pub unread_alike : (counts counts' end end' : Counts) → counts' ≡ counted_both counts (all_unread 1)
    → end' ≡ record end { frames = end.frames + 1; unread = end.unread + 1 } → RoseAlike counts counts' end end'
unread_alike counts counts' end end' is more =
    let frames = ap (λ (c : Counts). c.frames) is in
    let unread = ap (λ (c : Counts). c.unread) is in
    let took = ap (λ (c : Counts). c.took) is in
    let end_frames = ap (λ (c : Counts). c.frames) more in
    let end_unread = ap (λ (c : Counts). c.unread) more in
    let end_took = ap (λ (c : Counts). c.took) more in
    record {
      frames = omega (arith, frames, end_frames);
      unread = omega (arith, unread, end_unread);
      took = omega (arith, took, end_took);
      once = omega (arith, frames, unread, took);
    }

-- nothing was counted
pub none_alike : (counts end : Counts) → RoseAlike counts counts end end
none_alike counts end = record { frames = refl; unread = refl; took = refl; once = refl }

-- one after the other
pub both_alike : (counts between counts' end middle end' : Counts) → RoseAlike counts between end middle → RoseAlike between counts' middle end'
    → RoseAlike counts counts' end end'
both_alike counts between counts' end middle end' first second = record {
  frames = omega (arith, first.frames, second.frames);
  unread = omega (arith, first.unread, second.unread);
  took = omega (arith, first.took, second.took);
  once = omega (arith, first.once, second.once);
}
