-- What an offer to a sink of lines does where no line is torn, and whose receipt it gives.
use Rattle.std.proofs.Common.{◌≡◌, ℕ, ◌+◌, ◌-◌, ◌<◌, ◌≤◌, ◌^◌, inl, inr, List, [], Option, Some, None, take, drop, refl, sym, ap, ◌∙◌, subst, arith}
use Rattle.std.specs.Prelude.{Err, slice_range, ◌⊎◌}
use Rattle.std.specs.Io.KnownBytes.{Appends, Keeps}
use Rattle.std.proofs.lemmas.List.{append-nil, take-append-drop}
use Rattle.sy_wire.specs.Messages.{Said}
use Rattle.sy_actions.specs.Devices.{Delivered, Hatched}
use Rattle.sy_actions.specs.declared.device.DeviceFault.{DeviceFault}
use Rattle.sy_actions.specs.declared.device.DeviceFault.TheVariants.{Write, Broken, NoMemory, CountFull}
use Rattle.sy_actions.specs.Lines.{LineState, Offered, Resumes, Took, Tore}
use Rattle.sy_actions.specs.Lines.Resumes.{again, anew, another}
use Rattle.sy_board.specs.relay.Boards.{BoardState, JobIs}
use Rattle.sy_board.specs.declared.relay.answers.Job.{Job as JobAnswer}
use Rattle.sy_board.specs.declared.relay.answers.Job.TheVariants as job
use Rattle.sy_passing.specs.declared.pass.one_message.CarryFault.{CarryFault}
use Rattle.sy_report.specs.Reports.{Torn}
use Rattle.sy_passing.specs.Stops.{CarryCause, CarryFails, IsReady}
use Rattle.sy_passing.specs.internal.Ways.{IsCarryFault, IsReceiptOf}
use Rattle.sy_passing.specs.Ways.{IsWhole}
use Rattle.sy_passing.proofs.Ready.{IsRunOf, runs}

-- ---- the line

-- A text begins at its first byte, with nothing before it.
from_start : (torn : List ℕ) (out : ℕ) (text front : List ℕ) (at : ℕ) → out ≡ 0 → Resumes torn out text front at → (front ≡ []) × (at ≡ 0)
from_start torn out text _ _ none (anew is) = (refl, is)
from_start torn out text _ _ none (again some same) = absurd (omega (arith, none, some))
from_start torn out text _ _ none (another some differs) = absurd (omega (arith, none, some))

kept_of : (a b : Option (List ℕ)) → Appends a b [] → Keeps a b
kept_of None b h = tt
kept_of (Some xs) None h = h
kept_of (Some xs) (Some ys) h = h ∙ append-nil xs

from_first : (text : List ℕ) (n : ℕ) → slice_range text 0 n ≡ take n text
from_first text n = let all : n - 0 ≡ n = omega arith in ap (λ k. take k text) all

module _ {W : Type 0} (contents : W → Option (List ℕ)) (faults : W → ℕ) (before : LineState W) (text : List ℕ) (after : LineState W) (none : before.out ≡ 0) where
  pub line_out : Took contents faults before text after → Appends (contents before.writer) (contents after.writer) text
  line_out t =
      let at = from_start _ _ _ _ _ none t.resumes in
      rw (at.0, at.1) at t.wrote

  line_torn : Tore contents faults before text after → Torn (contents before.writer) (contents after.writer) text
  line_torn t =
      let at = from_start _ _ _ _ _ none t.resumes in
      record {
        part = take after.out text;
        tail = drop after.out text;
        wrote = subst (Appends (contents before.writer) (contents after.writer)) (from_first text after.out) (rw (at.0, at.1) at t.wrote);
        front = sym (take-append-drop after.out text);
      }

  -- why a pass stops there, with what was written and what failed
  pub line_fails : (fault : DeviceFault) (e : CarryFault) → Offered contents faults before text (Err fault) after → IsCarryFault fault e
      → CarryFails e (contents before.writer) (contents after.writer) text × CarryCause e (faults before.writer) (faults after.writer) × (faults before.writer ≤ faults after.writer)
  line_fails Write e (inl n) is = absurd (let some = n.begun in omega (arith, none, some))
  line_fails Write e (inr t) is = rw is (line_torn t, t.rose, t.count)
  line_fails NoMemory e t is =
      let at = from_start _ _ _ _ _ none t.resumes in
      rw is (kept_of _ _ (rw at.0 at t.wrote), t.succeeded, omega (arith, t.succeeded))
  line_fails Broken e h is = absurd h
  line_fails CountFull e h is = absurd h

-- what a failure says of the offer that it comes from, where receipts can be counted
pub failure_says : {W : Type 0} (contents : W → Option (List ℕ)) (faults : W → ℕ) (before : LineState W) (text : List ℕ) (after : LineState W) (P Q R S : Type 0) (fault : DeviceFault) (made : ℕ)
    → made + 1 < 2 ^ 64 → (P × Q × (Offered contents faults before text (Err fault) after × R)) ⊎ ((fault ≡ CountFull) × (made + 1 ≡ 2 ^ 64) × S) → Offered contents faults before text (Err fault) after × R
failure_says contents faults before text after P Q R S fault made room (inl h) = h.2
failure_says contents faults before text after P Q R S fault made room (inr h) = absurd (let full = h.1 in omega (arith, room, full))

-- ---- the receipt

one_message : (m m' : Said) (a : JobAnswer) → IsRunOf m a → IsRunOf m' a → m ≡ m'
one_message m m' (job.Run action message tag) h k = sym h ∙ k
one_message m m' (job.Post list input message tag) h k = absurd h

-- the message that the job lends is the one that the worker has
pub lent : (b : BoardState) (raw : List ℕ) (a : JobAnswer) (m : Said) (r : IsReady b raw) → JobIs a b 0 → IsRunOf m a → m ≡ r.message
lent b raw a m r h is = one_message m r.message a is (runs r.before r.message a (subst (λ (x : BoardState). JobIs a x 0) r.board h))

pub receipt_of : (b : BoardState) (raw : List ℕ) (a : JobAnswer) (number : ℕ) (m : Said) (rc : Delivered) → IsReady b raw → JobIs a b 0 → IsRunOf m a → number ≡ 0
    → rc ≡ record { device = number; message = m } → IsReceiptOf b rc
receipt_of b raw a number m rc r h is nought rc_is = record {
  before = r.before;
  message = r.message;
  board_is = r.board;
  receipt_is = rc_is ∙ ap (λ n. record { device = n; message = m }) nought ∙ ap (λ (x : Said). record { device = 0; message = x }) (lent b raw a m r h is);
}

pub text_of : (b : BoardState) (raw : List ℕ) (a : JobAnswer) (m : Said) → IsReady b raw → JobIs a b 0 → IsRunOf m a → m.raw ≡ raw
text_of b raw a m r h is = ap (λ (x : Said). x.raw) (lent b raw a m r h is) ∙ r.text

-- ---- the hatch

pub whole_of : {W : Type 0} (h : Hatched (LineState W)) (n : ℕ) → IsWhole h n → IsWhole h h.made
whole_of h n w = record { number = w.number; made_is = refl; torn = w.torn; out = w.out }

pub whole_at : {W : Type 0} (h : Hatched (LineState W)) (n m : ℕ) → n ≡ m → IsWhole h n → IsWhole h m
whole_at h n m same w = record { number = w.number; made_is = w.made_is ∙ same; torn = w.torn; out = w.out }

pub whole_of_new : {W : Type 0} (h : Hatched (LineState W)) (w : W) → h ≡ record { number = 0; made = 0; device = record { writer = w; torn = []; out = 0; refusals = 0 } } → IsWhole h 0
whole_of_new h w is = record {
  number = ap (λ (x : Hatched _). x.number) is;
  made_is = ap (λ (x : Hatched _). x.made) is;
  torn = ap (λ (x : Hatched _). x.device.torn) is;
  out = ap (λ (x : Hatched _). x.device.out) is;
}
