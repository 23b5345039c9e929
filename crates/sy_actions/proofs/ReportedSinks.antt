-- What an offer to a line sink does, it does to the sink before its writer by what that tells.
use Rattle.std.proofs.Common.{◌≡◌, ℕ, inl, inr, List, subst}
use Rattle.std.specs.Prelude.{Option, Result, Ok, Err, ⊤}
use Rattle.std.specs.Borrow.{GName}
use Rattle.sy_wire.specs.Messages.{Said}
use Rattle.sy_actions.specs.declared.device.DeviceFault.{DeviceFault}
use Rattle.sy_actions.specs.declared.device.DeviceFault.TheVariants.{Write, Broken, NoMemory, CountFull}
use Rattle.sy_actions.specs.Reported.{Reported, reported, reported_contents, reported_faults}
use Rattle.sy_actions.specs.Lines.{LineState, Offered, OfferedLine, line, with_writer}

module _ {W : Type 0} (contents : W → Option (List ℕ)) (faults : W → ℕ) (lent : W → Option GName) where
  abbrev lines : LineState W → LineState Reported
  lines s = with_writer s (reported contents faults lent s.writer)

  reported_line : (before : LineState W) (text : List ℕ) (answer : Result ⊤ DeviceFault) (after : LineState W) → Offered contents faults before text answer after
      → Offered reported_contents reported_faults (with_writer before (reported contents faults lent before.writer)) text answer (with_writer after (reported contents faults lent after.writer))
  reported_line before text (Ok done) after o =
      record { front = o.front; at = o.at; resumes = o.resumes; wrote = o.wrote; succeeded = o.succeeded; torn = o.torn; out = o.out; refusals = o.refusals }
  reported_line before text (Err Write) after (inl o) =
      inl (record { begun = o.begun; differs = o.differs; kept = o.kept; rose = o.rose; count = o.count; torn = o.torn; out = o.out; refusals = o.refusals })
  reported_line before text (Err Write) after (inr o) =
      inr (record { front = o.front; at = o.at; resumes = o.resumes; more = o.more; left = o.left; wrote = o.wrote; rose = o.rose; count = o.count; torn = o.torn; refusals = o.refusals })
  reported_line before text (Err NoMemory) after o =
      record { front = o.front; resumes = o.resumes; wrote = o.wrote; succeeded = o.succeeded; torn = o.torn; out = o.out; counted = o.counted }
  reported_line before text (Err Broken) after o = absurd o
  reported_line before text (Err CountFull) after o = absurd o

  pub reported_offer : (before : LineState W) (said message : Said) (answer : Result ⊤ DeviceFault) (after : LineState W) → said ≡ message → Offered contents faults before (line said.raw) answer after → lent after.writer ≡ lent before.writer
      → OfferedLine (with_writer before (reported contents faults lent before.writer)) message answer (with_writer after (reported contents faults lent after.writer))
  reported_offer before said message answer after same o kept = (subst (λ (m : Said). Offered reported_contents reported_faults (lines before) (line m.raw) answer (lines after)) same (reported_line before (line said.raw) answer after o), kept)
