-- Which exit statuses a replay may end with.
use Rattle.std.proofs.Common.{◌≡◌, ℕ, List, inl, inr, refl, sym, subst, ◌∙◌, arith}
use Rattle.std.specs.Prelude.{◌⊎◌, Bool, Option, true}
use Rattle.std.specs.Io.KnownBytes.{Keeps}
use Rattle.std.proofs.KnownBytes.{Keeps-refl}
use Rattle.sy_wire.specs.Streams.{Rose}
use Rattle.sy_report.specs.HaltTexts.{halt_report}
use Rattle.sy_commands.specs.Outcomes.{MayEnd}
use Rattle.sy_report.specs.Outcomes.{Prints}
use Rattle.sy_commands.specs.Replays.{Ending, EndsReplay, IsReportedEnding, ReplayIs}
use Rattle.sy_report.specs.Reports.{SinkState, Streams, HasReported}
use Rattle.sy_report.specs.internal.Reports.{streams}
use Rattle.sy_commands.specs.SiteFiles.{HasNoAnswer}
use Rattle.sy_report.specs.declared.outcome.halt.Halt.{Halt}
use Rattle.sy_report.specs.declared.outcome.halt.Halt.TheVariants as halts
use Rattle.sy_commands.specs.internal.Halts.{Halted, HandedOn, IsCause, Replayed}
use Rattle.sy_report.specs.Halts.{status_at}
use Rattle.sy_commands.specs.internal.Optioned.{in_memory}
use Rattle.sy_commands.specs.Optioned.{HaltEnds}
use Rattle.sy_commands.proofs.Courses.{halted, halted_failing, replayed, rises_on}
use Rattle.sy_commands.proofs.Ends.{failed, halt_fails, halted_by, no_memory, nothing, still}

-- ---- what is told otherwise

module _ (P Q : List ℕ → Type 0) (on : (line : List ℕ) → P line → Q line) where
  reported_on : (ending : Ending) → IsReportedEnding P ending → IsReportedEnding Q ending
  reported_on Ending.Done h = tt
  reported_on (Ending.Faulty n) h = on _ h
  reported_on (Ending.Illegal n) h = on _ h
  reported_on (Ending.Full n) h = on _ h
  reported_on Ending.NoMemory h = on _ h
  reported_on Ending.ReadFailed h = on _ h
  reported_on Ending.WriteFailed h = on _ h

  pub no_answer_reporting : (bytes_of : List ℕ → Option (List ℕ)) (text : List ℕ) (status : ℕ) → HasNoAnswer bytes_of text status P
      → HasNoAnswer bytes_of text status Q
  no_answer_reporting bytes_of text status (inl fault) = inl (fault.0, fault.1, fault.2, on _ fault.3)
  no_answer_reporting bytes_of text status (inr (inl memory)) = inr (inl (memory.0, on _ memory.1))
  no_answer_reporting bytes_of text status (inr (inr unread)) = inr (inr (unread.0, on _ unread.1))

ends_reporting : (bytes_of : List ℕ → Option (List ℕ)) (text events : List ℕ) (status : ℕ) (old new : SinkState) (P Q : List ℕ → Type 0)
    → ((line : List ℕ) → P line → Q line) → EndsReplay bytes_of text events status old new P → EndsReplay bytes_of text events status old new Q
ends_reporting bytes_of text events status old new P Q on (inl (kept, inl none)) =
    inl (kept, inl (no_answer_reporting P Q on bytes_of text status none.0, none.1, none.2))
ends_reporting bytes_of text events status old new P Q on (inl (kept, inr (inl memory))) = inl (kept, inr (inl (memory.0, memory.1, on _ memory.2)))
ends_reporting bytes_of text events status old new P Q on (inl (kept, inr (inr torn))) = inl (kept, inr (inr (torn.0, torn.1, on _ torn.2)))
ends_reporting bytes_of text events status old new P Q on (inr (site, is, done)) = inr (
  site,
  is,
  record {
    out = done.out;
    ending = done.ending;
    replays = done.replays;
    wrote = done.wrote;
    status_is = done.status_is;
    left = done.left;
    reported = reported_on P Q on done.ending done.reported;
  },
)

-- ---- how a replay ends

module _ (bytes_of : List ℕ → Option (List ℕ)) (text events : List ℕ) (old new : SinkState) where
  reported : (line : List ℕ) → HasReported (streams old nothing) (streams new nothing) line
  reported line = inl (tt, refl, refl)

  ended : (status : ℕ) → EndsReplay bytes_of text events status old new (HasReported (streams old nothing) (streams new nothing))
      → MayEnd (ReplayIs bytes_of text events) status
  ended status ends = record { old = streams old nothing; new = streams new nothing; is = ends }

  pub may_finish : Replayed bytes_of text events old.contents old.faults new.contents new.faults → new.is_flushed ≡ true
      → MayEnd (ReplayIs bytes_of text events) 0
  may_finish done flushed = ended 0 (replayed bytes_of text events old new (HasReported (streams old nothing) (streams new nothing)) done flushed)

  -- It stopped, and what was printed was handed on, or that failed.
  pub handed_on : (why end : Halt) (mid : SinkState) → Halted bytes_of text events why old.contents old.faults mid.contents mid.faults
      → IsCause why old.faults mid.faults → (why ≡ halts.WriteFailed → new.faults ≡ mid.faults) → Keeps mid.contents new.contents
      → ((end ≡ why) × (new.is_flushed ≡ true) × (new.faults ≡ mid.faults))
      ⊎ ((end ≡ halts.WriteFailed) × ((why ≡ halts.WriteFailed) ⊎ Rose mid.faults new.faults))
      → HandedOn bytes_of text events end old new
  handed_on why end mid stopped cause untouched kept (inl same) = inl (
    mid.contents,
    subst (λ h. Halted bytes_of text events h old.contents old.faults mid.contents new.faults) (sym same.0)
        (subst (λ f. Halted bytes_of text events why old.contents old.faults mid.contents f) (sym same.2) stopped),
    kept,
    same.1,
  )
  handed_on why end mid stopped cause untouched kept (inr failed) =
      let rose : Rose old.faults new.faults = elim failed.1 [
        | inl is ↦ subst (Rose old.faults) (sym (untouched is)) (subst (λ h. IsCause h old.faults mid.faults) is cause)
        | inr rose ↦ rises_on why old.faults mid.faults new.faults cause rose
      ] in
      inr (failed.0, why, mid.contents, mid.faults, stopped, kept, rose)

  -- what it answers, once that is told
  pub halted_reported : (why : Halt) (IsReported : List ℕ → Type 0) → HandedOn bytes_of text events why old new → IsReported (halt_report why)
      → EndsReplay bytes_of text events (status_at why) old new IsReported
  halted_reported why IsReported (inl whole) reported =
      halted bytes_of text events why old new whole.0 IsReported whole.1 whole.2 whole.3 reported
  halted_reported why IsReported (inr failed) reported =
      subst (λ h. EndsReplay bytes_of text events (status_at h) old new IsReported) (sym failed.0)
      (halted_failing bytes_of text events failed.1 old new failed.2 failed.3 IsReported failed.4 failed.5 failed.6
      (subst (λ h. IsReported (halt_report h)) failed.0 reported))

  pub may_halt : (why : Halt) → HandedOn bytes_of text events why old new → MayEnd (ReplayIs bytes_of text events) (status_at why)
  may_halt why stopped = ended (status_at why) (halted_reported why (HasReported (streams old nothing) (streams new nothing)) stopped (reported (halt_report why)))

  -- The same status may be answered, whatever is told.
  pub may_end_so : (status : ℕ) (IsReported : List ℕ → Type 0) → EndsReplay bytes_of text events status old new IsReported
      → MayEnd (ReplayIs bytes_of text events) status
  may_end_so status IsReported ends =
      ended status (ends_reporting bytes_of text events status old new IsReported (HasReported (streams old nothing) (streams new nothing)) (λ line h. reported line) ends)

  -- memory ran out, or reading or writing failed
  gone : (status : ℕ) → HasNoAnswer bytes_of text status (HasReported still still) → MayEnd (ReplayIs bytes_of text events) status
  gone status none = record { old = still; new = still; is = inl (Keeps-refl nothing.contents, inl (none, refl, refl)) }

module _ (bytes_of : List ℕ → Option (List ℕ)) (text events : List ℕ) where
  pub replay_no_memory : MayEnd (ReplayIs bytes_of text events) 3
  replay_no_memory = gone bytes_of text events nothing nothing 3 (no_memory bytes_of text)

  replay_failed : MayEnd (ReplayIs bytes_of text events) 4
  replay_failed = gone bytes_of text events nothing nothing 4 (failed bytes_of text)

  -- the same of a replay that wrote to memory
  in_memory_ends : (why : Halt) → MayEnd (ReplayIs bytes_of text events) (status_at why)
      → MayEnd (ReplayIs bytes_of text events) (status_at (in_memory why))
  in_memory_ends halts.WriteFailed may = replay_no_memory
  in_memory_ends (halts.Site fault) may = may
  in_memory_ends (halts.Certificate fault) may = may
  in_memory_ends (halts.Line n) may = may
  in_memory_ends (halts.Illegal n) may = may
  in_memory_ends (halts.TotalsFull n) may = may
  in_memory_ends halts.NoMemory may = may
  in_memory_ends halts.ReadFailed may = may

  -- what its document ends with
  pub document_ends : (why : Halt) (before after status : ℕ) → MayEnd (ReplayIs bytes_of text events) (status_at why)
      → HaltEnds (in_memory why) status before after → MayEnd (ReplayIs bytes_of text events) status
  document_ends why before after status may ends =
      halted_by (MayEnd (ReplayIs bytes_of text events)) replay_no_memory replay_failed (in_memory why) before after status (in_memory_ends why may) ends

  pub whole_document_ends : (before after status : ℕ) → MayEnd (ReplayIs bytes_of text events) 0
      → (status ≡ 0) ⊎ HaltEnds halts.NoMemory status before after → MayEnd (ReplayIs bytes_of text events) status
  whole_document_ends before after status may (inl zero) = subst (MayEnd (ReplayIs bytes_of text events)) (sym zero) may
  whole_document_ends before after status may (inr ends) =
      halted_by (MayEnd (ReplayIs bytes_of text events)) replay_no_memory replay_failed halts.NoMemory before after status replay_no_memory ends

-- ---- what was printed before a halt is handed on

abbrev pub HandsOn : Halt → Halt → Bool → ℕ → ℕ → Type 0
HandsOn why end flushed mid last =
    ((end ≡ why) × (flushed ≡ true) × (last ≡ mid)) ⊎ ((end ≡ halts.WriteFailed) × ((why ≡ halts.WriteFailed) ⊎ Rose mid last))

pub cause_on : (why end : Halt) (flushed : Bool) (before mid last : ℕ) → IsCause why before mid → (why ≡ halts.WriteFailed → last ≡ mid)
    → HandsOn why end flushed mid last → IsCause end before last
cause_on why end flushed before mid last cause untouched (inl same) =
    subst (λ f. IsCause end before f) (sym same.2) (subst (λ h. IsCause h before mid) (sym same.0) cause)
cause_on why end flushed before mid last cause untouched (inr failed) = subst (λ h. IsCause h before last) (sym failed.0) (elim failed.1 [
  | inl is ↦ subst (Rose before) (sym (untouched is)) (subst (λ h. IsCause h before mid) is cause)
  | inr rose ↦ rises_on why before mid last cause rose
])

write_or_read : halts.WriteFailed ≡ halts.ReadFailed → ⊥
write_or_read e = cc

pub read_on : (why end : Halt) (flushed : Bool) (mid last : ℕ) → HandsOn why end flushed mid last → end ≡ halts.ReadFailed → why ≡ halts.ReadFailed
read_on why end flushed mid last (inl same) is = sym same.0 ∙ is
read_on why end flushed mid last (inr failed) is = absurd (write_or_read (sym failed.0 ∙ is))

-- ---- status 4 of a document

-- a halt that is a failed read has this cause, and it is no failed write
abbrev UnreadOr : Type 0 → Halt → Type 0
UnreadOr MayFail why = (why ≡ halts.ReadFailed → MayFail) × (why ≡ halts.WriteFailed → ⊥)

memory_or_read : halts.NoMemory ≡ halts.ReadFailed → ⊥
memory_or_read e = cc

memory_or_write : halts.NoMemory ≡ halts.WriteFailed → ⊥
memory_or_write e = cc

no_write : (why : Halt) → in_memory why ≡ halts.WriteFailed → ⊥
no_write halts.WriteFailed e = cc
no_write (halts.Site fault) e = cc
no_write (halts.Certificate fault) e = cc
no_write (halts.Line n) e = cc
no_write (halts.Illegal n) e = cc
no_write (halts.TotalsFull n) e = cc
no_write halts.NoMemory e = cc
no_write halts.ReadFailed e = cc

still_read : (why : Halt) → in_memory why ≡ halts.ReadFailed → why ≡ halts.ReadFailed
still_read halts.WriteFailed e = absurd (memory_or_read e)
still_read (halts.Site fault) e = e
still_read (halts.Certificate fault) e = e
still_read (halts.Line n) e = e
still_read (halts.Illegal n) e = e
still_read (halts.TotalsFull n) e = e
still_read halts.NoMemory e = e
still_read halts.ReadFailed e = e

pub document_fails : (MayFail : Type 0) (why : Halt) (status before after : ℕ) → (why ≡ halts.ReadFailed → MayFail)
    → HaltEnds (in_memory why) status before after → status ≡ 4 → MayFail ⊎ Rose before after
document_fails MayFail why status before after unread ends four =
    halt_fails MayFail (UnreadOr MayFail) (in_memory why) ends.0 status before after (λ u. u.0 refl) (λ u. u.1 refl)
    ((λ is. unread (still_read why is)), no_write why) ends.1 ends.2 four

zero_or_four : (n : ℕ) → n ≡ 0 → n ≡ 4 → ⊥
zero_or_four n zero four = omega (arith, zero, four)

pub whole_document_fails : (MayFail : Type 0) (status before after : ℕ) → (status ≡ 0) ⊎ HaltEnds halts.NoMemory status before after → status ≡ 4
    → MayFail ⊎ Rose before after
whole_document_fails MayFail status before after (inl zero) four = absurd (zero_or_four status zero four)
whole_document_fails MayFail status before after (inr ends) four =
    halt_fails MayFail (UnreadOr MayFail) halts.NoMemory ends.0 status before after (λ u. u.0 refl) (λ u. u.1 refl)
    ((λ is. absurd (memory_or_read is)), memory_or_write) ends.1 ends.2 four

pub printed_ends : (text : List ℕ) (status : ℕ) (old new : Streams) → Prints text true status old new
    → (status ≡ 0) ⊎ HaltEnds halts.NoMemory status old.output.faults new.output.faults
printed_ends text status old new (inl printed) = inl printed.0
printed_ends text status old new (inr torn) = inr (halts.WriteFailed, torn.0, inr (inr (refl, torn.2)))
