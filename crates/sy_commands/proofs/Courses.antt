-- How the parts of a replay come together.
use Rattle.std.proofs.Common.{◌≡◌, ℕ, ◌-◌, length, take, drop, map, arith, List, [], ◌∷◌, ◌++◌, refl, sym, ap, subst, inl, inr, ◌∙◌, Bool, true, false, true≢false}
use Rattle.std.specs.Prelude.{Option, Some, None}
use Rattle.std.specs.Io.KnownBytes.{Appends, Keeps}
use Rattle.std.proofs.KnownBytes.{Appends-trans, Appends-kept}
use Rattle.std.proofs.lemmas.List.{append_assoc, append-nil, drop-map, length-drop, length-map, take_all}
use Rattle.sy_site.specs.Sites.{Site}
use Rattle.sy_wire.specs.Streams.{Rose}
use Rattle.sy_site.specs.machine.States as machine
use Rattle.sy_site.specs.machine.Steps.{SiteEvent}
use Rattle.sy_site.specs.declared.fault.SiteFault.TheVariants as site_fault
use Rattle.sy_replay.specs.Events.{loss_of, losses_of}
use Rattle.sy_replay.specs.declared.event.Loss.{Loss}
use Rattle.sy_replay.specs.declared.event.Illegal.{Illegal}
use Rattle.sy_replay.specs.declared.event.Illegal.TheVariants as illegal
use Rattle.sy_replay.specs.Lines.{IsNoEvent, StandsFor, is_skipped}
use Rattle.sy_replay.specs.Held.{opened_parts}
use Rattle.sy_replay.specs.States.{Applies, Contents, IsIllegalAt, holding, state_in}
use Rattle.sy_report.specs.Reports.{SinkState, Torn}
use Rattle.sy_report.specs.HaltTexts.{halt_report}
use Rattle.sy_commands.specs.Replays.{Ending, EndsReplay, IsLeft, IsReplayed, IsReportedEnding, Replays, end_line, lines_of, loss_lines, next, opened, status_of}
use Rattle.sy_commands.specs.Replays.Replays.{done, end_torn, faulty, full, no_memory, no_step, skips, steps, torn, unread, unwritten}
use Rattle.sy_commands.specs.SiteFiles.{HasNoAnswer}
use Rattle.sy_commands.specs.internal.Halts.{Comes, Halted, IsCause, IsTorn, Replayed, Turns, halt_of, with_lines}
use Rattle.sy_commands.specs.Halts.{Finishes, HasCause, Place, ReplaysFrom, Stops, ending_of, start}
use Rattle.sy_places.specs.Halts.{IsNoSite, IsReadHalt}
use Rattle.sy_report.specs.Halts.{status_at}
use Rattle.sy_report.specs.declared.outcome.halt.Halt.{Halt}
use Rattle.sy_report.specs.declared.outcome.halt.Halt.TheVariants as halt

pub appends_none : (a b : Option (List ℕ)) → Keeps a b → Appends a b []
appends_none None b h = tt
appends_none (Some xs) None h = absurd h
appends_none (Some xs) (Some ys) h = h ∙ sym (append-nil xs)

pub comes_on : (site : Site) (a b c : Place) → Comes site a b → Comes site b c → Comes site a c
comes_on site a b c p q = record {
  out = p.out ++ q.out;
  wrote = Appends-trans a.written b.written c.written p.out q.out p.wrote q.wrote;
  same = q.same ∙ p.same;
  goes = λ later ending rest. subst (λ out. ReplaysFrom site a out ending) (sym (append_assoc p.out q.out later))
      (p.goes (q.out ++ later) ending (q.goes later ending rest));
}

pub stops_behind : (site : Site) (a b : Place) (why : Halt) (written : Option (List ℕ)) (faults : ℕ) → Comes site a b → Stops site b why written faults
    → Stops site a why written faults
stops_behind site a b why written faults p q = record {
  out = p.out ++ q.out;
  wrote = Appends-trans a.written b.written written p.out q.out p.wrote q.wrote;
  cause = subst (λ f. HasCause why f faults) p.same q.cause;
  stops = p.goes q.out (ending_of why) q.stops;
}

pub finishes_behind : (site : Site) (a b : Place) (written : Option (List ℕ)) (faults : ℕ) → Comes site a b → Finishes site b written faults
    → Finishes site a written faults
finishes_behind site a b written faults p q = record {
  out = p.out ++ q.out;
  wrote = Appends-trans a.written b.written written p.out q.out p.wrote q.wrote;
  same = q.same ∙ p.same;
  ends = p.goes q.out Ending.Done q.ends;
}

-- Wherever a replay ends, a flush may fail there.
pub breaks : {site : Site} {line events : ℕ} {held : Contents} {lines : List (List ℕ)} {out : List ℕ} {ending : Ending}
    → Replays site line events held lines out ending → Replays site line events held lines out Ending.WriteFailed
breaks {held = held} {out = out} done = end_torn out [] (sym (append-nil out))
breaks (skips skipped later) = skips skipped (breaks later)
breaks (steps event stands step later) = steps event stands step (breaks later)
breaks (faulty unskipped none) = unwritten
breaks (no_step event stands none) = unwritten
breaks (full event stands too_full) = unwritten
breaks no_memory = unwritten
breaks unread = unwritten
breaks unwritten = unwritten
breaks (torn event new part tail stands step front) = torn event new part tail stands step front
breaks (end_torn part tail front) = end_torn part tail front

-- ---- one line

pub step_made : (site : Site) (from to : Place) (text : List ℕ) (event : SiteEvent) → StandsFor site text event → from.lines ≡ text ∷ to.lines
    → to.line ≡ next from.line → to.events ≡ next from.events → Applies site from.held event to.held
    → Appends from.written to.written (loss_lines site from.line (state_in from.held) (state_in to.held))
    → to.faults ≡ from.faults → Comes site from to
step_made site from to text event stands lines line events made wrote same = record {
  out = loss_lines site from.line (state_in from.held) (state_in to.held);
  wrote = wrote;
  same = same;
  goes = λ later ending rest.
      let at_line = subst (λ l. Replays site l to.events to.held to.lines later ending) line rest in
      let at_event = subst (λ e. Replays site (next from.line) e to.held to.lines later ending) events at_line in
      subst (λ ls. Replays site from.line from.events from.held ls (loss_lines site from.line (state_in from.held) (state_in to.held) ++ later) ending)
      (sym lines)
      (steps event stands made at_event);
}

pub line_skipped : (site : Site) (from to : Place) (text : List ℕ) → is_skipped text ≡ true → from.lines ≡ text ∷ to.lines
    → to.line ≡ next from.line → to.events ≡ from.events → to.held ≡ from.held → Keeps from.written to.written
    → to.faults ≡ from.faults → Comes site from to
line_skipped site from to text skipped lines line events held kept same = record {
  out = [];
  wrote = appends_none from.written to.written kept;
  same = same;
  goes = λ later ending rest.
      let at_line = subst (λ l. Replays site l to.events to.held to.lines later ending) line rest in
      let at_event = subst (λ e. Replays site (next from.line) e to.held to.lines later ending) events at_line in
      let at_held = subst (λ s. Replays site (next from.line) from.events s to.lines later ending) held at_event in
      subst (λ ls. Replays site from.line from.events from.held ls later ending) (sym lines) (skips skipped at_held);
}

-- nothing more is written where it stops
pub stops_here : (site : Site) (from : Place) (why : Halt) (written : Option (List ℕ)) (faults : ℕ) → Keeps from.written written
    → HasCause why from.faults faults → ReplaysFrom site from [] (ending_of why) → Stops site from why written faults
stops_here site from why written faults kept cause stops = record {
  out = [];
  wrote = appends_none from.written written kept;
  cause = cause;
  stops = stops;
}

pub line_faulty : (site : Site) (from : Place) (text : List ℕ) (later : List (List ℕ)) (written : Option (List ℕ)) (faults : ℕ)
    → from.lines ≡ text ∷ later → is_skipped text ≡ false → IsNoEvent site text → Keeps from.written written
    → faults ≡ from.faults → Stops site from (halt.Line from.line) written faults
line_faulty site from text later written faults lines unskipped none kept same =
    stops_here site from (halt.Line from.line) written faults kept same
    (subst (λ ls. Replays site from.line from.events from.held ls [] (Ending.Faulty from.line)) (sym lines) (faulty unskipped none))

pub out_of_room : (site : Site) (from : Place) (written : Option (List ℕ)) (faults : ℕ) → Keeps from.written written
    → faults ≡ from.faults → Stops site from halt.NoMemory written faults
out_of_room site from written faults kept same = stops_here site from halt.NoMemory written faults kept same no_memory

pub read_fails : (site : Site) (from : Place) (written : Option (List ℕ)) (faults : ℕ) → Keeps from.written written
    → faults ≡ from.faults → Stops site from halt.ReadFailed written faults
read_fails site from written faults kept same = stops_here site from halt.ReadFailed written faults kept same unread

pub flush_fails : (site : Site) (from : Place) (written : Option (List ℕ)) (faults : ℕ) → Keeps from.written written
    → Rose from.faults faults → Stops site from halt.WriteFailed written faults
flush_fails site from written faults kept rose = stops_here site from halt.WriteFailed written faults kept rose unwritten

-- the event isn't applied
pub event_refused : (site : Site) (from : Place) (text : List ℕ) (later : List (List ℕ)) (event : SiteEvent) (why : Illegal) (written : Option (List ℕ))
    (faults : ℕ) → from.lines ≡ text ∷ later → StandsFor site text event → IsIllegalAt why site from.held event
    → Keeps from.written written → faults ≡ from.faults → Stops site from (halt_of why from.line) written faults
event_refused site from text later event illegal.NotAStep written faults lines stands none kept same =
    stops_here site from (halt.Illegal from.line) written faults kept same
    (subst (λ ls. Replays site from.line from.events from.held ls [] (Ending.Illegal from.line)) (sym lines) (no_step event stands none))
event_refused site from text later event illegal.NoMemory written faults lines stands none kept same = out_of_room site from written faults kept same
event_refused site from text later event illegal.TotalsFull written faults lines stands too_full kept same =
    stops_here site from (halt.TotalsFull from.line) written faults kept same
    (subst (λ ls. Replays site from.line from.events from.held ls [] (Ending.Full from.line)) (sym lines) (full event stands too_full))

-- the step is made, but its losses aren't, or not wholly, printed
pub losses_torn : (site : Site) (from : Place) (text : List ℕ) (later : List (List ℕ)) (event : SiteEvent) (new : Contents) (why : Halt)
    (written : Option (List ℕ)) (faults : ℕ) → from.lines ≡ text ∷ later → StandsFor site text event → Applies site from.held event new
    → IsTorn why (loss_lines site from.line (state_in from.held) (state_in new)) from.written from.faults written faults
    → Stops site from why written faults
losses_torn site from text later event new halt.NoMemory written faults lines stands made t = out_of_room site from written faults t.0 t.1
losses_torn site from text later event new halt.WriteFailed written faults lines stands made t = record {
  out = t.0.part;
  wrote = t.0.wrote;
  cause = t.1;
  stops = subst (λ ls. Replays site from.line from.events from.held ls t.0.part Ending.WriteFailed) (sym lines)
      (torn event new t.0.part t.0.tail stands made t.0.front);
}
losses_torn site from text later event new (halt.Site fault) written faults lines stands made t = absurd t
losses_torn site from text later event new (halt.Certificate fault) written faults lines stands made t = absurd t
losses_torn site from text later event new (halt.Line at) written faults lines stands made t = absurd t
losses_torn site from text later event new (halt.Illegal at) written faults lines stands made t = absurd t
losses_torn site from text later event new (halt.TotalsFull at) written faults lines stands made t = absurd t
losses_torn site from text later event new halt.ReadFailed written faults lines stands made t = absurd t

-- ---- the end

pub finishes_now : (site : Site) (from : Place) (written : Option (List ℕ)) (faults : ℕ) → from.lines ≡ []
    → Appends from.written written (end_line from.events (state_in from.held)) → faults ≡ from.faults → Finishes site from written faults
finishes_now site from written faults lines wrote same = record {
  out = end_line from.events (state_in from.held);
  wrote = wrote;
  same = same;
  ends = subst (λ ls. Replays site from.line from.events from.held ls (end_line from.events (state_in from.held)) Ending.Done) (sym lines) done;
}

-- the last line isn't wholly printed, or not handed on
pub end_fails : (site : Site) (from : Place) (written : Option (List ℕ)) (faults : ℕ) → from.lines ≡ []
    → Torn from.written written (end_line from.events (state_in from.held)) → Rose from.faults faults → Stops site from halt.WriteFailed written faults
end_fails site from written faults lines t rose = record {
  out = t.part;
  wrote = t.wrote;
  cause = rose;
  stops = subst (λ ls. Replays site from.line from.events from.held ls t.part Ending.WriteFailed) (sym lines) (end_torn t.part t.tail t.front);
}

pub wholly : (old new : Option (List ℕ)) (text : List ℕ) → Appends old new text → Torn old new text
wholly old new text wrote = record { part = text; tail = []; wrote = wrote; front = sym (append-nil text) }

-- ---- the whole

pub replayed_whole : (site : Site) (events : List ℕ) (old new : SinkState) (IsReported : List ℕ → Type 0)
    → Finishes site (start site (lines_of events) old.contents old.faults) new.contents new.faults → new.is_flushed ≡ true
    → IsReplayed site events 0 old new IsReported
replayed_whole site events old new IsReported f flushed = record {
  out = f.out;
  ending = Ending.Done;
  replays = f.ends;
  wrote = f.wrote;
  status_is = refl;
  left = (f.same, flushed);
  reported = tt;
}

status_behind : (why : Halt) (before after : ℕ) → HasCause why before after → status_at why ≡ status_of (ending_of why)
status_behind (halt.Site fault) before after cause = absurd cause
status_behind (halt.Certificate fault) before after cause = absurd cause
status_behind (halt.Line line) before after cause = refl
status_behind (halt.Illegal line) before after cause = refl
status_behind (halt.TotalsFull line) before after cause = refl
status_behind halt.NoMemory before after cause = refl
status_behind halt.ReadFailed before after cause = refl
status_behind halt.WriteFailed before after cause = refl

left_behind : (why : Halt) (old new : SinkState) → HasCause why old.faults new.faults → new.is_flushed ≡ true → IsLeft (ending_of why) old new
left_behind (halt.Site fault) old new cause flushed = absurd cause
left_behind (halt.Certificate fault) old new cause flushed = absurd cause
left_behind (halt.Line line) old new cause flushed = (cause, flushed)
left_behind (halt.Illegal line) old new cause flushed = (cause, flushed)
left_behind (halt.TotalsFull line) old new cause flushed = (cause, flushed)
left_behind halt.NoMemory old new cause flushed = (cause, flushed)
left_behind halt.ReadFailed old new cause flushed = (cause, flushed)
left_behind halt.WriteFailed old new cause flushed = cause

reported_behind : (why : Halt) (before after : ℕ) (IsReported : List ℕ → Type 0) → HasCause why before after → IsReported (halt_report why)
    → IsReportedEnding IsReported (ending_of why)
reported_behind (halt.Site fault) before after IsReported cause reported = absurd cause
reported_behind (halt.Certificate fault) before after IsReported cause reported = absurd cause
reported_behind (halt.Line line) before after IsReported cause reported = reported
reported_behind (halt.Illegal line) before after IsReported cause reported = reported
reported_behind (halt.TotalsFull line) before after IsReported cause reported = reported
reported_behind halt.NoMemory before after IsReported cause reported = reported
reported_behind halt.ReadFailed before after IsReported cause reported = reported
reported_behind halt.WriteFailed before after IsReported cause reported = reported

-- it stopped, and what was printed is handed on
pub replayed_up_to : (site : Site) (events : List ℕ) (why : Halt) (old new : SinkState) (written : Option (List ℕ)) (IsReported : List ℕ → Type 0)
    → Stops site (start site (lines_of events) old.contents old.faults) why written new.faults → Keeps written new.contents → new.is_flushed ≡ true
    → IsReported (halt_report why) → IsReplayed site events (status_at why) old new IsReported
replayed_up_to site events why old new written IsReported s kept flushed reported = record {
  out = s.out;
  ending = ending_of why;
  replays = s.stops;
  wrote = Appends-kept old.contents written new.contents s.out s.wrote kept;
  status_is = status_behind why old.faults new.faults s.cause;
  left = left_behind why old new s.cause flushed;
  reported = reported_behind why old.faults new.faults IsReported s.cause reported;
}

-- it stopped, and what was printed could not be handed on
pub replayed_failing : (site : Site) (events : List ℕ) (why : Halt) (old new : SinkState) (written : Option (List ℕ)) (faults : ℕ)
    (IsReported : List ℕ → Type 0)
    → Stops site (start site (lines_of events) old.contents old.faults) why written faults → Keeps written new.contents → Rose old.faults new.faults
    → IsReported (halt_report halt.WriteFailed) → IsReplayed site events 4 old new IsReported
replayed_failing site events why old new written faults IsReported s kept rose reported = record {
  out = s.out;
  ending = Ending.WriteFailed;
  replays = breaks s.stops;
  wrote = Appends-kept old.contents written new.contents s.out s.wrote kept;
  status_is = refl;
  left = rose;
  reported = reported;
}

-- no site
pub no_site : (bytes_of : List ℕ → Option (List ℕ)) (site : List ℕ) (why : Halt) (IsReported : List ℕ → Type 0) → IsNoSite bytes_of site why
    → IsReported (halt_report why) → HasNoAnswer bytes_of site (status_at why) IsReported
no_site bytes_of site (halt.Site site_fault.NoMemory) IsReported none reported = inr (inl (refl, reported))
no_site bytes_of site (halt.Site (site_fault.Line n)) IsReported none reported = inl (refl, _, none.1, reported)
no_site bytes_of site (halt.Site (site_fault.Duplicate n)) IsReported none reported = inl (refl, _, none.1, reported)
no_site bytes_of site (halt.Site (site_fault.NoFile n)) IsReported none reported = inl (refl, _, none.1, reported)
no_site bytes_of site (halt.Site (site_fault.NoSuchEntry n)) IsReported none reported = inl (refl, _, none.1, reported)
no_site bytes_of site (halt.Site (site_fault.NoSuchArchive n)) IsReported none reported = inl (refl, _, none.1, reported)
no_site bytes_of site (halt.Site (site_fault.NoSuchAction n)) IsReported none reported = inl (refl, _, none.1, reported)
no_site bytes_of site (halt.Site (site_fault.SpareArchive n)) IsReported none reported = inl (refl, _, none.1, reported)
no_site bytes_of site (halt.Site site_fault.NothingProtected) IsReported none reported = inl (refl, _, none.1, reported)
no_site bytes_of site (halt.Site (site_fault.Relay n name why)) IsReported none reported = inl (refl, _, none.1, reported)
no_site bytes_of site halt.NoMemory IsReported none reported = inr (inl (refl, reported))
no_site bytes_of site halt.ReadFailed IsReported none reported = inr (inr (refl, reported))
no_site bytes_of site halt.WriteFailed IsReported none reported = absurd none
no_site bytes_of site (halt.Certificate fault) IsReported none reported = absurd none
no_site bytes_of site (halt.Line n) IsReported none reported = absurd none
no_site bytes_of site (halt.Illegal n) IsReported none reported = absurd none
no_site bytes_of site (halt.TotalsFull n) IsReported none reported = absurd none

keeps_on : (a b c : Option (List ℕ)) → Keeps a b → Keeps b c → Keeps a c
keeps_on None b c p q = tt
keeps_on (Some xs) None c p q = absurd p
keeps_on (Some xs) (Some ys) None p q = absurd q
keeps_on (Some xs) (Some ys) (Some zs) p q = q ∙ p

-- what a replay that was halted answers, once that is told
pub halted : (bytes_of : List ℕ → Option (List ℕ)) (text events : List ℕ) (why : Halt) (old new : SinkState) (mid : Option (List ℕ)) (IsReported : List ℕ → Type 0)
    → Halted bytes_of text events why old.contents old.faults mid new.faults → Keeps mid new.contents → new.is_flushed ≡ true
    → IsReported (halt_report why) → EndsReplay bytes_of text events (status_at why) old new IsReported
halted bytes_of text events why old new mid IsReported h kept flushed reported = elim h [
  | inl none ↦ inl (keeps_on old.contents mid new.contents none.1 kept, inl (no_site bytes_of text why IsReported none.0 reported, none.2, flushed))
  | inr some ↦ inr (some.0, some.1, replayed_up_to some.0 events why old new mid IsReported some.2 kept flushed reported)
]

pub halted_failing : (bytes_of : List ℕ → Option (List ℕ)) (text events : List ℕ) (why : Halt) (old new : SinkState) (mid : Option (List ℕ)) (faults : ℕ)
    (IsReported : List ℕ → Type 0)
    → Halted bytes_of text events why old.contents old.faults mid faults → Keeps mid new.contents → Rose old.faults new.faults
    → IsReported (halt_report halt.WriteFailed) → EndsReplay bytes_of text events 4 old new IsReported
halted_failing bytes_of text events why old new mid faults IsReported h kept rose reported = elim h [
  | inl none ↦ inl (keeps_on old.contents mid new.contents none.1 kept, inr (inr (refl, rose, reported)))
  | inr some ↦ inr (some.0, some.1, replayed_failing some.0 events why old new mid faults IsReported some.2 kept rose reported)
]

pub replayed : (bytes_of : List ℕ → Option (List ℕ)) (text events : List ℕ) (old new : SinkState) (IsReported : List ℕ → Type 0)
    → Replayed bytes_of text events old.contents old.faults new.contents new.faults → new.is_flushed ≡ true → EndsReplay bytes_of text events 0 old new IsReported
replayed bytes_of text events old new IsReported r flushed = inr (r.0, r.1, replayed_whole r.0 events old new IsReported r.2 flushed)

-- ---- between two reads

-- The lines to come are the same, and nothing was written.
pub stands_still : (site : Site) (from : Place) (lines : List (List ℕ)) (written : Option (List ℕ)) (faults : ℕ) → from.lines ≡ lines
    → Keeps from.written written → faults ≡ from.faults
    → Comes site from (record from { lines = lines; written = written; faults = faults })
stands_still site from lines written faults same kept none = record {
  out = [];
  wrote = appends_none from.written written kept;
  same = none;
  goes = λ later ending rest. subst (λ ls. Replays site from.line from.events from.held ls later ending) (sym same) rest;
}

pub keeps_all : (a : Option (List ℕ)) → Keeps a a
keeps_all None = tt
keeps_all (Some xs) = refl

-- nothing more came
pub turned_last : (more : Bool) (site : Site) (from : Place) (held : List ℕ) (ahead : Option (List ℕ)) (to : Place) → more ≡ false
    → Turns more site from held ahead to → Comes site from (with_lines to (lines_of held))
turned_last false site from held ahead to last t = t
turned_last true site from held ahead to last t = absurd (true≢false last)

-- more may come
pub turned_on : (more : Bool) (site : Site) (from : Place) (held : List ℕ) (ahead : Option (List ℕ)) (to : Place) → more ≡ true
    → Turns more site from held ahead to → (next : List ℕ) × (ahead ≡ Some next) × Comes site from (with_lines to (lines_of (held ++ next)))
turned_on true site from held ahead to on t = t
turned_on false site from held ahead to on t = absurd (true≢false (sym on))

-- ---- before the first event

pub opened_is : (site : Site) (held : Contents) → held.parts ≡ opened_parts site → state_in held ≡ machine.opening site → held ≡ opened site
opened_is site held parts state =
    ap (λ p. holding p held.copies held.losses held.arrivals) parts
    ∙ ap (λ c. holding (opened_parts site) c held.losses held.arrivals) (ap (λ (s : machine.SiteState). s.copies) state)
    ∙ ap (λ l. holding (opened_parts site) [] l held.arrivals) (ap (λ (s : machine.SiteState). s.losses) state)
    ∙ ap (λ a. holding (opened_parts site) [] [] a) (ap (λ (s : machine.SiteState). s.arrivals) state)

pub finishes_started : (site : Site) (held : Contents) (bytes events : List ℕ) (old : Option (List ℕ)) (before : ℕ) (new : Option (List ℕ)) (after : ℕ)
    → held ≡ opened site → bytes ≡ []
    → Finishes site (record { line = 1; events = 0; held = held; lines = lines_of (bytes ++ events); written = old; faults = before }) new after
    → Finishes site (start site (lines_of events) old before) new after
finishes_started site held bytes events old before new after is none f =
    subst (λ h. Finishes site (record { line = 1; events = 0; held = h; lines = lines_of events; written = old; faults = before }) new after) is
    (subst (λ (b : List ℕ). Finishes site (record { line = 1; events = 0; held = held; lines = lines_of (b ++ events); written = old; faults = before }) new after)
    none f)

pub stops_started : (site : Site) (held : Contents) (bytes events : List ℕ) (old : Option (List ℕ)) (before : ℕ) (why : Halt) (new : Option (List ℕ)) (after : ℕ)
    → held ≡ opened site → bytes ≡ []
    → Stops site (record { line = 1; events = 0; held = held; lines = lines_of (bytes ++ events); written = old; faults = before }) why new after
    → Stops site (start site (lines_of events) old before) why new after
stops_started site held bytes events old before why new after is none f =
    subst (λ h. Stops site (record { line = 1; events = 0; held = h; lines = lines_of events; written = old; faults = before }) why new after) is
    (subst (λ (b : List ℕ). Stops site (record { line = 1; events = 0; held = held; lines = lines_of (b ++ events); written = old; faults = before }) why new after)
    none f)

-- ---- one event

pub losses_behind : (losses : List Loss) (first : ℕ) → losses_of (take (length losses - first) (drop first losses)) ≡ drop first (losses_of losses)
losses_behind losses first =
    ap losses_of (take_all (length losses - first) (drop first losses) (omega (arith, length-drop first losses))) ∙ sym (drop-map loss_of first losses)

pub losses_counted : (losses : List Loss) (all : List machine.Loss) → losses_of losses ≡ all → length losses ≡ length all
losses_counted losses all same = sym (length-map losses loss_of) ∙ ap (λ (xs : List machine.Loss). length xs) same

pub status_fails : (why : Halt) → status_at why ≡ 0 → ⊥
status_fails (halt.Site site_fault.NoMemory) none = absurd (omega (arith, none))
status_fails (halt.Site (site_fault.Line n)) none = absurd (omega (arith, none))
status_fails (halt.Site (site_fault.Duplicate n)) none = absurd (omega (arith, none))
status_fails (halt.Site (site_fault.NoFile n)) none = absurd (omega (arith, none))
status_fails (halt.Site (site_fault.NoSuchEntry n)) none = absurd (omega (arith, none))
status_fails (halt.Site (site_fault.NoSuchArchive n)) none = absurd (omega (arith, none))
status_fails (halt.Site (site_fault.NoSuchAction n)) none = absurd (omega (arith, none))
status_fails (halt.Site (site_fault.SpareArchive n)) none = absurd (omega (arith, none))
status_fails (halt.Site site_fault.NothingProtected) none = absurd (omega (arith, none))
status_fails (halt.Site (site_fault.Relay n name why)) none = absurd (omega (arith, none))
status_fails (halt.Certificate fault) none = absurd (omega (arith, none))
status_fails (halt.Line n) none = absurd (omega (arith, none))
status_fails (halt.Illegal n) none = absurd (omega (arith, none))
status_fails (halt.TotalsFull n) none = absurd (omega (arith, none))
status_fails halt.NoMemory none = absurd (omega (arith, none))
status_fails halt.ReadFailed none = absurd (omega (arith, none))
status_fails halt.WriteFailed none = absurd (omega (arith, none))

pub cause_behind : (why : Halt) (before after : ℕ) → HasCause why before after → IsCause why before after
cause_behind (halt.Site fault) before after cause = absurd cause
cause_behind (halt.Certificate fault) before after cause = absurd cause
cause_behind (halt.Line n) before after cause = cause
cause_behind (halt.Illegal n) before after cause = cause
cause_behind (halt.TotalsFull n) before after cause = cause
cause_behind halt.NoMemory before after cause = cause
cause_behind halt.ReadFailed before after cause = cause
cause_behind halt.WriteFailed before after cause = cause

-- a count rose, and once more or not
rose_twice : (before mid after : ℕ) → Rose before mid → Rose mid after → Rose before after
rose_twice before mid after (inl a) (inl b) = inl (omega (arith, a, b))
rose_twice before mid after (inl a) (inr b) = inr b
rose_twice before mid after (inr a) (inl b) = inr (omega (arith, a, b))
rose_twice before mid after (inr a) (inr b) = inr b

pub rises_on : (why : Halt) (before mid after : ℕ) → IsCause why before mid → Rose mid after → Rose before after
rises_on (halt.Site fault) before mid after cause rose = subst (λ f. Rose f after) cause rose
rises_on (halt.Certificate fault) before mid after cause rose = subst (λ f. Rose f after) cause rose
rises_on (halt.Line n) before mid after cause rose = subst (λ f. Rose f after) cause rose
rises_on (halt.Illegal n) before mid after cause rose = subst (λ f. Rose f after) cause rose
rises_on (halt.TotalsFull n) before mid after cause rose = subst (λ f. Rose f after) cause rose
rises_on halt.NoMemory before mid after cause rose = subst (λ f. Rose f after) cause rose
rises_on halt.ReadFailed before mid after cause rose = subst (λ f. Rose f after) cause rose
rises_on halt.WriteFailed before mid after cause rose = rose_twice before mid after cause rose

-- nothing was written
pub read_cause : (why : Halt) (faults : ℕ) → IsReadHalt why → IsCause why faults faults
read_cause (halt.Site fault) faults is = refl
read_cause halt.NoMemory faults is = refl
read_cause halt.ReadFailed faults is = refl
read_cause (halt.Certificate fault) faults is = absurd is
read_cause (halt.Line line) faults is = absurd is
read_cause (halt.Illegal line) faults is = absurd is
read_cause (halt.TotalsFull line) faults is = absurd is
read_cause halt.WriteFailed faults is = absurd is
