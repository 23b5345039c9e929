-- How far a replay has come between its calls.
use Rattle.std.specs.Prelude.{◌≡◌, ◌<◌, ℕ, Bool, true, false, List, ◌++◌, ◌==◌, ◌⊎◌, Option, Some, drop, flat_map, length}
use Rattle.std.specs.Io.KnownBytes.{Appends, Keeps}
use Rattle.std.specs.List.{All}
use Rattle.sy_wire.specs.Streams.{ReadsPiece, Rose}
use Rattle.sy_site.specs.Sites.{Site}
use Rattle.sy_replay.specs.States.{Contents, state_in}
use Rattle.sy_replay.specs.declared.event.Illegal.{Illegal}
use Rattle.sy_replay.specs.declared.event.Illegal.TheVariants as illegal
use Rattle.sy_report.specs.Reports.{SinkState, Torn, line_feed}
use Rattle.sy_report.specs.declared.outcome.halt.Halt.{Halt}
use Rattle.sy_report.specs.declared.outcome.halt.Halt.TheVariants as halt
use Rattle.sy_commands.specs.Replays.{Ending, lines_of, loss_line}
use Rattle.sy_commands.specs.declared.replay.events.Course.{Course}
use Rattle.sy_places.specs.SiteFiles.{IsSiteOf}
use Rattle.sy_places.specs.Halts.{IsNoSite}
use Rattle.sy_commands.specs.Halts.{Finishes, Place, ReplaysFrom, Stops, start}

-- the events were replayed over the site of the text
abbrev pub Replayed : (List ℕ → Option (List ℕ)) → (text events : List ℕ) → Option (List ℕ) → ℕ → Option (List ℕ) → ℕ → Type 0
Replayed bytes_of text events old before new after =
    (site : Site) × IsSiteOf bytes_of text site × Finishes site (start site (lines_of events) old before) new after

-- there is no site, and nothing was written; or the replay stopped
abbrev pub Halted : (List ℕ → Option (List ℕ)) → (text events : List ℕ) → Halt → Option (List ℕ) → ℕ → Option (List ℕ) → ℕ → Type 0
Halted bytes_of text events why old before new after =
    (IsNoSite bytes_of text why × Keeps old new × (after ≡ before))
    ⊎ ((site : Site) × IsSiteOf bytes_of text site × Stops site (start site (lines_of events) old before) why new after)

-- A failed write has its cause, and at any other halt none failed.
abbrev pub IsCause : Halt → ℕ → ℕ → Type 0
IsCause halt.WriteFailed before after = Rose before after
IsCause _ before after = after ≡ before

abbrev pub place : Course → List (List ℕ) → Option (List ℕ) → ℕ → Place
place course lines written faults = record {
  line = course.line;
  events = course.events;
  held = course.replay.contents;
  lines = lines;
  written = written;
  faults = faults;
}

-- From one place to another: what it printed there, behind which all comes that it prints from there on.
pub record Comes (site : Site) (from to : Place) : Type 0 where
  pub out : List ℕ
  pub wrote : Appends from.written to.written out
  pub same : to.faults ≡ from.faults
  pub goes : (later : List ℕ) (ending : Ending) → ReplaysFrom site to later ending → ReplaysFrom site from (out ++ later) ending

-- ---- one event

-- the lines of the losses behind the first ones
abbrev pub later_losses : Site → Contents → ℕ → ℕ → List ℕ
later_losses site held line first = flat_map (loss_line site (state_in held) line) (drop first (state_in held).losses)

-- Memory ran out, and nothing was written; or a write failed, and a prefix of the text was written.
abbrev pub IsTorn : Halt → List ℕ → Option (List ℕ) → ℕ → Option (List ℕ) → ℕ → Type 0
IsTorn halt.NoMemory text old before new after = Keeps old new × (after ≡ before)
IsTorn halt.WriteFailed text old before new after = Torn old new text × Rose before after
IsTorn _ text old before new after = ⊥

-- why the event in this line wasn't applied
abbrev pub halt_of : Illegal → ℕ → Halt
halt_of illegal.NotAStep line = halt.Illegal line
halt_of illegal.NoMemory line = halt.NoMemory
halt_of illegal.TotalsFull line = halt.TotalsFull line

-- ---- the whole file

-- no byte of it ends a line
abbrev pub IsOpenLine : List ℕ → Type 0
IsOpenLine held = All (λ b. (b == line_feed) ≡ false) held

-- a read put what it gave behind what was held
abbrev pub Reads : ℕ → List ℕ → List ℕ → Option (List ℕ) → Option (List ℕ) → Type 0
Reads count held held' ahead ahead' = (piece : List ℕ) × (held' ≡ held ++ piece) × ReadsPiece ahead ahead' piece count

abbrev pub with_lines : Place → List (List ℕ) → Place
with_lines to lines = record to { lines = lines }

-- A read left less than there was.
abbrev pub IsShorter : Option (List ℕ) → Option (List ℕ) → Type 0
IsShorter old new = (ahead next : List ℕ) → old ≡ Some ahead → new ≡ Some next → length next < length ahead

-- More may come, and the lines to come are those of what is held and ahead; or nothing does, and they are those of what is held.
abbrev pub Turns : Bool → Site → Place → List ℕ → Option (List ℕ) → Place → Type 0
Turns true site from held ahead to = (next : List ℕ) × (ahead ≡ Some next) × Comes site from (with_lines to (lines_of (held ++ next)))
Turns false site from held ahead to = Comes site from (with_lines to (lines_of held))

-- The replay stopped for this, and what it printed before was handed on; or a write or a flush failed, for which it stopped.
abbrev pub HandedOn : (List ℕ → Option (List ℕ)) → (text events : List ℕ) → Halt → SinkState → SinkState → Type 0
HandedOn bytes_of text events why old new =
    ((mid : Option (List ℕ)) × Halted bytes_of text events why old.contents old.faults mid new.faults
    × Keeps mid new.contents × (new.is_flushed ≡ true))
    ⊎ ((why ≡ halt.WriteFailed) × (first : Halt) × (mid : Option (List ℕ)) × (faults : ℕ)
    × Halted bytes_of text events first old.contents old.faults mid faults × Keeps mid new.contents × Rose old.faults new.faults)
