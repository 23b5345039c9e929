-- Why a command over a site stops, and how far a replay has come.
use Rattle.std.specs.Prelude.{◌≡◌, ℕ, List, Option}
use Rattle.std.specs.Io.KnownBytes.{Appends}
use Rattle.sy_wire.specs.Streams.{Rose}
use Rattle.sy_site.specs.Sites.{Site}
use Rattle.sy_replay.specs.States.{Contents}
use Rattle.sy_report.specs.declared.outcome.halt.Halt.{Halt}
use Rattle.sy_report.specs.declared.outcome.halt.Halt.TheVariants as halt
use Rattle.sy_commands.specs.Replays.{Ending, Replays, opened}

-- ---- how far a replay has come

-- the line that comes next, counted from 1, after so many events, what the site holds, the lines to come, and what was written with how many failures
pub record Place : Type 0 where
  pub line : ℕ
  pub events : ℕ
  pub held : Contents
  pub lines : List (List ℕ)
  pub written : Option (List ℕ)
  pub faults : ℕ

-- before the first line
abbrev pub start : Site → List (List ℕ) → Option (List ℕ) → ℕ → Place
start site lines written faults = record {
  line = 1;
  events = 0;
  held = opened site;
  lines = lines;
  written = written;
  faults = faults;
}

-- what is printed from a place on, and how that ends
abbrev pub ReplaysFrom : Site → Place → List ℕ → Ending → Type 0
ReplaysFrom site from out ending = Replays site from.line from.events from.held from.lines out ending

-- how a replay ends at a halt; a faulty site or certificate is no matter of a replay
abbrev pub ending_of : Halt → Ending
ending_of (halt.Site fault) = Ending.NoMemory
ending_of (halt.Certificate fault) = Ending.NoMemory
ending_of (halt.Line line) = Ending.Faulty line
ending_of (halt.Illegal line) = Ending.Illegal line
ending_of (halt.TotalsFull line) = Ending.Full line
ending_of halt.NoMemory = Ending.NoMemory
ending_of halt.ReadFailed = Ending.ReadFailed
ending_of halt.WriteFailed = Ending.WriteFailed

-- A failed write has its cause; at any other halt none failed, and a site or a certificate is no matter of a replay.
abbrev pub HasCause : Halt → ℕ → ℕ → Type 0
HasCause halt.WriteFailed before after = Rose before after
HasCause (halt.Site fault) before after = ⊥
HasCause (halt.Certificate fault) before after = ⊥
HasCause _ before after = after ≡ before

-- It stops somewhere behind a place.
pub record Stops (site : Site) (from : Place) (why : Halt) (written : Option (List ℕ)) (faults : ℕ) : Type 0 where
  pub out : List ℕ
  pub wrote : Appends from.written written out
  pub cause : HasCause why from.faults faults
  pub stops : ReplaysFrom site from out (ending_of why)

-- All lines were replayed, and the end was printed.
pub record Finishes (site : Site) (from : Place) (written : Option (List ℕ)) (faults : ℕ) : Type 0 where
  pub out : List ℕ
  pub wrote : Appends from.written written out
  pub same : faults ≡ from.faults
  pub ends : ReplaysFrom site from out Ending.Done
