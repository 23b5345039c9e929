-- A command that finds no memory for its words.
use Rattle.std.proofs.Common.{◌≡◌, ℕ, List, [], inl, inr, refl, sym, subst, ap, arith}
use Rattle.std.specs.Prelude.{Bool, Option, codes, false, true}
use Rattle.std.specs.Io.KnownBytes.{Keeps}
use Rattle.std.proofs.KnownBytes.{Keeps-refl}
use Rattle.std.proofs.lemmas.List.{append-nil}
use Rattle.sy_commands.specs.Graphs.{GraphIs}
use Rattle.sy_commands.specs.CommandReports.{SaysReport}
use Rattle.sy_commands.specs.Optioned.{EndsAs, FailsAs, KeepsAs}
use Rattle.sy_commands.specs.Outcomes.{FailsBy}
use Rattle.sy_commands.specs.Reports.{ReportedBy, ReportedFirst}
use Rattle.sy_report.specs.Reports.{Reported, SinkState, Streams, HasReported, said}
use Rattle.sy_commands.specs.Words.{OverSite, is_any}
use Rattle.sy_report.specs.declared.command_line.command.Asked.TheVariants as asked
use Rattle.sy_report.specs.declared.command_line.options.Options.{Options}
use Rattle.sy_commands.proofs.Ends.{asked_no_memory, verify_no_memory}
use Rattle.sy_commands.proofs.Replayed.{replay_no_memory}

pub memory_ends : (bytes_of : List ℕ → Option (List ℕ)) (command : OverSite) → EndsAs bytes_of command 3
memory_ends bytes_of (OverSite.Ask question site) = λ text known. asked_no_memory question bytes_of text
memory_ends bytes_of (OverSite.Replay site events) = λ text input known read. replay_no_memory bytes_of text input
memory_ends bytes_of (OverSite.Verify site certificate) = λ site_text text known read. verify_no_memory bytes_of site_text text
memory_ends bytes_of (OverSite.Draw class site) = tt

first : (old new : SinkState) (line : List ℕ) → Reported old new line → ReportedFirst old new line
first old new line reported = ([], subst (Reported old new) (sym (append-nil line)) reported)

reported_by : (reports_more : Bool) (old new : SinkState) (line : List ℕ) → Reported old new line → ReportedBy reports_more old new line
reported_by false old new line reported = reported
reported_by true old new line reported = first old new line reported

pub memory_draws : (bytes_of : List ℕ → Option (List ℕ)) (class : Option (List ℕ)) (text : List ℕ) (old new : Streams)
    → HasReported old new (said (codes "no memory")) → new.output ≡ old.output → GraphIs class bytes_of text 3 old new
memory_draws bytes_of class text old new reported same = inl (inr (inr (inl (refl, reported)), same))

pub memory_says : (bytes_of : List ℕ → Option (List ℕ)) (old new : Streams) → HasReported old new (said (codes "no memory")) → new.output ≡ old.output
    → (options : Options) (command : OverSite) → SaysReport bytes_of options command 3 old new
memory_says bytes_of old new reported same options (OverSite.Ask question site) = λ words text known.
    inr (inr (inl (refl, reported_by (is_any options) old.errors new.errors _ reported)), same)
memory_says bytes_of old new reported same options (OverSite.Replay site events) = λ words text input known read.
    inl (
      subst (Keeps old.output.contents) (sym (ap (λ s. s.contents) same)) (Keeps-refl old.output.contents),
      inr (inl (refl, same, reported_by (is_any options) old.errors new.errors _ reported)),
    )
memory_says bytes_of old new reported same options (OverSite.Verify site certificate) = λ words site_text text known read.
    inr (same, inr (inr (inl (refl, reported_by (is_any options) old.errors new.errors _ reported))))
memory_says bytes_of old new reported same options (OverSite.Draw class site) = λ text known. memory_draws bytes_of class text old new reported same

pub three_or_four : (n : ℕ) → n ≡ 3 → n ≡ 4 → ⊥
three_or_four n three four = omega (arith, three, four)

pub memory_fails : (MayFail : Type 0) (status : ℕ) (old new : Streams) → status ≡ 3 → FailsBy MayFail status old new
memory_fails MayFail status old new three four = absurd (three_or_four status three four)

pub memory_fails_as : (bytes_of : List ℕ → Option (List ℕ)) (MayFail PiecesFail : List ℕ → Type 0) (status : ℕ) (old new : Streams) → status ≡ 3
    → (command : OverSite) → FailsAs bytes_of MayFail PiecesFail command status old new
memory_fails_as bytes_of MayFail PiecesFail status old new three (OverSite.Ask question site) = λ text known four. absurd (three_or_four status three four)
memory_fails_as bytes_of MayFail PiecesFail status old new three (OverSite.Replay site events) = λ text input known read four.
    absurd (three_or_four status three four)
memory_fails_as bytes_of MayFail PiecesFail status old new three (OverSite.Verify site certificate) = λ text known four.
    absurd (three_or_four status three four)
memory_fails_as bytes_of MayFail PiecesFail status old new three (OverSite.Draw class site) = λ text known four. absurd (three_or_four status three four)

three_or_zero : (n : ℕ) → n ≡ 3 → n ≡ 0 → ⊥
three_or_zero n three zero = omega (arith, three, zero)

pub memory_keeps : (bytes_of : List ℕ → Option (List ℕ)) (status : ℕ) → status ≡ 3 → (command : OverSite) → KeepsAs bytes_of command status
memory_keeps bytes_of status three (OverSite.Ask asked.Check site) = λ text known zero. absurd (three_or_zero status three zero)
memory_keeps bytes_of status three (OverSite.Ask asked.Certify site) = tt
memory_keeps bytes_of status three (OverSite.Replay site events) = tt
memory_keeps bytes_of status three (OverSite.Verify site certificate) = λ text known zero. absurd (three_or_zero status three zero)
memory_keeps bytes_of status three (OverSite.Draw class site) = tt
