-- Which exit statuses a command may end with.
use Rattle.std.proofs.Common.{◌≡◌, ℕ, Bool, List, inl, inr, refl, sym, subst, ◌∙◌, arith}
use Rattle.std.specs.Prelude.{◌⊎◌, IfErr, IfOk, Option, Some, None, Result, Ok, Err, true, false, codes}
use Rattle.std.specs.List.{Any}
use Rattle.sy_wire.specs.Streams.{Rose}
use Rattle.sy_site.specs.Sites.{Site}
use Rattle.sy_commands.specs.Checks.{AskedIs, AskedReport, IsVerdict, SaysWith}
use Rattle.sy_report.specs.HaltTexts.{halt_report}
use Rattle.sy_commands.specs.Outcomes.{FailsBy, MayEnd}
use Rattle.sy_report.specs.Outcomes.{Prints, status_for}
use Rattle.sy_commands.specs.Reports.{HasReportedBy}
use Rattle.sy_commands.specs.Words.{is_any}
use Rattle.sy_report.specs.Reports.{SinkState, Streams, HasReported, said}
use Rattle.sy_report.specs.internal.Reports.{streams}
use Rattle.sy_commands.specs.SiteFiles.{HasNoAnswer}
use Rattle.sy_places.specs.SiteFiles.{IsSiteOf}
use Rattle.sy_commands.specs.Verdicts.{SaysOfFiles, VerifyIs, VerifyReport}
use Rattle.sy_report.specs.declared.outcome.answer.Answer.{Answer}
use Rattle.sy_report.specs.declared.command_line.command.Asked.{Asked}
use Rattle.sy_report.specs.declared.outcome.halt.Halt.{Halt}
use Rattle.sy_report.specs.declared.outcome.halt.Halt.TheVariants as halt
use Rattle.sy_report.specs.declared.command_line.options.Options.{Options}
use Rattle.sy_places.specs.Halts.{IsNoSite, IsUnread}
use Rattle.sy_report.specs.Halts.{status_at}
use Rattle.sy_commands.specs.Optioned.{DocumentEnds, HaltEnds, StopsBy}
use Rattle.sy_commands.specs.internal.Unverified.{HasNoVerdict}
use Rattle.sy_commands.proofs.Endings.{no_verdict, no_verdict_reported, site_gone}
use Rattle.sy_commands.proofs.Failing.{printing_fails, stops_by}

-- ---- streams that tell nothing

abbrev pub nothing : SinkState
nothing = record { contents = None; is_flushed = true; faults = 0 }

abbrev pub still : Streams
still = streams nothing nothing

prints : (text : List ℕ) (is_accepted : Bool) → Prints text is_accepted (status_for is_accepted) still still
prints text is_accepted = inl (refl, tt, refl, refl, refl)

reports : (line : List ℕ) → HasReported still still line
reports line = inl (tt, refl, refl)

-- no memory, or a failed read
pub no_memory : (bytes_of : List ℕ → Option (List ℕ)) (text : List ℕ) → HasNoAnswer bytes_of text 3 (HasReported still still)
no_memory bytes_of text = inr (inl (refl, reports (said (codes "no memory"))))

pub failed : (bytes_of : List ℕ → Option (List ℕ)) (text : List ℕ) → HasNoAnswer bytes_of text 4 (HasReported still still)
failed bytes_of text = inr (inr (refl, reports (said (codes "read failed"))))

-- ---- what is asked of one site

module _ (question : Asked) (bytes_of : List ℕ → Option (List ℕ)) (text : List ℕ) where
  gone : (status : ℕ) → HasNoAnswer bytes_of text status (HasReported still still) → MayEnd (AskedIs question bytes_of text) status
  gone status none = record { old = still; new = still; is = inr (none, refl) }

  pub asked_no_memory : MayEnd (AskedIs question bytes_of text) 3
  asked_no_memory = gone 3 (no_memory bytes_of text)

  asked_failed : MayEnd (AskedIs question bytes_of text) 4
  asked_failed = gone 4 (failed bytes_of text)

  halted : (why : Halt) → IsNoSite bytes_of text why → MayEnd (AskedIs question bytes_of text) (status_at why)
  halted why none = gone (status_at why) (site_gone bytes_of text why (status_at why) (HasReported still still) none refl (reports (halt_report why)))

  said_of : (site : Site) (is_accepted : Bool) → IsSiteOf bytes_of text site → IsVerdict question site is_accepted
      → MayEnd (AskedIs question bytes_of text) (status_for is_accepted)
  said_of site is_accepted is says = record { old = still; new = still; is = inl (site, is, says.0, is_accepted, says.1, prints says.0 is_accepted) }

-- ---- a status that is one of several

module _ (P : ℕ → Type 0) (three : P 3) (four : P 4) where
  printed_by : (text : List ℕ) (is_accepted : Bool) (status : ℕ) (old new : Streams) → P (status_for is_accepted)
      → Prints text is_accepted status old new → P status
  printed_by text is_accepted status old new p (inl printed) = subst P (sym printed.0) p
  printed_by text is_accepted status old new p (inr torn) = subst P (sym torn.0) four

  at_end : (why end : Halt) (before after status : ℕ) → P (status_at why) → status ≡ status_at end → DocumentEnds why end before after → P status
  at_end why end before after status p is (inl same) = subst P (sym (subst (λ h. status ≡ status_at h) same.0 is)) p
  at_end why end before after status p is (inr (inl memory)) = subst P (sym (subst (λ h. status ≡ status_at h) memory.0 is)) three
  at_end why end before after status p is (inr (inr torn)) = subst P (sym (subst (λ h. status ≡ status_at h) torn.0 is)) four

  pub halted_by : (why : Halt) (before after status : ℕ) → P (status_at why) → HaltEnds why status before after → P status
  halted_by why before after status p (end, is, ends) = at_end why end before after status p is ends

  pub answered_by : (answer : Result Answer Halt) (status : ℕ) (old new : Streams)
      → IfOk answer (λ a. P (status_for a.is_accepted)) → IfErr answer (λ why. P (status_at why))
      → IfOk answer (λ a. Prints a.text.items a.is_accepted status old new)
      → IfErr answer (λ why. HaltEnds why status old.output.faults new.output.faults) → P status
  answered_by (Ok a) status old new ok err printed stopped = printed_by a.text.items a.is_accepted status old new ok printed
  answered_by (Err why) status old new ok err printed stopped = halted_by why old.output.faults new.output.faults status err stopped

ok_map : {P Q : Answer → Type 0} (r : Result Answer Halt) → ((a : Answer) → P a → Q a) → IfOk r P → IfOk r Q
ok_map (Ok a) f h = f a h
ok_map (Err why) f h = tt

err_map : {P Q : Halt → Type 0} (r : Result Answer Halt) → ((w : Halt) → P w → Q w) → IfErr r P → IfErr r Q
err_map (Ok a) f h = tt
err_map (Err why) f h = f why h

-- what is asked of one site, with options
pub asked_ends : (question : Asked) (bytes_of : List ℕ → Option (List ℕ)) (name text : List ℕ) (answer : Result Answer Halt) (status : ℕ)
    (old new : Streams)
    → (Words : Site → Answer → Type 0) → IfOk answer (λ a. (t : List ℕ) → bytes_of name ≡ Some t
    → (site : Site) × IsSiteOf bytes_of t site × IsVerdict question site a.is_accepted × Words site a)
    → IfErr answer (λ why. (t : List ℕ) → bytes_of name ≡ Some t → IsNoSite bytes_of t why)
    → IfOk answer (λ a. Prints a.text.items a.is_accepted status old new)
    → IfErr answer (λ why. HaltEnds why status old.output.faults new.output.faults)
    → bytes_of name ≡ Some text → MayEnd (AskedIs question bytes_of text) status
asked_ends question bytes_of name text answer status old new Words ok err printed stopped known =
    answered_by (MayEnd (AskedIs question bytes_of text)) (asked_no_memory question bytes_of text) (asked_failed question bytes_of text)
    answer status old new
    (ok_map answer (λ a h. let said = h text known in said_of question bytes_of text said.0 a.is_accepted said.1 said.2) ok)
    (err_map answer (λ why h. halted question bytes_of text why (h text known)) err) printed stopped

-- ---- what is said of one site in words

-- its words, where no document is wanted
abbrev pub WordsOf : Asked → Options → Site → Answer → Type 0
WordsOf question options site a = options.json ≡ false → SaysWith question options site a.text.items a.is_accepted

pub asked_says : (question : Asked) (options : Options) (bytes_of : List ℕ → Option (List ℕ)) (name text : List ℕ) (answer : Result Answer Halt)
    (status : ℕ) (old new : Streams)
    → IfOk answer (λ a. (t : List ℕ) → bytes_of name ≡ Some t
    → (site : Site) × IsSiteOf bytes_of t site × IsVerdict question site a.is_accepted × WordsOf question options site a)
    → IfErr answer (λ why. (t : List ℕ) → bytes_of name ≡ Some t → IsNoSite bytes_of t why)
    → IfOk answer (λ a. Prints a.text.items a.is_accepted status old new)
    → (options.json ≡ false → IfErr answer (λ why. StopsBy (is_any options) why status old new))
    → options.json ≡ false → bytes_of name ≡ Some text → AskedReport question options bytes_of text status old new
asked_says question options bytes_of name text (Ok a) status old new ok err printed reported words known =
    let is = ok text known in
    inl (is.0, is.1, a.text.items, a.is_accepted, is.3 words, printed)
asked_says question options bytes_of name text (Err why) status old new ok err printed reported words known =
    let stops = reported words in
    inr (site_gone bytes_of text why status (HasReportedBy (is_any options) old new) (err text known) stops.status_is stops.reported, stops.same)

-- ---- a verify

module _ (bytes_of : List ℕ → Option (List ℕ)) (site text : List ℕ) where
  verify_gone : (status : ℕ) → HasNoAnswer bytes_of site status (HasReported still still) → MayEnd (VerifyIs bytes_of site text) status
  verify_gone status none = record { old = still; new = still; is = inr (refl, inr none) }

  pub verify_no_memory : MayEnd (VerifyIs bytes_of site text) 3
  verify_no_memory = verify_gone 3 (no_memory bytes_of site)

  verify_failed : MayEnd (VerifyIs bytes_of site text) 4
  verify_failed = verify_gone 4 (failed bytes_of site)

  verify_halted : (why : Halt) → HasNoVerdict bytes_of site text why → MayEnd (VerifyIs bytes_of site text) (status_at why)
  verify_halted why none = record {
    old = still;
    new = still;
    is = no_verdict bytes_of site text still still (status_at why) refl why none refl (reports (halt_report why));
  }

  verify_said : (bare : List ℕ) (is_accepted : Bool) → SaysOfFiles bytes_of site text bare is_accepted
      → MayEnd (VerifyIs bytes_of site text) (status_for is_accepted)
  verify_said bare is_accepted says = record { old = still; new = still; is = inl (bare, is_accepted, says, prints bare is_accepted) }

-- a verify with options
pub verify_ends : (bytes_of : List ℕ → Option (List ℕ)) (name other site text : List ℕ) (answer : Result Answer Halt) (status : ℕ) (old new : Streams)
    → IfOk answer (λ a. (s t : List ℕ) → bytes_of name ≡ Some s → bytes_of other ≡ Some t
    → (bare : List ℕ) × SaysOfFiles bytes_of s t bare a.is_accepted)
    → IfErr answer (λ why. (s t : List ℕ) → bytes_of name ≡ Some s → bytes_of other ≡ Some t → HasNoVerdict bytes_of s t why)
    → IfOk answer (λ a. Prints a.text.items a.is_accepted status old new)
    → IfErr answer (λ why. HaltEnds why status old.output.faults new.output.faults)
    → bytes_of name ≡ Some site → bytes_of other ≡ Some text → MayEnd (VerifyIs bytes_of site text) status
verify_ends bytes_of name other site text answer status old new ok err printed stopped is_site is_text =
    answered_by (MayEnd (VerifyIs bytes_of site text)) (verify_no_memory bytes_of site text) (verify_failed bytes_of site text)
    answer status old new
    (ok_map answer (λ a h. let said = h site text is_site is_text in verify_said bytes_of site text said.0 a.is_accepted said.1) ok)
    (err_map answer (λ why h. verify_halted bytes_of site text why (h site text is_site is_text)) err) printed stopped

-- what a verify says in words
pub verify_says : (options : Options) (bytes_of : List ℕ → Option (List ℕ)) (name other site text : List ℕ) (answer : Result Answer Halt) (status : ℕ)
    (old new : Streams)
    → IfOk answer (λ a. (s t : List ℕ) → bytes_of name ≡ Some s → bytes_of other ≡ Some t → SaysOfFiles bytes_of s t a.text.items a.is_accepted)
    → IfErr answer (λ why. (s t : List ℕ) → bytes_of name ≡ Some s → bytes_of other ≡ Some t → HasNoVerdict bytes_of s t why)
    → IfOk answer (λ a. Prints a.text.items a.is_accepted status old new)
    → IfErr answer (λ why. StopsBy (is_any options) why status old new)
    → bytes_of name ≡ Some site → bytes_of other ≡ Some text → VerifyReport options bytes_of site text status old new
verify_says options bytes_of name other site text (Ok a) status old new ok err printed stops is_site is_text =
    inl (a.text.items, a.is_accepted, ok site text is_site is_text, printed)
verify_says options bytes_of name other site text (Err why) status old new ok err printed stops is_site is_text =
    inr (stops.same, no_verdict_reported bytes_of site text status (HasReportedBy (is_any options) old new) why (err site text is_site is_text) stops.status_is stops.reported)

-- ---- status 4

pub halt_fails : (MayFail : Type 0) (Unread : Halt → Type 0) (why end : Halt) (status before after : ℕ) → (Unread halt.ReadFailed → MayFail)
    → (Unread halt.WriteFailed → ⊥) → Unread why → status ≡ status_at end → DocumentEnds why end before after → status ≡ 4
    → MayFail ⊎ Rose before after
halt_fails MayFail Unread why end status before after read written unread is (inl same) four =
    elim (stops_by Unread why (sym (subst (λ h. status ≡ status_at h) same.0 is) ∙ four) unread) [
      | inl failed ↦ inl (read failed)
      | inr never ↦ absurd (written never)
    ]
halt_fails MayFail Unread why end status before after read written unread is (inr (inl memory)) four =
    absurd (three_or_four status (subst (λ h. status ≡ status_at h) memory.0 is) four)
  where
    three_or_four : (n : ℕ) → n ≡ 3 → n ≡ 4 → ⊥
    three_or_four n three four = omega (arith, three, four)
halt_fails MayFail Unread why end status before after read written unread is (inr (inr torn)) four = inr torn.1

-- a command with options that prints one answer
pub fails_with : (MayFail : List ℕ → Type 0) (Known : List ℕ → Type 0) (names : List ℕ → List (List ℕ)) (answer : Result Answer Halt) (status : ℕ)
    (old new : Streams)
    → IfOk answer (λ a. Prints a.text.items a.is_accepted status old new)
    → IfErr answer (λ why. HaltEnds why status old.output.faults new.output.faults)
    → IfErr answer (λ why. (text : List ℕ) → Known text → IsUnread MayFail (names text) why)
    → (text : List ℕ) → Known text → FailsBy (Any MayFail (names text)) status old new
fails_with MayFail Known names (Ok a) status old new printed stopped unread text known =
    λ four. inr (printing_fails a.text.items a.is_accepted status old new printed four)
fails_with MayFail Known names (Err why) status old new printed (end, is, ends) unread text known = λ four.
    halt_fails (Any MayFail (names text)) (IsUnread MayFail (names text)) why end status old.output.faults new.output.faults
    (λ failed. failed) (λ never. never) (unread text known) is ends four
