-- What is reported of each command by itself, from what is reported of all.
use Rattle.std.proofs.Common.{◌≡◌, ℕ, Bool, List, [], ◌∷◌, ◌++◌, inl, inr, refl, sym, subst, ap, ◌∙◌}
use Rattle.std.specs.Prelude.{◌⊎◌, Option, Some, true, false}
use Rattle.std.proofs.lemmas.List.{append-nil}
use Rattle.sy_site.specs.Sites.{Site}
use Rattle.sy_report.specs.Reports.{Streams, HasReported}
use Rattle.sy_report.specs.declared.command_line.command.Asked.{Asked}
use Rattle.sy_report.specs.declared.command_line.command.Asked.TheVariants as asked
use Rattle.sy_report.specs.declared.command_line.options.Options.{Options}
use Rattle.sy_commands.specs.Checks.{AskedIs, AskedReport, Says, SaysWith}
use Rattle.sy_commands.specs.CommandReports.{SaysReport}
use Rattle.syc.specs.Optioned.{SaysAs}
use Rattle.sy_commands.specs.Outcomes.{AnswersReporting}
use Rattle.sy_commands.specs.Replays.{EndsReplay}
use Rattle.sy_commands.specs.Reports.{HasReportedBy}
use Rattle.syc.specs.Optioned.{HasReportedFirst}
use Rattle.sy_commands.specs.Verdicts.{VerifiesReporting}
use Rattle.sy_commands.specs.Words.{OverSite, is_any}
use Rattle.sy_commands.specs.Requests.{no_options}

-- what is said without options
bare_says : (question : Asked) (site : Site) (text : List ℕ) (is_accepted : Bool) → SaysWith question no_options site text is_accepted
    → Says question site text is_accepted
bare_says asked.Check site text is_accepted (said, more, is, none, says) =
    subst (λ t. Says asked.Check site t is_accepted) (sym (is ∙ ap (λ m. said ++ m) (none refl) ∙ append-nil said)) says
bare_says asked.Certify site text is_accepted says = says

pub asked_alone : (question : Asked) (bytes_of : List ℕ → Option (List ℕ)) (text : List ℕ) (status : ℕ) (old new : Streams)
    → AskedReport question no_options bytes_of text status old new → AskedIs question bytes_of text status old new
asked_alone question bytes_of text status old new (inl (site, is, printed, is_accepted, says, prints)) =
    inl (site, is, printed, is_accepted, bare_says question site printed is_accepted says, prints)
asked_alone question bytes_of text status old new (inr none) = inr none

-- with an option more may be told
reports_first : (options : Options) (old new : Streams) → is_any options ≡ true → (P : (List ℕ → Type 0) → Type 0) → P (HasReportedBy (is_any options) old new)
    → P (HasReportedFirst old new)
reports_first options old new some P h = subst (λ b. P (HasReportedBy b old new)) some h

pub says_as : (bytes_of : List ℕ → Option (List ℕ)) (options : Options) (command : OverSite) (status : ℕ) (old new : Streams) → is_any options ≡ true
    → SaysReport bytes_of options command status old new → SaysAs bytes_of options command status old new
says_as bytes_of options (OverSite.Ask question site) status old new some says = λ words text known.
    reports_first options old new some (λ reported. AnswersReporting reported (SaysWith question options) bytes_of text status old new) (says words text known)
says_as bytes_of options (OverSite.Replay site events) status old new some says = λ words text input known read.
    reports_first options old new some (λ reported. EndsReplay bytes_of text input status old.output new.output reported) (says words text input known read)
says_as bytes_of options (OverSite.Verify site certificate) status old new some says = λ words site_text text known read.
    reports_first options old new some (λ reported. VerifiesReporting reported bytes_of site_text text status old new) (says words site_text text known read)
says_as bytes_of options (OverSite.Draw class site) status old new some says = tt
