-- What is said of the commands with options, over the example site: one of these fails where a definition comes to say less, or to be of other words.
use Rattle.std.proofs.Common.{◌≡◌, ℕ, Bool, true, false, List, [], ◌∷◌, ◌++◌, inl, inr, refl, sym, subst, ap, ◌∙◌, arith}
use Rattle.std.specs.List.{Any}
use Rattle.std.specs.Prelude.{Option, Some, None, codes, not, ◌⊎◌}
use Rattle.std.proofs.lemmas.List.{append-nil}
use Rattle.sy_cert.specs.declared.row.Row.{Row}
use Rattle.sy_fit.specs.Fit.{IsFit}
use Rattle.sy_site.specs.Sites.{Site}
use Rattle.sy_site.specs.machine.Soundness.{IsSound}
use Rattle.sy_site.specs.texts.Describes.{Describes, File}
use Rattle.sy_site.specs.texts.Files.{file_names}
use Rattle.sy_wire.specs.Streams.{Rose}
use Rattle.sy_wire.specs.declared.class.Class.{Class}
use Rattle.sy_site.specs.declared.fault.SiteFault.{SiteFault}
use Rattle.sy_cert.specs.declared.fault.TextFault.{TextFault}
use Rattle.sy_site.specs.Finding.{IsTrueFinding}
use Rattle.sy_checker.specs.Survey.{IsSurvey}
use Rattle.sy_site.specs.declared.finding.Finding.{Finding}
use Rattle.sy_checker.specs.declared.kinds.groups.Group.{Group}
use Rattle.syc.specs.Optioned.{AskedInWordsIs}
use Rattle.sy_commands.specs.Checks.{BeginsInWords, SaysBy, SaysCertifiedInWords}
use Rattle.sy_findings.specs.declared.verdicts.instances.Instance.{Instance}
use Rattle.sy_findings.specs.Checks.{AreLinesInWords, IsTally, IsTallyInWords, KeepsAll, accepted_line, finding_text, instance_text}
use Rattle.syc.specs.Examples.{IsAccepted, IsCertified, IsReplayed, IsTheSite, IsVerified, Printed, bytes_of}
use Rattle.sy_commands.specs.Graphs.{GraphIs, IsClass, ReportsNoClass}
use Rattle.sy_drawing.specs.Graphs.{IsNoClass}
use Rattle.sy_report.specs.HaltTexts.{halt_report, site_report}
use Rattle.sy_commands.specs.Optioned.{EndsAs, FailsAs, KeepsAs}
use Rattle.syc.specs.Optioned.{SaysAs}
use Rattle.sy_report.specs.Outcomes.{Prints}
use Rattle.syc.specs.Optioned.{ReplayInWordsIs}
use Rattle.syc.specs.Optioned.{HasReportedFirst}
use Rattle.sy_report.specs.Reports.{Streams, HasReported}
use Rattle.sy_report.specs.Texts.{class_text}
use Rattle.sy_commands.specs.SiteFiles.{HasNoAnswer}
use Rattle.sy_places.specs.SiteFiles.{IsSiteFault}
use Rattle.sy_commands.specs.Verdicts.{DescribesKept, IsFaultyCertificate}
use Rattle.syc.specs.Optioned.{VerifyInWordsIs}
use Rattle.sy_commands.specs.Words.{AreGraphWords, CallFor, OverSite, allows}
use Rattle.syc.specs.Words.{AreOptioned}
use Rattle.sy_report.specs.Words.{HaveOptions, bare_of, once_if}
use Rattle.sy_report.specs.declared.command_line.command.Asked.{Asked}
use Rattle.sy_report.specs.declared.command_line.command.Asked.TheVariants as asked
use Rattle.syc.specs.declared.examples.TheConstants.{CERTIFICATE, EVENTS, SITE}
use Rattle.sy_report.specs.declared.outcome.halt.Halt.TheVariants as halt
use Rattle.sy_report.specs.declared.command_line.options.Options.{Options}
use Rattle.syc.proofs.ExampleEndings.{certified, checked, eight_kept, not_refused, printed_whole, replayed, some_answer, the_site, verified, whole_replay}

-- ---- the words

abbrev explaining : Options
explaining = record { explain = true; all = false; json = false }

abbrev reporting_all : Options
reporting_all = record { explain = false; all = true; json = false }

abbrev both : Options
both = record { explain = true; all = true; json = false }

words_of_check : AreOptioned (codes "check" ∷ codes "--explain" ∷ codes "site" ∷ []) explaining (OverSite.Ask asked.Check (codes "site"))
words_of_check = record {
  bare = codes "check" ∷ codes "site" ∷ [];
  have = record { bare_are = refl; explain = refl; all = refl; json = refl };
  some = refl;
  allowed = refl;
  call = record { words_are = refl; site_plain = refl };
}

words_of_all : AreOptioned (codes "--all" ∷ codes "check" ∷ codes "site" ∷ codes "--explain" ∷ []) both (OverSite.Ask asked.Check (codes "site"))
words_of_all = record {
  bare = codes "check" ∷ codes "site" ∷ [];
  have = record { bare_are = refl; explain = refl; all = refl; json = refl };
  some = refl;
  allowed = refl;
  call = record { words_are = refl; site_plain = refl };
}

words_of_verify : AreOptioned (codes "verify" ∷ codes "site" ∷ codes "cert" ∷ codes "--json" ∷ [])
    (record { explain = false; all = false; json = true }) (OverSite.Verify (codes "site") (codes "cert"))
words_of_verify = record {
  bare = codes "verify" ∷ codes "site" ∷ codes "cert" ∷ [];
  have = record { bare_are = refl; explain = refl; all = refl; json = refl };
  some = refl;
  allowed = refl;
  call = record { words_are = refl; site_plain = refl; certificate_plain = refl };
}

words_of_replay : AreOptioned (codes "replay" ∷ codes "--explain" ∷ codes "site" ∷ codes "events" ∷ [])
    explaining (OverSite.Replay (codes "site") (codes "events"))
words_of_replay = record {
  bare = codes "replay" ∷ codes "site" ∷ codes "events" ∷ [];
  have = record { bare_are = refl; explain = refl; all = refl; json = refl };
  some = refl;
  allowed = refl;
  call = record { words_are = refl; site_plain = refl; events_plain = refl };
}

words_of_graph : AreGraphWords None (codes "graph" ∷ codes "site" ∷ []) (codes "site")
words_of_graph = (refl, refl)

words_of_class : AreGraphWords (Some (codes "auth.crit")) (codes "graph" ∷ codes "--class" ∷ codes "auth.crit" ∷ codes "site" ∷ []) (codes "site")
words_of_class = (inl refl, refl, refl)

-- the making of a certificate tells no more than one finding
two_words : (a b c d : List ℕ) → a ∷ b ∷ [] ≡ c ∷ d ∷ [] → a ≡ c
two_words a b c d e = cc

two_or_three : (a b c d e : List ℕ) → a ∷ b ∷ [] ≡ c ∷ d ∷ e ∷ [] → ⊥
two_or_three a b c d e same = cc

second_letter : {a b c d : ℕ} {xs ys : List ℕ} → a ∷ b ∷ xs ≡ c ∷ d ∷ ys → b ≡ d
second_letter e = cc

e_or_h : (a b : ℕ) → a ≡ 101 → b ≡ 104 → a ≡ b → ⊥
e_or_h a b e h same = omega (arith, e, h, same)

certify_or_check : codes "certify" ≡ codes "check" → ⊥
certify_or_check same = e_or_h 101 104 refl refl (second_letter same)

all_or_none : (b : Bool) → 1 ≡ once_if b → not b ≡ true → ⊥
all_or_none true is none = cc
all_or_none false is none = omega (arith, is)

certify_reports_no_more : (options : Options) (command : OverSite) → AreOptioned (codes "certify" ∷ codes "--all" ∷ codes "site" ∷ []) options command → ⊥
certify_reports_no_more options (OverSite.Ask asked.Check site) are =
    certify_or_check (two_words _ _ _ _ (sym are.have.bare_are ∙ are.call.words_are))
certify_reports_no_more options (OverSite.Ask asked.Certify site) are = all_or_none options.all are.have.all are.allowed
certify_reports_no_more options (OverSite.Replay site events) are = two_or_three _ _ _ _ _ (sym are.have.bare_are ∙ are.call.words_are)
certify_reports_no_more options (OverSite.Verify site certificate) are = two_or_three _ _ _ _ _ (sym are.have.bare_are ∙ are.call.words_are)
certify_reports_no_more options (OverSite.Draw class site) are = are.call

-- ---- what is printed

true_or_false : {b : Bool} → b ≡ true → b ≡ false → ⊥
true_or_false is other = cc

-- what is said of a site that is accepted
said_kept : (is_explained reports_all : Bool) (site : Site) (said : List ℕ) (is_accepted : Bool) → SaysBy is_explained reports_all site said is_accepted
    → is_accepted ≡ true → (count : ℕ) × KeepsAll site count × (said ≡ accepted_line count)
said_kept false false site said is_accepted (inl kept) accepts = (kept.count, kept.keeps, kept.text_is)
said_kept true false site said is_accepted (inl kept) accepts = (kept.count, kept.keeps, kept.text_is)
said_kept false true site said is_accepted (inl kept) accepts = (kept.count, kept.keeps, kept.text_is)
said_kept true true site said is_accepted (inl kept) accepts = (kept.count, kept.keeps, kept.text_is)
said_kept false false site said is_accepted (inr found) accepts = absurd (true_or_false accepts found.refused)
said_kept true false site said is_accepted (inr found) accepts = absurd (true_or_false accepts found.refused)
said_kept false true site said is_accepted (inr found) accepts = absurd (true_or_false accepts found.refused)
said_kept true true site said is_accepted (inr found) accepts = absurd (true_or_false accepts found.refused)

-- and of one that is refused with all that is found in it: it isn't sound
refused_unsound : (is_explained : Bool) (site : Site) (said : List ℕ) → SaysBy is_explained true site said false → IsSound site → ⊥
refused_unsound false site said (inl kept) sound = true_or_false kept.accepted refl
refused_unsound true site said (inl kept) sound = true_or_false kept.accepted refl
refused_unsound false site said (inr found) sound = found.unsound sound
refused_unsound true site said (inr found) sound = found.unsound sound

-- with all of them, each in a line
all_reported : (site : Site) (text : List ℕ) → SaysBy false true site text false → (groups : List Group) × IsSurvey site groups × IsTally site groups text
all_reported site text (inl kept) = absurd (true_or_false kept.accepted refl)
all_reported site text (inr found) = (found.groups, found.is_survey, found.is_tally)

all_reported_in_words : (site : Site) (text : List ℕ) → SaysBy true true site text false
    → (groups : List Group) × IsSurvey site groups × IsTallyInWords site groups text
all_reported_in_words site text (inl kept) = absurd (true_or_false kept.accepted refl)
all_reported_in_words site text (inr found) = (found.groups, found.is_survey, found.is_tally)

-- a line for one instance, with words behind it
one_in_words : (site : Site) (instance : Instance) (text : List ℕ) → AreLinesInWords site (instance ∷ []) text
    → (names words : List ℕ) × (text ≡ names ++ instance_text site instance ++ words)
one_in_words site instance text (names, words, rest, is, none) =
    (names, words, is ∙ ap (λ r. names ++ instance_text site instance ++ words ++ r) none ∙ append-nil (names ++ instance_text site instance ++ words))

-- one finding is told that is true, with nothing but words behind it
abbrev IsReportedOf : Site → List ℕ → Type 0
IsReportedOf site text = (found : Finding) × IsTrueFinding site found × (words : List ℕ) × (text ≡ finding_text site found ++ words)

explained_reported : (site : Site) (text : List ℕ) → SaysBy true false site text false → IsReportedOf site text
explained_reported site text (inl kept) = absurd (true_or_false kept.accepted refl)
explained_reported site text (inr found) = (found.found, found.is_true, found.words, found.text_is)

certified_reported : (site : Site) (text : List ℕ) → SaysCertifiedInWords site text false → IsReportedOf site text
certified_reported site text (inl fit) = absurd (true_or_false fit.accepted refl)
certified_reported site text (inr found) = (found.found, found.is_true, found.words, found.text_is)

-- the one site that the texts describe keeps all messages of eight classes, which was printed, with more behind it
record IsAcceptedInWords (more : List ℕ) (old new : Streams) : Type 0 where
  site : Site
  is : IsTheSite site
  keeps : KeepsAll site 8
  printed : Printed (accepted_line 8 ++ more) old new

module _ (one : (text : List ℕ) (files : List File) (a b : Site) → Describes text files a → Describes text files b → a ≡ b)
    (status : ℕ) (old new : Streams) (ends : status ≡ 0) where
  accepted_by : (options : Options) (site : Site) (text : List ℕ) (is_accepted : Bool) → is_accepted ≡ true → BeginsInWords options site text is_accepted
      → Prints text true status old new → (count : ℕ) → count ≡ 8 → KeepsAll site count → (more : List ℕ) → text ≡ accepted_line count ++ more
      → IsTheSite site → IsAcceptedInWords more old new
  accepted_by options site text is_accepted accepts begins printed count eight keeps more is the = record {
    site = site;
    is = the;
    keeps = subst (KeepsAll site) eight keeps;
    printed = subst (λ t. Printed t old new) (is ∙ ap (λ n. accepted_line n ++ more) eight) (printed_whole one text status old new printed ends);
  }

  -- a check in words that ends with 0
  checked_in_words : (options : Options) → AskedInWordsIs asked.Check options bytes_of SITE.now status old new
      → (more : List ℕ) × (options.explain ≡ false → more ≡ []) × IsAcceptedInWords more old new
  checked_in_words options (inl (site, is, text, true, begins, printed)) =
      let kept = said_kept options.explain options.all site begins.0 true begins.4 refl in (
        begins.1,
        begins.3,
        accepted_by options site text true refl begins printed kept.0 (eight_kept one site kept.0 is kept.1) kept.1 begins.1
            (begins.2 ∙ ap (λ t. t ++ begins.1) kept.2) (the_site one site is),
      )
  checked_in_words options (inl (site, is, text, false, begins, printed)) = absurd (not_refused one text false status old new refl printed ends)
  checked_in_words options (inr none) = absurd (some_answer one status (HasReportedFirst old new) none.0 ends)

  check_explained : SaysAs bytes_of explaining (OverSite.Ask asked.Check (codes "site")) status old new → (more : List ℕ) × IsAcceptedInWords more old new
  check_explained says = let found = checked_in_words explaining (says refl SITE.now refl) in (found.0, found.2)

  check_both : SaysAs bytes_of both (OverSite.Ask asked.Check (codes "site")) status old new → (more : List ℕ) × IsAcceptedInWords more old new
  check_both says = let found = checked_in_words both (says refl SITE.now refl) in (found.0, found.2)

  -- Nothing stands behind it where nothing is explained.
  check_all : SaysAs bytes_of reporting_all (OverSite.Ask asked.Check (codes "site")) status old new → IsAccepted old new
  check_all says =
      let found = checked_in_words reporting_all (says refl SITE.now refl) in record {
        site = found.2.site;
        is = found.2.is;
        keeps = found.2.keeps;
        printed = subst (λ t. Printed t old new) (ap (λ m. accepted_line 8 ++ m) (found.1 refl) ∙ append-nil (accepted_line 8)) found.2.printed;
      }

  certified_in_words : ((site : Site) (rows : List Row) → IsFit site rows → IsSound site)
      → AskedInWordsIs asked.Certify explaining bytes_of SITE.now status old new → IsCertified old new
  certified_in_words fit_is_sound (inl (site, is, text, is_accepted, inl made, printed)) =
      certified one fit_is_sound status old new (inl (site, is, text, is_accepted, inl made, printed)) ends
  certified_in_words fit_is_sound (inl (site, is, text, is_accepted, inr found, printed)) =
      absurd (not_refused one text is_accepted status old new found.refused printed ends)
  certified_in_words fit_is_sound (inr none) = absurd (some_answer one status (HasReportedFirst old new) none.0 ends)

  certify_explained : ((site : Site) (rows : List Row) → IsFit site rows → IsSound site)
      → SaysAs bytes_of explaining (OverSite.Ask asked.Certify (codes "site")) status old new → IsCertified old new
  certify_explained fit_is_sound says = certified_in_words fit_is_sound (says refl SITE.now refl)

  verified_in_words : VerifyInWordsIs bytes_of SITE.now CERTIFICATE.now status old new → IsAccepted old new × IsVerified
  verified_in_words (inl answer) = verified one status old new (inl answer) ends
  verified_in_words (inr (same, inl faulty)) = absurd (omega (arith, faulty.0, ends))
  verified_in_words (inr (same, inr none)) = absurd (some_answer one status (HasReportedFirst old new) none ends)

  verify_explained : SaysAs bytes_of explaining (OverSite.Verify (codes "site") (codes "cert")) status old new → IsAccepted old new × IsVerified
  verify_explained says = verified_in_words (says refl SITE.now CERTIFICATE.now refl refl)

  replayed_in_words : ReplayInWordsIs bytes_of SITE.now EVENTS.now status old new → IsReplayed old new
  replayed_in_words (inl (kept, inl none)) = absurd (some_answer one status (HasReportedFirst old new) none.0 ends)
  replayed_in_words (inl (kept, inr (inl no_memory))) = absurd (omega (arith, no_memory.0, ends))
  replayed_in_words (inl (kept, inr (inr unwritten))) = absurd (omega (arith, unwritten.0, ends))
  replayed_in_words (inr (site, is, r)) =
      let whole = whole_replay one site r.out r.ending status old.output new.output r.replays r.left r.status_is ends in
      record { site = site; is = the_site one site is; out = r.out; replays = whole.0; wrote = r.wrote; flushed = whole.1 }

  replay_explained : SaysAs bytes_of explaining (OverSite.Replay (codes "site") (codes "events")) status old new → IsReplayed old new
  replay_explained says = replayed_in_words (says refl SITE.now EVENTS.now refl refl)

  -- a drawing
  drawn : (class : Option (List ℕ)) → GraphIs class bytes_of SITE.now status old new → (site : Site) × IsTheSite site × (text : List ℕ) × Printed text old new
  drawn class (inl (inl (site, is, text, is_accepted, accepts, printed))) = (
    site,
    the_site one site is,
    text,
    printed_whole one text status old new (subst (λ b. Prints text b status old new) accepts.0 printed) ends,
  )
  drawn class (inl (inr none)) = absurd (some_answer one status (HasReported old new) none.0 ends)
  drawn class (inr (word, is, isnt, two, same, line, reported)) = absurd (omega (arith, two, ends))

-- A check may end with 0 only where it may accept the site without options.
check_ends : ((text : List ℕ) (files : List File) (a b : Site) → Describes text files a → Describes text files b → a ≡ b)
    → EndsAs bytes_of (OverSite.Ask asked.Check (codes "site")) 0 → (old new : Streams) × IsAccepted old new
check_ends one ends = let may = ends SITE.now refl in (may.old, may.new, checked one 0 may.old may.new may.is refl)

certify_ends : ((text : List ℕ) (files : List File) (a b : Site) → Describes text files a → Describes text files b → a ≡ b)
    → ((site : Site) (rows : List Row) → IsFit site rows → IsSound site)
    → EndsAs bytes_of (OverSite.Ask asked.Certify (codes "site")) 0 → (old new : Streams) × IsCertified old new
certify_ends one fit_is_sound ends = let may = ends SITE.now refl in (may.old, may.new, certified one fit_is_sound 0 may.old may.new may.is refl)

verify_ends : ((text : List ℕ) (files : List File) (a b : Site) → Describes text files a → Describes text files b → a ≡ b)
    → EndsAs bytes_of (OverSite.Verify (codes "site") (codes "cert")) 0 → (old new : Streams) × IsAccepted old new
verify_ends one ends =
    let may = ends SITE.now CERTIFICATE.now refl refl in
    (may.old, may.new, (verified one 0 may.old may.new may.is refl).0)

replay_ends : ((text : List ℕ) (files : List File) (a b : Site) → Describes text files a → Describes text files b → a ≡ b)
    → EndsAs bytes_of (OverSite.Replay (codes "site") (codes "events")) 0 → (old new : Streams) × IsReplayed old new
replay_ends one ends = let may = ends SITE.now EVENTS.now refl refl in (may.old, may.new, replayed one 0 may.old may.new may.is refl)

-- With status 0 the site is kept, whatever is told of it.
check_keeps : KeepsAs bytes_of (OverSite.Ask asked.Check (codes "site")) 0 → DescribesKept bytes_of SITE.now
check_keeps keeps = keeps SITE.now refl refl

verify_keeps : KeepsAs bytes_of (OverSite.Verify (codes "site") (codes "cert")) 0 → DescribesKept bytes_of SITE.now
verify_keeps keeps = keeps SITE.now refl refl

-- ---- a class

abbrev auth_crit : Class
auth_crit = record { facility = 4; severity = 2; facility_in_range = omega arith; severity_in_range = omega arith }

-- A class isn't refused by its name.
auth_crit_is_one : IsNoClass (class_text auth_crit) → ⊥
auth_crit_is_one none = none auth_crit refl

known_is_reported : (status : ℕ) (old new : Streams) → ReportsNoClass (Some (class_text auth_crit)) status old new → ⊥
known_is_reported status old new reports = auth_crit_is_one (subst IsNoClass (sym (same_some reports.1)) reports.2)
  where
    same_some : {v w : List ℕ} → Some v ≡ Some w → v ≡ w
    same_some e = cc

-- What is drawn is a class.
drawn_is_class : (word : List ℕ) (old new : Streams) → GraphIs (Some word) bytes_of SITE.now 0 old new → IsClass word
drawn_is_class word old new (inl (inl (site, is, text, is_accepted, says, printed))) = says.1
drawn_is_class word old new (inl (inr (inl faulty, same))) = absurd (omega (arith, faulty.0))
drawn_is_class word old new (inl (inr (inr (inl memory), same))) = absurd (omega (arith, memory.0))
drawn_is_class word old new (inl (inr (inr (inr unread), same))) = absurd (omega (arith, unread.0))
drawn_is_class word old new (inr reports) = absurd (zero_or_two reports.3)
  where
    zero_or_two : ◌≡◌ {A = ℕ} 0 2 → ⊥
    zero_or_two e = omega (arith, e)

-- Nor is a drawing of all classes.
all_are_drawn : (status : ℕ) (old new : Streams) → ReportsNoClass None status old new → ⊥
all_are_drawn status old new reports = none_or_some reports.1
  where
    none_or_some : {w : List ℕ} → None ≡ Some w → ⊥
    none_or_some e = cc

-- ---- faults

printed_at_two : (text : List ℕ) (is_accepted : Bool) (old new : Streams) → Prints text is_accepted 2 old new → ⊥
printed_at_two text true old new (inl printed) = omega (arith, printed.0)
printed_at_two text false old new (inl printed) = omega (arith, printed.0)
printed_at_two text is_accepted old new (inr torn) = omega (arith, torn.0)

-- A fault of the site file is there, its line stands first, and nothing is printed.
fault_reported : (bytes_of : List ℕ → Option (List ℕ)) (text : List ℕ) (old new : Streams) → HasNoAnswer bytes_of text 2 (HasReportedFirst old new)
    → (fault : SiteFault) × IsSiteFault bytes_of text fault × HasReportedFirst old new (site_report fault)
fault_reported bytes_of text old new (inl faulty) = (faulty.1, faulty.2, faulty.3)
fault_reported bytes_of text old new (inr (inl memory)) = absurd (omega (arith, memory.0))
fault_reported bytes_of text old new (inr (inr unread)) = absurd (omega (arith, unread.0))

ask_faulty : (question : Asked) (options : Options) (bytes_of : List ℕ → Option (List ℕ)) (text : List ℕ) (old new : Streams)
    → AskedInWordsIs question options bytes_of text 2 old new
    → (new.output ≡ old.output) × (fault : SiteFault) × IsSiteFault bytes_of text fault × HasReportedFirst old new (site_report fault)
ask_faulty question options bytes_of text old new (inl (site, is, printed, is_accepted, says, prints)) =
    absurd (printed_at_two printed is_accepted old new prints)
ask_faulty question options bytes_of text old new (inr (none, same)) =
    let reported = fault_reported bytes_of text old new none in (same, reported.0, reported.1, reported.2)

verify_faulty : (bytes_of : List ℕ → Option (List ℕ)) (text certificate : List ℕ) (old new : Streams) → VerifyInWordsIs bytes_of text certificate 2 old new
    → (new.output ≡ old.output) × (((fault : TextFault) × IsFaultyCertificate bytes_of text certificate fault
    × HasReportedFirst old new (halt_report (halt.Certificate fault)))
    ⊎ ((fault : SiteFault) × IsSiteFault bytes_of text fault × HasReportedFirst old new (site_report fault)))
verify_faulty bytes_of text certificate old new (inl (printed, is_accepted, says, prints)) = absurd (printed_at_two printed is_accepted old new prints)
verify_faulty bytes_of text certificate old new (inr (same, inl faulty)) = (same, inl (faulty.1, faulty.2, faulty.3))
verify_faulty bytes_of text certificate old new (inr (same, inr none)) = (same, inr (fault_reported bytes_of text old new none))

-- ---- status 4

failing_reads : (names : List (List ℕ)) → Any (λ _. ⊥) names → ⊥
failing_reads names (k, name, low, is, fails) = fails

-- Where no read may fail, a write did.
check_fails : (old new : Streams) → FailsAs bytes_of (λ _. ⊥) (λ _. ⊥) (OverSite.Ask asked.Check (codes "site")) 4 old new
    → Rose old.output.faults new.output.faults
check_fails old new fails = elim (fails SITE.now refl refl) [
  | inl read ↦ absurd (failing_reads (codes "site" ∷ file_names SITE.now) read)
  | inr rose ↦ rose
]

verify_fails : (old new : Streams) → FailsAs bytes_of (λ _. ⊥) (λ _. ⊥) (OverSite.Verify (codes "site") (codes "cert")) 4 old new
    → Rose old.output.faults new.output.faults
verify_fails old new fails = elim (fails SITE.now refl refl) [
  | inl read ↦ absurd (failing_reads (codes "site" ∷ codes "cert" ∷ file_names SITE.now) read)
  | inr rose ↦ rose
]

replay_fails : (old new : Streams) → FailsAs bytes_of (λ _. ⊥) (λ _. ⊥) (OverSite.Replay (codes "site") (codes "events")) 4 old new
    → Rose old.output.faults new.output.faults
replay_fails old new fails = elim (fails SITE.now EVENTS.now refl refl refl) [
  | inl (inl read) ↦ absurd (failing_reads (codes "site" ∷ codes "events" ∷ file_names SITE.now) read)
  | inl (inr pieces) ↦ absurd pieces
  | inr rose ↦ rose
]
