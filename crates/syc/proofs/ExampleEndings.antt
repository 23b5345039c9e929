-- What the commands over the example site show.
use Rattle.std.proofs.Common.{◌≡◌, ℕ, zero, suc, ◌⊎◌, inl, inr, Bool, true, false, List, [], ◌∷◌, length, map, refl, sym, ap, subst, ◌∙◌, arith}
use Rattle.std.specs.List.{Any}
use Rattle.std.specs.Prelude.{IfSome, Some, None, codes}
use Rattle.sy_cert.specs.declared.row.Row.{Row}
use Rattle.sy_fit.specs.Fit.{IsFit}
use Rattle.sy_site.specs.Sites.{Site}
use Rattle.sy_site.specs.machine.Soundness.{IsSound}
use Rattle.sy_site.specs.texts.Describes.{Describes, File, file_named}
use Rattle.sy_site.specs.texts.Files.{file_names}
use Rattle.sy_site.specs.texts.Lines.{words}
use Rattle.sy_tunnels.specs.Tunnels.{machine_text}
use Rattle.sy_commands.specs.Checks.{AskedIs}
use Rattle.sy_findings.specs.Checks.{KeepsAll, accepted_line}
use Rattle.syc.specs.Examples.{IsAccepted, IsCertified, IsReplayed, IsTheSite, IsVerified, Printed, bytes_of, files, relay_files}
use Rattle.sy_commands.specs.Outcomes.{FailsBy}
use Rattle.sy_report.specs.Outcomes.{Prints}
use Rattle.sy_commands.specs.Replays.{Ending, MayRise, PiecesMayFail, ReplayIs, Replays, lines_of, opened}
use Rattle.sy_report.specs.Reports.{SinkState, Streams, HasReported}
use Rattle.sy_commands.specs.Replays as replays
use Rattle.sy_commands.specs.SiteFiles.{HasNoAnswer, HaveBytes}
use Rattle.sy_host_parameters.specs.HostParameters.{IsMachineText, may_give}
use Rattle.sy_places.specs.SiteFiles.{AreGiven, AreMachineFiles, IsSiteOf}
use Rattle.sy_commands.specs.Verdicts.{VerifyIs}
use Rattle.sy_report.specs.declared.command_line.command.Asked.TheVariants as asked
use Rattle.syc.specs.declared.examples.TheConstants.{CERTIFICATE, EDGE, EVENTS, HUB, SITE}
use Rattle.syc.proofs.Example.{eight, names_are}

-- ---- the one site

no_both : {b : Bool} → b ≡ true → b ≡ false → ⊥
no_both is other = cc

no_names : {a b : List ℕ} → [] ≡ a ∷ b ∷ [] → ⊥
no_names e = cc

one_name : {x a b : List ℕ} → x ∷ [] ≡ a ∷ b ∷ [] → ⊥
one_name e = cc

more_names : {x y z a b : List ℕ} {zs : List (List ℕ)} → x ∷ y ∷ z ∷ zs ≡ a ∷ b ∷ [] → ⊥
more_names e = cc

first_name : {x y a b : List ℕ} → x ∷ y ∷ [] ≡ a ∷ b ∷ [] → x ≡ a
first_name e = cc

second_name : {x y a b : List ℕ} → x ∷ y ∷ [] ≡ a ∷ b ∷ [] → y ≡ b
second_name e = cc

same_file : (x : File) (name bytes : List ℕ) → x.name ≡ name → x.bytes ≡ bytes → x ≡ record { name = name; bytes = bytes }
same_file x name bytes is are = λ i. record { name = is i; bytes = are i }

bytes_known : (x : File) (name bytes : List ℕ) → x.name ≡ name → bytes_of name ≡ Some bytes → IfSome (bytes_of x.name) (λ b. x.bytes ≡ b) → x.bytes ≡ bytes
bytes_known x name bytes is known h = subst (λ o. IfSome o (λ b. x.bytes ≡ b)) (ap bytes_of is ∙ known) h

given_are : (given : List File) → map (λ f. f.name) given ≡ codes "edge.conf" ∷ codes "hub.conf" ∷ [] → AreGiven bytes_of given → given ≡ relay_files
given_are [] names given = absurd (no_names names)
given_are (x ∷ []) names given = absurd (one_name names)
given_are (x ∷ y ∷ z ∷ zs) names given = absurd (more_names names)
given_are (x ∷ y ∷ []) names given =
    let first = same_file x (codes "edge.conf") EDGE.now (first_name names) (bytes_known x (codes "edge.conf") EDGE.now (first_name names) refl given.0) in
    let second = same_file y (codes "hub.conf") HUB.now (second_name names) (bytes_known y (codes "hub.conf") HUB.now (second_name names) refl given.1.0) in
    λ i. first i ∷ second i ∷ []

-- the example has no tunnel line
machine_is : machine_text SITE.now ≡ SITE.now
unfolding words
machine_is = refl

-- none of the files has a parameter for its host
machine_file : (text machine : List ℕ) → may_give text ≡ false → IsMachineText text machine → machine ≡ text
machine_file text machine none (inl (nothing, is)) = is
machine_file text machine none (inr (inl (gives, lacks, is))) = is
machine_file text machine none (inr (inr (gives, script, read, is))) = absurd (no_both gives none)

edge_gives_none : may_give EDGE.now ≡ false
edge_gives_none = refl

hub_gives_none : may_give HUB.now ≡ false
hub_gives_none = refl

machines_are : (machines : List File) → AreMachineFiles relay_files machines → machines ≡ relay_files
machines_are [] are = absurd are
machines_are (x ∷ []) are = absurd are.2
machines_are (x ∷ y ∷ z ∷ zs) are = absurd are.2.2
machines_are (x ∷ y ∷ []) are =
    let first = same_file x (codes "edge.conf") EDGE.now are.0 (machine_file EDGE.now x.bytes edge_gives_none are.1) in
    let second = same_file y (codes "hub.conf") HUB.now are.2.0 (machine_file HUB.now y.bytes hub_gives_none are.2.1) in
    λ i. first i ∷ second i ∷ []

module _ (one : (text : List ℕ) (files : List File) (a b : Site) → Describes text files a → Describes text files b → a ≡ b) where
  described : (site : Site) → IsSiteOf bytes_of SITE.now site → Describes SITE.now relay_files site
  described site is =
      subst (λ text. Describes text relay_files site) machine_is
      (subst (λ files. Describes (machine_text SITE.now) files site)
      (machines_are is.machines (subst (λ given. AreMachineFiles given is.machines)
      (given_are is.given (is.are_given.names ∙ names_are) is.are_given.bytes) is.are_machines))
      is.describes)

  pub the_site : (site : Site) → IsSiteOf bytes_of SITE.now site → IsTheSite site
  the_site site is =
      let describes = described site is in
      record { describes = describes; alone = λ other other_is. one SITE.now relay_files other site other_is describes }

  pub eight_kept : (site : Site) (count : ℕ) → IsSiteOf bytes_of SITE.now site → KeepsAll site count → count ≡ 8
  eight_kept site count is keeps = sym keeps.count_is ∙ eight site keeps.classes (described site is) keeps.are_protected

  -- ---- what was printed

  pub printed_whole : (text : List ℕ) (status : ℕ) (old new : Streams) → Prints text true status old new → status ≡ 0 → Printed text old new
  printed_whole text status old new (inl printed) ends = record { wrote = printed.1; flushed = printed.2; quiet = printed.4 }
  printed_whole text status old new (inr torn) ends = absurd (omega (arith, torn.0, ends))

  pub not_refused : (text : List ℕ) (is_accepted : Bool) (status : ℕ) (old new : Streams) → is_accepted ≡ false → Prints text is_accepted status old new
      → status ≡ 0 → ⊥
  not_refused text true status old new refused printed ends = cc
  not_refused text false status old new refused (inl printed) ends = omega (arith, printed.0, ends)
  not_refused text false status old new refused (inr torn) ends = omega (arith, torn.0, ends)

  pub some_answer : (status : ℕ) (IsReported : List ℕ → Type 0) → HasNoAnswer bytes_of SITE.now status IsReported → status ≡ 0 → ⊥
  some_answer status IsReported (inl faulty) ends = omega (arith, faulty.0, ends)
  some_answer status IsReported (inr (inl no_memory)) ends = omega (arith, no_memory.0, ends)
  some_answer status IsReported (inr (inr unread)) ends = omega (arith, unread.0, ends)

  accepts : (site : Site) (count status : ℕ) (text : List ℕ) (is_accepted : Bool) (old new : Streams) → IsSiteOf bytes_of SITE.now site
      → KeepsAll site count → text ≡ accepted_line count → is_accepted ≡ true → Prints text is_accepted status old new → status ≡ 0 → IsAccepted old new
  accepts site count status text is_accepted old new is keeps text_is accepted printed ends =
      let number = eight_kept site count is keeps in
      let whole = printed_whole text status old new (subst (λ b. Prints text b status old new) accepted printed) ends in
      record {
        site = site;
        is = the_site site is;
        keeps = subst (KeepsAll site) number keeps;
        printed = subst (λ t. Printed t old new) (text_is ∙ ap accepted_line number) whole;
      }

  pub checked : (status : ℕ) (old new : Streams) → AskedIs asked.Check bytes_of SITE.now status old new → status ≡ 0 → IsAccepted old new
  checked status old new (inl (site, is, text, is_accepted, inl kept, printed)) ends =
      accepts site kept.count status text is_accepted old new is kept.keeps kept.text_is kept.accepted printed ends
  checked status old new (inl (site, is, text, is_accepted, inr found, printed)) ends =
      absurd (not_refused text is_accepted status old new found.refused printed ends)
  checked status old new (inr none) ends = absurd (some_answer status (HasReported old new) none.0 ends)

  pub certified : ((site : Site) (rows : List Row) → IsFit site rows → IsSound site) → (status : ℕ) (old new : Streams)
      → AskedIs asked.Certify bytes_of SITE.now status old new → status ≡ 0 → IsCertified old new
  certified fit_is_sound status old new (inl (site, is, text, is_accepted, inl fit, printed)) ends = record {
    site = site;
    is = the_site site is;
    certificate = fit.certificate;
    fit = fit.fit;
    sound = fit_is_sound site fit.certificate.rows fit.fit.rows;
    text = text;
    is_text = fit.is_text;
    printed = printed_whole text status old new (subst (λ b. Prints text b status old new) fit.accepted printed) ends;
  }
  certified fit_is_sound status old new (inl (site, is, text, is_accepted, inr found, printed)) ends =
      absurd (not_refused text is_accepted status old new found.refused printed ends)
  certified fit_is_sound status old new (inr none) ends = absurd (some_answer status (HasReported old new) none.0 ends)

  -- a verdict on the certificate
  pub verified : (status : ℕ) (old new : Streams) → VerifyIs bytes_of SITE.now CERTIFICATE.now status old new → status ≡ 0 → IsAccepted old new × IsVerified
  verified status old new (inl (text, is_accepted, of_files, printed)) ends =
      elim of_files.says [
        | inl fit ↦ (
          accepts of_files.site fit.count status text is_accepted old new of_files.is_site fit.keeps fit.text_is fit.accepted printed ends,
          record { site = of_files.site; is = the_site of_files.site of_files.is_site; certificate = of_files.certificate; is_text = of_files.is_text; fit = fit.fit },
        )
        | inr wrong ↦ absurd (not_refused text is_accepted status old new wrong.refused printed ends)
      ]
  verified status old new (inr (same, inl faulty)) ends = absurd (omega (arith, faulty.0, ends))
  verified status old new (inr (same, inr none)) ends = absurd (some_answer status (HasReported old new) none ends)

  -- ---- a replay

  pub whole_replay : (site : Site) (out : List ℕ) (ending : Ending) (status : ℕ) (old new : SinkState)
      → Replays site 1 0 (opened site) (lines_of EVENTS.now) out ending → replays.IsLeft ending old new → status ≡ replays.status_of ending → status ≡ 0
      → Replays site 1 0 (opened site) (lines_of EVENTS.now) out Ending.Done × (new.is_flushed ≡ true)
  whole_replay site out Ending.Done status old new replays left is ends = (replays, left.1)
  whole_replay site out (Ending.Faulty line) status old new replays left is ends = absurd (omega (arith, is, ends))
  whole_replay site out (Ending.Illegal line) status old new replays left is ends = absurd (omega (arith, is, ends))
  whole_replay site out (Ending.Full line) status old new replays left is ends = absurd (omega (arith, is, ends))
  whole_replay site out Ending.NoMemory status old new replays left is ends = absurd (omega (arith, is, ends))
  whole_replay site out Ending.ReadFailed status old new replays left is ends = absurd (omega (arith, is, ends))
  whole_replay site out Ending.WriteFailed status old new replays left is ends = absurd (omega (arith, is, ends))

  pub replayed : (status : ℕ) (old new : Streams) → ReplayIs bytes_of SITE.now EVENTS.now status old new → status ≡ 0 → IsReplayed old new
  replayed status old new (inl (kept, inl none)) ends = absurd (some_answer status (HasReported old new) none.0 ends)
  replayed status old new (inl (kept, inr (inl no_memory))) ends = absurd (omega (arith, no_memory.0, ends))
  replayed status old new (inl (kept, inr (inr unwritten))) ends = absurd (omega (arith, unwritten.0, ends))
  replayed status old new (inr (site, is, r)) ends =
      let whole = whole_replay site r.out r.ending status old.output new.output r.replays r.left r.status_is ends in
      record { site = site; is = the_site site is; out = r.out; replays = whole.0; wrote = r.wrote; flushed = whole.1 }

-- ---- status 4

no_bytes : {bytes : List ℕ} → None ≡ Some bytes → ⊥
no_bytes e = cc

-- of files that are all there none is missing
all_there : (names : List (List ℕ)) → HaveBytes bytes_of names → Any (λ name. bytes_of name ≡ None) names → ⊥
all_there [] reported (k, x, low, is, none) = omega (arith, low)
all_there (name ∷ names) reported (zero, x, low, is, none) = no_bytes (sym (ap bytes_of is ∙ none) ∙ reported.0.1)
all_there (name ∷ names) reported (suc k, x, low, is, none) = all_there names reported.1 (k, x, omega (arith, low), is, none)

relays_have_bytes : HaveBytes bytes_of (file_names SITE.now)
relays_have_bytes = subst (HaveBytes bytes_of) (sym names_are) ((EDGE.now, refl), ((HUB.now, refl), tt))

-- a read of a file in memory doesn't fail
no_rise : {S : Type 0} → MayRise {S = S} (λ _. 0) → ⊥
no_rise (before, after, inl low) = omega (arith, low)
no_rise (before, after, inr full) = omega (arith, full)

few_events : {S : Type 0} → PiecesMayFail {S = S} (λ _. 0) EVENTS.now → ⊥
few_events (inl rise) = no_rise rise
few_events (inr many) = let size : length EVENTS.now ≡ 157 = refl in omega (arith, size, many)

module _ (given : List File) (are : given ≡ files) (status : ℕ) (old new : Streams) where
  only_writes : (names : List (List ℕ)) → HaveBytes bytes_of names
      → FailsBy (Any (λ name. file_named given name ≡ None) names) status old new → FailsBy ⊥ status old new
  only_writes names reported fails four =
      elim (fails four) [
        | inl missing ↦ absurd (all_there names reported (subst (λ fs. Any (λ name. file_named fs name ≡ None) names) are missing))
        | inr rose ↦ inr rose
      ]

  pub asking_writes : FailsBy (Any (λ name. file_named given name ≡ None) (codes "site" ∷ file_names SITE.now)) status old new → FailsBy ⊥ status old new
  asking_writes = only_writes (codes "site" ∷ file_names SITE.now) ((SITE.now, refl), relays_have_bytes)

  pub verifying_writes : FailsBy (Any (λ name. file_named given name ≡ None) (codes "site" ∷ codes "cert" ∷ file_names SITE.now)) status old new
      → FailsBy ⊥ status old new
  verifying_writes = only_writes (codes "site" ∷ codes "cert" ∷ file_names SITE.now) ((SITE.now, refl), ((CERTIFICATE.now, refl), relays_have_bytes))

  pub replaying_writes : {S : Type 0}
      → FailsBy (Any (λ name. file_named given name ≡ None) (codes "site" ∷ codes "events" ∷ file_names SITE.now) ⊎ PiecesMayFail {S = S} (λ _. 0) EVENTS.now)
      status old new
      → FailsBy ⊥ status old new
  replaying_writes fails = only_writes (codes "site" ∷ codes "events" ∷ file_names SITE.now) ((SITE.now, refl), ((EVENTS.now, refl), relays_have_bytes))
      (λ four. elim (fails four) [
        | inl (inl missing) ↦ inl missing
        | inl (inr pieces) ↦ absurd (few_events pieces)
        | inr rose ↦ inr rose
      ])
