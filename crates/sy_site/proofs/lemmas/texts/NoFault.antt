-- A text that describes a site has no fault.
use Rattle.std.proofs.Common.{◌≡◌, ℕ, true, false, ◌<◌, ◌≤◌, ◌==◌, ◌&&◌, zero, suc, List, [], ◌∷◌, length, get_or, Option, Some, None, refl, sym, ap, subst, ◌∙◌, arith, inl, inr, filter}
use Rattle.std.proofs.lemmas.Bool.{false≢true}
use Rattle.std.proofs.lemmas.List.Folds.{Any-from_list_any}
use Rattle.std.proofs.lemmas.List.Quantifiers.{position-Some}
use Rattle.std.proofs.lemmas.Option.{option_and_then_some, slice_get-get_or}
use Rattle.std.proofs.lemmas.Slice.Eq.{bytes_eq-Decides}
use Rattle.std.specs.Prelude.{Contains, codes, option_map, slice_get}
use Rattle.std.specs.List.{position}
use Rattle.std.specs.Str.{bytes_eq}
use Rattle.sy_script.specs.Grammar.{IsScript}
use Rattle.sy_rules.specs.check.FaultsThere as plan
use Rattle.sy_script.proofs.NoFault as script
use Rattle.sy_script.proofs.ReadBackStmt as read_back
use Rattle.sy_rules.specs.PlanValue.{Plan}
use Rattle.sy_select.specs.Selectors.{holds}
use Rattle.sy_site.specs.declared.fault.RelayFault.{RelayFault}
use Rattle.sy_site.specs.declared.fault.RelayFault.TheVariants as why
use Rattle.sy_site.specs.declared.fault.SiteFault.{SiteFault}
use Rattle.sy_site.specs.declared.site.host.Host.TheVariants as host
use Rattle.sy_site.specs.internal.Reading.{kind}
use Rattle.sy_site.specs.Sites.{Site, Relay, SiteInput, SiteAction, Protection, asks_for, input_at_port, no_plan, plan_at, plan_in, relay_named}
use Rattle.sy_site.specs.texts.Lines.{is_kind, is_skipped, word_lines}
use Rattle.sy_site.specs.texts.Shapes.{Line, RelayLine, EntryLine, ProtectLine, SpareLine, IsLine, IsRelayLine, IsEntryLine, IsProtectLine, IsSpareLine}
use Rattle.sy_site.specs.texts.Describes.{AllPaired, AreLines, Describes, File, IsProtection, IsRelay, Repeats, action_at, action_of, archive_at, archive_of, entry_lines, entry_of, file_named, is_archive, outside_lines, protect_lines, relay_lines, spare_lines}
use Rattle.sy_site.specs.texts.HasFault.{HasFault, HasPlan, IsEmpty, IsFileFault, IsLimit, IsOf, Names}
use Rattle.sy_site.proofs.lemmas.texts.Again.{again_first, again_later, among_cases, among_first, among_later, none_in, split_at}
use Rattle.sy_site.proofs.lemmas.texts.Kinds.{begins, no_entry, no_outside, no_protect, no_relay, no_spare, of_kind, skipped_kind}
use Rattle.sy_site.proofs.lemmas.texts.Found.{Single, count_no, count_yes, counted_in, line_there, stands_among}
use Rattle.sy_site.proofs.lemmas.texts.Noted.{Words}
use Rattle.sy_site.proofs.lemmas.texts.OneLine.{one_line, one_relay_line, one_value}
use Rattle.sy_site.proofs.lemmas.texts.OneSite.{one_relay}

-- ---- a line and its words

kind_kept : (it : Line) (behind : Words) → is_skipped (kind it ∷ behind) ≡ false
kind_kept Line.Policy behind = refl
kind_kept (Line.Relay it) behind = refl
kind_kept (Line.Entry it) behind = refl
kind_kept (Line.Protect it) behind = refl
kind_kept (Line.Spare it) behind = refl
kind_kept (Line.Outside it) behind = refl

shaped_kept : (line : Words) (it : Line) → IsLine line it → is_skipped line ≡ false
shaped_kept line it h = let k = of_kind line it h in ap is_skipped k.1 ∙ kind_kept it k.0

-- ---- the lines of a text

line_among : {all : List Words} {found : List Line} → AreLines all found → (line : Words) (it : Line) → Contains all line → IsLine line it
    → Contains found it
line_among {all} {found} lines line it c is =
    let r = line_there lines line c (shaped_kept line it is) in subst (λ x. Contains found x) (one_line line r.0 it r.1 is) r.2

words_of_line : {all : List Words} {found : List Line} → AreLines all found → (it : Line) → Contains found it
    → (line : Words) × Contains all line × IsLine line it
words_of_line AreLines.none it c = absurd (none_in it c)
words_of_line (AreLines.skip {words = w} {later = ws} {lines = found} e h) it c =
    let r = words_of_line h it c in (r.0, among_later w ws r.0 r.1, r.2)
words_of_line (AreLines.shaped {words = w} {later = ws} {it = x} {lines = found} e is h) it c =
    elim (among_cases x found it c) [
      | inl same ↦ (w, among_first w ws, subst (λ y. IsLine w y) same is)
      | inr behind ↦ let r = words_of_line h it behind in (r.0, among_later w ws r.0 r.1, r.2)
    ]

-- ---- the lines of a kind

line_value : {it other : RelayLine} → Line.Relay it ≡ Line.Relay other → it ≡ other
line_value e = cc

entry_value : {it other : EntryLine} → Line.Entry it ≡ Line.Entry other → it ≡ other
entry_value e = cc

spare_value : {it other : SpareLine} → Line.Spare it ≡ Line.Spare other → it ≡ other
spare_value e = cc

protect_value : {it other : ProtectLine} → Line.Protect it ≡ Line.Protect other → it ≡ other
protect_value e = cc

to_relays : (found : List Line) (it : RelayLine) → Contains found (Line.Relay it) → Contains (relay_lines found) it
to_relays [] it c = absurd (none_in (Line.Relay it) c)
to_relays (Line.Relay x ∷ found) it c =
    elim (among_cases (Line.Relay x) found (Line.Relay it) c) [
      | inl same ↦ subst (λ y. Contains (x ∷ relay_lines found) y) (line_value same) (among_first x (relay_lines found))
      | inr behind ↦ among_later x (relay_lines found) it (to_relays found it behind)
    ]
to_relays (Line.Entry x ∷ found) it c =
    elim (among_cases (Line.Entry x) found (Line.Relay it) c) [
      | inl same ↦ cc
      | inr behind ↦ to_relays found it behind
    ]
to_relays (Line.Protect x ∷ found) it c =
    elim (among_cases (Line.Protect x) found (Line.Relay it) c) [
      | inl same ↦ cc
      | inr behind ↦ to_relays found it behind
    ]
to_relays (Line.Policy ∷ found) it c =
    elim (among_cases Line.Policy found (Line.Relay it) c) [
      | inl same ↦ cc
      | inr behind ↦ to_relays found it behind
    ]
to_relays (Line.Spare x ∷ found) it c =
    elim (among_cases (Line.Spare x) found (Line.Relay it) c) [
      | inl same ↦ cc
      | inr behind ↦ to_relays found it behind
    ]
to_relays (Line.Outside x ∷ found) it c =
    elim (among_cases (Line.Outside x) found (Line.Relay it) c) [
      | inl same ↦ cc
      | inr behind ↦ to_relays found it behind
    ]

to_entries : (found : List Line) (it : EntryLine) → Contains found (Line.Entry it) → Contains (entry_lines found) it
to_entries [] it c = absurd (none_in (Line.Entry it) c)
to_entries (Line.Entry x ∷ found) it c =
    elim (among_cases (Line.Entry x) found (Line.Entry it) c) [
      | inl same ↦ subst (λ y. Contains (x ∷ entry_lines found) y) (entry_value same) (among_first x (entry_lines found))
      | inr behind ↦ among_later x (entry_lines found) it (to_entries found it behind)
    ]
to_entries (Line.Relay x ∷ found) it c =
    elim (among_cases (Line.Relay x) found (Line.Entry it) c) [
      | inl same ↦ cc
      | inr behind ↦ to_entries found it behind
    ]
to_entries (Line.Protect x ∷ found) it c =
    elim (among_cases (Line.Protect x) found (Line.Entry it) c) [
      | inl same ↦ cc
      | inr behind ↦ to_entries found it behind
    ]
to_entries (Line.Policy ∷ found) it c =
    elim (among_cases Line.Policy found (Line.Entry it) c) [
      | inl same ↦ cc
      | inr behind ↦ to_entries found it behind
    ]
to_entries (Line.Spare x ∷ found) it c =
    elim (among_cases (Line.Spare x) found (Line.Entry it) c) [
      | inl same ↦ cc
      | inr behind ↦ to_entries found it behind
    ]
to_entries (Line.Outside x ∷ found) it c =
    elim (among_cases (Line.Outside x) found (Line.Entry it) c) [
      | inl same ↦ cc
      | inr behind ↦ to_entries found it behind
    ]

to_protections : (found : List Line) (it : ProtectLine) → Contains found (Line.Protect it) → Contains (protect_lines found) it
to_protections [] it c = absurd (none_in (Line.Protect it) c)
to_protections (Line.Protect x ∷ found) it c =
    elim (among_cases (Line.Protect x) found (Line.Protect it) c) [
      | inl same ↦ subst (λ y. Contains (x ∷ protect_lines found) y) (protect_value same) (among_first x (protect_lines found))
      | inr behind ↦ among_later x (protect_lines found) it (to_protections found it behind)
    ]
to_protections (Line.Relay x ∷ found) it c =
    elim (among_cases (Line.Relay x) found (Line.Protect it) c) [
      | inl same ↦ cc
      | inr behind ↦ to_protections found it behind
    ]
to_protections (Line.Entry x ∷ found) it c =
    elim (among_cases (Line.Entry x) found (Line.Protect it) c) [
      | inl same ↦ cc
      | inr behind ↦ to_protections found it behind
    ]
to_protections (Line.Policy ∷ found) it c =
    elim (among_cases Line.Policy found (Line.Protect it) c) [
      | inl same ↦ cc
      | inr behind ↦ to_protections found it behind
    ]
to_protections (Line.Spare x ∷ found) it c =
    elim (among_cases (Line.Spare x) found (Line.Protect it) c) [
      | inl same ↦ cc
      | inr behind ↦ to_protections found it behind
    ]
to_protections (Line.Outside x ∷ found) it c =
    elim (among_cases (Line.Outside x) found (Line.Protect it) c) [
      | inl same ↦ cc
      | inr behind ↦ to_protections found it behind
    ]

to_spares : (found : List Line) (it : SpareLine) → Contains found (Line.Spare it) → Contains (spare_lines found) it
to_spares [] it c = absurd (none_in (Line.Spare it) c)
to_spares (Line.Spare x ∷ found) it c =
    elim (among_cases (Line.Spare x) found (Line.Spare it) c) [
      | inl same ↦ subst (λ y. Contains (x ∷ spare_lines found) y) (spare_value same) (among_first x (spare_lines found))
      | inr behind ↦ among_later x (spare_lines found) it (to_spares found it behind)
    ]
to_spares (Line.Policy ∷ found) it c =
    elim (among_cases Line.Policy found (Line.Spare it) c) [
      | inl same ↦ cc
      | inr behind ↦ to_spares found it behind
    ]
to_spares (Line.Relay x ∷ found) it c =
    elim (among_cases (Line.Relay x) found (Line.Spare it) c) [
      | inl same ↦ cc
      | inr behind ↦ to_spares found it behind
    ]
to_spares (Line.Entry x ∷ found) it c =
    elim (among_cases (Line.Entry x) found (Line.Spare it) c) [
      | inl same ↦ cc
      | inr behind ↦ to_spares found it behind
    ]
to_spares (Line.Protect x ∷ found) it c =
    elim (among_cases (Line.Protect x) found (Line.Spare it) c) [
      | inl same ↦ cc
      | inr behind ↦ to_spares found it behind
    ]
to_spares (Line.Outside x ∷ found) it c =
    elim (among_cases (Line.Outside x) found (Line.Spare it) c) [
      | inl same ↦ cc
      | inr behind ↦ to_spares found it behind
    ]

of_relays : (found : List Line) (it : RelayLine) → Contains (relay_lines found) it → Contains found (Line.Relay it)
of_relays [] it c = absurd (none_in it c)
of_relays (Line.Relay x ∷ found) it c =
    elim (among_cases x (relay_lines found) it c) [
      | inl same ↦ subst (λ y. Contains (Line.Relay x ∷ found) (Line.Relay y)) same (among_first (Line.Relay x) found)
      | inr behind ↦ among_later (Line.Relay x) found (Line.Relay it) (of_relays found it behind)
    ]
of_relays (Line.Entry x ∷ found) it c = among_later (Line.Entry x) found (Line.Relay it) (of_relays found it c)
of_relays (Line.Protect x ∷ found) it c = among_later (Line.Protect x) found (Line.Relay it) (of_relays found it c)
of_relays (Line.Policy ∷ found) it c = among_later Line.Policy found (Line.Relay it) (of_relays found it c)
of_relays (Line.Spare x ∷ found) it c = among_later (Line.Spare x) found (Line.Relay it) (of_relays found it c)
of_relays (Line.Outside x ∷ found) it c = among_later (Line.Outside x) found (Line.Relay it) (of_relays found it c)

of_entries : (found : List Line) (it : EntryLine) → Contains (entry_lines found) it → Contains found (Line.Entry it)
of_entries [] it c = absurd (none_in it c)
of_entries (Line.Entry x ∷ found) it c =
    elim (among_cases x (entry_lines found) it c) [
      | inl same ↦ subst (λ y. Contains (Line.Entry x ∷ found) (Line.Entry y)) same (among_first (Line.Entry x) found)
      | inr behind ↦ among_later (Line.Entry x) found (Line.Entry it) (of_entries found it behind)
    ]
of_entries (Line.Relay x ∷ found) it c = among_later (Line.Relay x) found (Line.Entry it) (of_entries found it c)
of_entries (Line.Protect x ∷ found) it c = among_later (Line.Protect x) found (Line.Entry it) (of_entries found it c)
of_entries (Line.Policy ∷ found) it c = among_later Line.Policy found (Line.Entry it) (of_entries found it c)
of_entries (Line.Spare x ∷ found) it c = among_later (Line.Spare x) found (Line.Entry it) (of_entries found it c)
of_entries (Line.Outside x ∷ found) it c = among_later (Line.Outside x) found (Line.Entry it) (of_entries found it c)

of_protections : (found : List Line) (it : ProtectLine) → Contains (protect_lines found) it → Contains found (Line.Protect it)
of_protections [] it c = absurd (none_in it c)
of_protections (Line.Protect x ∷ found) it c =
    elim (among_cases x (protect_lines found) it c) [
      | inl same ↦ subst (λ y. Contains (Line.Protect x ∷ found) (Line.Protect y)) same (among_first (Line.Protect x) found)
      | inr behind ↦ among_later (Line.Protect x) found (Line.Protect it) (of_protections found it behind)
    ]
of_protections (Line.Relay x ∷ found) it c = among_later (Line.Relay x) found (Line.Protect it) (of_protections found it c)
of_protections (Line.Entry x ∷ found) it c = among_later (Line.Entry x) found (Line.Protect it) (of_protections found it c)
of_protections (Line.Policy ∷ found) it c = among_later Line.Policy found (Line.Protect it) (of_protections found it c)
of_protections (Line.Spare x ∷ found) it c = among_later (Line.Spare x) found (Line.Protect it) (of_protections found it c)
of_protections (Line.Outside x ∷ found) it c = among_later (Line.Outside x) found (Line.Protect it) (of_protections found it c)

count_relays : {all : List Words} {found : List Line} → AreLines all found → length (filter (is_kind (codes "relay")) all) ≡ length (relay_lines found)
count_relays AreLines.none = refl
count_relays (AreLines.skip {words = w} {later = ws} e h) =
    count_no (is_kind (codes "relay")) w ws (skipped_kind (Line.Relay no_relay) w e) ∙ count_relays h
count_relays (AreLines.shaped {words = w} {later = ws} {it = Line.Relay x} e is h) =
    let one = count_yes (is_kind (codes "relay")) w ws (begins (codes "relay") w (Line.Relay x) is) in omega (arith, one, count_relays h)
count_relays (AreLines.shaped {words = w} {later = ws} {it = Line.Entry x} e is h) =
    count_no (is_kind (codes "relay")) w ws (begins (codes "relay") w (Line.Entry x) is) ∙ count_relays h
count_relays (AreLines.shaped {words = w} {later = ws} {it = Line.Protect x} e is h) =
    count_no (is_kind (codes "relay")) w ws (begins (codes "relay") w (Line.Protect x) is) ∙ count_relays h
count_relays (AreLines.shaped {words = w} {later = ws} {it = Line.Policy} e is h) =
    count_no (is_kind (codes "relay")) w ws (begins (codes "relay") w Line.Policy is) ∙ count_relays h
count_relays (AreLines.shaped {words = w} {later = ws} {it = Line.Spare x} e is h) =
    count_no (is_kind (codes "relay")) w ws (begins (codes "relay") w (Line.Spare x) is) ∙ count_relays h
count_relays (AreLines.shaped {words = w} {later = ws} {it = Line.Outside x} e is h) =
    count_no (is_kind (codes "relay")) w ws (begins (codes "relay") w (Line.Outside x) is) ∙ count_relays h

count_entries : {all : List Words} {found : List Line} → AreLines all found → length (filter (is_kind (codes "entry")) all) ≡ length (entry_lines found)
count_entries AreLines.none = refl
count_entries (AreLines.skip {words = w} {later = ws} e h) =
    count_no (is_kind (codes "entry")) w ws (skipped_kind (Line.Entry no_entry) w e) ∙ count_entries h
count_entries (AreLines.shaped {words = w} {later = ws} {it = Line.Entry x} e is h) =
    let one = count_yes (is_kind (codes "entry")) w ws (begins (codes "entry") w (Line.Entry x) is) in omega (arith, one, count_entries h)
count_entries (AreLines.shaped {words = w} {later = ws} {it = Line.Relay x} e is h) =
    count_no (is_kind (codes "entry")) w ws (begins (codes "entry") w (Line.Relay x) is) ∙ count_entries h
count_entries (AreLines.shaped {words = w} {later = ws} {it = Line.Protect x} e is h) =
    count_no (is_kind (codes "entry")) w ws (begins (codes "entry") w (Line.Protect x) is) ∙ count_entries h
count_entries (AreLines.shaped {words = w} {later = ws} {it = Line.Policy} e is h) =
    count_no (is_kind (codes "entry")) w ws (begins (codes "entry") w Line.Policy is) ∙ count_entries h
count_entries (AreLines.shaped {words = w} {later = ws} {it = Line.Spare x} e is h) =
    count_no (is_kind (codes "entry")) w ws (begins (codes "entry") w (Line.Spare x) is) ∙ count_entries h
count_entries (AreLines.shaped {words = w} {later = ws} {it = Line.Outside x} e is h) =
    count_no (is_kind (codes "entry")) w ws (begins (codes "entry") w (Line.Outside x) is) ∙ count_entries h

count_protections : {all : List Words} {found : List Line} → AreLines all found
    → length (filter (is_kind (codes "protect")) all) ≡ length (protect_lines found)
count_protections AreLines.none = refl
count_protections (AreLines.skip {words = w} {later = ws} e h) =
    count_no (is_kind (codes "protect")) w ws (skipped_kind (Line.Protect no_protect) w e) ∙ count_protections h
count_protections (AreLines.shaped {words = w} {later = ws} {it = Line.Protect x} e is h) =
    let one = count_yes (is_kind (codes "protect")) w ws (begins (codes "protect") w (Line.Protect x) is) in omega (arith, one, count_protections h)
count_protections (AreLines.shaped {words = w} {later = ws} {it = Line.Relay x} e is h) =
    count_no (is_kind (codes "protect")) w ws (begins (codes "protect") w (Line.Relay x) is) ∙ count_protections h
count_protections (AreLines.shaped {words = w} {later = ws} {it = Line.Entry x} e is h) =
    count_no (is_kind (codes "protect")) w ws (begins (codes "protect") w (Line.Entry x) is) ∙ count_protections h
count_protections (AreLines.shaped {words = w} {later = ws} {it = Line.Policy} e is h) =
    count_no (is_kind (codes "protect")) w ws (begins (codes "protect") w Line.Policy is) ∙ count_protections h
count_protections (AreLines.shaped {words = w} {later = ws} {it = Line.Spare x} e is h) =
    count_no (is_kind (codes "protect")) w ws (begins (codes "protect") w (Line.Spare x) is) ∙ count_protections h
count_protections (AreLines.shaped {words = w} {later = ws} {it = Line.Outside x} e is h) =
    count_no (is_kind (codes "protect")) w ws (begins (codes "protect") w (Line.Outside x) is) ∙ count_protections h

count_spares : {all : List Words} {found : List Line} → AreLines all found → length (filter (is_kind (codes "spare")) all) ≡ length (spare_lines found)
count_spares AreLines.none = refl
count_spares (AreLines.skip {words = w} {later = ws} e h) =
    count_no (is_kind (codes "spare")) w ws (skipped_kind (Line.Spare no_spare) w e) ∙ count_spares h
count_spares (AreLines.shaped {words = w} {later = ws} {it = Line.Spare x} e is h) =
    let one = count_yes (is_kind (codes "spare")) w ws (begins (codes "spare") w (Line.Spare x) is) in omega (arith, one, count_spares h)
count_spares (AreLines.shaped {words = w} {later = ws} {it = Line.Policy} e is h) =
    count_no (is_kind (codes "spare")) w ws (begins (codes "spare") w Line.Policy is) ∙ count_spares h
count_spares (AreLines.shaped {words = w} {later = ws} {it = Line.Relay x} e is h) =
    count_no (is_kind (codes "spare")) w ws (begins (codes "spare") w (Line.Relay x) is) ∙ count_spares h
count_spares (AreLines.shaped {words = w} {later = ws} {it = Line.Entry x} e is h) =
    count_no (is_kind (codes "spare")) w ws (begins (codes "spare") w (Line.Entry x) is) ∙ count_spares h
count_spares (AreLines.shaped {words = w} {later = ws} {it = Line.Protect x} e is h) =
    count_no (is_kind (codes "spare")) w ws (begins (codes "spare") w (Line.Protect x) is) ∙ count_spares h
count_spares (AreLines.shaped {words = w} {later = ws} {it = Line.Outside x} e is h) =
    count_no (is_kind (codes "spare")) w ws (begins (codes "spare") w (Line.Outside x) is) ∙ count_spares h

count_outsides : {all : List Words} {found : List Line} → AreLines all found
    → length (filter (is_kind (codes "outside")) all) ≡ length (outside_lines found)
count_outsides AreLines.none = refl
count_outsides (AreLines.skip {words = w} {later = ws} e h) =
    count_no (is_kind (codes "outside")) w ws (skipped_kind (Line.Outside no_outside) w e) ∙ count_outsides h
count_outsides (AreLines.shaped {words = w} {later = ws} {it = Line.Outside x} e is h) =
    let one = count_yes (is_kind (codes "outside")) w ws (begins (codes "outside") w (Line.Outside x) is) in omega (arith, one, count_outsides h)
count_outsides (AreLines.shaped {words = w} {later = ws} {it = Line.Policy} e is h) =
    count_no (is_kind (codes "outside")) w ws (begins (codes "outside") w Line.Policy is) ∙ count_outsides h
count_outsides (AreLines.shaped {words = w} {later = ws} {it = Line.Relay x} e is h) =
    count_no (is_kind (codes "outside")) w ws (begins (codes "outside") w (Line.Relay x) is) ∙ count_outsides h
count_outsides (AreLines.shaped {words = w} {later = ws} {it = Line.Entry x} e is h) =
    count_no (is_kind (codes "outside")) w ws (begins (codes "outside") w (Line.Entry x) is) ∙ count_outsides h
count_outsides (AreLines.shaped {words = w} {later = ws} {it = Line.Protect x} e is h) =
    count_no (is_kind (codes "outside")) w ws (begins (codes "outside") w (Line.Protect x) is) ∙ count_outsides h
count_outsides (AreLines.shaped {words = w} {later = ws} {it = Line.Spare x} e is h) =
    count_no (is_kind (codes "outside")) w ws (begins (codes "outside") w (Line.Spare x) is) ∙ count_outsides h

-- ---- lists side by side

paired_left : {A B : Type 0} {P : A → B → Type 0} {xs : List A} {ys : List B} → AllPaired P xs ys → (x : A) → Contains xs x
    → (y : B) × Contains ys y × P x y
paired_left AllPaired.none x c = absurd (none_in x c)
paired_left {P = P} (AllPaired.more {x = a} {y = b} {xs = xs} {ys = ys} p ps) x c =
    elim (among_cases a xs x c) [
      | inl same ↦ (b, among_first b ys, subst (λ z. P z b) same p)
      | inr behind ↦ let r = paired_left ps x behind in (r.0, among_later b ys r.0 r.1, r.2)
    ]

paired_right : {A B : Type 0} {P : A → B → Type 0} {xs : List A} {ys : List B} → AllPaired P xs ys → (y : B) → Contains ys y
    → (x : A) × Contains xs x × P x y
paired_right AllPaired.none y c = absurd (none_in y c)
paired_right {P = P} (AllPaired.more {x = a} {y = b} {xs = xs} {ys = ys} p ps) y c =
    elim (among_cases b ys y c) [
      | inl same ↦ (a, among_first a xs, subst (λ z. P a z) same p)
      | inr behind ↦ let r = paired_right ps y behind in (r.0, among_later a xs r.0 r.1, r.2)
    ]

-- ---- each name once

single_behind : (x : Words) (xs : List Words) → Single (x ∷ xs) → Single xs
single_behind x xs single before later line e d = single (x ∷ before) later line (ap (λ ws. x ∷ ws) e) (again_later x before line d)

first_again : (x : Words) (xs : List Words) (line : Words) → Single (x ∷ xs) → Contains xs line → Repeats x line → ⊥
first_again x xs line single c r =
    let cut = split_at xs line c in single (x ∷ cut.0) cut.1 line (ap (λ ws. x ∷ ws) cut.2) (again_first x cut.0 line r)

-- two lines that give the same are one line
once_same : (all : List Words) (a b : Words) → Single all → Contains all a → Contains all b → Repeats a b → Repeats b a → a ≡ b
once_same [] a b single in_a in_b ab ba = absurd (none_in a in_a)
once_same (x ∷ xs) a b single in_a in_b ab ba =
    elim (among_cases x xs a in_a) [
      | inl is_a ↦
          elim (among_cases x xs b in_b) [
            | inl is_b ↦ sym is_a ∙ is_b
            | inr behind_b ↦ absurd (first_again x xs b single behind_b (subst (λ w. Repeats w b) (sym is_a) ab))
          ]
      | inr behind_a ↦
          elim (among_cases x xs b in_b) [
            | inl is_b ↦ absurd (first_again x xs a single behind_a (subst (λ w. Repeats w a) (sym is_b) ba))
            | inr behind_b ↦ once_same xs a b (single_behind x xs single) behind_a behind_b ab ba
          ]
    ]

relay_again : (a b : Words) (it other : RelayLine) → IsRelayLine a it → IsRelayLine b other → it.name ≡ other.name → Repeats a b
relay_again a b it other is_a is_b same =
    subst (λ w. Repeats w b) (sym (is_a.whole ∙ ap (λ n. codes "relay" ∷ n ∷ it.file ∷ is_a.behind) same))
    (subst (λ w. Repeats (codes "relay" ∷ other.name ∷ it.file ∷ is_a.behind) w) (sym is_b.whole)
    (Repeats.same_name other.name (it.file ∷ is_a.behind) (other.file ∷ is_b.behind)))

same_relay : (all : List Words) (a b : Words) (it other : RelayLine) → Single all → Contains all a → Contains all b → IsRelayLine a it
    → IsRelayLine b other → it.name ≡ other.name → it ≡ other
same_relay all a b it other single in_a in_b is_a is_b same =
    let one = once_same all a b single in_a in_b (relay_again a b it other is_a is_b same) (relay_again b a other it is_b is_a (sym same)) in
    one_relay_line a it other is_a (subst (λ w. IsRelayLine w other) (sym one) is_b)

-- ---- options and lists

none_given : {A : Type 0} {x : A} → None ≡ Some x → ⊥
none_given e = cc

none_mapped : {A B : Type 0} (f : A → B) (o : Option A) (y : B) → o ≡ None → option_map f o ≡ Some y → ⊥
none_mapped f None y e h = cc
none_mapped f (Some x) y e h = cc

some_of : {A : Type 0} (xs : List A) → 0 < length xs → (x : A) × Contains xs x
some_of [] some = absurd (omega (arith, some))
some_of (x ∷ xs) some = (x, among_first x xs)

-- within a list what stands at a place doesn't depend on the default
get_or_any : {A : Type 0} (xs : List A) (place : ℕ) (d e : A) → place < length xs → get_or xs place e ≡ get_or xs place d
get_or_any [] place d e within = absurd (omega (arith, within))
get_or_any (x ∷ xs) zero d e within = refl
get_or_any (x ∷ xs) (suc place) d e within = get_or_any xs place d e (omega (arith, within))

-- ---- a site

nobody : Relay
nobody = record { name = []; host = host.Name []; listens = None; plan = no_plan }

-- the relay of a name, and its line
record NamedRelay (text : List ℕ) (files : List File) (site : Site) (name : List ℕ) (place : ℕ) : Type 0 where
  line : Words
  there : Contains (word_lines text) line
  it : RelayLine
  shaped : IsRelayLine line it
  name_is : it.name ≡ name
  relay : Relay
  found : slice_get site.relays place ≡ Some relay
  is_relay : IsRelay files it relay

module _ {text : List ℕ} {files : List File} {site : Site} (d : Describes text files site) where
  named_relay : (name : List ℕ) (place : ℕ) → relay_named site.relays name ≡ Some place → NamedRelay text files site name place
  named_relay name place e = record {
    line = words.0;
    there = words.1;
    it = paired.0;
    shaped = words.2;
    name_is = sym paired.2.name ∙ (bytes_eq-Decides relay.name name).0 first.1;
    relay = relay;
    found = slice_get-get_or site.relays place nobody first.0;
    is_relay = paired.2;
  } where
    first : (place < length site.relays) × (bytes_eq (get_or site.relays place nobody).name name ≡ true)
        × ((k : ℕ) → k < place → bytes_eq (get_or site.relays k nobody).name name ≡ false)
    first = position-Some (λ r. bytes_eq r.name name) site.relays place nobody e

    relay : Relay
    relay = get_or site.relays place nobody

    paired : (x : RelayLine) × Contains (relay_lines d.lines) x × IsRelay files x relay
    paired = paired_right d.relays relay (place, first.0, get_or_any site.relays place nobody relay first.0)

    words : (line : Words) × Contains (word_lines text) line × IsRelayLine line paired.0
    words = words_of_line d.are_lines (Line.Relay paired.0) (of_relays d.lines paired.0 paired.1)

  -- the plan of a name is the one of the site's relay of that name
  one_named : (name : List ℕ) (place : ℕ) (p : Plan) → relay_named site.relays name ≡ Some place → HasPlan text files name p
      → plan_at site place ≡ p
  one_named name place p e h =
      ap plan_in r.found ∙ ap (λ x. x.plan) (one_relay files h.line r.relay other (subst (λ l. IsRelay files l r.relay) same r.is_relay) is_other)
    where
      r : NamedRelay text files site name place
      r = named_relay name place e

      same : r.it ≡ h.line
      same = same_relay (word_lines text) r.line h.names.words r.it h.line d.once r.there h.names.there r.shaped h.names.line (r.name_is ∙ sym h.names.name_is)

      other : Relay
      other = record { name = h.line.name; host = h.line.host; listens = h.line.listens; plan = p }

      is_other : IsRelay files h.line other
      is_other = record { bytes = h.bytes; given = h.given; script = h.script; is_script = h.is_script; is_plan = h.is_plan; name = refl; host = refl; listens = refl }

  entry_there : (line : Words) (it : EntryLine) → Contains (word_lines text) line → IsEntryLine line it → (e : SiteInput) × (entry_of site it ≡ Some e)
  entry_there line it c is =
      let r = paired_left d.entries it (to_entries d.lines it (line_among d.are_lines line (Line.Entry it) c is)) in (r.0, r.2)

  protection_there : (line : Words) (it : ProtectLine) → Contains (word_lines text) line → IsProtectLine line it
      → (p : Protection) × IsProtection site it p
  protection_there line it c is =
      let r = paired_left d.protections it (to_protections d.lines it (line_among d.are_lines line (Line.Protect it) c is)) in (r.0, r.2)

  spare_there : (line : Words) (it : SpareLine) → Contains (word_lines text) line → IsSpareLine line it → (a : SiteAction) × (action_of site it ≡ Some a)
  spare_there line it c is =
      let r = paired_left d.spares it (to_spares d.lines it (line_among d.are_lines line (Line.Spare it) c is)) in (r.0, r.2)

  relay_there : (line : Words) (it : RelayLine) → Contains (word_lines text) line → IsRelayLine line it → (r : Relay) × IsRelay files it r
  relay_there line it c is =
      let r = paired_left d.relays it (to_relays d.lines it (line_among d.are_lines line (Line.Relay it) c is)) in (r.0, r.2)

  entry_relay : (it : EntryLine) (e : SiteInput) → entry_of site it ≡ Some e
      → (place : ℕ) × (relay_named site.relays it.relay ≡ Some place) × (input_at_port site place it.port ≡ Some e)
  entry_relay it e is =
      option_and_then_some (λ place. input_at_port site place it.port) (relay_named site.relays it.relay) e is (λ place a b. (place, a, b))

  protection_relay : (it : ProtectLine) (a : SiteAction) → archive_of site it ≡ Some a
      → (place : ℕ) × (relay_named site.relays it.relay ≡ Some place) × (archive_at site it.action place ≡ Some a)
  protection_relay it a is =
      option_and_then_some (archive_at site it.action) (relay_named site.relays it.relay) a is (λ place x y. (place, x, y))

  spare_relay : (it : SpareLine) (a : SiteAction) → action_of site it ≡ Some a
      → (place : ℕ) × (relay_named site.relays it.relay ≡ Some place) × (action_at site it.action place ≡ Some a)
  spare_relay it a is =
      option_and_then_some (action_at site it.action) (relay_named site.relays it.relay) a is (λ place x y. (place, x, y))

  -- ---- no fault

  known : (line : Words) (name : List ℕ) → Contains (word_lines text) line → IsOf line name → ((it : RelayLine) → Names text name it → ⊥) → ⊥
  known line name c (IsOf.entry it is) never =
      let e = entry_there line it c is in
      let at = entry_relay it e.0 e.1 in
      let r = named_relay it.relay at.0 at.1 in
      never r.it (record { words = r.line; there = r.there; line = r.shaped; name_is = r.name_is })
  known line name c (IsOf.protect it is) never =
      let p = protection_there line it c is in
      let at = protection_relay it p.0.archive p.1.archive in
      let r = named_relay it.relay at.0 at.1 in
      never r.it (record { words = r.line; there = r.there; line = r.shaped; name_is = r.name_is })
  known line name c (IsOf.spare it is) never =
      let a = spare_there line it c is in
      let at = spare_relay it a.0 a.1 in
      let r = named_relay it.relay at.0 at.1 in
      never r.it (record { words = r.line; there = r.there; line = r.shaped; name_is = r.name_is })

  few : (word : List ℕ) (limit : ℕ) → IsLimit word limit → length (filter (is_kind word) (word_lines text)) ≤ limit
  few word limit IsLimit.relays = omega (arith, count_relays d.are_lines, d.few_relays)
  few word limit IsLimit.entries = omega (arith, count_entries d.are_lines, d.few_entries)
  few word limit IsLimit.protections = omega (arith, count_protections d.are_lines, d.few_protections)
  few word limit IsLimit.spares = omega (arith, count_spares d.are_lines, d.few_spares)
  few word limit IsLimit.outsides = omega (arith, count_outsides d.are_lines, d.few_outsides)

  input_there : (line : Words) (it : EntryLine) (p : Plan) → Contains (word_lines text) line → IsEntryLine line it → HasPlan text files it.relay p
      → position (λ i. i.port == it.port) p.inputs ≡ None → ⊥
  input_there line it p c is h gone =
      let e = entry_there line it c is in
      let at = entry_relay it e.0 e.1 in
      let same = one_named it.relay at.0 p at.1 h in
      let nothing = ap (λ x. position (λ i. i.port == it.port) x.inputs) same ∙ gone in
      none_mapped (λ i. record { relay = at.0; input = i }) (position (λ i. i.port == it.port) (plan_at site at.0).inputs) e.0 nothing at.2

  archive_there : (line : Words) (it : ProtectLine) (p : Plan) → Contains (word_lines text) line → IsProtectLine line it
      → HasPlan text files it.relay p → position (λ a. is_archive a.destination && bytes_eq a.name it.action) p.actions ≡ None → ⊥
  archive_there line it p c is h gone =
      let q = protection_there line it c is in
      let at = protection_relay it q.0.archive q.1.archive in
      let same = one_named it.relay at.0 p at.1 h in
      let nothing = ap (λ x. position (λ a. is_archive a.destination && bytes_eq a.name it.action) x.actions) same ∙ gone in
      none_mapped (λ a. record { relay = at.0; action = a })
      (position (λ a. is_archive a.destination && bytes_eq a.name it.action) (plan_at site at.0).actions) q.0.archive nothing at.2

  action_there : (line : Words) (it : SpareLine) (p : Plan) → Contains (word_lines text) line → IsSpareLine line it
      → HasPlan text files it.relay p → position (λ a. bytes_eq a.name it.action) p.actions ≡ None → ⊥
  action_there line it p c is h gone =
      let q = spare_there line it c is in
      let at = spare_relay it q.0 q.1 in
      let same = one_named it.relay at.0 p at.1 h in
      let nothing = ap (λ x. position (λ a. bytes_eq a.name it.action) x.actions) same ∙ gone in
      none_mapped (λ a. record { relay = at.0; action = a })
      (position (λ a. bytes_eq a.name it.action) (plan_at site at.0).actions) q.0 nothing at.2

  entered : ((line : Words) → Contains (word_lines text) line → is_kind (codes "entry") line ≡ false) → ⊥
  entered never =
      let e = some_of site.entries d.entered in
      let it = paired_right d.entries e.0 e.1 in
      let line = words_of_line d.are_lines (Line.Entry it.0) (of_entries d.lines it.0 it.1) in
      false≢true (sym (never line.0 line.1) ∙ begins (codes "entry") line.0 (Line.Entry it.0) line.2)

  selected : ((line : Words) (it : ProtectLine) → Contains (word_lines text) line → IsProtectLine line it → IsEmpty it.selector) → ⊥
  selected never =
      let any = Any-from_list_any (λ p. asks_for p d.class) site.protections d.protected in
      let p = any.1 in
      let it = paired_right d.protections p (any.0, any.2, any.3) in
      let line = words_of_line d.are_lines (Line.Protect it.0) (of_protections d.lines it.0 it.1) in
      let out = never line.0 it.0 line.1 line.2 d.class.facility d.class.severity d.class.facility_in_range d.class.severity_in_range in
      false≢true (sym out ∙ ap (λ s. holds s d.class.facility d.class.severity) (sym it.2.selector) ∙ any.4)

  file_fault : (line : Words) (it : RelayLine) (bytes : List ℕ) (f : RelayFault) → Contains (word_lines text) line → IsRelayLine line it
      → file_named files it.file ≡ Some bytes → IsFileFault bytes f → ⊥
  file_fault line it bytes (why.Script f) c is given h =
      let r = relay_there line it c is in
      let same = one_value r.1.given given in
      h.1 (script.no_fault bytes r.1.script f (subst (λ b. IsScript b r.1.script) same r.1.is_script) h.0)
  file_fault line it bytes (why.Plan f) c is given h =
      let r = relay_there line it c is in
      let same = one_value r.1.given given in
      let tree = read_back.one_tree bytes r.1.script h.0 (subst (λ b. IsScript b r.1.script) same r.1.is_script) h.1 in
      r.1.is_plan.clean f (subst (λ s. plan.HasFault s f) (sym tree) h.2)

pub no_fault : (text : List ℕ) (files : List File) (site : Site) (fault : SiteFault) → Describes text files site → HasFault text files fault → ⊥
no_fault text files site fault d (HasFault.too_long long) = let small = d.small in omega (arith, long, small)
no_fault text files site fault d (HasFault.no_shape before line (later, e) kept never) =
    let r = line_there d.are_lines line (stands_among (word_lines text) before later line e) kept in never r.0 r.1
no_fault text files site fault d (HasFault.too_many before line word most (later, e) limit is many) =
    let less = counted_in word (word_lines text) before later line e is in let small = few d word most limit in omega (arith, less, small, many)
no_fault text files site fault d (HasFault.unknown before line name (later, e) of never) =
    known d line name (stands_among (word_lines text) before later line e) of never
no_fault text files site fault d (HasFault.duplicate before line (later, e) again) = d.once before later line e again
no_fault text files site fault d (HasFault.misplaced before line (later, e) misplaced) = d.placed before later line e misplaced
no_fault text files site fault d (HasFault.no_file before line it (later, e) is gone) =
    let r = relay_there d line it (stands_among (word_lines text) before later line e) is in none_given (sym gone ∙ r.1.given)
no_fault text files site fault d (HasFault.no_entry before line it p (later, e) is h gone) =
    input_there d line it p (stands_among (word_lines text) before later line e) is h gone
no_fault text files site fault d (HasFault.no_archive before line it p (later, e) is h gone) =
    archive_there d line it p (stands_among (word_lines text) before later line e) is h gone
no_fault text files site fault d (HasFault.not_entered never) = entered d never
no_fault text files site fault d (HasFault.not_protected never) = selected d never
no_fault text files site fault d (HasFault.no_plan before line it bytes f (later, e) is given h) =
    file_fault d line it bytes f (stands_among (word_lines text) before later line e) is given h
no_fault text files site fault d (HasFault.no_action before line it p (later, e) is h gone) =
    action_there d line it p (stands_among (word_lines text) before later line e) is h gone
no_fault text files site fault d (HasFault.spare_archive before line it (later, e) is other protect there shaped same) =
    d.apart protect it (to_protections d.lines protect (line_among d.are_lines other (Line.Protect protect) there shaped))
    (to_spares d.lines it (line_among d.are_lines line (Line.Spare it) (stands_among (word_lines text) before later line e) is)) same
