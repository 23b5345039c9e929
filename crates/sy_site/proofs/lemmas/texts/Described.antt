-- The lines of a text that were found, and its relay lines and protect lines among them.
use Rattle.std.proofs.Common.{◌≡◌, ℕ, true, false, suc, List, [], ◌∷◌, map, get_or, eqb-true, Some, None, refl, sym, ap, subst, ◌∙◌, arith}
use Rattle.std.specs.Prelude.{All, codes, Contains, slice_get}
use Rattle.std.specs.Str.{bytes_eq}
use Rattle.std.proofs.lemmas.Bool.{false≢true}
use Rattle.std.proofs.lemmas.List.Elements.{Contains-get_or}
use Rattle.std.proofs.lemmas.List.Quantifiers.{position-Some}
use Rattle.std.proofs.lemmas.Option.{slice_get-get_or}
use Rattle.std.proofs.lemmas.Slice.Eq.{bytes_eq-Decides}
use Rattle.sy_site.specs.declared.site.host.Host.TheVariants as host
use Rattle.sy_site.specs.declared.site.relay.Relay.{Relay as Kept}
use Rattle.sy_site.specs.Sites.{Relay, Site, plan_at, plan_in, relay_named}
use Rattle.sy_site.specs.texts.Lines.{is_kind, is_skipped, word_lines}
use Rattle.sy_site.specs.texts.Shapes.{Line, RelayLine, EntryLine, ProtectLine, SpareLine, IsLine, IsProtectLine}
use Rattle.sy_site.specs.texts.Describes.{AllPaired, AreLines, File, IsProtection, IsRelay, entry_lines, protect_lines, relay_lines, spare_lines}
use Rattle.sy_site.specs.texts.HasFault.{HasPlan, IsEmpty, Names}
use Rattle.sy_site.specs.internal.Relays.{AreRelays, HasMore, IsWholeRelay}
use Rattle.sy_site.specs.internal.SiteInside.{relay_of, site_with}
use Rattle.sy_site.proofs.lemmas.sites.More.{all_paired, paired_map, partner, partner_back}
use Rattle.sy_site.proofs.lemmas.sites.Places.{place_none}
use Rattle.sy_site.proofs.lemmas.texts.OneLine.{one_line}

-- ---- found and there

abbrev Words : Type 0
Words = List (List ℕ)

-- what is skipped has no shape
no_skip : (line : Words) (it : Line) → is_skipped line ≡ true → IsLine line it → ⊥
no_skip line Line.Policy skipped shape = false≢true (sym (ap is_skipped shape) ∙ skipped)
no_skip line (Line.Relay it) skipped shape = false≢true (sym (ap is_skipped shape.whole) ∙ skipped)
no_skip line (Line.Entry it) skipped shape = false≢true (sym (ap is_skipped shape.whole) ∙ skipped)
no_skip line (Line.Protect it) skipped shape = false≢true (sym (ap is_skipped shape.whole) ∙ skipped)
no_skip line (Line.Spare it) skipped shape = false≢true (sym (ap is_skipped shape) ∙ skipped)
no_skip line (Line.Outside it) skipped shape = false≢true (sym (ap is_skipped shape.whole) ∙ skipped)

there_later : {A : Type 0} (y x : A) (xs : List A) → Contains xs x → Contains (y ∷ xs) x
there_later y x xs (k, l, is) = (suc k, omega (arith, l), is)

there_first : {A : Type 0} (y x : A) (xs : List A) → y ≡ x → Contains (y ∷ xs) x
there_first y x xs is = (0, omega arith, is)

pub found_line : {all : List Words} {lines : List Line} → AreLines all lines → (line : Words) (it : Line) → Contains all line → IsLine line it
    → Contains lines it
found_line AreLines.none line it (k, l, is) shape = absurd (omega (arith, l))
found_line (AreLines.skip e h) line it (ℕ.zero, l, is) shape = absurd (no_skip _ it (rw is at e) shape)
found_line (AreLines.skip e h) line it (ℕ.suc k, l, is) shape = found_line h line it (k, omega (arith, l), is) shape
found_line (AreLines.shaped e first h) line it (ℕ.zero, l, is) shape = there_first _ _ _ (one_line line _ it (rw is at first) shape)
found_line (AreLines.shaped e first h) line it (ℕ.suc k, l, is) shape = there_later _ _ _ (found_line h line it (k, omega (arith, l), is) shape)

pub line_found : {all : List Words} {lines : List Line} → AreLines all lines → (it : Line) → Contains lines it
    → (line : Words) × Contains all line × IsLine line it
line_found AreLines.none it (k, l, is) = absurd (omega (arith, l))
line_found (AreLines.skip e h) it there = let found = line_found h it there in (found.0, there_later _ _ _ found.1, found.2)
line_found (AreLines.shaped {words = w} e first h) it (ℕ.zero, l, is) = (w, there_first _ _ _ refl, subst (λ z. IsLine w z) is first)
line_found (AreLines.shaped e first h) it (ℕ.suc k, l, is) =
    let found = line_found h it (k, omega (arith, l), is) in (found.0, there_later _ _ _ found.1, found.2)

-- ---- relay lines

pub relay_there : (lines : List Line) (it : RelayLine) → Contains lines (Line.Relay it) → Contains (relay_lines lines) it
relay_there [] it (k, l, is) = absurd (omega (arith, l))
relay_there (line ∷ lines) it (ℕ.zero, l, is) = subst (λ z. Contains (relay_lines (z ∷ lines)) it) (sym is) (there_first _ _ _ refl)
relay_there (Line.Relay other ∷ lines) it (ℕ.suc k, l, is) = there_later _ _ _ (relay_there lines it (k, omega (arith, l), is))
relay_there (Line.Entry other ∷ lines) it (ℕ.suc k, l, is) = relay_there lines it (k, omega (arith, l), is)
relay_there (Line.Protect other ∷ lines) it (ℕ.suc k, l, is) = relay_there lines it (k, omega (arith, l), is)
relay_there (Line.Policy ∷ lines) it (ℕ.suc k, l, is) = relay_there lines it (k, omega (arith, l), is)
relay_there (Line.Spare other ∷ lines) it (ℕ.suc k, l, is) = relay_there lines it (k, omega (arith, l), is)
relay_there (Line.Outside other ∷ lines) it (ℕ.suc k, l, is) = relay_there lines it (k, omega (arith, l), is)

pub there_relay : (lines : List Line) (it : RelayLine) → Contains (relay_lines lines) it → Contains lines (Line.Relay it)
there_relay [] it (k, l, is) = absurd (omega (arith, l))
there_relay (Line.Relay other ∷ lines) it (ℕ.zero, l, is) = there_first _ _ _ (ap Line.Relay is)
there_relay (Line.Relay other ∷ lines) it (ℕ.suc k, l, is) = there_later _ _ _ (there_relay lines it (k, omega (arith, l), is))
there_relay (Line.Entry other ∷ lines) it there = there_later _ _ _ (there_relay lines it there)
there_relay (Line.Protect other ∷ lines) it there = there_later _ _ _ (there_relay lines it there)
there_relay (Line.Policy ∷ lines) it there = there_later _ _ _ (there_relay lines it there)
there_relay (Line.Spare other ∷ lines) it there = there_later _ _ _ (there_relay lines it there)
there_relay (Line.Outside other ∷ lines) it there = there_later _ _ _ (there_relay lines it there)

pub protect_there : (lines : List Line) (it : ProtectLine) → Contains lines (Line.Protect it) → Contains (protect_lines lines) it
protect_there [] it (k, l, is) = absurd (omega (arith, l))
protect_there (line ∷ lines) it (ℕ.zero, l, is) = subst (λ z. Contains (protect_lines (z ∷ lines)) it) (sym is) (there_first _ _ _ refl)
protect_there (Line.Protect other ∷ lines) it (ℕ.suc k, l, is) = there_later _ _ _ (protect_there lines it (k, omega (arith, l), is))
protect_there (Line.Entry other ∷ lines) it (ℕ.suc k, l, is) = protect_there lines it (k, omega (arith, l), is)
protect_there (Line.Relay other ∷ lines) it (ℕ.suc k, l, is) = protect_there lines it (k, omega (arith, l), is)
protect_there (Line.Policy ∷ lines) it (ℕ.suc k, l, is) = protect_there lines it (k, omega (arith, l), is)
protect_there (Line.Spare other ∷ lines) it (ℕ.suc k, l, is) = protect_there lines it (k, omega (arith, l), is)
protect_there (Line.Outside other ∷ lines) it (ℕ.suc k, l, is) = protect_there lines it (k, omega (arith, l), is)

pub entry_there : (lines : List Line) (it : EntryLine) → Contains lines (Line.Entry it) → Contains (entry_lines lines) it
entry_there [] it (k, l, is) = absurd (omega (arith, l))
entry_there (line ∷ lines) it (ℕ.zero, l, is) = subst (λ z. Contains (entry_lines (z ∷ lines)) it) (sym is) (there_first _ _ _ refl)
entry_there (Line.Entry other ∷ lines) it (ℕ.suc k, l, is) = there_later _ _ _ (entry_there lines it (k, omega (arith, l), is))
entry_there (Line.Protect other ∷ lines) it (ℕ.suc k, l, is) = entry_there lines it (k, omega (arith, l), is)
entry_there (Line.Relay other ∷ lines) it (ℕ.suc k, l, is) = entry_there lines it (k, omega (arith, l), is)
entry_there (Line.Policy ∷ lines) it (ℕ.suc k, l, is) = entry_there lines it (k, omega (arith, l), is)
entry_there (Line.Spare other ∷ lines) it (ℕ.suc k, l, is) = entry_there lines it (k, omega (arith, l), is)
entry_there (Line.Outside other ∷ lines) it (ℕ.suc k, l, is) = entry_there lines it (k, omega (arith, l), is)

pub spare_there : (lines : List Line) (it : SpareLine) → Contains lines (Line.Spare it) → Contains (spare_lines lines) it
spare_there [] it (k, l, is) = absurd (omega (arith, l))
spare_there (line ∷ lines) it (ℕ.zero, l, is) = subst (λ z. Contains (spare_lines (z ∷ lines)) it) (sym is) (there_first _ _ _ refl)
spare_there (Line.Spare other ∷ lines) it (ℕ.suc k, l, is) = there_later _ _ _ (spare_there lines it (k, omega (arith, l), is))
spare_there (Line.Policy ∷ lines) it (ℕ.suc k, l, is) = spare_there lines it (k, omega (arith, l), is)
spare_there (Line.Relay other ∷ lines) it (ℕ.suc k, l, is) = spare_there lines it (k, omega (arith, l), is)
spare_there (Line.Entry other ∷ lines) it (ℕ.suc k, l, is) = spare_there lines it (k, omega (arith, l), is)
spare_there (Line.Protect other ∷ lines) it (ℕ.suc k, l, is) = spare_there lines it (k, omega (arith, l), is)
spare_there (Line.Outside other ∷ lines) it (ℕ.suc k, l, is) = spare_there lines it (k, omega (arith, l), is)

-- ---- relays by name

same_name : (a b : List ℕ) → bytes_eq a b ≡ true → a ≡ b
same_name a b = (bytes_eq-Decides a b).0

equal_name : (a b : List ℕ) → a ≡ b → bytes_eq a b ≡ true
equal_name a b = (bytes_eq-Decides a b).1

-- where no relay has a name, no relay line of the text gives it
pub unknown_relay : (text : List ℕ) (files : List File) {relays : _} → (r : AreRelays text files relays) → (name : List ℕ)
    → relay_named (map relay_of relays) name ≡ None → (it : RelayLine) → Names text name it → ⊥
unknown_relay text files r name none it n =
    let found : Contains (relay_lines r.lines) it = relay_there r.lines it (found_line r.are_lines n.words (Line.Relay it) n.there n.line) in
    let mate = partner (IsRelay files) r.paired it found in
    let named : mate.0.name ≡ name = mate.2.name ∙ n.name_is in
    place_none (λ x. bytes_eq x.name name) _ none mate.0 mate.1 (equal_name mate.0.name name named)

-- the relay that has a name has its plan
pub has_plan : (text : List ℕ) (files : List File) {relays : _} → (r : AreRelays text files relays) → (name : List ℕ) (number : ℕ)
    → relay_named (map relay_of relays) name ≡ Some number → HasPlan text files name (plan_at (site_with relays) number)
has_plan text files {relays} r name number is =
    let all : List Relay = map relay_of relays in
    let none : Relay = record { name = []; host = host.Name []; listens = None; plan = plan_in None } in
    let at = position-Some (λ x. bytes_eq x.name name) all number none is in
    let it : Relay = get_or all number none in
    let mate = partner_back (IsRelay files) r.paired it (Contains-get_or all number none at.0) in
    let line = line_found r.are_lines (Line.Relay mate.0) (there_relay r.lines mate.0 mate.1) in
    let there : slice_get all number ≡ Some it = slice_get-get_or all number none at.0 in
    record {
      line = mate.0;
      names = record {
        words = line.0;
        there = line.1;
        line = line.2;
        name_is = sym mate.2.name ∙ same_name it.name name at.1;
      };
      bytes = mate.2.bytes;
      given = mate.2.given;
      script = mate.2.script;
      is_script = mate.2.is_script;
      is_plan = rw there mate.2.is_plan;
    }

pub paired_relays : (files : List File) (lines : List RelayLine) (relays : List Kept) → HasMore (IsWholeRelay files) lines [] relays
    → AllPaired (IsRelay files) lines (map relay_of relays)
paired_relays files lines relays h =
    paired_map (IsWholeRelay files) relay_of (IsRelay files) (λ line relay w. w.is_relay) (all_paired (IsWholeRelay files) lines relays h)

-- the relays of the lines that were found
pub are_relays : (text : List ℕ) (files : List File) (lines : List Line) (relays : List Kept) → AreLines (word_lines text) lines
    → HasMore (IsWholeRelay files) (relay_lines lines) [] relays → AreRelays text files relays
are_relays text files lines relays are h = record { lines = lines; are_lines = are; paired = paired_relays files (relay_lines lines) relays h }

-- ---- nothing is protected

skipped_no_entry : (line : Words) → is_skipped line ≡ true → is_kind (codes "entry") line ≡ false
skipped_no_entry [] skipped = refl
skipped_no_entry ([] ∷ later) skipped = absurd (false≢true skipped)
skipped_no_entry ((b ∷ word) ∷ later) skipped = subst (λ z. bytes_eq (z ∷ word) (codes "entry") ≡ false) (sym (eqb-true b 35 skipped)) refl

some_first : {A : Type 0} {x : A} {xs : List A} → x ∷ xs ≡ [] → ⊥
some_first e = cc

pub no_entry_line : {all : List Words} {lines : List Line} → AreLines all lines → entry_lines lines ≡ [] → (line : Words) → Contains all line
    → is_kind (codes "entry") line ≡ false
no_entry_line AreLines.none none line (k, l, is) = absurd (omega (arith, l))
no_entry_line (AreLines.skip e h) none line (ℕ.zero, l, is) = skipped_no_entry line (rw is at e)
no_entry_line (AreLines.skip e h) none line (ℕ.suc k, l, is) = no_entry_line h none line (k, omega (arith, l), is)
no_entry_line (AreLines.shaped {it = Line.Relay it} e shape h) none line (ℕ.zero, l, is) = ap (is_kind (codes "entry")) (sym is ∙ shape.whole)
no_entry_line (AreLines.shaped {it = Line.Protect it} e shape h) none line (ℕ.zero, l, is) = ap (is_kind (codes "entry")) (sym is ∙ shape.whole)
no_entry_line (AreLines.shaped {it = Line.Policy} e shape h) none line (ℕ.zero, l, is) = ap (is_kind (codes "entry")) (sym is ∙ shape)
no_entry_line (AreLines.shaped {it = Line.Spare it} e shape h) none line (ℕ.zero, l, is) = ap (is_kind (codes "entry")) (sym is ∙ shape)
no_entry_line (AreLines.shaped {it = Line.Outside it} e shape h) none line (ℕ.zero, l, is) = ap (is_kind (codes "entry")) (sym is ∙ shape.whole)
no_entry_line (AreLines.shaped {it = Line.Entry it} e shape h) none line there = absurd (some_first none)
no_entry_line (AreLines.shaped {it = Line.Policy} e shape h) none line (ℕ.suc k, l, is) = no_entry_line h none line (k, omega (arith, l), is)
no_entry_line (AreLines.shaped {it = Line.Spare it} e shape h) none line (ℕ.suc k, l, is) = no_entry_line h none line (k, omega (arith, l), is)
no_entry_line (AreLines.shaped {it = Line.Outside it} e shape h) none line (ℕ.suc k, l, is) = no_entry_line h none line (k, omega (arith, l), is)
no_entry_line (AreLines.shaped {it = Line.Relay it} e shape h) none line (ℕ.suc k, l, is) = no_entry_line h none line (k, omega (arith, l), is)
no_entry_line (AreLines.shaped {it = Line.Protect it} e shape h) none line (ℕ.suc k, l, is) = no_entry_line h none line (k, omega (arith, l), is)

pub all_empty : {all : List Words} {lines : List Line} (site : Site) → AreLines all lines → AllPaired (IsProtection site) (protect_lines lines) site.protections
    → All (λ p. IsEmpty p.selector) site.protections → (line : Words) (it : ProtectLine) → Contains all line → IsProtectLine line it → IsEmpty it.selector
all_empty {all} {lines} site are paired empty line it there shape =
    let mate = partner (IsProtection site) paired it (protect_there lines it (found_line are line (Line.Protect it) there shape)) in
    let there_empty : IsEmpty mate.0.selector = subst (λ p. IsEmpty p.selector) mate.1.2 (empty mate.1.0 mate.0 mate.1.1) in
    subst IsEmpty mate.2.selector there_empty
