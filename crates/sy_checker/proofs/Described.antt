-- What a described site names: relays by names, archives by words of its text.
use Rattle.std.proofs.Common.{◌≡◌, ℕ, ◌<◌, ◌-◌, Bool, true, false, ◌==◌, ◌&&◌, ◌||◌, not, if◌then◌else◌, List, [], ◌∷◌, length, map, take, get_or, Option, Some, None, refl, sym, ap, subst, ◌∙◌, arith}
use Rattle.std.specs.Prelude.{Contains, filter, option_and_then, option_map, slice_get, slice_index}
use Rattle.std.specs.List.{list_all, onto_first, position, slice_split}
use Rattle.std.specs.Str.{bytes_eq}
use Rattle.std.specs.Str.Lines.{lines, lines_of_parts, strip_carriage_return}
use Rattle.std.proofs.lemmas.Bool.{false≢true}
use Rattle.std.proofs.lemmas.List.Quantifiers.{position-Some}
use Rattle.std.proofs.lemmas.List.Splits.{slice_split-cons_no, slice_split-cons_yes}
use Rattle.std.proofs.lemmas.Option.{slice_get-get_or}
use Rattle.std.proofs.lemmas.Slice.Eq.{bytes_eq-Decides}
use Rattle.sy_cert.specs.Rows.{is_action, is_action_byte, is_name}
use Rattle.sy_rules.specs.declared.parameters.objects.Destination.TheVariants as destination
use Rattle.sy_rules.specs.declared.parts.Action.{Action}
use Rattle.sy_site.specs.declared.site.Protection.{Protection}
use Rattle.sy_site.specs.declared.site.SiteAction.{SiteAction}
use Rattle.sy_site.specs.declared.site.SiteInput.{SiteInput}
use Rattle.sy_site.specs.Sites.{Relay, Site, plan_at, relay_named}
use Rattle.sy_site.specs.texts.Describes.{AllPaired, AreLines, Describes, File, IsProtection, IsRelay, archive_at, is_archive, protect_lines, relay_lines}
use Rattle.sy_site.specs.texts.Lines.{is_blank, word_lines, words}
use Rattle.sy_site.specs.texts.Shapes.{Line, ProtectLine, RelayLine}
use Rattle.sy_site.specs.texts.Shapes as shapes
use Rattle.sy_site.specs.Names.{action_name, name_in, name_of, name_of_action}

no_value : {A : Type 0} {x : A} → None ≡ Some x → ⊥
no_value e = cc

one_value : {A : Type 0} {x y : A} → Some x ≡ Some y → x ≡ y
one_value e = cc

-- ---- tests

both : (a b : Bool) → (a && b) ≡ true → (a ≡ true) × (b ≡ true)
both true b e = (refl, e)
both false b e = absurd (false≢true e)

and : (a b : Bool) → a ≡ true → b ≡ true → (a && b) ≡ true
and true b p q = q
and false b p q = absurd (false≢true p)

not_false : (a : Bool) → a ≡ false → not a ≡ true
not_false false e = refl
not_false true e = absurd (false≢true (sym e))

-- ---- all bytes of each text

abbrev pub Each : (ℕ → Bool) → List (List ℕ) → Type 0
Each test [] = Unit {0}
Each test (text ∷ texts) = (list_all test text ≡ true) × Each test texts

onto : (test : ℕ → Bool) (b : ℕ) (texts : List (List ℕ)) → test b ≡ true → Each test texts → Each test (onto_first b texts)
onto test b [] is each = (and (test b) true is refl, tt)
onto test b (text ∷ texts) is each = (and (test b) (list_all test text) is each.0, each.1)

-- where texts are cut, and what was true of all bytes before
split_each : (cut kept test : ℕ → Bool) → ((b : ℕ) → cut b ≡ false → kept b ≡ true → test b ≡ true) → (bytes : List ℕ)
    → list_all kept bytes ≡ true → Each test (slice_split cut bytes)
split_each cut kept test is [] all = (refl, tt)
split_each cut kept test is (b ∷ bytes) all =
    go (cut b) refl (split_each cut kept test is bytes (both (kept b) (list_all kept bytes) all).1)
  where
    go : (c : Bool) → cut b ≡ c → Each test (slice_split cut bytes) → Each test (slice_split cut (b ∷ bytes))
    go true e later = subst (Each test) (sym (slice_split-cons_yes cut b bytes e)) (refl, later)
    go false e later =
        subst (Each test) (sym (slice_split-cons_no cut b bytes e))
        (onto test b (slice_split cut bytes) (is b e (both (kept b) (list_all kept bytes) all).0) later)

all_take : (test : ℕ → Bool) (n : ℕ) (bytes : List ℕ) → list_all test bytes ≡ true → list_all test (take n bytes) ≡ true
all_take test ℕ.zero bytes all = refl
all_take test (ℕ.suc n) [] all = refl
all_take test (ℕ.suc n) (b ∷ bytes) all =
    let is = both (test b) (list_all test bytes) all in
    and (test b) (list_all test (take n bytes)) is.0 (all_take test n bytes is.1)

all_stripped : (test : ℕ → Bool) (bytes : List ℕ) → list_all test bytes ≡ true → list_all test (strip_carriage_return bytes) ≡ true
all_stripped test bytes all = go (slice_index bytes (length bytes - 1) == 13)
  where
    go : (c : Bool) → list_all test (if c then take (length bytes - 1) bytes else bytes) ≡ true
    go true = all_take test (length bytes - 1) bytes all
    go false = all

lines_each : (test : ℕ → Bool) (parts : List (List ℕ)) → Each test parts → Each test (lines_of_parts parts)
lines_each test [] each = tt
lines_each test (x ∷ []) each = go (length x == 0)
  where
    go : (c : Bool) → Each test (if c then [] else x ∷ [])
    go true = tt
    go false = each
lines_each test (x ∷ y ∷ more) each = (all_stripped test x each.0, lines_each test (y ∷ more) each.1)

-- ---- words

abbrev pub AreWords : List (List ℕ) → Type 0
AreWords [] = Unit {0}
AreWords (word ∷ words) = (is_action word ≡ true) × AreWords words

abbrev pub EachLine : List (List (List ℕ)) → Type 0
EachLine [] = Unit {0}
EachLine (line ∷ later) = AreWords line × EachLine later

is_word : (word : List ℕ) → not (length word == 0) ≡ true → list_all is_action_byte word ≡ true → is_action word ≡ true
is_word [] some all = absurd (false≢true some)
is_word (b ∷ word) some all = all

filter_words : (texts : List (List ℕ)) → Each is_action_byte texts → AreWords (filter (λ word. not (length word == 0)) texts)
filter_words [] each = tt
filter_words (text ∷ texts) each = go (not (length text == 0)) refl (filter_words texts each.1)
  where
    go : (c : Bool) → not (length text == 0) ≡ c → AreWords (filter (λ word. not (length word == 0)) texts)
        → AreWords (if c then text ∷ filter (λ word. not (length word == 0)) texts else filter (λ word. not (length word == 0)) texts)
    go true e later = (is_word text e each.0, later)
    go false e later = later

-- no blank, in a line without LF
action_byte : (b : ℕ) → is_blank b ≡ false → not (b == 10) ≡ true → is_action_byte b ≡ true
action_byte b blank line = go (b == 32) (b == 9) blank
  where
    go : (x y : Bool) → (x || y) ≡ false → (not x && (not y && not (b == 10))) ≡ true
    go true y e = absurd (false≢true (sym e))
    go false true e = absurd (false≢true (sym e))
    go false false e = line

each_line : (texts : List (List ℕ)) → Each (λ b. not (b == 10)) texts → EachLine (map words texts)
unfolding words
each_line [] each = tt
each_line (text ∷ texts) each = (
  filter_words (slice_split is_blank text) (split_each is_blank (λ b. not (b == 10)) is_action_byte action_byte text each.0),
  each_line texts each.1,
)

all_bytes : (bytes : List ℕ) → list_all (λ b. true) bytes ≡ true
all_bytes [] = refl
all_bytes (b ∷ bytes) = all_bytes bytes

words_are : (text : List ℕ) → EachLine (word_lines text)
unfolding word_lines
words_are text =
    each_line (lines text)
    (lines_each (λ b. not (b == 10)) (slice_split (λ b. b == 10) text)
    (split_each (λ b. b == 10) (λ b. true) (λ b. not (b == 10)) (λ b e kept. not_false (b == 10) e) text (all_bytes text)))

-- ---- names

same_name : (word : List ℕ) → shapes.is_name word ≡ true → is_name word ≡ true
unfolding shapes.is_name
same_name [] e = absurd (false≢true e)
same_name (b ∷ word) e = (both (not (length (b ∷ word) == 0)) _ e).1

-- ---- the lines

abbrev pub EachName : List RelayLine → Type 0
EachName [] = Unit {0}
EachName (line ∷ later) = (is_name line.name ≡ true) × EachName later

abbrev pub EachAction : List ProtectLine → Type 0
EachAction [] = Unit {0}
EachAction (line ∷ later) = (is_action line.action ≡ true) × EachAction later

names_are : {texts : List (List (List ℕ))} {lines : List Line} → AreLines texts lines → EachName (relay_lines lines)
names_are AreLines.none = tt
names_are (AreLines.skip s later) = names_are later
names_are (AreLines.shaped {it = Line.Relay it} s is later) = (same_name it.name is.name, names_are later)
names_are (AreLines.shaped {it = Line.Entry it} s is later) = names_are later
names_are (AreLines.shaped {it = Line.Protect it} s is later) = names_are later
names_are (AreLines.shaped {it = Line.Policy} s is later) = names_are later
names_are (AreLines.shaped {it = Line.Spare it} s is later) = names_are later
names_are (AreLines.shaped {it = Line.Outside it} s is later) = names_are later

actions_are : {texts : List (List (List ℕ))} {lines : List Line} → AreLines texts lines → EachLine texts → EachAction (protect_lines lines)
actions_are AreLines.none each = tt
actions_are (AreLines.skip s later) each = actions_are later each.1
actions_are (AreLines.shaped {it = Line.Relay it} s is later) each = actions_are later each.1
actions_are (AreLines.shaped {it = Line.Entry it} s is later) each = actions_are later each.1
actions_are (AreLines.shaped {it = Line.Policy} s is later) each = actions_are later each.1
actions_are (AreLines.shaped {it = Line.Spare it} s is later) each = actions_are later each.1
actions_are (AreLines.shaped {it = Line.Outside it} s is later) each = actions_are later each.1
actions_are (AreLines.shaped {it = Line.Protect it} s is later) each = ((subst AreWords is.whole each.0).1.1.1.0, actions_are later each.1)

-- ---- what the site names

relay_in : (files : List File) {lines : List RelayLine} {relays : List Relay} → AllPaired (IsRelay files) lines relays → EachName lines
    → (k : ℕ) → k < length relays → is_name (name_in (slice_get relays k)) ≡ true
relay_in files AllPaired.none each k low = absurd (omega (arith, low))
relay_in files (AllPaired.more is later) each ℕ.zero low = subst (λ n. is_name n ≡ true) (sym is.name) each.0
relay_in files (AllPaired.more is later) each (ℕ.suc k) low = relay_in files later each.1 k (omega (arith, low))

no_action : Action
no_action = record { name = []; destination = destination.Archive []; retry = None; resume_interval = 0 }

module _ (site : Site) (name : List ℕ) (archive : SiteAction) where
  at_place : (relay : ℕ) (found : Option ℕ) → position (λ a. is_archive a.destination && bytes_eq a.name name) (plan_at site relay).actions ≡ found
      → option_map (λ a. record { relay = relay; action = a }) found ≡ Some archive → action_name site archive ≡ name
  at_place relay None is none = absurd (no_value none)
  at_place relay (Some k) is some =
      let actions = (plan_at site relay).actions in
      let at = position-Some (λ (a : Action). is_archive a.destination && bytes_eq a.name name) actions k no_action is in
      let a = get_or actions k no_action in
      let same = (bytes_eq-Decides a.name name).0 (both (is_archive a.destination) (bytes_eq a.name name) at.1).1 in
      subst (λ (x : SiteAction). action_name site x ≡ name) (one_value some) (ap name_of_action (slice_get-get_or actions k no_action at.0) ∙ same)

  at_relay : (found : Option ℕ) → option_and_then (archive_at site name) found ≡ Some archive → action_name site archive ≡ name
  at_relay None none = absurd (no_value none)
  at_relay (Some relay) some =
      at_place relay (position (λ a. is_archive a.destination && bytes_eq a.name name) (plan_at site relay).actions) refl some

archive_in : (site : Site) {lines : List ProtectLine} {protections : List Protection} → AllPaired (IsProtection site) lines protections → EachAction lines
    → (p : Protection) → Contains protections p → is_action (action_name site p.archive) ≡ true
archive_in site AllPaired.none each p (k, low, is) = absurd (omega (arith, low))
archive_in site (AllPaired.more {x = line} {y = first} it later) each p (ℕ.zero, low, is) =
    subst (λ (q : Protection). is_action (action_name site q.archive) ≡ true) is
    (subst (λ n. is_action n ≡ true) (sym (at_relay site line.action first.archive (relay_named site.relays line.relay) it.archive)) each.0)
archive_in site (AllPaired.more it later) each p (ℕ.suc k, low, is) = archive_in site later each.1 p (k, omega (arith, low), is)

-- relays and archives are named as rows name them, and there is an entry
pub record IsNamed (site : Site) : Type 0 where
  pub relays : (relay : ℕ) → relay < length site.relays → is_name (name_of site relay) ≡ true
  pub archives : (p : Protection) → Contains site.protections p → is_action (action_name site p.archive) ≡ true
  pub entry : SiteInput
  pub is_entry : Contains site.entries entry

first_of : (entries : List SiteInput) → 0 < length entries → (entry : SiteInput) × Contains entries entry
first_of [] some = absurd (omega (arith, some))
first_of (entry ∷ later) some = (entry, (0, omega arith, refl))

pub described_named : (text : List ℕ) (files : List File) (site : Site) → Describes text files site → IsNamed site
described_named text files site is =
    let first = first_of site.entries is.entered in
    record {
      relays = relay_in files is.relays (names_are is.are_lines);
      archives = archive_in site is.protections (actions_are is.are_lines (words_are text));
      entry = first.0;
      is_entry = first.1;
    }
