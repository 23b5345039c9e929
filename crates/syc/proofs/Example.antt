-- What the example site's file says: one class in each severity of the facility auth is protected, which are eight.
use Rattle.std.proofs.Common.{◌≡◌, ◌≢◌, ℕ, zero, suc, ◌+◌, ◌-◌, ◌||◌, ◌<◌, ◌≤◌, ◌==◌, ◌⊎◌, inl, inr, Bool, true, false, List, [], ◌∷◌, length, refl, sym, ap, subst, ◌∙◌, arith}
use Rattle.std.specs.List.{list_any}
use Rattle.std.specs.Prelude.{AllPairs, Contains, codes}
use Rattle.std.proofs.lemmas.Bool.{eqb-true, false≢true}
use Rattle.sy_wire.specs.declared.class.Class.{Class}
use Rattle.sy_select.specs.Names.{facility_of}
use Rattle.sy_select.specs.Selectors.{IsSelector, IsSetOf, Part, add, apply, every, holds, last, listed, no_pairs, one, pairs_of, star}
use Rattle.sy_select.proofs.OneReading.{one_list}
use Rattle.sy_site.specs.Sites.{Site, asks_for, is_protected}
use Rattle.sy_site.specs.declared.site.Protection.{Protection}
use Rattle.sy_site.specs.texts.Lines.{is_skipped, word_lines, words}
use Rattle.sy_site.specs.texts.Files.{file_names}
use Rattle.sy_site.specs.texts.Shapes.{IsLine, IsProtectLine, Line, ProtectLine}
use Rattle.sy_site.specs.texts.Describes.{AllPaired, AreLines, Describes, IsProtection, protect_lines}
use Rattle.sy_fit.specs.Fit.{AreProtected, number_of}
use Rattle.syc.specs.Examples.{relay_files}
use Rattle.syc.specs.declared.examples.TheConstants.{SITE}

-- ---- its lines

abbrev first_relay : List (List ℕ)
first_relay = codes "relay" ∷ codes "edge" ∷ codes "edge.conf" ∷ []

abbrev second_relay : List (List ℕ)
second_relay = codes "relay" ∷ codes "hub" ∷ codes "hub.conf" ∷ []

abbrev entry : List (List ℕ)
entry = codes "entry" ∷ codes "edge" ∷ codes "6514" ∷ []

abbrev protection : List (List ℕ)
protection = codes "protect" ∷ codes "auth.*" ∷ codes "hub" ∷ codes "audit" ∷ []

lines_are : word_lines SITE.now ≡ first_relay ∷ second_relay ∷ entry ∷ protection ∷ []
unfolding word_lines words
lines_are = refl

pub names_are : file_names SITE.now ≡ codes "edge.conf" ∷ codes "hub.conf" ∷ []
unfolding word_lines words
names_are = refl

-- (of the words that a line may begin with, only protect has this one in the second place)
abbrev second_letter : List (List ℕ) → ℕ
second_letter ((c ∷ d ∷ cs) ∷ words) = d
second_letter _ = 0

-- a line that isn't skipped has a shape
record Taken (words : List (List ℕ)) (later : List (List (List ℕ))) (lines : List Line) : Type 0 where
  it : Line
  rest : List Line
  whole : lines ≡ it ∷ rest
  is_line : IsLine words it
  are_lines : AreLines later rest

taken : {words : List (List ℕ)} {later : List (List (List ℕ))} {lines : List Line} → AreLines (words ∷ later) lines → is_skipped words ≡ false
    → Taken words later lines
taken (AreLines.skip skipped are) other = absurd (false≢true (sym other ∙ skipped))
taken (AreLines.shaped unskipped is are) other = record { it = _; rest = _; whole = refl; is_line = is; are_lines = are }

no_protection : (words : List (List ℕ)) (it : Line) (lines : List Line) → IsLine words it → second_letter words ≢ 114
    → protect_lines (it ∷ lines) ≡ protect_lines lines
no_protection words Line.Policy lines is other = refl
no_protection words (Line.Relay r) lines is other = refl
no_protection words (Line.Entry e) lines is other = refl
no_protection words (Line.Protect p) lines is other = absurd (other (ap second_letter is.whole))
no_protection words (Line.Spare s) lines is other = refl
no_protection words (Line.Outside o) lines is other = refl

a_protection : (words : List (List ℕ)) (it : Line) (lines : List Line) → IsLine words it → second_letter words ≡ 114
    → (p : ProtectLine) × IsProtectLine words p × (protect_lines (it ∷ lines) ≡ p ∷ protect_lines lines)
a_protection words Line.Policy lines is letter = let e : 114 ≡ 111 = sym letter ∙ ap second_letter is in absurd (omega (arith, e))
a_protection words (Line.Relay r) lines is letter = let e : 114 ≡ 101 = sym letter ∙ ap second_letter is.whole in absurd (omega (arith, e))
a_protection words (Line.Entry e) lines is letter = let e : 114 ≡ 110 = sym letter ∙ ap second_letter is.whole in absurd (omega (arith, e))
a_protection words (Line.Protect p) lines is letter = (p, is, refl)
a_protection words (Line.Spare s) lines is letter = let e : 114 ≡ 112 = sym letter ∙ ap second_letter is in absurd (omega (arith, e))
a_protection words (Line.Outside o) lines is letter = let e : 114 ≡ 117 = sym letter ∙ ap second_letter is.whole in absurd (omega (arith, e))

no_lines : {lines : List Line} → AreLines [] lines → lines ≡ []
no_lines AreLines.none = refl

-- one line alone protects something
one_protection : (lines : List Line) → AreLines (word_lines SITE.now) lines → (p : ProtectLine) × IsProtectLine protection p × (protect_lines lines ≡ p ∷ [])
one_protection lines are =
    let a = taken (subst (λ all. AreLines all lines) lines_are are) refl in
    let b = taken a.are_lines refl in
    let c = taken b.are_lines refl in
    let d = taken c.are_lines refl in
    let p = a_protection protection d.it d.rest d.is_line refl in (
      p.0,
      p.1,
      ap protect_lines a.whole ∙ no_protection first_relay a.it a.rest a.is_line (λ e. omega (arith, e))
          ∙ ap protect_lines b.whole ∙ no_protection second_relay b.it b.rest b.is_line (λ e. omega (arith, e))
          ∙ ap protect_lines c.whole ∙ no_protection entry c.it c.rest c.is_line (λ e. omega (arith, e))
          ∙ ap protect_lines d.whole ∙ p.2 ∙ ap (λ ls. p.0 ∷ protect_lines ls) (no_lines d.are_lines),
    )

-- ---- its selector

abbrev auth : List Part
auth = record { facilities = listed (4 ∷ []); level = add every } ∷ []

auth_is : IsSelector (codes "auth.*") auth
unfolding facility_of
auth_is = last (record { front = codes "auth"; behind = codes "*"; facilities = one (codes "auth") refl; level = star; whole = refl })

pairs_are : (f s : ℕ) → pairs_of auth f s ≡ (4 == f)
unfolding pairs_of
pairs_are f s = go (4 == f) refl
  where
    go : (b : Bool) → (4 == f) ≡ b → apply no_pairs (record { facilities = listed (4 ∷ []); level = add every }) f s ≡ (4 == f)
    go true e = rw e refl
    go false e = rw e refl

holds_auth : (sets : List ℕ) → IsSetOf (codes "auth.*") sets → (class : Class) → holds sets class.facility class.severity ≡ (4 == class.facility)
holds_auth sets is class =
    is.same class.facility class.severity class.facility_in_range class.severity_in_range
    ∙ ap (λ parts. pairs_of parts class.facility class.severity) (one_list (codes "auth.*") is.parts auth is.is_selector auth_is)
    ∙ pairs_are class.facility class.severity

second_word : {a b c d e f g h : List ℕ} → a ∷ b ∷ c ∷ d ∷ [] ≡ e ∷ f ∷ g ∷ h ∷ [] → b ≡ f
second_word e = cc

selected : (p : ProtectLine) → IsProtectLine protection p → IsSetOf (codes "auth.*") p.selector
selected p is = subst (λ word. IsSetOf word p.selector) (sym (second_word is.whole)) is.selector

only_one : {P : ProtectLine → Protection → Type 0} {p : ProtectLine} {ys : List Protection} → AllPaired P (p ∷ []) ys
    → (y : Protection) × (ys ≡ y ∷ []) × P p y
only_one (AllPaired.more is AllPaired.none) = (_, refl, is)

or_none : (b : Bool) → (b || false) ≡ b
or_none true = refl
or_none false = refl

protected_is : (site : Site) → Describes SITE.now relay_files site → (class : Class) → is_protected site class ≡ (4 == class.facility)
protected_is site is class =
    let line = one_protection is.lines is.are_lines in
    let paired = only_one (subst (λ ls. AllPaired (IsProtection site) ls site.protections) line.2 is.protections) in
    ap (λ l. list_any (λ p. asks_for p class) l) paired.1 ∙ or_none (asks_for paired.0 class)
    ∙ ap (λ sets. holds sets class.facility class.severity) paired.2.selector ∙ holds_auth line.0.selector (selected line.0 line.1) class

-- ---- its protected classes

behind_first : (x : Class) (xs : List Class) → AllPairs (λ a b. number_of a < number_of b) (x ∷ xs) → (y : Class) → Contains xs y
    → number_of x < number_of y
behind_first x xs pairs y (k, low, is) =
    subst (λ z. number_of x < number_of z) is (pairs 0 (suc k) y (omega arith) (omega (arith, low)))

later_pairs : (x : Class) (xs : List Class) → AllPairs (λ a b. number_of a < number_of b) (x ∷ xs)
    → AllPairs (λ a b. number_of a < number_of b) xs
later_pairs x xs pairs i j d low high = pairs (suc i) (suc j) d (omega (arith, low)) (omega (arith, high))

first_or_later : (x : Class) (xs : List Class) (y : Class) → Contains (x ∷ xs) y → (x ≡ y) ⊎ Contains xs y
first_or_later x xs y (zero, low, is) = inl is
first_or_later x xs y (suc k, low, is) = inr (k, omega (arith, low), is)

later_in : (x : Class) (xs : List Class) (y : Class) → Contains xs y → Contains (x ∷ xs) y
later_in x xs y (k, low, is) = (suc k, omega (arith, low), is)

-- classes in order, whose numbers are those from one on, so many
counted : (xs : List Class) (from count : ℕ) → AllPairs (λ a b. number_of a < number_of b) xs
    → ((x : Class) → Contains xs x → (from ≤ number_of x) × (number_of x < from + count))
    → ((k : ℕ) → from ≤ k → k < from + count → (x : Class) × Contains xs x × (number_of x ≡ k))
    → length xs ≡ count
counted [] from zero pairs within all = refl
counted [] from (suc count) pairs within all = let (x, (k, low, is), number) = all from (omega arith) (omega arith) in absurd (omega (arith, low))
counted (x ∷ xs) from zero pairs within all = let (low, high) = within x (0, omega arith, refl) in absurd (omega (arith, low, high))
counted (x ∷ xs) from (suc count) pairs within all =
    let least : from ≤ number_of x = (within x (0, omega arith, refl)).0 in
    let found = all from (omega arith) (omega arith) in
    let first : number_of x ≡ from =
    elim (first_or_later x xs found.0 found.1) [
      | inl same ↦ ap number_of same ∙ found.2
      | inr later ↦ let above = behind_first x xs pairs found.0 later in absurd (omega (arith, least, above, found.2))
    ] in
    let rest =
    counted xs (from + 1) count (later_pairs x xs pairs)
    (λ y there.
    let above = behind_first x xs pairs y there in
    let (low, high) = within y (later_in x xs y there) in
    (omega (arith, above, first), omega (arith, high)))
    (λ k low high.
    let other = all k (omega (arith, low)) (omega (arith, high)) in
    elim (first_or_later x xs other.0 other.1) [
      | inl same ↦ let number = ap number_of same ∙ other.2 in absurd (omega (arith, number, first, low))
      | inr later ↦ (other.0, later, other.2)
    ]) in
    ap suc rest

-- Eight classes are protected, those of the facility auth.
pub eight : (site : Site) (classes : List Class) → Describes SITE.now relay_files site → AreProtected site classes → length classes ≡ 8
eight site classes is protected =
    counted classes 32 8 protected.ordered
    (λ x there.
    let facility : 4 ≡ x.facility = eqb-true 4 x.facility (sym (protected_is site is x) ∙ (protected.member x).0 there) in
    (omega (arith, facility, x.severity_in_range), omega (arith, facility, x.severity_in_range)))
    (λ k low high.
    let class : Class = record { facility = 4; severity = k - 32; facility_in_range = omega arith; severity_in_range = omega (arith, low, high) } in
    (class, (protected.member class).1 (protected_is site is class), omega (arith, low)))
