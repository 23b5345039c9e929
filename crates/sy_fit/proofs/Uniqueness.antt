-- One list is wanted of a class, and one row at most is the first wrong one.
use Rattle.std.proofs.Common.{◌≡◌, ℕ, zero, suc, ◌<◌, ◌+◌, List, [], ◌∷◌, ◌++◌, length, map, drop, refl, sym, ap, subst, ◌∙◌, arith, inl, inr}
use Rattle.std.specs.Prelude.{AllPairs, Contains, ◌⊎◌, slice_get, true}
use Rattle.std.proofs.lemmas.Bool.{cases_lt}
use Rattle.sy_wire.specs.declared.class.Class.{Class}
use Rattle.sy_cert.specs.declared.row.Row.{Row}
use Rattle.sy_site.specs.declared.site.SiteInput.{SiteInput}
use Rattle.sy_site.specs.Sites.{Site, is_protected}
use Rattle.sy_board.specs.relay.Spares.{Scope}
use Rattle.sy_site.specs.machine.Reach.{Reach}
use Rattle.sy_fit.specs.Fit.{AreFit, AreProtected, AreRight, AreWanted, AreWrong, ComesBefore, IsBranch, IsFit, IsFitFor, IsInner, IsReached, IsWrongAt, IsWrongFor, IsWrongIn, ListsAll, StandsBefore, number_of, paths, wanted_kind}
use Rattle.sy_cert.specs.CertificateValue.{Certificate}
use Rattle.sy_fit.specs.Verifying.{IsFault}
use Rattle.sy_fit.specs.internal.Verifying.{AreWrongRows, IsFirstWrong}
use Rattle.sy_fit.specs.declared.verifying.CertFault.{CertFault}
use Rattle.sy_fit.specs.declared.verifying.CertFault.TheVariants as faults
use Rattle.sy_flows.specs.declared.lists.InnerList.{InnerList}
use Rattle.sy_fit.specs.declared.rows.wanted.RowKind.{RowKind}
use Rattle.sy_fit.specs.declared.rows.wanted.Wanted.{Wanted}
use Rattle.sy_fit.specs.declared.rows.wanted.Wanted.TheVariants as wanted
use Rattle.sy_fit.proofs.Comparing.{one_value}
use Rattle.sy_fit.proofs.FitIsSound.{one_behind}

-- ---- lists of all of some kind

nothing_in : {A : Type 0} (x : A) → Contains [] x → ⊥
nothing_in x (k, low, is) = absurd (omega (arith, low))

first_or_later : {A : Type 0} (x : A) (xs : List A) (y : A) → Contains (x ∷ xs) y → (x ≡ y) ⊎ Contains xs y
first_or_later x xs y (zero, low, is) = inl is
first_or_later x xs y (suc k, low, is) = inr (k, omega (arith, low), is)

module _ {A : Type 0} (IsBefore : A → A → Type 0) (apart : (a b : A) → IsBefore a b → IsBefore b a → ⊥) where
  behind_first : (x : A) (xs : List A) → AllPairs IsBefore (x ∷ xs) → (y : A) → Contains xs y → IsBefore x y
  behind_first x xs pairs y (k, low, is) = subst (IsBefore x) is (pairs 0 (suc k) y (omega arith) (omega (arith, low)))

  later_pairs : (x : A) (xs : List A) → AllPairs IsBefore (x ∷ xs) → AllPairs IsBefore xs
  later_pairs x xs pairs i j d low high = pairs (suc i) (suc j) d (omega (arith, low)) (omega (arith, high))

  one_order : (xs ys : List A) → AllPairs IsBefore xs → AllPairs IsBefore ys → ((z : A) → Contains xs z → Contains ys z)
      → ((z : A) → Contains ys z → Contains xs z) → xs ≡ ys
  one_order [] [] first second to from = refl
  one_order [] (y ∷ ys) first second to from = absurd (nothing_in y (from y (0, omega arith, refl)))
  one_order (x ∷ xs) [] first second to from = absurd (nothing_in x (to x (0, omega arith, refl)))
  one_order (x ∷ xs) (y ∷ ys) first second to from =
      let heads : x ≡ y =
      elim (first_or_later y ys x (to x (0, omega arith, refl))) [
        | inl same ↦ sym same
        | inr low ↦
            elim (first_or_later x xs y (from y (0, omega arith, refl))) [
              | inl same ↦ same
              | inr high ↦ absurd (apart x y (behind_first x xs first y high) (behind_first y ys second x low))
            ]
      ] in
      let on : (z : A) → Contains xs z → Contains ys z =
      λ z there. elim (first_or_later y ys z (to z (one_behind x xs z there))) [
        | inl same ↦
            let before = subst (IsBefore x) (sym (heads ∙ same)) (behind_first x xs first z there) in
            absurd (apart x x before before)
        | inr later ↦ later
      ] in
      let back : (z : A) → Contains ys z → Contains xs z =
      λ z there. elim (first_or_later x xs z (from z (one_behind y ys z there))) [
        | inl same ↦
            let before = subst (IsBefore y) (sym (sym heads ∙ same)) (behind_first y ys second z there) in
            absurd (apart y y before before)
        | inr later ↦ later
      ] in
      ap (λ l. x ∷ l) (one_order xs ys (later_pairs x xs first) (later_pairs y ys second) on back) ∙ ap (λ z. z ∷ ys) heads

  one_list : (P : A → Type 0) (xs ys : List A) → ListsAll P IsBefore xs → ListsAll P IsBefore ys → xs ≡ ys
  one_list P xs ys first second = one_order xs ys first.ordered second.ordered (λ z there. (second.member z).1 ((first.member z).0 there))
      (λ z there. (first.member z).1 ((second.member z).0 there))

inputs_apart : (a b : SiteInput) → StandsBefore a b → StandsBefore b a → ⊥
inputs_apart a b (inl low) (inl high) = omega (arith, low, high)
inputs_apart a b (inl low) (inr (same, high)) = omega (arith, low, same)
inputs_apart a b (inr (same, low)) (inl high) = omega (arith, same, high)
inputs_apart a b (inr (same, low)) (inr (other, high)) = omega (arith, low, high)

abbrev all_of : Site → Class → List SiteInput → List SiteInput → List ℕ → List InnerList → List Wanted
all_of site class inputs branches relays inners = wanted.Class class ∷ (map wanted.Reach inputs ++ (map wanted.Branch branches ++ (map wanted.Rank relays
    ++ (map wanted.Inner inners ++ paths site class))))

lists_apart : (a b : InnerList) → ComesBefore a b → ComesBefore b a → ⊥
lists_apart a b (inl low) (inl high) = omega (arith, low, high)
lists_apart a b (inl low) (inr (same, high)) = omega (arith, low, same)
lists_apart a b (inr (same, low)) (inl high) = omega (arith, same, high)
lists_apart a b (inr (same, low)) (inr (other, high)) = omega (arith, low, high)

pub one_wanted : (site : Site) (class : Class) (a b : List Wanted) → AreWanted site class a → AreWanted site class b → a ≡ b
one_wanted site class a b first second =
    let inputs = one_list StandsBefore inputs_apart (Reach site class Scope.Firm) first.inputs second.inputs first.inputs_reached second.inputs_reached in
    let branches = one_list StandsBefore inputs_apart (IsBranch site class) first.branches second.branches first.branches_reached
    second.branches_reached in
    let relays = one_list ◌<◌ (λ m n low high. omega (arith, low, high)) (IsReached site class) first.relays second.relays first.relays_reached
    second.relays_reached in
    let inners = one_list ComesBefore lists_apart (IsInner site class) first.inners second.inners first.inners_posted second.inners_posted in
    first.whole
    ∙ ap (λ l. all_of site class l first.branches first.relays first.inners) inputs
    ∙ ap (λ l. all_of site class second.inputs l first.relays first.inners) branches
    ∙ ap (λ l. all_of site class second.inputs second.branches l first.inners) relays
    ∙ ap (λ l. all_of site class second.inputs second.branches second.relays l) inners
    ∙ sym second.whole

one_protected : (site : Site) (a b : List Class) → AreProtected site a → AreProtected site b → a ≡ b
one_protected site a b first second = one_list (λ a b. number_of a < number_of b) (λ a b low high. omega (arith, low, high))
    (λ class. is_protected site class ≡ true) a b first second

-- ---- one first wrong row

-- what follows from the rows of two parts that are one
module _ (site : Site) (class : Class) (part : List Wanted) (rows : List Row) where
  no_wrong : (place : ℕ) (kind : RowKind) → AreRight site class part rows → IsWrongAt site class part rows place kind → ⊥
  no_wrong place kind right wrong = wrong.wrong (right place wrong.is wrong.is_wanted)

  one_place : (p q : ℕ) (m n : RowKind) → IsWrongAt site class part rows p m → IsWrongAt site class part rows q n → (p ≡ q) × (m ≡ n)
  one_place p q m n first second =
      elim (cases_lt p q) [
        | inl low ↦ absurd (first.wrong (second.before p first.is low first.is_wanted))
        | inr most ↦
            elim (cases_lt q p) [
              | inl low ↦ absurd (second.wrong (first.before q second.is low second.is_wanted))
              | inr least ↦
                  let same : p ≡ q = omega (arith, most, least) in
                  let is = one_value (sym first.is_wanted ∙ ap (slice_get part) same ∙ second.is_wanted) in
                  (same, first.kind_is ∙ ap wanted_kind is ∙ sym second.kind_is)
            ]
      ]

fit_not_wrong : (site : Site) (classes : List Class) (rows : List Row) (place : ℕ) (kind : RowKind) → AreFit site classes rows
    → AreWrong site classes rows place kind → ⊥
fit_not_wrong site [] [] place kind fit wrong = wrong
fit_not_wrong site [] (r ∷ rows) place kind fit wrong = cc
fit_not_wrong site (class ∷ classes) rows place kind (part, is, right, fit) (other, are, inl wrong) =
    no_wrong site class part rows place kind right
    (subst (λ l. IsWrongAt site class l rows place kind) (one_wanted site class other part are is) wrong)
fit_not_wrong site (class ∷ classes) rows place kind (part, is, right, fit) (other, are, inr (same, later, sum, wrong)) =
    fit_not_wrong site classes (drop (length part) rows) later kind fit
    (subst (λ (l : List Wanted). AreWrong site classes (drop (length l) rows) later kind) (one_wanted site class other part are is) wrong)

one_wrong : (site : Site) (classes : List Class) (rows : List Row) (p q : ℕ) (m n : RowKind) → AreWrong site classes rows p m
    → AreWrong site classes rows q n → (p ≡ q) × (m ≡ n)
one_wrong site [] [] p q m n first second = absurd first
one_wrong site [] (r ∷ rows) p q m n first second = (first.0 ∙ sym second.0, first.1 ∙ sym second.1)
one_wrong site (class ∷ classes) rows p q m n (part, is, inl first) (other, are, inl second) =
    one_place site class part rows p q m n first
    (subst (λ l. IsWrongAt site class l rows q n) (one_wanted site class other part are is) second)
one_wrong site (class ∷ classes) rows p q m n (part, is, inl first) (other, are, inr (right, later, sum, second)) =
    absurd (no_wrong site class part rows p m (subst (λ l. AreRight site class l rows) (one_wanted site class other part are is) right) first)
one_wrong site (class ∷ classes) rows p q m n (part, is, inr (right, later, sum, first)) (other, are, inl second) =
    absurd (no_wrong site class part rows q n right
    (subst (λ l. IsWrongAt site class l rows q n) (one_wanted site class other part are is) second))
one_wrong site (class ∷ classes) rows p q m n (part, is, inr (right, j, sum, first)) (other, are, inr (also, k, total, second)) =
    let same = one_wanted site class other part are is in
    let found = one_wrong site classes (drop (length part) rows) j k m n first
    (subst (λ (l : List Wanted). AreWrong site classes (drop (length l) rows) k n) same second) in
    (sum ∙ ap (λ i. length part + i) found.0 ∙ ap (λ (l : List Wanted). length l + k) (sym same) ∙ sym total, found.1)

pub no_wrong_in : (site : Site) (rows : List Row) (line : ℕ) (kind : RowKind) → IsFit site rows → IsWrongIn site rows line kind → ⊥
no_wrong_in site rows line kind fit wrong = fit_not_wrong site fit.classes rows wrong.place kind fit.fit
    (subst (λ l. AreWrong site l rows wrong.place kind) (one_protected site wrong.classes fit.classes wrong.protected fit.protected) wrong.wrong)

pub one_wrong_in : (site : Site) (rows : List Row) (first second : ℕ) (m n : RowKind) → IsWrongIn site rows first m → IsWrongIn site rows second n
    → (first ≡ second) × (m ≡ n)
one_wrong_in site rows first second m n a b =
    let found = one_wrong site a.classes rows a.place b.place m n a.wrong
    (subst (λ l. AreWrong site l rows b.place n) (one_protected site b.classes a.classes b.protected a.protected) b.wrong) in
    (a.line_is ∙ ap (λ k. k + 2) found.0 ∙ sym b.line_is, found.1)

-- the first wrong row of the site's classes
pub wrong_rows : (site : Site) (protected classes : List Class) (rows others : List Row) (fault : CertFault) → AreProtected site protected
    → classes ≡ protected → rows ≡ others → IsFirstWrong site classes rows fault → AreWrongRows site others fault
wrong_rows site protected classes rows others (faults.Wrong line kind) are same all (place, wrong, is) = record {
  classes = classes;
  protected = subst (AreProtected site) (sym same) are;
  place = place;
  wrong = subst (λ l. AreWrong site classes l place kind) all wrong;
  line_is = is;
}
wrong_rows site protected classes rows others faults.NoMemory are same all wrong = tt

-- ---- certificates

pub no_wrong_for : (site : Site) (certificate : Certificate) (line : ℕ) (kind : RowKind) → IsFitFor site certificate
    → IsWrongFor site certificate line kind → ⊥
no_wrong_for site certificate line kind fit (inl first) = first.0 fit.version
no_wrong_for site certificate line kind fit (inr later) = no_wrong_in site certificate.rows line kind fit.rows later.1

pub one_wrong_for : (site : Site) (certificate : Certificate) (first second : ℕ) (m n : RowKind) → IsWrongFor site certificate first m
    → IsWrongFor site certificate second n → (first ≡ second) × (m ≡ n)
one_wrong_for site certificate first second m n (inl a) (inl b) = (a.1 ∙ sym b.1, a.2 ∙ sym b.2)
one_wrong_for site certificate first second m n (inl a) (inr b) = absurd (a.0 b.0)
one_wrong_for site certificate first second m n (inr a) (inl b) = absurd (b.0 a.0)
one_wrong_for site certificate first second m n (inr a) (inr b) = one_wrong_in site certificate.rows first second m n a.1 b.1

-- a fit certificate is refused for want of memory alone
pub only_memory : (site : Site) (certificate : Certificate) (fault : CertFault) → IsFault site certificate fault → IsFitFor site certificate
    → fault ≡ faults.NoMemory
only_memory site certificate (faults.Wrong line kind) wrong fit = absurd (no_wrong_for site certificate line kind fit wrong)
only_memory site certificate faults.NoMemory wrong fit = refl

-- where the version is the site's policy, what is wrong is wrong with the rows
pub fault_of : (site : Site) (certificate : Certificate) (rows : List Row) (fault : CertFault) → certificate.version ≡ site.policy
    → rows ≡ certificate.rows → AreWrongRows site rows fault → IsFault site certificate fault
fault_of site certificate rows (faults.Wrong line kind) same is wrong = inr (same, subst (λ l. IsWrongIn site l line kind) is wrong)
fault_of site certificate rows faults.NoMemory same is wrong = tt
