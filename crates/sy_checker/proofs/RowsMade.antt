-- Rows that are made as they are wanted, are right.
use Rattle.std.proofs.Common.{◌≡◌, ℕ, ◌<◌, ◌≤◌, ◌+◌, List, [], ◌∷◌, ◌++◌, length, get_or, Some, refl, sym, subst, ap, ◌∙◌, arith, inl, inr}
use Rattle.std.specs.Prelude.{Contains, slice_get}
use Rattle.std.proofs.lemmas.Bool.{cases_eq}
use Rattle.std.proofs.lemmas.List.{length-append}
use Rattle.std.proofs.lemmas.Option.{get_or_from_slice_get, slice_get_within}
use Rattle.sy_wire.specs.declared.class.Class.{Class}
use Rattle.sy_cert.specs.declared.row.Row.{Row}
use Rattle.sy_cert.specs.declared.row.Row.TheVariants as row
use Rattle.sy_site.specs.Sites.{Site}
use Rattle.sy_site.specs.machine.Soundness.{AreRanks}
use Rattle.sy_fit.specs.declared.rows.wanted.Wanted.{Wanted}
use Rattle.sy_fit.specs.declared.rows.wanted.Wanted.TheVariants as wanted
use Rattle.sy_flows.specs.declared.lists.InnerList.{InnerList}
use Rattle.sy_fit.specs.Fit.{AreRight, AreWanted, IsAbove, IsInner, IsInnerRow, IsNumbered, IsRankRow, IsRight}
use Rattle.sy_checker.specs.internal.Inner.{AreNumbers}
use Rattle.sy_checker.specs.internal.Made.{IsMade, IsMadeAt}
use Rattle.sy_fit.proofs.Comparing.{meant}
use Rattle.sy_fit.proofs.InnerLists.{on}

one_value : {A : Type 0} {x y : A} → Some x ≡ Some y → x ≡ y
one_value e = cc

-- ---- row after row

abbrev pub AreMadeBelow : Site → Class → List Wanted → List ℕ → (ℕ → ℕ → ℕ) → List Row → ℕ → Type 0
AreMadeBelow site class part ranks number rows most = (k : ℕ) (is : Wanted) → k < most → slice_get part k ≡ Some is → IsMadeAt site class ranks number rows k is

pub same_place : (old more : List Row) (j : ℕ) → j < length old → slice_get (old ++ more) j ≡ slice_get old j
same_place [] more j low = absurd (omega (arith, low))
same_place (x ∷ old) more ℕ.zero low = refl
same_place (x ∷ old) more (ℕ.suc j) low = same_place old more j (omega (arith, low))

last_place : (old : List Row) (r : Row) → slice_get (old ++ r ∷ []) (length old) ≡ Some r
last_place [] r = refl
last_place (x ∷ old) r = last_place old r

module _ (site : Site) (class : Class) (part : List Wanted) (ranks : List ℕ) (number : ℕ → ℕ → ℕ) (rows : List Row) (n : ℕ) (many : length rows ≡ n) where
  pub made_more : (it : Wanted) (r : Row) → slice_get part n ≡ Some it → IsMade site class ranks number it r → AreMadeBelow site class part ranks number rows n
      → AreMadeBelow site class part ranks number (rows ++ r ∷ []) (n + 1)
  made_more it r here made before k is low there = elim (cases_eq k n) [
    | inl same ↦
        let at : slice_get part n ≡ Some is = subst (λ j. slice_get part j ≡ Some is) same there in
        record {
          stands = r;
          there = subst (λ j. slice_get (rows ++ r ∷ []) j ≡ Some r) (many ∙ sym same) (last_place rows r);
          made = subst (λ x. IsMade site class ranks number x r) (one_value (sym here ∙ at)) made;
        }
    | inr apart ↦
        let it = before k is (omega (arith, low, apart)) there in
        record {
          stands = it.stands;
          there = same_place rows (r ∷ []) k (slice_get_within rows k it.stands it.there) ∙ it.there;
          made = it.made;
        }
  ]

-- ---- all of them

stands_in : (xs : List Wanted) (k : ℕ) (x : Wanted) → slice_get xs k ≡ Some x → Contains xs x
stands_in xs k x is = (k, slice_get_within xs k x is, get_or_from_slice_get xs k x x is)

one_rank : {name other : List ℕ} {a b : ℕ} → Some (row.Rank name a) ≡ Some (row.Rank other b) → a ≡ b
one_rank e = cc

one_number : {name other : List ℕ} {l m a b : ℕ} → Some (row.Inner name l a) ≡ Some (row.Inner other m b) → a ≡ b
one_number e = cc

module _ (site : Site) (class : Class) (part : List Wanted) (ranks : List ℕ) (number : ℕ → ℕ → ℕ) (rows : List Row)
    (made : (k : ℕ) (is : Wanted) → slice_get part k ≡ Some is → IsMadeAt site class ranks number rows k is)
    (are : AreWanted site class part) (falls : AreRanks site class (λ relay. get_or ranks relay 0)) (numbers : AreNumbers site class number) where
  is_above : (of : ℕ) → IsAbove site class part rows of (get_or ranks of 0)
  is_above of from to number below same reach goes has =
      let at = made has.place (wanted.Rank to.relay) has.is_wanted in
      let is : below ≡ get_or ranks to.relay 0 = one_rank (sym has.stands ∙ at.there ∙ ap Some at.made) in
      let less = falls.falls from to number reach goes in
      let relays : get_or ranks from.relay 0 ≡ get_or ranks of 0 = ap (λ r. get_or ranks r 0) same in
      omega (arith, is, less, relays)

  is_numbered : (inner : InnerList) → IsInner site class inner → IsNumbered site class part rows inner (number inner.relay inner.list)
  is_numbered inner is post to below does has =
      let at = made has.place (wanted.Inner (on inner.relay to)) has.is_wanted in
      let same : below ≡ number inner.relay to = one_number (sym has.stands ∙ at.there ∙ ap Some at.made) in
      let less = numbers inner to is (post, does) in
      omega (arith, same, less)

  right_by : (is : Wanted) → Contains part is → (r : Row) → IsMade site class ranks number is r → IsRight site class part rows is r
  right_by (wanted.Class c) there r m = m
  right_by (wanted.Reach input) there r m = m
  right_by (wanted.Branch input) there r m = m
  right_by (wanted.Rank of) there r m = subst (IsRankRow site class part rows of) (sym m) (refl, is_above of)
  right_by (wanted.Inner inner) there r m =
      subst (IsInnerRow site class part rows inner) (sym m) (refl, refl, is_numbered inner (meant site class part are (wanted.Inner inner) there))
  right_by (wanted.Path entry archive) there r m = m

  pub are_right : AreRight site class part rows
  are_right place is there =
      let at = made place is there in
      record { stands = at.stands; there = at.there; right = right_by is (stands_in part place is there) at.stands at.made }

pub made_right : (site : Site) (class : Class) (part : List Wanted) (ranks : List ℕ) (number : ℕ → ℕ → ℕ) (rows : List Row) (n : ℕ) → length part ≤ n
    → AreMadeBelow site class part ranks number rows n → AreWanted site class part → AreRanks site class (λ relay. get_or ranks relay 0)
    → AreNumbers site class number → AreRight site class part rows
made_right site class part ranks number rows n all made are falls numbers =
    are_right site class part ranks number rows
    (λ k is there. (let low = slice_get_within part k is there in made k is (omega (arith, low, all)) there)) are falls numbers

pub made_step : (site : Site) (class : Class) (part : List Wanted) (ranks : List ℕ) (number : ℕ → ℕ → ℕ) (rows new : List Row) (n : ℕ) (it : Wanted) (r : Row)
    → new ≡ rows ++ r ∷ [] → slice_get part n ≡ Some it → IsMade site class ranks number it r
    → AreMadeBelow site class part ranks number rows n × (length rows ≡ n) → AreMadeBelow site class part ranks number new (n + 1) × (length new ≡ n + 1)
made_step site class part ranks number rows new n it r is here made (before, many) = (
  subst (λ l. AreMadeBelow site class part ranks number l (n + 1)) (sym is) (made_more site class part ranks number rows n many it r here made before),
  ap length is ∙ length-append rows (r ∷ []) ∙ ap (λ k. k + 1) many,
)
