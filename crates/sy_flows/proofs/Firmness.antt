-- Sets of the occurrences that aren't spare, and of those that are executed.
use Rattle.std.proofs.Common.{◌≡◌, ℕ, ◌<◌, ◌≤◌, ◌+◌, ◌*◌, ◌^◌, ◌%◌, Bool, true, false, not, if◌then◌else◌, List, [], ◌∷◌, ◌++◌, length, Some, refl, sym, ap, subst, ◌∙◌, arith, inl, inr, eqb-true, eq-eqb}
use Rattle.std.specs.Prelude.{◌↔◌, ◌⊎◌, ◌==◌, min, slice_get}
use Rattle.std.specs.Int.{bit_at, Width}
use Rattle.std.specs.Int.Bits.{bit_and, bit_or}
use Rattle.std.proofs.lemmas.Bool.{cases_eq, false≢true}
use Rattle.std.proofs.lemmas.Option.{slice_get_within}
use Rattle.std.proofs.lemmas.Nat.Bits.{bit_at_and, bit_at-lt, bit_at-zero, bit_at_set_same, bit_at_set_other}
use Rattle.sy_wire.specs.declared.class.Class.{Class}
use Rattle.sy_rules.specs.declared.lists.occurrence.Occurrence.{Occurrence}
use Rattle.sy_rules.specs.Whole.{body_at}
use Rattle.sy_rules.specs.lists.Sets.{Bits}
use Rattle.sy_rules.specs.lists.Work.{May, Must}
use Rattle.sy_site.specs.declared.site.SiteAction.{SiteAction}
use Rattle.sy_site.specs.Sites.{Site, actions_at, does_spare, plan_at}
use Rattle.sy_site.specs.machine.Reach.{occurrence_at}
use Rattle.sy_flows.specs.declared.flows.executed.Executed.{Executed}
use Rattle.sy_flows.specs.declared.flows.executed.Executed.TheVariants as executed
use Rattle.sy_flows.specs.declared.flows.ListFlows.{ListFlows}
use Rattle.sy_flows.specs.Flows.{IsFirm, IsFlow, IsSet, set_of}

-- ---- the actions of a relay

choose : (b : Bool) (a : ℕ) (all front behind : List ℕ) → all ≡ front ++ behind → (if b then a ∷ all else all) ≡ (if b then a ∷ front else front) ++ behind
choose true a all front behind e = ap (λ l. a ∷ l) e
choose false a all front behind e = e

pub actions_append : (xs ys : List SiteAction) (relay : ℕ) → actions_at (xs ++ ys) relay ≡ actions_at xs relay ++ actions_at ys relay
actions_append [] ys relay = refl
actions_append (x ∷ xs) ys relay =
    choose (x.relay == relay) x.action (actions_at (xs ++ ys) relay) (actions_at xs relay) (actions_at ys relay) (actions_append xs ys relay)

pub action_here : (a : SiteAction) (relay : ℕ) → a.relay ≡ relay → actions_at (a ∷ []) relay ≡ a.action ∷ []
action_here a relay e = rw (eq-eqb a.relay relay e) refl

pub action_elsewhere : (a : SiteAction) (relay : ℕ) → (a.relay ≡ relay → ⊥) → actions_at (a ∷ []) relay ≡ []
action_elsewhere a relay apart = go (a.relay == relay) refl
  where
    go : (b : Bool) → (a.relay == relay) ≡ b → actions_at (a ∷ []) relay ≡ []
    go true e = absurd (apart (eqb-true a.relay relay e))
    go false e = rw e refl

-- ---- a number more in a set

pub with_bit : (set n : ℕ) (asked : Bool) → n < 64 → asked ≡ true → (k : ℕ)
    → (bit_at (bit_or set (1 * 2 ^ n % 18446744073709551616)) k ≡ 1) ↔ ((bit_at set k ≡ 1) ⊎ ((k ≡ n) × (asked ≡ true)))
with_bit set n asked low is_asked k = elim (cases_eq k n) [
  | inl same ↦ (
    λ is. inr (same, is_asked),
    λ any. subst (λ j. bit_at (bit_or set (1 * 2 ^ n % 18446744073709551616)) j ≡ 1) (sym same) (bit_at_set_same Width.w64 set n low),
  )
  | inr apart ↦
      let other = bit_at_set_other Width.w64 set n low k apart in (
        λ is. inl (sym other ∙ is),
        λ any. elim any [
          | inl is ↦ other ∙ is
          | inr last ↦ absurd (apart last.0)
        ],
      )
]

pub as_it_was : (set n : ℕ) (asked : Bool) → asked ≡ false → (k : ℕ)
    → (bit_at set k ≡ 1) ↔ ((bit_at set k ≡ 1) ⊎ ((k ≡ n) × (asked ≡ true)))
as_it_was set n asked not_asked k = (
  λ is. inl is,
  λ any. elim any [
    | inl is ↦ is
    | inr last ↦ absurd (false≢true (sym not_asked ∙ last.1))
  ],
)

-- ---- those of some occurrences that aren't spare, up to a number

pub record AreFirmBelow (is_spare : Occurrence → Bool) (occurrences : List Occurrence) (most set : ℕ) : Type 0 where
  pub below : (n : ℕ) (is : Occurrence) → n < most → slice_get occurrences n ≡ Some is → (bit_at set n ≡ 1) ↔ (is_spare is ≡ false)
  pub above : (n : ℕ) → most ≤ n → bit_at set n ≡ 1 → ⊥

pub none_firm : (is_spare : Occurrence → Bool) (occurrences : List Occurrence) → AreFirmBelow is_spare occurrences 0 0
none_firm is_spare occurrences = record {
  below = λ n is low here. absurd (omega (arith, low));
  above = λ n high bit. (let zero = bit_at-zero n in absurd (omega (arith, zero, bit)));
}

one_value : {A : Type 0} {x y : A} → Some x ≡ Some y → x ≡ y
one_value e = cc

not_false : (b : Bool) → not b ≡ true → b ≡ false
not_false true e = absurd (false≢true e)
not_false false e = refl

pub more_firm : (is_spare : Occurrence → Bool) (occurrences : List Occurrence) (most old new : ℕ) (it : Occurrence) (asked : Bool)
    → slice_get occurrences most ≡ Some it → asked ≡ not (is_spare it)
    → ((k : ℕ) → (bit_at new k ≡ 1) ↔ ((bit_at old k ≡ 1) ⊎ ((k ≡ most) × (asked ≡ true))))
    → AreFirmBelow is_spare occurrences most old → AreFirmBelow is_spare occurrences (most + 1) new
more_firm is_spare occurrences most old new it asked here is_asked bits_are before = record {
  below = λ n is low at. elim (cases_eq n most) [
    | inl same ↦
        let same_one : is ≡ it = one_value (sym at ∙ subst (λ j. slice_get occurrences j ≡ Some it) (sym same) here) in (
          λ bit. elim ((bits_are n).0 bit) [
            | inl was ↦ absurd (before.above n (omega (arith, same)) was)
            | inr last ↦ subst (λ o. is_spare o ≡ false) (sym same_one) (not_false (is_spare it) (sym is_asked ∙ last.1))
          ],
          λ firm. (bits_are n).1 (inr (same, is_asked ∙ ap (λ o. not (is_spare o)) (sym same_one) ∙ ap not firm)),
        )
    | inr apart ↦
        let earlier = before.below n is (omega (arith, low, apart)) at in (
          λ bit. elim ((bits_are n).0 bit) [
            | inl was ↦ earlier.0 was
            | inr last ↦ absurd (apart last.0)
          ],
          λ firm. (bits_are n).1 (inl (earlier.1 firm)),
        )
  ];
  above = λ n high bit. elim ((bits_are n).0 bit) [
    | inl was ↦ before.above n (omega (arith, high)) was
    | inr last ↦ let at = last.0 in absurd (omega (arith, at, high))
  ];
}

pub firm_all : (is_spare : Occurrence → Bool) (occurrences : List Occurrence) (most set : ℕ) → length occurrences ≤ most
    → AreFirmBelow is_spare occurrences most set → (n : ℕ) (is : Occurrence) → slice_get occurrences n ≡ Some is
    → (bit_at set n ≡ 1) ↔ (is_spare is ≡ false)
firm_all is_spare occurrences most set all are n is here =
    let low = slice_get_within occurrences n is here in are.below n is (omega (arith, low, all)) here

-- ---- what is executed

both_bits : (a b k : ℕ) → bit_at (bit_and a b) k ≡ 1 → (bit_at a k ≡ 1) × (bit_at b k ≡ 1)
both_bits a b k is =
    let both = bit_at_and a b k in
    let first = bit_at-lt a k in
    let second = bit_at-lt b k in
    (omega (arith, both, first, second, is), omega (arith, both, first, second, is))

and_bits : (a b k : ℕ) → bit_at a k ≡ 1 → bit_at b k ≡ 1 → bit_at (bit_and a b) k ≡ 1
and_bits a b k one other = let both = bit_at_and a b k in omega (arith, both, one, other)

abbrev pub flows_by : ℕ → ℕ → ℕ → ListFlows
flows_by may must firm = record { every = may; firm = bit_and may firm; must = bit_and must firm }

pub flow_is : (site : Site) (class : Class) (relay list may must firm : ℕ) → Bits (May (body_at (plan_at site relay) list) class) may
    → Bits (Must (body_at (plan_at site relay) list) class) must → IsFirm site relay list firm
    → IsFlow site class relay list (flows_by may must firm)
flow_is site class relay list may must firm can has is_firm executed.Every = record {
  sound = λ number is bit here. record { may = (can number).0 bit; found = here; in_scope = tt };
  whole = λ number is does. (can number).1 does.may;
}
flow_is site class relay list may must firm can has is_firm executed.Firm = record {
  sound = λ number is bit here.
      (let both = both_bits may firm number bit in
      record { may = (can number).0 both.0; found = here; in_scope = (is_firm number is here).0 both.1 });
  whole = λ number is does. and_bits may firm number ((can number).1 does.may) ((is_firm number is does.found).1 does.in_scope);
}
flow_is site class relay list may must firm can has is_firm executed.Must = record {
  sound = λ number is bit here.
      (let both = both_bits must firm number bit in
      record { must = (has number).0 both.0; found = here; firm = (is_firm number is here).0 both.1 });
  whole = λ number is does. and_bits must firm number ((has number).1 does.must) ((is_firm number is does.found).1 does.firm);
}
