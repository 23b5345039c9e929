-- What classes say of a test, bit by bit and facility by facility.
use Rattle.std.proofs.Common.{◌≡◌, ◌≢◌, ℕ, ◌+◌, ◌^◌, ◌<◌, ◌≤◌, ◌==◌, Bool, true, false, List, length, inl, inr, refl, sym, ap, ◌∙◌, subst, arith, bit_or, get_or-set_other, get_or-set_same}
use Rattle.std.specs.Int.{bit_at}
use Rattle.std.proofs.Math.ListN.{length-set, set}
use Rattle.std.proofs.lemmas.Bool.{cases_eq}
use Rattle.std.proofs.lemmas.Nat.Bits.{bit_at-lt, bit_at-pow_other, bit_at-pow_same, bit_at_ones, bit_at_or, bit_at-zero}
use Rattle.std.specs.Coded.{le_prop}
use mathlib.Core.HLevel.{is_prop→PathP}
use Rattle.sy_wire.specs.declared.class.Class.{Class}
use Rattle.sy_wire.specs.Messages.{Said}
use Rattle.sy_select.specs.declared.condition.Test.{Test}
use Rattle.sy_select.specs.declared.verdict.Verdict.{Verdict}
use Rattle.sy_select.specs.declared.verdict.Verdict.TheVariants.{Yes, No, Either}
use Rattle.sy_select.specs.Properties.{known, says}
use Rattle.sy_select.specs.Truth.{Formula, IsVerdict}
use Rattle.sy_select.specs.internal.Walk.{holds, verdict}
use Rattle.sy_select.proofs.ExprLaws.{holds_for_all, same_verdict}
use Rattle.sy_select.proofs.Verdicts.{truth_is, verdict_is}
use Rattle.sy_rules.specs.declared.lists.condition.Verdicts.{Verdicts}
use Rattle.sy_rules.specs.internal.Verdicts.{AreVerdicts, none, of_bits, said, verdicts_at}

-- that the two numbers are in range has one proof each
pub same_class : (a b : Class) → a.facility ≡ b.facility → a.severity ≡ b.severity → a ≡ b
same_class a b f s = λ i. record {
  facility = f i;
  severity = s i;
  facility_in_range = is_prop→PathP (λ j. f j < 24) (λ j. hlevel le_prop) a.facility_in_range b.facility_in_range i;
  severity_in_range = is_prop→PathP (λ j. s j < 8) (λ j. hlevel le_prop) a.severity_in_range b.severity_in_range i;
}

-- what a class says, each of its messages does
pub met_for_class : (x : Formula Test) (m : Said) (v : Verdict) → v ≡ verdict (known m.class) x → v ≡ Yes → true ≡ holds (says m) x
met_for_class x m v e is =
    sym (truth_is (says m) x ∙ holds_for_all m x true (subst (IsVerdict (known m.class) x) (sym e ∙ is) (verdict_is (known m.class) x)))

pub unmet_for_class : (x : Formula Test) (m : Said) (v : Verdict) → v ≡ verdict (known m.class) x → v ≡ No → false ≡ holds (says m) x
unmet_for_class x m v e is =
    sym (truth_is (says m) x ∙ holds_for_all m x false (subst (IsVerdict (known m.class) x) (sym e ∙ is) (verdict_is (known m.class) x)))

-- ---- the severities of a facility, one after the other

-- those below n are done, and no other bit is set
pub record SaidSoFar (n : ℕ) (x : Formula Test) (facility : ℕ) (v : Verdicts) : Type 0 where
  pub done : (class : Class) → class.facility ≡ facility → class.severity < n → said v class.severity ≡ verdict (known class) x
  pub certain_left : (k : ℕ) → n ≤ k → bit_at v.certain k ≡ 0
  pub possible_left : (k : ℕ) → n ≤ k → bit_at v.possible k ≡ 0

pub said_start : (x : Formula Test) (facility : ℕ) → SaidSoFar 0 x facility none
said_start x facility = record {
  done = λ class f below. absurd (omega (arith, below));
  certain_left = λ k above. bit_at-zero k;
  possible_left = λ k above. bit_at-zero k;
}

bit_set : (old n : ℕ) → bit_at (bit_or old (2 ^ n)) n ≡ 1
bit_set old n =
    let low = bit_at-lt old n in
    let same = bit_at_or old (2 ^ n) n in
    let one = bit_at-pow_same n in
    omega (arith, same, one, low)

bit_kept : (old n k : ℕ) → k ≢ n → bit_at (bit_or old (2 ^ n)) k ≡ bit_at old k
bit_kept old n k apart =
    let same = bit_at_or old (2 ^ n) k in
    let no = bit_at-pow_other n k apart in
    omega (arith, same, no)

said_more : (n : ℕ) (x : Formula Test) (facility : ℕ) (old new : Verdicts) (here : Class) → here.facility ≡ facility → here.severity ≡ n
    → SaidSoFar n x facility old → ((k : ℕ) → k ≢ n → bit_at new.certain k ≡ bit_at old.certain k) → ((k : ℕ) → k ≢ n → bit_at new.possible k ≡ bit_at old.possible k)
    → said new n ≡ verdict (known here) x → SaidSoFar (n + 1) x facility new
said_more n x facility old new here f s so_far certain possible is = record {
  done = λ class g below. elim (cases_eq class.severity n) [
    | inl same ↦
        let class_is : here ≡ class = same_class here class (f ∙ sym g) (s ∙ sym same) in
        ap (said new) same ∙ is ∙ ap (λ k. verdict (known k) x) class_is
    | inr apart ↦
        let e = certain class.severity apart in
        let p = possible class.severity apart in
        ap (λ b. of_bits (b == 1) (bit_at new.possible class.severity == 1)) e
        ∙ ap (λ b. of_bits (bit_at old.certain class.severity == 1) (b == 1)) p
        ∙ so_far.done class g (omega (arith, below, apart))
  ];
  certain_left = λ k above. certain k (λ e. absurd (omega (arith, above, e))) ∙ so_far.certain_left k (omega (arith, above));
  possible_left = λ k above. possible k (λ e. absurd (omega (arith, above, e))) ∙ so_far.possible_left k (omega (arith, above));
}

module _ (n : ℕ) (x : Formula Test) (facility : ℕ) (old : Verdicts) (here : Class) (f : here.facility ≡ facility) (s : here.severity ≡ n) (so_far : SaidSoFar n x facility old) (v : Verdict) (judged : IsVerdict (known here) x v) (bit : ℕ) (one : bit ≡ 2 ^ n) where
  is : v ≡ verdict (known here) x
  is = same_verdict (known here) x v (verdict (known here) x) judged (verdict_is (known here) x)

  set_in : (a : ℕ) → bit_at (bit_or a bit) n ≡ 1
  set_in a = ap (λ b. bit_at (bit_or a b) n) one ∙ bit_set a n

  kept_in : (a k : ℕ) → k ≢ n → bit_at (bit_or a bit) k ≡ bit_at a k
  kept_in a k apart = ap (λ b. bit_at (bit_or a b) k) one ∙ bit_kept a n k apart

  pub said_yes : v ≡ Yes → SaidSoFar (n + 1) x facility (record { certain = bit_or old.certain bit; possible = bit_or old.possible bit })
  said_yes e =
      said_more n x facility old (record { certain = bit_or old.certain bit; possible = bit_or old.possible bit }) here f s so_far
      (kept_in old.certain) (kept_in old.possible)
      (ap (λ b. of_bits (b == 1) (bit_at (bit_or old.possible bit) n == 1)) (set_in old.certain) ∙ sym e ∙ is)

  pub said_either : v ≡ Either → SaidSoFar (n + 1) x facility (record { certain = old.certain; possible = bit_or old.possible bit })
  said_either e =
      said_more n x facility old (record { certain = old.certain; possible = bit_or old.possible bit }) here f s so_far
      (λ k apart. refl) (kept_in old.possible)
      (ap (λ b. of_bits (b == 1) (bit_at (bit_or old.possible bit) n == 1)) (so_far.certain_left n (omega arith))
      ∙ ap (λ b. of_bits false (b == 1)) (set_in old.possible) ∙ sym e ∙ is)

  pub said_no : v ≡ No → SaidSoFar (n + 1) x facility old
  said_no e =
      said_more n x facility old old here f s so_far (λ k apart. refl) (λ k apart. refl)
      (ap (λ b. of_bits (b == 1) (bit_at old.possible n == 1)) (so_far.certain_left n (omega arith))
      ∙ ap (λ b. of_bits false (b == 1)) (so_far.possible_left n (omega arith)) ∙ sym e ∙ is)

-- all eight are done
pub said_all : (x : Formula Test) (facility : ℕ) (v : Verdicts) → SaidSoFar 8 x facility v → (class : Class) → class.facility ≡ facility → said v class.severity ≡ verdict (known class) x
said_all x facility v so_far class f = so_far.done class f class.severity_in_range

-- all severities of a facility are left open
pub all_either : (v : Verdicts) → v.certain ≡ 0 → v.possible ≡ 255 → (severity : ℕ) → severity < 8 → said v severity ≡ Either
all_either v none all severity low =
    ap (λ c. of_bits (bit_at c severity == 1) (bit_at v.possible severity == 1)) none
    ∙ ap (λ b. of_bits (b == 1) (bit_at v.possible severity == 1)) (bit_at-zero severity)
    ∙ ap (λ p. of_bits false (bit_at p severity == 1)) all
    ∙ ap (λ b. of_bits false (b == 1)) (bit_at_ones 8 severity low)

-- ---- the facilities, one after the other

-- where no facility so far says anything, none of its classes does
abbrev pub FreeSoFar : ℕ → Formula Test → Bool → Type 0
FreeSoFar n x free = free ≡ true → (class : Class) → class.facility < n → verdict (known class) x ≡ Either

pub free_more : (n : ℕ) (x : Formula Test) (v : Verdicts) (old here new : Bool) → FreeSoFar n x old
    → ((class : Class) → class.facility ≡ n → said v class.severity ≡ verdict (known class) x)
    → (here ≡ true → (severity : ℕ) → severity < 8 → said v severity ≡ Either) → (new ≡ true → (old ≡ true) × (here ≡ true)) → FreeSoFar (n + 1) x new
free_more n x v old here new so_far right free parts is class below = elim (cases_eq class.facility n) [
  | inl same ↦ sym (right class same) ∙ free (parts is).1 class.severity class.severity_in_range
  | inr apart ↦ so_far (parts is).0 class (omega (arith, below, apart))
]

pub record JudgedSoFar (n : ℕ) (x : Formula Test) (verdicts : List Verdicts) : Type 0 where
  pub size : length verdicts ≡ 24
  pub done : (class : Class) → class.facility < n → said (verdicts_at verdicts class.facility) class.severity ≡ verdict (known class) x

pub judged_more : (n : ℕ) (x : Formula Test) (verdicts : List Verdicts) (v : Verdicts) → JudgedSoFar n x verdicts → n < 24
    → ((class : Class) → class.facility ≡ n → said v class.severity ≡ verdict (known class) x) → JudgedSoFar (n + 1) x (set verdicts n v)
judged_more n x verdicts v so_far low right = record {
  size = length-set verdicts n v ∙ so_far.size;
  done = λ class below. elim (cases_eq class.facility n) [
    | inl same ↦
        let there : n < length verdicts = omega (arith, so_far.size, low) in
        ap (λ f. said (verdicts_at (set verdicts n v) f) class.severity) same
        ∙ ap (λ w. said w class.severity) (get_or-set_same verdicts n v none there) ∙ right class same
    | inr apart ↦
        ap (λ w. said w class.severity) (get_or-set_other verdicts n class.facility v none apart)
        ∙ so_far.done class (omega (arith, below, apart))
  ];
}

pub judged_all : (x : Formula Test) (verdicts : List Verdicts) → JudgedSoFar 24 x verdicts → AreVerdicts x verdicts
judged_all x verdicts so_far = record { size = so_far.size; are = λ class. so_far.done class class.facility_in_range }
