-- What holds of all classes below a number, and of one more.
use Rattle.std.proofs.Common.{ℕ, ◌<◌, ◌≤◌, ◌≡◌, ◌∙◌, ◌+◌, ◌*◌, arith, inl, inr, subst, sym}
use Rattle.std.specs.Prelude.{◌⊎◌}
use Rattle.std.proofs.lemmas.Bool.{cases_eq}
use Rattle.sy_wire.specs.declared.class.Class.{Class}
use Rattle.sy_board.proofs.relay.SamePairs.{same_class}

one_class : (a b : Class) → 8 * a.facility + a.severity ≡ 8 * b.facility + b.severity → a ≡ b
one_class a b e =
    let f : a.facility ≡ b.facility = omega (arith, e, a.severity_in_range, b.severity_in_range) in
    let s : a.severity ≡ b.severity = omega (arith, e, a.severity_in_range, b.severity_in_range) in
    same_class a b f s

module _ (P : Class → Type 0) where
  pub no_class : (class : Class) → 8 * class.facility + class.severity < 0 → P class
  no_class class low = absurd (omega (arith, low))

  pub one_class_more : (most : ℕ) → ((class : Class) → 8 * class.facility + class.severity < most → P class) → (last : Class)
      → 8 * last.facility + last.severity ≡ most → P last → (class : Class) → 8 * class.facility + class.severity < most + 1 → P class
  one_class_more most before last is p class low = elim (cases_eq (8 * class.facility + class.severity) most) [
    | inl same ↦ subst P (one_class last class (is ∙ sym same)) p
    | inr apart ↦ before class (omega (arith, low, apart))
  ]

  pub all_classes : (most : ℕ) → 192 ≤ most → ((class : Class) → 8 * class.facility + class.severity < most → P class) → (class : Class) → P class
  all_classes most high before class =
      let f = class.facility_in_range in let s = class.severity_in_range in before class (omega (arith, f, s, high))
