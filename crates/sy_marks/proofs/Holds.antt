-- What holds a message of an input is one thing.
use Rattle.std.proofs.Common.{◌≡◌, ℕ, ◌<◌, ◌≤◌, Bool, true, false, nat_le, refl, sym, ◌∙◌, arith, true≢false, leb-true, leb-false}
use Rattle.sy_marks.specs.Marks.{HoldIs, is_delayed, is_slowed}
use Rattle.sy_marks.specs.Answers.{OneHold}
use Rattle.sy_marks.specs.declared.marks.Flow.{Flow}
use Rattle.sy_marks.specs.declared.marks.Hold.{Hold}
use Rattle.sy_marks.specs.declared.marks.Hold.TheVariants.{FullDelay, Full, LightDelay, Clear}
use Rattle.sy_marks.specs.declared.marks.Marks.{Marks}

clash : {P : Type 0} {b : Bool} → b ≡ true → b ≡ false → P
clash t f = absurd (true≢false (sym t ∙ f))

module _ (f : Flow) (marks : Marks) (n : ℕ) where
  only_delayed : is_delayed f marks n ≡ true → (other : Hold) → HoldIs other f marks n → other ≡ FullDelay
  only_delayed d FullDelay h = refl
  only_delayed d Full h = clash d h.0
  only_delayed d LightDelay h = clash d h.0
  only_delayed d Clear h = clash d h.0

  only_full : is_delayed f marks n ≡ false → marks.size ≤ n → (other : Hold) → HoldIs other f marks n → other ≡ Full
  only_full d l FullDelay h = clash h d
  only_full d l Full h = refl
  only_full d l LightDelay h = let room = h.1 in absurd (omega arith)
  only_full d l Clear h = let room = h.1 in absurd (omega arith)

  only_slowed : is_delayed f marks n ≡ false → n < marks.size → is_slowed f marks n ≡ true → (other : Hold) → HoldIs other f marks n → other ≡ LightDelay
  only_slowed d l s FullDelay h = clash h d
  only_slowed d l s Full h = let full = h.1 in absurd (omega arith)
  only_slowed d l s LightDelay h = refl
  only_slowed d l s Clear h = clash s h.2

  only_clear : is_delayed f marks n ≡ false → n < marks.size → is_slowed f marks n ≡ false → (other : Hold) → HoldIs other f marks n → other ≡ Clear
  only_clear d l s FullDelay h = clash h d
  only_clear d l s Full h = let full = h.1 in absurd (omega arith)
  only_clear d l s LightDelay h = clash h.2 s
  only_clear d l s Clear h = refl

  pub one_hold : OneHold f marks n
  one_hold = go (is_delayed f marks n) refl (nat_le marks.size n) refl (is_slowed f marks n) refl
    where
      go : (a : Bool) → is_delayed f marks n ≡ a → (b : Bool) → nat_le marks.size n ≡ b → (c : Bool) → is_slowed f marks n ≡ c → OneHold f marks n
      go true d b l c s = record { answer = FullDelay; is = d; only = only_delayed d }
      go false d true l c s = let full = leb-true marks.size n l in record { answer = Full; is = (d, full); only = only_full d full }
      go false d false l true s = let room : n < marks.size = omega (arith, leb-false marks.size n l) in record { answer = LightDelay; is = (d, room, s); only = only_slowed d room s }
      go false d false l false s = let room : n < marks.size = omega (arith, leb-false marks.size n l) in record { answer = Clear; is = (d, room, s); only = only_clear d room s }
