-- Classes by their names.
use Rattle.std.proofs.Common.{◌≡◌, ℕ, ◌<◌, ◌≤◌, ◌+◌, ◌*◌, List, ◌++◌, sym, ap, ◌∙◌, arith, inl, inr}
use Rattle.std.specs.Prelude.{codes}
use Rattle.std.proofs.lemmas.Bool.{cases_eq}
use Rattle.sy_select.specs.Names.{facility_text, severity_text}
use Rattle.sy_wire.specs.declared.class.Class.{Class}
use Rattle.sy_drawing.specs.Graphs.{IsNoClass}
use Rattle.sy_report.specs.Texts.{class_text}

abbrev number_of : Class → ℕ
number_of class = 8 * class.facility + class.severity

-- no class below a number has this name
abbrev pub NoneBelow : List ℕ → ℕ → Type 0
NoneBelow name most = (class : Class) → 8 * class.facility + class.severity < most → class_text class ≡ name → ⊥

pub none_first : (name : List ℕ) → NoneBelow name 0
none_first name class low = absurd (omega (arith, low))

facility_same : (f g s t : ℕ) → s < 8 → t < 8 → 8 * f + s ≡ 8 * g + t → f ≡ g
facility_same f g s t low small is = omega (arith, low, small, is)

severity_same : (f g s t : ℕ) → s < 8 → t < 8 → 8 * f + s ≡ 8 * g + t → s ≡ t
severity_same f g s t low small is = omega (arith, low, small, is)

text_same : (x y : Class) → number_of x ≡ number_of y → class_text x ≡ class_text y
text_same x y is =
    ap (λ (f : ℕ). facility_text f ++ codes "." ++ severity_text x.severity)
    (facility_same x.facility y.facility x.severity y.severity x.severity_in_range y.severity_in_range is)
    ∙ ap (λ (s : ℕ). facility_text y.facility ++ codes "." ++ severity_text s)
    (severity_same x.facility y.facility x.severity y.severity x.severity_in_range y.severity_in_range is)

pub none_more : (name : List ℕ) (number : ℕ) (class : Class) → 8 * class.facility + class.severity ≡ number → (class_text class ≡ name → ⊥)
    → NoneBelow name number → NoneBelow name (number + 1)
none_more name number class is isnt before other low same = elim (cases_eq (number_of other) number) [
  | inl here ↦ isnt (text_same class other (is ∙ sym here) ∙ same)
  | inr apart ↦ before other (omega (arith, low, apart)) same
]

below_192 : (f s most : ℕ) → f < 24 → s < 8 → 192 ≤ most → 8 * f + s < most
below_192 f s most facility severity all = omega (arith, facility, severity, all)

pub none_at_all : (name : List ℕ) (most : ℕ) → 192 ≤ most → NoneBelow name most → IsNoClass name
none_at_all name most all before class =
    before class (below_192 class.facility class.severity most class.facility_in_range class.severity_in_range all)
