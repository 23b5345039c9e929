use Rattle.std.proofs.Common.{◌≡◌, ◌∙◌, arith, inl, inr, refl, subst, sym, true}
use Rattle.std.proofs.lemmas.Bool.{cases_eq, false≢true}
use Rattle.sy_site.specs.Sites.{is_protected}
use Rattle.sy_warnings.proofs.Alike.{one_class}
use Rattle.sy_warnings.proofs.audit.protects_of.Goals as goal

pub loop-severity-init : goal.loop-severity-init
loop-severity-init c = λ class facility low protected. absurd (omega (arith, low))

pub loop-severity-preserved : goal.loop-severity-preserved
loop-severity-preserved c = λ class facility low protected. elim (cases_eq class.severity c.loop-severity.severity) [
  | inl same ↦
      let number = c.of_number.ensures in
      false≢true (sym c.if-is_protected.false ∙ c.is_protected.ensures
      ∙ subst (λ x. is_protected c.args.site.now x ≡ true) (one_class class c.of_number.result (omega (arith, same, facility, number))) protected)
  | inr apart ↦ c.loop-severity.invariant class facility (omega (arith, low, apart)) protected
]

pub returns-then-is_protected : goal.returns-then-is_protected
returns-then-is_protected c =
    let number = c.of_number.ensures in
    let low = c.of_number.result.severity_in_range in
    let within = c.loop-severity-test.true in (
      λ yes. record {
        class = c.of_number.result;
        of_facility = omega (arith, number, low, within);
        protected = sym c.is_protected.ensures ∙ c.if-is_protected.true;
      },
      λ it. refl,
    )

pub returns : goal.returns
returns c = (
  λ no. absurd (false≢true no),
  λ it.
      (let low = it.class.severity_in_range in
      let end = c.loop-severity-test.false in
      absurd (c.loop-severity.invariant it.class it.of_facility (omega (arith, low, end)) it.protected)),
)
