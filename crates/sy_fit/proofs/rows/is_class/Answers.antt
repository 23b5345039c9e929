use Rattle.std.proofs.Common.{◌∙◌, ap, eq-eqb, eqb-true, sym}
use Rattle.sy_fit.specs.Fit.{number_of}
use Rattle.sy_fit.proofs.Judged.{one_class}
use Rattle.sy_fit.proofs.rows.is_class.Goals as goal

pub returns : goal.returns
returns c = (
  λ e. one_class c.args.given c.args.class
      (sym c.number.ensures.value ∙ eqb-true c.number.result c.number-2.result e ∙ c.number-2.ensures.value),
  λ same. eq-eqb c.number.result c.number-2.result (c.number.ensures.value ∙ ap number_of same ∙ sym c.number-2.ensures.value),
)
