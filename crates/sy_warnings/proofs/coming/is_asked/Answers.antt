use Rattle.std.proofs.Common.{◌∙◌, subst, sym}
use Rattle.std.specs.Prelude.{Decides}
use Rattle.sy_warnings.specs.Following.{IsAsked}
use Rattle.sy_warnings.proofs.coming.is_asked.Goals as goal

pub returns-in-Firm : goal.returns-in-Firm
returns-in-Firm c =
    subst (λ b. Decides c.is_protected.result (IsAsked c.args.site.now b c.args.class)) (sym c.in-Firm.is)
    (λ yes. sym c.is_protected.ensures ∙ yes, λ it. c.is_protected.ensures ∙ it)
