use Rattle.std.proofs.Common.{◌∙◌, IfSome, ap, map, subst}
use Rattle.sy_report.specs.Words.{HaveOptions, bare_of}
use Rattle.sy_commands.proofs.Optioned.{none_on, without_options}
use Rattle.sy_commands.proofs.commands.of_site.Goals as goal

pub returns-in-Some-clause-none : goal.returns-in-Some-clause-none
returns-in-Some-clause-none c = none_on c.with_these.result c.with_these.ensures.none (λ none words given options command are.
    none command (without_options words _ options c.in-Some.options command
    (ap (map (λ s. s.now)) c.as_slice.ensures.value ∙ given.bare)
    (subst (λ r. IfSome r (λ o. HaveOptions words o (bare_of words))) c.in-Some.is given.some) are))
