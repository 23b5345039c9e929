use Rattle.std.proofs.Common.{◌∙◌, sym, arith}
use Rattle.sy_site.proofs.lemmas.sites.Classes.{none_all, none_first, none_more}
use Rattle.sy_site.proofs.site.protected.has_class.Goals as goal

pub loop-number-init : goal.loop-number-init
loop-number-init c = none_first c.args.selector.now

pub returns-then-matches-clause-yes : goal.returns-then-matches-clause-yes
returns-then-matches-clause-yes c = λ yes. (c.of_number.result, sym c.matches.ensures ∙ c.if-matches.true)

pub loop-number-preserved : goal.loop-number-preserved
loop-number-preserved c =
    none_more c.args.selector.now c.loop-number.number c.of_number.result.facility c.of_number.result.severity c.loop-number.invariant
    c.of_number.result.facility_in_range c.of_number.result.severity_in_range c.of_number.ensures (sym c.if-matches.false ∙ c.matches.ensures)

pub returns-clause-no : goal.returns-clause-no
returns-clause-no c = λ no. none_all c.args.selector.now c.loop-number.number c.loop-number.invariant (omega (arith, c.loop-number-test.false))
