use Rattle.std.proofs.Common.{arith, sym, subst, ap, ◌∙◌}
use Rattle.std.specs.Prelude.{slice_get}
use Rattle.std.proofs.lemmas.Bool.{false≢true}
use Rattle.std.proofs.lemmas.Option.{slice_get-get_or}
use Rattle.sy_rules.specs.declared.parts.Action.{Action}
use Rattle.sy_endpoints.specs.Endpoints.{IsToNoHost, LeadsToNoHost}
use Rattle.sy_endpoints.proofs.Searches.{at_all, one_more, same_there, there_below}
use Rattle.sy_endpoints.proofs.no_host.no_host_of.Goals as goal

pub loop-number-preserved : goal.loop-number-preserved
loop-number-preserved c =
    let are = c.actions_of-actions.ensures.are in
    let at = slice_get-get_or c.actions_of-actions.result.now c.loop-number.number c.index-actions-number.result c.loop-number-test.true in
    let here = ap (λ xs. slice_get xs c.loop-number.number) (sym are) ∙ at in
    one_more (IsToNoHost c.args.site.now c.args.relay) c.loop-number.number c.loop-number.invariant
    (λ is. false≢true (sym c.if-no_host_at.false ∙ c.no_host_at.ensures.1
    (subst (λ (a : Action). LeadsToNoHost c.args.site.now a.destination) (same_there is.there here) is.leads)))

pub returns-clause-none : goal.returns-clause-none
returns-clause-none c action is =
    let are = c.actions_of-actions.ensures.are in
    at_all (IsToNoHost c.args.site.now c.args.relay) c.loop-number.number c.loop-number.invariant action
    (there_below c.actions_of-actions.result.now action is.is c.loop-number.number (ap (λ xs. slice_get xs action) are ∙ is.there)
    (omega (arith, c.loop-number-test.false))) is
