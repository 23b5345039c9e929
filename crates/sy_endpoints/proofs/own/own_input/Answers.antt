use Rattle.std.proofs.Common.{sym, subst}
use Rattle.sy_endpoints.specs.Endpoints.{IsAtPort}
use Rattle.sy_endpoints.proofs.own.own_input.Goals as goal

pub returns-in-None-clause-none : goal.returns-in-None-clause-none
returns-in-None-clause-none c input is =
    c.in-None.ensures.none input (subst (λ xs. IsAtPort xs input c.args.port) (sym c.inputs_of-inputs.ensures.are) is.at)
