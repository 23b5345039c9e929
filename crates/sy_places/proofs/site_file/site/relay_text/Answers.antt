use Rattle.std.proofs.Common.{subst}
use Rattle.sy_host_parameters.specs.HostParameters.{IsMachineText, machine_or}
use Rattle.sy_places.proofs.site_file.site.relay_text.Goals as goal

pub returns-clause-machine : goal.returns-clause-machine
returns-clause-machine c =
    subst (λ text. IsMachineText text (machine_or text c.in_ok-machine.machine)) c.as_slice.ensures.value c.in_ok-machine.ensures
