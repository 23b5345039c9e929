use Rattle.std.proofs.Common.{subst, sym}
use Rattle.sy_host_parameters.specs.HostParameters.{IsMachineText}
use Rattle.sy_survey.proofs.converting.print_conversion.Goals as goal

pub print_read-requires : goal.print_read-requires
print_read-requires g c =
    let of_text = subst (IsMachineText c.as_slice.result.now) (sym c.as_slice-in-Ok.ensures.value) c.in-Ok.ensures in
    record { machine = subst (λ text. IsMachineText text c.as_slice-in-Ok.result.now) c.as_slice.ensures.value of_text }
