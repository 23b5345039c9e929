use Rattle.std.proofs.Common.{◌≡◌, Some, None, refl, arith}
use Rattle.sy_site.specs.machine.Examples.{up}
use Rattle.sy_site.proofs.machine.AimlessRun.{aimless_run, s4}
use Rattle.sy_site.proofs.machine.HastyRun.{copy}
use Rattle.sy_site.proofs.machine.LinkParts.{aimless_others}
use Rattle.sy_site.proofs.counterexamples.copies_on_such_links_arent_confined.Goals as goal

pub returns : goal.returns
returns c class = (
  s4 class,
  aimless_run class,
  λ confined.
      (let link = confined.on_links up 0 (0, omega arith, refl) (copy class)
      (record { is = refl; class_is = refl; entered = (0, omega arith, refl) }) refl tt in
      let leads : None ≡ Some link.to = link.leads in
      cc),
  aimless_others class,
)
