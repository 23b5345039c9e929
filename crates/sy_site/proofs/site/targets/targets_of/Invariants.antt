use Rattle.std.proofs.Common.{◌≡◌, map, take}
use Rattle.sy_site.specs.internal.SiteInside.{inputs_of, relay_of, site_with, targets_in}
use Rattle.sy_site.proofs.site.targets.targets_of.Given as goal

abbrev pub invariant-loop-relay : goal.invariant-loop-relay
invariant-loop-relay l = map inputs_of l.targets.items ≡ map (λ relay. targets_in (site_with l.relays) (relay_of relay)) (take l.relay-index l.relays)
