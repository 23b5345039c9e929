use Rattle.std.proofs.Common.{◌≡◌, ◌++◌, Some, map, drop}
use Rattle.sy_site.specs.Sites.{target_of}
use Rattle.sy_site.specs.internal.SiteInside.{site_with}
use Rattle.sy_site.proofs.site.targets.targets_at.Given as goal

abbrev pub invariant-loop-action : goal.invariant-loop-action
invariant-loop-action l = l.inputs.items ++ map (λ action. target_of (site_with l.relays) (Some action)) (drop l.action-index l.actions)
    ≡ map (λ action. target_of (site_with l.relays) (Some action)) l.actions
