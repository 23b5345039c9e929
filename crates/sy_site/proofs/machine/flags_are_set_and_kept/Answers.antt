use Rattle.std.proofs.Common.{◌≡◌, ℕ, Bool, true, false, [], ◌∷◌, ◌++◌, Some, refl, sym, ap}
use Rattle.std.specs.Prelude.{◌||◌}
use Rattle.sy_rules.specs.declared.lists.occurrence.Occurrence.TheVariants as occurrence
use Rattle.sy_site.specs.Sites.{Site, does_spare, is_spare, is_spare_list}
use Rattle.sy_site.specs.machine.Reach.{occurrence_at}
use Rattle.sy_site.specs.machine.States.{Copy, SiteState, copy_of_new, is_flagged_at, is_flagged_on, off_link, with_passed}
use Rattle.sy_site.proofs.machine.Flags.{copy_stays, taken}
use Rattle.sy_site.proofs.machine.Spares.{spares_all}
use Rattle.sy_site.proofs.machine.flags_are_set_and_kept.Goals as goal

pub returns-clause-comes : goal.returns-clause-comes
returns-clause-comes c site old new to h m st x is =
    let arrived : SiteState = record old { arrivals = old.arrivals ++ record { message = m; origin = to } ∷ [] } in
    sym (ap (λ (z : Copy). z.flag) (taken site arrived to h (copy_of_new old to m) new st x is))

run_flags : (site : Site) (relay list k action : ℕ) (copy : Copy) → occurrence_at site relay list k ≡ Some (occurrence.Run action)
    → is_flagged_on site (record { relay = relay; action = action }) copy
    ≡ is_flagged_at site relay list copy || does_spare site relay (occurrence.Run action)
run_flags site relay list k action copy found = go copy.flag (is_spare_list site relay list) (is_spare site (record { relay = relay; action = action })) refl refl
  where
    go : (f l a : Bool) → is_spare_list site relay list ≡ l → is_spare site (record { relay = relay; action = action }) ≡ a → (f || a) ≡ ((f || l) || a)
    go true l a e g = refl
    go false true true e g = refl
    go false false a e g = refl
    go false true false e g = (let s = spares_all site relay list k (occurrence.Run action) e found in absurd (cc))

post_flags : (site : Site) (relay list k to : ℕ) (copy : Copy) → occurrence_at site relay list k ≡ Some (occurrence.Post to)
    → is_flagged_at site relay to copy ≡ is_flagged_at site relay list copy || does_spare site relay (occurrence.Post to)
post_flags site relay list k to copy found = go copy.flag (is_spare_list site relay list) (is_spare_list site relay to) refl refl
  where
    go : (f l a : Bool) → is_spare_list site relay list ≡ l → is_spare_list site relay to ≡ a → (f || a) ≡ ((f || l) || a)
    go true l a e g = refl
    go false true true e g = refl
    go false false a e g = refl
    go false true false e g = (let s = spares_all site relay list k (occurrence.Post to) e found in absurd (cc))

pub returns-clause-runs : goal.returns-clause-runs
returns-clause-runs c = run_flags

pub returns-clause-posts : goal.returns-clause-posts
returns-clause-posts c = post_flags

pub returns-clause-passes : goal.returns-clause-passes
returns-clause-passes c site old new to h link place step x is =
    let left : SiteState = record old { passed = with_passed old.passed link (step.before ++ step.behind) } in
    sym (ap (λ (z : Copy). z.flag) (taken site left to h (off_link site link step.copy) new step.takes x is))

pub returns-clause-stays : goal.returns-clause-stays
returns-clause-stays c = copy_stays
