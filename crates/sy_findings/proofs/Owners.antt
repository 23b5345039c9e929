-- No list of a relay that isn't there is an action's own.
use Rattle.std.proofs.Common.{◌≡◌, ◌≤◌, ℕ, None, ap, length, refl, sym, ◌∙◌}
use Rattle.std.specs.Prelude.{Bool, true, false, Option, if◌then◌else◌, nat_le}
use Rattle.std.proofs.lemmas.Option.{slice_get_past}
use Rattle.sy_rules.specs.Whole.{owner_at}
use Rattle.sy_site.specs.Sites.{Site, no_plan, plan_at, plan_in}

abbrev no_one : Option ℕ
no_one = None

neither : (b : Bool) → (if b then no_one else no_one) ≡ no_one
neither true = refl
neither false = refl

nobody : (list : ℕ) → owner_at no_plan list ≡ None
nobody ℕ.zero = refl
nobody (ℕ.suc n) = neither (nat_le (ℕ.suc n) 0)

pub no_owner : (site : Site) (relay list : ℕ) → length site.relays ≤ relay → None ≡ owner_at (plan_at site relay) list
no_owner site relay list beyond = sym (ap (λ r. owner_at (plan_in r) list) (slice_get_past site.relays relay beyond) ∙ nobody list)
