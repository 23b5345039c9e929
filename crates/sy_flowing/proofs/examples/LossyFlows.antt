-- Two classes in opposite directions through queues that don't wait: nobody waits for anybody, and no message goes round, so the site flows.
use Rattle.std.proofs.Common.{◌≡◌, ℕ, ◌<◌, Bool, true, false, [], ◌∷◌, subst, arith, Some}
use Rattle.sy_wire.specs.declared.class.Class.{Class}
use Rattle.sy_rules.specs.declared.lists.occurrence.Occurrence.TheVariants as occurrence
use Rattle.sy_select.specs.Properties.{known}
use Rattle.sy_select.specs.Selectors.{holds}
use Rattle.sy_select.specs.Truth.{Admits, Valuation}
use Rattle.sy_rules.specs.lists.Body.{executed, is_in, tests}
use Rattle.sy_rules.specs.Whole.{body_at}
use Rattle.sy_board.specs.relay.Spares.{Scope}
use Rattle.sy_site.specs.declared.site.SiteInput.{SiteInput}
use Rattle.sy_site.specs.Sites.{plan_at, target}
use Rattle.sy_flowing.specs.Flowing.{AreHeights, AreListsLeft, HoldsPosts, IsFlowing, SiteList, by_forward, by_post, forwards, posts}
use Rattle.sy_flowing.specs.Jams.{auth_selector, lossy_site}
use Rattle.sy_site.specs.machine.Reach.{MayDo}

no_holds : (r q : ℕ) → HoldsPosts (plan_at lossy_site r) q → ⊥
no_holds ℕ.zero ℕ.zero h = let e = h.waits in absurd (cc)
no_holds ℕ.zero (ℕ.suc ℕ.zero) h = let e = h.waits in absurd (cc)
no_holds ℕ.zero (ℕ.suc (ℕ.suc ℕ.zero)) h = let e = h.waits in absurd (cc)
no_holds ℕ.zero (ℕ.suc (ℕ.suc (ℕ.suc q))) h = let e = h.waits in absurd (cc)
no_holds (ℕ.suc r) q h = let e = h.waits in absurd (cc)

no_target : (r a : ℕ) (to : SiteInput) → target lossy_site (record { relay = r; action = a }) ≡ Some to → ⊥
no_target ℕ.zero ℕ.zero to e = absurd (cc)
no_target ℕ.zero (ℕ.suc ℕ.zero) to e = absurd (cc)
no_target ℕ.zero (ℕ.suc (ℕ.suc k)) to e = absurd (cc)
no_target (ℕ.suc r) a to e = absurd (cc)

lossy_heights : AreHeights lossy_site (λ queue. 0)
lossy_heights from to (posts class relay list number next followed does waits) = absurd (no_holds relay _ waits)
lossy_heights from to (forwards class relay list number action next followed does leads) = absurd (no_target relay action next leads)

-- of auth.* list 1 leads on to list 2, of all else list 2 to list 1
abbrev left_of : Bool → ℕ → ℕ
left_of true ℕ.zero = 0
left_of true (ℕ.suc ℕ.zero) = 1
left_of true (ℕ.suc (ℕ.suc l)) = 0
left_of false ℕ.zero = 0
left_of false (ℕ.suc ℕ.zero) = 0
left_of false (ℕ.suc (ℕ.suc l)) = 1

abbrev left : Class → SiteList → ℕ
left class list = left_of (holds auth_selector class.facility class.severity) list.list

post_same : (x y : ℕ) → Some (occurrence.Post x) ≡ Some (occurrence.Post y) → x ≡ y
post_same x y e = cc

module _ (class : Class) where
  falls_at : (r l number to : ℕ) → MayDo lossy_site class Scope.Every r l number (occurrence.Post to) → left_of (holds auth_selector class.facility class.severity) to < left_of (holds auth_selector class.facility class.severity) l
  falls_at ℕ.zero ℕ.zero number to does = let e = does.found in absurd (cc)
  falls_at ℕ.zero (ℕ.suc ℕ.zero) ℕ.zero to does =
      subst (λ z. left_of (holds auth_selector class.facility class.severity) z < left_of (holds auth_selector class.facility class.severity) 1) (post_same 2 to does.found)
      (go does.may.values does.may.admitted does.may.executes)
    where
      go : (v : Valuation) → Admits (known class) (tests (body_at (plan_at lossy_site 0) 1)) v → is_in 0 (executed (body_at (plan_at lossy_site 0) 1) v) ≡ true
          → left_of (holds auth_selector class.facility class.severity) 2 < left_of (holds auth_selector class.facility class.severity) 1
      go [] ad e = absurd ad
      go (true ∷ v) ad e = subst (λ t. left_of t 2 < left_of t 1) ad.0 (omega arith)
      go (false ∷ v) ad e = absurd (cc)
  falls_at ℕ.zero (ℕ.suc ℕ.zero) (ℕ.suc ℕ.zero) to does = let e = does.found in absurd (cc)
  falls_at ℕ.zero (ℕ.suc ℕ.zero) (ℕ.suc (ℕ.suc k)) to does = let e = does.found in absurd (cc)
  falls_at ℕ.zero (ℕ.suc (ℕ.suc ℕ.zero)) ℕ.zero to does =
      subst (λ z. left_of (holds auth_selector class.facility class.severity) z < left_of (holds auth_selector class.facility class.severity) 2) (post_same 1 to does.found)
      (go does.may.values does.may.admitted does.may.executes)
    where
      go : (v : Valuation) → Admits (known class) (tests (body_at (plan_at lossy_site 0) 2)) v → is_in 0 (executed (body_at (plan_at lossy_site 0) 2) v) ≡ true
          → left_of (holds auth_selector class.facility class.severity) 1 < left_of (holds auth_selector class.facility class.severity) 2
      go [] ad e = absurd ad
      go (true ∷ v) ad e = absurd (cc)
      go (false ∷ v) ad e = subst (λ t. left_of t 1 < left_of t 2) ad.0 (omega arith)
  falls_at ℕ.zero (ℕ.suc (ℕ.suc ℕ.zero)) (ℕ.suc ℕ.zero) to does = let e = does.found in absurd (cc)
  falls_at ℕ.zero (ℕ.suc (ℕ.suc ℕ.zero)) (ℕ.suc (ℕ.suc k)) to does = let e = does.found in absurd (cc)
  falls_at ℕ.zero (ℕ.suc (ℕ.suc (ℕ.suc l))) number to does = let e = does.found in absurd (cc)
  falls_at (ℕ.suc r) l number to does = let e = does.found in absurd (cc)

lossy_rounds : AreListsLeft lossy_site left
lossy_rounds class from to (by_post relay list number next followed does) = falls_at class relay list number next does
lossy_rounds class from to (by_forward relay list number action next followed does leads) = absurd (no_target relay action next leads)

pub lossy_flows : IsFlowing lossy_site
lossy_flows = record { height = λ queue. 0; falls = lossy_heights; left = left; ends = lossy_rounds }
