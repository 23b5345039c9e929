-- The guard of an accepted site's relay.
use Rattle.std.proofs.Common.{◌≡◌, ℕ, suc, ◌<◌, List, [], ◌∷◌, length, refl, sym, ◌∙◌, ap, arith}
use Rattle.std.proofs.lemmas.Option.{slice_get-map}
use Rattle.std.specs.Prelude.{Some, option_map, slice_get}
use Rattle.sy_rules.specs.PlanValue.{Plan}
use Rattle.sy_board.specs.relay.Guards.{MayGuard}
use Rattle.sy_board.specs.relay.Totals.{GuardState}
use Rattle.sy_site.specs.Sites.{Relay, Site, actions_at, plan_at, plan_in}
use Rattle.sy_site.specs.machine.Soundness.{IsSound}
use Rattle.sy_fit.specs.Acceptance.{Acceptance, IsGuardAt, IsOf}
use Rattle.sy_running.specs.Prepared.{HasGuard}

there : (relays : List Relay) (relay : ℕ) → relay < length relays → Some (plan_in (slice_get relays relay)) ≡ option_map (λ (r : Relay). r.plan) (slice_get relays relay)
there [] relay low = absurd (omega (arith, low))
there (r ∷ rs) ℕ.zero low = refl
there (r ∷ rs) (suc k) low = there rs k (omega (arith, low))

pub has_guard : (site : Site) (accepted : Acceptance) (relay : ℕ) (guard : GuardState) → relay < length site.relays → IsSound site → IsOf site accepted
    → IsGuardAt accepted relay guard → ((plan : Plan) → Some plan ≡ slice_get accepted.plans relay → MayGuard plan guard)
    → HasGuard site relay guard
has_guard site accepted relay guard low sound is at may = record {
  sound = sound;
  pairs = λ input class. (
    (λ x. (is.pairs (record { relay = relay; input = input }) class).0 ((at.pairs input class).0 x)),
    (λ y. (at.pairs input class).1 ((is.pairs (record { relay = relay; input = input }) class).1 y)),
  );
  spares = at.spares ∙ ap (λ spares. actions_at spares relay) is.spares;
  may = may (plan_at site relay)
      (there site.relays relay low ∙ sym (slice_get-map (λ (r : Relay). r.plan) site.relays relay) ∙ ap (λ plans. slice_get plans relay) (sym is.plans));
}
