use Rattle.std.proofs.Common.{◌≡◌, ℕ, false, List, [], ◌∷◌, refl, sym, subst, arith, inl, inr, Some}
use Rattle.std.specs.Prelude.{slice_get, take}
use Rattle.sy_wire.specs.declared.class.Class.{Class}
use Rattle.sy_wire.specs.Messages.{Said}
use Rattle.sy_rules.specs.declared.lists.occurrence.Occurrence.{Occurrence}
use Rattle.sy_rules.specs.declared.lists.occurrence.Occurrence.TheVariants as occurrence
use Rattle.sy_rules.specs.Whole.{AreDifferent}
use Rattle.sy_rules.proofs.lemmas.plan.Different.{one_differs}
use Rattle.sy_board.specs.relay.Cells.{Cell, at}
use Rattle.sy_board.proofs.relay.Keeps.{Each}
use Rattle.sy_site.specs.Sites.{SiteAction}
use Rattle.sy_site.specs.machine.States.{SiteState}
use Rattle.sy_site.specs.machine.Steps.{Runs, SiteEvent}
use Rattle.sy_site.specs.machine.Safety.{HasLeft, Heads, IsCopyOf, IsWrittenOrHeads, Left, forwards, posts, writes}
use Rattle.sy_site.specs.machine.Examples.{audit}
use Rattle.sy_site.specs.machine.Counterexamples.{EndsUnsafe, Part, spared_events, spared_site}
use Rattle.sy_site.proofs.machine.ExampleSound.{audit_is_named, auth_is_protected}
use Rattle.sy_site.proofs.machine.Naming.{each_in}
use Rattle.sy_site.proofs.machine.Parts.{one_trail}
use Rattle.sy_site.proofs.machine.SparedParts as parts
use Rattle.sy_site.proofs.machine.SparedParts.{Idle, Spare, arrival, only_spare, others, s1, s4, s5, s8, two_trails}
use Rattle.sy_site.proofs.machine.SparedRun as spared
use Rattle.sy_site.proofs.counterexamples.a_spared_message_isnt_safe.Goals as goal

no_left : (message : Said) (left : Left) (is : Occurrence) → HasLeft spared_site 0 1 message left is → ⊥
no_left message left is has = only_spare has.number is has.found has.firm

heads_nowhere : (message : Said) (left : Left) → Heads spared_site audit message 0 1 left → ⊥
heads_nowhere message left (writes action has is) = no_left message left (occurrence.Run action) has
heads_nowhere message left (forwards action to has leads on) = no_left message left (occurrence.Run action) has
heads_nowhere message left (posts to has on) = no_left message left (occurrence.Post to) has

module _ (state : SiteState) where
  unkept : ((relay : ℕ) (cell : Cell) → Each (Idle state relay cell) (at (state.relays relay) cell))
      → ((action : SiteAction) → Each (Spare state action) (state.passed action)) → IsWrittenOrHeads spared_site state audit 0 → ⊥
  unkept held passed (inl is) = each_in (Spare state audit) (state.passed audit) (passed audit) is.tag is.there is.copy is.plain
  unkept held passed (inr (inl is)) =
      each_in (Idle state is.relay is.cell) (at (state.relays is.relay) is.cell) (held is.relay is.cell) is.entry is.there is.copy is.plain is.heads
  unkept held passed (inr (inr is)) = each_in (Spare state is.link) (state.passed is.link) (passed is.link) is.tag is.there is.copy is.plain

module _ (class : Class) (facility : class.facility ≡ 4) (severity : class.severity ≡ 2) where
  ends_unsafe : (events : List SiteEvent) (state : SiteState) → Runs spared_site events state
      → state.arrivals ≡ arrival class ∷ [] → state.losses ≡ []
      → ((tag : ℕ) (copy : IsCopyOf state.copies 0 tag) → AreDifferent copy.copy.trail)
      → (IsWrittenOrHeads spared_site state audit 0 → ⊥) → EndsUnsafe spared_site events Part.Kept
  ends_unsafe events state run one none trails not_kept = (
    state,
    run,
    λ safe. not_kept ((safe 0 (arrival class) (subst (λ z. slice_get z 0 ≡ Some (arrival class)) (sym one) refl)
        (auth_is_protected class facility severity) (0, omega arith, refl)).kept audit (audit_is_named class facility severity)),
    others class state one none trails,
  )

pub returns-clause-before : goal.returns-clause-before
returns-clause-before c class facility severity =
    ends_unsafe class facility severity (take 1 (spared_events class)) (s1 class) (spared.before_run class) refl refl
    (λ tag. one_trail (spared.copy class (0 ∷ []) false) tag (one_differs 0))
    (unkept (s1 class) (parts.held_before class heads_nowhere) (λ action. tt))

pub returns-clause-on_the_link : goal.returns-clause-on_the_link
returns-clause-on_the_link c class facility severity =
    ends_unsafe class facility severity (take 4 (spared_events class)) (s4 class) (spared.link_run class) refl refl
    (λ tag. one_trail (spared.copy class (0 ∷ []) false) tag (one_differs 0))
    (unkept (s4 class) (parts.held_on_the_link class) (parts.passed_on_the_link class))

pub returns-clause-behind : goal.returns-clause-behind
returns-clause-behind c class facility severity =
    ends_unsafe class facility severity (take 5 (spared_events class)) (s5 class) (spared.behind_run class) refl refl (two_trails class)
    (unkept (s5 class) (parts.held_behind class) (parts.passed_behind class))

pub returns-clause-in_the_archive : goal.returns-clause-in_the_archive
returns-clause-in_the_archive c class facility severity =
    ends_unsafe class facility severity (spared_events class) (s8 class) (spared.archive_run class) refl refl (two_trails class)
    (unkept (s8 class) (parts.held_in_the_archive class) (parts.passed_in_the_archive class))
