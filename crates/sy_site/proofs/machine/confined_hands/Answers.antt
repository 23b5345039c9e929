use Rattle.std.proofs.Common.{◌≡◌, ℕ, ◌+◌, ◌*◌, ◌<◌, ap, subst, arith, inl, inr, ◌∙◌}
use Rattle.std.specs.Prelude.{◌⊎◌}
use Rattle.sy_wire.specs.declared.class.Class.{Class}
use Rattle.sy_chain.specs.Entries.{Entry}
use Rattle.sy_rules.specs.Whole.{body_at}
use Rattle.sy_rules.specs.lists.Work.{May}
use Rattle.sy_board.specs.relay.Cells.{Cell, hand}
use Rattle.sy_board.specs.relay.Plans.{input_at}
use Rattle.sy_board.specs.relay.Spares.{Scope}
use Rattle.sy_site.specs.Sites.{Site, plan_at}
use Rattle.sy_site.specs.machine.Confinement.{IsOfAPost, IsOfItsInput}
use Rattle.sy_site.specs.machine.Reach.{Reach}
use Rattle.sy_site.proofs.machine.confined_hands.Goals as goal

same_input : (a b number other : ℕ) → number < 64 → other < 64 → 64 * a + number ≡ 64 * b + other → b ≡ a
same_input a b number other below above e = omega (arith, below, above, e)

-- no post puts anything into a hand
in_a_hand : (site : Site) (class : Class) (relay place : ℕ) (entry : Entry)
    → IsOfItsInput (plan_at site relay) (Cell.Hand place) entry ⊎ IsOfAPost site class relay (Cell.Hand place) entry
    → IsOfItsInput (plan_at site relay) (Cell.Hand place) entry
in_a_hand site class relay place entry (inl its) = its
in_a_hand site class relay place entry (inr post) = absurd post.place

pub returns : goal.returns
returns c site class state confined relay input number below entry there copy followed plain =
    let of = in_a_hand site class relay (64 * input + number) entry (confined.placed relay (hand input number) entry there copy followed plain) in
    let held = confined.held relay (hand input number) entry there copy followed plain in
    let same : entry.input ≡ input = same_input input entry.input number of.place.0 below of.place.1 of.place.2 in (
      same,
      subst (λ z. Reach site class Scope.Firm (record { relay = relay; input = z })) same held.reached,
      λ due set. subst (λ z. May (body_at (plan_at site relay) z) class due) (of.list ∙ ap (λ z. (input_at (plan_at site relay) z).list) same)
          (held.due due set),
    )
