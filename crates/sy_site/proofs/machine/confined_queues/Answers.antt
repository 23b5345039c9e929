use Rattle.std.proofs.Common.{◌≡◌, ℕ, inl, inr}
use Rattle.std.specs.Prelude.{◌⊎◌}
use Rattle.sy_wire.specs.declared.class.Class.{Class}
use Rattle.sy_chain.specs.Entries.{Entry}
use Rattle.sy_rules.specs.declared.lists.occurrence.Occurrence.TheVariants as occurrence
use Rattle.sy_rules.specs.Whole.{queue_for}
use Rattle.sy_board.specs.relay.Cells.{Cell}
use Rattle.sy_board.specs.relay.Kinds.{MayLose}
use Rattle.sy_board.specs.relay.Plans.{post_flow, queue_of_input}
use Rattle.sy_board.specs.relay.Spares.{Scope}
use Rattle.sy_site.specs.Sites.{Site, plan_at}
use Rattle.sy_site.specs.machine.Confinement.{IsOfAPost, IsOfItsInput}
use Rattle.sy_site.specs.machine.Reach.{Follows, MayDo, list_of}
use Rattle.sy_site.proofs.machine.confined_queues.Goals as goal

-- what the record says of it, told in full
reported : (site : Site) (class : Class) (relay queue : ℕ) (entry : Entry)
    → IsOfItsInput (plan_at site relay) (Cell.Queue queue) entry ⊎ IsOfAPost site class relay (Cell.Queue queue) entry
    → ((queue_of_input (plan_at site relay) entry.input ≡ queue) × (entry.list ≡ list_of site (record { relay = relay; input = entry.input })))
    ⊎ ((queue_for (plan_at site relay) entry.list ≡ queue)
    × ((before : ℕ) × (number : ℕ) × Follows site class Scope.Firm (record { relay = relay; input = entry.input }) before
    × MayDo site class Scope.Firm relay before number (occurrence.Post entry.list))
    × (MayLose (plan_at site relay) class (queue_for (plan_at site relay) entry.list)
    (post_flow (plan_at site relay) (queue_for (plan_at site relay) entry.list)) → ⊥))
reported site class relay queue entry (inl its) = inl (its.place, its.list)
reported site class relay queue entry (inr post) = inr (post.place, (post.before, post.number, post.follows, post.does), post.keeps)

pub returns : goal.returns
returns c site class state confined relay queue entry there copy followed plain =
    reported site class relay queue entry (confined.placed relay (Cell.Queue queue) entry there copy followed plain)
