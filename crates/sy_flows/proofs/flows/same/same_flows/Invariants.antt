use Rattle.std.proofs.Common.{◌≡◌, ℕ, ◌<◌, Some}
use Rattle.std.specs.Prelude.{slice_get}
use Rattle.sy_flows.specs.declared.flows.RelayFlows.{RelayFlows}
use Rattle.sy_flows.proofs.flows.same.same_flows.Given as goal

abbrev pub invariant-loop-relay : goal.invariant-loop-relay
invariant-loop-relay l = (k : ℕ) → k < l.relay → (a b : RelayFlows) → slice_get l.one.relays.items k ≡ Some a → slice_get l.other.relays.items k ≡ Some b
    → a.lists.items ≡ b.lists.items
