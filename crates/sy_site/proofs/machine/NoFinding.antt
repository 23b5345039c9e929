-- In a sound site there is no true finding.
use Rattle.std.proofs.Common.{ℕ, ◌<◌, List, [], ◌∷◌, subst, ap, arith, map}
use Rattle.sy_wire.specs.declared.class.Class.{Class}
use Rattle.sy_site.specs.Sites.{Site, SiteInput}
use Rattle.sy_site.specs.machine.Findings.{HoldsAt, IsChain, IsFinding, IsFound, IsWay, IsWayFrom, Kind, WayRow}
use Rattle.sy_site.specs.machine.Reach.{Reach, entry, onward}
use Rattle.sy_board.specs.relay.Spares.{Scope}
use Rattle.sy_site.specs.machine.Soundness.{IsSound, IsSoundFor}
use Rattle.sy_board.proofs.relay.Keeps.{Each}
use Rattle.sy_site.proofs.machine.Naming.{each_in}

pub way_reaches : (site : Site) (class : Class) (from : SiteInput) (way : List WayRow) (end : SiteInput) → Reach site class Scope.Firm from
    → IsWayFrom site class from way end → Reach site class Scope.Firm end
way_reaches site class from [] end reach is = subst (Reach site class Scope.Firm) is reach
way_reaches site class from (row ∷ way) end reach (here, to, goes, more) =
    way_reaches site class to way end (onward row.number reach goes) more

each_map : (P : ℕ → Type 0) (way : List WayRow) → Each (λ (row : WayRow). P row.input.relay) way
    → Each P (map (λ (row : WayRow). row.input.relay) way)
each_map P [] a = tt
each_map P (row ∷ way) a = (a.0, each_map P way a.1)

module _ (site : Site) (class : Class) (sound : IsSoundFor site class) where
  -- the ranks fall along a chain, to its end
  chain_falls : (way : List WayRow) (end : SiteInput) → IsChain site class way end
      → Each (λ (row : WayRow). sound.rank end.relay < sound.rank row.input.relay) way
  chain_falls [] end is = absurd is
  chain_falls (row ∷ []) end (reach, goes) = (sound.ranks.falls row.input end row.number reach goes, tt)
  chain_falls (row ∷ next ∷ way) end (to, (reach, goes), same, more) =
      let later = chain_falls (next ∷ way) end more in
      let below = later.0 in
      let first = sound.ranks.falls row.input to row.number reach goes in
      let rank_same = ap sound.rank same in
      (omega (arith, below, first, rank_same), later)

  module _ (way_clean : (way : List WayRow) (input : SiteInput) (kind : Kind) → IsWay site class way input → HoldsAt site class input kind → ⊥) where
    pub none_found : (way : List WayRow) (input : SiteInput) (kind : Kind) → IsFound site class way input kind → ⊥
    none_found way input Kind.NotFull (is, holds) = way_clean way input Kind.NotFull is holds
    none_found way input Kind.MarkOff (is, holds) = way_clean way input Kind.MarkOff is holds
    none_found way input Kind.MarkAboveSize (is, holds) = way_clean way input Kind.MarkAboveSize is holds
    none_found way input Kind.Discards (is, holds) = way_clean way input Kind.Discards is holds
    none_found way input Kind.InnerQueue (is, holds) = way_clean way input Kind.InnerQueue is holds
    none_found way input Kind.GivesUp (is, holds) = way_clean way input Kind.GivesUp is holds
    none_found way input Kind.NoTarget (is, holds) = way_clean way input Kind.NoTarget is holds
    none_found way input Kind.InnerLoop (is, holds) = way_clean way input Kind.InnerLoop is holds
    none_found way input Kind.Loop loop =
        let relays = map (λ (row : WayRow). row.input.relay) way in
        let below : sound.rank input.relay < sound.rank input.relay =
        each_in (λ r. sound.rank input.relay < sound.rank r) relays
        (each_map (λ r. sound.rank input.relay < sound.rank r) way (chain_falls way input loop.chain)) input.relay loop.met_before in
        omega (arith, below)
    none_found way input (Kind.Unmet archive) (none, unmet) = unmet.leads_not (sound.leads input unmet.is_entry archive unmet.named)

pub no_finding : (site : Site) → IsSound site → (class : Class) (way : List WayRow) (input : SiteInput) (kind : Kind)
    → IsFinding site class way input kind → ⊥
no_finding site sound class way input kind found =
    let all = sound class found.protected in
    none_found site class all
    (λ w i k is holds. all.clean i (way_reaches site class is.entry w i (entry is.is_entry) is.follows) k holds) way input kind found.found
