-- An archive that must be written in a list.
use Rattle.std.proofs.Common.{◌≡◌, ℕ, ◌<◌, ◌+◌, ap, subst, arith, inl, inr}
use Rattle.std.specs.Int.{bit_at}
use Rattle.std.proofs.lemmas.Bool.{cases_eq, cases_lt}
use Rattle.sy_wire.specs.declared.class.Class.{Class}
use Rattle.sy_rules.specs.declared.lists.occurrence.Occurrence.TheVariants as occurrence
use Rattle.sy_site.specs.declared.site.SiteAction.{SiteAction}
use Rattle.sy_site.specs.Sites.{Site}
use Rattle.sy_site.specs.machine.Reach.{writes}
use Rattle.sy_flows.specs.declared.flows.executed.Executed.TheVariants as executed
use Rattle.sy_flows.specs.declared.lists.InnerList.{InnerList}
use Rattle.sy_flows.specs.Leads.{MustWriteAt}
use Rattle.sy_flows.specs.Flows.{IsSet}
use Rattle.sy_flows.specs.Members.{HasNoneFrom, IsNextIn}
use Rattle.sy_flows.specs.internal.Leads.{Writes}

-- ---- the archive in the last list
abbrev pub IsNotWritten : Site → Class → SiteAction → InnerList → ℕ → Type 0
IsNotWritten site class archive at most = (w : MustWriteAt site class archive at) → w.number < most → ⊥

pub none_written : (site : Site) (class : Class) (archive : SiteAction) (at : InnerList) → IsNotWritten site class archive at 0
none_written site class archive at w low = omega (arith, low)

module _ (site : Site) (class : Class) (archive : SiteAction) (at : InnerList) (must : ℕ) (set : IsSet site class executed.Must at.relay at.list must) where
  pub written : (number : ℕ) → bit_at must number ≡ 1 → Writes site at number archive → MustWriteAt site class archive at
  written number member w = record {
    number = number;
    action = w.action;
    does = set.sound number (occurrence.Run w.action) member w.runs;
    writes = w.is;
  }

  pub not_written : (number from : ℕ) → IsNextIn must from number → (bit_at must number ≡ 1 → Writes site at number archive → ⊥)
      → IsNotWritten site class archive at from → IsNotWritten site class archive at (number + 1)
  not_written number from next none before w low =
      let member = set.whole w.number (occurrence.Run w.action) w.does in
      elim (cases_eq w.number number) [
        | inl same ↦
            none (subst (λ k. bit_at must k ≡ 1) same member)
            (subst (λ k. Writes site at k archive) same (record { action = w.action; runs = w.does.found; is = w.writes }))
        | inr apart ↦ elim (cases_lt w.number from) [
          | inl earlier ↦ before w earlier
          | inr behind ↦ next.lowest w.number behind (omega (arith, low, apart)) member
        ]
      ]

  pub never_written : (from : ℕ) → HasNoneFrom must from → IsNotWritten site class archive at from → MustWriteAt site class archive at → ⊥
  never_written from none before w =
      elim (cases_lt w.number from) [
        | inl earlier ↦ before w earlier
        | inr behind ↦ none w.number behind (set.whole w.number (occurrence.Run w.action) w.does)
      ]

-- An archive is written at its own relay.
pub own_relay : (site : Site) (class : Class) (archive : SiteAction) (at : InnerList) → MustWriteAt site class archive at → at.relay ≡ archive.relay
own_relay site class archive at w = ap (λ (a : SiteAction). a.relay) w.writes
