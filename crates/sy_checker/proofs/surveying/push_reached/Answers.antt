use Rattle.std.proofs.Common.{inl, inr, subst, sym}
use Rattle.std.specs.Prelude.{◌↔◌, Contains}
use Rattle.sy_board.specs.relay.Spares.{Scope}
use Rattle.sy_site.specs.declared.site.SiteInput.{SiteInput}
use Rattle.sy_site.specs.machine.Findings.{HoldsAt}
use Rattle.sy_site.specs.machine.Reach.{Reach}
use Rattle.sy_site.specs.Finding.{kind_of}
use Rattle.sy_site.specs.declared.finding.Kind.{Kind}
use Rattle.sy_site.specs.declared.finding.Kind.TheVariants as kind
use Rattle.sy_checker.specs.internal.Survey.{Among, AreHeld, IsHeld, IsNothing, Reports}
use Rattle.sy_flows.proofs.There.{reach_there}
use Rattle.sy_checker.proofs.Reporting.{both_reported, held_or_looped}
use Rattle.sy_checker.proofs.surveying.push_reached.Goals as goal

pub sorted-requires : goal.sorted-requires
sorted-requires c = record {
  there = λ x there. reach_there c.args.site.now c.is_lawful.ensures c.args.class Scope.Firm x
      ((c.requires.walk.firm x).0 (subst (λ l. Contains l x) c.as_slice.ensures.value there));
}

pub push_inputs-requires : goal.push_inputs-requires
push_inputs-requires c =
    let reach : (x : SiteInput) → Contains c.as_slice-2.result.now x → Reach c.args.site.now c.args.class Scope.Firm x = λ x there. (c.requires.walk.firm x).0 (subst (λ l. Contains l x) c.as_slice.ensures.value
    ((c.in_ok-inputs.ensures.member x).0 (subst (λ l. Contains l x) c.as_slice-2.ensures.value there))) in
    record {
      protected = c.requires.protected;
      flows = c.requires.walk.flows;
      there = λ x there. reach_there c.args.site.now c.is_lawful.ensures c.args.class Scope.Firm x (reach x there);
      reached = reach;
    }

pub push_loop-requires : goal.push_loop-requires
push_loop-requires c = record {
  protected = c.requires.protected;
  flows = c.requires.walk.flows;
  reached = subst (λ l. (x : SiteInput) → Contains l x ↔ Reach c.args.site.now c.args.class Scope.Every x) (sym c.as_slice-3.ensures.value)
      c.requires.walk.every;
}

pub push_inner_loops-requires : goal.push_inner_loops-requires
push_inner_loops-requires c =
    let reach : (x : SiteInput) → Contains c.as_slice-4.result.now x → Reach c.args.site.now c.args.class Scope.Firm x = λ x there. (c.requires.walk.firm x).0 (subst (λ l. Contains l x) c.as_slice.ensures.value
    ((c.in_ok-inputs.ensures.member x).0 (subst (λ l. Contains l x) c.as_slice-4.ensures.value there))) in
    record {
      protected = c.requires.protected;
      flows = c.requires.walk.flows;
      there = λ x there. reach_there c.args.site.now c.is_lawful.ensures c.args.class Scope.Firm x (reach x there);
      reached = reach;
    }

pub returns-clause-reports : goal.returns-clause-reports
returns-clause-reports c =
    let site = c.args.site.now in
    let class = c.args.class in
    let inputs = c.as_slice-2.result.now in
    let again = c.as_slice-4.result.now in
    let old = c.args.found.now.groups.items in
    let mid = c.push_inputs.new.found.groups.items in
    let next = c.push_loop.new.found.groups.items in
    let new = c.push_inner_loops.new.found.groups.items in
    let Held = λ (i : SiteInput) (j : Kind). Among inputs (λ input. AreHeld site class input i j) in
    let Looped = λ (i : SiteInput) (j : Kind). Among again (λ input. IsHeld site class input kind.InnerLoop i j) in
    let first : Reports site class Held old next =
    both_reported site class Held IsNothing Held old mid next c.in_ok-push_inputs.ensures c.in_ok-push_loop.ensures.reports (λ i j p. inl p) in
    both_reported site class Held Looped (λ i j. Reach site class Scope.Firm i × HoldsAt site class i (kind_of j)) old next new first
    c.in_ok-push_inner_loops.ensures
    (λ i j p.
    let found = (c.in_ok-inputs.ensures.member i).1 (subst (λ l. Contains l i) (sym c.as_slice.ensures.value) ((c.requires.walk.firm i).1 p.0)) in
    elim (held_or_looped site class i j p.1) [
      | inl held ↦ inl (i, subst (λ l. Contains l i) (sym c.as_slice-2.ensures.value) found, held)
      | inr looped ↦ inr (i, subst (λ l. Contains l i) (sym c.as_slice-4.ensures.value) found, looped)
    ])

pub returns-clause-ranked : goal.returns-clause-ranked
returns-clause-ranked c = elim c.in_ok-push_loop.ensures.ranked [
  | inl ranks ↦ inl ranks
  | inr loop ↦ inr (loop.0, c.in_ok-push_inner_loops.ensures.kept c.args.class loop.0 kind.Loop loop.1)
]
