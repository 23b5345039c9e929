use Rattle.std.proofs.Common.{rules, ◌≡◌, inr, map, length, refl, subst, sym, ◌∙◌, arith, eqb-true}
use Rattle.std.proofs.lemmas.Grind.{common_steps}
use Rattle.sy_site.specs.texts.Describes.{file, IsEntry, relay_lines, spare_lines}
use Rattle.sy_site.specs.internal.Reading.{line_given}
use Rattle.sy_site.specs.internal.SiteInside.{inputs_of, relay_of, site_of, site_with, targets_in}
use Rattle.sy_site.specs.Sites.{Site}
use Rattle.sy_site.specs.texts.HasFault.{HasFault}
use Rattle.sy_site.proofs.lemmas.sites.Kept.{few_relays, lawful, protections_of}
use Rattle.sy_site.proofs.lemmas.sites.Spares.{spares_of}
use Rattle.sy_site.proofs.lemmas.sites.More.{all_paired, nothing, paired_lengths}
use Rattle.sy_site.proofs.lemmas.texts.Described.{all_empty, are_relays, no_entry_line, paired_relays}
use Rattle.sy_site.proofs.lemmas.texts.FaultsFound.{all_found, none_named}
use Rattle.sy_site.proofs.lemmas.texts.Policies.{by_policy}
use Rattle.sy_site.proofs.site.Site.of_texts.Goals as goal
use Rattle.sy_site.proofs.site.Site.of_texts.Goals.{then-is_empty-via-then-is_empty, then-is_empty-via-else-is_empty+then-not-protects}

pub entries-requires : goal.entries-requires
entries-requires c =
    let relays = rw c.as_slice.ensures.value at c.in_ok-relays.ensures.relays in
    record { few = rw c.as_slice-3.ensures.value (few_relays _ _ c.in_ok-relays.relays.items relays c.in_ok-found.ensures.few_relays) }

pub whole_entries-requires : goal.whole_entries-requires
whole_entries-requires c =
    let relays = rw c.as_slice.ensures.value at c.in_ok-relays.ensures.relays in
    record { few = rw c.as_slice-5.ensures.value (few_relays _ _ c.in_ok-relays.relays.items relays c.in_ok-found.ensures.few_relays) }

pub protections-requires : goal.protections-requires
protections-requires c =
    let relays = rw c.as_slice.ensures.value at c.in_ok-relays.ensures.relays in
    record { few = rw c.as_slice-10.ensures.value (few_relays _ _ c.in_ok-relays.relays.items relays c.in_ok-found.ensures.few_relays) }

pub targets_of-requires : goal.targets_of-requires
targets_of-requires c =
    let relays = rw c.as_slice.ensures.value at c.in_ok-relays.ensures.relays in
    record { few = rw c.as_slice-11.ensures.value (few_relays _ _ c.in_ok-relays.relays.items relays c.in_ok-found.ensures.few_relays) }

pub returns-in_err-relays-clause-err : goal.returns-in_err-relays-clause-err
returns-in_err-relays-clause-err c =
    let refused = rw c.as_slice.ensures.value at c.in_err-relays.ensures.err in
    let err = refused c.args.text.now (all_found c.args.text.now c.in_ok-found.found.items c.in_ok-found.ensures.placed) in
    search rules

pub returns-in_err-entries-clause-err : goal.returns-in_err-entries-clause-err
returns-in_err-entries-clause-err c =
    let files = map (λ f. file f.0.now f.1.now) c.args.files.now in
    let relays = rw c.as_slice.ensures.value at c.in_ok-relays.ensures.relays in
    let are = are_relays c.args.text.now files (map line_given c.in_ok-found.found.items) c.in_ok-relays.relays.items c.in_ok-found.ensures.lines relays in
    let refused = rw (c.as_slice-2.ensures.value, c.as_slice-3.ensures.value) at c.in_err-entries.ensures.err in
    let err = refused c.args.text.now files (all_found c.args.text.now c.in_ok-found.found.items c.in_ok-found.ensures.placed) are in
    search rules

pub returns-in_err-whole_entries-clause-err : goal.returns-in_err-whole_entries-clause-err
returns-in_err-whole_entries-clause-err c =
    let files = map (λ f. file f.0.now f.1.now) c.args.files.now in
    let relays = rw c.as_slice.ensures.value at c.in_ok-relays.ensures.relays in
    let are = are_relays c.args.text.now files (map line_given c.in_ok-found.found.items) c.in_ok-relays.relays.items c.in_ok-found.ensures.lines relays in
    let refused = rw (c.as_slice-4.ensures.value, c.as_slice-5.ensures.value) at c.in_err-whole_entries.ensures.err in
    let err = refused c.args.text.now files (all_found c.args.text.now c.in_ok-found.found.items c.in_ok-found.ensures.placed) are in
    search rules

pub returns-in_err-protections-clause-err : goal.returns-in_err-protections-clause-err
returns-in_err-protections-clause-err c =
    let files = map (λ f. file f.0.now f.1.now) c.args.files.now in
    let relays = rw c.as_slice.ensures.value at c.in_ok-relays.ensures.relays in
    let are = are_relays c.args.text.now files (map line_given c.in_ok-found.found.items) c.in_ok-relays.relays.items c.in_ok-found.ensures.lines relays in
    let refused = rw c.as_slice-10.ensures.value at c.in_err-protections.ensures.err in
    let err = refused c.args.text.now files (all_found c.args.text.now c.in_ok-found.found.items c.in_ok-found.ensures.placed) are in
    search rules

pub spares-named-requires : goal.spares-named-requires
spares-named-requires c =
    let relays = rw c.as_slice.ensures.value at c.in_ok-relays.ensures.relays in
    record { few = rw c.as_slice-8.ensures.value (few_relays _ _ c.in_ok-relays.relays.items relays c.in_ok-found.ensures.few_relays) }

pub returns-in_err-spares-clause-err : goal.returns-in_err-spares-clause-err
returns-in_err-spares-clause-err c =
    let files = map (λ f. file f.0.now f.1.now) c.args.files.now in
    let relays = rw c.as_slice.ensures.value at c.in_ok-relays.ensures.relays in
    let are = are_relays c.args.text.now files (map line_given c.in_ok-found.found.items) c.in_ok-relays.relays.items c.in_ok-found.ensures.lines relays in
    let refused = rw (c.as_slice-7.ensures.value, c.as_slice-8.ensures.value) at c.in_err-spares.ensures.err in
    let err = refused c.args.text.now files (all_found c.args.text.now c.in_ok-found.found.items c.in_ok-found.ensures.placed) are in
    search rules

pub returns-then-is_empty-clause-err : goal.returns-then-is_empty-clause-err
returns-then-is_empty-clause-err c =
    let entries = all_paired (IsEntry (site_with c.in_ok-relays.relays.items)) _ c.in_ok-entries.entries.items (rw (c.as_slice-2.ensures.value, c.as_slice-3.ensures.value) at c.in_ok-entries.ensures.entries) in
    let site : Site = record {
      policy = c.policy-policy.result;
      relays = map relay_of c.in_ok-relays.relays.items;
      entries = c.in_ok-entries.entries.items;
      whole_entries = c.in_ok-whole_entries.whole_entries.items;
      protections = c.in_ok-protections.protections.items;
      spares = c.in_ok-spares.spares.items;
      outsides = c.in_ok-outsides.outsides.items;
    } in
    let protections = protections_of (site_with c.in_ok-relays.relays.items) site refl _ c.in_ok-protections.protections.items (rw c.as_slice-10.ensures.value at c.in_ok-protections.ensures.protections) in
    elim c.then-is_empty.branch [
      | then-is_empty-via-then-is_empty w ↦
          let none : length c.in_ok-entries.entries.items ≡ 0 = omega (arith, eqb-true _ _ (sym w.if-is_empty.ensures), c.in_ok-entries.entries.ok) in
          inr (HasFault.not_entered (no_entry_line c.in_ok-found.ensures.lines (nothing _ (paired_lengths (IsEntry (site_with c.in_ok-relays.relays.items)) entries ∙ none))))
      | then-is_empty-via-else-is_empty+then-not-protects w ↦
          inr (HasFault.not_protected (all_empty site c.in_ok-found.ensures.lines protections (rw w.as_slice-else-is_empty.ensures.value at (w.protects.ensures.no w.if-not-protects.true))))
    ]

pub returns-clause-site : goal.returns-clause-site
returns-clause-site c =
    let files = map (λ f. file f.0.now f.1.now) c.args.files.now in
    let site = site_of (record {
      policy = c.policy-policy.result;
      relays = c.in_ok-relays.relays;
      entries = c.in_ok-entries.entries;
      whole_entries = c.in_ok-whole_entries.whole_entries;
      protections = c.in_ok-protections.protections;
      spares = c.in_ok-spares.spares;
      outsides = c.in_ok-outsides.outsides;
      targets = c.in-Ok.targets;
    }) in
    let relays = rw c.as_slice.ensures.value at c.in_ok-relays.ensures.relays in
    let entries = rw (c.as_slice-2.ensures.value, c.as_slice-3.ensures.value) at c.in_ok-entries.ensures.entries in
    let whole_entries = rw (c.as_slice-4.ensures.value, c.as_slice-5.ensures.value) at c.in_ok-whole_entries.ensures.entries in
    let protected = c.protects.ensures.yes c.if-not-protects.false in
    record {
      small = c.in_ok-found.ensures.small;
      lines = map line_given c.in_ok-found.found.items;
      are_lines = c.in_ok-found.ensures.lines;
      once = c.in_ok-found.ensures.once;
      placed = c.in_ok-found.ensures.in_place;
      few_relays = c.in_ok-found.ensures.few_relays;
      few_entries = c.in_ok-found.ensures.few_entries;
      few_protections = c.in_ok-found.ensures.few_protections;
      few_spares = c.in_ok-found.ensures.few_spares;
      few_outsides = c.in_ok-found.ensures.few_outsides;
      policy = rw c.as_slice-6.ensures.value at c.policy-policy.ensures;
      relays = paired_relays files (relay_lines (map line_given c.in_ok-found.found.items)) c.in_ok-relays.relays.items relays;
      entries = all_paired (IsEntry site) _ c.in_ok-entries.entries.items entries;
      whole_entries = all_paired (IsEntry site) _ c.in_ok-whole_entries.whole_entries.items whole_entries;
      protections = protections_of (site_with c.in_ok-relays.relays.items) site refl _ c.in_ok-protections.protections.items (rw c.as_slice-10.ensures.value at c.in_ok-protections.ensures.protections);
      spares = spares_of (site_with c.in_ok-relays.relays.items) site refl _ c.in_ok-spares.spares.items (rw (c.as_slice-7.ensures.value, c.as_slice-8.ensures.value) at c.in_ok-spares.ensures.spares);
      outsides = rw c.as_slice-9.ensures.value at c.in_ok-outsides.ensures.outsides;
      apart =
          none_named c.in_ok-found.found.items (spare_lines (map line_given c.in_ok-found.found.items)) (rw c.as_slice-7.ensures.value at c.in_ok-spares.ensures.apart);
      entered = grind (arith, common_steps);
      class = protected.0;
      protected = rw c.as_slice-else-is_empty.ensures.value at protected.1;
    }

pub invariant_of-result : goal.invariant_of-result
unfolding returns-clause-site
invariant_of-result c =
    let site = site_of (record {
      policy = c.policy-policy.result;
      relays = c.in_ok-relays.relays;
      entries = c.in_ok-entries.entries;
      whole_entries = c.in_ok-whole_entries.whole_entries;
      protections = c.in_ok-protections.protections;
      spares = c.in_ok-spares.spares;
      outsides = c.in_ok-outsides.outsides;
      targets = c.in-Ok.targets;
    }) in
    let files = map (λ f. file f.0.now f.1.now) c.args.files.now in
    let lines = map line_given c.in_ok-found.found.items in
    let described = returns-clause-site c in (
      lawful files lines c.in_ok-relays.relays.items site (record {
        relays_are = refl;
        relays = rw c.as_slice.ensures.value at c.in_ok-relays.ensures.relays;
        few = c.in_ok-found.ensures.few_relays;
        by_policy = by_policy c.in_ok-found.ensures.lines c.in_ok-found.ensures.in_place;
        policy = described.policy;
        entries = described.entries;
        protections = described.protections;
        spares = described.spares;
        apart = described.apart;
      }),
      (c.args.text.now, files, described),
      subst (λ l. map inputs_of c.in-Ok.targets.items ≡ map (λ relay. targets_in (site_with l) (relay_of relay)) l) c.as_slice-11.ensures.value
          c.in-Ok.ensures,
    )
