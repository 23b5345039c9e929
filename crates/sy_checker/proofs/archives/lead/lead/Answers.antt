use Rattle.std.proofs.Common.{◌≡◌, ◌∙◌, ◌<◌, Some, ap, arith, length, refl, subst, sym}
use Rattle.std.specs.Prelude.{Contains, slice_get}
use Rattle.std.proofs.lemmas.List.Quantifiers.{position-Some}
use Rattle.std.proofs.lemmas.Option.{slice_get_read}
use Rattle.sy_site.proofs.lemmas.sites.Places.{place_none}
use Rattle.sy_flows.specs.Members.{same_input}
use Rattle.sy_flows.proofs.FoundInputs.{same_is, same_laws}
use Rattle.sy_flows.proofs.There.{entry_there}
use Rattle.sy_checker.proofs.archives.lead.lead.Goals as goal

pub lead_among-requires-clause-there : goal.lead_among-requires-clause-there
lead_among-requires-clause-there c = entry_there c.args.site.now c.is_lawful.ensures c.args.entry c.requires.entry

pub lead_among-requires-clause-found : goal.lead_among-requires-clause-found
lead_among-requires-clause-found c =
    let entries = c.entries.result.now in
    let entry = c.args.entry in
    let place = c.in-Some.place in
    let at = position-Some (same_input entry) entries place entry (sym c.place_of.ensures ∙ c.in-Some.is) in
    let within = at.0 in
    let same : length entries ≡ length c.args.site.now.entries = ap length c.entries.ensures in
    let long = c.requires.leads.length_is in
    let low : place < length c.args.leads.now = omega (arith, within, same, long) in
    let stands = subst (λ l. slice_get l place ≡ Some entry) c.entries.ensures
    (slice_get_read entries (length entries) place entry refl within (same_is entry _ at.1)) in
    c.requires.leads.each place c.index-leads-place.result
    (slice_get_read c.args.leads.now (length c.args.leads.now) place c.index-leads-place.result refl low c.index-leads-place.is) entry stands

pub unreachable-requires : goal.unreachable-requires
unreachable-requires c =
    place_none (same_input c.args.entry) c.entries.result.now (sym c.place_of.ensures ∙ c.in-None.is) c.args.entry
    (subst (λ l. Contains l c.args.entry) (sym c.entries.ensures) c.requires.entry) (same_laws.refl c.args.entry)
