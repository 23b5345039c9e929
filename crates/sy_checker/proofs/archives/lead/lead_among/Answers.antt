use Rattle.std.proofs.Common.{◌≡◌, ◌∙◌, Some, subst, sym}
use Rattle.std.specs.Prelude.{Contains, slice_get}
use Rattle.std.proofs.lemmas.Option.{slice_get_within}
use Rattle.sy_site.specs.machine.Reach.{list_of}
use Rattle.sy_flows.specs.Leads.{AreFound, IsThere}
use Rattle.sy_checker.specs.internal.Leads.{IsWayBetween}
use Rattle.sy_checker.proofs.PathsFound.{leads_not, path_is}
use Rattle.sy_checker.proofs.archives.lead.lead_among.Goals as goal

pub first_writing-requires : goal.first_writing-requires
first_writing-requires c = record {
  there = λ x is. c.requires.found.are.there x (subst (λ l. Contains l x) c.as_slice.ensures.value is);
  flows = c.requires.flows;
}

pub way_to-requires : goal.way_to-requires
way_to-requires c =
    let write = c.in-Some.ensures in
    record {
      found = subst (λ s. AreFound c.args.site.now c.args.class s c.args.found.now.lists.items c.args.found.now.origins.items) (sym c.list_of.ensures.list)
          c.requires.found.are;
      within = slice_get_within c.args.found.now.lists.items c.in-Some.place write.0
          (subst (λ l. slice_get l c.in-Some.place ≡ Some write.0) c.as_slice.ensures.value write.1);
    }

pub returns-in_ok-path-in-Some : goal.returns-in_ok-path-in-Some
returns-in_ok-path-in-Some c =
    let write = c.in-Some.ensures in
    let stands = subst (λ l. slice_get l c.in-Some.place ≡ Some write.0) c.as_slice.ensures.value write.1 in
    path_is c.args.site.now c.args.class c.args.archive c.args.entry c.in_ok-path-in-Some.path write.0
    (subst (λ s. IsWayBetween c.args.site.now c.args.class s c.in_ok-path-in-Some.path write.0) c.list_of.ensures.list
    (c.in_ok-path-in-Some.ensures write.0 stands))
    write.2

pub returns-in-None : goal.returns-in-None
returns-in-None c =
    leads_not c.args.site.now c.args.class c.args.archive c.args.found.now.lists.items c.requires.found.closed
    (λ x is. c.in-None.ensures x (subst (λ l. Contains l x) (sym c.as_slice.ensures.value) is)) c.args.entry.relay
    (list_of c.args.site.now c.args.entry) c.requires.found.are.starts
