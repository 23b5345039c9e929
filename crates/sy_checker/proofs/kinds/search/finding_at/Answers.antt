use Rattle.std.proofs.Common.{◌∙◌, subst, sym}
use Rattle.std.proofs.lemmas.Option.{slice_get_within}
use Rattle.sy_site.specs.machine.Findings.{IsFinding}
use Rattle.sy_flows.specs.declared.flows.executed.Executed.TheVariants as executed
use Rattle.sy_site.specs.Finding.{kind_of, way_of}
use Rattle.sy_flows.proofs.Rooted.{go_back}
use Rattle.sy_checker.proofs.Ways.{is_finding, it_stands, way_is}
use Rattle.sy_checker.proofs.kinds.search.finding_at.Goals as goal

pub way_to-requires : goal.way_to-requires
way_to-requires c =
    let it = c.requires.unclean in
    record {
      ordered = go_back c.args.site.now c.args.class executed.Firm c.args.site.now.entries c.args.found.now.inputs.items
          c.args.found.now.origins.items c.requires.spread.rooted;
      within = slice_get_within c.args.found.now.inputs.items c.args.place it.input it.stands;
    }

pub returns : goal.returns
returns c =
    let site = c.args.site.now in
    let it = c.requires.unclean in
    subst (λ x. IsFinding site c.args.class (way_of c.in_ok-way.way) x (kind_of c.args.kind))
    (sym (c.index-input.ensures ∙ it_stands c.args.found.now.inputs.items c.args.place c.index-input.result.now it.input it.stands))
    (is_finding site c.args.class c.in_ok-way.way it.input c.args.kind c.requires.protected
    (way_is site c.args.class c.in_ok-way.way it.input
    (c.in_ok-way.ensures site c.args.class executed.Firm site.entries c.requires.spread.rooted it.input it.stands))
    it.holds)
