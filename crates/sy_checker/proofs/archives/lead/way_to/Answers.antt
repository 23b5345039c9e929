use Rattle.std.proofs.Common.{◌≡◌, ◌∙◌, ◌<◌, None, arith, length, sym, subst}
use Rattle.std.specs.Prelude.{slice_get, Some}
use Rattle.sy_flows.specs.declared.lists.InnerList.{InnerList}
use Rattle.sy_checker.specs.internal.Leads.{IsWayBetween}
use Rattle.sy_flows.proofs.Gone.{if_ok}
use Rattle.sy_checker.proofs.PathsFound.{HasWay, way_before, way_first, way_more, way_whole}
use Rattle.sy_flows.proofs.Rooted.{is_none, read_there}
use Rattle.sy_checker.proofs.archives.lead.way_to.Goals as goal

pub loop-origin-init : goal.loop-origin-init
loop-origin-init c =
    subst (HasWay c.args.site.now c.args.class c.args.found.now.lists.items c.args.place c.args.place) (sym c.new-back.ensures.items)
    (way_first c.args.site.now c.args.class c.args.found.now.lists.items c.args.place c.requires.within)

pub loop-origin-preserved : goal.loop-origin-preserved
loop-origin-preserved c =
    let many = c.requires.found.many in
    let within = c.loop-origin.invariant.within in
    let low : c.loop-origin.at < length c.args.found.now.origins.items = omega (arith, many, within) in
    subst (HasWay c.args.site.now c.args.class c.args.found.now.lists.items c.args.place c.in-Some.origin.place) (sym c.in_ok-push.ensures.items)
    (way_more c.args.site.now c.args.class c.args.start c.args.found.now.lists.items c.args.found.now.origins.items c.requires.found c.args.place
    c.loop-origin.at c.loop-origin.back.items c.loop-origin.invariant c.in-Some.origin
    (read_there c.args.found.now.origins.items c.loop-origin.at c.index.result.now (Some c.in-Some.origin) low c.index.ensures c.in-Some.is))

pub loop-origin-smaller : goal.loop-origin-smaller
loop-origin-smaller c =
    let many = c.requires.found.many in
    let within = c.loop-origin.invariant.within in
    let low : c.loop-origin.at < length c.args.found.now.origins.items = omega (arith, many, within) in
    way_before c.args.site.now c.args.class c.args.start c.args.found.now.lists.items c.args.found.now.origins.items c.requires.found c.args.place
    c.loop-origin.at c.loop-origin.back.items c.loop-origin.invariant c.in-Some.origin
    (read_there c.args.found.now.origins.items c.loop-origin.at c.index.result.now (Some c.in-Some.origin) low c.index.ensures c.in-Some.is)

pub returns : goal.returns
returns c =
    let many = c.requires.found.many in
    let within = c.loop-origin.invariant.within in
    let low : c.loop-origin.at < length c.args.found.now.origins.items = omega (arith, many, within) in
    let stands : slice_get c.args.found.now.origins.items c.loop-origin.at ≡ Some None =
    read_there c.args.found.now.origins.items c.loop-origin.at c.index.result.now None low c.index.ensures
    (is_none c.index.result.now c.in_default.not-Some)
    in
    let all = way_whole c.args.site.now c.args.class c.args.start c.args.found.now.lists.items c.args.found.now.origins.items c.requires.found
    c.args.place c.loop-origin.at c.loop-origin.back.items c.loop-origin.invariant stands in
    if_ok (λ way. way ≡ c.as_slice.result.now)
    (λ way. (end : InnerList) → slice_get c.args.found.now.lists.items c.args.place ≡ Some end
    → IsWayBetween c.args.site.now c.args.class c.args.start way end)
    (λ way is end there. subst (λ w. IsWayBetween c.args.site.now c.args.class c.args.start w end)
    (sym (is ∙ c.as_slice.ensures.value ∙ c.reverse.ensures.items)) (all end there))
    c.from_slice.result c.from_slice.ensures
