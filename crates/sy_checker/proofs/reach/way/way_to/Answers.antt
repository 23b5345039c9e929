use Rattle.std.proofs.Common.{◌≡◌, ◌∙◌, ◌<◌, None, arith, length, sym, subst}
use Rattle.std.specs.Prelude.{slice_get, Some}
use Rattle.sy_site.specs.declared.site.SiteInput.{SiteInput}
use Rattle.sy_checker.specs.internal.Search.{IsLed}
use Rattle.sy_flows.proofs.Gone.{if_ok}
use Rattle.sy_flows.proofs.Rooted.{is_none, read_there}
use Rattle.sy_checker.proofs.Ways.{HasWay, way_first, way_more, way_whole}
use Rattle.sy_checker.proofs.reach.way.way_to.Goals as goal

pub loop-origin-init : goal.loop-origin-init
loop-origin-init c = (
  c.requires.within,
  λ site class which start rooted.
      subst (HasWay site class which c.args.found.now.inputs.items c.args.place c.args.place) (sym c.new-back.ensures.items)
      (way_first site class which c.args.found.now.inputs.items c.args.place c.requires.within),
)

pub loop-origin-preserved : goal.loop-origin-preserved
loop-origin-preserved c =
    let many = c.requires.ordered.many in
    let within = c.loop-origin.invariant.0 in
    let low : c.loop-origin.at < length c.args.found.now.origins.items = omega (arith, many, within) in
    let stands : slice_get c.args.found.now.origins.items c.loop-origin.at ≡ Some (Some c.in-Some.origin) =
    read_there c.args.found.now.origins.items c.loop-origin.at c.index.result.now (Some c.in-Some.origin) low c.index.ensures c.in-Some.is
    in
    let before = c.requires.ordered.before c.loop-origin.at c.in-Some.origin stands in (
      omega (arith, before, within),
      λ site class which start rooted.
          subst (HasWay site class which c.args.found.now.inputs.items c.args.place c.in-Some.origin.place) (sym c.in_ok-push.ensures.items)
          (way_more site class which start c.args.found.now.inputs.items c.args.found.now.origins.items rooted c.args.place c.loop-origin.at
          c.loop-origin.back.items (c.loop-origin.invariant.1 site class which start rooted) c.in-Some.origin stands),
    )

pub loop-origin-smaller : goal.loop-origin-smaller
loop-origin-smaller c =
    let many = c.requires.ordered.many in
    let within = c.loop-origin.invariant.0 in
    let low : c.loop-origin.at < length c.args.found.now.origins.items = omega (arith, many, within) in
    c.requires.ordered.before c.loop-origin.at c.in-Some.origin
    (read_there c.args.found.now.origins.items c.loop-origin.at c.index.result.now (Some c.in-Some.origin) low c.index.ensures c.in-Some.is)

pub returns : goal.returns
returns c = λ site class which start rooted.
    let many = c.requires.ordered.many in
    let within = c.loop-origin.invariant.0 in
    let low : c.loop-origin.at < length c.args.found.now.origins.items = omega (arith, many, within) in
    let stands : slice_get c.args.found.now.origins.items c.loop-origin.at ≡ Some None =
    read_there c.args.found.now.origins.items c.loop-origin.at c.index.result.now None low c.index.ensures
    (is_none c.index.result.now c.in_default.not-Some)
    in
    let all = way_whole site class which start c.args.found.now.inputs.items c.args.found.now.origins.items rooted c.args.place c.loop-origin.at
    c.loop-origin.back.items (c.loop-origin.invariant.1 site class which start rooted) stands in
    if_ok (λ way. way ≡ c.as_slice.result.now)
    (λ way. (end : SiteInput) → slice_get c.args.found.now.inputs.items c.args.place ≡ Some end → IsLed site class which start way end)
    (λ way is end there. subst (λ w. IsLed site class which start w end)
    (sym (is ∙ c.as_slice.ensures.value ∙ c.reverse.ensures.items)) (all end there))
    c.from_slice.result c.from_slice.ensures
