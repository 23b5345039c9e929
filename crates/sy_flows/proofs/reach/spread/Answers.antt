use Rattle.std.proofs.Common.{◌≡◌, ◌<◌, ◌≤◌, ◌+◌, ◌-◌, [], Some, arith, length, refl, sym, subst}
use Rattle.std.specs.Prelude.{Contains, slice_get}
use Rattle.std.proofs.lemmas.Option.{slice_get_read}
use Rattle.sy_flows.specs.internal.Found.{Adds}
use Rattle.sy_flows.specs.internal.Marks.{AreMarked}
use Rattle.sy_flows.specs.internal.Search.{KeepsRoots}
use Rattle.sy_flows.proofs.Marked.{none_marked}
use Rattle.sy_flows.proofs.Gone.{found_few, gone_all, gone_first, gone_more}
use Rattle.sy_flows.proofs.reach.spread.Goals as goal

pub loop-done-init : goal.loop-done-init
loop-done-init c = (
  gone_first c.args.site.now c.args.class c.args.which c.args.start.now c.add_all.new.found.inputs.items c.add_all.new.found.origins.items
      (subst (λ l. Adds (Contains c.args.start.now) l c.add_all.new.found.inputs.items) c.nothing_found-found.ensures.inputs c.in_ok-add_all.ensures.inputs)
      (subst (λ l. KeepsRoots c.args.site.now c.args.class c.args.which c.args.start.now l [] c.add_all.new.found.inputs.items
      c.add_all.new.found.origins.items) c.nothing_found-found.ensures.inputs
      (subst (λ o. KeepsRoots c.args.site.now c.args.class c.args.which c.args.start.now c.nothing_found-found.result.inputs.items o
      c.add_all.new.found.inputs.items c.add_all.new.found.origins.items) c.nothing_found-found.ensures.origins
      (c.in_ok-add_all.ensures.roots c.args.site.now c.args.class c.args.which)))
      c.requires.there,
  c.in_ok-add_all.ensures.marked,
)

pub loop-done-preserved : goal.loop-done-preserved
loop-done-preserved c =
    let low : c.loop-done.done < length c.loop-done.found.inputs.items = omega (arith, c.loop-done-test.true, c.len.ensures) in
    let here : slice_get c.loop-done.found.inputs.items c.loop-done.done ≡ Some c.index-from.result.now =
    slice_get_read c.loop-done.found.inputs.items (length c.loop-done.found.inputs.items) c.loop-done.done c.index-from.result.now refl low
    c.index-from.ensures
    in (
      gone_more c.args.site.now c.args.class c.args.which c.args.start.now c.loop-done.found.inputs.items c.add_targets.new.found.inputs.items
          c.loop-done.found.origins.items c.add_targets.new.found.origins.items c.loop-done.done c.index-from.result.now here
          c.loop-done.invariant.0 c.in_ok-add_targets.ensures.inputs (c.in_ok-add_targets.ensures.roots c.args.start.now here),
      c.in_ok-add_targets.ensures.marked,
    )

pub add_targets-requires : goal.add_targets-requires
add_targets-requires c =
    let low : c.loop-done.done < length c.loop-done.found.inputs.items = omega (arith, c.loop-done-test.true, c.len.ensures) in
    record {
      hops = c.requires.hops;
      marked = c.loop-done.invariant.1;
      there = c.loop-done.invariant.0.there c.index-from.result.now (c.loop-done.done, low, sym c.index-from.ensures);
    }

pub loop-done-smaller : goal.loop-done-smaller
loop-done-smaller c =
    let few = found_few c.args.site.now c.args.class c.args.which c.args.start.now c.loop-done.found.inputs.items c.loop-done.found.origins.items
    c.loop-done.done c.loop-done.invariant.0 c.is_lawful.ensures in
    let low : c.loop-done.done < length c.loop-done.found.inputs.items = omega (arith, c.loop-done-test.true, c.len.ensures) in
    let less : 4096 - (c.loop-done.done + 1) < 4096 - c.loop-done.done = omega (arith, few, low) in
    less

pub returns : goal.returns
returns c =
    let all : length c.loop-done.found.inputs.items ≤ c.loop-done.done = omega (arith, c.loop-done-test.false, c.len.ensures) in
    gone_all c.args.site.now c.args.class c.args.which c.args.start.now c.loop-done.found.inputs.items c.loop-done.found.origins.items c.loop-done.done
    c.loop-done.invariant.0 all

pub add_all-requires : goal.add_all-requires
add_all-requires c = record {
  marked = subst (λ l. AreMarked l c.new-marks.result.items) (sym c.nothing_found-found.ensures.inputs)
      (subst (AreMarked []) (sym c.new-marks.ensures.items) none_marked);
}
