use Rattle.std.proofs.Common.{take}
use Rattle.std.specs.Prelude.{Contains}
use Rattle.sy_site.specs.declared.site.SiteInput.{SiteInput}
use Rattle.sy_warnings.specs.Following.{list_at}
use Rattle.sy_warnings.specs.internal.Following.{AreFound}
use Rattle.sy_warnings.proofs.coming.add_inputs.Given as goal

abbrev pub invariant-loop-input : goal.invariant-loop-input
invariant-loop-input l = record {
  found : AreFound l.site l.class l.by l.found.lists.items l.found.marks.items;
  has : (x : SiteInput) → Contains (take l.input-index l.inputs) x → Contains l.found.lists.items (list_at l.site x);
}
