use Rattle.std.specs.Prelude.{Contains}
use Rattle.sy_site.specs.declared.site.SiteInput.{SiteInput}
use Rattle.sy_warnings.specs.Following.{IsStart, list_at}
use Rattle.sy_warnings.specs.internal.Following.{AreFound}
use Rattle.sy_warnings.proofs.Arriving.{AreLed}
use Rattle.sy_warnings.proofs.coming.find_all.Given as goal

abbrev pub invariant-loop-done : goal.invariant-loop-done
invariant-loop-done l = record {
  found : AreFound l.site l.class l.by l.found.lists.items l.found.marks.items;
  starts : (x : SiteInput) → IsStart l.site l.by x → Contains l.found.lists.items (list_at l.site x);
  led : AreLed l.site l.class l.by l.found.lists.items l.done;
}
