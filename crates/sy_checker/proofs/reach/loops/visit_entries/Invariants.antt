use Rattle.std.proofs.Common.{◌≡◌, [], take}
use Rattle.std.specs.Prelude.{Contains}
use Rattle.sy_site.specs.declared.site.SiteInput.{SiteInput}
use Rattle.sy_checker.specs.internal.Loops.{AreRanked}
use Rattle.sy_checker.proofs.reach.loops.visit_entries.Given as goal

abbrev pub invariant-loop-entry : goal.invariant-loop-entry
invariant-loop-entry l = record {
  way : l.seen.way.items ≡ [];
  ranked : AreRanked l.site l.class l.seen.done.items l.seen.settled.items l.seen.ranks.items;
  visited : (x : SiteInput) → Contains (take l.entry-index l.site.entries) x → Unit {0} → Contains l.seen.done.items x;
}
