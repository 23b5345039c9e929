use Rattle.std.proofs.Common.{◌<◌, ℕ}
use Rattle.std.specs.Prelude.{Contains}
use Rattle.sy_warnings.specs.declared.following.SiteList.{SiteList}
use Rattle.sy_warnings.specs.Following.{Leads}
use Rattle.sy_warnings.specs.internal.Following.{AreFound, HasMore}
use Rattle.sy_warnings.proofs.coming.add_leads.Given as goal

abbrev pub invariant-loop-number : goal.invariant-loop-number
invariant-loop-number l = record {
  found : AreFound l.site l.class l.by l.found.lists.items l.found.marks.items;
  more : HasMore l.initial.found.lists.items l.found.lists.items;
  led : (number : ℕ) (to : SiteList) → number < l.number → Leads l.site l.class l.by l.from number to → Contains l.found.lists.items to;
}
