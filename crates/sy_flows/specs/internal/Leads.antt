-- What the parts of a search from list to list say.
use Rattle.std.specs.Prelude.{◌≡◌, ℕ, List, ◌++◌, Some}
use Rattle.sy_rules.specs.declared.lists.occurrence.Occurrence.TheVariants as occurrence
use Rattle.sy_site.specs.declared.site.SiteAction.{SiteAction}
use Rattle.sy_site.specs.Sites.{Site}
use Rattle.sy_site.specs.machine.Reach.{occurrence_at}
use Rattle.sy_flows.specs.declared.lists.InnerList.{InnerList}

-- ---- an archive that is written

-- the occurrence runs this action
pub record Writes (site : Site) (at : InnerList) (number : ℕ) (archive : SiteAction) : Type 0 where
  pub action : ℕ
  pub runs : occurrence_at site at.relay at.list number ≡ Some (occurrence.Run action)
  pub is : record { relay = at.relay; action = action } ≡ archive

-- ---- lists that are found

-- More are put behind them.
pub record HasMore (old new : List InnerList) : Type 0 where
  pub more : List InnerList
  pub whole : new ≡ old ++ more
