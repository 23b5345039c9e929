-- A site flows where there are numbers of queues, and for each class of lists, that fall wherever messages may go on.
use Rattle.std.proofs.Common.{ℕ, ◌<◌}
use Rattle.sy_wire.specs.declared.class.Class.{Class}
use Rattle.sy_rules.specs.declared.lists.occurrence.Occurrence.TheVariants as occurrence
use Rattle.sy_site.specs.Sites.{Site}
use Rattle.sy_flowing.specs.Flowing.{AreHeights, AreListsLeft, IsFlowing, SiteList, SiteQueue, by_forward, by_post, forwards, posts}
use Rattle.sy_waits.specs.internal.Fits.{AllHaveLeft, HaveHeights, height_in, left_in}

module _ (site : Site) (heights : HaveHeights site) (lefts : AllHaveLeft site) where
  height : SiteQueue → ℕ
  height = height_in heights.0

  left : Class → SiteList → ℕ
  left class = left_in (lefts class).0

  falls : AreHeights site height
  unfolding height
  falls from to (posts class relay list number inner follow does holds) = heights.1 class relay list number (occurrence.Post inner) follow does holds
  falls from to (forwards class relay list number action input follow does leads) =
      heights.1 class relay list number (occurrence.Run action) follow does input leads

  ends : AreListsLeft site left
  unfolding left
  ends class from to (by_post relay list number inner follow does) = (lefts class).1 relay list number (occurrence.Post inner) follow does tt
  ends class from to (by_forward relay list number action input follow does leads) =
      (lefts class).1 relay list number (occurrence.Run action) follow does input leads

  pub flows_so : IsFlowing site
  flows_so = record { height = height; falls = falls; left = left; ends = ends }
