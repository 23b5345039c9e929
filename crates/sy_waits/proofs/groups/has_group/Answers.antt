use Rattle.std.proofs.Common.{subst, sym}
use Rattle.std.specs.Prelude.{Contains}
use Rattle.std.proofs.lemmas.List.Elements.{Contains-get_or}
use Rattle.sy_waits.proofs.groups.has_group.Goals as goal

pub returns-then-is_alike : goal.returns-then-is_alike
returns-then-is_alike c = λ yes. (
  c.index-groups-place.result,
  subst (Contains c.args.groups.now) (sym c.index-groups-place.is)
      (Contains-get_or c.args.groups.now c.loop-place.place c.index-groups-place.result c.loop-place-test.true),
  c.is_alike.ensures c.if-is_alike.true,
)
