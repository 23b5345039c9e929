use Rattle.std.proofs.Common.{subst, sym}
use Rattle.std.specs.Prelude.{Contains}
use Rattle.sy_checker.proofs.kinds.groups.push_found.Goals as goal

pub begin-requires : goal.begin-requires
begin-requires c = record {
  new = λ g there. c.in-None.ensures.none g (subst (λ l. Contains l g) (sym c.as_slice.ensures.value) there);
}
