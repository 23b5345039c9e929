use Rattle.std.proofs.Common.{subst, sym}
use Rattle.sy_waits.specs.internal.Groups.{AreGroups}
use Rattle.sy_waits.proofs.Flowing.{flows_so}
use Rattle.sy_waits.proofs.waits.waits_of.Goals as goal

pub jam_of-requires : goal.jam_of-requires
jam_of-requires c = record { groups = subst (AreGroups c.args.site.now) (sym c.as_slice-2.ensures.value) c.in_ok-groups.ensures }

pub round_of-requires : goal.round_of-requires
round_of-requires c = record { groups = subst (AreGroups c.args.site.now) (sym c.as_slice-4.ensures.value) c.in_ok-groups.ensures }

pub returns : goal.returns
returns c = λ jam round. flows_so c.args.site.now (c.in_ok-jam.ensures jam) (c.in_ok-round.ensures round)
