use Rattle.std.proofs.Common.{length, refl, sym, ◌∙◌}
use Rattle.std.proofs.lemmas.Option.{slice_get_read}
use Rattle.std.proofs.lemmas.Bool.{false≢true}
use Rattle.sy_checker.proofs.Grouping.{none_at_all, none_more}
use Rattle.sy_checker.proofs.kinds.groups.first_of.Goals as goal

pub returns-then-is_of-clause-some : goal.returns-then-is_of-clause-some
returns-then-is_of-clause-some c = record {
  group = c.index-groups-place.result;
  stands = slice_get_read c.args.groups.now (length c.args.groups.now) c.loop-place.place c.index-groups-place.result refl c.loop-place-test.true
      c.index-groups-place.is;
  is_of = c.is_of.ensures.0 c.if-is_of.true;
}

pub loop-place-preserved : goal.loop-place-preserved
loop-place-preserved c =
    none_more c.args.groups.now c.loop-place.place c.index-groups-place.result c.args.input c.args.kind
    (slice_get_read c.args.groups.now (length c.args.groups.now) c.loop-place.place c.index-groups-place.result refl c.loop-place-test.true
    c.index-groups-place.is)
    (λ same. false≢true (sym c.if-is_of.false ∙ c.is_of.ensures.1 same)) c.loop-place.invariant

pub returns-clause-none : goal.returns-clause-none
returns-clause-none c = none_at_all c.args.groups.now c.loop-place.place c.args.input c.args.kind c.loop-place-test.false c.loop-place.invariant
