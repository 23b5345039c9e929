use Rattle.std.proofs.Common.{length, refl}
use Rattle.std.proofs.lemmas.Option.{slice_get_read}
use Rattle.sy_checker.specs.internal.Inner.{number_at}
use Rattle.sy_checker.proofs.RowsMade.{made_right, made_step}
use Rattle.sy_checker.proofs.making.rows_for.Goals as goal

pub loop-is-preserved : goal.loop-is-preserved
loop-is-preserved c =
    made_step c.args.site.now c.args.class c.args.part.now c.args.ranks.now (number_at c.args.numbers.now) c.loop-is.rows.items c.push_made.new.rows.items c.loop-is.is-index
    c.is-item.result c.in_ok-row.row c.in_ok-push_made.ensures
    (slice_get_read c.args.part.now (length c.args.part.now) c.loop-is.is-index c.is-item.result refl c.loop-is-test.true c.is-item.is)
    c.in_ok-row.ensures.ok c.loop-is.invariant

pub returns-clause-ok : goal.returns-clause-ok
returns-clause-ok c =
    made_right c.args.site.now c.args.class c.args.part.now c.args.ranks.now (number_at c.args.numbers.now) c.loop-is.rows.items c.loop-is.is-index c.loop-is-test.false
    c.loop-is.invariant.0 c.requires.wanted c.requires.ranks c.requires.numbers
