use Rattle.std.proofs.Common.{◌∙◌, ◌++◌, subst, sym, take, map, arith}
use Rattle.std.proofs.lemmas.Result.{err_from_is_err_and}
use Rattle.sy_rules.specs.Faults.{IsAnswered, in_text}
use Rattle.sy_rules.specs.items.ItemFaults.{object_faults}
use Rattle.sy_rules.specs.items.ItemViews.{item, placed, span}
use Rattle.sy_rules.specs.internal.Seen.{Shows}
use Rattle.sy_rules.proofs.lemmas.check.ScriptLaws.{left_behind, next_answered, same_faults, shows_more, stands}
use Rattle.sy_rules.proofs.check.script.check_each.Goals as goal

pub returns-in_err-check_placed-clause-err : goal.returns-in_err-check_placed-clause-err
returns-in_err-check_placed-clause-err c =
    let all = map item c.args.items.now in
    let k = c.loop-next.next-index in
    let code = c.next-item.result in
    let x = item code in
    let here = stands placed c.args.items.now k code (omega arith) c.next-item.is in
    let same = same_faults all (take k all) c.args.whole.now c.loop-next.seen x c.requires c.loop-next.invariant.shows in
    let p = err_from_is_err_and c.from_residual.result c.from_residual.ensures.1 in
    rw (p.1, p.2) (next_answered all (take k all) (map placed c.args.items.now) k (placed code) _ _ here c.loop-next.invariant.left
    (subst (λ fs. IsAnswered (map (in_text (span code)) (object_faults x ++ fs)) c.in_err-check_placed.field-0.0) same c.in_err-check_placed.ensures.err))

pub loop-next-preserved : goal.loop-next-preserved
loop-next-preserved c =
    let all = map item c.args.items.now in
    let k = c.loop-next.next-index in
    let code = c.next-item.result in
    let x = item code in
    let here = stands placed c.args.items.now k code (omega arith) c.next-item.is in
    let there = stands item c.args.items.now k code (omega arith) c.next-item.is in
    let same = same_faults all (take k all) c.args.whole.now c.loop-next.seen x c.requires c.loop-next.invariant.shows in
    record {
      shows = subst (λ before. Shows before c.check_placed.new.seen) (sym there.taken) (shows_more (take k all) x c.loop-next.seen c.check_placed.new.seen c.loop-next.invariant.shows c.in_ok-check_placed.ensures.adds);
      left = left_behind all (map placed c.args.items.now) k (placed code) _ there here c.loop-next.invariant.left c.in_ok-check_placed.ensures.own (sym same ∙ c.in_ok-check_placed.ensures.among);
    }
