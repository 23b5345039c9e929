use Rattle.std.proofs.Common.{◌≡◌, ◌<◌, ◌-◌, [], ◌∷◌, length, ◌∙◌, arith}
use Rattle.sy_journal.specs.Storage.{written_at}
use Rattle.sy_journal.specs.Frames.{blank}
use Rattle.sy_journal.specs.internal.Reading.{BeginsWithNoFrameBehind}
use Rattle.sy_journal.proofs.Moments.{started, goes_on}
use Rattle.sy_journal.proofs.Clearing.{first_crash, second_crash, clear_done, room_for, shut_still}
use Rattle.sy_journal.proofs.log.clear.Goals as goal

pub returns-in_err-zeros-clause-any_moment : goal.returns-in_err-zeros-clause-any_moment
returns-in_err-zeros-clause-any_moment g c =
    let file = g.S.Storage.seen c.args.file.now in
    let P = BeginsWithNoFrameBehind c.args.end file in
    let less : c.args.end < length file = omega (arith, c.requires.size.0, c.requires.size.1) in
    let s0 = started g.S.Storage.moment g.S.Storage.left_since c.args.file.now P (λ f left. shut_still c.args.end file f (c.requires.only f (g.met.S.Storage.only_now c.args.file.now f left)) c.requires.shut) in
    s0

pub returns-in_err-write_at-clause-any_moment : goal.returns-in_err-write_at-clause-any_moment
returns-in_err-write_at-clause-any_moment g c =
    let file = g.S.Storage.seen c.args.file.now in
    let P = BeginsWithNoFrameBehind c.args.end file in
    let less : c.args.end < length file = omega (arith, c.requires.size.0, c.requires.size.1) in
    let s0 = started g.S.Storage.moment g.S.Storage.left_since c.args.file.now P (λ f left. shut_still c.args.end file f (c.requires.only f (g.met.S.Storage.only_now c.args.file.now f left)) c.requires.shut) in
    let first = first_crash file c.args.end _ _ c.requires.only less c.requires.shut c.write_at.ensures.crash in
    let s1 = goes_on g.S.Storage.moment g.S.Storage.left_since c.args.file.now c.args.file.now c.write_at.new.self P _ s0 c.write_at.ensures.time first in
    s1

pub returns-in_err-sync-clause-any_moment : goal.returns-in_err-sync-clause-any_moment
returns-in_err-sync-clause-any_moment g c =
    let file = g.S.Storage.seen c.args.file.now in
    let P = BeginsWithNoFrameBehind c.args.end file in
    let less : c.args.end < length file = omega (arith, c.requires.size.0, c.requires.size.1) in
    let s0 = started g.S.Storage.moment g.S.Storage.left_since c.args.file.now P (λ f left. shut_still c.args.end file f (c.requires.only f (g.met.S.Storage.only_now c.args.file.now f left)) c.requires.shut) in
    let first = first_crash file c.args.end _ _ c.requires.only less c.requires.shut c.write_at.ensures.crash in
    let s1 = goes_on g.S.Storage.moment g.S.Storage.left_since c.args.file.now c.args.file.now c.write_at.new.self P _ s0 c.write_at.ensures.time first in
    let s2 = goes_on g.S.Storage.moment g.S.Storage.left_since c.args.file.now c.write_at.new.self c.sync.new.self P _ s1 c.sync.ensures.time (λ f now. first f (c.sync.ensures.crash f now)) in
    s2

pub returns-in_err-write_at-2-clause-any_moment : goal.returns-in_err-write_at-2-clause-any_moment
returns-in_err-write_at-2-clause-any_moment g c =
    let file = g.S.Storage.seen c.args.file.now in
    let P = BeginsWithNoFrameBehind c.args.end file in
    let less : c.args.end < length file = omega (arith, c.requires.size.0, c.requires.size.1) in
    let s0 = started g.S.Storage.moment g.S.Storage.left_since c.args.file.now P (λ f left. shut_still c.args.end file f (c.requires.only f (g.met.S.Storage.only_now c.args.file.now f left)) c.requires.shut) in
    let first = first_crash file c.args.end _ _ c.requires.only less c.requires.shut c.write_at.ensures.crash in
    let s1 = goes_on g.S.Storage.moment g.S.Storage.left_since c.args.file.now c.args.file.now c.write_at.new.self P _ s0 c.write_at.ensures.time first in
    let s2 = goes_on g.S.Storage.moment g.S.Storage.left_since c.args.file.now c.write_at.new.self c.sync.new.self P _ s1 c.sync.ensures.time (λ f now. first f (c.sync.ensures.crash f now)) in
    let mid : g.S.Storage.seen c.write_at.new.self ≡ written_at c.args.end (0 ∷ []) file = c.in_ok-write_at.ensures.written in
    let zeros : c.deref.result.now ≡ blank (c.args.size - c.args.end) = c.deref.ensures.value ∙ c.in_ok-zeros.ensures in
    let some : 0 < c.args.size - c.args.end = omega (arith, c.requires.size.1) in
    let second = second_crash file _ _ c.args.end (c.args.size - c.args.end) _ _ zeros some mid c.in_ok-sync.ensures.durable less c.write_at-2.ensures.crash in
    let s3 = goes_on g.S.Storage.moment g.S.Storage.left_since c.args.file.now c.sync.new.self c.write_at-2.new.self P _ s2 c.write_at-2.ensures.time second in
    s3

pub returns-in_err-sync-2-clause-any_moment : goal.returns-in_err-sync-2-clause-any_moment
returns-in_err-sync-2-clause-any_moment g c =
    let file = g.S.Storage.seen c.args.file.now in
    let P = BeginsWithNoFrameBehind c.args.end file in
    let less : c.args.end < length file = omega (arith, c.requires.size.0, c.requires.size.1) in
    let s0 = started g.S.Storage.moment g.S.Storage.left_since c.args.file.now P (λ f left. shut_still c.args.end file f (c.requires.only f (g.met.S.Storage.only_now c.args.file.now f left)) c.requires.shut) in
    let first = first_crash file c.args.end _ _ c.requires.only less c.requires.shut c.write_at.ensures.crash in
    let s1 = goes_on g.S.Storage.moment g.S.Storage.left_since c.args.file.now c.args.file.now c.write_at.new.self P _ s0 c.write_at.ensures.time first in
    let s2 = goes_on g.S.Storage.moment g.S.Storage.left_since c.args.file.now c.write_at.new.self c.sync.new.self P _ s1 c.sync.ensures.time (λ f now. first f (c.sync.ensures.crash f now)) in
    let mid : g.S.Storage.seen c.write_at.new.self ≡ written_at c.args.end (0 ∷ []) file = c.in_ok-write_at.ensures.written in
    let zeros : c.deref.result.now ≡ blank (c.args.size - c.args.end) = c.deref.ensures.value ∙ c.in_ok-zeros.ensures in
    let some : 0 < c.args.size - c.args.end = omega (arith, c.requires.size.1) in
    let second = second_crash file _ _ c.args.end (c.args.size - c.args.end) _ _ zeros some mid c.in_ok-sync.ensures.durable less c.write_at-2.ensures.crash in
    let s3 = goes_on g.S.Storage.moment g.S.Storage.left_since c.args.file.now c.sync.new.self c.write_at-2.new.self P _ s2 c.write_at-2.ensures.time second in
    let s4 = goes_on g.S.Storage.moment g.S.Storage.left_since c.args.file.now c.write_at-2.new.self c.sync-2.new.self P _ s3 c.sync-2.ensures.time (λ f now. second f (c.sync-2.ensures.crash f now)) in
    s4

pub returns-clause-any_moment : goal.returns-clause-any_moment
returns-clause-any_moment g c =
    let file = g.S.Storage.seen c.args.file.now in
    let P = BeginsWithNoFrameBehind c.args.end file in
    let less : c.args.end < length file = omega (arith, c.requires.size.0, c.requires.size.1) in
    let s0 = started g.S.Storage.moment g.S.Storage.left_since c.args.file.now P (λ f left. shut_still c.args.end file f (c.requires.only f (g.met.S.Storage.only_now c.args.file.now f left)) c.requires.shut) in
    let first = first_crash file c.args.end _ _ c.requires.only less c.requires.shut c.write_at.ensures.crash in
    let s1 = goes_on g.S.Storage.moment g.S.Storage.left_since c.args.file.now c.args.file.now c.write_at.new.self P _ s0 c.write_at.ensures.time first in
    let s2 = goes_on g.S.Storage.moment g.S.Storage.left_since c.args.file.now c.write_at.new.self c.sync.new.self P _ s1 c.sync.ensures.time (λ f now. first f (c.sync.ensures.crash f now)) in
    let mid : g.S.Storage.seen c.write_at.new.self ≡ written_at c.args.end (0 ∷ []) file = c.in_ok-write_at.ensures.written in
    let zeros : c.deref.result.now ≡ blank (c.args.size - c.args.end) = c.deref.ensures.value ∙ c.in_ok-zeros.ensures in
    let some : 0 < c.args.size - c.args.end = omega (arith, c.requires.size.1) in
    let second = second_crash file _ _ c.args.end (c.args.size - c.args.end) _ _ zeros some mid c.in_ok-sync.ensures.durable less c.write_at-2.ensures.crash in
    let s3 = goes_on g.S.Storage.moment g.S.Storage.left_since c.args.file.now c.sync.new.self c.write_at-2.new.self P _ s2 c.write_at-2.ensures.time second in
    let s4 = goes_on g.S.Storage.moment g.S.Storage.left_since c.args.file.now c.write_at-2.new.self c.sync-2.new.self P _ s3 c.sync-2.ensures.time (λ f now. second f (c.sync-2.ensures.crash f now)) in
    s4

pub write_at-requires-2 : goal.write_at-requires-2
write_at-requires-2 g c =
    let file = g.S.Storage.seen c.args.file.now in
    let mid : g.S.Storage.seen c.sync.new.self ≡ written_at c.args.end (0 ∷ []) file = c.sync.ensures.seen ∙ c.in_ok-write_at.ensures.written in
    room_for file _ _ c.args.end c.args.size (c.deref.ensures.value ∙ c.in_ok-zeros.ensures) mid c.requires.size.0 c.requires.size.1

pub returns-clause-cleared : goal.returns-clause-cleared
returns-clause-cleared g c =
    let file = g.S.Storage.seen c.args.file.now in
    let mid : g.S.Storage.seen c.sync.new.self ≡ written_at c.args.end (0 ∷ []) file = c.sync.ensures.seen ∙ c.in_ok-write_at.ensures.written in
    clear_done file _ _ _ c.args.end c.args.size (c.deref.ensures.value ∙ c.in_ok-zeros.ensures) mid c.requires.size.0 c.requires.size.1 (c.sync-2.ensures.seen ∙ c.in_ok-write_at-2.ensures.written)
