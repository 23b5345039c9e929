use Rattle.std.proofs.Common.{◌≡◌, ◌<◌, Some, arith, length, refl, set}
use Rattle.std.specs.Prelude.{slice_get}
use Rattle.std.proofs.lemmas.Option.{slice_get_read}
use Rattle.sy_checker.specs.internal.Inner.{AreAllDone, AreDone, AreNumbered, HasNumbers, KeepsDone, KeepsNumbers}
use Rattle.sy_flows.proofs.FoundInputs.{on_ok}
use Rattle.sy_checker.proofs.PushNumbers.{numbers_kept, numbers_of_input, numbers_push}
use Rattle.sy_flows.proofs.There.{relay_there}
use Rattle.sy_checker.proofs.site_numbers.number_input.Goals as goal

pub number_relay-requires-clause-done : goal.number_relay-requires-clause-done
number_relay-requires-clause-done c =
    let numbers = c.args.numbers.now.items in
    let low = relay_there c.args.site.now c.args.input c.requires.there in
    let many = c.requires.done.length_is in
    c.requires.done.each c.args.input.relay c.index_mut.result.now
    (slice_get_read numbers (length numbers) c.args.input.relay c.index_mut.result.now refl (omega (arith, low, many)) c.index_mut.ensures.value)

pub returns-clause-done : goal.returns-clause-done
returns-clause-done c =
    let numbers = c.args.numbers.now.items in
    let there = relay_there c.args.site.now c.args.input c.requires.there in
    let many = c.requires.done.length_is in
    let low : c.args.input.relay < length numbers = omega (arith, there, many) in
    let stands : slice_get numbers c.args.input.relay ≡ Some c.index_mut.result.now =
    slice_get_read numbers (length numbers) c.args.input.relay c.index_mut.result.now refl low c.index_mut.ensures.value in
    on_ok (AreDone c.args.site.now c.args.class c.args.input.relay c.number_relay.new.own.lists.items)
    (AreNumbered c.args.site.now c.args.class (set numbers c.args.input.relay c.number_relay.new.own))
    (numbers_push c.args.site.now c.args.class numbers c.args.input.relay c.index_mut.result.now c.number_relay.new.own stands low c.requires.done)
    c.number_relay.result c.number_relay.ensures.done

pub returns-clause-kept : goal.returns-clause-kept
returns-clause-kept c =
    let numbers = c.args.numbers.now.items in
    let there = relay_there c.args.site.now c.args.input c.requires.there in
    let many = c.requires.done.length_is in
    let low : c.args.input.relay < length numbers = omega (arith, there, many) in
    let stands : slice_get numbers c.args.input.relay ≡ Some c.index_mut.result.now =
    slice_get_read numbers (length numbers) c.args.input.relay c.index_mut.result.now refl low c.index_mut.ensures.value in
    on_ok (KeepsDone c.index_mut.result.now.lists.items c.number_relay.new.own.lists.items)
    (KeepsNumbers numbers (set numbers c.args.input.relay c.number_relay.new.own))
    (numbers_kept c.args.site.now c.args.class numbers c.args.input.relay c.index_mut.result.now c.number_relay.new.own stands low)
    c.number_relay.result c.number_relay.ensures.kept

pub returns-clause-posted : goal.returns-clause-posted
returns-clause-posted c =
    let numbers = c.args.numbers.now.items in
    let there = relay_there c.args.site.now c.args.input c.requires.there in
    let many = c.requires.done.length_is in
    let low : c.args.input.relay < length numbers = omega (arith, there, many) in
    let stands : slice_get numbers c.args.input.relay ≡ Some c.index_mut.result.now =
    slice_get_read numbers (length numbers) c.args.input.relay c.index_mut.result.now refl low c.index_mut.ensures.value in
    on_ok (AreAllDone c.args.site.now c.args.class c.args.input c.number_relay.new.own.lists.items)
    (HasNumbers c.args.site.now c.args.class (set numbers c.args.input.relay c.number_relay.new.own) c.args.input)
    (numbers_of_input c.args.site.now c.args.class numbers c.args.input.relay c.index_mut.result.now c.number_relay.new.own stands low c.args.input refl)
    c.number_relay.result c.number_relay.ensures.posted
