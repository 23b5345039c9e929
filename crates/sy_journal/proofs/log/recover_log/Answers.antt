use Rattle.std.proofs.Common.{rules, ◌≡◌, ◌<◌, ◌-◌, ◌++◌, List, ℕ, length, take, drop, map, sym, ◌∙◌, ap, subst, arith, length-drop, length-take}
use Rattle.sy_journal.specs.Frames.{Reads, BeginsWithNoFrame, blank}
use Rattle.sy_journal.specs.Log.{IsAsBefore}
use Rattle.sy_journal.specs.internal.Reading.{BeginsWithNoFrameBehind, IsSplit}
use Rattle.sy_journal.proofs.Moments.{started, goes_on, joins}
use Rattle.sy_journal.proofs.Clearing.{as_before, split_shut, split_reads, split_cleared, cleared_shut}
use Rattle.sy_journal.proofs.log.recover_log.Goals as goal

pub returns-then-is_blank-clause-contents : goal.returns-then-is_blank-clause-contents
returns-then-is_blank-clause-contents g c =
    let file = g.S.Storage.seen c.args.file.now in
    let contents = map (λ v. v.items) c.in_ok-contents.contents.items in
    let end = c.in_ok-contents.end in
    let is : c.deref.result.now ≡ file = c.deref.ensures.value ∙ c.in_ok-bytes.ensures.bytes in
    let split : IsSplit file contents end = subst (λ (f : List ℕ). IsSplit f contents end) is c.in_ok-contents.ensures in
    split_reads file contents end split

pub returns-clause-contents : goal.returns-clause-contents
returns-clause-contents g c =
    let file = g.S.Storage.seen c.args.file.now in
    let contents = map (λ v. v.items) c.in_ok-contents.contents.items in
    let end = c.in_ok-contents.end in
    let is : c.deref.result.now ≡ file = c.deref.ensures.value ∙ c.in_ok-bytes.ensures.bytes in
    let split : IsSplit file contents end = subst (λ (f : List ℕ). IsSplit f contents end) is c.in_ok-contents.ensures in
    split_reads file contents end split

pub returns-in_err-clear-clause-any_moment : goal.returns-in_err-clear-clause-any_moment
returns-in_err-clear-clause-any_moment g c =
    let file = g.S.Storage.seen c.args.file.now in
    let contents = map (λ v. v.items) c.in_ok-contents.contents.items in
    let end = c.in_ok-contents.end in
    let is : c.deref.result.now ≡ file = c.deref.ensures.value ∙ c.in_ok-bytes.ensures.bytes in
    let split : IsSplit file contents end = subst (λ (f : List ℕ). IsSplit f contents end) is c.in_ok-contents.ensures in
    let P = IsAsBefore file in
    let s0 = started g.S.Storage.moment g.S.Storage.left_since c.args.file.now P (λ f left xs reads. subst (Reads xs) (sym (c.requires f (g.met.S.Storage.only_now c.args.file.now f left))) reads) in
    let s1 = goes_on g.S.Storage.moment g.S.Storage.left_since c.args.file.now c.args.file.now c.read.new.self P _ s0 c.read.ensures.time (λ f now xs reads. subst (Reads xs) (sym (c.requires f (c.read.ensures.crash f now))) reads) in
    joins g.S.Storage.moment g.S.Storage.left_since c.args.file.now c.read.new.self c.clear.new.file P _ s1 c.clear.ensures.any_moment (λ f behind. as_before file contents end split f (subst (λ (d : List ℕ). BeginsWithNoFrameBehind end d f) c.read.ensures.seen behind))

pub returns-clause-any_moment : goal.returns-clause-any_moment
returns-clause-any_moment g c =
    let file = g.S.Storage.seen c.args.file.now in
    let contents = map (λ v. v.items) c.in_ok-contents.contents.items in
    let end = c.in_ok-contents.end in
    let is : c.deref.result.now ≡ file = c.deref.ensures.value ∙ c.in_ok-bytes.ensures.bytes in
    let split : IsSplit file contents end = subst (λ (f : List ℕ). IsSplit f contents end) is c.in_ok-contents.ensures in
    let P = IsAsBefore file in
    let s0 = started g.S.Storage.moment g.S.Storage.left_since c.args.file.now P (λ f left xs reads. subst (Reads xs) (sym (c.requires f (g.met.S.Storage.only_now c.args.file.now f left))) reads) in
    let s1 = goes_on g.S.Storage.moment g.S.Storage.left_since c.args.file.now c.args.file.now c.read.new.self P _ s0 c.read.ensures.time (λ f now xs reads. subst (Reads xs) (sym (c.requires f (c.read.ensures.crash f now))) reads) in
    joins g.S.Storage.moment g.S.Storage.left_since c.args.file.now c.read.new.self c.clear.new.file P _ s1 c.clear.ensures.any_moment (λ f behind. as_before file contents end split f (subst (λ (d : List ℕ). BeginsWithNoFrameBehind end d f) c.read.ensures.seen behind))

pub clear-requires-clause-shut : goal.clear-requires-clause-shut
clear-requires-clause-shut g c =
    let file = g.S.Storage.seen c.args.file.now in
    let contents = map (λ v. v.items) c.in_ok-contents.contents.items in
    let end = c.in_ok-contents.end in
    let is : c.deref.result.now ≡ file = c.deref.ensures.value ∙ c.in_ok-bytes.ensures.bytes in
    let split : IsSplit file contents end = subst (λ (f : List ℕ). IsSplit f contents end) is c.in_ok-contents.ensures in
    subst (λ (f : List ℕ). BeginsWithNoFrame (drop end f)) (sym c.read.ensures.seen) (split_shut file contents end split)

pub clear-requires-clause-size : goal.clear-requires-clause-size
clear-requires-clause-size g c =
    let file = g.S.Storage.seen c.args.file.now in
    let end = c.in_ok-contents.end in
    let sizes : c.len-size.result ≡ length file = search rules in
    let same : length c.deref-2.result.now ≡ length file = ap length (c.deref-2.ensures.value ∙ c.in_ok-bytes.ensures.bytes) in
    let some = c.is_blank.ensures.some c.if-is_blank.false in
    let rest = drop end c.deref-2.result.now in
    let less : end < c.len-size.result = omega (arith, some, length-take (length c.deref-2.result.now - end) rest, length-drop end c.deref-2.result.now, same, sizes) in
    (sizes ∙ ap length (sym c.read.ensures.seen), less)

pub returns-clause-at_rest : goal.returns-clause-at_rest
returns-clause-at_rest g c =
    let file = g.S.Storage.seen c.args.file.now in
    let contents = map (λ v. v.items) c.in_ok-contents.contents.items in
    let end = c.in_ok-contents.end in
    let is : c.deref.result.now ≡ file = c.deref.ensures.value ∙ c.in_ok-bytes.ensures.bytes in
    let split : IsSplit file contents end = subst (λ (f : List ℕ). IsSplit f contents end) is c.in_ok-contents.ensures in
    let sizes : c.len-size.result ≡ length file = search rules in
    split_cleared file _ contents end c.len-size.result split sizes (c.in_ok-clear.ensures.cleared ∙ ap (λ (f : List ℕ). take end f ++ blank (c.len-size.result - end)) c.read.ensures.seen)

pub returns-clause-same : goal.returns-clause-same
returns-clause-same g c =
    let file = g.S.Storage.seen c.args.file.now in
    let contents = map (λ v. v.items) c.in_ok-contents.contents.items in
    let end = c.in_ok-contents.end in
    let is : c.deref.result.now ≡ file = c.deref.ensures.value ∙ c.in_ok-bytes.ensures.bytes in
    let split : IsSplit file contents end = subst (λ (f : List ℕ). IsSplit f contents end) is c.in_ok-contents.ensures in
    as_before file contents end split _ (cleared_shut end (c.len-size.result - end) file _ (c.in_ok-clear.ensures.cleared ∙ ap (λ (f : List ℕ). take end f ++ blank (c.len-size.result - end)) c.read.ensures.seen))
