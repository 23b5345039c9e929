use Rattle.std.proofs.Common.{rules, ◌≡◌, ◌<◌, ◌-◌, ◌++◌, [], ◌∷◌, List, ℕ, map, length, take, drop, sym, subst, ◌∙◌, ap, arith}
use Rattle.std.proofs.lemmas.List.{map-append, take_rest, drop_more}
use Rattle.sy_journal.specs.Packing.{Unpacked}
use Rattle.sy_journal.specs.internal.Reading.{AreFront}
use Rattle.sy_journal.proofs.Opening.{front_more}
use Rattle.sy_journal.proofs.segment.entries_of.Goals as goal

pub loop-rest-preserved : goal.loop-rest-preserved
loop-rest-preserved c =
    let rest = c.loop-rest.rest.now in
    let contents = map (λ v. v.items) c.args.contents.now in
    let done = map (λ v. v.items) c.loop-rest.entries.items in
    let batch = map (λ v. v.items) c.in-Some.batch.items in
    let long : 0 < length rest = omega (arith, c.in-len1-up.len_at_least) in
    let split : rest ≡ c.content-item.result ∷ drop 1 rest = drop_more rest 0 c.content-item.result long ∙ ap (λ x. x ∷ drop 1 rest) (sym c.content-item.is) in
    let front : AreFront contents done (c.content-item.result.items ∷ map (λ v. v.items) (drop 1 rest)) = subst (AreFront contents done) (ap (map (λ v. v.items)) split) c.loop-rest.invariant in
    let found : Unpacked c.deref.result.now batch [] = search rules in
    let u : Unpacked c.content-item.result.items batch [] = subst (λ (l : List ℕ). Unpacked l batch []) c.deref.ensures.value found in
    let all : map (λ v. v.items) c.append_all.new.entries.items ≡ done ++ batch = ap (map (λ v. v.items)) c.in_ok-append_all.ensures ∙ map-append (λ v. v.items) c.loop-rest.entries.items c.in-Some.batch.items in
    let more = front_more contents done (map (λ v. v.items) (drop 1 rest)) batch c.content-item.result.items front u in
    let kept : AreFront contents (done ++ batch) (map (λ v. v.items) (take (length rest - 1) (drop 1 rest))) = subst (λ r. AreFront contents (done ++ batch) (map (λ v. v.items) r)) (sym (take_rest rest 1)) more in
    subst (λ l. AreFront contents l (map (λ v. v.items) (take (length rest - 1) (drop 1 rest)))) (sym all) kept
