use Rattle.std.proofs.Common.{rules, ◌≡◌, ◌<◌, ◌++◌, [], ◌∷◌, List, ℕ, map, length, sym, subst, ◌∙◌, ap}
use Rattle.std.proofs.lemmas.List.{map-append}
use Rattle.sy_journal.specs.Packing.{Unpacked}
use Rattle.sy_journal.specs.internal.Reading.{BeginsWithEntry, BeginsWithNoEntry}
use Rattle.sy_journal.proofs.Leading.{unpacked_more, not_packed}
use Rattle.sy_journal.proofs.unpacking.unpack.Goals as goal

pub returns-in_default-clause-none : goal.returns-in_default-clause-none
returns-in_default-clause-none c =
    let none : BeginsWithNoEntry c.loop-rest.rest.now = c.in_default.ensures.none in
    let some : 0 < length c.loop-rest.rest.now = search rules in
    not_packed c.args.content.now _ c.loop-rest.rest.now c.loop-rest.invariant some none

pub loop-rest-preserved : goal.loop-rest-preserved
loop-rest-preserved c =
    let copied : c.in_ok-to_vec.field-0.items ≡ c.in-Some.entry.now = search rules in
    let with_batch : c.push.new.self.items ≡ c.loop-rest.entries.items ++ c.in_ok-to_vec.field-0 ∷ [] = search rules in
    let lead : BeginsWithEntry c.loop-rest.rest.now c.in-Some.entry.now c.in-Some.after.now = search rules in
    let names = ap (map (λ v. v.items)) with_batch ∙ map-append (λ v. v.items) c.loop-rest.entries.items (c.in_ok-to_vec.field-0 ∷ []) ∙ ap (λ (x : List ℕ). map (λ v. v.items) c.loop-rest.entries.items ++ x ∷ []) copied in
    subst (λ l. Unpacked c.args.content.now l c.in-Some.after.now) (sym names) (unpacked_more c.args.content.now _ c.loop-rest.rest.now c.in-Some.entry.now c.in-Some.after.now c.loop-rest.invariant lead)
