use Rattle.std.proofs.Common.{◌≡◌, ◌++◌, [], ◌∷◌, List, ℕ, map, sym, subst, ◌∙◌, ap, rules}
use Rattle.std.proofs.lemmas.List.{map-append}
use Rattle.sy_journal.specs.internal.Reading.{BeginsWithFrames, BeginsWithFrame}
use Rattle.sy_journal.proofs.Fronts.{sofar_more}
use Rattle.sy_journal.proofs.reading.read_frames.Goals as goal

pub loop-content-preserved : goal.loop-content-preserved
loop-content-preserved c =
    let copied : c.in_ok-to_vec.field-0.items ≡ c.in-Some.content.now = search rules in
    let with_batch : c.push.new.self.items ≡ c.loop-content.contents.items ++ c.in_ok-to_vec.field-0 ∷ [] = search rules in
    let front : BeginsWithFrame c.loop-content.rest.now c.in-Some.content.now c.in-Some.after.now = search rules in
    let names = ap (map (λ v. v.items)) with_batch ∙ map-append (λ v. v.items) c.loop-content.contents.items (c.in_ok-to_vec.field-0 ∷ []) ∙ ap (λ (x : List ℕ). map (λ v. v.items) c.loop-content.contents.items ++ x ∷ []) copied in
    subst (λ l. BeginsWithFrames c.args.bytes.now l c.in-Some.after.now) (sym names) (sofar_more c.args.bytes.now c.loop-content.rest.now c.in-Some.content.now c.in-Some.after.now _ c.loop-content.invariant front)
