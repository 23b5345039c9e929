use Rattle.std.proofs.Common.{◌∙◌, ◌<◌, ap, length, subst, sym}
use Rattle.std.specs.Prelude.{slice_set}
use Rattle.sy_replay.specs.Parts.{PartState, tags_at}
use Rattle.sy_replay.specs.internal.Parts.{items_of}
use Rattle.sy_replay.specs.internal.Takes.{without}
use Rattle.sy_replay.proofs.Made.{item_at, items_set}
use Rattle.sy_replay.proofs.Takes.{gone_from, items_there}
use Rattle.sy_replay.proofs.part.Part.unlink.Goals as goal

pub returns-clause-passed : goal.returns-clause-passed
returns-clause-passed c =
    let xs = c.self.inside.passed.items in
    let k = c.args.action in
    let x = c.index_mut.result.now in
    let there = subst (λ (p : PartState). c.args.place < length (tags_at p.passed k)) (sym c.self.view_is) c.requires in
    let is = item_at xs k x (items_there xs k c.args.place there) c.index_mut.ensures.value in
    let gone = gone_from c.remove-tag.result x c.remove-tag.new.self c.args.place c.remove-tag.ensures.variant
    (subst (λ ts. c.args.place < length ts) is there) c.remove-tag.ensures.items in
    rw (← c.self.view_is) (items_set xs k c.remove-tag.new.self
    ∙ ap (slice_set (items_of xs) k) (gone ∙ ap (λ ts. without ts c.args.place) (sym is)))
