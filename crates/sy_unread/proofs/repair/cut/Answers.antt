use Rattle.std.proofs.Common.{◌≡◌, ◌++◌, ◌∙◌, length, sym, ap}
use Rattle.sy_wire.specs.Frames.{MAX_FRAME}
use Rattle.sy_wire.proofs.Options.{if_none_then}
use Rattle.sy_unread.proofs.Classes.{msg_behind, pri_before}
use Rattle.sy_unread.proofs.Repairing.{cut_is_not_whole, too_many}
use Rattle.sy_unread.proofs.repair.cut.Goals as goal

pub returns-clause-none : goal.returns-clause-none
returns-clause-none c =
    let same : c.extend_from_slice.new.self.items ≡ c.args.bytes.now = c.in_ok-extend_from_slice.ensures.items ∙ ap (λ x. x ++ c.args.bytes.now) c.new-text.ensures.items in
    if_none_then c.checked.result c.checked.ensures.none
    (λ never said is raw. too_many MAX_FRAME (length c.args.bytes.now)
    (λ few.
    let behind = msg_behind said is in
    let before = pri_before said is in
    never said behind.0 is (raw ∙ sym same) (rw same few) (sym raw ∙ behind.1) (λ how. absurd (cut_is_not_whole how))
    (sym (c.in_ok-class.ensures.class is.pri before.0 _ is.is_pri (sym raw ∙ before.1)))))
