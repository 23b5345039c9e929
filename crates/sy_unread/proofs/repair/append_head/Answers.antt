use Rattle.sy_unread.proofs.HeadTexts.{head_written}
use Rattle.sy_unread.proofs.repair.append_head.Goals as goal

pub returns : goal.returns
returns c =
    head_written _ _ _ _ _ _ _ _ _ _ _ _ _ _ _
    c.in_ok-extend_from_slice.ensures.items c.in_ok-extend_from_slice-2.ensures.items c.in_ok-extend_from_slice-3.ensures.items c.in_ok-extend_from_slice-4.ensures.items
    c.in_ok-append_field.ensures c.in_ok-append_field-2.ensures c.in_ok-append_field-3.ensures c.in_ok-append_field-4.ensures
