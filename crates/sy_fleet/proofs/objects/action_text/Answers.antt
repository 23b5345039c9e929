use Rattle.std.proofs.Common.{refl}
use Rattle.sy_fleet.proofs.objects.action_text.Goals as goal

pub returns : goal.returns
returns c = rw (
  c.in_ok-extend_from_slice-7.ensures.items,
  c.in_ok-extend_from_slice-6.ensures.items,
  c.in_ok-extend_from_slice-5.ensures.items,
  c.in_ok-extend_from_slice-4.ensures.items,
  c.retries_of.ensures,
  c.in_ok-extend_from_slice-3.ensures.items,
  c.in_ok-append_number-2.ensures,
  c.in_ok-extend_from_slice-2.ensures.items,
  c.in_ok-append_number.ensures,
  c.in_ok-extend_from_slice.ensures.items,
  c.new-text.ensures.items,
) refl
