-- Flags of copies, and which losses are of flagged ones.
use Rattle.std.specs.Prelude.{Bool, false, Option, Some, None}
use Rattle.sy_site.specs.Sites.{Site}
use Rattle.sy_site.specs.machine.States.{Copy, Loss, is_flagged_loss}

-- whether a loss is of a flagged copy, or of a spare occurrence; of a copy that wasn't made none is
abbrev pub is_flagged_of : Site → Loss → Option Copy → Bool
is_flagged_of site loss None = false
is_flagged_of site loss (Some copy) = is_flagged_loss site loss copy
