-- When what was written counts as flushed.
use Rattle.std.specs.Prelude.{Bool, if◌then◌else◌, List}
use Rattle.sy_calls.specs.Calls.{Call, is_synced}

-- a flush came after the last write; where syncs are asked for, nothing was written since the last sync that answered that the disk has all
abbrev pub is_on_disk : (syncs is_flushed : Bool) → List Call → Bool
is_on_disk syncs is_flushed calls = if syncs then is_synced calls else is_flushed
