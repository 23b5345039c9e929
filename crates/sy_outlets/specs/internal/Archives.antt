-- When what an archive was given is where it is to be.
use Rattle.std.specs.Prelude.{◌≡◌, ⊤, true, Option, None, Some}
use Rattle.sy_outlets.specs.FileWriters.{is_on_disk}
use Rattle.sy_outlets.specs.declared.devices.file_writer.FileWriter.{FileWriter}
use Rattle.sy_outlets.specs.declared.rotation.rotated.Lines.{Lines}
use Rattle.sy_outlets.specs.declared.rotation.rotated.Lines.TheVariants as lines

abbrev pub IsOnDisk : FileWriter → Type 0
IsOnDisk file = is_on_disk file.is_synced file.is_flushed file.file.noted.calls ≡ true

-- what lines were written to is flushed; where syncs are asked for, the disk has all that was written to it since it was opened
abbrev pub IsKept : Option Lines → Type 0
IsKept (Some (lines.Plain sink)) = IsOnDisk sink.writer
IsKept (Some (lines.Escaped sink)) = IsOnDisk sink.writer
IsKept None = ⊤
