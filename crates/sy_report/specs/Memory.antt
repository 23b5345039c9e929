-- Files in memory (this profile's own).
use Rattle.std.specs.Prelude.{ℕ, List, Option, map}
use Rattle.sy_site.specs.texts.Describes.{file, File, file_named}
use Rattle.sy_report.specs.declared.reading.memory.MemoryFiles.{MemoryFiles}

-- the files that are given
abbrev pub given : MemoryFiles → List File
given m = map (λ f. file f.0.now f.1.now) m.files.now

-- the bytes of the first of a name
abbrev pub bytes_in : MemoryFiles → List ℕ → Option (List ℕ)
bytes_in m name = file_named (given m) name
