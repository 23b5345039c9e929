-- What a file in memory has.
use Rattle.std.specs.Prelude.{ℕ, List}
use Rattle.sy_journal.specs.declared.memory.MemoryFile.{MemoryFile}

-- its bytes
abbrev pub memory_bytes : MemoryFile → List ℕ
memory_bytes m = m.bytes.items
