-- The numbers of a running relay's faults, and what they print.
use Rattle.std.specs.Prelude.{ℕ, List, codes}
use Rattle.sy_runtime.specs.declared.fault.RunFault.{RunFault}
use Rattle.sy_runtime.specs.declared.fault.RunFault.TheVariants.{Bind, Frame, Hands, NoMemory, Read, TotalsFull}

abbrev pub fault_number : RunFault → ℕ
fault_number Read = 71
fault_number Bind = 72
fault_number Hands = 73
fault_number NoMemory = 74
fault_number (Frame fault) = 75
fault_number TotalsFull = 76

-- the number and the name
abbrev pub fault_words : RunFault → List ℕ
fault_words Read = codes "71 Read"
fault_words Bind = codes "72 Bind"
fault_words Hands = codes "73 Hands"
fault_words NoMemory = codes "74 NoMemory"
fault_words (Frame fault) = codes "75 Frame"
fault_words TotalsFull = codes "76 TotalsFull"
