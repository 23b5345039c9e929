-- The numbers of a board's faults, and what they print.
use Rattle.std.specs.Prelude.{ℕ, List, codes}
use Rattle.sy_board.specs.declared.fault.BoardFault.{BoardFault}
use Rattle.sy_board.specs.declared.fault.BoardFault.TheVariants.{HandEmpty, HandTaken, NoJob, NotExpired, SlotBusy, TotalsFull, WrongReceipt}

abbrev pub fault_number : BoardFault → ℕ
fault_number HandTaken = 81
fault_number HandEmpty = 82
fault_number SlotBusy = 83
fault_number NoJob = 84
fault_number WrongReceipt = 85
fault_number TotalsFull = 86
fault_number NotExpired = 87

-- the number and the name
abbrev pub fault_words : BoardFault → List ℕ
fault_words HandTaken = codes "81 HandTaken"
fault_words HandEmpty = codes "82 HandEmpty"
fault_words SlotBusy = codes "83 SlotBusy"
fault_words NoJob = codes "84 NoJob"
fault_words WrongReceipt = codes "85 WrongReceipt"
fault_words TotalsFull = codes "86 TotalsFull"
fault_words NotExpired = codes "87 NotExpired"
