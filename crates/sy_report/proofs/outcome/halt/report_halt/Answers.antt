use Rattle.sy_report.proofs.outcome.halt.report_halt.Goals as goal

pub returns-in-Line : goal.returns-in-Line
returns-in-Line g c = rw c.in-Line.is c.report_in_line-in-Line.ensures

pub returns-in-Illegal : goal.returns-in-Illegal
returns-in-Illegal g c = rw c.in-Illegal.is c.report_in_line-in-Illegal.ensures

pub returns-in-TotalsFull : goal.returns-in-TotalsFull
returns-in-TotalsFull g c = rw c.in-TotalsFull.is c.report_in_line-in-TotalsFull.ensures

pub returns-in-NoMemory : goal.returns-in-NoMemory
returns-in-NoMemory g c = rw c.in-NoMemory.is c.report_text.ensures

pub returns-in-ReadFailed : goal.returns-in-ReadFailed
returns-in-ReadFailed g c = rw c.in-ReadFailed.is c.report_text-in-ReadFailed.ensures

pub returns-in-WriteFailed : goal.returns-in-WriteFailed
returns-in-WriteFailed g c = rw c.in-WriteFailed.is c.report_text-in-WriteFailed.ensures
