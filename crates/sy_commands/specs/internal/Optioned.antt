-- How a command over a site ends that has options.
use Rattle.sy_report.specs.declared.outcome.halt.Halt.{Halt}
use Rattle.sy_report.specs.declared.outcome.halt.Halt.TheVariants as halt

-- why a replay stopped that wrote to memory, where a write fails for want of memory alone
abbrev pub in_memory : Halt → Halt
in_memory halt.WriteFailed = halt.NoMemory
in_memory why = why
