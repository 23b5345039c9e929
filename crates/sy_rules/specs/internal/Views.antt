-- What the code finds wrong with parameters, as a fault.
use Rattle.std.specs.Prelude.{Option, Some, None}
use Rattle.sy_rules.specs.declared.parameters.flaws.Flaw.{Flaw}
use Rattle.sy_rules.specs.declared.items.fault.ItemFault.{ItemFault}

abbrev pub flaw : Option Flaw → Option ItemFault
flaw None = None
flaw (Some f) = Some (record { code = f.code; word = f.word.now; place = f.place })
