-- The ports that a relay listens at.
use Rattle.sy_outlets.specs.declared.port.Port.{Port}
use Rattle.sy_inputs.specs.declared.listening.Listening.{Listening}

abbrev pub at_of : Listening → Port
at_of listening = listening.at
