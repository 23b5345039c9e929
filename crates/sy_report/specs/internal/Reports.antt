-- Both streams of the program as one value.
use Rattle.sy_report.specs.Reports.{SinkState, Streams}

abbrev pub streams : SinkState → SinkState → Streams
streams output errors = record { output = output; errors = errors }
