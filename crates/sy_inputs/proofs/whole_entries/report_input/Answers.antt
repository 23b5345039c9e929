use Rattle.std.proofs.Common.{◌≡◌}
use Rattle.std.specs.Fmt.{decimal}
use Rattle.sy_inputs.proofs.whole_entries.report_input.Goals as goal

pub returns : goal.returns
returns g c =
    let value = c.as_bytes-port.ensures.value in
    let text = c.format.ensures.text in
    let digits : decimal c.args.port ≡ c.as_bytes-port.result.now = cc in
    rw digits c.report_texts.ensures
