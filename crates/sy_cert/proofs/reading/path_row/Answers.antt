use Rattle.sy_cert.specs.Faults.{HasShape}
use Rattle.sy_cert.proofs.RowLines.{path_unwritten, way_unread}
use Rattle.sy_cert.proofs.reading.path_row.Goals as goal

pub returns-in-Err-clause-err : goal.returns-in-Err-clause-err
returns-in-Err-clause-err c version =
    let line = c.in-Some.line in
    way_unread version _ line.relay.now line.port.now line.archive_relay.now line.action.now _ c.in-Some.ensures.some c.in-Err.code c.in-Err.ensures.err

pub returns-in-None-port-clause-err : goal.returns-in-None-port-clause-err
returns-in-None-port-clause-err c version =
    let line = c.in-Some.line in (
      HasShape.path_line line.relay.now line.port.now line.archive_relay.now line.action.now _ c.in-Some.ensures.some,
      path_unwritten version _ line.relay.now line.port.now line.archive_relay.now line.action.now _ c.in-Some.ensures.some
          (λ n ns is are e f. c.in-None-port.ensures.none n is e),
    )
