-- What the threads of a relay's inputs share may cross threads.
use denote.RattleType.{RattleType}
use denote.Param.Send.{IsSend, IsSync, recorded_send, sendable, struct_send}
use denote.Struct.Declared.{shape}
use Rattle.std.proofs.Crossing.{crosses}
use Rattle.sy_runtime.specs.contracts.between.Connection as Connection
use Rattle.sy_runtime.specs.contracts.reader.Reader as Reader
use Rattle.sy_inputs.specs.contracts.accepting.Acceptor as Acceptor
use Rattle.sy_inputs.specs.contracts.connections.Connections as Connections
use Rattle.sy_inputs.specs.contracts.incoming.Incoming as Incoming
use Rattle.sy_inputs.specs.contracts.pool.Inside as Inside
use Rattle.sy_inputs.specs.contracts.pool.Pool as Pool
use Rattle.sy_inputs.specs.contracts.pool.Waiter as Waiter
use Rattle.sy_inputs.specs.contracts.reading.Shared as Shared
use Rattle.sy_inputs.specs.contracts.reading.Starting as Starting
use Rattle.sy_inputs.specs.contracts.table.Row as Row
use Rattle.sy_inputs.specs.contracts.table.Table as Table
use Rattle.sy_inputs.specs.contracts.sessions.Sessions as Sessions
use Rattle.sy_inputs.specs.contracts.serving.Serving as Serving
use Rattle.sy_log.proofs.Sent.{log_send, log_sync, printer_send, printing_send, printing_sync}
use Rattle.sy_watched.proofs.Sent.{watch_send, watch_sync}
use Rattle.sy_outlets.proofs.Sent.{item_send, node_send, rest_send, unkept_send, unread_file_send, unread_file_sync, untaken_send}

connections_send : IsSend Connections.the_row
connections_send = search (node_send, item_send, untaken_send, rest_send, sendable, crosses) depth 60 fits 20000

reader_send : IsSend Reader.the_row
reader_send = search (node_send, item_send, sendable, crosses) depth 60 fits 20000

connection_send : IsSend Connection.the_row
connection_send = search (sendable, crosses) depth 40 fits 5000

incoming_send : IsSend Incoming.the_row
incoming_send = search (connection_send, unkept_send, sendable, crosses) depth 60 fits 20000

row_send : IsSend Row.the_row
row_send = search (incoming_send, sendable, crosses) depth 60 fits 20000

table_send : IsSend Table.the_row
table_send = search (row_send, sendable, crosses) depth 60 fits 20000

inside_send : IsSend Inside.the_row
inside_send = search (table_send, sendable, crosses) depth 60 fits 20000

waiter_send : IsSend Waiter.the_row
waiter_send = search (sendable, crosses) depth 60 fits 20000

pool_send : IsSend Pool.the_row
pool_send = search (inside_send, waiter_send, sendable, crosses) depth 60 fits 20000

pool_sync : IsSync Pool.the_row
pool_sync = search (inside_send, waiter_send, sendable, crosses) depth 60 fits 20000

sessions_send : IsSend Sessions.the_row
sessions_send = search (sendable, crosses) depth 40 fits 5000

sessions_sync : IsSync Sessions.the_row
sessions_sync = search (sendable, crosses) depth 40 fits 5000

module _ (E : RattleType) where
  pub serving_send : IsSend E → IsSend (Serving.the_row E)
  serving_send a =
      recorded_send (Serving.the_field E).row _ _ (Serving.the_type E).to_one (struct_send (shape (Serving.the_type E)) (search (printer_send, printing_send, printing_sync, connections_send, log_send, log_sync, watch_send, watch_sync, unread_file_send, unread_file_sync, sendable, crosses) depth 40 fits 5000, (search (printer_send, printing_send, printing_sync, connections_send, log_send, log_sync, watch_send, watch_sync, unread_file_send, unread_file_sync, sendable, crosses) depth 40 fits 5000, (search (printer_send, printing_send, printing_sync, connections_send, log_send, log_sync, watch_send, watch_sync, unread_file_send, unread_file_sync, sendable, crosses) depth 40 fits 5000, (search (printer_send, printing_send, printing_sync, connections_send, log_send, log_sync, watch_send, watch_sync, unread_file_send, unread_file_sync, sendable, crosses) depth 40 fits 5000, (search (printer_send, printing_send, printing_sync, connections_send, log_send, log_sync, watch_send, watch_sync, unread_file_send, unread_file_sync, sendable, crosses) depth 40 fits 5000, (search (printer_send, printing_send, printing_sync, connections_send, log_send, log_sync, watch_send, watch_sync, unread_file_send, unread_file_sync, sendable, crosses) depth 40 fits 5000, (search (printer_send, printing_send, printing_sync, connections_send, log_send, log_sync, watch_send, watch_sync, unread_file_send, unread_file_sync, sendable, crosses) depth 40 fits 5000, (search (printer_send, printing_send, printing_sync, connections_send, log_send, log_sync, watch_send, watch_sync, unread_file_send, unread_file_sync, sendable, crosses) depth 40 fits 5000, (search (printer_send, printing_send, printing_sync, connections_send, log_send, log_sync, watch_send, watch_sync, unread_file_send, unread_file_sync, sendable, crosses) depth 40 fits 5000, (search (printer_send, printing_send, printing_sync, connections_send, log_send, log_sync, watch_send, watch_sync, unread_file_send, unread_file_sync, sendable, crosses) depth 40 fits 5000, (search (printer_send, printing_send, printing_sync, connections_send, log_send, log_sync, watch_send, watch_sync, unread_file_send, unread_file_sync, sendable, crosses) depth 40 fits 5000, tt))))))))))))

  pub serving_sync : IsSend E → IsSync (Serving.the_row E)
  serving_sync a =
      search (
        printer_send,
        printing_send,
        printing_sync,
        connections_send,
        log_send,
        log_sync,
        watch_send,
        watch_sync,
        unread_file_send,
        unread_file_sync,
        sendable,
        crosses,
      ) depth 40 fits 5000

module _ (E : RattleType) where
  pub acceptor_send : IsSend E → IsSend (Acceptor.the_row E)
  acceptor_send d = search (pool_send, pool_sync, sessions_send, sessions_sync, serving_send, serving_sync, sendable, crosses) depth 30 fits 5000

module _ (C E : RattleType) where
  pub shared_send : IsSend C → IsSync C → IsSend E → IsSend (Shared.the_row C E)
  shared_send a b d =
      recorded_send (Shared.the_field C E).row _ _ (Shared.the_type C E).to_one (struct_send (shape (Shared.the_type C E)) (search (pool_send, pool_sync, sessions_send, sessions_sync, serving_send, serving_sync, sendable, crosses) depth 40 fits 5000, (search (pool_send, pool_sync, sessions_send, sessions_sync, serving_send, serving_sync, sendable, crosses) depth 40 fits 5000, (search (pool_send, pool_sync, sessions_send, sessions_sync, serving_send, serving_sync, sendable, crosses) depth 40 fits 5000, (search (pool_send, pool_sync, sessions_send, sessions_sync, serving_send, serving_sync, sendable, crosses) depth 40 fits 5000, (search (pool_send, pool_sync, sessions_send, sessions_sync, serving_send, serving_sync, sendable, crosses) depth 40 fits 5000, tt))))))

  pub starting_send : IsSend C → IsSync C → IsSend E → IsSend (Starting.the_row C E)
  starting_send a b d =
      recorded_send (Starting.the_field C E).row _ _ (Starting.the_type C E).to_one (struct_send (shape (Starting.the_type C E)) (search (pool_send, pool_sync, sessions_send, sessions_sync, serving_send, serving_sync, sendable, crosses) depth 40 fits 5000, (search (pool_send, pool_sync, sessions_send, sessions_sync, serving_send, serving_sync, sendable, crosses) depth 40 fits 5000, (search (pool_send, pool_sync, sessions_send, sessions_sync, serving_send, serving_sync, sendable, crosses) depth 40 fits 5000, (search (pool_send, pool_sync, sessions_send, sessions_sync, serving_send, serving_sync, sendable, crosses) depth 40 fits 5000, (search (pool_send, pool_sync, sessions_send, sessions_sync, serving_send, serving_sync, sendable, crosses) depth 40 fits 5000, (search (reader_send, sendable, crosses) depth 40 fits 5000, tt)))))))
