-- What is watched of a relay may cross threads.
use denote.Param.Send.{IsSend, IsSync, sendable}
use Rattle.std.proofs.Crossing.{crosses}
use Rattle.sy_watched.specs.contracts.file.MetricsFile as MetricsFile
use Rattle.sy_watched.specs.contracts.watch.NamedQueue as NamedQueue
use Rattle.sy_watched.specs.contracts.watch.Traffic as Traffic
use Rattle.sy_watched.specs.contracts.watch.Watch as Watch

pub file_send : IsSend MetricsFile.the_row
file_send = search (sendable, crosses) depth 40 fits 5000

queue_send : IsSend NamedQueue.the_row
queue_send = search (sendable, crosses) depth 40 fits 5000

queue_sync : IsSync NamedQueue.the_row
queue_sync = search (sendable, crosses) depth 40 fits 5000

traffic_send : IsSend Traffic.the_row
traffic_send = search (sendable, crosses) depth 40 fits 5000

traffic_sync : IsSync Traffic.the_row
traffic_sync = search (sendable, crosses) depth 40 fits 5000

pub watch_send : IsSend Watch.the_row
watch_send = search (file_send, queue_send, traffic_send, sendable, crosses) depth 40 fits 5000

pub watch_sync : IsSync Watch.the_row
watch_sync = search (file_send, queue_sync, traffic_sync, sendable, crosses) depth 40 fits 5000
