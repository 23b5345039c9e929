-- What connections leave, and the files that a relay writes to, may cross threads.
use denote.Param.Send.{IsSend, IsSync, recorded_send, recorded_sync, sendable, struct_send, struct_sync}
use denote.Struct.Declared.{shape}
use Rattle.std.proofs.Crossing.{crosses}
use Rattle.sy_chain.specs.contracts.node.Node as Node
use Rattle.sy_runtime.specs.contracts.untaken.Item as Item
use Rattle.sy_runtime.specs.contracts.untaken.Untaken as Untaken
use Rattle.sy_outlets.specs.contracts.leaving.remaining.Rest as Rest
use Rattle.sy_outlets.specs.contracts.leaving.remaining.Unkept as Unkept
use Rattle.sy_outlets.specs.contracts.devices.file_writer.FileWriter as FileWriter
use Rattle.sy_outlets.specs.contracts.devices.frame_file.FrameFile as FrameFile
use Rattle.sy_outlets.specs.contracts.rotation.reopens.Reopens as Reopens
use Rattle.sy_outlets.specs.contracts.rotation.rotated.Form as Form
use Rattle.sy_outlets.specs.contracts.rotation.rotated.Open as Open
use Rattle.sy_outlets.specs.contracts.rotation.rotated.Rotated as Rotated
use Rattle.sy_outlets.specs.contracts.rotation.rotated.Lines as Lines
use Rattle.sy_outlets.specs.contracts.rotation.rotated.Writer as Writer
use Rattle.sy_outlets.specs.contracts.unread_file.UnreadFile as UnreadFile
use Rattle.sy_outlets.specs.contracts.unread_file.Writing as Writing
use Rattle.sy_log.specs.contracts.log.ActionLog as ActionLog
use Rattle.sy_log.proofs.Sent.{log_send, log_sync}

pub node_send : IsSend Node.the_row
node_send = search (sendable, crosses) depth 30 fits 2000

pub item_send : IsSend Item.the_row
item_send = search (node_send, sendable, crosses) depth 30 fits 2000

pub untaken_send : IsSend Untaken.the_row
untaken_send = search (item_send, sendable, crosses) depth 30 fits 2000

pub unkept_send : IsSend Unkept.the_row
unkept_send = search (sendable, crosses) depth 40 fits 8000

pub rest_send : IsSend Rest.the_row
rest_send = search (node_send, item_send, untaken_send, unkept_send, sendable, crosses) depth 40 fits 8000

noted_send : IsSend ActionLog.the_row
noted_send = search (log_send, log_sync, sendable, crosses) depth 30

noted_sync : IsSync ActionLog.the_row
noted_sync = search (log_send, log_sync, sendable, crosses) depth 30

file_writer_send : IsSend FileWriter.the_row
file_writer_send =
    recorded_send FileWriter.the_field.row _ _ FileWriter.the_type.to_one (struct_send (shape FileWriter.the_type) (search (noted_send, sendable, crosses) depth 80 fits 20000, (search (noted_send, sendable, crosses) depth 80 fits 20000, (search (noted_send, sendable, crosses) depth 80 fits 20000, (search (noted_send, sendable, crosses) depth 80 fits 20000, (search (noted_send, sendable, crosses) depth 80 fits 20000, tt))))))

frame_file_send : IsSend FrameFile.the_row
frame_file_send = search (noted_send, sendable, crosses) depth 80 fits 20000

lines_send : IsSend Lines.the_row
lines_send = search (file_writer_send, sendable, crosses) depth 80 fits 20000

writer_send : IsSend (Writer.the_field).row
writer_send = struct_send (shape Writer.the_type) (search (lines_send, sendable, crosses) depth 80 fits 20000, (search (frame_file_send, sendable, crosses) depth 80 fits 20000, tt))

open_file_send : IsSend Open.the_row
open_file_send =
    recorded_send Open.the_field.row _ _ Open.the_type.to_one (struct_send (shape Open.the_type) (writer_send, (search (sendable, crosses) depth 80 fits 20000, (search (sendable, crosses) depth 80 fits 20000, tt))))

form_send : IsSend Form.the_row
form_send = search (sendable, crosses) depth 40 fits 8000

form_sync : IsSync Form.the_row
form_sync = search (sendable, crosses) depth 40 fits 8000

pub rotated_send : IsSend Rotated.the_row
rotated_send =
    recorded_send Rotated.the_field.row _ _ Rotated.the_type.to_one (struct_send (shape Rotated.the_type) (search (open_file_send, form_send, noted_send, noted_sync, sendable, crosses) depth 80 fits 20000, (search (open_file_send, form_send, noted_send, noted_sync, sendable, crosses) depth 80 fits 20000, (search (open_file_send, form_send, noted_send, noted_sync, sendable, crosses) depth 80 fits 20000, (search (open_file_send, form_send, noted_send, noted_sync, sendable, crosses) depth 80 fits 20000, (search (open_file_send, form_send, noted_send, noted_sync, sendable, crosses) depth 80 fits 20000, (search (open_file_send, form_send, noted_send, noted_sync, sendable, crosses) depth 80 fits 20000, (search (open_file_send, form_send, noted_send, noted_sync, sendable, crosses) depth 80 fits 20000, (search (open_file_send, form_send, noted_send, noted_sync, sendable, crosses) depth 80 fits 20000, tt)))))))))

pub rotated_sync : IsSync Rotated.the_row
rotated_sync =
    recorded_sync Rotated.the_field.row _ _ Rotated.the_type.to_one (struct_sync (shape Rotated.the_type) (search (open_file_send, form_send, form_sync, noted_send, noted_sync, sendable, crosses) depth 80 fits 20000, (search (open_file_send, form_send, form_sync, noted_send, noted_sync, sendable, crosses) depth 80 fits 20000, (search (open_file_send, form_send, form_sync, noted_send, noted_sync, sendable, crosses) depth 80 fits 20000, (search (open_file_send, form_send, form_sync, noted_send, noted_sync, sendable, crosses) depth 80 fits 20000, (search (open_file_send, form_send, form_sync, noted_send, noted_sync, sendable, crosses) depth 80 fits 20000, (search (open_file_send, form_send, form_sync, noted_send, noted_sync, sendable, crosses) depth 80 fits 20000, (search (open_file_send, form_send, form_sync, noted_send, noted_sync, sendable, crosses) depth 80 fits 20000, (search (open_file_send, form_send, form_sync, noted_send, noted_sync, sendable, crosses) depth 80 fits 20000, tt)))))))))

pub reopens_send : IsSend Reopens.the_row
reopens_send = search (rotated_send, rotated_sync, sendable, crosses) depth 80 fits 20000

pub reopens_sync : IsSync Reopens.the_row
reopens_sync = search (rotated_send, rotated_sync, sendable, crosses) depth 80 fits 20000

writing_send : IsSend Writing.the_row
writing_send =
    recorded_send Writing.the_field.row _ _ Writing.the_type.to_one (struct_send (shape Writing.the_type) (search (rotated_send, rotated_sync, reopens_send, reopens_sync, noted_send, sendable, crosses) depth 80 fits 20000, (search (rotated_send, rotated_sync, reopens_send, reopens_sync, noted_send, sendable, crosses) depth 80 fits 20000, (search (rotated_send, rotated_sync, reopens_send, reopens_sync, noted_send, sendable, crosses) depth 80 fits 20000, (search (rotated_send, rotated_sync, reopens_send, reopens_sync, noted_send, sendable, crosses) depth 80 fits 20000, (search (rotated_send, rotated_sync, reopens_send, reopens_sync, noted_send, sendable, crosses) depth 80 fits 20000, (search (rotated_send, rotated_sync, reopens_send, reopens_sync, noted_send, sendable, crosses) depth 80 fits 20000, tt)))))))

pub unread_file_send : IsSend UnreadFile.the_row
unread_file_send = search (writing_send, sendable, crosses) depth 40 fits 5000

pub unread_file_sync : IsSync UnreadFile.the_row
unread_file_sync = search (writing_send, sendable, crosses) depth 40 fits 5000
