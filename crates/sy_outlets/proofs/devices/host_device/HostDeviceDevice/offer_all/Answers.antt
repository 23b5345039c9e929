use Rattle.std.proofs.Common.{rules}
use Rattle.std.specs.Arc.{arc_value}
use Rattle.sy_outlets.proofs.Offers.{all_taken, some_taken}
use Rattle.sy_outlets.proofs.devices.host_device.HostDeviceDevice.offer_all.Goals as goal

pub returns-then-is_empty-clause-steps : goal.returns-then-is_empty-clause-steps
returns-then-is_empty-clause-steps c = all_taken arc_value c.args.messages.now 0 (search rules)

pub returns-in_default-None-clause-steps : goal.returns-in_default-None-clause-steps
returns-in_default-None-clause-steps c = all_taken arc_value c.args.messages.now c.hand_all_on.result.0 (search rules)

pub returns-in_default-Some-clause-steps : goal.returns-in_default-Some-clause-steps
returns-in_default-Some-clause-steps c = some_taken arc_value c.args.messages.now c.hand_all_on.result.0 c.fail.result (search rules)
