-- What a hatch does with what a device answers.
use Rattle.std.specs.Prelude.{ℕ, ◌-◌, ◌^◌, List, take, Option, None, Some}
use Rattle.sy_wire.specs.Messages.{Said}
use Rattle.sy_actions.specs.declared.device.DeviceFault.{DeviceFault}
use Rattle.sy_actions.specs.declared.device.DeviceFault.TheVariants.{Write, Broken, NoMemory, CountFull}
use Rattle.sy_actions.specs.Devices.{Refused}

-- a fault of a device: a hatch alone says that no more can be counted
abbrev pub device_fault : DeviceFault → Option DeviceFault
device_fault Write = Some Write
device_fault Broken = Some Broken
device_fault NoMemory = Some NoMemory
device_fault CountFull = None

-- the first of the messages, as many as receipts can still be counted where so many were made
abbrev pub countable : ℕ → List Said → List Said
countable made messages = take (2 ^ 64 - 1 - made) messages

-- the fault with which the device answered: none where a receipt couldn't be counted
abbrev pub answered : Option Refused → Option DeviceFault
answered None = None
answered (Some f) = device_fault f.fault
