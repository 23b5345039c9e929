-- What the host of a relay is to do, by the relay's file. The usual mode, and what holds where no folder is to be made, are this profile's own, as are the
-- numbers of connections and the times.
use Rattle.std.specs.Prelude.{◌≡◌, ◌⊎◌, ℕ, ◌==◌, Bool, true, if◌then◌else◌, List, [], ◌∷◌, codes, flat_map, map, slice_get, Option, Some, None, Vec}
use Rattle.sy_script.specs.Grammar.{IsScript}
use Rattle.sy_script.specs.declared.tree.ObjectKind.TheVariants as object
use Rattle.sy_script.specs.declared.tree.Script.{Script}
use Rattle.sy_rules.specs.items.Outline.{Item, items}
use Rattle.sy_script.specs.declared.tree.Param.{Param}
use Rattle.sy_rules.specs.parameters.Values.{given}
use Rattle.sy_host_parameters.specs.HostParameters.{IsNoScript, given_in, holder_of_action, is_name, number}
use Rattle.sy_host_parameters.specs.declared.rows.Holder.{Holder}
use Rattle.sy_host_parameters.specs.declared.rows.Holder.TheVariants as holder
use Rattle.std.specs.declared.alloc.Global.{Global}
use Rattle.sy_host_parameters.specs.declared.given.Given.{Given}
use Rattle.sy_host_parameters.specs.declared.rows.HostParameter.{HostParameter}
use Rattle.sy_host_parameters.specs.declared.rows.HostParameter.TheVariants as parameter
pub use Rattle.sy_host_parameters.specs.declared.host.ArchiveHost.{ArchiveHost}
pub use Rattle.sy_host_parameters.specs.declared.names.ArchiveNames.{ArchiveNames}
pub use Rattle.sy_host_parameters.specs.declared.host.ReceiverHost.{ReceiverHost}
pub use Rattle.sy_host_parameters.specs.declared.host.RelayHost.{RelayHost}

abbrev pub value_in : HostParameter → List Given → Option ℕ
value_in is [] = None
value_in is (it ∷ later) = if number it.parameter == number is then Some it.value else value_in is later

abbrev pub or_usual : ℕ → Option ℕ → ℕ
or_usual usual None = usual
or_usual usual (Some n) = n

-- the number that is given, else the usual one
abbrev pub number_in : HostParameter → ℕ → List Given → ℕ
number_in is usual found = or_usual usual (value_in is found)

-- 0640
abbrev pub usual_mode : ℕ
usual_mode = 416

-- what is done for an action that gives these
abbrev pub archive_by : List Given → ArchiveHost
archive_by found = record {
  is_synced = number_in parameter.Sync 0 found == 1;
  create_mode = number_in parameter.FileCreateMode usual_mode found;
  owner = value_in parameter.FileOwnerNum found;
  group = value_in parameter.FileGroupNum found;
  makes_folders = number_in parameter.CreateDirs 0 found == 1;
  may_be_any = number_in parameter.FileType 0 found == 1;
  escapes = number_in parameter.EscapeControlCharacters 0 found == 1;
}

abbrev pub one_or_zero : Bool → ℕ
one_or_zero is = if is then 1 else 0

-- what is done for an input that gives these, where that holds for those that give nothing
abbrev pub receiver_by : ReceiverHost → List Given → ReceiverHost
receiver_by usual found = record {
  max_sessions = number_in parameter.MaxSessions usual.max_sessions found;
  is_kept_alive = number_in parameter.KeepAlive (one_or_zero usual.is_kept_alive) found == 1;
  time = number_in parameter.KeepAliveTime usual.time found;
  interval = number_in parameter.KeepAliveInterval usual.interval found;
  probes = number_in parameter.KeepAliveProbes usual.probes found;
}

-- what holds where nothing is given
abbrev pub usual_receiver : ReceiverHost
usual_receiver = record { max_sessions = 10000; is_kept_alive = true; time = 60; interval = 10; probes = 6 }

-- what is done for the action that an item is
abbrev pub archives_in : Item → List ArchiveHost
archives_in (Item.Action params) = archive_by (given_in (Item.Action params)) ∷ []
archives_in _ = []

abbrev pub or_usual_archive : Option ArchiveHost → ArchiveHost
or_usual_archive None = archive_by []
or_usual_archive (Some does) = does

-- what is done for the action of this number; the usual where there is none
abbrev pub archive_at : List ArchiveHost → ℕ → ArchiveHost
archive_at all action = or_usual_archive (slice_get all action)

abbrev pub or_usual_receiver : Option ReceiverHost → ReceiverHost
or_usual_receiver None = usual_receiver
or_usual_receiver (Some does) = does

-- the same of an input
abbrev pub receiver_at : List ReceiverHost → ℕ → ReceiverHost
receiver_at all input = or_usual_receiver (slice_get all input)

-- whose a file is, by the names of accounts
pub record Named : Type 0 where
  pub owner : Option (List ℕ)
  pub group : Option (List ℕ)

abbrev pub if_name : Option (List ℕ) → Option (List ℕ)
if_name None = None
if_name (Some value) = if is_name value then Some value else None

-- the name of an account that these parameters give
abbrev pub name_in : List ℕ → List Param → Option (List ℕ)
name_in name params = if_name (given name params)

-- an action that writes no file has none
abbrev pub named_by : Holder → List Param → Named
named_by holder.Archive params = record { owner = name_in (codes "fileOwner") params; group = name_in (codes "fileGroup") params }
named_by _ params = record { owner = None; group = None }

-- the names of the action that an item is
abbrev pub named_in : Item → List Named
named_in (Item.Action params) = named_by (holder_of_action params) params ∷ []
named_in _ = []

abbrev pub bytes_of : Option (Vec ℕ Global) → Option (List ℕ)
bytes_of None = None
bytes_of (Some bytes) = Some bytes.items

abbrev pub named_of : ArchiveNames → Named
named_of names = record { owner = bytes_of names.owner; group = bytes_of names.group }

abbrev pub owner_in : Option ArchiveNames → Option (List ℕ)
owner_in None = None
owner_in (Some names) = bytes_of names.owner

abbrev pub group_in : Option ArchiveNames → Option (List ℕ)
group_in None = None
group_in (Some names) = bytes_of names.group

-- the name of the owner, or of the group, of the file of the action of this number; none where none is given
abbrev pub owner_at : List ArchiveNames → ℕ → Option (List ℕ)
owner_at all action = owner_in (slice_get all action)

abbrev pub group_at : List ArchiveNames → ℕ → Option (List ℕ)
group_at all action = group_in (slice_get all action)

-- what a module gives for the inputs
abbrev pub given_in_module : Item → List Given
given_in_module (Item.Object object.Module params) = given_in (Item.Object object.Module params)
given_in_module _ = []

-- what holds for inputs that give nothing
abbrev pub usual_of : List Item → ReceiverHost
usual_of all = receiver_by usual_receiver (flat_map given_in_module all)

-- what is done for the input that an item is
abbrev pub receivers_in : ReceiverHost → Item → List ReceiverHost
receivers_in usual (Item.Object object.Input params) = receiver_by usual (given_in (Item.Object object.Input params)) ∷ []
receivers_in usual _ = []

-- for each action, and for each input, in the order of the text
pub record IsHostBy (all : List Item) (host : RelayHost) : Type 0 where
  pub archives : host.archives.items ≡ flat_map archives_in all
  pub names : map named_of host.names.items ≡ flat_map named_in all
  pub receivers : host.receivers.items ≡ flat_map (receivers_in (usual_of all)) all

-- by the text of a relay's file; nothing where it is no script
abbrev pub IsHostOf : List ℕ → RelayHost → Type 0
IsHostOf text host =
    (IsNoScript text × (host.archives.items ≡ []) × (host.names.items ≡ []) × (host.receivers.items ≡ []))
    ⊎ ((script : Script) × IsScript text script × IsHostBy (items script) host)
