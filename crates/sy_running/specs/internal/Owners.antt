-- Whose the file of an archive is that is made (this profile's own).
use Rattle.std.specs.Prelude.{◌≡◌, ℕ, List, Option, None, Some}
pub use Rattle.sy_host_parameters.specs.Accounts.{account_number}
use Rattle.sy_host_parameters.specs.Hosts.{archive_at, group_at, owner_at}
use Rattle.sy_host_parameters.specs.declared.host.ArchiveHost.{ArchiveHost}
use Rattle.sy_host_parameters.specs.declared.host.RelayHost.{RelayHost}

-- A number that is given holds. A name that is given alone is that of an account in a table, and there is nothing else.
abbrev pub IsAccount : (number : Option ℕ) (name : Option (List ℕ)) (found : Option ℕ) → Type 0
IsAccount (Some n) name found = found ≡ Some n
IsAccount None None found = found ≡ None
IsAccount None (Some name) found = (table : List ℕ) × (n : ℕ) × (account_number table name ≡ Some n) × (found ≡ Some n)

-- what is done for an action, with the numbers of the user and the group that the relay's file gives
pub record HasOwners (host : RelayHost) (action : ℕ) (does : ArchiveHost) : Type 0 where
  pub owner : IsAccount (archive_at host.archives.items action).owner (owner_at host.names.items action) does.owner
  pub group : IsAccount (archive_at host.archives.items action).group (group_at host.names.items action) does.group
  pub synced : does.is_synced ≡ (archive_at host.archives.items action).is_synced
  pub mode : does.create_mode ≡ (archive_at host.archives.items action).create_mode
  pub folders : does.makes_folders ≡ (archive_at host.archives.items action).makes_folders
  pub any : does.may_be_any ≡ (archive_at host.archives.items action).may_be_any
  pub escapes : does.escapes ≡ (archive_at host.archives.items action).escapes
