-- Files of archives that are named unwisely: no file, one that nobody finds, or one that keeps nothing.
use Rattle.std.specs.Prelude.{ℕ, ◌-◌, Bool, false, not, ◌==◌, ◌||◌, ◌&&◌, if◌then◌else◌, List, length, slice_get, Option, Some, None, codes, nat_eq}
use Rattle.std.specs.List.{list_any, starts_with}
use Rattle.sy_script.specs.Terms.{is_blank}
use Rattle.sy_site.specs.Sites.{Site, same_action}
use Rattle.sy_site.specs.declared.site.SiteAction.{SiteAction}
use Rattle.sy_warnings.specs.declared.unwise.archives.FileFlaw.{FileFlaw}
use Rattle.sy_warnings.specs.declared.unwise.archives.FileFlaw.TheVariants as flaw

-- the byte is there, and passes
abbrev pub passes : (ℕ → Bool) → Option ℕ → Bool
passes test None = false
passes test (Some b) = test b

abbrev pub begins_so : (ℕ → Bool) → List ℕ → Bool
begins_so test name = passes test (slice_get name 0)

abbrev pub ends_so : (ℕ → Bool) → List ℕ → Bool
ends_so test name = passes test (slice_get name (length name - 1))

-- `/`
abbrev pub is_solidus : ℕ → Bool
is_solidus b = b == 47

-- What is unwise of a name, the first of these that fits: it is empty, begins or ends with a blank, ends in `/`, or begins with `/dev/`.
abbrev pub name_flaw : List ℕ → Option FileFlaw
name_flaw name =
    if length name == 0 then Some flaw.Empty
    else (if begins_so is_blank name || ends_so is_blank name then Some flaw.Blank
    else (if ends_so is_solidus name then Some flaw.Folder
    else (if starts_with nat_eq name (codes "/dev/") then Some flaw.Device else None)))

-- a protect line names the archive
abbrev pub is_named : Site → SiteAction → Bool
is_named site archive = list_any (λ p. same_action p.archive archive) site.protections

-- What is unwise of an archive's file. One in `/dev/` may be meant, as `fileType="any"` says, but not where a protect line names the archive.
abbrev pub file_flaw : Site → SiteAction → (may_be_any : Bool) → List ℕ → Option FileFlaw
file_flaw site archive may_be_any name = unless_meant (name_flaw name) where
  unless_meant : Option FileFlaw → Option FileFlaw
  unless_meant (Some flaw.Device) = if may_be_any && not (is_named site archive) then None else Some flaw.Device
  unless_meant found = found
