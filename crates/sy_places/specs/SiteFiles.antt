-- The site that a site file describes with the files that it names, and what is told where there is none (this profile's own).
use Rattle.std.specs.Prelude.{◌≡◌, ℕ, ◌⊎◌, List, [], ◌∷◌, Option, IfSome, map}
use Rattle.sy_site.specs.Sites.{Site}
use Rattle.sy_site.specs.declared.fault.SiteFault.{SiteFault}
use Rattle.sy_site.specs.declared.fault.SiteFault.TheVariants as site_fault
use Rattle.sy_site.specs.texts.Describes.{Describes, File}
use Rattle.sy_site.specs.texts.Files.{IsFirstRelayFault, file_names}
use Rattle.sy_site.specs.texts.HasFault.{HasFault}
use Rattle.sy_host_parameters.specs.HostParameters.{IsMachineText}
use Rattle.sy_tunnels.specs.Tunnels.{HasTunnelFault, NameLinks, machine_text}

-- The files that were given are those whose bytes are known by their names.
abbrev pub AreGiven : (List ℕ → Option (List ℕ)) → List File → Type 0
AreGiven bytes_of [] = Unit {0}
AreGiven bytes_of (file ∷ files) = IfSome (bytes_of file.name) (λ bytes. file.bytes ≡ bytes) × AreGiven bytes_of files

-- the files that a site file names, in the order of their first mention
pub record AreFilesOf (bytes_of : List ℕ → Option (List ℕ)) (text : List ℕ) (given : List File) : Type 0 where
  pub names : map (λ file. file.name) given ≡ file_names text
  pub bytes : AreGiven bytes_of given

-- These are those files without their parameters for the host: the texts that plans are read from.
abbrev pub AreMachineFiles : List File → List File → Type 0
AreMachineFiles [] [] = Unit {0}
AreMachineFiles (file ∷ files) (machine ∷ machines) =
    (machine.name ≡ file.name) × IsMachineText file.bytes machine.bytes × AreMachineFiles files machines
AreMachineFiles _ _ = ⊥

-- The site file with the files of its relays describes the site: without its tunnel lines, which name links of the site, and without the files' parameters
-- for the host.
pub record IsSiteOf (bytes_of : List ℕ → Option (List ℕ)) (text : List ℕ) (site : Site) : Type 0 where
  pub given : List File
  pub are_given : AreFilesOf bytes_of text given
  pub machines : List File
  pub are_machines : AreMachineFiles given machines
  pub describes : Describes (machine_text text) machines site
  pub links : NameLinks site text

-- The files that plans are read from and the site file without its tunnel lines have this fault; or they describe a site, and a tunnel line has it.
abbrev pub IsFaultWith : List ℕ → List File → SiteFault → Type 0
IsFaultWith text machines fault =
    HasFault (machine_text text) machines fault ⊎ ((site : Site) × Describes (machine_text text) machines site × HasTunnelFault site text fault)

-- the site file has this fault, in its relay lines alone or with the files of its relays
abbrev pub IsSiteFault : (List ℕ → Option (List ℕ)) → List ℕ → SiteFault → Type 0
IsSiteFault bytes_of text fault =
    ((line : ℕ) × (fault ≡ site_fault.Line line) × IsFirstRelayFault text line)
    ⊎ ((given : List File) × AreFilesOf bytes_of text given × (machines : List File) × AreMachineFiles given machines × IsFaultWith text machines fault)
