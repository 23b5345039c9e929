-- Lines of the code, as the definitions have them (this profile's own).
use Rattle.std.specs.Prelude.{◌≡◌, ℕ, List, [], ◌∷◌, codes}
use Rattle.std.specs.Net.Grammar.{IsIpText}
use Rattle.std.specs.declared.net.ip_addr.IpAddr.{IpAddr}
use Rattle.sy_site.specs.declared.texts.shapes.RelayLine.{RelayLine as ReadRelay}
use Rattle.sy_site.specs.declared.texts.shapes.EntryLine.{EntryLine as ReadEntry}
use Rattle.sy_site.specs.declared.texts.shapes.ProtectLine.{ProtectLine as ReadProtect}
use Rattle.sy_site.specs.declared.texts.shapes.SpareLine.{SpareLine as ReadSpare}
use Rattle.sy_site.specs.declared.texts.shapes.OutsideLine.{OutsideLine as ReadOutside}
use Rattle.sy_site.specs.declared.texts.hosts.HostWord.{HostWord}
use Rattle.sy_site.specs.declared.texts.hosts.HostWord.TheVariants as word
use Rattle.sy_site.specs.declared.texts.shapes.Line.{Line as Read}
use Rattle.sy_site.specs.declared.texts.shapes.Line.TheVariants as read
use Rattle.sy_site.specs.Sites.{Host, Outside}
use Rattle.sy_site.specs.declared.site.host.Host.TheVariants as host
use Rattle.sy_site.specs.texts.Shapes.{Line, RelayLine, EntryLine, ProtectLine, SpareLine}

abbrev pub host_of : HostWord → Host
host_of (word.Address a) = host.Address a
host_of (word.Name name) = host.Name name.now

-- listen ADDRESS
abbrev pub IsListenPart : List (List ℕ) → IpAddr → Type 0
IsListenPart words a = (word : List ℕ) × (words ≡ codes "listen" ∷ word ∷ []) × IsIpText word a

abbrev pub relay_line_of : ReadRelay → RelayLine
relay_line_of it = record { name = it.name.now; file = it.file.now; host = host_of it.host; listens = it.listens }

abbrev pub entry_line_of : ReadEntry → EntryLine
entry_line_of it = record { relay = it.relay.now; port = it.port; is_whole = it.is_whole }

abbrev pub protect_line_of : ReadProtect → ProtectLine
protect_line_of it = record { selector = it.selector; relay = it.relay.now; action = it.action.now }

abbrev pub spare_line_of : ReadSpare → SpareLine
spare_line_of it = record { relay = it.relay.now; action = it.action.now }

abbrev pub outside_of : ReadOutside → Outside
outside_of it = record { name = it.name.now; host = host_of it.host; port = it.port }

abbrev pub line_of : Read → Line
line_of read.Policy = Line.Policy
line_of (read.Relay it) = Line.Relay (relay_line_of it)
line_of (read.Entry it) = Line.Entry (entry_line_of it)
line_of (read.Protect it) = Line.Protect (protect_line_of it)
line_of (read.Spare it) = Line.Spare (spare_line_of it)
line_of (read.Outside it) = Line.Outside (outside_of it)
