-- Which hosts are one, by what is written of them (this profile's own).
use Rattle.std.specs.Prelude.{◌≡◌, ℕ, ◌⊎◌, List, [], ◌∷◌, Option, Some, None, map, codes}
use Rattle.std.specs.Char.{to_ascii_lowercase}
use Rattle.std.specs.Net.Addr.{MatchIp, IsLoopbackV4, IsLoopbackV6, IsMulticastV4, IsMulticastV6, IsUnspecifiedV4, IsUnspecifiedV6, embedded_segments, ipv4_octets, ipv6_segments}
use Rattle.std.specs.declared.net.ip_addr.IpAddr.{IpAddr}
use Rattle.std.specs.declared.net.ip_addr.IpAddr.TheVariants as ip
use Rattle.sy_site.specs.declared.site.host.Host.{Host}
use Rattle.sy_site.specs.declared.site.host.Host.TheVariants as host
use Rattle.sy_endpoints.specs.declared.hosts.Peer.{Peer}
use Rattle.sy_endpoints.specs.declared.hosts.Peer.TheVariants as peer

-- the same host
abbrev pub host_of : Peer → Host
host_of (peer.Address address) = host.Address address
host_of (peer.Name name) = host.Name name.now

-- The eight segments of an address. An IPv4 address is the same as ::ffff:a.b.c.d (RFC 4291, 2.5.5.2).
abbrev pub segments : IpAddr → List ℕ
segments (ip.V4 address) = embedded_segments 0xffff address
segments (ip.V6 address) = ipv6_segments address

-- Names of hosts don't tell large letters from small ones (RFC 1034, 3.1).
abbrev pub AreSameNames : List ℕ → List ℕ → Type 0
AreSameNames one other = map to_ascii_lowercase one ≡ map to_ascii_lowercase other

-- Both are one host, by what is written: an address and a name can't be compared.
abbrev pub AreSame : Host → Host → Type 0
AreSame (host.Address one) (host.Address other) = segments one ≡ segments other
AreSame (host.Name one) (host.Name other) = AreSameNames one other
AreSame (host.Address one) (host.Name other) = ⊥
AreSame (host.Name one) (host.Address other) = ⊥

-- 0.0.0.0 and ::
abbrev pub IsUnspecified : IpAddr → Type 0
IsUnspecified address = MatchIp address IsUnspecifiedV4 IsUnspecifiedV6

-- all addresses of a host
abbrev pub IsAll : Host → Type 0
IsAll (host.Address address) = IsUnspecified address
IsAll (host.Name name) = ⊥

-- They are the same, or one of them is all addresses.
abbrev pub MayBeOne : Host → Host → Type 0
MayBeOne one other = IsAll one ⊎ IsAll other ⊎ AreSame one other

-- It leads back to the host that it is used on: 127.0.0.0/8, ::1, or localhost (RFC 6761, 6.3).
abbrev pub IsLoopback : Host → Type 0
IsLoopback (host.Address address) = MatchIp address IsLoopbackV4 IsLoopbackV6
IsLoopback (host.Name name) = AreSameNames name (codes "localhost")

-- What listens at this address, or at all of its host where it is unspecified, hears what is sent there from that host.
abbrev pub HearsAt : IpAddr → Host → Type 0
HearsAt address to = (IsUnspecified address × IsLoopback to) ⊎ ((IsUnspecified address → ⊥) × AreSame (host.Address address) to)

-- the same where nothing is said of an address, which is all
abbrev pub Hears : Option IpAddr → Host → Type 0
Hears None to = IsLoopback to
Hears (Some address) to = HearsAt address to

-- It leads to a relay that others reach at that host and that listens there.
abbrev pub IsHome : Host → Option IpAddr → Host → Type 0
IsHome own listens to = AreSame own to ⊎ Hears listens to

-- 255.255.255.255
abbrev pub IsBroadcast : IpAddr → Type 0
IsBroadcast (ip.V4 address) = ipv4_octets address ≡ 255 ∷ 255 ∷ 255 ∷ 255 ∷ []
IsBroadcast (ip.V6 address) = ⊥

-- No host is connected to there: 0.0.0.0 and ::, 224.0.0.0/4 and ff00::/8, 255.255.255.255.
abbrev pub IsOfNoHost : IpAddr → Type 0
IsOfNoHost address = IsUnspecified address ⊎ MatchIp address IsMulticastV4 IsMulticastV6 ⊎ IsBroadcast address

-- Of a name it isn't known.
abbrev pub IsNoHost : Host → Type 0
IsNoHost (host.Address address) = IsOfNoHost address
IsNoHost (host.Name name) = ⊥
