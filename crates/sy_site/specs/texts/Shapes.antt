-- The six shapes of a line (this profile's own).
--   policy 2
--   relay NAME FILE [ADDRESS] [listen ADDRESS]
--   entry RELAY PORT [whole]
--   protect SELECTOR RELAY ACTION
--   spare RELAY ACTION
--   outside NAME ADDRESS PORT
use Rattle.std.specs.Prelude.{◌≡◌, ℕ, ◌≤◌, Bool, true, false, not, ◌||◌, ◌&&◌, if◌then◌else◌, nat_le, ◌==◌, List, [], ◌∷◌, length, Option, Some, None, codes}
use Rattle.std.specs.Char.{is_ascii_alphabetic, is_ascii_alphanumeric}
use Rattle.std.specs.List.{list_all, list_any, slice_index}
use Rattle.std.specs.Net.Grammar.{IsIpText}
use Rattle.std.specs.declared.net.ip_addr.IpAddr.{IpAddr}
use Rattle.std.specs.Str.{bytes_eq}
use Rattle.std.specs.Prelude.{IsUtf8}
use Rattle.std.specs.Str.Parse.{digits_value}
use Rattle.sy_wire.specs.Numbers.{is_numeral}
use Rattle.sy_select.specs.Selectors.{IsSetOf}
use Rattle.sy_site.specs.Sites.{Host, Outside as Receiver, address_in, loopback}
use Rattle.sy_site.specs.declared.site.host.Host.TheVariants as host

-- ---- words

-- a letter, a digit, `-`, `_` or `.`
abbrev pub is_name_byte : ℕ → Bool
is_name_byte b = is_ascii_alphanumeric b || (b == 45 || (b == 95 || b == 46))

-- the name of a relay: 1 to 64 such bytes
unfoldable pub is_name : List ℕ → Bool
is_name word = not (length word == 0) && (nat_le (length word) 64 && list_all is_name_byte word)

-- the port that 1 to 10 digits write, the first of which is not 0
unfoldable pub port_of : List ℕ → Option ℕ
port_of word = if is_numeral word && (nat_le (length word) 10 && not (slice_index word 0 == 48)) then Some (digits_value 10 word) else None

-- a port of TCP: 1 to 65535
abbrev pub IsPort : List ℕ → ℕ → Type 0
IsPort word port = (port_of word ≡ Some port) × (port ≤ 65535)

-- a letter, a digit, `-` or `.`
abbrev pub is_host_byte : ℕ → Bool
is_host_byte b = is_ascii_alphanumeric b || (b == 45 || b == 46)

-- the name of a host: at most 255 such bytes with a letter among them, and not the word `listen`
unfoldable pub is_host_name : List ℕ → Bool
is_host_name word =
    nat_le (length word) 255 && (list_all is_host_byte word && (list_any is_ascii_alphabetic word && not (bytes_eq word (codes "listen"))))

-- A word is this host: an IPv4 or IPv6 address, without brackets or a zone, or else a name.
abbrev pub IsHost : List ℕ → Host → Type 0
IsHost word (host.Address a) = IsIpText word a
IsHost word (host.Name name) = (name ≡ word) × (is_host_name word ≡ true) × ((a : IpAddr) → IsIpText word a → ⊥)

-- a word is this address
abbrev pub IsListening : List ℕ → Option IpAddr → Type 0
IsListening word None = ⊥
IsListening word (Some a) = IsIpText word a

-- a host that may stand without `listen` behind it: an address, or a name with a dot, so that one stray word is a fault
abbrev pub stands_alone : Host → Bool
stands_alone (host.Address a) = true
stands_alone (host.Name name) = list_any (λ b. b == 46) name

-- [ADDRESS] [listen ADDRESS]: where others connect, and where the relay listens (nowhere in particular is at all addresses). Without an ADDRESS others
-- connect to the loopback address. Without `listen` it listens where others connect, if that is an address.
abbrev pub IsReach : List (List ℕ) → Host → Option IpAddr → Type 0
IsReach [] reached listens = (reached ≡ host.Address loopback) × (listens ≡ Some loopback)
IsReach (word ∷ []) reached listens = IsHost word reached × (stands_alone reached ≡ true) × (listens ≡ address_in reached)
IsReach (first ∷ word ∷ []) reached listens = (first ≡ codes "listen") × (reached ≡ host.Address loopback) × IsListening word listens
IsReach (first ∷ second ∷ word ∷ []) reached listens = (second ≡ codes "listen") × IsHost first reached × IsListening word listens
IsReach (first ∷ second ∷ word ∷ next ∷ later) reached listens = ⊥

-- ---- lines

pub record RelayLine : Type 0 where
  pub name : List ℕ
  pub file : List ℕ
  pub host : Host
  pub listens : Option IpAddr

-- Of a whole entry nothing that comes in whole may be dropped.
pub record EntryLine : Type 0 where
  pub relay : List ℕ
  pub port : ℕ
  pub is_whole : Bool

-- the selector as the severity sets of its facilities
pub record ProtectLine : Type 0 where
  pub selector : List ℕ
  pub relay : List ℕ
  pub action : List ℕ

pub record SpareLine : Type 0 where
  pub relay : List ℕ
  pub action : List ℕ

-- policy 2
abbrev pub policy_line : List (List ℕ)
policy_line = codes "policy" ∷ codes "2" ∷ []

-- relay NAME FILE [ADDRESS] [listen ADDRESS]
pub record IsRelayLine (line : List (List ℕ)) (it : RelayLine) : Type 0 where
  pub behind : List (List ℕ)
  pub whole : line ≡ codes "relay" ∷ it.name ∷ it.file ∷ behind
  pub name : is_name it.name ≡ true
  pub file : IsUtf8 it.file
  pub reach : IsReach behind it.host it.listens

-- what stands behind an entry's port
abbrev pub whole_words : Bool → List (List ℕ)
whole_words true = codes "whole" ∷ []
whole_words false = []

-- entry RELAY PORT [whole]
pub record IsEntryLine (line : List (List ℕ)) (it : EntryLine) : Type 0 where
  pub port_word : List ℕ
  pub whole : line ≡ codes "entry" ∷ it.relay ∷ port_word ∷ whole_words it.is_whole
  pub port : port_of port_word ≡ Some it.port

-- protect SELECTOR RELAY ACTION
pub record IsProtectLine (line : List (List ℕ)) (it : ProtectLine) : Type 0 where
  pub selector_word : List ℕ
  pub whole : line ≡ codes "protect" ∷ selector_word ∷ it.relay ∷ it.action ∷ []
  pub selector : IsSetOf selector_word it.selector

-- spare RELAY ACTION
abbrev pub IsSpareLine : List (List ℕ) → SpareLine → Type 0
IsSpareLine line it = line ≡ codes "spare" ∷ it.relay ∷ it.action ∷ []

-- outside NAME ADDRESS PORT
pub record IsOutsideLine (line : List (List ℕ)) (it : Receiver) : Type 0 where
  pub host_word : List ℕ
  pub port_word : List ℕ
  pub whole : line ≡ codes "outside" ∷ it.name ∷ host_word ∷ port_word ∷ []
  pub name : is_name it.name ≡ true
  pub host : IsHost host_word it.host
  pub port : IsPort port_word it.port

pub data Line : Type 0 where
  Policy : Line
  Relay : RelayLine → Line
  Entry : EntryLine → Line
  Protect : ProtectLine → Line
  Spare : SpareLine → Line
  Outside : Receiver → Line

abbrev pub IsLine : List (List ℕ) → Line → Type 0
IsLine line Policy = line ≡ policy_line
IsLine line (Relay it) = IsRelayLine line it
IsLine line (Entry it) = IsEntryLine line it
IsLine line (Protect it) = IsProtectLine line it
IsLine line (Spare it) = IsSpareLine line it
IsLine line (Outside it) = IsOutsideLine line it
