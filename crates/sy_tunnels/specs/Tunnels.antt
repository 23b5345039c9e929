-- Lines of a site file that say that a link goes through a tunnel (this profile's own).
--   tunnel RELAY ACTION
use Rattle.std.specs.Prelude.{◌≡◌, ℕ, ◌+◌, Bool, true, false, ◌&&◌, if◌then◌else◌, List, [], ◌∷◌, ◌++◌, length, map, Any, Option, Some, None, option_and_then, option_map, codes}
use Rattle.std.specs.List.{join_with_byte, position}
use Rattle.std.specs.Str.{bytes_eq}
use Rattle.sy_rules.specs.declared.parameters.objects.Destination.{Destination}
use Rattle.sy_rules.specs.declared.parameters.objects.Destination.TheVariants as destination
use Rattle.sy_site.specs.Sites.{Site, plan_at, relay_named}
use Rattle.sy_site.specs.declared.site.SiteAction.{SiteAction}
use Rattle.sy_site.specs.declared.fault.SiteFault.{SiteFault}
use Rattle.sy_site.specs.declared.fault.SiteFault.TheVariants as fault
use Rattle.sy_site.specs.texts.Lines.{is_kind, number_sign}
use Rattle.sy_tunnels.specs.Lines.{line_feed, lines_of, words_of}
pub use Rattle.sy_tunnels.specs.declared.tunnels.Tunnel.{Tunnel}

-- these words are those of a line that begins with `tunnel`
abbrev pub is_tunnel : List (List ℕ) → Bool
is_tunnel line = is_kind (codes "tunnel") line

-- ---- what the machine is read from

-- A line as the machine is read from it: a tunnel line is a comment, by a number sign in the place of its first byte.
abbrev pub machine_line : List ℕ → List ℕ
machine_line [] = []
machine_line (b ∷ line) = if is_tunnel (words_of (b ∷ line)) then number_sign ∷ line else b ∷ line

-- the text of a site file as its machine is read from it: these lines, with line feeds between them
abbrev pub machine_text : List ℕ → List ℕ
machine_text text = join_with_byte line_feed (map machine_line (lines_of text))

-- ---- links

abbrev pub is_forward : Destination → Bool
is_forward (destination.Forward name port) = true
is_forward (destination.Archive file) = false

-- the forward of a relay that has this name
abbrev pub link_at : Site → List ℕ → ℕ → Option SiteAction
link_at site name relay =
    option_map (λ a. record { relay = relay; action = a })
    (position (λ a. is_forward a.destination && bytes_eq a.name name) (plan_at site relay).actions)

-- the forward of these names
abbrev pub link_named : Site → List ℕ → List ℕ → Option SiteAction
link_named site relay action = option_and_then (link_at site action) (relay_named site.relays relay)

-- one of these tunnels is of this link
abbrev pub IsGiven : List Tunnel → SiteAction → Type 0
IsGiven tunnels link = Any (λ tunnel. tunnel.action ≡ link) tunnels

-- ---- tunnel lines

-- these words say that a link of the site goes through a tunnel
pub record IsTunnelLine (site : Site) (line : List (List ℕ)) (link : SiteAction) : Type 0 where
  pub relay : List ℕ
  pub action : List ℕ
  pub whole : line ≡ codes "tunnel" ∷ relay ∷ action ∷ []
  pub is : link_named site relay action ≡ Some link

-- What the line of this number, of these words, says behind these tunnels: nothing where it is no tunnel line, else a link that none of them is of.
abbrev pub Says : Site → List Tunnel → ℕ → List (List ℕ) → Option Tunnel → Type 0
Says site before number line None = is_tunnel line ≡ false
Says site before number line (Some it) = IsTunnelLine site line it.action × (it.line ≡ number) × (IsGiven before it.action → ⊥)

-- these tunnels, and the one that a line says
abbrev pub with_tunnel : List Tunnel → Option Tunnel → List Tunnel
with_tunnel before None = before
with_tunnel before (Some it) = before ++ it ∷ []

-- what these lines say, in their order
pub data AreTunnels (site : Site) : List (List (List ℕ)) → List Tunnel → Type 0 where
  none : AreTunnels site [] []
  more : (lines : List (List (List ℕ))) (tunnels : List Tunnel) (line : List (List ℕ)) (it : Option Tunnel) → AreTunnels site lines tunnels
      → Says site tunnels (length lines + 1) line it
      → AreTunnels site (lines ++ line ∷ []) (with_tunnel tunnels it)

-- each tunnel line of a text names a link of the site, no two of them one
abbrev pub NameLinks : Site → List ℕ → Type 0
NameLinks site text = (tunnels : List Tunnel) × AreTunnels site (map words_of (lines_of text)) tunnels

-- ---- faults

-- No forward has these names: no relay has the first, or that relay has no forward of the second.
pub data IsNoLink (site : Site) (number : ℕ) (relay action : List ℕ) : SiteFault → Type 0 where
  no_relay : relay_named site.relays relay ≡ None → IsNoLink site number relay action (fault.Line number)
  no_action : (at : ℕ) → relay_named site.relays relay ≡ Some at → link_at site action at ≡ None
      → IsNoLink site number relay action (fault.NoSuchAction number)

-- The line of this number, of these words, is a tunnel line with this fault, behind these tunnels: it isn't of three words, there is no such link, or
-- one of them is of that link.
pub data IsFaulty (site : Site) (before : List Tunnel) (number : ℕ) (line : List (List ℕ)) : SiteFault → Type 0 where
  no_shape : is_tunnel line ≡ true → (length line ≡ 3 → ⊥) → IsFaulty site before number line (fault.Line number)
  no_link : (relay action : List ℕ) {it : SiteFault} → line ≡ codes "tunnel" ∷ relay ∷ action ∷ [] → IsNoLink site number relay action it
      → IsFaulty site before number line it
  again : (link : SiteAction) → IsTunnelLine site line link → IsGiven before link → IsFaulty site before number line (fault.Duplicate number)

-- the first tunnel line of a text that has a fault has this one
pub record HasTunnelFault (site : Site) (text : List ℕ) (it : SiteFault) : Type 0 where
  pub before : List (List (List ℕ))
  pub line : List (List ℕ)
  pub later : List (List (List ℕ))
  pub whole : map words_of (lines_of text) ≡ before ++ line ∷ later
  pub tunnels : List Tunnel
  pub are_tunnels : AreTunnels site before tunnels
  pub faulty : IsFaulty site tunnels (length before + 1) line it
