-- What the private functions say that judge a row.
use Rattle.std.specs.Prelude.{◌≡◌, ℕ, List}
use Rattle.sy_wire.specs.declared.class.Class.{Class}
use Rattle.sy_site.specs.declared.site.SiteAction.{SiteAction}
use Rattle.sy_site.specs.declared.site.SiteInput.{SiteInput}
use Rattle.sy_site.specs.Sites.{Site}
use Rattle.sy_fit.specs.Fit.{IsClean}
use Rattle.sy_site.specs.Names.{action_name, name_of, port_of}
use Rattle.sy_flows.specs.declared.lists.InnerList.{InnerList}

-- a reach row names the input, which is clean
abbrev pub IsReach : Site → Class → SiteInput → List ℕ → ℕ → Type 0
IsReach site class input relay port = (relay ≡ name_of site input.relay) × (port ≡ port_of site input) × IsClean site class input

-- a branch row names the input
abbrev pub NamesInput : Site → SiteInput → List ℕ → ℕ → Type 0
NamesInput site input relay port = (relay ≡ name_of site input.relay) × (port ≡ port_of site input)

-- an inner row names the list
abbrev pub NamesInner : Site → InnerList → List ℕ → ℕ → Type 0
NamesInner site inner relay list = (relay ≡ name_of site inner.relay) × (list ≡ inner.list)

-- a path row names the entry and the archive
abbrev pub NamesPath : Site → SiteInput → SiteAction → List ℕ → ℕ → List ℕ → List ℕ → Type 0
NamesPath site entry archive relay port archive_relay action = (relay ≡ name_of site entry.relay) × (port ≡ port_of site entry)
    × (archive_relay ≡ name_of site archive.relay) × (action ≡ action_name site archive)
