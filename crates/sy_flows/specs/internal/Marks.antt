-- Marks of places, by which one look tells what was met.
use Rattle.std.specs.Prelude.{◌≡◌, ℕ, ◌<◌, ◌+◌, ◌*◌, ◌↔◌, Bool, true, false, Contains, List, get_or}
use Rattle.std.specs.List.{list_any}
use Rattle.sy_site.specs.declared.site.SiteInput.{SiteInput}
use Rattle.sy_flows.specs.declared.lists.InnerList.{InnerList}
use Rattle.sy_flows.specs.Members.{same_input}
use Rattle.sy_flows.specs.Leads.{same_list}

-- the place is marked, and no other mark changes
pub record IsMarkedMore (old : List Bool) (place : ℕ) (new : List Bool) : Type 0 where
  pub has : get_or new place false ≡ true
  pub rest : (at : ℕ) → (at ≡ place → ⊥) → get_or new at false ≡ get_or old at false

-- the place of an input, of the first 64 of its relay
abbrev pub place_of : SiteInput → ℕ
place_of x = 64 * x.relay + x.input

-- each of these inputs is marked that has a place, and no other
abbrev pub AreMarked : List SiteInput → List Bool → Type 0
AreMarked inputs marks = (x : SiteInput) → x.input < 64 → get_or marks (place_of x) false ≡ list_any (same_input x) inputs

-- the place of a list, of one of the first 64 relays
abbrev pub list_place : InnerList → ℕ
list_place x = 64 * x.list + x.relay

-- each of these lists of relays is marked that has a place, and no other
abbrev pub AreListsMarked : List InnerList → List Bool → Type 0
AreListsMarked lists marks = (x : InnerList) → x.relay < 64 → get_or marks (list_place x) false ≡ list_any (same_list x) lists

-- each of these lists of one relay is marked, and no other
abbrev pub AreListed : List ℕ → List Bool → Type 0
AreListed lists marks = (list : ℕ) → Contains lists list ↔ (get_or marks list false ≡ true)
