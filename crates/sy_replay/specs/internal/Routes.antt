-- Where the actions of a site lead to, as a table: for each relay a row, with an entry for each of its actions.
use Rattle.std.specs.Prelude.{ℕ, List, [], ◌∷◌, ◌++◌, Option, None, length, map, slice_index_or}
use Rattle.std.specs.Global.{Vec}
use Rattle.sy_site.specs.declared.site.SiteAction.{SiteAction}
use Rattle.sy_site.specs.declared.site.SiteInput.{SiteInput}
use Rattle.sy_site.specs.Sites.{Site, plan_at, target}

-- the first so many values of a function
abbrev pub first_of : {A : Type 0} → (ℕ → A) → ℕ → List A
first_of f ℕ.zero = []
first_of f (ℕ.suc n) = first_of f n ++ f n ∷ []

abbrev pub target_at : Site → ℕ → ℕ → Option SiteInput
target_at site relay action = target site (record { relay = relay; action = action })

abbrev pub row_of : Site → ℕ → List (Option SiteInput)
row_of site relay = first_of (target_at site relay) (length (plan_at site relay).actions)

abbrev pub table_of : Site → List (List (Option SiteInput))
table_of site = first_of (row_of site) (length site.relays)

abbrev pub rows_of : List (Vec (Option SiteInput)) → List (List (Option SiteInput))
rows_of rows = map (λ (v : Vec (Option SiteInput)). v.items) rows

-- what a table says of an action; of one that isn't in it nothing
abbrev pub entry_in : List (List (Option SiteInput)) → SiteAction → Option SiteInput
entry_in rows link = slice_index_or (slice_index_or rows link.relay []) link.action None
