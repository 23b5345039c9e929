-- Which file keeps an input's frames that carry no message (this profile's own).
use Rattle.std.specs.Prelude.{◌≡◌, ℕ, List, Option, Some, None, map, option_map, slice_get}
use Rattle.sy_rules.specs.declared.parts.Input.{Input}

-- the first of two where it is there, else the second
abbrev pub own_or : Option (List ℕ) → Option (List ℕ) → Option (List ℕ)
own_or (Some own) given = Some own
own_or None given = given

-- the name of that file, where there is one: the one that the input names or, where it names none, the one that is given for all
abbrev pub unread_file : Option (List ℕ) → Input → Option (List ℕ)
unread_file given input = own_or input.unread_file given

-- of each of these inputs the number of that file, whose name is at this place among these; none of an input without a file
abbrev pub AreTheirFiles : Option (List ℕ) → List Input → List (List ℕ) → List (Option ℕ) → Type 0
AreTheirFiles given inputs names files =
    map (λ file. option_map (slice_get names) file) files ≡ map (λ input. option_map Some (unread_file given input)) inputs
