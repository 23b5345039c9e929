-- The option by which files of any kind are read.
use Rattle.std.specs.Prelude.{ℕ, Bool, false, ◌==◌, ◌&&◌, ◌||◌, List, [], ◌∷◌, codes}
use Rattle.std.specs.Str.{bytes_eq}
use Rattle.sy_report.specs.Words.{times}

abbrev pub is_any_file : List ℕ → Bool
is_any_file word = bytes_eq word (codes "--any-file")

-- the word of a command over a site
abbrev pub is_over_site : List ℕ → Bool
is_over_site word = bytes_eq word (codes "check") || bytes_eq word (codes "certify") || bytes_eq word (codes "verify") || bytes_eq word (codes "replay")
    || bytes_eq word (codes "graph") || bytes_eq word (codes "run")

-- words that begin with it
abbrev pub are_over_site : List (List ℕ) → Bool
are_over_site [] = false
are_over_site (word ∷ words) = is_over_site word

-- The words of a command over a site have the option once.
abbrev pub ask_any_file : List (List ℕ) → Bool
ask_any_file words = are_over_site words && (times (codes "--any-file") words == 1)
