-- The words of the command that runs a relay.
use Rattle.std.specs.Prelude.{◌≡◌, ◌≢◌, ◌≤◌, ℕ, Bool, true, false, List, [], ◌∷◌, Option, None, Some, codes}
use Rattle.std.specs.Char.{is_ascii_digit}
use Rattle.std.specs.List.{list_all}
use Rattle.std.specs.Str.Parse.{digits_value}
use Rattle.sy_report.specs.Words.{is_plain}

-- what the options of `run` say: whether the site isn't checked, whether a fault of the start is explained, the name of the file for what is left,
-- that of the file for frames that carry no message, for how many seconds the relay may empty, the name of the file for the metrics, and after how
-- many seconds that is written again
pub record RunOptions : Type 0 where
  pub is_unchecked : Bool
  pub is_explained : Bool
  pub left : Option (List ℕ)
  pub unread : Option (List ℕ)
  pub drain : Option ℕ
  pub metrics : Option (List ℕ)
  pub metrics_every : Option ℕ

abbrev pub no_options : RunOptions
no_options = record { is_unchecked = false; is_explained = false; left = None; unread = None; drain = None; metrics = None; metrics_every = None }

-- decimal digits that make this number, which is no more than the seconds of a day
pub record IsSeconds (digits : List ℕ) (number : ℕ) : Type 0 where
  pub some : digits ≢ []
  pub digits_are : list_all is_ascii_digit digits ≡ true
  pub value : number ≡ digits_value 10 digits
  pub most : number ≤ 86400

-- the same of a number that isn't 0
pub record IsPeriod (digits : List ℕ) (number : ℕ) : Type 0 where
  pub is_seconds : IsSeconds digits number
  pub some : number ≢ 0

-- These words are names, in their order, with options of `run` among them at any place, each at most once.
pub data AreRunArgs : List (List ℕ) → List (List ℕ) → RunOptions → Type 0 where
  nothing : AreRunArgs [] [] no_options
  name :
      {words names : List (List ℕ)} {options : RunOptions} (word : List ℕ)
      → is_plain word ≡ true → AreRunArgs words names options → AreRunArgs (word ∷ words) (word ∷ names) options
  unchecked :
      {words names : List (List ℕ)} {options : RunOptions}
      → options.is_unchecked ≡ false → AreRunArgs words names options
      → AreRunArgs (codes "--unchecked" ∷ words) names (record options { is_unchecked = true })
  explained :
      {words names : List (List ℕ)} {options : RunOptions}
      → options.is_explained ≡ false → AreRunArgs words names options
      → AreRunArgs (codes "--explain" ∷ words) names (record options { is_explained = true })
  left :
      {words names : List (List ℕ)} {options : RunOptions} (file : List ℕ)
      → is_plain file ≡ true → options.left ≡ None → AreRunArgs words names options
      → AreRunArgs (codes "--left" ∷ file ∷ words) names (record options { left = Some file })
  unread :
      {words names : List (List ℕ)} {options : RunOptions} (file : List ℕ)
      → is_plain file ≡ true → options.unread ≡ None → AreRunArgs words names options
      → AreRunArgs (codes "--unread" ∷ file ∷ words) names (record options { unread = Some file })
  drain :
      {words names : List (List ℕ)} {options : RunOptions} (digits : List ℕ) (number : ℕ)
      → IsSeconds digits number → options.drain ≡ None → AreRunArgs words names options
      → AreRunArgs (codes "--drain" ∷ digits ∷ words) names (record options { drain = Some number })
  metrics :
      {words names : List (List ℕ)} {options : RunOptions} (file : List ℕ)
      → is_plain file ≡ true → options.metrics ≡ None → AreRunArgs words names options
      → AreRunArgs (codes "--metrics" ∷ file ∷ words) names (record options { metrics = Some file })
  metrics_every :
      {words names : List (List ℕ)} {options : RunOptions} (digits : List ℕ) (number : ℕ)
      → IsPeriod digits number → options.metrics_every ≡ None → AreRunArgs words names options
      → AreRunArgs (codes "--metrics-every" ∷ digits ∷ words) names (record options { metrics_every = Some number })

-- `run`, and behind it the name of a site file and that of a relay, with these options; a time between two files of metrics stands beside their name alone
pub record AreRunOf (options : RunOptions) (words : List (List ℕ)) (site relay : List ℕ) : Type 0 where
  pub args : List (List ℕ)
  pub words_are : words ≡ codes "run" ∷ args
  pub args_are : AreRunArgs args (site ∷ relay ∷ []) options
  pub paired : options.metrics ≡ None → options.metrics_every ≡ None
