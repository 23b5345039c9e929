-- What the words of the command that runs a relay say.
use Rattle.std.specs.Prelude.{◌≡◌, ℕ, List, ◌∷◌, codes, option_map}
use Rattle.sy_running.specs.Words.{AreRunOf, RunOptions}
use Rattle.sy_running.specs.declared.words.RunWords.{RunWords}

-- the options of the command that runs a relay
abbrev pub options_of : RunWords → RunOptions
options_of found = record {
  is_unchecked = found.is_unchecked;
  is_explained = found.is_explained;
  left = option_map (λ file. file.now) found.left;
  unread = option_map (λ file. file.now) found.unread;
  drain = found.drain;
  metrics = option_map (λ file. file.now) found.metrics;
  metrics_every = found.metrics_every;
}

-- the words of that command, with the program's name before them
pub record IsRun (words : List (List ℕ)) (found : RunWords) : Type 0 where
  pub args : List (List ℕ)
  pub words_are : words ≡ codes "syc" ∷ args
  pub are_run : AreRunOf (options_of found) args found.site.now found.relay.now
