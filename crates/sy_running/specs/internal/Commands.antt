-- What some of the words of the command that runs a relay are.
use Rattle.std.specs.Prelude.{ℕ, List, ◌++◌, option_map, option_to_list}
use Rattle.sy_running.specs.Words.{AreRunArgs}
use Rattle.sy_running.specs.declared.words.Args.{Args}

-- what some of the words after that of a run are
abbrev pub AreArgs : List (List ℕ) → Args → Type 0
AreArgs words found =
    AreRunArgs words (option_to_list (option_map (λ word. word.now) found.first) ++ option_to_list (option_map (λ word. word.now) found.second))
    (record {
      is_unchecked = found.is_unchecked;
      is_explained = found.is_explained;
      left = option_map (λ file. file.now) found.left;
      unread = option_map (λ file. file.now) found.unread;
      drain = found.drain;
      metrics = option_map (λ file. file.now) found.metrics;
      metrics_every = found.metrics_every;
    })
