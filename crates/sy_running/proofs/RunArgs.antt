-- The words of the command that runs a relay.
use Rattle.std.proofs.Common.{◌≡◌, ◌<◌, ℕ, true, false, List, [], ◌∷◌, ◌++◌, option_to_list, is_some, length, refl, ap, subst, ◌∙◌, arith}
use Rattle.std.specs.Prelude.{Option, None, Some, option_map}
use Rattle.std.proofs.lemmas.List.{append-nil}
use Rattle.sy_running.specs.Words.{AreRunArgs, RunOptions}
use Rattle.sy_report.specs.Words.{is_plain}

-- where there is none, none is seen
pub none_seen : {A B : Type 0} (f : A → B) (o : Option A) → is_some o ≡ false → option_map f o ≡ None
none_seen f None none = refl
none_seen f (Some x) none = cc

-- one name in front of one, or of none
pub name_more : (word : List ℕ) (words : List (List ℕ)) (first second : Option (List ℕ)) (options : RunOptions) → second ≡ None → is_plain word ≡ true
    → AreRunArgs words (option_to_list first ++ option_to_list second) options → AreRunArgs (word ∷ words) (word ∷ option_to_list first) options
name_more word words first second options none plain are =
    AreRunArgs.name word plain
    (subst (λ names. AreRunArgs words names options) (ap (λ other. option_to_list first ++ option_to_list other) none ∙ append-nil (option_to_list first)) are)

-- no words
pub none_there : {A : Type 0} (items : List A) → length items < 1 → items ≡ []
none_there [] few = refl
none_there (item ∷ others) few = absurd (omega (arith, few))
