-- What a connection holds once what stands first was kept, or has a message.
use Rattle.std.specs.Prelude.{ℕ, List, [], ◌∷◌, ◌++◌, Option, None, Some, Result, Ok, Err, option_to_list}
use Rattle.sy_runtime.specs.Connections.{Counts, Kept}
use Rattle.sy_runtime.specs.internal.Held.{Holds}
use Rattle.sy_runtime.specs.internal.Taking.{HasMessage}
use Rattle.sy_runtime.specs.declared.untaken.Item.{Item}
use Rattle.sy_runtime.specs.declared.connection.halt.Halt.{Halt}

-- nothing is left but from the first message on
abbrev pub IsUpToMessage : List Item → Type 0
IsUpToMessage [] = Unit {0}
IsUpToMessage (item ∷ later) = HasMessage item

-- it was kept; or it stands first still, where it isn't none
abbrev pub KeepIs : Result (Option Item) (Halt × Option Item) → List ℕ → Counts → Kept → List Item → List ℕ → Type 0
KeepIs (Ok None) read end kept later left = Holds read end kept later left
KeepIs (Ok (Some item)) read end kept later left = Holds read end kept (item ∷ later) left
KeepIs (Err e) read end kept later left = Holds read end kept (option_to_list e.1 ++ later) left
