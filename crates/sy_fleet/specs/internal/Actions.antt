-- Actions in a plan.
use Rattle.std.specs.Prelude.{◌≡◌, ℕ, Bool, false, List, ◌++◌, Option, None, Some, codes, if◌then◌else◌, option_map}
use Rattle.std.specs.Fmt.{decimal}
use Rattle.std.specs.Str.{bytes_eq}
use Rattle.sy_fleet.specs.declared.actions.Found.{Found}
use Rattle.sy_fleet.specs.declared.fleet.Loss.{Loss}
use Rattle.sy_fleet.specs.declared.fleet.Loss.TheVariants as loss
use Rattle.sy_fleet.specs.declared.walk.Walk.{Walk}
use Rattle.sy_fleet.specs.internal.Tests.{Adds, IsOpen, if_text}

-- `action.resumeRetryCount` is -1; rsyslogd tries once where it isn't given
abbrev pub is_endless : Option (List ℕ) → Bool
is_endless None = false
is_endless (Some given) = bytes_eq given (codes "-1")

-- An action in the plan is tried without end where that one is, and nothing makes it lose messages all the same.
abbrev pub retries_of : Loss → Option (List ℕ) → List ℕ
retries_of loss.None given = if is_endless given then codes "-1" else codes "0"
retries_of loss.Datagram given = codes "0"
retries_of loss.DynamicFile given = codes "0"
retries_of loss.Asynchronous given = codes "0"

-- the action of a number, with these retries and these parameters of its queue
abbrev pub action_text : ℕ → (retries queue : List ℕ) → List ℕ
action_text number retries queue =
    (((((((codes "action(name=\"a" ++ decimal number) ++ codes "\" type=\"omfile\" file=\"a") ++ decimal number)
    ++ codes "\" action.resumeRetryCount=\"") ++ retries) ++ codes "\"") ++ queue) ++ codes ")\n"

-- the same of one that is found, with its retries
abbrev pub found_text : ℕ → Found → List ℕ → List ℕ
found_text number found queue = action_text number (retries_of found.loss (option_map (λ it. it.now) found.retries)) queue

-- What an action comes to: it is executed for each message, or where it isn't for each one under a test that is left open.
pub data IsAction (number : ℕ) (found : Found) (queue : List ℕ) : List ℕ → Type 0 where
  always : found.is_conditional ≡ false → IsAction number found queue (found_text number found queue)
  sometimes : (test : List ℕ) → IsOpen test → IsAction number found queue ((if_text test ++ found_text number found queue) ++ codes "}\n")

-- Such an action comes behind the statements of the ruleset that is read.
pub record AddsAction (number : ℕ) (found : Found) (queue : List ℕ) (before after : Walk) : Type 0 where
  pub text : List ℕ
  pub is_action : IsAction number found queue text
  pub adds : Adds text before after
