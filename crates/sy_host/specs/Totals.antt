-- The totals that a relay prints (this profile's own).
use Rattle.std.specs.Prelude.{◌≡◌, ℕ, ◌+◌, ◌-◌, ◌<◌, ◌^◌, Bool, true, List, [], ◌∷◌, ◌++◌, Option, None, Some, codes, length, sum_by}
use Rattle.std.specs.Fmt.{decimal}
use Rattle.std.specs.Io.KnownBytes.{Appends}
use Rattle.sy_rules.specs.declared.parts.Action.{Action}
use Rattle.sy_rules.specs.declared.parts.Input.{Input}
use Rattle.sy_chain.specs.Entries.{Entry}
use Rattle.sy_board.specs.relay.Boards.{Account}
use Rattle.sy_board.specs.relay.Totals.{Counts, GuardState, Totals}
use Rattle.sy_runtime.specs.Connections as connections
use Rattle.sy_runtime.specs.Stopping.{Stops}
use Rattle.sy_runtime.specs.declared.untaken.Untaken.{Untaken}
use Rattle.sy_report.specs.Printed.{printed}
use Rattle.sy_report.specs.Reports.{line_feed}
use Rattle.sy_outlets.specs.Left.{Keeps}

-- the losses: at an input or in its hand, by a post, and as an entry left a queue
abbrev pub lost : Totals → ℕ
lost totals = totals.lost_in + totals.lost_post + totals.lost_out

-- taken T lost L held H
abbrev pub messages_line : (taken lost held : ℕ) → List ℕ
messages_line taken lost held =
    codes "taken " ++ decimal taken ++ codes " lost " ++ decimal lost ++ codes " held " ++ decimal held ++ line_feed ∷ []

-- behind the name of an action: due D done X given-up G left F
abbrev pub counts_text : ℕ → ℕ → ℕ → ℕ → List ℕ
counts_text due done given_up left =
    codes " due " ++ decimal due ++ codes " done " ++ decimal done ++ codes " given-up " ++ decimal given_up
    ++ codes " left " ++ decimal left ++ line_feed ∷ []

abbrev pub line_with : List ℕ → ℕ → ℕ → ℕ → ℕ → List ℕ
line_with name due done given_up left = printed name ++ counts_text due done given_up left

-- those are left that became due and were neither done nor given up
abbrev pub action_line : List ℕ → Counts → List ℕ
action_line name counts = line_with name counts.due counts.done counts.given_up (counts.due - (counts.done + counts.given_up))

-- a line for each action
abbrev pub action_lines : List Action → List Counts → List ℕ
action_lines (action ∷ actions) (counts ∷ others) = action_line action.name counts ++ action_lines actions others
action_lines _ _ = []

-- unread N, where that is told
abbrev pub unread_line : Option ℕ → List ℕ
unread_line None = []
unread_line (Some unread) = codes "unread " ++ decimal unread ++ line_feed ∷ []

-- So many frames carried no message: that is told, unless it is none.
abbrev pub IsReported : ℕ → Option ℕ → Type 0
IsReported unread None = unread ≡ 0
IsReported unread (Some reported) = reported ≡ unread

-- so many messages were taken and lost, so many are held, this is told of frames that carry none, and this was counted of these actions
abbrev pub counts_lines : List Action → (taken lost held : ℕ) → Option ℕ → List Counts → List ℕ
counts_lines actions taken lost held unread counts = messages_line taken lost held ++ unread_line unread ++ action_lines actions counts

-- the totals of a relay with these actions, which still holds so many entries
abbrev pub totals_text : List Action → Totals → ℕ → Option ℕ → List ℕ
totals_text actions totals held unread = counts_lines actions totals.taken (lost totals) held unread totals.actions

-- The totals were written, with the number of the entries that are left, and with what is told of frames that carried no message. (Of 2^64 entries or
-- more it isn't said which number.)
pub record WroteTotals (actions : List Action) (totals : Totals) (left : List Entry) (unread : Option ℕ) (old new : Option (List ℕ)) : Type 0 where
  pub held : ℕ
  pub held_is : length left < 2 ^ 64 → held ≡ length left
  pub wrote : Appends old new (totals_text actions totals held unread)

-- how many frames of these connections carried no message
abbrev pub unread_of : List connections.Counts → ℕ
unread_of ends = sum_by (λ end. end.unread) ends

-- What was written is the totals of a relay that was started with this guard, or with none, and has stopped: they meet the laws, and agree with what
-- its connections and the hatches of its actions counted, frames that carry no message with them. Where what is left is wanted, all that it still held was kept, with what the connections of
-- its inputs had read and not taken.
pub record EndsWithTotals {S : Type 0} (actions : List Action) (guard : Option GuardState) (old new : Option (List ℕ)) (wanted : Bool)
    (Kept : S → ℕ → List ℕ → S → Type 0) (inputs : List Input) (store store' : S) : Type 0 where
  pub ends : List connections.Counts
  pub account : Account
  pub left : List Entry
  pub untaken : List (List Untaken)
  pub made : List ℕ
  pub stops : Stops guard ends account left made
  pub unread : Option ℕ
  pub unread_is : unread_of ends < 2 ^ 128 → IsReported (unread_of ends) unread
  pub wrote : WroteTotals actions account.totals left unread old new
  pub keeps : wanted ≡ true → Keeps Kept inputs left untaken store store'
