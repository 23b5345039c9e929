-- The lines of an events file (this profile's own), each for one event at a site. Single spaces stand between the words of a line.
--   take RELAY PORT H new RAW
--   take RELAY PORT H link RELAY A PLACE
--   enter RELAY PORT H                     and `expire`
--   grab RELAY W                           and `done`, `post`
--   fail RELAY W yes                       and `giveup`; or `no`
--   postlost RELAY W full                  or `memory`
use Rattle.std.specs.Prelude.{◌≡◌, ◌<◌, ℕ, Bool, true, false, not, ◌&&◌, ◌||◌, ◌==◌, if◌then◌else◌, nat_le, List, [], ◌∷◌, ◌⊎◌, length, Option, Some, None, option_and_then, codes}
use Rattle.std.specs.Arc.{arc_value}
use Rattle.std.specs.List.{slice_index}
use Rattle.std.specs.Str.Parse.{digits_value}
use Rattle.sy_wire.specs.Messages.{IsMessage, Said}
use Rattle.sy_wire.specs.Numbers.{is_numeral}
pub use Rattle.sy_wire.specs.Words.{words_in}
use Rattle.sy_board.specs.relay.Steps as steps
use Rattle.sy_site.specs.declared.site.SiteAction.{SiteAction}
use Rattle.sy_site.specs.declared.site.SiteInput.{SiteInput}
use Rattle.sy_site.specs.Sites.{Site, input_at_port, plan_at, relay_named}
use Rattle.sy_site.specs.machine.Steps.{SiteEvent}
use Rattle.sy_replay.specs.declared.event.Event.{Event}
use Rattle.sy_replay.specs.declared.event.Event.TheVariants as event
use Rattle.sy_replay.specs.declared.line.fault.EventFault.{EventFault}
use Rattle.sy_replay.specs.declared.line.fault.EventFault.TheVariants as fault
use Rattle.sy_replay.specs.declared.line.verb.Verb.{Verb}
use Rattle.sy_replay.specs.declared.line.verb.Verb.TheVariants as verb
pub use Rattle.sy_replay.specs.Events.{site_event}

-- ---- words and numbers

-- an empty line, and one that begins with a number sign
abbrev pub is_skipped : List ℕ → Bool
is_skipped [] = true
is_skipped (b ∷ line) = b == 35

-- 1 to 10 digits, with no leading zero
abbrev pub is_number : List ℕ → Bool
is_number word = is_numeral word && (nat_le (length word) 10 && (nat_le (length word) 1 || not (slice_index word 0 == 48)))

unfoldable pub number_of : List ℕ → Option ℕ
number_of word = if is_number word then Some (digits_value 10 word) else None

-- ---- the parts of a line

-- the first word
abbrev pub word_of : Verb → List ℕ
word_of verb.Take = codes "take"
word_of verb.Enter = codes "enter"
word_of verb.Expire = codes "expire"
word_of verb.Grab = codes "grab"
word_of verb.Done = codes "done"
word_of verb.Fail = codes "fail"
word_of verb.GiveUp = codes "giveup"
word_of verb.Post = codes "post"
word_of verb.PostLost = codes "postlost"

-- the input of a relay, by its name, at a port
abbrev pub input_named : Site → List ℕ → ℕ → Option SiteInput
input_named site relay port = option_and_then (λ r. input_at_port site r port) (relay_named site.relays relay)

-- RELAY PORT H: a hand of an input, and the words behind it
pub record IsHand (site : Site) (words : List (List ℕ)) (to : SiteInput) (hand : ℕ) (behind : List (List ℕ)) : Type 0 where
  pub relay : List ℕ
  pub port_word : List ℕ
  pub hand_word : List ℕ
  pub port : ℕ
  pub whole : words ≡ relay ∷ port_word ∷ hand_word ∷ behind
  pub port_is : number_of port_word ≡ Some port
  pub input_is : input_named site relay port ≡ Some to
  pub hand_is : number_of hand_word ≡ Some hand
  pub hand_most : hand < 64

-- RELAY W: a worker of a relay's plan, and the words behind it
pub record IsWorker (site : Site) (words : List (List ℕ)) (relay worker : ℕ) (behind : List (List ℕ)) : Type 0 where
  pub name : List ℕ
  pub worker_word : List ℕ
  pub whole : words ≡ name ∷ worker_word ∷ behind
  pub relay_is : relay_named site.relays name ≡ Some relay
  pub worker_is : number_of worker_word ≡ Some worker
  pub is_there : worker < length (plan_at site relay).workers

-- RELAY A PLACE: an action of a relay's plan, and a place. Whether the action is a forward, and a copy stands at the place, is no matter of the line.
pub record IsPlace (site : Site) (words : List (List ℕ)) (link : SiteAction) (place : ℕ) : Type 0 where
  pub name : List ℕ
  pub action_word : List ℕ
  pub place_word : List ℕ
  pub whole : words ≡ name ∷ action_word ∷ place_word ∷ []
  pub relay_is : relay_named site.relays name ≡ Some link.relay
  pub action_is : number_of action_word ≡ Some link.action
  pub is_there : link.action < length (plan_at site link.relay).actions
  pub place_is : number_of place_word ≡ Some place

-- whether the device took the message
abbrev pub yes_or_no : Bool → List ℕ
yes_or_no true = codes "yes"
yes_or_no false = codes "no"

-- why a post is lost: since memory ran out, or else since its queue is full
abbrev pub cause_word : Bool → List ℕ
cause_word true = codes "memory"
cause_word false = codes "full"

-- ---- the event of a line

-- new RAW: RAW is all that is behind the space after `new`, and a message.
pub record IsNew (to : SiteInput) (hand : ℕ) (words : List (List ℕ)) (e : SiteEvent) : Type 0 where
  pub message : Said
  pub whole : words ≡ codes "new" ∷ words_in message.raw
  pub is_message : IsMessage message
  pub is : e ≡ SiteEvent.TakeNew to hand message

-- link RELAY A PLACE
pub record IsFrom (site : Site) (to : SiteInput) (hand : ℕ) (words : List (List ℕ)) (e : SiteEvent) : Type 0 where
  pub behind : List (List ℕ)
  pub link : SiteAction
  pub place : ℕ
  pub whole : words ≡ codes "link" ∷ behind
  pub is_place : IsPlace site behind link place
  pub is : e ≡ SiteEvent.TakeFrom to hand link place

abbrev pub TakesTo : Site → SiteInput → ℕ → List (List ℕ) → SiteEvent → Type 0
TakesTo site to hand words e = IsNew to hand words e ⊎ IsFrom site to hand words e

-- RELAY PORT H with one of these behind it
pub record IsTake (site : Site) (words : List (List ℕ)) (e : SiteEvent) : Type 0 where
  pub to : SiteInput
  pub hand : ℕ
  pub behind : List (List ℕ)
  pub is_hand : IsHand site words to hand behind
  pub takes : TakesTo site to hand behind e

-- a step of a hand
pub record OfHand (site : Site) (words : List (List ℕ)) (step : ℕ → ℕ → steps.Event) (e : SiteEvent) : Type 0 where
  pub to : SiteInput
  pub hand : ℕ
  pub is_hand : IsHand site words to hand []
  pub is : e ≡ SiteEvent.Inside to.relay (step to.input hand)

-- a step of a worker, with these words behind the worker
pub record OfWorker (site : Site) (words behind : List (List ℕ)) (step : ℕ → steps.Event) (e : SiteEvent) : Type 0 where
  pub relay : ℕ
  pub worker : ℕ
  pub is_worker : IsWorker site words relay worker behind
  pub is : e ≡ SiteEvent.Inside relay (step worker)

-- the event of the words behind the first one
abbrev pub IsBehind : Site → Verb → List (List ℕ) → SiteEvent → Type 0
IsBehind site verb.Take words e = IsTake site words e
IsBehind site verb.Enter words e = OfHand site words steps.Event.Enter e
IsBehind site verb.Expire words e = OfHand site words steps.Event.Expire e
IsBehind site verb.Grab words e = OfWorker site words [] steps.Event.Grab e
IsBehind site verb.Done words e = OfWorker site words [] steps.Event.Done e
IsBehind site verb.Fail words e = (took : Bool) × OfWorker site words (yes_or_no took ∷ []) (λ w. steps.Event.Fail w took) e
IsBehind site verb.GiveUp words e = (took : Bool) × OfWorker site words (yes_or_no took ∷ []) (λ w. steps.Event.GiveUp w took) e
IsBehind site verb.Post words e = OfWorker site words [] steps.Event.Post e
IsBehind site verb.PostLost words e = (memory : Bool) × OfWorker site words (cause_word memory ∷ []) (λ w. steps.Event.PostLost w memory) e

-- The line stands for the event.
pub record StandsFor (site : Site) (line : List ℕ) (e : SiteEvent) : Type 0 where
  pub first : Verb
  pub behind : List (List ℕ)
  pub whole : words_in line ≡ word_of first ∷ behind
  pub is_behind : IsBehind site first behind e

abbrev pub IsNoEvent : Site → List ℕ → Type 0
IsNoEvent site line = (e : SiteEvent) → StandsFor site line e → ⊥

-- ---- what is read of a line

abbrev pub IsRead : Site → List ℕ → Option Event → Type 0
IsRead site line None = is_skipped line ≡ true
IsRead site line (Some e) = StandsFor site line (site_event e)

-- take RELAY PORT H new RAW, be RAW a message or not
pub record BringsRaw (site : Site) (line : List ℕ) : Type 0 where
  pub to : SiteInput
  pub hand : ℕ
  pub raw : List ℕ
  pub behind : List (List ℕ)
  pub whole : words_in line ≡ word_of verb.Take ∷ behind
  pub is_hand : IsHand site behind to hand (codes "new" ∷ words_in raw)

-- Why nothing is read: the line isn't skipped, and stands for no event; or memory ran out, at a line that brings a RAW.
abbrev pub IsUnread : Site → List ℕ → EventFault → Type 0
IsUnread site line fault.Line = (is_skipped line ≡ false) × IsNoEvent site line
IsUnread site line fault.NoMemory = BringsRaw site line

-- ---- the faults

abbrev pub fault_number : EventFault → ℕ
fault_number fault.Line = 51
fault_number fault.NoMemory = 58

-- the number and the name
abbrev pub fault_words : EventFault → List ℕ
fault_words fault.Line = codes "51 Line"
fault_words fault.NoMemory = codes "58 NoMemory"
