-- One line, one event at most.
use Rattle.std.proofs.Common.{◌≡◌, ℕ, List, [], ◌∷◌, inl, inr, Option, Some, None, Result, Ok, Err, refl, sym, ap, subst, ◌∙◌, get_or, arith}
use Rattle.std.specs.Prelude.{codes, IfErr, if◌then◌else◌}
use Rattle.std.specs.Str.{bytes_eq}
use Rattle.sy_site.specs.declared.site.SiteInput.{SiteInput}
use Rattle.sy_site.specs.declared.site.SiteAction.{SiteAction}
use Rattle.sy_site.specs.Sites.{Site, relay_named}
use Rattle.sy_site.specs.machine.Steps.{SiteEvent}
use Rattle.sy_replay.specs.declared.line.fault.EventFault.{EventFault}
use Rattle.sy_replay.specs.declared.line.fault.EventFault.TheVariants as fault
use Rattle.sy_replay.specs.declared.line.verb.Verb.{Verb}
use Rattle.sy_replay.specs.declared.line.verb.Verb.TheVariants as verb
use Rattle.sy_replay.specs.Lines.{BringsRaw, IsBehind, IsFrom, IsHand, IsNew, IsTake, IsWorker, StandsFor, TakesTo, IsPlace, input_named, number_of, word_of, words_in}
use Rattle.sy_replay.specs.internal.Reading.{IsHandRaw, IsNewRaw, NoEvent, WantsMemory}

-- ---- first words

abbrev verb_named : List ℕ → Option Verb
verb_named w =
    if bytes_eq w (codes "take") then Some verb.Take
    else if bytes_eq w (codes "enter") then Some verb.Enter
    else if bytes_eq w (codes "expire") then Some verb.Expire
    else if bytes_eq w (codes "grab") then Some verb.Grab
    else if bytes_eq w (codes "done") then Some verb.Done
    else if bytes_eq w (codes "fail") then Some verb.Fail
    else if bytes_eq w (codes "giveup") then Some verb.GiveUp
    else if bytes_eq w (codes "post") then Some verb.Post
    else if bytes_eq w (codes "postlost") then Some verb.PostLost
    else None

named : (v : Verb) → verb_named (word_of v) ≡ Some v
named verb.Take = refl
named verb.Enter = refl
named verb.Expire = refl
named verb.Grab = refl
named verb.Done = refl
named verb.Fail = refl
named verb.GiveUp = refl
named verb.Post = refl
named verb.PostLost = refl

some_same : {A : Type 0} {x y : A} → Some x ≡ Some y → x ≡ y
some_same e = cc

pub one_verb : (a b : Verb) → word_of a ≡ word_of b → a ≡ b
one_verb a b e = some_same (sym (named a) ∙ ap verb_named e ∙ named b)

pub first_same : {x y : List ℕ} {xs ys : List (List ℕ)} → x ∷ xs ≡ y ∷ ys → x ≡ y
first_same e = cc

pub behind_same : {x y : List ℕ} {xs ys : List (List ℕ)} → x ∷ xs ≡ y ∷ ys → xs ≡ ys
behind_same e = cc

-- what a line stands for is what is behind its first word
pub stands_behind : (site : Site) (line : List ℕ) (v : Verb) (rest : List (List ℕ)) (e : SiteEvent) → words_in line ≡ word_of v ∷ rest → StandsFor site line e
    → IsBehind site v rest e
stands_behind site line v rest e cut h =
    let same : word_of h.first ∷ h.behind ≡ word_of v ∷ rest = sym h.whole ∙ cut in
    subst (λ (u : Verb). IsBehind site u rest e) (one_verb h.first v (first_same same))
    (subst (λ (ws : List (List ℕ)). IsBehind site h.first ws e) (behind_same same) h.is_behind)

brings : (site : Site) (line : List ℕ) (v : Verb) (rest : List (List ℕ)) → words_in line ≡ word_of v ∷ rest → WantsMemory site v rest → BringsRaw site line
brings site line verb.Take rest cut (to, hand, raw, is) = record { to = to; hand = hand; raw = raw; behind = rest; whole = cut; is_hand = is }
brings site line verb.Enter rest cut h = absurd h
brings site line verb.Expire rest cut h = absurd h
brings site line verb.Grab rest cut h = absurd h
brings site line verb.Done rest cut h = absurd h
brings site line verb.Fail rest cut h = absurd h
brings site line verb.GiveUp rest cut h = absurd h
brings site line verb.Post rest cut h = absurd h
brings site line verb.PostLost rest cut h = absurd h

pub no_event : (site : Site) (line : List ℕ) (v : Verb) (rest : List (List ℕ)) (f : EventFault) → words_in line ≡ word_of v ∷ rest
    → NoEvent (IsBehind site v rest) (WantsMemory site v rest) f → NoEvent (StandsFor site line) (BringsRaw site line) f
no_event site line v rest fault.Line cut h = λ e stands. h e (stands_behind site line v rest e cut stands)
no_event site line v rest fault.NoMemory cut h = brings site line v rest cut h

-- the same, of the verb that a function was given
pub by_verb : {A : Type 0} (site : Site) (rest : List (List ℕ)) (v u : Verb) (r : Result A EventFault) → v ≡ u
    → IfErr r (λ f. NoEvent (IsBehind site u rest) (WantsMemory site u rest) f) → IfErr r (λ f. NoEvent (IsBehind site v rest) (WantsMemory site v rest) f)
by_verb site rest v u r e h = subst (λ (w : Verb). IfErr r (λ f. NoEvent (IsBehind site w rest) (WantsMemory site w rest) f)) (sym e) h

-- ---- takes

option_same : {A : Type 0} {o : Option A} {x y : A} → o ≡ Some x → o ≡ Some y → x ≡ y
option_same d e = some_same (sym d ∙ e)

-- the words of a hand name one
pub record AreOne (to other : SiteInput) (hand second : ℕ) (behind rest : List (List ℕ)) : Type 0 where
  pub inputs : to ≡ other
  pub hands : hand ≡ second
  pub behinds : behind ≡ rest

pub one_hand : (site : Site) (words : List (List ℕ)) (to other : SiteInput) (hand second : ℕ) (behind rest : List (List ℕ))
    → IsHand site words to hand behind → IsHand site words other second rest → AreOne to other hand second behind rest
one_hand site words to other hand second behind rest a b =
    let whole : a.relay ∷ a.port_word ∷ a.hand_word ∷ behind ≡ b.relay ∷ b.port_word ∷ b.hand_word ∷ rest = sym a.whole ∙ b.whole in
    let relays : a.relay ≡ b.relay = first_same whole in
    let later : a.port_word ∷ a.hand_word ∷ behind ≡ b.port_word ∷ b.hand_word ∷ rest = behind_same whole in
    let port_words : a.port_word ≡ b.port_word = first_same later in
    let last : a.hand_word ∷ behind ≡ b.hand_word ∷ rest = behind_same later in
    let hand_words : a.hand_word ≡ b.hand_word = first_same last in
    let ports : a.port ≡ b.port = option_same a.port_is (ap number_of port_words ∙ b.port_is) in
    record {
      inputs = option_same a.input_is (ap (λ r. input_named site r a.port) relays ∙ ap (input_named site b.relay) ports ∙ b.input_is);
      hands = option_same a.hand_is (ap number_of hand_words ∙ b.hand_is);
      behinds = behind_same last;
    }

pub takes_moved : (site : Site) (to other : SiteInput) (hand second : ℕ) (behind rest : List (List ℕ)) (e : SiteEvent) → AreOne to other hand second behind rest
    → TakesTo site to hand behind e → TakesTo site other second rest e
takes_moved site to other hand second behind rest e one h =
    subst (λ (t : SiteInput). TakesTo site t second rest e) one.inputs
    (subst (λ (n : ℕ). TakesTo site to n rest e) one.hands (subst (λ (ws : List (List ℕ)). TakesTo site to hand ws e) one.behinds h))

pub no_take : (site : Site) (words : List (List ℕ)) (to : SiteInput) (hand : ℕ) (behind : List (List ℕ)) (f : EventFault) → IsHand site words to hand behind
    → NoEvent (TakesTo site to hand behind) (IsNewRaw behind) f → NoEvent (IsTake site words) (IsHandRaw site words) f
no_take site words to hand behind fault.Line is h = λ e t.
    h e (takes_moved site t.to to t.hand hand t.behind behind e (one_hand site words t.to to t.hand hand t.behind behind t.is_hand is) t.takes)
no_take site words to hand behind fault.NoMemory is (raw, words_are) =
    (to, hand, raw, subst (λ (ws : List (List ℕ)). IsHand site words to hand ws) words_are is)

pub new_or_link : codes "new" ≡ codes "link" → ⊥
new_or_link e = omega (arith, ap (λ (w : List ℕ). get_or w 0 0) e)

pub only_new : {A : Type 0} (site : Site) (to : SiteInput) (hand : ℕ) (words rest : List (List ℕ)) (r : Result A EventFault) → words ≡ codes "new" ∷ rest
    → IfErr r (λ f. NoEvent (IsNew to hand (codes "new" ∷ rest)) (IsNewRaw (codes "new" ∷ rest)) f)
    → IfErr r (λ f. NoEvent (TakesTo site to hand words) (IsNewRaw words) f)
only_new site to hand words rest (Ok x) is h = tt
only_new site to hand words rest (Err fault.NoMemory) is (raw, are) = (raw, is ∙ are)
only_new site to hand words rest (Err fault.Line) is h = λ e t. elim t [
  | inl n ↦ h e (subst (λ (ws : List (List ℕ)). IsNew to hand ws e) is n)
  | inr l ↦ new_or_link (first_same (sym is ∙ l.whole))
]

pub only_from : {A : Type 0} (site : Site) (to : SiteInput) (hand : ℕ) (words rest : List (List ℕ)) (r : Result A EventFault) → words ≡ codes "link" ∷ rest
    → IfErr r (λ f. NoEvent (IsFrom site to hand (codes "link" ∷ rest)) ⊥ f) → IfErr r (λ f. NoEvent (TakesTo site to hand words) (IsNewRaw words) f)
only_from site to hand words rest (Ok x) is h = tt
only_from site to hand words rest (Err fault.NoMemory) is h = absurd h
only_from site to hand words rest (Err fault.Line) is h = λ e t. elim t [
  | inl n ↦ new_or_link (first_same (sym n.whole ∙ is))
  | inr l ↦ h e (subst (λ (ws : List (List ℕ)). IsFrom site to hand ws e) is l)
]

-- ---- workers and places

pub one_worker : (site : Site) (words : List (List ℕ)) (relay other worker second : ℕ) (behind rest : List (List ℕ))
    → IsWorker site words relay worker behind → IsWorker site words other second rest → (relay ≡ other) × (worker ≡ second) × (behind ≡ rest)
one_worker site words relay other worker second behind rest a b =
    let whole : a.name ∷ a.worker_word ∷ behind ≡ b.name ∷ b.worker_word ∷ rest = sym a.whole ∙ b.whole in
    let later : a.worker_word ∷ behind ≡ b.worker_word ∷ rest = behind_same whole in (
      option_same a.relay_is (ap (relay_named site.relays) (first_same whole) ∙ b.relay_is),
      option_same a.worker_is (ap number_of (first_same later) ∙ b.worker_is),
      behind_same later,
    )

same_action : {a b : SiteAction} → a.relay ≡ b.relay → a.action ≡ b.action → a ≡ b
same_action {a} {b} r n = ap (λ (k : ℕ). record { relay = k; action = a.action }) r ∙ ap (λ (k : ℕ). record { relay = b.relay; action = k }) n

pub one_place : (site : Site) (words : List (List ℕ)) (link other : SiteAction) (place second : ℕ)
    → IsPlace site words link place → IsPlace site words other second → (link ≡ other) × (place ≡ second)
one_place site words link other place second a b =
    let whole : a.name ∷ a.action_word ∷ a.place_word ∷ [] ≡ b.name ∷ b.action_word ∷ b.place_word ∷ [] = sym a.whole ∙ b.whole in
    let later : a.action_word ∷ a.place_word ∷ [] ≡ b.action_word ∷ b.place_word ∷ [] = behind_same whole in
    let last : a.place_word ∷ [] ≡ b.place_word ∷ [] = behind_same later in (
      same_action (option_same a.relay_is (ap (relay_named site.relays) (first_same whole) ∙ b.relay_is))
          (option_same a.action_is (ap number_of (first_same later) ∙ b.action_is)),
      option_same a.place_is (ap number_of (first_same last) ∙ b.place_is),
    )
