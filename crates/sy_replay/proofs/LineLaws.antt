-- A line stands for one event at most, and for none where it is skipped.
use Rattle.std.proofs.Common.{◌≡◌, ◌≤◌, ℕ, ◌==◌, Bool, true, false, List, [], ◌∷◌, inl, inr, refl, sym, ap, subst, ◌∙◌, get_or, arith, eqb-true}
use Rattle.std.specs.List.{onto_first}
use Rattle.std.proofs.lemmas.List.Splits.{slice_split-cons_no}
use Rattle.sy_wire.specs.Messages.{IsMessage, Said}
use Rattle.sy_board.specs.relay.Steps.{Event}
use Rattle.sy_site.specs.declared.site.SiteInput.{SiteInput}
use Rattle.sy_site.specs.declared.site.SiteAction.{SiteAction}
use Rattle.sy_site.specs.Sites.{Site}
use Rattle.sy_site.specs.machine.Steps.{SiteEvent}
use Rattle.sy_replay.specs.declared.line.verb.Verb.{Verb}
use Rattle.sy_replay.specs.declared.line.verb.Verb.TheVariants as verb
use Rattle.sy_replay.specs.Lines.{IsBehind, IsFrom, IsNew, IsNoEvent, IsPlace, IsTake, OfHand, OfWorker, StandsFor, TakesTo, cause_word, is_skipped, word_of, words_in, yes_or_no}
use Rattle.sy_replay.proofs.LineEvents.{behind_same, first_same, new_or_link, one_hand, one_place, one_worker, stands_behind, takes_moved}
use Rattle.sy_replay.proofs.LineWords.{same_line}

-- bytes are one message at most
abbrev pub OneMessage : Type 0
OneMessage = (a b : Said) → a.raw ≡ b.raw → IsMessage a → IsMessage b → a ≡ b

-- ---- takes

one_new : OneMessage → (to : SiteInput) (hand : ℕ) (words : List (List ℕ)) (e f : SiteEvent) → IsNew to hand words e → IsNew to hand words f → e ≡ f
one_new one to hand words e f a b =
    let raws : a.message.raw ≡ b.message.raw = same_line a.message.raw b.message.raw (behind_same (sym a.whole ∙ b.whole)) in
    a.is ∙ ap (λ (m : Said). SiteEvent.TakeNew to hand m) (one a.message b.message raws a.is_message b.is_message) ∙ sym b.is

one_from : (site : Site) (to : SiteInput) (hand : ℕ) (words : List (List ℕ)) (e f : SiteEvent) → IsFrom site to hand words e → IsFrom site to hand words f
    → e ≡ f
one_from site to hand words e f a b =
    let same = one_place site a.behind a.link b.link a.place b.place a.is_place
    (subst (λ (ws : List (List ℕ)). IsPlace site ws b.link b.place) (behind_same (sym b.whole ∙ a.whole)) b.is_place) in
    a.is ∙ ap (λ (l : SiteAction). SiteEvent.TakeFrom to hand l a.place) same.0 ∙ ap (SiteEvent.TakeFrom to hand b.link) same.1 ∙ sym b.is

one_to : OneMessage → (site : Site) (to : SiteInput) (hand : ℕ) (words : List (List ℕ)) (e f : SiteEvent) → TakesTo site to hand words e → TakesTo site to hand words f
    → e ≡ f
one_to one site to hand words e f (inl a) (inl b) = one_new one to hand words e f a b
one_to one site to hand words e f (inl a) (inr b) = absurd (new_or_link (first_same (sym a.whole ∙ b.whole)))
one_to one site to hand words e f (inr a) (inl b) = absurd (new_or_link (first_same (sym b.whole ∙ a.whole)))
one_to one site to hand words e f (inr a) (inr b) = one_from site to hand words e f a b

one_take : OneMessage → (site : Site) (words : List (List ℕ)) (e f : SiteEvent) → IsTake site words e → IsTake site words f → e ≡ f
one_take one site words e f a b =
    one_to one site b.to b.hand b.behind e f
    (takes_moved site a.to b.to a.hand b.hand a.behind b.behind e (one_hand site words a.to b.to a.hand b.hand a.behind b.behind a.is_hand b.is_hand) a.takes)
    b.takes

-- ---- steps inside relays

one_of_hand : (site : Site) (words : List (List ℕ)) (step : ℕ → ℕ → Event) (e f : SiteEvent) → OfHand site words step e → OfHand site words step f → e ≡ f
one_of_hand site words step e f a b =
    let same = one_hand site words a.to b.to a.hand b.hand [] [] a.is_hand b.is_hand in
    a.is ∙ ap (λ (t : SiteInput). SiteEvent.Inside t.relay (step t.input a.hand)) same.inputs
    ∙ ap (λ (n : ℕ). SiteEvent.Inside b.to.relay (step b.to.input n)) same.hands ∙ sym b.is

one_of_worker : (site : Site) (words behind : List (List ℕ)) (step : ℕ → Event) (e f : SiteEvent) → OfWorker site words behind step e
    → OfWorker site words behind step f → e ≡ f
one_of_worker site words behind step e f a b =
    let same = one_worker site words a.relay b.relay a.worker b.worker behind behind a.is_worker b.is_worker in
    a.is ∙ ap (λ (r : ℕ). SiteEvent.Inside r (step a.worker)) same.0 ∙ ap (λ (n : ℕ). SiteEvent.Inside b.relay (step n)) same.1 ∙ sym b.is

-- with a word behind the worker that says yes or no to something
one_answered : (site : Site) (words : List (List ℕ)) (word : Bool → List ℕ) (step : Bool → ℕ → Event) (e f : SiteEvent)
    → ((x y : Bool) → word x ≡ word y → x ≡ y) → (x y : Bool)
    → OfWorker site words (word x ∷ []) (step x) e → OfWorker site words (word y ∷ []) (step y) f → e ≡ f
one_answered site words word step e f differ x y a b =
    let same = one_worker site words a.relay b.relay a.worker b.worker (word x ∷ []) (word y ∷ []) a.is_worker b.is_worker in
    one_of_worker site words (word y ∷ []) (step y) e f
    (subst (λ (z : Bool). OfWorker site words (word z ∷ []) (step z) e) (differ x y (first_same same.2)) a) b

yes_and_no : (x y : Bool) → yes_or_no x ≡ yes_or_no y → x ≡ y
yes_and_no true true e = refl
yes_and_no false false e = refl
yes_and_no true false e = absurd (omega (arith, ap (λ (w : List ℕ). get_or w 0 0) e))
yes_and_no false true e = absurd (omega (arith, ap (λ (w : List ℕ). get_or w 0 0) e))

full_and_memory : (x y : Bool) → cause_word x ≡ cause_word y → x ≡ y
full_and_memory true true e = refl
full_and_memory false false e = refl
full_and_memory true false e = absurd (omega (arith, ap (λ (w : List ℕ). get_or w 0 0) e))
full_and_memory false true e = absurd (omega (arith, ap (λ (w : List ℕ). get_or w 0 0) e))

-- ---- lines

one_behind : OneMessage → (site : Site) (v : Verb) (words : List (List ℕ)) (e f : SiteEvent) → IsBehind site v words e → IsBehind site v words f → e ≡ f
one_behind one site verb.Take words e f a b = one_take one site words e f a b
one_behind one site verb.Enter words e f a b = one_of_hand site words Event.Enter e f a b
one_behind one site verb.Expire words e f a b = one_of_hand site words Event.Expire e f a b
one_behind one site verb.Grab words e f a b = one_of_worker site words [] Event.Grab e f a b
one_behind one site verb.Done words e f a b = one_of_worker site words [] Event.Done e f a b
one_behind one site verb.Fail words e f a b = one_answered site words yes_or_no (λ x w. Event.Fail w x) e f yes_and_no a.0 b.0 a.1 b.1
one_behind one site verb.GiveUp words e f a b = one_answered site words yes_or_no (λ x w. Event.GiveUp w x) e f yes_and_no a.0 b.0 a.1 b.1
one_behind one site verb.Post words e f a b = one_of_worker site words [] Event.Post e f a b
one_behind one site verb.PostLost words e f a b = one_answered site words cause_word (λ x w. Event.PostLost w x) e f full_and_memory a.0 b.0 a.1 b.1

pub one_event : OneMessage → (site : Site) (line : List ℕ) (e f : SiteEvent) → StandsFor site line e → StandsFor site line f → e ≡ f
one_event one site line e f a b = one_behind one site a.first a.behind e f a.is_behind (stands_behind site line a.first a.behind f a.whole b)

-- ---- lines that are skipped

letter : (v : Verb) → 97 ≤ get_or (word_of v) 0 0
letter verb.Take = omega arith
letter verb.Enter = omega arith
letter verb.Expire = omega arith
letter verb.Grab = omega arith
letter verb.Done = omega arith
letter verb.Fail = omega arith
letter verb.GiveUp = omega arith
letter verb.Post = omega arith
letter verb.PostLost = omega arith

first_byte : (b : ℕ) (parts : List (List ℕ)) (w : List ℕ) (rest : List (List ℕ)) → onto_first b parts ≡ w ∷ rest → b ≡ get_or w 0 0
first_byte b [] w rest e = ap (λ (v : List ℕ). get_or v 0 0) (first_same e)
first_byte b (p ∷ parts) w rest e = ap (λ (v : List ℕ). get_or v 0 0) (first_same e)

pub skipped : (site : Site) (line : List ℕ) → is_skipped line ≡ true → IsNoEvent site line
skipped site [] is = λ e h. omega (arith, letter h.first, ap (λ (w : List ℕ). get_or w 0 0) (first_same h.whole))
skipped site (b ∷ line) is = λ e h.
    let sign : b ≡ 35 = eqb-true b 35 is in
    let no_space : (b == 32) ≡ false = rw sign refl in
    omega (arith, letter h.first, sign, first_byte b (words_in line) (word_of h.first) h.behind (sym (slice_split-cons_no (λ (x : ℕ). x == 32) b line no_space) ∙ h.whole))
