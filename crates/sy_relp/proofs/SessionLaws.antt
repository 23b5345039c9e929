-- What a run of a session has answered was taken and acknowledged.
use Rattle.std.proofs.Common.{◌≡◌, ℕ, ◌<◌, true, List, [], ◌∷◌, ◌++◌, refl, sym, ap, ◌∙◌, arith}
use Rattle.std.specs.Prelude.{codes}
use Rattle.std.specs.List.{AllByRecursion}
use Rattle.std.proofs.lemmas.List.{append-nil}
use Rattle.sy_relp.specs.Frames.{Frame}
use Rattle.sy_relp.specs.Answers.{answer_to, rsp, syslog}
use Rattle.sy_relp.specs.Lists.{Has}
use Rattle.sy_relp.specs.Links.{AcknowledgedWasTaken, AnsweredWasTaken, Rises}
use Rattle.sy_relp.specs.Sessions.{Acknowledges, Answers, Ends, IsKind, Runs, Session, TakesUp, outcome_of, done_at_once, taken, starts, receives, acknowledges, answers}
use Rattle.sy_relp.specs.declared.session.Kind.{Kind}
use Rattle.sy_relp.specs.declared.session.Kind.TheVariants.{Open, Message, Close, Other}
use Rattle.sy_relp.specs.declared.session.Outcome.{Outcome}
use Rattle.sy_relp.specs.declared.session.Outcome.TheVariants.{Take, Wait, End}
use Rattle.sy_relp.specs.declared.session.Waiting.{Waiting}
use Rattle.sy_relp.proofs.Lists.{all_append, all_back, all_front, all_has, all_weaker, has_front, has_last, has_more}

-- why a command waits
record Waits (came messages : List Frame) (numbers : List ℕ) (w : Waiting) : Type 0 where
  f : Frame
  has : Has came f
  same : f.txnr ≡ w.txnr
  kind : IsKind f.command w.kind
  message : w.kind ≡ Message → Has messages f
  done : w.kind ≡ Message → w.is_done ≡ true → Has numbers w.txnr

-- why an answer was made
record Made (came messages : List Frame) (numbers : List ℕ) (g : Frame) : Type 0 where
  f : Frame
  kind : Kind
  has : Has came f
  is_kind : IsKind f.command kind
  says : g ≡ rsp f.txnr (answer_to kind)
  message : kind ≡ Message → Has messages f × Has numbers f.txnr

-- the number is that of a message which was taken
abbrev OfTaken : List Frame → ℕ → Type 0
OfTaken messages txnr = (f : Frame) × Has messages f × (f.txnr ≡ txnr)

of_more : (messages messages' : List Frame) (txnr : ℕ) → OfTaken messages txnr → OfTaken (messages ++ messages') txnr
of_more messages messages' txnr h = (h.0, has_more messages messages' h.0 h.1, h.2)

record Stands (came messages : List Frame) (numbers : List ℕ) (wrote : List Frame) (s : Session) : Type 0 where
  acked : AllByRecursion (OfTaken messages) numbers
  waiting : AllByRecursion (Waits came messages numbers) s.waiting
  made : AllByRecursion (Made came messages numbers) wrote

-- more came, and was taken
waits_more : (came came' messages messages' : List Frame) (numbers : List ℕ) (w : Waiting) → Waits came messages numbers w → Waits (came ++ came') (messages ++ messages') numbers w
waits_more came came' messages messages' numbers w h = record {
  f = h.f;
  has = has_more came came' h.f h.has;
  same = h.same;
  kind = h.kind;
  message = λ m. has_more messages messages' h.f (h.message m);
  done = h.done;
}

made_more : (came came' messages messages' : List Frame) (numbers : List ℕ) (g : Frame) → Made came messages numbers g → Made (came ++ came') (messages ++ messages') numbers g
made_more came came' messages messages' numbers g h = record {
  f = h.f;
  kind = h.kind;
  has = has_more came came' h.f h.has;
  is_kind = h.is_kind;
  says = h.says;
  message = λ m. (has_more messages messages' h.f (h.message m).0, (h.message m).1);
}

waits_number : (came messages : List Frame) (numbers : List ℕ) (txnr : ℕ) (w : Waiting) → Waits came messages numbers w → Waits came messages (numbers ++ txnr ∷ []) w
waits_number came messages numbers txnr w h = record { f = h.f; has = h.has; same = h.same; kind = h.kind; message = h.message; done = λ m d. has_more numbers (txnr ∷ []) w.txnr (h.done m d) }

made_number : (came messages : List Frame) (numbers : List ℕ) (txnr : ℕ) (g : Frame) → Made came messages numbers g → Made came messages (numbers ++ txnr ∷ []) g
made_number came messages numbers txnr g h = record { f = h.f; kind = h.kind; has = h.has; is_kind = h.is_kind; says = h.says; message = λ m. ((h.message m).0, has_more numbers (txnr ∷ []) h.f.txnr (h.message m).1) }

-- another command than a message isn't one
not_message : (kind : Kind) → outcome_of kind ≡ Wait → kind ≡ Message → ⊥
not_message Open e m = cc
not_message Message e m = cc
not_message Close e m = cc
not_message Other e m = cc

-- what was taken of this frame
taken_is : (answer : Outcome) (kind : Kind) (f : Frame) (messages : List Frame) → answer ≡ outcome_of kind → kind ≡ Message → Has (messages ++ taken answer f) f
taken_is Take kind f messages e m = has_last messages f
taken_is Wait kind f messages e m = absurd (not_message kind (sym e) m)
taken_is End Open f messages e m = cc
taken_is End Message f messages e m = cc
taken_is End Close f messages e m = cc
taken_is End Other f messages e m = cc

-- a message isn't done when it comes
not_at_once : (kind : Kind) → kind ≡ Message → done_at_once kind ≡ true → ⊥
not_at_once Open m d = cc
not_at_once Message m d = cc
not_at_once Close m d = cc
not_at_once Other m d = cc

step_takes : (came messages : List Frame) (numbers : List ℕ) (wrote : List Frame) (old new : Session) (f : Frame) (answer : Outcome)
    → Stands came messages numbers wrote old → TakesUp old f answer new → Stands (came ++ f ∷ []) (messages ++ taken answer f) numbers wrote new
step_takes came messages numbers wrote old new f answer h up =
    let w : Waiting = record { txnr = f.txnr; kind = up.kind; is_done = done_at_once up.kind } in
    let here : Waits (came ++ f ∷ []) (messages ++ taken answer f) numbers w = record {
      f = f;
      has = has_last came f;
      same = refl;
      kind = up.is_kind;
      message = λ m. taken_is answer up.kind f messages up.made m;
      done = λ m d. absurd (not_at_once up.kind m d);
    } in
    record {
      waiting = rw up.waiting (all_append (Waits (came ++ f ∷ []) (messages ++ taken answer f) numbers) old.waiting (w ∷ [])
          (all_weaker (Waits came messages numbers) (Waits (came ++ f ∷ []) (messages ++ taken answer f) numbers) (λ v p. waits_more came (f ∷ []) messages (taken answer f) numbers v p) old.waiting h.waiting) (here, tt));
      acked = all_weaker (OfTaken messages) (OfTaken (messages ++ taken answer f)) (λ n p. of_more messages (taken answer f) n p) numbers h.acked;
      made = all_weaker (Made came messages numbers) (Made (came ++ f ∷ []) (messages ++ taken answer f) numbers) (λ g p. made_more came (f ∷ []) messages (taken answer f) numbers g p) wrote h.made;
    }

step_breaks : (came messages : List Frame) (numbers : List ℕ) (wrote : List Frame) (old new : Session) (f : Frame)
    → Stands came messages numbers wrote old → Ends old f new → Stands (came ++ f ∷ []) (messages ++ []) numbers wrote new
step_breaks came messages numbers wrote old new f h b =
    let same : new.waiting ≡ old.waiting = ap (λ (s : Session). s.waiting) b.after in
    record {
      waiting = rw same (all_weaker (Waits came messages numbers) (Waits (came ++ f ∷ []) (messages ++ []) numbers) (λ v p. waits_more came (f ∷ []) messages [] numbers v p) old.waiting h.waiting);
      acked = all_weaker (OfTaken messages) (OfTaken (messages ++ [])) (λ n p. of_more messages [] n p) numbers h.acked;
      made = all_weaker (Made came messages numbers) (Made (came ++ f ∷ []) (messages ++ []) numbers) (λ g p. made_more came (f ∷ []) messages [] numbers g p) wrote h.made;
    }

step_acknowledges : (came messages : List Frame) (numbers : List ℕ) (wrote : List Frame) (old new : Session) (txnr : ℕ)
    → Stands came messages numbers wrote old → Acknowledges old txnr new → Stands came messages (numbers ++ txnr ∷ []) wrote new
step_acknowledges came messages numbers wrote old new txnr h a =
    let now : Waiting = record { txnr = txnr; kind = Message; is_done = true } in
    let P = Waits came messages (numbers ++ txnr ∷ []) in
    let all = all_weaker (Waits came messages numbers) P (λ v p. waits_number came messages numbers txnr v p) old.waiting h.waiting in
    let parts = rw a.there at all in
    let was = (all_back P a.before _ parts).0 in
    let here : P now = record { f = was.f; has = was.has; same = was.same; kind = was.kind; message = was.message; done = λ m d. has_last numbers txnr } in
    let same : new.waiting ≡ a.before ++ now ∷ a.after = ap (λ (s : Session). s.waiting) a.then in
    record {
      waiting = rw same (all_append P a.before (now ∷ a.after) (all_front P a.before _ parts) (here, (all_back P a.before _ parts).1));
      acked = all_append (OfTaken messages) numbers (txnr ∷ []) h.acked ((was.f, was.message refl, was.same), tt);
      made = all_weaker (Made came messages numbers) (Made came messages (numbers ++ txnr ∷ [])) (λ g p. made_number came messages numbers txnr g p) wrote h.made;
    }

step_answers : (came messages : List Frame) (numbers : List ℕ) (wrote : List Frame) (old new : Session) (g : Frame)
    → Stands came messages numbers wrote old → Answers old g new → Stands came messages numbers (wrote ++ g ∷ []) new
step_answers came messages numbers wrote old new g h a =
    let P = Waits came messages numbers in
    let parts = rw a.there at h.waiting in
    let was : P a.first = parts.0 in
    let number : was.f.txnr ≡ a.first.txnr = was.same in
    let made : Made came messages numbers g = record {
      f = was.f;
      kind = a.first.kind;
      has = was.has;
      is_kind = was.kind;
      says = a.says ∙ ap (λ n. rsp n (answer_to a.first.kind)) (sym number);
      message = λ m. (was.message m, rw number (was.done m a.is_done));
    } in
    let same : new.waiting ≡ a.rest = ap (λ (s : Session). s.waiting) a.then in
    record { acked = h.acked; waiting = rw same parts.1; made = all_append (Made came messages numbers) wrote (g ∷ []) h.made (made, tt) }

stands : (came messages : List Frame) (numbers : List ℕ) (wrote : List Frame) (s : Session) → Runs came messages numbers wrote s → Stands came messages numbers wrote s
stands came messages numbers wrote s starts = record { acked = tt; waiting = tt; made = tt }
stands _ _ numbers wrote new (receives {came = came} {messages = messages} {old = old} f Take run step) = step_takes came messages numbers wrote old new f Take (stands came messages numbers wrote old run) step
stands _ _ numbers wrote new (receives {came = came} {messages = messages} {old = old} f Wait run step) = step_takes came messages numbers wrote old new f Wait (stands came messages numbers wrote old run) step
stands _ _ numbers wrote new (receives {came = came} {messages = messages} {old = old} f End run step) = step_breaks came messages numbers wrote old new f (stands came messages numbers wrote old run) step
stands came messages _ wrote new (acknowledges {numbers = numbers} {old = old} txnr run step) = step_acknowledges came messages numbers wrote old new txnr (stands came messages numbers wrote old run) step
stands came messages numbers _ new (answers {wrote = wrote} {old = old} g run step) = step_answers came messages numbers wrote old new g (stands came messages numbers wrote old run) step

no_end : {A : Type 0} (before : List A) (x : A) (after : List A) → [] ≡ before ++ x ∷ after → ⊥
no_end [] x after e = cc
no_end (b ∷ before) x after e = cc

above_in : (last : ℕ) (g : Frame) (gs : List Frame) (f : Frame) → Rises last (g ∷ gs) → (before after : List Frame) → g ∷ gs ≡ before ++ f ∷ after → last < f.txnr
above_in last g gs f r [] after e = let same : g ≡ f = cc in rw (← same) r.0
above_in last g [] f r (b ∷ before) after e = let none : [] ≡ before ++ f ∷ after = cc in absurd (no_end before f after none)
above_in last g (k ∷ gs) f r (b ∷ before) after e =
    let rest : k ∷ gs ≡ before ++ f ∷ after = cc in
    let above = above_in g.txnr k gs f r.1 before after rest in
    omega (arith, r.0, above)

-- numbers that rise are above the last
rises_above : (last : ℕ) (fs : List Frame) (f : Frame) → Rises last fs → Has fs f → last < f.txnr
rises_above last [] f r h = let none : [] ≡ h.before ++ f ∷ h.after = h.there in absurd (no_end h.before f h.after none)
rises_above last (g ∷ gs) f r h = above_in last g gs f r h.before h.after h.there

one_in : (last : ℕ) (fs : List Frame) (f g : Frame) → Rises last fs → (before after before' after' : List Frame) → fs ≡ before ++ f ∷ after → fs ≡ before' ++ g ∷ after' → f.txnr ≡ g.txnr → f ≡ g
one_in last [] f g r before after before' after' e e' same = absurd (no_end before f after e)
one_in last (k ∷ fs) f g r [] after [] after' e e' same = cc
one_in last (k ∷ fs) f g r [] after (b ∷ before') after' e e' same =
    let here : k ≡ f = cc in
    let rest : fs ≡ before' ++ g ∷ after' = cc in
    let above : k.txnr < g.txnr = rises_above k.txnr fs g r.1 (record { before = before'; after = after'; there = rest }) in
    let number : k.txnr ≡ f.txnr = ap (λ (f : Frame). f.txnr) here in
    absurd (omega (arith, above, number, same))
one_in last (k ∷ fs) f g r (b ∷ before) after [] after' e e' same =
    let here : k ≡ g = cc in
    let rest : fs ≡ before ++ f ∷ after = cc in
    let above : k.txnr < f.txnr = rises_above k.txnr fs f r.1 (record { before = before; after = after; there = rest }) in
    let number : k.txnr ≡ g.txnr = ap (λ (f : Frame). f.txnr) here in
    absurd (omega (arith, above, number, same))
one_in last (k ∷ fs) f g r (b ∷ before) after (b' ∷ before') after' e e' same =
    let rest : fs ≡ before ++ f ∷ after = cc in
    let rest' : fs ≡ before' ++ g ∷ after' = cc in
    one_in k.txnr fs f g r.1 before after before' after' rest rest' same

-- one frame for each number
pub one_of : (last : ℕ) (fs : List Frame) (f g : Frame) → Rises last fs → Has fs f → Has fs g → f.txnr ≡ g.txnr → f ≡ g
one_of last fs f g r h k same = one_in last fs f g r h.before h.after k.before k.after h.there k.there same

is_message : (kind : Kind) (command : List ℕ) → IsKind command kind → command ≡ codes "syslog" → kind ≡ Message
is_message Open command k e = cc (k, e)
is_message Message command k e = refl
is_message Close command k e = cc (k, e)
is_message Other command k e = absurd (k.1 e)

-- the same where what came is the front of what was sent
pub answered_in : (came messages : List Frame) (numbers : List ℕ) (wrote : List Frame) (last : Session) → Runs came messages numbers wrote last
    → (sent later : List Frame) → sent ≡ came ++ later → Rises 0 sent → (txnr : ℕ) (content text : List ℕ) → Has sent (syslog txnr content) → Has wrote (rsp txnr text)
    → Has messages (syslog txnr content) × Has numbers txnr
answered_in came messages numbers wrote last run sent later front rises txnr content text has said =
    let all = (stands came messages numbers wrote last run).made in
    let made = all_has (Made came messages numbers) wrote (rsp txnr text) all said in
    let number : txnr ≡ made.f.txnr = ap (λ (f : Frame). f.txnr) made.says in
    let same : made.f ≡ syslog txnr content = one_of 0 sent made.f (syslog txnr content) rises (has_front came later sent made.f front made.has) has (sym number) in
    let kind : made.kind ≡ Message = is_message made.kind made.f.command made.is_kind (ap (λ (f : Frame). f.command) same) in
    let both = made.message kind in
    (rw (← same) both.0, rw number both.1)

pub answered_was_taken : AnsweredWasTaken
answered_was_taken came messages numbers wrote last run rises txnr content text has said =
    answered_in came messages numbers wrote last run came [] (sym (append-nil came)) rises txnr content text has said

pub acknowledged_was_taken : AcknowledgedWasTaken
acknowledged_was_taken came messages numbers wrote last run txnr has =
    let h = all_has (OfTaken messages) numbers txnr (stands came messages numbers wrote last run).acked has in
    (h.0, h.1, h.2)
