-- How a session ends.
use Rattle.std.proofs.Common.{◌≡◌, ℕ, ◌-◌, ◌<◌, ◌≤◌, ◌⊎◌, inl, inr, Bool, true, false, List, [], ◌∷◌, ◌++◌, length, take, drop, refl, sym, ap, subst, arith}
use Rattle.std.specs.Prelude.{Option, codes}
use Rattle.std.specs.Fmt.{decimal}
use Rattle.std.specs.Io.KnownBytes.{Appends}
use Rattle.std.proofs.lemmas.Fmt.{decimal_digit}
use Rattle.std.proofs.lemmas.List.{append-nil, length-take-le, take_all, take-append-drop}
use Rattle.sy_wire.specs.Frames.{Held}
use Rattle.sy_relp.specs.Frames.{Frame, IsFrame, body, frame}
use Rattle.sy_relp.specs.Closings.{CloseFails, Closes, Closing, IsEnd, close_frame}
use Rattle.sy_relp.specs.Exchanges.{Hears, Link}
use Rattle.sy_relp.specs.declared.fault.SendFault.TheVariants.{Unanswered, WriteFailed}
use Rattle.sy_relp.specs.internal.Streams.{EndsBehind, HearsEnd, HearsUpTo}
use Rattle.sy_relp.proofs.Heard.{fed_nothing, hears_more, hears_none}

pub says_close : (txnr : ℕ) → decimal txnr ++ codes " close 0\n" ≡ frame (close_frame txnr)
says_close txnr = ap (λ d. decimal txnr ++ (32 ∷ (codes "close" ++ (32 ∷ (d ++ (body [] ++ 10 ∷ [])))))) (sym (decimal_digit 0 (omega arith)))

close_is_frame : (txnr : ℕ) → txnr ≤ 999999998 → IsFrame (close_frame txnr)
close_is_frame txnr fits = record {
  txnr = omega (arith, fits);
  command = record { some = omega arith; short = omega arith; letters = (inr (omega arith, omega arith), (inr (omega arith, omega arith), (inr (omega arith, omega arith), (inr (omega arith, omega arith), (inr (omega arith, omega arith), tt))))) };
  size = omega arith;
}

-- an answer didn't come
pub ends_short : (a b : Option (List ℕ)) (left left' : List ℕ) (txnr waiting count : ℕ) → HearsUpTo a b left left' (txnr - waiting) waiting count → count < waiting → HearsEnd a b left left' txnr waiting count false
ends_short a b left left' txnr waiting count h below = record {
  answered = take count h.heard;
  behind = drop count h.heard;
  hears = subst (λ hs. Hears a b left left' hs) (sym (take-append-drop count h.heard)) h.hears;
  answers = h.answers;
  size = length-take-le count h.heard h.enough;
  within = h.within;
  ends = inl below;
}

-- all answers came, and then these frames
pub ends_then :
    (is_over : Bool) (a b c : Option (List ℕ)) (left left' left'' : List ℕ) (txnr waiting count : ℕ) (gs : List Frame) → HearsUpTo a b left left' (txnr - waiting) waiting count → waiting ≤ count → Hears b c left' left'' gs
    → (count ≡ waiting → EndsBehind is_over txnr waiting count gs) → HearsEnd a c left left'' txnr waiting count is_over
ends_then is_over a b c left left' left'' txnr waiting count gs h all more ends =
    let same : count ≡ waiting = omega (arith, all, h.within) in
    let size : length h.heard ≡ count = h.no_more same in
    let front : take count h.heard ≡ h.heard = take_all count h.heard (omega (arith, size)) in
    record {
      answered = h.heard;
      behind = gs;
      hears = hears_more _ _ _ _ _ _ h.heard gs h.hears more;
      answers = rw front at h.answers;
      size = size;
      within = h.within;
      ends = ends same;
    }

pub ends_of : (is_over : Bool) (txnr waiting count : ℕ) (g : Frame) → (is_over ≡ true → IsEnd txnr g) → (is_over ≡ false → IsEnd txnr g → ⊥) → count ≡ waiting → EndsBehind is_over txnr waiting count (g ∷ [])
ends_of true txnr waiting count g good bad same = (same, g, refl, good refl)
ends_of false txnr waiting count g good bad same = inr (bad refl)

module _ {R W : Type 0} (remaining : R → Option (List ℕ)) (contents : W → Option (List ℕ)) where
  -- the close is out whole
  closing :
      (old : Link R W) (reader reader' : R) (writer writer' : W) (held held' : Held) (next waiting count : ℕ) (broken is_over : Bool) → record { reader = reader; writer = writer; held = held; next = next; unanswered = waiting; is_broken = broken } ≡ old → next ≤ 999999998
      → (broken ≡ false) ⊎ (0 < waiting) → Appends (contents writer) (contents writer') (frame (close_frame next)) → HearsEnd (remaining reader) (remaining reader') held.left held'.left next waiting count is_over
      → (c : Closing remaining contents old count (record { reader = reader'; writer = writer'; held = held'; next = next; unanswered = 0; is_broken = true })) × (c.rest ≡ []) × EndsBehind is_over old.next old.unanswered count c.behind
  closing old reader reader' writer writer' held held' next waiting count broken is_over view fits may wrote h =
      subst (λ (o : Link R W). (c : Closing remaining contents o count (record { reader = reader'; writer = writer'; held = held'; next = next; unanswered = 0; is_broken = true })) × (c.rest ≡ []) × EndsBehind is_over o.next o.unanswered count c.behind) view (
        record {
          is_frame = close_is_frame next fits;
          front = frame (close_frame next);
          rest = [];
          of_close = sym (append-nil (frame (close_frame next)));
          wrote = wrote;
          answered = h.answered;
          behind = h.behind;
          hears = h.hears;
          answers = h.answers;
          size = h.size;
          within = h.within;
          unless = may;
          over = (refl, refl);
        },
        refl,
        h.ends,
      )

  pub closes :
      (old : Link R W) (reader reader' : R) (writer writer' : W) (held held' : Held) (next waiting count : ℕ) (broken is_over : Bool) → record { reader = reader; writer = writer; held = held; next = next; unanswered = waiting; is_broken = broken } ≡ old → next ≤ 999999998
      → (broken ≡ false) ⊎ (0 < waiting) → Appends (contents writer) (contents writer') (frame (close_frame next)) → HearsEnd (remaining reader) (remaining reader') held.left held'.left next waiting count is_over → is_over ≡ true
      → Closes remaining contents old count (record { reader = reader'; writer = writer'; held = held'; next = next; unanswered = 0; is_broken = true })
  closes old reader reader' writer writer' held held' next waiting count broken is_over view fits may wrote h over =
      let all = closing old reader reader' writer writer' held held' next waiting count broken true view fits may wrote (rw over at h) in
      (all.0, all.1, all.2.0, all.2.1, all.2.2, all.2.3)

  pub unended :
      (old : Link R W) (reader reader' : R) (writer writer' : W) (held held' : Held) (next waiting count : ℕ) (broken is_over : Bool) → record { reader = reader; writer = writer; held = held; next = next; unanswered = waiting; is_broken = broken } ≡ old → next ≤ 999999998
      → (broken ≡ false) ⊎ (0 < waiting) → Appends (contents writer) (contents writer') (frame (close_frame next)) → HearsEnd (remaining reader) (remaining reader') held.left held'.left next waiting count is_over → is_over ≡ false
      → CloseFails remaining contents old Unanswered count (record { reader = reader'; writer = writer'; held = held'; next = next; unanswered = 0; is_broken = true })
  unended old reader reader' writer writer' held held' next waiting count broken is_over view fits may wrote h goes_on =
      closing old reader reader' writer writer' held held' next waiting count broken false view fits may wrote (rw goes_on at h)

  -- a front of it is, and nothing was heard
  pub unwritten :
      (old : Link R W) (reader : R) (writer writer' : W) (held : Held) (next waiting : ℕ) (broken : Bool) (front rest : List ℕ) → record { reader = reader; writer = writer; held = held; next = next; unanswered = waiting; is_broken = broken } ≡ old → next ≤ 999999998
      → (broken ≡ false) ⊎ (0 < waiting) → frame (close_frame next) ≡ front ++ rest → Appends (contents writer) (contents writer') front
      → CloseFails remaining contents old WriteFailed 0 (record { reader = reader; writer = writer'; held = held; next = next; unanswered = 0; is_broken = true })
  unwritten old reader writer writer' held next waiting broken front rest view fits may whole wrote =
      subst (λ (o : Link R W). CloseFails remaining contents o WriteFailed 0 (record { reader = reader; writer = writer'; held = held; next = next; unanswered = 0; is_broken = true })) view (
        record {
          is_frame = close_is_frame next fits;
          front = front;
          rest = rest;
          of_close = whole;
          wrote = wrote;
          answered = [];
          behind = [];
          hears = hears_none _ _ _ _ (fed_nothing (remaining reader) held.left);
          answers = tt;
          size = refl;
          within = omega arith;
          unless = may;
          over = (refl, refl);
        },
        refl,
        refl,
      )
