-- One window after the other.
use Rattle.std.proofs.Common.{◌≡◌, ℕ, ◌+◌, ◌-◌, ◌<◌, ◌≤◌, ◌⊎◌, inl, inr, Bool, true, false, List, [], ◌++◌, length, take, drop, refl, sym, ap, ◌∙◌, subst, arith, take-add}
use Rattle.std.specs.Prelude.{Option}
use Rattle.std.specs.List.{AllByRecursion}
use Rattle.std.specs.Io.KnownBytes.{Appends}
use Rattle.std.proofs.KnownBytes.{Appends-nil, Appends-trans}
use Rattle.std.proofs.lemmas.List.{append-nil, append_assoc, length-append, length-take-le, take_all, take-append-drop}
use Rattle.sy_wire.specs.Frames.{Held}
use Rattle.sy_wire.specs.Messages.{Said}
use Rattle.sy_relp.specs.Frames.{IsFrame, stream}
use Rattle.sy_relp.specs.Exchanges.{Breaks, Exchanges, Link, numbered}
use Rattle.sy_relp.specs.internal.Streams.{HearsUpTo}
use Rattle.sy_relp.proofs.Heard.{answers_more, fed_nothing, hears_more, hears_none}
use Rattle.sy_relp.proofs.Written.{bytes_append, bytes_front, each_then, take_over}

apart : (b : Bool) → b ≡ false → b ≡ true → ⊥
apart b f t = cc

both_or : (old mid : Bool) (xs ys : List Said) → mid ≡ old → (xs ≡ []) ⊎ (old ≡ false) → (ys ≡ []) ⊎ (mid ≡ false) → (xs ++ ys ≡ []) ⊎ (old ≡ false)
both_or old mid xs ys same (inr good) b = inr good
both_or old mid xs ys same (inl none) (inr good) = inr (sym same ∙ good)
both_or old mid xs ys same (inl none) (inl none') = inl (ap (λ (zs : List Said). zs ++ ys) none ∙ none')

module _ {R W : Type 0} (remaining : R → Option (List ℕ)) (contents : W → Option (List ℕ)) where
  pub nothing_sent : (old : Link R W) → Exchanges remaining contents old [] old
  nothing_sent old = record {
    each = tt;
    wrote = Appends-nil (contents old.writer);
    heard = [];
    hears = hears_none _ _ _ _ (fed_nothing (remaining old.reader) old.held.left);
    answers = tt;
    size = refl;
    next = omega arith;
    stays = refl;
    no_more = refl;
    unless = inl refl;
  }

  -- refused, with no write
  pub refused : (old : Link R W) (ms : List Said) → 0 < length ms → Breaks remaining contents old ms 0 old
  refused old ms some = record {
    sent = 0;
    rest = [];
    front = [];
    each = tt;
    of_sent = refl;
    wrote = Appends-nil (contents old.writer);
    more = [];
    out = refl;
    heard = [];
    hears = hears_none _ _ _ _ (fed_nothing (remaining old.reader) old.held.left);
    answers = tt;
    enough = omega arith;
    within = some;
    counted = omega arith;
    after = inr (refl, omega arith, refl, refl);
    waits = inl refl;
    unless = λ b. (refl, refl, b);
  }

  -- a front was written, and nothing heard
  pub torn : (old : Link R W) (ms : List Said) (reader : R) (writer writer' : W) (held : Held) (next next' waiting sent : ℕ) (broken : Bool) (front rest : List ℕ)
      → record { reader = reader; writer = writer; held = held; next = next; unanswered = waiting; is_broken = broken } ≡ old → broken ≡ false → 0 < length ms → AllByRecursion IsFrame (numbered next (take sent ms)) → stream (numbered next (take sent ms)) ≡ front ++ rest → Appends (contents writer) (contents writer') front
      → Breaks remaining contents old ms 0 (record { reader = reader; writer = writer'; held = held; next = next'; unanswered = waiting; is_broken = true })
  torn old ms reader writer writer' held next next' waiting sent broken front rest view good some each whole wrote =
      subst (λ (o : Link R W). Breaks remaining contents o ms 0 (record { reader = reader; writer = writer'; held = held; next = next'; unanswered = waiting; is_broken = true })) view
      (record {
        sent = sent;
        rest = rest;
        front = front;
        each = each;
        of_sent = whole;
        wrote = wrote;
        more = front;
        out = refl;
        heard = [];
        hears = hears_none _ _ _ _ (fed_nothing (remaining reader) held.left);
        answers = tt;
        enough = omega arith;
        within = some;
        counted = omega arith;
        after = inl refl;
        waits = inl refl;
        unless = λ b. absurd (apart broken good b);
      })

  -- all was written, and not all was answered
  pub unanswered : (old : Link R W) (ms : List Said) (reader reader' : R) (writer writer' : W) (held held' : Held) (next waiting sent count : ℕ) (broken : Bool)
      → record { reader = reader; writer = writer; held = held; next = next; unanswered = waiting; is_broken = broken } ≡ old → broken ≡ false → sent ≤ length ms → count < sent → AllByRecursion IsFrame (numbered next (take sent ms)) → Appends (contents writer) (contents writer') (stream (numbered next (take sent ms)))
      → HearsUpTo (remaining reader) (remaining reader') held.left held'.left next sent count
      → Breaks remaining contents old ms count (record { reader = reader'; writer = writer'; held = held'; next = next + sent; unanswered = sent - count; is_broken = true })
  unanswered old ms reader reader' writer writer' held held' next waiting sent count broken view good fits less each wrote h =
      let front = bytes_front next ms count sent (omega (arith, less)) in
      subst (λ (o : Link R W). Breaks remaining contents o ms count (record { reader = reader'; writer = writer'; held = held'; next = next + sent; unanswered = sent - count; is_broken = true })) view
      (record {
        sent = sent;
        rest = [];
        front = stream (numbered next (take sent ms));
        each = each;
        of_sent = sym (append-nil (stream (numbered next (take sent ms))));
        wrote = wrote;
        more = front.0;
        out = front.1;
        heard = h.heard;
        hears = h.hears;
        answers = h.answers;
        enough = h.enough;
        within = omega (arith, less, fits);
        counted = omega (arith, less);
        after = inl refl;
        waits = inr (refl, refl, omega (arith, less));
        unless = λ b. absurd (apart broken good b);
      })

  -- all was written, and answered
  pub answered : (old : Link R W) (ms : List Said) (reader reader' : R) (writer writer' : W) (held held' : Held) (next waiting sent count : ℕ) (broken : Bool)
      → record { reader = reader; writer = writer; held = held; next = next; unanswered = waiting; is_broken = broken } ≡ old → broken ≡ false → sent ≤ length ms → sent ≤ count → AllByRecursion IsFrame (numbered next (take sent ms)) → Appends (contents writer) (contents writer') (stream (numbered next (take sent ms)))
      → HearsUpTo (remaining reader) (remaining reader') held.left held'.left next sent count
      → Exchanges remaining contents old (take sent ms) (record { reader = reader'; writer = writer'; held = held'; next = next + sent; unanswered = waiting; is_broken = false })
  answered old ms reader reader' writer writer' held held' next waiting sent count broken view good fits enough each wrote h =
      let same : count ≡ sent = omega (arith, enough, h.within) in
      let heard : length h.heard ≡ count = h.no_more same in
      let size : length (take sent ms) ≡ sent = length-take-le sent ms fits in
      let all : take count h.heard ≡ h.heard = take_all count h.heard (omega (arith, heard)) in
      subst (λ (o : Link R W). Exchanges remaining contents o (take sent ms) (record { reader = reader'; writer = writer'; held = held'; next = next + sent; unanswered = waiting; is_broken = false })) view
      (record { each = each; wrote = wrote; heard = h.heard; hears = h.hears; answers = rw all at h.answers; size = omega (arith, heard, same, size); next = omega (arith, size); stays = sym good; no_more = refl; unless = inr good })

  pub whole_then_whole : (old mid new : Link R W) (xs ys : List Said) → Exchanges remaining contents old xs mid → Exchanges remaining contents mid ys new → Exchanges remaining contents old (xs ++ ys) new
  whole_then_whole old mid new xs ys a b = record {
    each = each_then old.next mid.next xs ys a.next a.each b.each;
    wrote = rw (bytes_append old.next xs ys, ← a.next) (Appends-trans _ _ _ _ _ a.wrote b.wrote);
    heard = a.heard ++ b.heard;
    hears = hears_more _ _ _ _ _ _ a.heard b.heard a.hears b.hears;
    answers = answers_more old.next a.heard b.heard a.answers (let at : mid.next ≡ old.next + length a.heard = omega (arith, a.next, a.size) in rw at at b.answers);
    size = length-append a.heard b.heard ∙ (let s : length a.heard + length b.heard ≡ length xs + length ys = omega (arith, a.size, b.size) in s) ∙ sym (length-append xs ys);
    next = omega (arith, a.next, b.next, length-append xs ys);
    stays = b.stays ∙ a.stays;
    no_more = b.no_more ∙ a.no_more;
    unless = both_or old.is_broken mid.is_broken xs ys a.stays a.unless b.unless;
  }

  pub whole_then_part : (old mid new : Link R W) (xs ys : List Said) (n : ℕ) → Exchanges remaining contents old xs mid → Breaks remaining contents mid ys n new → Breaks remaining contents old (xs ++ ys) (length xs + n) new
  whole_then_part old mid new xs ys n a b =
      let s = stream (numbered old.next xs) in
      let parts : (k : ℕ) → stream (numbered old.next (take (length xs + k) (xs ++ ys))) ≡ s ++ stream (numbered mid.next (take k ys)) =
      λ k. ap (λ z. stream (numbered old.next z)) (take_over xs ys k) ∙ bytes_append old.next xs (take k ys) ∙ ap (λ t. s ++ stream (numbered t (take k ys))) (sym a.next) in
      let heard : take (length xs + n) (a.heard ++ b.heard) ≡ a.heard ++ take n b.heard = ap (λ k. take (k + n) (a.heard ++ b.heard)) (sym a.size) ∙ take_over a.heard b.heard n in
      record {
        sent = length xs + b.sent;
        rest = b.rest;
        front = s ++ b.front;
        each = rw (take_over xs ys b.sent) (each_then old.next mid.next xs (take b.sent ys) a.next a.each b.each);
        of_sent = parts b.sent ∙ ap (λ z. s ++ z) b.of_sent ∙ sym (append_assoc s b.front b.rest);
        wrote = Appends-trans _ _ _ s b.front a.wrote b.wrote;
        more = b.more;
        out = ap (λ z. s ++ z) b.out ∙ sym (append_assoc s (stream (numbered mid.next (take n ys))) b.more) ∙ ap (λ z. z ++ b.more) (sym (parts n));
        heard = a.heard ++ b.heard;
        hears = hears_more _ _ _ _ _ _ a.heard b.heard a.hears b.hears;
        answers = rw heard (answers_more old.next a.heard (take n b.heard) a.answers (let at : mid.next ≡ old.next + length a.heard = omega (arith, a.next, a.size) in rw at at b.answers));
        enough = omega (arith, a.size, b.enough, length-append a.heard b.heard);
        within = omega (arith, b.within, length-append xs ys);
        counted = omega (arith, b.counted);
        after = elim b.after [
          | inl broken ↦ inl broken
          | inr rest ↦ inr (rest.0, omega (arith, rest.1, a.next), length-append a.heard b.heard ∙ (let k : length a.heard + length b.heard ≡ length xs + n = omega (arith, a.size, rest.2) in k), rest.3 ∙ a.stays)
        ];
        waits = elim b.waits [
          | inl same ↦ inl (same ∙ a.no_more)
          | inr out ↦ inr (out.0, omega (arith, out.1, a.next), omega (arith, out.2))
        ];
        unless = λ broken. elim a.unless [
          | inl none ↦
              let was = b.unless (a.stays ∙ broken) in
              let size = ap length none in
              (omega (arith, size, was.0), ap (λ (zs : List Said). stream (numbered old.next zs) ++ b.front) none ∙ was.1, was.2)
          | inr good ↦ absurd (apart old.is_broken good broken)
        ];
      }

  pub go_on_part : (old mid new : Link R W) (ys rest : List Said) (t n : ℕ) → rest ≡ drop t ys → t ≤ length ys → Exchanges remaining contents old (take t ys) mid → Breaks remaining contents mid rest n new → Breaks remaining contents old ys (t + n) new
  go_on_part old mid new ys rest t n is within a b =
      let size : length (take t ys) ≡ t = length-take-le t ys within in
      subst (λ k. Breaks remaining contents old ys (k + n) new) size
      (subst (λ xs. Breaks remaining contents old xs (length (take t ys) + n) new) (ap (λ z. take t ys ++ z) is ∙ take-append-drop t ys) (whole_then_part old mid new (take t ys) rest n a b))

  pub go_on_whole : (old mid new : Link R W) (ys rest : List Said) (t n : ℕ) → rest ≡ drop t ys → Exchanges remaining contents old (take t ys) mid → Exchanges remaining contents mid (take n rest) new → Exchanges remaining contents old (take (t + n) ys) new
  go_on_whole old mid new ys rest t n is a b =
      subst (λ xs. Exchanges remaining contents old xs new) (ap (λ z. take t ys ++ take n z) is ∙ sym (take-add t n ys)) (whole_then_whole old mid new (take t ys) (take n rest) a b)
