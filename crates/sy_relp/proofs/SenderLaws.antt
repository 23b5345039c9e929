-- What a sender counts as taken, its receiver took.
use Rattle.std.proofs.Common.{◌≡◌, ℕ, ◌⊎◌, inl, inr, Bool, true, false, subst, zero, suc, ◌+◌, ◌-◌, ◌<◌, ◌≤◌, List, [], ◌∷◌, ◌++◌, length, take, drop, refl, sym, ap, ◌∙◌, arith, take-add}
use Rattle.std.specs.Prelude.{Option, Some, None, codes}
use Rattle.std.specs.List.{AllByRecursion}
use Rattle.std.specs.Fmt.{decimal}
use Rattle.std.proofs.lemmas.Fmt.{decimal_digit, decimal_step}
use Rattle.sy_wire.specs.Frames.{Held}
use Rattle.std.specs.Io.KnownBytes.{Appends, Consumes}
use Rattle.std.proofs.KnownBytes.{Appends-trans}
use Rattle.std.proofs.lemmas.List.{append-nil, append_assoc, length-take-le, take_all, take-append-drop}
use Rattle.std.proofs.lemmas.List.Concat.{flat_map-append}
use Rattle.sy_wire.specs.Messages.{Said}
use Rattle.sy_relp.specs.Frames.{Frame, IsFrame, body, frame, stream}
use Rattle.sy_relp.specs.Answers.{IsOk, rsp, syslog}
use Rattle.sy_relp.specs.Lists.{Has}
use Rattle.sy_relp.specs.Links.{Connection, Rises, Took}
use Rattle.sy_relp.proofs.Lists.{all_append, all_front, has_more}
use Rattle.sy_relp.proofs.LinkLaws.{front_of, front_splits, link_is_true}
use Rattle.sy_relp.proofs.OneFrame.{same_fields}
use Rattle.sy_relp.specs.Exchanges.{AreAnswers, Breaks, Exchanges, Hears, Link, numbered, open_frame}
use Rattle.sy_relp.specs.Closings.{Closing, close_frame}
use Rattle.sy_relp.specs.Senders.{Counts, CountsInAll, Opened, Opens, CountedWasTaken, all, some, offered, closed}
use Rattle.sy_relp.proofs.Heard.{hears_more}
use Rattle.sy_relp.proofs.Written.{bytes_front, numbered_append}

has_behind : {A : Type 0} (x : A) (xs : List A) (y : A) → Has xs y → Has (x ∷ xs) y
has_behind x xs y h = record { before = x ∷ h.before; after = h.after; there = ap (λ zs. x ∷ zs) h.there }

-- the frame of a message among the first
numbered_has : (t : ℕ) (before after : List Said) (m : Said) (count : ℕ) → length before < count → Has (numbered t (take count (before ++ m ∷ after))) (syslog (t + length before) m.raw)
numbered_has t before after m zero below = absurd (omega (arith, below))
numbered_has t [] after m (suc count) below = record { before = []; after = numbered (t + 1) (take count after); there = (let same : t ≡ t + 0 = omega arith in ap (λ n. syslog n m.raw ∷ numbered (t + 1) (take count after)) same) }
numbered_has t (b ∷ before) after m (suc count) below =
    let next : (t + 1) + length before ≡ t + length (b ∷ before) = omega arith in
    has_behind (syslog t b.raw) _ _ (rw next at (numbered_has (t + 1) before after m count (omega (arith, below))))

-- the answer of each number among them
answers_has : (t : ℕ) (gs : List Frame) (i : ℕ) → AreAnswers t gs → i < length gs → (text : List ℕ) × IsOk text × Has gs (rsp (t + i) text)
answers_has t [] i a below = absurd (omega (arith, below))
answers_has t (g ∷ gs) zero a below =
    let same : t ≡ t + 0 = omega arith in
    let is : g ≡ rsp (t + 0) g.content = same_fields g (rsp (t + 0) g.content) (a.0.number ∙ same) a.0.command refl in
    (g.content, a.0.is_ok, record { before = []; after = gs; there = ap (λ k. k ∷ gs) is })
answers_has t (g ∷ gs) (suc i) a below =
    let h = answers_has (t + 1) gs i a.1 (omega (arith, below)) in
    let next : (t + 1) + i ≡ t + suc i = omega arith in
    (h.0, h.1, has_behind g gs _ (rw next at h.2))

numbered_rises : (last t : ℕ) (xs : List Said) → last < t → Rises last (numbered t xs)
numbered_rises last t [] below = tt
numbered_rises last t (x ∷ xs) below = (below, numbered_rises t (t + 1) xs (omega arith))

rises_front : (last : ℕ) (xs ys : List Frame) → Rises last (xs ++ ys) → Rises last xs
rises_front last [] ys r = tt
rises_front last (x ∷ xs) ys r = (r.0, rises_front x.txnr xs ys r.1)

-- the frames of the first of some
pub each_front : (t : ℕ) (ys : List Said) (count sent : ℕ) → count ≤ sent → AllByRecursion IsFrame (numbered t (take sent ys)) → AllByRecursion IsFrame (numbered t (take count ys))
each_front t ys count sent le p =
    let size : sent ≡ count + (sent - count) = omega (arith, le) in
    let parts : numbered t (take sent ys) ≡ numbered t (take count ys) ++ numbered (t + length (take count ys)) (take (sent - count) (drop count ys)) =
    ap (λ n. numbered t (take n ys)) size ∙ ap (λ z. numbered t z) (take-add count (sent - count) ys) ∙ numbered_append t (take count ys) (take (sent - count) (drop count ys)) in
    all_front IsFrame (numbered t (take count ys)) _ (rw parts at p)

-- what was read is the front of what will be
behind : (a b : Option (List ℕ)) (ahead bytes : List ℕ) → a ≡ Some ahead → Consumes a b bytes → (rest : List ℕ) × (ahead ≡ bytes ++ rest)
behind None b ahead bytes is c = cc
behind (Some xs) None ahead bytes is c = absurd c
behind (Some xs) (Some ys) ahead bytes is c = (ys, (let same : xs ≡ ahead = cc in sym same ∙ c))

grown : (a b : Option (List ℕ)) (xs ys bytes : List ℕ) → a ≡ Some xs → b ≡ Some ys → Appends a b bytes → ys ≡ xs ++ bytes
grown None b xs ys bytes is is' h = cc
grown (Some zs) None xs ys bytes is is' h = absurd h
grown (Some zs) (Some ws) xs ys bytes is is' h = let same : zs ≡ xs = cc in let same' : ws ≡ ys = cc in sym same' ∙ h ∙ ap (λ z. z ++ bytes) same

pub open_is_frame : IsFrame open_frame
open_is_frame = record { txnr = omega arith; command = record { some = omega arith; short = omega arith; letters = (inr (omega arith, omega arith), (inr (omega arith, omega arith), (inr (omega arith, omega arith), (inr (omega arith, omega arith), tt)))) }; size = omega arith }

-- the bytes of an open
forty_eight : decimal 48 ≡ codes "48"
forty_eight = decimal_step 48 (omega arith) (omega arith) ∙ ap (λ x. x ++ 56 ∷ []) (decimal_digit 4 (omega arith))

pub says_open : codes "1 open 48 relp_version=0\nrelp_software=syc\ncommands=syslog\n" ≡ frame open_frame
says_open =
    ap (λ d. 49 ∷ (32 ∷ (codes "open" ++ (32 ∷ (d ++ (body open_frame.content ++ 10 ∷ [])))))) (sym forty_eight)
    ∙ ap (λ d. d ++ (32 ∷ (codes "open" ++ (32 ∷ (decimal 48 ++ (body open_frame.content ++ 10 ∷ [])))))) (sym (decimal_digit 1 (omega arith)))

began : (a b : Option (List ℕ)) (bytes : List ℕ) → a ≡ Some [] → Appends a b bytes → b ≡ Some bytes
began None b bytes is h = cc
began (Some xs) None bytes is h = absurd h
began (Some xs) (Some ys) bytes is h = let none : xs ≡ [] = cc in ap (λ z. Some z) (h ∙ ap (λ z. z ++ bytes) none)

left_over : (a b : Option (List ℕ)) (every bytes : List ℕ) → a ≡ Some every → Consumes a b bytes → (rest : List ℕ) × (b ≡ Some rest) × (every ≡ bytes ++ rest)
left_over None b every bytes is h = cc
left_over (Some xs) None every bytes is h = absurd h
left_over (Some xs) (Some ys) every bytes is h = let same : xs ≡ every = cc in (ys, refl, sym same ∙ h)

-- an element of what is behind
has_back : {A : Type 0} (xs ys : List A) (y : A) → Has ys y → Has (xs ++ ys) y
has_back xs ys y h = record { before = xs ++ h.before; after = h.after; there = ap (λ zs. xs ++ zs) h.there ∙ sym (append_assoc xs h.before (y ∷ h.after)) }

-- the answer of each number among the first of what was heard
answered_among : (t : ℕ) (heard : List Frame) (count : ℕ) → AreAnswers t (take count heard) → count ≤ length heard → (i : ℕ) → i < count → (text : List ℕ) × IsOk text × Has heard (rsp (t + i) text)
answered_among t heard count are enough i below =
    let size : length (take count heard) ≡ count = length-take-le count heard enough in
    let said = answers_has t (take count heard) i are (omega (arith, size, below)) in
    (said.0, said.1, (let h = has_more (take count heard) (drop count heard) _ said.2 in rw take-append-drop at h))

below_or : (i n : ℕ) → (i < n) ⊎ (n ≤ i)
below_or i zero = inr (omega arith)
below_or zero (suc n) = inl (omega arith)
below_or (suc i) (suc n) = elim (below_or i n) [
  | inl b ↦ inl (omega (arith, b))
  | inr b ↦ inr (omega (arith, b))
]

-- and of each of those behind them
answered_both :
    (t n : ℕ) (heard answered behind : List Frame) (count more : ℕ) → AreAnswers t (take count heard) → count ≤ length heard → AreAnswers n answered → length answered ≡ more → (0 < more → n ≡ t + count)
    → (i : ℕ) → i < count + more → (text : List ℕ) × IsOk text × Has (heard ++ (answered ++ behind)) (rsp (t + i) text)
answered_both t n heard answered behind count more are enough are' size place i below = elim (below_or i count) [
  | inl first ↦ let said = answered_among t heard count are enough i first in (said.0, said.1, has_more heard (answered ++ behind) _ said.2)
  | inr later ↦
      let said = answers_has n answered (i - count) are' (omega (arith, size, below, later)) in
      let at : n ≡ t + count = place (omega (arith, below, later)) in
      let number : n + (i - count) ≡ t + i = omega (arith, at, later) in
      (said.0, said.1, rw number at (has_back heard (answered ++ behind) _ (has_more answered behind _ said.2)))
]

-- a frame behind those of messages
numbered_then : (last t : ℕ) (xs : List Said) (f : Frame) → last < t → t + length xs ≤ f.txnr → Rises last (numbered t xs ++ f ∷ [])
numbered_then last t [] f below top = (omega (arith, below, top), tt)
numbered_then last t (x ∷ xs) f below top = (below, numbered_then t (t + 1) xs f (omega arith) (omega (arith, top)))

take_short : (n : ℕ) (xs : List Said) → length (take n xs) ≤ n
take_short zero xs = omega arith
take_short (suc n) [] = omega arith
take_short (suc n) (x ∷ xs) = omega (arith, take_short n xs)

apart : (b : Bool) → b ≡ false → b ≡ true → ⊥
apart b f t = cc

module _ {R W : Type 0} (remaining : R → Option (List ℕ)) (contents : W → Option (List ℕ)) where
  -- what a sender that counts so many messages wrote and heard since its session was opened
  record Known (first last : Link R W) (messages : List Said) (count : ℕ) : Type 0 where
    frames : List Frame
    front : List ℕ
    rest : List ℕ
    each : AllByRecursion IsFrame frames
    rises : Rises 1 frames
    of_frames : stream frames ≡ front ++ rest
    wrote : Appends (contents first.writer) (contents last.writer) front
    more : List ℕ
    out : front ≡ stream (numbered first.next (take count messages)) ++ more
    each_counted : AllByRecursion IsFrame (numbered first.next (take count messages))
    heard : List Frame
    hears : Hears (remaining first.reader) (remaining last.reader) first.held.left last.held.left heard
    answered : (i : ℕ) → i < count → (text : List ℕ) × IsOk text × Has heard (rsp (first.next + i) text)

  known_some : (first last : Link R W) (messages : List Said) (count : ℕ) → first.next ≡ 2 → Breaks remaining contents first messages count last → Known first last messages count
  known_some first last messages count two b = record {
    frames = numbered first.next (take b.sent messages);
    front = b.front;
    rest = b.rest;
    each = b.each;
    rises = numbered_rises 1 first.next (take b.sent messages) (omega (arith, two));
    of_frames = b.of_sent;
    wrote = b.wrote;
    more = b.more;
    out = b.out;
    each_counted = each_front first.next messages count b.sent b.counted b.each;
    heard = b.heard;
    hears = b.hears;
    answered = answered_among first.next b.heard count b.answers b.enough;
  }

  known_all : (first last : Link R W) (messages : List Said) (count : ℕ) → first.next ≡ 2 → count ≡ length messages → Exchanges remaining contents first messages last → Known first last messages count
  known_all first last messages count two size e =
      let whole : take count messages ≡ messages = take_all count messages (omega (arith, size)) in
      let bytes = stream (numbered first.next messages) in
      record {
        frames = numbered first.next messages;
        front = bytes;
        rest = [];
        each = e.each;
        rises = numbered_rises 1 first.next messages (omega (arith, two));
        of_frames = sym (append-nil bytes);
        wrote = e.wrote;
        more = [];
        out = ap (λ z. stream (numbered first.next z)) (sym whole) ∙ sym (append-nil (stream (numbered first.next (take count messages))));
        each_counted = rw whole e.each;
        heard = e.heard;
        hears = e.hears;
        answered = λ i below. answers_has first.next e.heard i e.answers (omega (arith, below, size, e.size));
      }

  -- a close behind the frames of the messages
  known_behind :
      (first mid last : Link R W) (messages : List Said) (before more sent : ℕ) (heard : List Frame) → first.next ≡ 2 → AllByRecursion IsFrame (numbered first.next (take sent messages))
      → Appends (contents first.writer) (contents mid.writer) (stream (numbered first.next (take sent messages))) → mid.next ≡ first.next + sent → before + more ≤ sent
      → Hears (remaining first.reader) (remaining mid.reader) first.held.left mid.held.left heard → AreAnswers first.next (take before heard) → before ≤ length heard
      → (0 < more → mid.next - mid.unanswered ≡ first.next + before) → Closing remaining contents mid more last → Known first last messages (before + more)
  known_behind first mid last messages before more sent heard two each wrote next less hears are enough place c =
      let s = stream (numbered first.next (take sent messages)) in
      let end = close_frame mid.next in
      let cut = bytes_front first.next messages (before + more) sent less in
      record {
        frames = numbered first.next (take sent messages) ++ end ∷ [];
        front = s ++ c.front;
        rest = c.rest;
        each = all_append IsFrame (numbered first.next (take sent messages)) (end ∷ []) each (c.is_frame, tt);
        rises = numbered_then 1 first.next (take sent messages) end (omega (arith, two)) (omega (arith, next, take_short sent messages));
        of_frames = flat_map-append frame (numbered first.next (take sent messages)) (end ∷ []) ∙ ap (λ z. s ++ z) (append-nil (frame end) ∙ c.of_close) ∙ sym (append_assoc s c.front c.rest);
        wrote = Appends-trans _ _ _ s c.front wrote c.wrote;
        more = cut.0 ++ c.front;
        out = ap (λ z. z ++ c.front) cut.1 ∙ append_assoc (stream (numbered first.next (take (before + more) messages))) cut.0 c.front;
        each_counted = each_front first.next messages (before + more) sent less each;
        heard = heard ++ (c.answered ++ c.behind);
        hears = hears_more _ _ _ _ _ _ heard (c.answered ++ c.behind) hears c.hears;
        answered = answered_both first.next (mid.next - mid.unanswered) heard c.answered c.behind before more are enough c.answers c.size place;
      }

  known_closed :
      (first mid last : Link R W) (came ahead : List ℕ) (messages : List Said) (before more : ℕ) → Opened remaining contents first came ahead → Counts remaining contents first messages before mid
      → Closing remaining contents mid more last → Known first last messages (before + more)
  known_closed first mid last came ahead messages before more o (all size e) c =
      let none : more ≡ 0 = omega (arith, c.within, e.no_more, o.none_waits) in
      let whole : take before messages ≡ messages = take_all before messages (omega (arith, size)) in
      let heard : take before e.heard ≡ e.heard = take_all before e.heard (omega (arith, size, e.size)) in
      known_behind first mid last messages before more before e.heard o.next (rw whole e.each) (rw whole e.wrote) (omega (arith, e.next, size)) (omega (arith, none)) e.hears (rw heard e.answers) (omega (arith, size, e.size))
      (λ some. absurd (omega (arith, some, none))) c
  known_closed first mid last came ahead messages before more o (some b) c = elim b.waits [
    | inl same ↦
        let none : more ≡ 0 = omega (arith, c.within, same, o.none_waits) in
        elim c.unless [
          | inr waits ↦ absurd (omega (arith, waits, same, o.none_waits))
          | inl good ↦ elim b.after [
            | inl broken ↦ absurd (apart mid.is_broken good broken)
            | inr whole ↦
                let s = stream (numbered first.next (take before messages)) in
                let text : b.front ≡ s = b.out ∙ ap (λ z. s ++ z) whole.0 ∙ append-nil s in
                known_behind first mid last messages before more before b.heard o.next (each_front first.next messages before b.sent b.counted b.each) (subst (λ z. Appends (contents first.writer) (contents mid.writer) z) text b.wrote)
                (omega (arith, whole.1)) (omega (arith, none)) b.hears b.answers b.enough (λ some. absurd (omega (arith, some, none))) c
          ]
        ]
    | inr out ↦
        let s = stream (numbered first.next (take b.sent messages)) in
        let text : b.front ≡ s = sym (append-nil b.front) ∙ ap (λ z. b.front ++ z) (sym out.0) ∙ sym b.of_sent in
        known_behind first mid last messages before more b.sent b.heard o.next b.each (subst (λ z. Appends (contents first.writer) (contents mid.writer) z) text b.wrote)
        (omega (arith, out.1)) (omega (arith, out.2, c.within)) b.hears b.answers b.enough (λ some. omega (arith, out.1, out.2)) c
  ]

  known : (first last : Link R W) (came ahead : List ℕ) (messages : List Said) (count : ℕ) → Opened remaining contents first came ahead → CountsInAll remaining contents first messages count last → Known first last messages count
  known first last came ahead messages count o (offered (all size e)) = known_all first last messages count o.next size e
  known first last came ahead messages count o (offered (some b)) = known_some first last messages count o.next b
  known first last came ahead messages count o (closed mid before more counts c same) = subst (λ n. Known first last messages n) (sym same) (known_closed first mid last came ahead messages before more o counts c)

  pub counted_was_taken : CountedWasTaken remaining contents
  counted_was_taken first last came ahead told messages count o counts tells there back frames answers taken numbers session read wrote_back run to from before after m is below =
      let k = known first last came ahead messages count o counts in
      let cut = front_splits k.frames k.front k.rest k.each k.of_frames in
      let w = cut.3 in
      let text : told ≡ frame open_frame ++ k.front = grown _ _ _ _ k.front o.told tells k.wrote in
      let inside = front_of (numbered first.next (take count messages)) cut.0 k.more w.torn k.each_counted w.each w.is_torn (sym w.whole ∙ k.out) in
      let read_more = behind _ _ ahead k.hears.bytes o.left k.hears.read in
      let rise : Rises 1 cut.0 = rises_front 1 cut.0 cut.1 (rw cut.2 at k.rises) in
      let c : Connection = record {
        sent = open_frame ∷ cut.0;
        heard = o.answer ∷ k.heard;
        came = frames;
        wrote = answers;
        sent_bytes = told;
        heard_bytes = came ++ k.hears.bytes;
        came_bytes = there;
        wrote_bytes = back;
        sender_wrote = record { torn = w.torn; each = (open_is_frame, w.each); is_torn = w.is_torn; whole = text ∙ ap (λ z. frame open_frame ++ z) w.whole ∙ sym (append_assoc (frame open_frame) (stream cut.0) w.torn) };
        sender_read = record {
          left = last.held.left;
          each = (o.is_answer, k.hears.each);
          whole = ap (λ z. z ++ k.hears.bytes) o.heard ∙ append_assoc (frame o.answer) first.held.left k.hears.bytes ∙ ap (λ z. frame o.answer ++ z) k.hears.whole ∙ sym (append_assoc (frame o.answer) (stream k.heard) last.held.left);
        };
        receiver_read = read;
        receiver_wrote = wrote_back;
        there = to;
        back = (read_more.0 ++ from.0, from.1 ∙ ap (λ z. (came ++ z) ++ from.0) read_more.1 ∙ ap (λ z. z ++ from.0) (sym (append_assoc came k.hears.bytes read_more.0)) ∙ append_assoc (came ++ k.hears.bytes) read_more.0 from.0);
        rises = ((let one : 0 < 1 = omega arith in one), rise);
      } in
      let sends : Has (numbered first.next (take count messages)) (syslog (first.next + length before) m.raw) = rw is (numbered_has first.next before after m count below) in
      let sends_all : Has cut.0 (syslog (first.next + length before) m.raw) = rw inside.1 (has_more (numbered first.next (take count messages)) inside.0 _ sends) in
      let said = k.answered (length before) below in
      let both : Took c taken numbers (first.next + length before) m.raw =
      link_is_true c taken numbers session run (first.next + length before) m.raw (record { sent = has_behind open_frame cut.0 _ sends_all; text = said.0; is_ok = said.1; heard = has_behind o.answer k.heard _ said.2 }) in
      let all : Has taken (syslog (first.next + length before) m.raw) × Has numbers (first.next + length before) = (both.taken, both.acknowledged) in
      rw o.next at all

  pub opens : (reader reader' : R) (writer writer' : W) (held : Held) (answer : Frame) → Appends (contents writer) (contents writer') (frame open_frame) → Hears (remaining reader) (remaining reader') [] held.left (answer ∷ [])
      → Opens remaining contents reader writer (record { reader = reader'; writer = writer'; held = held; next = 2; unanswered = 0; is_broken = false })
  opens reader reader' writer writer' held answer wrote hears every is none =
      let rest = left_over _ _ every hears.bytes is hears.read in (
        hears.bytes,
        rest.0,
        record {
          answer = answer;
          is_answer = hears.each.0;
          told = began _ _ (frame open_frame) none wrote;
          heard = hears.whole ∙ ap (λ z. z ++ held.left) (append-nil (frame answer));
          left = rest.1;
          next = refl;
          none_waits = refl;
        },
        rest.2,
      )
