-- What a sender counts as taken, the receiver took and acknowledged.
use Rattle.std.proofs.Common.{◌≡◌, ◌≢◌, ℕ, ◌⊎◌, inl, inr, List, [], ◌∷◌, ◌++◌, length, refl, sym, ap, ◌∙◌, arith}
use Rattle.std.specs.Prelude.{codes}
use Rattle.std.specs.Fmt.{decimal}
use Rattle.std.specs.List.{AllByRecursion}
use Rattle.std.proofs.lemmas.List.{append-nil, append_assoc, length-append}
use Rattle.sy_relp.specs.Frames.{Frame, IsFrame, frame, stream, tail}
use Rattle.sy_relp.specs.Links.{Delivers, IsTorn, LinkIsTrue, Read, Wrote}
use Rattle.sy_relp.proofs.Lists.{has_front}
use Rattle.sy_relp.proofs.OneFrame.{one_frame}
use Rattle.sy_relp.proofs.SessionLaws.{answered_in}

none_behind : (xs ys : List ℕ) → xs ++ ys ≡ [] → ys ≡ []
none_behind [] ys e = e
none_behind (x ∷ xs) ys e = cc

-- a torn frame holds no whole one
torn_has_none : (f : Frame) (more torn : List ℕ) → IsFrame f → IsTorn torn → torn ≡ frame f ++ more → ⊥
torn_has_none f more torn p t e =
    let whole : frame f ++ (more ++ t.1) ≡ frame t.0 ++ [] = sym (append_assoc (frame f) more t.1) ∙ ap (λ z. z ++ t.1) (sym e) ∙ t.4 ∙ sym (append-nil (frame t.0)) in
    t.3 (none_behind more t.1 (one_frame f t.0 (more ++ t.1) [] p t.2 whole).1)

-- whole frames that were read are the first of those that were written
pub front_of : (hs ws : List Frame) (x torn : List ℕ) → AllByRecursion IsFrame hs → AllByRecursion IsFrame ws → IsTorn torn → stream ws ++ torn ≡ stream hs ++ x → (later : List Frame) × (ws ≡ hs ++ later)
front_of [] ws x torn p q t e = (ws, refl)
front_of (h ∷ hs) [] x torn p q t e = absurd (torn_has_none h (stream hs ++ x) torn p.0 t (e ∙ append_assoc (frame h) (stream hs) x))
front_of (h ∷ hs) (w ∷ ws) x torn p q t e =
    let fronts = one_frame w h (stream ws ++ torn) (stream hs ++ x) q.0 p.0 (sym (append_assoc (frame w) (stream ws) torn) ∙ e ∙ append_assoc (frame h) (stream hs) x) in
    let rest = front_of hs ws x torn p.1 q.1 t fronts.1 in
    let head : w ≡ h = fronts.0 in
    let tail : ws ≡ hs ++ rest.0 = rest.1 in
    (rest.0, cc)

-- what was read is the first of what was written
pub read_front : (read wrote : List ℕ) (hs ws : List Frame) → Read read hs → Wrote wrote ws → Delivers read wrote → (later : List Frame) × (ws ≡ hs ++ later)
read_front read wrote hs ws r w d =
    front_of hs ws (r.left ++ d.0) w.torn r.each w.each w.is_torn
    (sym w.whole ∙ d.1 ∙ ap (λ z. z ++ d.0) r.whole ∙ append_assoc (stream hs) r.left d.0)

pub link_is_true : LinkIsTrue
link_is_true c messages numbers last run txnr message counts =
    let back = read_front c.heard_bytes c.wrote_bytes c.heard c.wrote c.sender_read c.receiver_wrote c.back in
    let there = read_front c.came_bytes c.sent_bytes c.came c.sent c.receiver_read c.sender_wrote c.there in
    let both = answered_in c.came messages numbers c.wrote last run c.sent there.0 there.1 c.rises txnr message counts.text counts.sent (has_front c.heard back.0 c.wrote _ back.1 counts.heard) in
    record { taken = both.0; acknowledged = both.1 }

some_frame : (f : Frame) → frame f ≢ []
some_frame f e = let size = ap length e in absurd (omega (arith, size, length-append (decimal f.txnr) (32 ∷ (f.command ++ (32 ∷ tail f.content)))))

-- a frame that is short
one : Frame
one = record { txnr = 1; command = codes "rsp"; content = [] }

one_is_frame : IsFrame one
unfolding one
one_is_frame = record { txnr = omega arith; command = record { some = omega arith; short = omega arith; letters = (inr (omega arith, omega arith), (inr (omega arith, omega arith), (inr (omega arith, omega arith), tt))) }; size = omega arith }

nothing_torn : IsTorn []
nothing_torn = (one, frame one, one_is_frame, some_frame one, refl)

split_two : (xs ys zs ws : List ℕ) → xs ++ ys ≡ zs ++ ws → ((t : List ℕ) × (zs ≡ xs ++ t) × (ys ≡ t ++ ws)) ⊎ ((t : List ℕ) × (t ≢ []) × (xs ≡ zs ++ t))
split_two [] ys zs ws e = inl (zs, refl, e)
split_two (x ∷ xs) ys [] ws e = inr (x ∷ xs, (λ n. cc), refl)
split_two (x ∷ xs) ys (z ∷ zs) ws e =
    let rest : xs ++ ys ≡ zs ++ ws = cc in
    let head : x ≡ z = cc in
    elim (split_two xs ys zs ws rest) [
      | inl h ↦ inl (h.0, ap (λ k. z ∷ k) h.1 ∙ ap (λ k. k ∷ (xs ++ h.0)) (sym head), h.2)
      | inr h ↦ inr (h.0, h.1, ap (λ k. x ∷ k) h.2 ∙ ap (λ k. k ∷ (zs ++ h.0)) head)
    ]

none_in_front : (xs ys : List ℕ) → [] ≡ xs ++ ys → xs ≡ []
none_in_front [] ys e = refl
none_in_front (x ∷ xs) ys e = cc

-- the front of frames is whole frames, and at most a part of one more
pub front_splits : (fs : List Frame) (front rest : List ℕ) → AllByRecursion IsFrame fs → stream fs ≡ front ++ rest → (sent later : List Frame) × (fs ≡ sent ++ later) × Wrote front sent
front_splits [] front rest p e = ([], [], refl, record { torn = []; each = tt; is_torn = nothing_torn; whole = none_in_front front rest e })
front_splits (f ∷ fs) front rest p e = elim (split_two (frame f) (stream fs) front rest e) [
  | inl h ↦
      let more = front_splits fs h.0 rest p.1 h.2 in
      let w = more.3 in
      (f ∷ more.0, more.1, ap (λ k. f ∷ k) more.2, record { torn = w.torn; each = (p.0, w.each); is_torn = w.is_torn; whole = h.1 ∙ ap (λ z. frame f ++ z) w.whole ∙ sym (append_assoc (frame f) (stream more.0) w.torn) })
  | inr h ↦ ([], f ∷ fs, refl, record { torn = front; each = tt; is_torn = (f, h.0, p.0, h.1, sym h.2); whole = refl })
]
