-- A frame by its parts, and what more bytes change.
use Rattle.std.proofs.Common.{◌≡◌, ℕ, zero, suc, ◌<◌, ◌≤◌, List, [], ◌∷◌, ◌++◌, length, get_or, take, refl, sym, ap, ◌∙◌, arith}
use Rattle.std.specs.Fmt.{decimal}
use Rattle.std.proofs.lemmas.List.{append-nil, append_assoc}
use Rattle.sy_wire.specs.Characters.{IsDigit}
use Rattle.sy_relp.specs.Faults.{HasHead, length_end}
use Rattle.sy_relp.specs.Frames.{Frame, IsCommand, body, frame, tail}
use Rattle.sy_relp.specs.Reading.{FrameAt}
use Rattle.sy_relp.specs.internal.Parts.{closed}
use Rattle.sy_relp.proofs.Digits.{space_is_none}
use Rattle.sy_relp.proofs.OneFrame.{feed_is_none, frame_then}

pub take_front : (i : ℕ) (xs ys : List ℕ) → i ≤ length xs → take i (xs ++ ys) ≡ take i xs
take_front zero xs ys within = refl
take_front (suc i) [] ys within = absurd (omega (arith, within))
take_front (suc i) (x ∷ xs) ys within = ap (λ z. x ∷ z) (take_front i xs ys (omega (arith, within)))

pub get_front : (i d : ℕ) (xs ys : List ℕ) → i < length xs → get_or (xs ++ ys) i d ≡ get_or xs i d
get_front i d [] ys within = absurd (omega (arith, within))
get_front zero d (x ∷ xs) ys within = refl
get_front (suc i) d (x ∷ xs) ys within = get_front i d xs ys (omega (arith, within))

pub none_before : (xs ys : List ℕ) → xs ++ ys ≡ [] → xs ≡ []
none_before [] ys e = refl
none_before (x ∷ xs) ys e = cc

pub end_is_no_digit : (n : ℕ) → IsDigit (length_end n) → ⊥
end_is_no_digit zero = feed_is_none
end_is_no_digit (suc n) = space_is_none

pub end_of_some : (n : ℕ) → 0 < n → length_end n ≡ 32
end_of_some zero some = absurd (omega (arith, some))
end_of_some (suc n) some = refl

-- behind a length
pub body_closed : (content rest : List ℕ) → body content ++ 10 ∷ rest ≡ length_end (length content) ∷ (closed content ++ rest)
body_closed [] rest = refl
body_closed (b ∷ content) rest = ap (λ z. 32 ∷ b ∷ z) (sym (append_assoc content (10 ∷ []) rest))

pub tail_closed : (content rest : List ℕ) → tail content ++ rest ≡ decimal (length content) ++ length_end (length content) ∷ (closed content ++ rest)
tail_closed content rest =
    append_assoc (decimal (length content)) (body content ++ 10 ∷ []) rest
    ∙ ap (λ z. decimal (length content) ++ z) (append_assoc (body content) (10 ∷ []) rest ∙ body_closed content rest)

-- all of a frame, and what stands behind it
pub all_of : Frame → List ℕ → List ℕ
all_of f rest = decimal f.txnr ++ 32 ∷ (f.command ++ 32 ∷ (decimal (length f.content) ++ length_end (length f.content) ∷ (closed f.content ++ rest)))

pub frame_all : (f : Frame) (rest : List ℕ) → frame f ++ rest ≡ decimal f.txnr ++ 32 ∷ (f.command ++ 32 ∷ (decimal (length f.content) ++ length_end (length f.content) ∷ (closed f.content ++ rest)))
frame_all f rest = frame_then f rest ∙ ap (λ z. decimal f.txnr ++ 32 ∷ (f.command ++ 32 ∷ z)) (tail_closed f.content rest)

pub frame_alone : (f : Frame) → frame f ≡ decimal f.txnr ++ 32 ∷ (f.command ++ 32 ∷ (decimal (length f.content) ++ length_end (length f.content) ∷ closed f.content))
frame_alone f =
    sym (append-nil (frame f)) ∙ frame_all f []
    ∙ ap (λ z. decimal f.txnr ++ 32 ∷ (f.command ++ 32 ∷ (decimal (length f.content) ++ length_end (length f.content) ∷ z))) (append-nil (closed f.content))

-- more bytes behind a head
pub head_more : (bytes rest more : List ℕ) (h : HasHead bytes rest) → bytes ++ more ≡ decimal h.txnr ++ 32 ∷ (h.command ++ 32 ∷ (rest ++ more))
head_more bytes rest more h =
    ap (λ z. z ++ more) h.whole ∙ append_assoc (decimal h.txnr) (32 ∷ (h.command ++ 32 ∷ rest)) more
    ∙ ap (λ z. decimal h.txnr ++ 32 ∷ z) (append_assoc h.command (32 ∷ rest) more)

pub head_of : (bytes r1 rest word : List ℕ) (t : ℕ) → bytes ≡ decimal t ++ 32 ∷ r1 → t ≤ 999999999 → r1 ≡ word ++ 32 ∷ rest → IsCommand word → HasHead bytes rest
head_of bytes r1 rest word t a most b command = record {
  txnr = t;
  command = word;
  number = most;
  is_command = command;
  whole = a ∙ ap (λ z. decimal t ++ 32 ∷ z) b;
}

-- the parts make the frame
pub frame_is : (bytes r1 r2 word r3 content behind : List ℕ) (txnr len : ℕ)
    → bytes ≡ decimal txnr ++ 32 ∷ r1 → txnr ≤ 999999999 → r1 ≡ word ++ 32 ∷ r2 → IsCommand word → r2 ≡ decimal len ++ length_end len ∷ r3 → len ≤ 65536 → r3 ≡ closed content ++ behind → length content ≡ len
    → FrameAt bytes (record { txnr = txnr; command = word; content = content }) behind
frame_is bytes r1 r2 word r3 content behind txnr len a most b command d fits e size = record {
  is_frame = record { txnr = most; command = command; size = omega (arith, size, fits) };
  whole =
      a ∙ ap (λ z. decimal txnr ++ 32 ∷ z) (b ∙ ap (λ z. word ++ 32 ∷ z) (d ∙ ap (λ z. decimal len ++ length_end len ∷ z) e ∙ ap (λ n. decimal n ++ length_end n ∷ (closed content ++ behind)) (sym size)))
      ∙ sym (frame_all (record { txnr = txnr; command = word; content = content }) behind);
}
