-- Bytes that a fault is told of begin with no frame, however they go on.
use Rattle.std.proofs.Common.{◌≡◌, ◌≢◌, ℕ, ◌<◌, List, [], ◌∷◌, ◌++◌, length, sym, ap, ◌∙◌, arith}
use Rattle.std.specs.Fmt.{decimal}
use Rattle.std.proofs.lemmas.List.{append_assoc}
use Rattle.sy_relp.specs.Faults.{Faulty, HasHead, IsBadCommand, IsBadLength, IsBadNumber, IsBadTrailer, IsTooLong, length_end}
use Rattle.sy_relp.specs.Frames.{Frame, IsDead, IsFrame, frame}
use Rattle.sy_relp.specs.declared.fault.FrameFault.{FrameFault}
use Rattle.sy_relp.specs.declared.fault.FrameFault.TheVariants.{BadNumber, BadCommand, BadLength, TooLong, BadTrailer, Truncated, NoMemory, Failed}
use Rattle.sy_relp.specs.internal.Parts.{closed}
use Rattle.sy_relp.proofs.Digits.{front_digits, space_is_none, value_le}
use Rattle.sy_relp.proofs.Goings.{closed_some}
use Rattle.sy_relp.proofs.OneFrame.{digits_of, frame_then, one_number, one_word, same_front}
use Rattle.sy_relp.proofs.Whole.{end_is_no_digit, frame_all, head_more}

dead_number : (bytes : List ℕ) → IsBadNumber bytes → IsDead bytes
dead_number bytes bad f more rest good e = bad f.txnr more _ good.txnr (e ∙ frame_then f rest)

dead_command : (bytes : List ℕ) → IsBadCommand bytes → IsDead bytes
dead_command bytes bad f more rest good e =
    let parts = one_number bad.0 f.txnr 32 32 (bad.1 ++ more) _ bad.2 good.txnr space_is_none space_is_none
    (sym (append_assoc (decimal bad.0) (32 ∷ bad.1) more) ∙ ap (λ z. z ++ more) (sym bad.3) ∙ e ∙ frame_then f rest) in
    bad.4 f.command more _ good.command parts.2

-- what stands behind the head of both
behind_head : (bytes r : List ℕ) (f : Frame) (more rest : List ℕ) → HasHead bytes r → IsFrame f → bytes ++ more ≡ frame f ++ rest → r ++ more ≡ decimal (length f.content) ++ length_end (length f.content) ∷ (closed f.content ++ rest)
behind_head bytes r f more rest h good e =
    let parts = one_number h.txnr f.txnr 32 32 _ _ h.number good.txnr space_is_none space_is_none (sym (head_more bytes r more h) ∙ e ∙ frame_all f rest) in
    (one_word h.command f.command _ _ h.is_command.letters good.command.letters parts.2).1

dead_length : (bytes : List ℕ) → IsBadLength bytes → IsDead bytes
dead_length bytes bad f more rest good e = bad.2 (length f.content) more _ good.size (behind_head bytes bad.0 f more rest bad.1 good e)

dead_long : (bytes : List ℕ) → IsTooLong bytes → IsDead bytes
dead_long bytes bad f more rest good e =
    let long = bad.2 in
    let len = length f.content in
    let n = long.0 in
    let parts : decimal len ++ length_end len ∷ (closed f.content ++ rest) ≡ decimal n ++ (long.1 ++ more) =
    sym (behind_head bytes bad.0 f more rest bad.1 good e) ∙ ap (λ z. z ++ more) long.4 ∙ append_assoc (decimal n) long.1 more in
    let inside = front_digits (decimal len) (decimal n) (length_end len) _ _ (digits_of n (omega (arith, long.3))) (end_is_no_digit len) parts in
    let less = value_le n len inside.0 (omega (arith, long.3)) (omega (arith, good.size)) inside.1 in
    omega (arith, less, long.2, good.size)

no_line_feed : (text content : List ℕ) (b : ℕ) (behind more rest : List ℕ) → length text ≡ length content → 0 < length content → b ≢ 10 → (text ++ b ∷ behind) ++ more ≡ closed content ++ rest → ⊥
no_line_feed text content b behind more rest size some other e =
    let whole : text ++ b ∷ (behind ++ more) ≡ content ++ 10 ∷ rest =
    sym (append_assoc text (b ∷ behind) more) ∙ e ∙ ap (λ z. z ++ rest) (closed_some content some) ∙ append_assoc content (10 ∷ []) rest in
    let parts = same_front text content (b ∷ (behind ++ more)) (10 ∷ rest) size whole in
    let same : b ∷ (behind ++ more) ≡ 10 ∷ rest = parts.1 in
    other (let is : b ≡ 10 = cc in is)

dead_trailer : (bytes : List ℕ) → IsBadTrailer bytes → IsDead bytes
dead_trailer bytes bad f more rest good e =
    let r = bad.0 in
    let text = bad.1 in
    let len = length f.content in
    let parts = one_number (length text) len 32 (length_end len) ((text ++ bad.3 ∷ bad.2) ++ more) (closed f.content ++ rest) (omega (arith, bad.6)) (omega (arith, good.size)) space_is_none (end_is_no_digit len)
    (sym (append_assoc (decimal (length text)) (32 ∷ (text ++ bad.3 ∷ bad.2)) more) ∙ ap (λ z. z ++ more) (sym bad.7) ∙ behind_head bytes r f more rest bad.4 good e) in
    no_line_feed text f.content bad.3 bad.2 more rest parts.0 (omega (arith, parts.0, bad.5)) bad.8 parts.2

pub faulty_is_dead : (fault : FrameFault) (bytes : List ℕ) → Faulty fault bytes → IsDead bytes
faulty_is_dead BadNumber bytes bad = dead_number bytes bad
faulty_is_dead BadCommand bytes bad = dead_command bytes bad
faulty_is_dead BadLength bytes bad = dead_length bytes bad
faulty_is_dead TooLong bytes bad = dead_long bytes bad
faulty_is_dead BadTrailer bytes bad = dead_trailer bytes bad
faulty_is_dead Truncated bytes bad = absurd bad
faulty_is_dead NoMemory bytes bad = absurd bad
faulty_is_dead Failed bytes bad = absurd bad
