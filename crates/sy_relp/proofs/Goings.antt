-- Bytes that go on to a frame.
use Rattle.std.proofs.Common.{◌≡◌, ◌≢◌, ℕ, zero, suc, ◌<◌, ◌≤◌, inr, List, [], ◌∷◌, ◌++◌, length, refl, sym, ap, ◌∙◌, arith}
use Rattle.std.specs.Fmt.{decimal}
use Rattle.std.proofs.lemmas.List.{append-nil, append_assoc}
use Rattle.sy_relp.specs.Faults.{HasHead, length_end}
use Rattle.sy_relp.specs.Frames.{Frame, GoesOn, IsCommand, IsFrame, NoFrame, frame}
use Rattle.sy_relp.specs.internal.Parts.{closed}
use Rattle.sy_relp.proofs.OneFrame.{one_frame}
use Rattle.sy_relp.proofs.Whole.{frame_alone, head_more, none_before}

letter_is_command : IsCommand (97 ∷ [])
letter_is_command = record { some = omega arith; short = omega arith; letters = (inr (omega arith, omega arith), tt) }

goes_on : (bytes more rest : List ℕ) (f : Frame) → IsFrame f → more ≢ [] → (bytes ++ more) ++ rest ≡ frame f → GoesOn bytes
goes_on bytes more rest f good some whole = (f, more ++ rest, good, (λ e. some (none_before more rest e)), sym (append_assoc bytes more rest) ∙ whole)

-- the shortest frame of a number
pub by_txnr : (bytes more : List ℕ) (n : ℕ) → n ≤ 999999999 → more ≢ [] → bytes ++ more ≡ decimal n ++ 32 ∷ [] → GoesOn bytes
by_txnr bytes more n most some is =
    let f : Frame = record { txnr = n; command = 97 ∷ []; content = [] } in
    let rest = 97 ∷ 32 ∷ (decimal 0 ++ 10 ∷ []) in
    goes_on bytes more rest f (record { txnr = most; command = letter_is_command; size = omega arith }) some
    (ap (λ z. z ++ rest) is ∙ append_assoc (decimal n) (32 ∷ []) rest ∙ sym (frame_alone f))

-- of a number and a command
pub by_command : (bytes r1 more word : List ℕ) (n : ℕ) → bytes ≡ decimal n ++ 32 ∷ r1 → n ≤ 999999999 → IsCommand word → more ≢ [] → r1 ++ more ≡ word ++ 32 ∷ [] → GoesOn bytes
by_command bytes r1 more word n a most command some is =
    let f : Frame = record { txnr = n; command = word; content = [] } in
    let rest = decimal 0 ++ 10 ∷ [] in
    goes_on bytes more rest f (record { txnr = most; command = command; size = omega arith }) some
    (ap (λ z. (z ++ more) ++ rest) a ∙ ap (λ z. z ++ rest) (append_assoc (decimal n) (32 ∷ r1) more) ∙ append_assoc (decimal n) (32 ∷ (r1 ++ more)) rest
    ∙ ap (λ z. decimal n ++ 32 ∷ (z ++ rest)) is ∙ ap (λ z. decimal n ++ 32 ∷ z) (append_assoc word (32 ∷ []) rest) ∙ sym (frame_alone f))

-- so many bytes of content
abbrev pub noughts : ℕ → List ℕ
noughts zero = []
noughts (suc n) = 0 ∷ noughts n

pub length_noughts : (n : ℕ) → length (noughts n) ≡ n
length_noughts zero = refl
length_noughts (suc n) = ap suc (length_noughts n)

over_head : (bytes rest more tail : List ℕ) (h : HasHead bytes rest) → (bytes ++ more) ++ tail ≡ decimal h.txnr ++ 32 ∷ (h.command ++ 32 ∷ ((rest ++ more) ++ tail))
over_head bytes rest more tail h =
    ap (λ z. z ++ tail) (head_more bytes rest more h) ∙ append_assoc (decimal h.txnr) (32 ∷ (h.command ++ 32 ∷ (rest ++ more))) tail
    ∙ ap (λ z. decimal h.txnr ++ 32 ∷ z) (append_assoc h.command (32 ∷ (rest ++ more)) tail)

-- of a head and a length
pub by_length : (bytes rest more : List ℕ) (len : ℕ) → HasHead bytes rest → len ≤ 65536 → more ≢ [] → rest ++ more ≡ decimal len ++ length_end len ∷ [] → GoesOn bytes
by_length bytes rest more len h fits some is =
    let f : Frame = record { txnr = h.txnr; command = h.command; content = noughts len } in
    let size = length_noughts len in
    goes_on bytes more (closed (noughts len)) f (record { txnr = h.number; command = h.is_command; size = omega (arith, size, fits) }) some
    (over_head bytes rest more (closed (noughts len)) h
    ∙ ap (λ z. decimal h.txnr ++ 32 ∷ (h.command ++ 32 ∷ z)) (ap (λ z. z ++ closed (noughts len)) is ∙ append_assoc (decimal len) (length_end len ∷ []) (closed (noughts len)) ∙ ap (λ n. decimal n ++ length_end n ∷ closed (noughts len)) (sym size))
    ∙ sym (frame_alone f))

pub closed_some : (content : List ℕ) → 0 < length content → closed content ≡ content ++ 10 ∷ []
closed_some [] some = absurd (omega (arith, some))
closed_some (b ∷ content) some = refl

-- of all but the end of the content
pub by_content : (bytes rest r3 more content : List ℕ) (len : ℕ) → HasHead bytes rest → rest ≡ decimal len ++ length_end len ∷ r3 → len ≤ 65536 → length content ≡ len → 0 < len → more ≢ [] → r3 ++ more ≡ content ++ 10 ∷ [] → GoesOn bytes
by_content bytes rest r3 more content len h d fits size positive some is =
    let f : Frame = record { txnr = h.txnr; command = h.command; content = content } in
    goes_on bytes more [] f (record { txnr = h.number; command = h.is_command; size = omega (arith, size, fits) }) some
    (append-nil (bytes ++ more) ∙ head_more bytes rest more h
    ∙ ap (λ z. decimal h.txnr ++ 32 ∷ (h.command ++ 32 ∷ z))
    (ap (λ z. z ++ more) d ∙ append_assoc (decimal len) (length_end len ∷ r3) more ∙ ap (λ z. decimal len ++ length_end len ∷ z) (is ∙ sym (closed_some content (omega (arith, size, positive)))) ∙ ap (λ n. decimal n ++ length_end n ∷ closed content) (sym size))
    ∙ sym (frame_alone f))

none_behind : (xs ys : List ℕ) → xs ++ ys ≡ [] → ys ≡ []
none_behind [] ys e = e
none_behind (x ∷ xs) ys e = cc

-- what goes on to a frame begins with none
pub goes_on_has_none : (bytes : List ℕ) → GoesOn bytes → NoFrame bytes
goes_on_has_none bytes g f rest good e =
    let whole : frame f ++ (rest ++ g.1) ≡ frame g.0 ++ [] = sym (append_assoc (frame f) rest g.1) ∙ ap (λ z. z ++ g.1) (sym e) ∙ g.4 ∙ sym (append-nil (frame g.0)) in
    g.3 (none_behind rest g.1 (one_frame f g.0 (rest ++ g.1) [] good g.2 whole).1)
