-- The frame that bytes begin with is one.
use Rattle.std.proofs.Common.{◌≡◌, ℕ, ◌<◌, ◌≤◌, inl, inr, List, [], ◌∷◌, ◌++◌, length, refl, sym, ap, ◌∙◌, arith}
use Rattle.std.specs.List.{AllByRecursion}
use Rattle.std.specs.Fmt.{decimal}
use Rattle.std.proofs.lemmas.Fmt.{decimal_is_IsNumeral, decimal_injective}
use Rattle.std.proofs.lemmas.List.{append_assoc}
use Rattle.sy_wire.specs.Characters.{IsDigit}
use Rattle.sy_relp.proofs.Digits.{Digits, digits_from_all, one_front, space_is_none}
use Rattle.sy_relp.specs.Frames.{Frame, IsFrame, IsLetter, frame, tail}

pub digits_of : (n : ℕ) → n < 10000000000 → Digits (decimal n)
digits_of n small = let numeral = decimal_is_IsNumeral n (omega arith) in digits_from_all (decimal n) numeral.0.1

pub feed_is_none : IsDigit 10 → ⊥
feed_is_none digit = omega (arith, digit.0)

-- a letter is no space
space_is_no_letter : IsLetter 32 → ⊥
space_is_no_letter (inl h) = omega (arith, h.0)
space_is_no_letter (inr h) = omega (arith, h.0)

-- letters before the first space
pub one_word : (a b x y : List ℕ) → AllByRecursion IsLetter a → AllByRecursion IsLetter b → a ++ 32 ∷ x ≡ b ++ 32 ∷ y → (a ≡ b) × (x ≡ y)
one_word [] [] x y p q e = (refl, cc)
one_word [] (b ∷ bs) x y p q e = let same : 32 ≡ b = cc in absurd (space_is_no_letter (rw same q.0))
one_word (a ∷ az) [] x y p q e = let same : a ≡ 32 = cc in absurd (space_is_no_letter (rw (← same) p.0))
one_word (a ∷ az) (b ∷ bs) x y p q e =
    let rest : az ++ 32 ∷ x ≡ bs ++ 32 ∷ y = cc in
    let head : a ≡ b = cc in
    let parts = one_word az bs x y p.1 q.1 rest in
    (let same : az ≡ bs = parts.0 in cc, parts.1)

-- fronts of one length of equal lists are equal
pub same_front : (a b x y : List ℕ) → length a ≡ length b → a ++ x ≡ b ++ y → (a ≡ b) × (x ≡ y)
same_front [] [] x y same e = (refl, e)
same_front [] (b ∷ bs) x y same e = absurd (omega arith)
same_front (a ∷ az) [] x y same e = absurd (omega arith)
same_front (a ∷ az) (b ∷ bs) x y same e =
    let rest : az ++ x ≡ bs ++ y = cc in
    let head : a ≡ b = cc in
    let parts = same_front az bs x y (omega arith) rest in
    (let tail : az ≡ bs = parts.0 in cc, parts.1)

-- numbers before a byte that is no digit
pub one_number : (m n c d : ℕ) (x y : List ℕ) → m ≤ 999999999 → n ≤ 999999999 → (IsDigit c → ⊥) → (IsDigit d → ⊥) → decimal m ++ c ∷ x ≡ decimal n ++ d ∷ y → (m ≡ n) × (c ≡ d) × (x ≡ y)
one_number m n c d x y p q nc nd e =
    let parts = one_front _ _ c d x y (digits_of m (omega arith)) (digits_of n (omega arith)) nc nd e in
    (decimal_injective m n (omega arith) (omega arith) parts.0, parts.1, parts.2)

-- what stands behind the length, with what follows the frame
pub one_tail : (a b x y : List ℕ) → length a ≤ 65536 → length b ≤ 65536 → tail a ++ x ≡ tail b ++ y → (a ≡ b) × (x ≡ y)
one_tail [] [] x y p q e =
    let parts = one_number 0 0 10 10 x y (omega arith) (omega arith) feed_is_none feed_is_none (sym (append_assoc (decimal 0) (10 ∷ []) x) ∙ e ∙ append_assoc (decimal 0) (10 ∷ []) y) in
    (refl, parts.2)
one_tail [] (b ∷ bs) x y p q e =
    let parts = one_number 0 (length (b ∷ bs)) 10 32 x _ (omega arith) (omega arith) feed_is_none space_is_none (sym (append_assoc (decimal 0) (10 ∷ []) x) ∙ e ∙ append_assoc (decimal (length (b ∷ bs))) (32 ∷ b ∷ (bs ++ 10 ∷ [])) y) in
    absurd (omega (arith, parts.0))
one_tail (a ∷ az) [] x y p q e =
    let parts = one_number (length (a ∷ az)) 0 32 10 _ y (omega arith) (omega arith) space_is_none feed_is_none (sym (append_assoc (decimal (length (a ∷ az))) (32 ∷ a ∷ (az ++ 10 ∷ [])) x) ∙ e ∙ append_assoc (decimal 0) (10 ∷ []) y) in
    absurd (omega (arith, parts.0))
one_tail (a ∷ az) (b ∷ bs) x y p q e =
    let parts = one_number (length (a ∷ az)) (length (b ∷ bs)) 32 32 ((a ∷ (az ++ 10 ∷ [])) ++ x) ((b ∷ (bs ++ 10 ∷ [])) ++ y) (omega arith) (omega arith) space_is_none space_is_none
    (sym (append_assoc (decimal (length (a ∷ az))) (32 ∷ a ∷ (az ++ 10 ∷ [])) x) ∙ e ∙ append_assoc (decimal (length (b ∷ bs))) (32 ∷ b ∷ (bs ++ 10 ∷ [])) y) in
    let datas = same_front (a ∷ az) (b ∷ bs) (10 ∷ x) (10 ∷ y) parts.0 (sym (append_assoc (a ∷ az) (10 ∷ []) x) ∙ parts.2 ∙ append_assoc (b ∷ bs) (10 ∷ []) y) in
    (datas.0, let e2 = datas.1 in cc)

pub same_fields : (f g : Frame) → f.txnr ≡ g.txnr → f.command ≡ g.command → f.content ≡ g.content → f ≡ g
same_fields f g p q r =
    ap (λ (t : ℕ). record { txnr = t; command = f.command; content = f.content }) p
    ∙ ap (λ (c : List ℕ). record { txnr = g.txnr; command = c; content = f.content }) q
    ∙ ap (λ (d : List ℕ). record { txnr = g.txnr; command = g.command; content = d }) r

-- the parts of a frame and what follows
pub frame_then : (f : Frame) (x : List ℕ) → frame f ++ x ≡ decimal f.txnr ++ 32 ∷ (f.command ++ 32 ∷ (tail f.content ++ x))
frame_then f x =
    append_assoc (decimal f.txnr) (32 ∷ (f.command ++ 32 ∷ tail f.content)) x ∙ ap (λ z. decimal f.txnr ++ 32 ∷ z) (append_assoc f.command (32 ∷ tail f.content) x)

pub one_frame : (f g : Frame) (x y : List ℕ) → IsFrame f → IsFrame g → frame f ++ x ≡ frame g ++ y → (f ≡ g) × (x ≡ y)
one_frame f g x y p q e =
    let heads = one_number f.txnr g.txnr 32 32 _ _ p.txnr q.txnr space_is_none space_is_none (sym (frame_then f x) ∙ e ∙ frame_then g y) in
    let words = one_word f.command g.command _ _ p.command.letters q.command.letters heads.2 in
    let tails = one_tail f.content g.content x y p.size q.size words.1 in
    (same_fields f g heads.0 words.0 tails.0, tails.1)
