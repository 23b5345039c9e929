-- The lines of many messages, and what of them is out.
use Rattle.std.proofs.Common.{◌≡◌, ℕ, ◌+◌, ◌<◌, ◌≤◌, ◌==◌, Bool, true, false, List, [], ◌∷◌, ◌++◌, length, take, drop, refl, sym, ap, ◌∙◌, arith, eqb-true, length-append, take-add}
use Rattle.std.proofs.lemmas.List.{append-nil, append_assoc, append_cancel_right, drop-drop, drop_at, length-drop, take-append-drop, take-take, take_at}
use Rattle.std.specs.Prelude.{Option, Some, None, if◌then◌else◌}
use Rattle.std.specs.Io.KnownBytes.{Appends, Keeps}
use Rattle.sy_wire.specs.Messages.{Said}
use Rattle.sy_wire.specs.Streams.{with_held}
use Rattle.sy_escapes.specs.Escapes.{HasNoFeed, escaped, line_feed, line_of, lines_of, trimmed}
use Rattle.sy_escapes.specs.internal.Lines.{line_len}
use Rattle.sy_escapes.proofs.Exact.{one_line}

pub lines_append : (xs ys : List Said) → lines_of (xs ++ ys) ≡ lines_of xs ++ lines_of ys
lines_append [] ys = refl
lines_append (m ∷ xs) ys = ap (λ x. line_of m ++ x) (lines_append xs ys) ∙ sym (append_assoc (line_of m) (lines_of xs) (lines_of ys))

-- the lines so far, and the next
pub lines_next : (ys : List Said) (k : ℕ) (m : Said) → take (k + 1) ys ≡ take k ys ++ m ∷ [] → lines_of (take (k + 1) ys) ≡ lines_of (take k ys) ++ line_of m
lines_next ys k m next = ap lines_of next ∙ lines_append (take k ys) (m ∷ []) ∙ ap (λ x. lines_of (take k ys) ++ x) (append-nil (line_of m))

-- the lines around one of them
pub around : (ys : List Said) (k : ℕ) (m : Said) → take (k + 1) ys ≡ take k ys ++ m ∷ [] → lines_of ys ≡ lines_of (take k ys) ++ (line_of m ++ lines_of (drop (k + 1) ys))
around ys k m next =
    ap lines_of (sym (take-append-drop (k + 1) ys)) ∙ lines_append (take (k + 1) ys) (drop (k + 1) ys) ∙ ap (λ x. x ++ lines_of (drop (k + 1) ys)) (lines_next ys k m next)
    ∙ append_assoc (lines_of (take k ys)) (line_of m) (lines_of (drop (k + 1) ys))

len_by : (b n : ℕ) → (b ≡ line_feed → ⊥) → (t : Bool) → (b == line_feed) ≡ t → (if t then 1 else n + 1) ≡ n + 1
len_by b n differs true e = absurd (differs (eqb-true b line_feed e))
len_by b n differs false e = refl

-- how long a text without line feeds and its line feed are
feed_len : (text later : List ℕ) → HasNoFeed text → line_len (text ++ line_feed ∷ later) ≡ length text + 1
feed_len [] later none = refl
feed_len (b ∷ text) later none = len_by b (line_len (text ++ line_feed ∷ later)) none.0 (b == line_feed) refl ∙ ap (λ n. n + 1) (feed_len text later none.1) ∙ omega arith

pub first_len : (m : Said) (later : List ℕ) → line_len (line_of m ++ later) ≡ length (line_of m)
first_len m later =
    let text = escaped (trimmed m.raw) in
    ap line_len (append_assoc text (line_feed ∷ []) later) ∙ feed_len text later (one_line (trimmed m.raw)) ∙ sym (length-append text (line_feed ∷ []))

-- how long the line is that begins after some
pub next_len : (ys : List Said) (text : List ℕ) (k start : ℕ) (m : Said) → text ≡ lines_of ys → take (k + 1) ys ≡ take k ys ++ m ∷ [] → start ≡ length (lines_of (take k ys)) → line_len (drop start text) ≡ length (line_of m)
next_len ys text k start m is next size =
    let rest = line_of m ++ lines_of (drop (k + 1) ys) in
    ap (λ t. line_len (drop start t)) (is ∙ around ys k m next) ∙ ap line_len (drop_at (lines_of (take k ys)) rest start (sym size)) ∙ first_len m (lines_of (drop (k + 1) ys))

pub size_next : (ys : List Said) (k start : ℕ) (m : Said) → take (k + 1) ys ≡ take k ys ++ m ∷ [] → start ≡ length (lines_of (take k ys)) → start + length (line_of m) ≡ length (lines_of (take (k + 1) ys))
size_next ys k start m next size =
    let all : length (lines_of (take (k + 1) ys)) ≡ length (lines_of (take k ys)) + length (line_of m) = ap length (lines_next ys k m next) ∙ length-append (lines_of (take k ys)) (line_of m) in
    omega (arith, all, size)

-- ---- what a writer has, with what is still to be written

pub keeps_more : (a b c : Option (List ℕ)) (bytes piece : List ℕ) (at n : ℕ) → Keeps a (with_held b (drop at bytes)) → piece ≡ drop at bytes → Appends b c (take n piece) → Keeps a (with_held c (drop (at + n) bytes))
keeps_more None b c bytes piece at n kept is wrote = tt
keeps_more (Some x) None c bytes piece at n kept is wrote = absurd kept
keeps_more (Some x) (Some y) None bytes piece at n kept is wrote = absurd wrote
keeps_more (Some x) (Some y) (Some z) bytes piece at n kept is wrote =
    ap (λ t. t ++ drop (at + n) bytes) (wrote ∙ ap (λ p. y ++ take n p) is) ∙ append_assoc y (take n (drop at bytes)) (drop (at + n) bytes)
    ∙ ap (λ t. y ++ t) (ap (λ t. take n (drop at bytes) ++ t) (sym (drop-drop n at bytes)) ∙ take-append-drop n (drop at bytes)) ∙ kept

pub keeps_same : (a : Option (List ℕ)) → Keeps a a
keeps_same None = tt
keeps_same (Some x) = refl

-- what is begun is the whole text
pub begins_text : (a b : Option (List ℕ)) (old text rest : List ℕ) → old ≡ [] → Keeps (with_held a text) (with_held b rest) → Appends (with_held a old) (with_held b rest) text
begins_text None b old text rest none kept = tt
begins_text (Some x) None old text rest none kept = absurd kept
begins_text (Some x) (Some y) old text rest none kept = kept ∙ ap (λ t. t ++ text) (sym (append-nil x) ∙ ap (λ t. x ++ t) (sym none))

-- what is begun is what is out, and what is still to be written
pub begins_part :
    (a b : Option (List ℕ)) (old text rest begun : List ℕ) (reached : ℕ) → old ≡ [] → Keeps (with_held a text) (with_held b (drop reached text))
    → take reached text ++ rest ≡ begun → Appends (with_held a old) (with_held b rest) begun
begins_part None b old text rest begun reached none kept is = tt
begins_part (Some x) None old text rest begun reached none kept is = absurd kept
begins_part (Some x) (Some y) old text rest begun reached none kept is =
    let out : y ≡ x ++ take reached text =
    append_cancel_right y (x ++ take reached text) (drop reached text)
    (kept ∙ ap (λ t. x ++ t) (sym (take-append-drop reached text)) ∙ sym (append_assoc x (take reached text) (drop reached text))) in
    ap (λ t. t ++ rest) out ∙ append_assoc x (take reached text) rest ∙ ap (λ t. x ++ t) is ∙ ap (λ t. t ++ begun) (sym (append-nil x) ∙ ap (λ t. x ++ t) (sym none))

pub begins_none : (a b : Option (List ℕ)) → Keeps a b → Appends a b []
begins_none None b kept = tt
begins_none (Some x) None kept = absurd kept
begins_none (Some x) (Some y) kept = kept ∙ sym (append-nil x)

pub begins_then : (a b c : Option (List ℕ)) (xs ys : List ℕ) → Appends a b xs → Appends b c ys → Appends a c (xs ++ ys)
begins_then None b c xs ys first second = tt
begins_then (Some x) None c xs ys first second = absurd first
begins_then (Some x) (Some y) None xs ys first second = absurd second
begins_then (Some x) (Some y) (Some z) xs ys first second = second ∙ ap (λ t. t ++ ys) first ∙ append_assoc x xs ys

-- ---- what is left of lines

next_by : (ys : List Said) (k : ℕ) (later : List Said) → drop k ys ≡ later → 0 < length later → (m : Said) × (take (k + 1) ys ≡ take k ys ++ m ∷ [])
next_by ys k [] is some = absurd (omega (arith, some))
next_by ys k (m ∷ later) is some = (m, take-add k 1 ys ∙ ap (λ t. take k ys ++ take 1 t) is)

pub next_at : (ys : List Said) (k : ℕ) → k < length ys → (m : Said) × (take (k + 1) ys ≡ take k ys ++ m ∷ [])
next_at ys k within = next_by ys k (drop k ys) refl (omega (arith, within, length-drop k ys))

pub text_so_far : (ys : List Said) (text : List ℕ) (k start : ℕ) (m : Said) → text ≡ lines_of ys → take (k + 1) ys ≡ take k ys ++ m ∷ [] → start ≡ length (lines_of (take k ys)) → take start text ≡ lines_of (take k ys)
text_so_far ys text k start m is next size =
    ap (take start) (is ∙ around ys k m next) ∙ take_at (lines_of (take k ys)) (line_of m ++ lines_of (drop (k + 1) ys)) start (sym size)

pub text_and_next :
    (ys : List Said) (text : List ℕ) (k start len : ℕ) (m : Said) → text ≡ lines_of ys → take (k + 1) ys ≡ take k ys ++ m ∷ [] → start ≡ length (lines_of (take k ys))
    → len ≡ length (line_of m) → take (start + len) text ≡ lines_of (take k ys) ++ line_of m
text_and_next ys text k start len m is next size more =
    let front = lines_of (take k ys) in
    let later = lines_of (drop (k + 1) ys) in
    let whole : start + len ≡ length (front ++ line_of m) = omega (arith, size, more, length-append front (line_of m)) in
    ap (take (start + len)) (is ∙ around ys k m next ∙ sym (append_assoc front (line_of m) later)) ∙ take_at (front ++ line_of m) later (start + len) (sym whole)

pub rejoined : (out n : ℕ) (text all : List ℕ) → out ≤ n → take n text ≡ all → take out text ++ drop out (take n text) ≡ all
rejoined out n text all within is = ap (λ t. t ++ drop out (take n text)) (sym (take-take out n text within)) ∙ take-append-drop out (take n text) ∙ is
