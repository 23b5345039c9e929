-- What bytes begin with is counted in one way.
use Rattle.std.proofs.Common.{◌≡◌, ℕ, ◌+◌, List, [], ◌∷◌, ◌++◌, length, length-append, refl, sym, ap, ◌∙◌, subst, append_assoc, arith}
use Rattle.std.specs.Fmt.{decimal}
use Rattle.sy_wire.specs.Frames.{IsSize, frame, stream}
use Rattle.sy_wire.proofs.CuttingLaws.{one_frame}
use Rattle.sy_wire.proofs.OneReading.{no_message}
use Rattle.sy_runtime.specs.Connections.{Begins, Counts, IsNoText, IsText, Kept, Sorted}

adds_up : (frames unread : List (List ℕ)) (took : ℕ) → Sorted frames unread took → length frames ≡ length unread + took
adds_up _ _ _ Sorted.nothing = refl
adds_up _ _ _ (Sorted.unread {later} {unread} {took} raw is size sorted) = let e = adds_up later unread took sorted in omega arith
adds_up _ _ _ (Sorted.message {later} {unread} {took} raw is size sorted) = let e = adds_up later unread took sorted in omega arith

pub counts_add : (bytes : List ℕ) (end : Counts) (kept : Kept) (rest : List ℕ) → Begins bytes end kept rest → end.frames ≡ end.unread + end.took
counts_add bytes end kept rest b = sym b.count ∙ adds_up b.frames b.unread end.took b.sorted ∙ ap (λ n. n + end.took) b.none

-- a text is a message's or none's
not_both : (raw : List ℕ) → IsNoText raw → IsText raw → ⊥
not_both raw (code, offset, fault) (said, is, its) = no_message raw code offset fault said its is

-- the first frames of the same bytes are the same
same_frame : (m n : List ℕ) (ms ns : List (List ℕ)) (x y : List ℕ) → IsSize (length m) → IsSize (length n)
    → stream (m ∷ ms) ++ x ≡ stream (n ∷ ns) ++ y → (m ≡ n) × (stream ms ++ x ≡ stream ns ++ y)
same_frame m n ms ns x y size nize e = one_frame m n (stream ms ++ x) (stream ns ++ y) size nize
    (sym (append_assoc (frame m) (stream ms) x) ∙ e ∙ append_assoc (frame n) (stream ns) y)

-- as many frames at the front of the same bytes are sorted in one way
one_front : (ms ns u : List (List ℕ)) (t : ℕ) (v : List (List ℕ)) (w : ℕ) (x y : List ℕ) → Sorted ms u t → Sorted ns v w → length ms ≡ length ns → stream ms ++ x ≡ stream ns ++ y
    → (u ≡ v) × (t ≡ w) × (x ≡ y)
one_front _ _ _ _ _ _ x y Sorted.nothing Sorted.nothing same e = (refl, refl, e)
one_front _ _ _ _ _ _ x y Sorted.nothing (Sorted.unread n is size q) same e = absurd (omega arith)
one_front _ _ _ _ _ _ x y Sorted.nothing (Sorted.message n is size q) same e = absurd (omega arith)
one_front _ _ _ _ _ _ x y (Sorted.unread m is size p) Sorted.nothing same e = absurd (omega arith)
one_front _ _ _ _ _ _ x y (Sorted.message m is size p) Sorted.nothing same e = absurd (omega arith)
one_front _ _ _ _ _ _ x y (Sorted.unread {later = ms} {unread = u} {took = t} m is size p) (Sorted.unread {later = ns} {unread = v} {took = w} n js nize q) same e =
    let first = same_frame m n ms ns x y size nize e in
    let parts = one_front ms ns u t v w x y p q (omega arith) first.1 in
    (ap (λ k. m ∷ k) parts.0 ∙ ap (λ k. k ∷ v) first.0, parts.1, parts.2)
one_front _ _ _ _ _ _ x y (Sorted.message {later = ms} {unread = u} {took = t} m is size p) (Sorted.message {later = ns} {unread = v} {took = w} n js nize q) same e =
    let parts = one_front ms ns u t v w x y p q (omega arith) (same_frame m n ms ns x y size nize e).1 in
    (parts.0, ap (λ k. k + 1) parts.1, parts.2)
one_front _ _ _ _ _ _ x y (Sorted.unread {later = ms} m is size p) (Sorted.message {later = ns} n js nize q) same e =
    absurd (not_both n (subst IsNoText (same_frame m n ms ns x y size nize e).0 is) js)
one_front _ _ _ _ _ _ x y (Sorted.message {later = ms} m is size p) (Sorted.unread {later = ns} n js nize q) same e =
    absurd (not_both m (subst IsNoText (sym (same_frame m n ms ns x y size nize e).0) js) is)

same_counts : (one other : Counts) → one.frames ≡ other.frames → one.unread ≡ other.unread → one.took ≡ other.took → one ≡ other
same_counts one other f u t =
    ap (λ n. record { frames = n; unread = one.unread; took = one.took }) f
    ∙ ap (λ n. record { frames = other.frames; unread = n; took = one.took }) u
    ∙ ap (λ n. record { frames = other.frames; unread = other.unread; took = n }) t

pub counted_once : (bytes : List ℕ) (one other : Counts) (kept kept' : Kept) (rest behind : List ℕ) → one.frames ≡ other.frames
    → Begins bytes one kept rest → Begins bytes other kept' behind → (one ≡ other) × (rest ≡ behind)
counted_once bytes one other kept kept' rest behind same a b =
    let parts = one_front a.frames b.frames a.unread one.took b.unread other.took rest behind a.sorted b.sorted (a.count ∙ same ∙ sym b.count)
    (sym a.whole ∙ b.whole) in
    (same_counts one other same (sym a.none ∙ ap length parts.0 ∙ b.none) parts.1, parts.2)

frame_is_some : (m x : List ℕ) → [] ≡ frame m ++ x → ⊥
frame_is_some m x e =
    let size : 0 ≡ length (frame m ++ x) = ap length e in
    omega (arith, length-append (frame m) x, length-append (decimal (length m)) (32 ∷ m), size)

-- bytes that are frames to their end are as many frames in one way
one_length : (ms ns u : List (List ℕ)) (t : ℕ) (v : List (List ℕ)) (w : ℕ) → Sorted ms u t → Sorted ns v w → stream ms ++ [] ≡ stream ns ++ [] → length ms ≡ length ns
one_length _ _ _ _ _ _ Sorted.nothing Sorted.nothing e = refl
one_length _ _ _ _ _ _ Sorted.nothing (Sorted.unread {later = ns} n is size q) e =
    absurd (frame_is_some n (stream ns ++ []) (e ∙ append_assoc (frame n) (stream ns) []))
one_length _ _ _ _ _ _ (Sorted.unread {later = ms} m is size p) Sorted.nothing e =
    absurd (frame_is_some m (stream ms ++ []) (sym e ∙ append_assoc (frame m) (stream ms) []))
one_length _ _ _ _ _ _ Sorted.nothing (Sorted.message {later = ns} n is size q) e =
    absurd (frame_is_some n (stream ns ++ []) (e ∙ append_assoc (frame n) (stream ns) []))
one_length _ _ _ _ _ _ (Sorted.message {later = ms} m is size p) Sorted.nothing e =
    absurd (frame_is_some m (stream ms ++ []) (sym e ∙ append_assoc (frame m) (stream ms) []))
one_length _ _ _ _ _ _ (Sorted.unread {later = ms} {unread = u} {took = t} m is size p) (Sorted.unread {later = ns} {unread = v} {took = w} n js nize q) e =
    let rests = one_length ms ns u t v w p q (same_frame m n ms ns [] [] size nize e).1 in omega arith
one_length _ _ _ _ _ _ (Sorted.unread {later = ms} {unread = u} {took = t} m is size p) (Sorted.message {later = ns} {unread = v} {took = w} n js nize q) e =
    let rests = one_length ms ns u t v w p q (same_frame m n ms ns [] [] size nize e).1 in omega arith
one_length _ _ _ _ _ _ (Sorted.message {later = ms} {unread = u} {took = t} m is size p) (Sorted.unread {later = ns} {unread = v} {took = w} n js nize q) e =
    let rests = one_length ms ns u t v w p q (same_frame m n ms ns [] [] size nize e).1 in omega arith
one_length _ _ _ _ _ _ (Sorted.message {later = ms} {unread = u} {took = t} m is size p) (Sorted.message {later = ns} {unread = v} {took = w} n js nize q) e =
    let rests = one_length ms ns u t v w p q (same_frame m n ms ns [] [] size nize e).1 in omega arith

pub counted_to_the_end : (bytes : List ℕ) (one other : Counts) (kept kept' : Kept) → Begins bytes one kept [] → Begins bytes other kept' [] → one ≡ other
counted_to_the_end bytes one other kept kept' a b =
    let same = one_length a.frames b.frames a.unread one.took b.unread other.took a.sorted b.sorted (sym a.whole ∙ b.whole) in
    (counted_once bytes one other kept kept' [] [] (sym a.count ∙ same ∙ b.count) a b).0
