-- Frames, torn ones among them.
use Rattle.std.proofs.Common.{◌≡◌, ◌≢◌, ◌⊎◌, inl, inr, ⊎_elim, ℕ, zero, suc, ◌+◌, ◌≤◌, List, [], ◌∷◌, ◌++◌, length, refl, sym, ◌∙◌, ap, subst, arith, append_assoc}
use Rattle.std.proofs.lemmas.Bool.{cases_eq}
use Rattle.std.proofs.lemmas.Bool.Decides.{nat_tests}
use Rattle.std.proofs.lemmas.List.{append-nil}
use Rattle.sy_journal.specs.Frames.{zero_count, number, IsFrame, BeginsWithNoFrame, Frames, Reads, blank}
use Rattle.sy_journal.proofs.Torn.{Faded}

pub zeros_zero : (b : ℕ) (bytes : List ℕ) → b ≡ 0 → zero_count (b ∷ bytes) ≡ 1 + zero_count bytes
zeros_zero b bytes is = grind (arith, nat_tests)

pub zeros_other : (b : ℕ) (bytes : List ℕ) → b ≢ 0 → zero_count (b ∷ bytes) ≡ zero_count bytes
zeros_other b bytes is = grind (arith, nat_tests)

-- a byte that is lost is a zero more
pub faded_zeros : (w m : List ℕ) → Faded w m → zero_count w ≤ zero_count m
faded_zeros [] m faded = omega (arith, ap zero_count faded)
faded_zeros (w ∷ ws) [] faded = absurd faded
faded_zeros (w ∷ ws) (m ∷ ms) faded = elim (cases_eq w 0) [
  | inl w0 ↦ elim (cases_eq m 0) [
    | inl m0 ↦ omega (arith, zeros_zero w ws w0, zeros_zero m ms m0, faded_zeros ws ms faded.1)
    | inr m1 ↦ absurd (⊎_elim (λ z. m1 z) (λ same. m1 (same ∙ w0)) faded.0)
  ]
  | inr w1 ↦ elim (cases_eq m 0) [
    | inl m0 ↦ omega (arith, zeros_other w ws w1, zeros_zero m ms m0, faded_zeros ws ms faded.1)
    | inr m1 ↦ omega (arith, zeros_other w ws w1, zeros_other m ms m1, faded_zeros ws ms faded.1)
  ]
]

-- and where none is more, nothing is lost
pub faded_same : (w m : List ℕ) → Faded w m → zero_count m ≡ zero_count w → m ≡ w
faded_same [] m faded same = faded
faded_same (w ∷ ws) [] faded same = absurd faded
faded_same (w ∷ ws) (m ∷ ms) faded same = elim (cases_eq w 0) [
  | inl w0 ↦ elim (cases_eq m 0) [
    | inl m0 ↦ let rest = faded_same ws ms faded.1 (omega (arith, same, zeros_zero w ws w0, zeros_zero m ms m0)) in λ i. (m0 ∙ sym w0) i ∷ rest i
    | inr m1 ↦ absurd (⊎_elim (λ z. m1 z) (λ is. m1 (is ∙ w0)) faded.0)
  ]
  | inr w1 ↦ elim (cases_eq m 0) [
    | inl m0 ↦ absurd (omega (arith, same, zeros_other w ws w1, zeros_zero m ms m0, faded_zeros ws ms faded.1))
    | inr m1 ↦
        let rest = faded_same ws ms faded.1 (omega (arith, same, zeros_other w ws w1, zeros_other m ms m1)) in
        let first : m ≡ w = ⊎_elim (λ z. absurd (m1 z)) (λ is. is) faded.0 in
        λ i. first i ∷ rest i
  ]
]

pub faded_length : (w m : List ℕ) → Faded w m → length m ≡ length w
faded_length [] m faded = ap length faded
faded_length (w ∷ ws) [] faded = absurd faded
faded_length (w ∷ ws) (m ∷ ms) faded = omega (arith, faded_length ws ms faded.1)

-- a digit that can be read was not lost
kept : (x y : ℕ) → 128 ≤ x → (x ≡ 0) ⊎ (x ≡ y) → x ≡ y
kept x y high (inl none) = absurd (omega (arith, high, none))
kept x y high (inr is) = is

pub front_same : (xs ys r s : List ℕ) → length xs ≡ length ys → xs ++ r ≡ ys ++ s → xs ≡ ys
front_same [] [] r s len same = refl
front_same [] (y ∷ ys) r s len same = absurd (omega arith)
front_same (x ∷ xs) [] r s len same = absurd (omega arith)
front_same (x ∷ xs) (y ∷ ys) r s len same =
    let first : x ≡ y = cc same in
    let tails : xs ++ r ≡ ys ++ s = cc same in
    let rest = front_same xs ys r s (omega (arith, len)) tails in
    λ i. first i ∷ rest i

pub back_same : (xs ys r s : List ℕ) → length xs ≡ length ys → xs ++ r ≡ ys ++ s → r ≡ s
back_same [] [] r s len same = same
back_same [] (y ∷ ys) r s len same = absurd (omega arith)
back_same (x ∷ xs) [] r s len same = absurd (omega arith)
back_same (x ∷ xs) (y ∷ ys) r s len same =
    let tails : xs ++ r ≡ ys ++ s = cc same in
    back_same xs ys r s (omega (arith, len)) tails

-- eight bytes and a content at a front
pub record Eight (a b c d e f g h : ℕ) (x : List ℕ) (k l m n o p q r : ℕ) (y : List ℕ) : Type 0 where
  pub at_a : a ≡ k
  pub at_b : b ≡ l
  pub at_c : c ≡ m
  pub at_d : d ≡ n
  pub at_e : e ≡ o
  pub at_f : f ≡ p
  pub at_g : g ≡ q
  pub at_h : h ≡ r
  pub behind : x ≡ y

pub eight : (a b c d e f g h : ℕ) (x : List ℕ) (k l m n o p q r : ℕ) (y : List ℕ) → a ∷ b ∷ c ∷ d ∷ e ∷ f ∷ g ∷ h ∷ x ≡ k ∷ l ∷ m ∷ n ∷ o ∷ p ∷ q ∷ r ∷ y → Eight a b c d e f g h x k l m n o p q r y
eight a b c d e f g h x k l m n o p q r y same = record { at_a = cc same; at_b = cc same; at_c = cc same; at_d = cc same; at_e = cc same; at_f = cc same; at_g = cc same; at_h = cc same; behind = cc same }

pub same_number : (a b c d k l m n : ℕ) → a ≡ k → b ≡ l → c ≡ m → d ≡ n → number a b c d ≡ number k l m n
same_number a b c d k l m n p q r s = λ i. number (p i) (q i) (r i) (s i)

-- a torn frame that can be read is whole
torn_eight : (x w : List ℕ) (frame : IsFrame x w) (m : List ℕ) → Faded (frame.a ∷ frame.b ∷ frame.c ∷ frame.d ∷ frame.e ∷ frame.f ∷ frame.g ∷ frame.h ∷ x) m
    → (y v s r : List ℕ) → IsFrame y v → m ++ r ≡ v ++ s → m ≡ w
torn_eight x w frame [] faded y v s r other same = absurd faded
torn_eight x w frame (m0 ∷ []) faded y v s r other same = absurd faded.1
torn_eight x w frame (m0 ∷ m1 ∷ []) faded y v s r other same = absurd faded.1.1
torn_eight x w frame (m0 ∷ m1 ∷ m2 ∷ []) faded y v s r other same = absurd faded.1.1.1
torn_eight x w frame (m0 ∷ m1 ∷ m2 ∷ m3 ∷ []) faded y v s r other same = absurd faded.1.1.1.1
torn_eight x w frame (m0 ∷ m1 ∷ m2 ∷ m3 ∷ m4 ∷ []) faded y v s r other same = absurd faded.1.1.1.1.1
torn_eight x w frame (m0 ∷ m1 ∷ m2 ∷ m3 ∷ m4 ∷ m5 ∷ []) faded y v s r other same = absurd faded.1.1.1.1.1.1
torn_eight x w frame (m0 ∷ m1 ∷ m2 ∷ m3 ∷ m4 ∷ m5 ∷ m6 ∷ []) faded y v s r other same = absurd faded.1.1.1.1.1.1.1
torn_eight x w frame (m0 ∷ m1 ∷ m2 ∷ m3 ∷ m4 ∷ m5 ∷ m6 ∷ m7 ∷ ms) faded y v s r other same =
    let e = eight m0 m1 m2 m3 m4 m5 m6 m7 (ms ++ r) other.a other.b other.c other.d other.e other.f other.g other.h (y ++ s) (same ∙ ap (λ (l : List ℕ). l ++ s) other.bytes) in
    let a : m0 ≡ frame.a = kept m0 frame.a (omega (arith, e.at_a, other.digits.0)) faded.0 in
    let b : m1 ≡ frame.b = kept m1 frame.b (omega (arith, e.at_b, other.digits.1)) faded.1.0 in
    let c : m2 ≡ frame.c = kept m2 frame.c (omega (arith, e.at_c, other.digits.2)) faded.1.1.0 in
    let d : m3 ≡ frame.d = kept m3 frame.d (omega (arith, e.at_d, other.digits.3)) faded.1.1.1.0 in
    let f4 : m4 ≡ frame.e = kept m4 frame.e (omega (arith, e.at_e, other.digits.4)) faded.1.1.1.1.0 in
    let f5 : m5 ≡ frame.f = kept m5 frame.f (omega (arith, e.at_f, other.digits.5)) faded.1.1.1.1.1.0 in
    let f6 : m6 ≡ frame.g = kept m6 frame.g (omega (arith, e.at_g, other.digits.6)) faded.1.1.1.1.1.1.0 in
    let f7 : m7 ≡ frame.h = kept m7 frame.h (omega (arith, e.at_h, other.digits.7)) faded.1.1.1.1.1.1.1.0 in
    let body : Faded x ms = faded.1.1.1.1.1.1.1.1 in
    let size : length y ≡ length x = sym other.size ∙ same_number _ _ _ _ _ _ _ _ (sym e.at_a ∙ a) (sym e.at_b ∙ b) (sym e.at_c ∙ c) (sym e.at_d ∙ d) ∙ frame.size in
    let blanks : zero_count y ≡ zero_count x = sym other.blanks ∙ same_number _ _ _ _ _ _ _ _ (sym e.at_e ∙ f4) (sym e.at_f ∙ f5) (sym e.at_g ∙ f6) (sym e.at_h ∙ f7) ∙ frame.blanks in
    let read : ms ≡ y = front_same ms y r s (faded_length x ms body ∙ sym size) e.behind in
    let whole : ms ≡ x = faded_same x ms body (ap zero_count read ∙ blanks) in
    (λ i. a i ∷ b i ∷ c i ∷ d i ∷ f4 i ∷ f5 i ∷ f6 i ∷ f7 i ∷ whole i) ∙ sym frame.bytes

pub torn_frame : (x w : List ℕ) (frame : IsFrame x w) (m : List ℕ) → Faded w m → (y v s r : List ℕ) → IsFrame y v → m ++ r ≡ v ++ s → m ≡ w
torn_frame x w frame m faded y v s r other same = torn_eight x w frame m (subst (λ (l : List ℕ). Faded l m) frame.bytes faded) y v s r other same

-- one front is one frame
pub record SameFrame (x w r y v s : List ℕ) : Type 0 where
  pub content : x ≡ y
  pub frame : w ≡ v
  pub rest : r ≡ s

pub same_frame : (x w r y v s : List ℕ) → IsFrame x w → IsFrame y v → w ++ r ≡ v ++ s → SameFrame x w r y v s
same_frame x w r y v s one other same =
    let e = eight one.a one.b one.c one.d one.e one.f one.g one.h (x ++ r) other.a other.b other.c other.d other.e other.f other.g other.h (y ++ s)
    (ap (λ (l : List ℕ). l ++ r) (sym one.bytes) ∙ same ∙ ap (λ (l : List ℕ). l ++ s) other.bytes) in
    let size : length x ≡ length y = sym one.size ∙ same_number _ _ _ _ _ _ _ _ e.at_a e.at_b e.at_c e.at_d ∙ other.size in
    let content : x ≡ y = front_same x y r s size e.behind in
    record {
      content = content;
      frame = one.bytes ∙ (λ i. e.at_a i ∷ e.at_b i ∷ e.at_c i ∷ e.at_d i ∷ e.at_e i ∷ e.at_f i ∷ e.at_g i ∷ e.at_h i ∷ content i) ∙ sym other.bytes;
      rest = back_same x y r s size e.behind;
    }

-- a file stands for one list of contents
pub reads_once : (xs ys : List (List ℕ)) (file : List ℕ) → Reads xs file → Reads ys file → xs ≡ ys
reads_once [] [] file one other = refl
reads_once [] (y ∷ ys) file one other = absurd (one y other.0 other.1 other.2 other.3)
reads_once (x ∷ xs) [] file one other = absurd (other x one.0 one.1 one.2 one.3)
reads_once (x ∷ xs) (y ∷ ys) file one other =
    let same = same_frame x one.0 one.1 y other.0 other.1 one.2 other.2 (sym one.3 ∙ other.3) in
    let rest = reads_once xs ys one.1 one.4 (subst (Reads ys) (sym same.rest) other.4) in
    λ i. same.content i ∷ rest i

-- frames, and behind them nothing that can be read
pub reads_frames : (xs : List (List ℕ)) (used tail : List ℕ) → Frames xs used → BeginsWithNoFrame tail → Reads xs (used ++ tail)
reads_frames [] used tail frames shut = subst BeginsWithNoFrame (ap (λ (l : List ℕ). l ++ tail) (sym frames)) shut
reads_frames (x ∷ xs) used tail frames shut =
    (frames.0, frames.1 ++ tail, frames.2, ap (λ (l : List ℕ). l ++ tail) frames.3 ∙ append_assoc frames.0 frames.1 tail, reads_frames xs frames.1 tail frames.4 shut)

pub frames_push : (xs : List (List ℕ)) (used x w : List ℕ) → Frames xs used → IsFrame x w → Frames (xs ++ x ∷ []) (used ++ w)
frames_push [] used x w frames frame = (w, [], frame, ap (λ (l : List ℕ). l ++ w) frames ∙ sym (append-nil w), refl)
frames_push (y ∷ xs) used x w frames frame =
    (frames.0, frames.1 ++ w, frames.2, ap (λ (l : List ℕ). l ++ w) frames.3 ∙ append_assoc frames.0 frames.1 w, frames_push xs frames.1 x w frames.4 frame)

-- behind a zero there is no frame
pub shut_zero : (tail : List ℕ) → BeginsWithNoFrame (0 ∷ tail)
shut_zero tail x w rest frame same =
    let whole : 0 ∷ tail ≡ frame.a ∷ frame.b ∷ frame.c ∷ frame.d ∷ frame.e ∷ frame.f ∷ frame.g ∷ frame.h ∷ (x ++ rest) = same ∙ ap (λ (l : List ℕ). l ++ rest) frame.bytes in
    let first : 0 ≡ frame.a = cc whole in
    omega (arith, first, frame.digits.0)

pub shut_none : BeginsWithNoFrame []
shut_none x w rest frame same =
    let whole : [] ≡ frame.a ∷ frame.b ∷ frame.c ∷ frame.d ∷ frame.e ∷ frame.f ∷ frame.g ∷ frame.h ∷ (x ++ rest) = same ∙ ap (λ (l : List ℕ). l ++ rest) frame.bytes in
    absurd (cc whole)

pub shut_blank : (n : ℕ) → BeginsWithNoFrame (blank n)
shut_blank zero = shut_none
shut_blank (suc n) = shut_zero (blank n)

same_or_not : (xs ys : List ℕ) → (xs ≡ ys) ⊎ (xs ≢ ys)
same_or_not [] [] = inl refl
same_or_not [] (y ∷ ys) = inr (λ same. absurd (cc same))
same_or_not (x ∷ xs) [] = inr (λ same. absurd (cc same))
same_or_not (x ∷ xs) (y ∷ ys) = elim (cases_eq x y) [
  | inl first ↦ ⊎_elim (λ rest. inl (λ i. first i ∷ rest i)) (λ other. inr (λ same. other (cc same))) (same_or_not xs ys)
  | inr first ↦ inr (λ same. first (cc same))
]

-- a torn frame behind frames is whole, or nothing
pub torn_reads : (xs : List (List ℕ)) (used x w m : List ℕ) (j : ℕ) → Frames xs used → IsFrame x w → Faded w m
    → Reads xs (used ++ m ++ blank j) ⊎ Reads (xs ++ x ∷ []) (used ++ m ++ blank j)
torn_reads xs used x w m j frames frame faded = elim (same_or_not m w) [
  | inl whole ↦
      let push = reads_frames (xs ++ x ∷ []) (used ++ w) (blank j) (frames_push xs used x w frames frame) (shut_blank j) in
      inr (subst (Reads (xs ++ x ∷ [])) (ap (λ (l : List ℕ). used ++ l ++ blank j) (sym whole)) push)
  | inr torn ↦
      inl (subst (Reads xs) (sym (append_assoc used m (blank j))) (reads_frames xs used (m ++ blank j) frames (λ y v s other same. torn (torn_frame x w frame m faded y v s (blank j) other same))))
]
