-- What a reader of frames finds at a front.
use Rattle.std.proofs.Common.{◌≡◌, ◌≢◌, ℕ, zero, suc, ◌+◌, ◌-◌, ◌<◌, ◌≤◌, List, [], ◌∷◌, ◌++◌, length, get_or, drop, refl, sym, ◌∙◌, ap, subst, arith, append_assoc, length-append}
use Rattle.sy_journal.specs.Frames.{zero_count, number, IsFrame, AreDigits, BeginsWithNoFrame, blank}
use Rattle.sy_journal.specs.internal.Reading.{BeginsWithFrame, BeginsWithFrames, IsSplit}
use Rattle.sy_journal.proofs.Framing.{front_same, frames_push, eight, same_number}

pub blank_more : (n : ℕ) → blank n ++ 0 ∷ [] ≡ blank (suc n)
blank_more zero = refl
blank_more (suc n) = ap (λ (l : List ℕ). 0 ∷ l) (blank_more n)

pub frame_length : (x w : List ℕ) → IsFrame x w → length w ≡ 8 + length x
frame_length x w frame = omega (arith, ap length frame.bytes)

pub shut_short : (file : List ℕ) → length file < 8 → BeginsWithNoFrame file
shut_short file short x w rest frame same = omega (arith, short, ap length same, length-append w rest, frame_length x w frame)

module _ (a b c d e f g h : ℕ) (rest : List ℕ) where
  abbrev file : List ℕ
  file = a ∷ b ∷ c ∷ d ∷ e ∷ f ∷ g ∷ h ∷ rest

  pub shut_digits : (AreDigits a b c d e f g h → ⊥) → BeginsWithNoFrame file
  shut_digits closed x w behind frame same =
      let s = eight a b c d e f g h rest frame.a frame.b frame.c frame.d frame.e frame.f frame.g frame.h (x ++ behind) (same ∙ ap (λ (l : List ℕ). l ++ behind) frame.bytes) in
      let o = frame.digits in
      closed (omega (arith, s.at_a, o.0), omega (arith, s.at_b, o.1), omega (arith, s.at_c, o.2), omega (arith, s.at_d, o.3), omega (arith, s.at_e, o.4), omega (arith, s.at_f, o.5), omega (arith, s.at_g, o.6), omega (arith, s.at_h, o.7))

  pub shut_size : length rest < number a b c d → BeginsWithNoFrame file
  shut_size short x w behind frame same =
      let s = eight a b c d e f g h rest frame.a frame.b frame.c frame.d frame.e frame.f frame.g frame.h (x ++ behind) (same ∙ ap (λ (l : List ℕ). l ++ behind) frame.bytes) in
      let size : number a b c d ≡ length x = same_number _ _ _ _ _ _ _ _ s.at_a s.at_b s.at_c s.at_d ∙ frame.size in
      omega (arith, short, size, ap length s.behind, length-append x behind)

  pub shut_zeros : (content after : List ℕ) → rest ≡ content ++ after → length content ≡ number a b c d → zero_count content ≢ number e f g h → BeginsWithNoFrame file
  shut_zeros content after split is other x w behind frame same =
      let s = eight a b c d e f g h rest frame.a frame.b frame.c frame.d frame.e frame.f frame.g frame.h (x ++ behind) (same ∙ ap (λ (l : List ℕ). l ++ behind) frame.bytes) in
      let size : number a b c d ≡ length x = same_number _ _ _ _ _ _ _ _ s.at_a s.at_b s.at_c s.at_d ∙ frame.size in
      let blanks : number e f g h ≡ zero_count x = same_number _ _ _ _ _ _ _ _ s.at_e s.at_f s.at_g s.at_h ∙ frame.blanks in
      let content_is : content ≡ x = front_same content x after behind (is ∙ size) (sym split ∙ s.behind) in
      other (ap zero_count content_is ∙ sym blanks)

  pub found : (content after : List ℕ) → AreDigits a b c d e f g h → rest ≡ content ++ after → length content ≡ number a b c d → zero_count content ≡ number e f g h → BeginsWithFrame file content after
  found content after open_now split is blanks = record {
    frame = a ∷ b ∷ c ∷ d ∷ e ∷ f ∷ g ∷ h ∷ content;
    is = record { a = a; b = b; c = c; d = d; e = e; f = f; g = g; h = h; digits = open_now; size = sym is; blanks = sym blanks; bytes = refl };
    split = λ i. a ∷ b ∷ c ∷ d ∷ e ∷ f ∷ g ∷ h ∷ split i;
  }

pub sofar_more : (file rest content after : List ℕ) (contents : List (List ℕ)) → BeginsWithFrames file contents rest → BeginsWithFrame rest content after → BeginsWithFrames file (contents ++ content ∷ []) after
sofar_more file rest content after contents so front = record {
  used = so.used ++ front.frame;
  frames = frames_push contents so.used content front.frame so.frames front.is;
  split = so.split ∙ ap (λ (l : List ℕ). so.used ++ l) front.split ∙ sym (append_assoc so.used front.frame after);
}

pub front_shorter : (rest content after : List ℕ) → BeginsWithFrame rest content after → length after < length rest
front_shorter rest content after front = omega (arith, ap length front.split, length-append front.frame after, frame_length content front.frame front.is)

pub split_all : (file rest : List ℕ) (contents : List (List ℕ)) (end : ℕ) → BeginsWithFrames file contents rest → BeginsWithNoFrame rest → end ≡ length file - length rest → IsSplit file contents end
split_all file rest contents end so shut is = record {
  used = so.used;
  tail = rest;
  frames = so.frames;
  split = so.split;
  size = omega (arith, is, ap length so.split, length-append so.used rest);
  shut = shut;
}

pub eight_front : (bytes : List ℕ) → 8 ≤ length bytes
    → bytes ≡ get_or bytes 0 0 ∷ get_or bytes 1 0 ∷ get_or bytes 2 0 ∷ get_or bytes 3 0 ∷ get_or bytes 4 0 ∷ get_or bytes 5 0 ∷ get_or bytes 6 0 ∷ get_or bytes 7 0 ∷ drop 8 bytes
eight_front [] long = absurd (omega arith)
eight_front (a ∷ []) long = absurd (omega arith)
eight_front (a ∷ b ∷ []) long = absurd (omega arith)
eight_front (a ∷ b ∷ c ∷ []) long = absurd (omega arith)
eight_front (a ∷ b ∷ c ∷ d ∷ []) long = absurd (omega arith)
eight_front (a ∷ b ∷ c ∷ d ∷ e ∷ []) long = absurd (omega arith)
eight_front (a ∷ b ∷ c ∷ d ∷ e ∷ f ∷ []) long = absurd (omega arith)
eight_front (a ∷ b ∷ c ∷ d ∷ e ∷ f ∷ g ∷ []) long = absurd (omega arith)
eight_front (a ∷ b ∷ c ∷ d ∷ e ∷ f ∷ g ∷ h ∷ bytes) long = refl

pub found_at : (bytes content after : List ℕ) → 8 ≤ length bytes
    → AreDigits (get_or bytes 0 0) (get_or bytes 1 0) (get_or bytes 2 0) (get_or bytes 3 0) (get_or bytes 4 0) (get_or bytes 5 0) (get_or bytes 6 0) (get_or bytes 7 0)
    → drop 8 bytes ≡ content ++ after → length content ≡ number (get_or bytes 0 0) (get_or bytes 1 0) (get_or bytes 2 0) (get_or bytes 3 0)
    → zero_count content ≡ number (get_or bytes 4 0) (get_or bytes 5 0) (get_or bytes 6 0) (get_or bytes 7 0) → BeginsWithFrame bytes content after
found_at bytes content after long open_now split is blanks =
    subst (λ (l : List ℕ). BeginsWithFrame l content after) (sym (eight_front bytes long)) (found _ _ _ _ _ _ _ _ (drop 8 bytes) content after open_now split is blanks)
