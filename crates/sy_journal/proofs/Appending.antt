-- What an append leaves, whole or cut short.
use Rattle.std.proofs.Common.{◌≡◌, inl, inr, ⊎_elim, ℕ, ◌+◌, ◌-◌, ◌≤◌, List, [], ◌∷◌, ◌++◌, length, sym, ◌∙◌, ap, subst, arith, length-append}
use Rattle.sy_journal.specs.Storage.{written_at, Torn, Only, Follows}
use Rattle.sy_journal.specs.Frames.{IsFrame, Frames, Reads, blank}
use Rattle.sy_journal.specs.Log.{IsAtRest, IsBeforeOrAfter}
use Rattle.sy_journal.specs.declared.log.Log.{Log}
use Rattle.sy_journal.proofs.Torn.{torn_behind, written_behind, length-blank}
use Rattle.sy_journal.proofs.Framing.{torn_reads, reads_once, reads_frames, frames_push, shut_blank}

module _ (file used frame x : List ℕ) (contents : List (List ℕ)) (left j end : ℕ) (frames : Frames contents used) (whole : IsFrame x frame) (is : file ≡ used ++ blank left) (ends : end ≡ length used) (fits : left ≡ length frame + j) where
  pub append_torn : (c : List ℕ) → Torn end frame file c → IsBeforeOrAfter file x c
  append_torn c torn xs reads =
      let here : Torn (length used) frame (used ++ blank left) c = subst (λ (l : List ℕ). Torn (length used) frame l c) is (subst (λ (n : ℕ). Torn n frame file c) ends torn) in
      let behind = torn_behind used frame left j c fits here in
      let stands = torn_reads contents used x frame behind.bytes j frames whole behind.faded in
      let known : contents ≡ xs = reads_once contents xs file (subst (Reads contents) (sym is) (reads_frames contents used (blank left) frames (shut_blank left))) reads in
      ⊎_elim
      (λ without. inl (subst (λ (ys : List (List ℕ)). Reads ys c) known (subst (Reads contents) (sym behind.is) without)))
      (λ with. inr (subst (λ (ys : List (List ℕ)). Reads (ys ++ x ∷ []) c) known (subst (Reads (contents ++ x ∷ [])) (sym behind.is) with)))
      stands

  pub append_written : written_at end frame file ≡ used ++ frame ++ blank j
  append_written = (λ i. written_at (ends i) frame (is i)) ∙ written_behind used frame left j fits

  pub append_reads : (c : List ℕ) → c ≡ written_at end frame file → (xs : List (List ℕ)) → Reads xs file → Reads (xs ++ x ∷ []) c
  append_reads c now xs reads =
      let known : contents ≡ xs = reads_once contents xs file (subst (Reads contents) (sym is) (reads_frames contents used (blank left) frames (shut_blank left))) reads in
      let stands = reads_frames (contents ++ x ∷ []) (used ++ frame) (blank j) (frames_push contents used x frame frames whole) (shut_blank j) in
      subst (λ (ys : List (List ℕ)). Reads (ys ++ x ∷ []) c) known (subst (Reads (contents ++ x ∷ [])) (sym (now ∙ append_written)) stands)

  pub append_size : length file ≡ end + length frame + j
  append_size = omega (arith, ap length is, length-append used (blank left), length-blank left, ends, fits)

-- what fits behind the frames
pub append_fits : (file used : List ℕ) (left end size n : ℕ) → file ≡ used ++ blank left → end ≡ length used → size ≡ length file → n ≤ size - end → left ≡ n + (left - n)
append_fits file used left end size n is ends sizes le = omega (arith, ap length is, length-append used (blank left), length-blank left, ends, sizes, le)

pub append_within : (file used : List ℕ) (left end size n : ℕ) → file ≡ used ++ blank left → end ≡ length used → size ≡ length file → n ≤ size - end → end + n ≤ length file
append_within file used left end size n is ends sizes le = omega (arith, ap length is, length-append used (blank left), length-blank left, ends, sizes, le)

pub append_crash : (file x frame : List ℕ) (end : ℕ) (old new : List ℕ → Type 0) → Only file old → ((c : List ℕ) → Torn end frame file c → IsBeforeOrAfter file x c) → Follows (Torn end frame) old new → (c : List ℕ) → new c → IsBeforeOrAfter file x c
append_crash file x frame end old new only torn follows c left =
    let from = follows c left in
    torn c (subst (λ (f : List ℕ). Torn end frame f c) (only from.0 from.1) from.2)

-- frames and zeros, all of it on the disk
pub rests : {S : Type 0} (seen : S → List ℕ) (may_leave : S → List ℕ → Type 0) (log : Log S) (contents : List (List ℕ)) (used : List ℕ) (left : ℕ) → Frames contents used → seen log.file ≡ used ++ blank left → log.end ≡ length used → log.size ≡ length (seen log.file) → Only (seen log.file) (may_leave log.file) → IsAtRest seen may_leave log
rests seen may_leave log contents used left frames file end size durable = record { contents = contents; used = used; left = left; frames = frames; file = file; end = end; size = size; durable = durable }
