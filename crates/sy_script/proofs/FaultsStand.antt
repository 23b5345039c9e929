-- Each fault that is answered is there.
use Rattle.std.proofs.Common.{◌≡◌, ◌≢◌, inl, inr, ℕ, ◌+◌, ◌-◌, List, [], ◌∷◌, ◌++◌, length, take, drop, Option, Some, None, Result, Ok, Err, refl, sym, ap, ◌∙◌, subst, append_assoc, arith}
use Rattle.std.specs.List.{slice_range}
use Rattle.sy_script.specs.declared.token.Token.{Token}
use Rattle.sy_script.specs.declared.token.Ending.{Ending}
use Rattle.sy_script.specs.declared.token.Ending.TheVariants as ending
use Rattle.sy_script.specs.declared.halt.Halt.{Halt}
use Rattle.sy_script.specs.declared.halt.Halt.TheVariants as halt
use Rattle.sy_script.specs.declared.fault.FaultCode.{FaultCode}
use Rattle.sy_script.specs.declared.fault.FaultCode.TheVariants as code
use Rattle.sy_script.specs.declared.fault.ScriptFault.{ScriptFault}
use Rattle.sy_script.specs.declared.script.PlacedFault.{PlacedFault}
use Rattle.sy_script.specs.declared.tree.Span.{Span}
use Rattle.sy_script.specs.declared.tree.Top.{Top}
use Rattle.sy_script.specs.Terms.{max_depth}
use Rattle.sy_script.specs.internal.Lex.{tokens}
use Rattle.sy_script.specs.Grammar as g
use Rattle.sy_script.specs.internal.ReadingStmt.{tops}
use Rattle.sy_script.specs.internal.Answer.{at, at_end, fault_of, ended_by, ended, reading, located, place, Locates}
use Rattle.sy_script.specs.Tokens.{Cut, AreTokens}
use Rattle.sy_script.specs.Faults.{IsBadByte, IsUnclosed, IsUnexpected, IsTooDeep, IsLeftOut, NoneRefused, At, Stands}
use Rattle.sy_script.proofs.Places.{is_place}
use Rattle.sy_script.proofs.ReadBackStmt.{tops_reads}
use Rattle.sy_script.proofs.LocalStmt.{top_stop}
use Rattle.sy_script.proofs.Depths.{tops_up}
use Rattle.sy_script.proofs.Deeper.{tops_deep}
use Rattle.sy_script.proofs.Reaches.{deepens_reads, left_out_reads}
use Rattle.sy_script.proofs.Reported.{IsOpen}
use Rattle.sy_script.proofs.ReportedStmt.{tops_reported}
use Rattle.sy_script.proofs.Cuts.{BadAt, OpenAt, Stopped, tokens_cut, whole_cut, cut_in_order}
use Rattle.sy_script.proofs.OnePlace.{one_place}

-- the fault of an offset, in its line and column
no_word : (text : List ℕ) (n : ℕ) → slice_range text n n ≡ []
no_word text n = let none : n - n ≡ 0 = omega arith in ap (λ m. take m (drop n text)) none

there : (text : List ℕ) (S : ℕ → Type 0) (n : ℕ) → S n → At text S (place (take n text)).0 (place (take n text)).1
there text S n s = (n, s, is_place (take n text))

module _ (text : List ℕ) where
  -- the fault stands where it is located
  Right : PlacedFault → Type 0
  Right f = f.code ≢ code.NoMemory → Stands text (located text f)

  right_as : {f f' : PlacedFault} → f ≡ f' → Right f → Right f'
  right_as e r = subst Right e r

  byte_right : (n end : ℕ) (rest : List ℕ) {ts : List Token} → Cut 0 text ts end rest → BadAt n end rest → Right (at code.Byte n)
  unfolding Right
  byte_right n end rest c (BadAt.begins_none h) = λ _. (there text (IsBadByte text) n (IsBadByte.begins_none c h), no_word text n)
  byte_right n end rest c (BadAt.no_escape b more is h e) = λ _. (there text (IsBadByte text) n (IsBadByte.no_escape b more c is h e), no_word text n)

  open_right : (n end : ℕ) (rest : List ℕ) {ts : List Token} → Cut 0 text ts end rest → OpenAt n end rest → Right (at code.Unclosed n)
  unfolding Right
  open_right n end rest c (OpenAt.string is h) = λ _. (there text (IsUnclosed text) n (IsUnclosed.string c is h), no_word text n)
  open_right n end rest c (OpenAt.escape is h) = λ _. (there text (IsUnclosed text) n (IsUnclosed.escape c is h), no_word text n)
  open_right n end rest c (OpenAt.comment h) = λ _. (there text (IsUnclosed text) n (IsUnclosed.comment c h), no_word text n)

  -- where reading stops, and not for the depth, no tree of any depth has the tokens
  no_tree : (ts : List Token) (h : Halt) → ((span : Span) → (let deep : Halt = halt.TooDeep span in deep ≡ h) → ⊥) → tops text max_depth ts ≡ Err h → (left : ℕ) (tree : List Top) → g.TopsAt text left tree ts → ⊥
  no_tree ts h other e left tree d =
      let read : tops text (max_depth + left) ts ≡ Ok tree = tops_reads (tops_up (max_depth + left) (omega arith) d) in
      elim (tops_deep text max_depth (max_depth + left) (omega arith) ts) [
        | inl w ↦ other w.0 (let same : (let r : Result (List Top) Halt = Err (halt.TooDeep w.0) in r) ≡ Err h = sym w.1 ∙ e in cc)
        | inr is ↦ (let no : (let r : Result (List Top) Halt = Err h in r) ≡ Ok tree = sym e ∙ (is ∙ read) in cc)
      ]

  pub no_beginning : (front : List Token) (t : Token) (span : Span) → ((more : List Token) → tops text max_depth (front ++ t ∷ more) ≡ Err (halt.Unexpected span)) → g.Begins text (front ++ t ∷ []) → ⊥
  no_beginning front t span again b =
      let P : List Token → Type 0 = λ v. g.TopsAt text b.0 b.1 v in
      no_tree (front ++ t ∷ b.2) (halt.Unexpected span) (λ deep same. cc) (again b.2) b.0 b.1 (subst P (append_assoc front (t ∷ []) b.2) b.3)

  end_right : (ts : List Token) (o : Option ℕ) → AreTokens text ts → (o ≡ None → NoneRefused text ts) → ((left : ℕ) (tree : List Top) → g.TopsAt text left tree ts → ⊥) → IsOpen ts o [] → g.Begins text ts → Right (at_end (length text) ending.Complete o)
  unfolding Right
  end_right ts None c refused none (IsOpen.nothing b) begins = λ _. (there text (IsUnexpected text) (length text) (IsUnexpected.end c (refused refl) b begins none), no_word text (length text))
  end_right ts (Some n) c refused none (IsOpen.bracket i) begins = λ _. (there text (IsUnclosed text) n (IsUnclosed.bracket c i), no_word text n)

  unexpected_right : (t : Token) (span : Span) → t.span ≡ span → IsUnexpected text t.span.start → Right (at code.Unexpected span.start)
  unfolding Right
  unexpected_right t span e s = let S : Span → Type 0 = λ v. IsUnexpected text v.start in λ _. (there text (IsUnexpected text) span.start (subst S e s), no_word text span.start)

  deep_right : (t : Token) (span : Span) → t.span ≡ span → IsTooDeep text t.span.start → Right (at code.TooDeep span.start)
  unfolding Right
  deep_right t span e s = let S : Span → Type 0 = λ v. IsTooDeep text v.start in λ _. (there text (IsTooDeep text) span.start (subst S e s), no_word text span.start)

  left_out_right : (t : Token) (span : Span) → t.span ≡ span → IsLeftOut text t.span.start (slice_range text t.span.start t.span.end) → Right (record { code = code.LeftOut; span = span })
  unfolding Right
  left_out_right t span e s = let S : Span → Type 0 = λ v. IsLeftOut text v.start (slice_range text v.start v.end) in λ _. there text (λ n. IsLeftOut text n (slice_range text span.start span.end)) span.start (subst S e s)

  -- how the tokens end
  ending_right : (e : Ending) (o : Option ℕ) (ts : List Token) (end : ℕ) (rest : List ℕ) → Cut 0 text ts end rest → Stopped e end rest → (e ≡ ending.Complete → AreTokens text ts) → NoneRefused text ts → ((left : ℕ) (tree : List Top) → g.TopsAt text left tree ts → ⊥) → IsOpen ts o [] → g.Begins text ts → Right (at_end (length text) e o)
  ending_right (ending.Byte n) o ts end rest c stopped whole refused none is begins = byte_right n end rest c stopped
  ending_right (ending.Open n) o ts end rest c stopped whole refused none is begins = open_right n end rest c stopped
  ending_right ending.Complete o ts end rest c stopped whole refused none is begins = end_right ts o (whole refl) (λ e. refused) none is begins

  none_refused : (h : Halt) → ((span : Span) → (let deep : Halt = halt.TooDeep span in deep ≡ h) → ⊥) → ((span : Span) → (let out : Halt = halt.LeftOut span in out ≡ h) → ⊥) → tops text max_depth (tokens text).0 ≡ Err h → NoneRefused text (tokens text).0
  none_refused h not_deep not_out e = record {
    none_deepens = λ u d. not_deep u.span (let same : (let r : Result (List Top) Halt = Err (halt.TooDeep u.span) in r) ≡ Err h = sym (deepens_reads text (tokens text).0 u d) ∙ e in cc);
    none_left_out = λ u d. not_out u.span (let same : (let r : Result (List Top) Halt = Err (halt.LeftOut u.span) in r) ≡ Err h = sym (left_out_reads text (tokens text).0 u d) ∙ e in cc);
  }

  halt_right : (h : Halt) → tops text max_depth (tokens text).0 ≡ Err h → Right (fault_of (length text) (tokens text).1 h)
  unfolding Right
  halt_right halt.Memory e = λ other. absurd (other refl)
  halt_right (halt.Unexpected span) e =
      let d = top_stop text (tokens text).0 (halt.Unexpected span) tt e in
      let s = tops_reported text (tokens text).0 (halt.Unexpected span) e in
      let cut = (tokens_cut text).cut in
      let fronts : s.up_to.front ≡ d.front = one_place 0 _ (tokens text).0 s.up_to.front d.front s.rest d.rest s.t d.t (cut_in_order cut 0 (omega arith)) s.up_to.is_ts d.is_ts (s.spot ∙ sym d.spot) in
      let P : List Token → Type 0 = λ v. g.Begins text v in
      unexpected_right d.t span d.spot
      (IsUnexpected.token d.front d.rest d.t cut d.is_ts (none_refused (halt.Unexpected span) (λ a b. cc) (λ a b. cc) e) (subst P fronts s.up_to.begins) (no_beginning d.front d.t span d.again))
  halt_right (halt.TooDeep span) e = let t = tops_reported text (tokens text).0 (halt.TooDeep span) e in deep_right t.0 span t.1 (IsTooDeep.token (tokens_cut text).cut t.2)
  halt_right (halt.LeftOut span) e = let t = tops_reported text (tokens text).0 (halt.LeftOut span) e in left_out_right t.0 span t.1 (IsLeftOut.token (tokens_cut text).cut t.2)
  halt_right (halt.End opened) e =
      let w = tokens_cut text in
      let s = tops_reported text (tokens text).0 (halt.End opened) e in
      ending_right (tokens text).1 opened (tokens text).0 w.end w.rest w.cut w.stopped (whole_cut text) (none_refused (halt.End opened) (λ a b. cc) (λ a b. cc) e)
      (no_tree (tokens text).0 (halt.End opened) (λ deep same. cc) e) s.0 s.1

  ended_right : (e : Ending) (tree : List Top) (ts : List Token) (end : ℕ) (rest : List ℕ) (f : PlacedFault) → Cut 0 text ts end rest → Stopped e end rest → ended_by (length text) tree e ≡ Err f → Right f
  ended_right ending.Complete tree ts end rest f c stopped h = absurd cc
  ended_right (ending.Byte n) tree ts end rest f c stopped h = right_as (let e : at code.Byte n ≡ f = cc in e) (byte_right n end rest c stopped)
  ended_right (ending.Open n) tree ts end rest f c stopped h = right_as (let e : at code.Unclosed n ≡ f = cc in e) (open_right n end rest c stopped)

  reading_right : (r : Result (List Top) Halt) (f : PlacedFault) → tops text max_depth (tokens text).0 ≡ r → ended (length text) (tokens text).1 r ≡ Err f → Right f
  reading_right (Ok tree) f is h = let w = tokens_cut text in ended_right (tokens text).1 tree (tokens text).0 w.end w.rest f w.cut w.stopped h
  reading_right (Err halt) f is h = right_as (let e : fault_of (length text) (tokens text).1 halt ≡ f = cc in e) (halt_right halt is)

pub stands : (text : List ℕ) (f : PlacedFault) → reading text ≡ Err f → f.code ≢ code.NoMemory → Stands text (located text f)
unfolding reading Right
stands text f h = reading_right text (tops text max_depth (tokens text).0) f refl h

-- what the reader answers where reading finds a fault
pub found_stands : (text : List ℕ) (f : PlacedFault) (found : ScriptFault) → reading text ≡ Err f → f.code ≢ code.NoMemory → Locates text f found → Stands text found
found_stands text f found h other l = by_code found.code refl where
  as_located : found.code ≢ code.NoMemory → Stands text found
  as_located named = subst (λ v. Stands text v) (sym (l.0 named)) (stands text f h other)

  by_code : (c : FaultCode) → found.code ≡ c → Stands text found
  by_code code.Byte is = as_located (λ e. let no : code.Byte ≡ code.NoMemory = sym is ∙ e in cc)
  by_code code.Unclosed is = as_located (λ e. let no : code.Unclosed ≡ code.NoMemory = sym is ∙ e in cc)
  by_code code.Unexpected is = as_located (λ e. let no : code.Unexpected ≡ code.NoMemory = sym is ∙ e in cc)
  by_code code.TooDeep is = as_located (λ e. let no : code.TooDeep ≡ code.NoMemory = sym is ∙ e in cc)
  by_code code.TooLarge is = as_located (λ e. let no : code.TooLarge ≡ code.NoMemory = sym is ∙ e in cc)
  by_code code.LeftOut is = as_located (λ e. let no : code.LeftOut ≡ code.NoMemory = sym is ∙ e in cc)
  by_code code.NoMemory is = subst (λ v. Stands text v) (sym (l.1 is other)) (refl, refl, refl)
