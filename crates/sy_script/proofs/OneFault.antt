-- At most one of the faults 23, 24 and 26 stands in a text, and at one place.
use Rattle.std.proofs.Common.{◌≡◌, ◌⊎◌, inl, inr, ℕ, Option, Some, None, List, [], ◌∷◌, ◌++◌, length, Result, Ok, Err, refl, sym, ap, ◌∙◌, subst, append_assoc, append-nil, arith}
use Rattle.std.specs.List.{slice_range}
use Rattle.sy_script.specs.declared.token.Token.{Token}
use Rattle.sy_script.specs.declared.token.Ending.{Ending}
use Rattle.sy_script.specs.declared.script.PlacedFault.{PlacedFault}
use Rattle.sy_script.specs.declared.halt.Halt.{Halt}
use Rattle.sy_script.specs.declared.halt.Halt.TheVariants as halt
use Rattle.sy_script.specs.declared.fault.FaultCode.{FaultCode}
use Rattle.sy_script.specs.declared.fault.FaultCode.TheVariants as code
use Rattle.sy_script.specs.declared.tree.Span.{Span}
use Rattle.sy_script.specs.declared.tree.Top.{Top}
use Rattle.sy_script.specs.Terms.{max_depth}
use Rattle.sy_script.specs.internal.Lex.{Lexing, tokens}
use Rattle.sy_script.specs.internal.ReadingStmt.{tops}
use Rattle.sy_script.specs.Grammar as g
use Rattle.sy_script.specs.Tokens.{Cut}
use Rattle.sy_script.specs.internal.Answer.{fault_of, ended, reading}
use Rattle.sy_script.specs.Brackets.{Balanced}
use Rattle.sy_script.proofs.DeadEnd.{StopsAt, AtToken}
use Rattle.sy_script.specs.Faults.{Deepens, BeginsLeftOut, IsUnexpected, IsTooDeep, IsLeftOut, NoneRefused, Misplaced}
use Rattle.sy_script.proofs.SoundStmt.{tops_ok}
use Rattle.sy_script.proofs.LocalStmt.{dead_end, top_stop}
use Rattle.sy_script.proofs.Cuts.{cut_in, are_tokens, cut_in_order}
use Rattle.sy_script.proofs.OnePlace.{one_place}
use Rattle.sy_script.proofs.Holes.{begins_front}
use Rattle.sy_script.proofs.Reaches.{deepens_reads, left_out_reads}
use Rattle.sy_script.proofs.Even.{none_open}
use Rattle.sy_script.proofs.Reported.{IsOpen}
use Rattle.sy_script.proofs.ReportedStmt.{tops_reported}
use Rattle.sy_script.proofs.FaultsStand.{no_beginning}

-- two places in one list are one, or one is after the other
pub three : (f r h s : List Token) (t u : Token) → f ++ t ∷ r ≡ h ++ u ∷ s → (t ≡ u) ⊎ (((more : List Token) × (h ≡ (f ++ t ∷ []) ++ more)) ⊎ ((more : List Token) × (f ≡ (h ++ u ∷ []) ++ more)))
three [] r [] s t u e = inl cc
three [] r (y ∷ h) s t u e = inr (inl (h, ap (λ v. v ∷ h) (let same : y ≡ t = cc in same)))
three (x ∷ f) r [] s t u e = inr (inr (f, ap (λ v. v ∷ f) (let same : x ≡ u = cc in same)))
three (x ∷ f) r (y ∷ h) s t u e = elim (three f r h s t u (let same : f ++ t ∷ r ≡ h ++ u ∷ s = cc in same)) [
  | inl is ↦ inl is
  | inr w ↦ elim w [
    | inl m ↦ inr (inl (m.0, ap (λ v. v ∷ h) (let same : y ≡ x = cc in same) ∙ ap (λ l. x ∷ l) m.1))
    | inr m ↦ inr (inr (m.0, ap (λ v. v ∷ f) (let same : x ≡ y = cc in same) ∙ ap (λ l. y ∷ l) m.1))
  ]
]

module _ (text : List ℕ) where
  begins_as : {f h : List Token} → f ≡ h → g.Begins text f → g.Begins text h
  begins_as e b = let P : List Token → Type 0 = λ v. g.Begins text v in subst P e b

  -- the first token that may not stand there is one
  one_first : (ts f r h s : List Token) (t u : Token) → ts ≡ f ++ t ∷ r → ts ≡ h ++ u ∷ s → g.Begins text f → (g.Begins text (f ++ t ∷ []) → ⊥) → g.Begins text h → (g.Begins text (h ++ u ∷ []) → ⊥) → t ≡ u
  one_first ts f r h s t u a b begins_f none_f begins_h none_h = elim (three f r h s t u (sym a ∙ b)) [
    | inl is ↦ is
    | inr w ↦ elim w [
      | inl m ↦ absurd (none_f (begins_front text (f ++ t ∷ []) m.0 (begins_as m.1 begins_h)))
      | inr m ↦ absurd (none_h (begins_front text (h ++ u ∷ []) m.0 (begins_as m.1 begins_f)))
    ]
  ]

  -- where reading stops in a prefix of the text, it stops in the whole
  in_all : (h : Halt) {ts : List Token} {end : ℕ} {left : List ℕ} → AtToken h → Cut 0 text ts end left → tops text max_depth ts ≡ Err h → tops text max_depth (tokens text).0 ≡ Err h
  in_all h {ts = ts} hard c e =
      let m = cut_in text c in
      let s = top_stop text ts h hard e in
      let whole : (tokens text).0 ≡ s.front ++ s.t ∷ (s.rest ++ m.0) = m.1 ∙ (ap (λ v. v ++ m.0) s.is_ts ∙ append_assoc s.front (s.t ∷ s.rest) m.0) in
      ap (tops text max_depth) whole ∙ s.again (s.rest ++ m.0)

  module _ (ts : List Token) {end : ℕ} {left : List ℕ} (c : Cut 0 text ts end left) where
    record Here (span : Span) : Type 0 where
      front : List Token
      t : Token
      rest : List Token
      is_ts : ts ≡ front ++ t ∷ rest
      spot : t.span ≡ span
      begins : g.Begins text front
      none : g.Begins text (front ++ t ∷ []) → ⊥

    here : (span : Span) → tops text max_depth ts ≡ Err (halt.Unexpected span) → Here span
    here span e =
        let d = top_stop text ts (halt.Unexpected span) tt e in
        let s = tops_reported text ts (halt.Unexpected span) e in
        record {
          front = d.front;
          t = d.t;
          rest = d.rest;
          is_ts = d.is_ts;
          spot = d.spot;
          begins = begins_as (one_place 0 end ts s.up_to.front d.front s.rest d.rest s.t d.t (cut_in_order c 0 (omega arith)) s.up_to.is_ts d.is_ts (s.spot ∙ sym d.spot)) s.up_to.begins;
          none = no_beginning text d.front d.t span d.again;
        }

    module _ (front rest : List Token) (t : Token) (is_ts : ts ≡ front ++ t ∷ rest) (refused : NoneRefused text ts) (begins : g.Begins text front) (none : g.Begins text (front ++ t ∷ []) → ⊥) where
      behind_it : g.Begins text ts → ⊥
      behind_it b = none (begins_front text (front ++ t ∷ []) rest (begins_as (is_ts ∙ sym (append_assoc front (t ∷ []) rest)) b))

      by_read : (r : Result (List Top) Halt) → tops text max_depth ts ≡ r → tops text max_depth ts ≡ Err (halt.Unexpected t.span)
      by_read (Ok tree) e = let P : List Token → Type 0 = λ v. g.TopsAt text max_depth tree v in absurd (behind_it (max_depth, tree, [], subst P (sym (append-nil ts)) (tops_ok text ts tree e)))
      by_read (Err halt.Memory) e = absurd (tops_reported text ts halt.Memory e)
      by_read (Err (halt.End opened)) e = absurd (behind_it (tops_reported text ts (halt.End opened) e).1)
      by_read (Err (halt.TooDeep span)) e = let d = tops_reported text ts (halt.TooDeep span) e in absurd (refused.none_deepens d.0 d.2)
      by_read (Err (halt.LeftOut span)) e = let d = tops_reported text ts (halt.LeftOut span) e in absurd (refused.none_left_out d.0 d.2)
      by_read (Err (halt.Unexpected span)) e =
          let w = here span e in
          let same : t ≡ w.t = one_first ts front rest w.front w.rest t w.t is_ts w.is_ts begins none w.begins w.none in
          e ∙ ap (λ (v : Span). Err (halt.Unexpected v)) (sym w.spot ∙ ap (λ (v : Token). v.span) (sym same))

    module _ (refused : NoneRefused text ts) (closed : Balanced ts []) (begins : g.Begins text ts) (none : (left : ℕ) (tree : List Top) → g.TopsAt text left tree ts → ⊥) where
      end_none : (o : Option ℕ) → IsOpen ts o [] → tops text max_depth ts ≡ Err (halt.End o) → tops text max_depth ts ≡ Err (halt.End None)
      end_none None is e = e
      end_none (Some n) (IsOpen.bracket {o = o} i) e = absurd (none_open ts o closed i)

      by_end : (r : Result (List Top) Halt) → tops text max_depth ts ≡ r → tops text max_depth ts ≡ Err (halt.End None)
      by_end (Ok tree) e = absurd (none max_depth tree (tops_ok text ts tree e))
      by_end (Err halt.Memory) e = absurd (tops_reported text ts halt.Memory e)
      by_end (Err (halt.End opened)) e = end_none opened (tops_reported text ts (halt.End opened) e).0 e
      by_end (Err (halt.TooDeep span)) e = let d = tops_reported text ts (halt.TooDeep span) e in absurd (refused.none_deepens d.0 d.2)
      by_end (Err (halt.LeftOut span)) e = let d = tops_reported text ts (halt.LeftOut span) e in absurd (refused.none_left_out d.0 d.2)
      by_end (Err (halt.Unexpected span)) e =
          let w = here span e in
          absurd (w.none (begins_front text (w.front ++ w.t ∷ []) w.rest (begins_as (w.is_ts ∙ sym (append_assoc w.front (w.t ∷ []) w.rest)) begins)))

  -- the fault of a halt
  fault_at : Ending → Halt → FaultCode × ℕ
  fault_at e h = let f : PlacedFault = fault_of (length text) e h in (f.code, f.span.start)

  Read : FaultCode → ℕ → Type 0
  Read c n = (h : Halt) × (tops text max_depth (tokens text).0 ≡ Err h) × (fault_at (tokens text).1 h ≡ (c, n))

  unexpected_read : (n : ℕ) → IsUnexpected text n → Read code.Unexpected n
  unfolding Read fault_at
  unexpected_read n (IsUnexpected.token {ts = ts} front rest t c is_ts refused begins none) =
      (halt.Unexpected t.span, in_all (halt.Unexpected t.span) tt c (by_read ts c front rest t is_ts refused begins none (tops text max_depth ts) refl), refl)
  unexpected_read n (IsUnexpected.end {ts = ts} are refused closed begins none) =
      (halt.End None, ap (λ (l : Lexing). tops text max_depth l.0) (are_tokens text ts are) ∙ by_end ts are refused closed begins none (tops text max_depth ts) refl, ap (λ (l : Lexing). fault_at l.1 (halt.End None)) (are_tokens text ts are))

  read : (c : FaultCode) (n : ℕ) → Misplaced text c n → Read c n
  unfolding Read fault_at
  read code.Byte n s = absurd s
  read code.Unclosed n s = absurd s
  read code.Unexpected n s = unexpected_read n s
  read code.TooDeep n (IsTooDeep.token {ts = ts} {t = t} c d) = (halt.TooDeep t.span, in_all (halt.TooDeep t.span) tt c (deepens_reads text ts t d), refl)
  read code.TooLarge n s = absurd s
  read code.LeftOut n (word, IsLeftOut.token {ts = ts} {t = t} c d) = (halt.LeftOut t.span, in_all (halt.LeftOut t.span) tt c (left_out_reads text ts t d), refl)
  read code.NoMemory n s = absurd s

-- where one stands, it is answered
pub misplaced_read : (text : List ℕ) (c : FaultCode) (n : ℕ) → Misplaced text c n → (f : PlacedFault) × (reading text ≡ Err f) × (f.code ≡ c) × (f.span.start ≡ n)
unfolding Read fault_at reading
misplaced_read text c n s =
    let v = read text c n s in
    (fault_of (length text) (tokens text).1 v.0, ap (ended (length text) (tokens text).1) v.1, ap (λ (p : FaultCode × ℕ). p.0) v.2, ap (λ (p : FaultCode × ℕ). p.1) v.2)

pub one_misplaced : (text : List ℕ) (c d : FaultCode) (n m : ℕ) → Misplaced text c n → Misplaced text d m → (c ≡ d) × (n ≡ m)
unfolding Read
one_misplaced text c d n m a b =
    let v = read text c n a in
    let w = read text d m b in
    let one : v.0 ≡ w.0 = (let e : (let r : Result (List Top) Halt = Err v.0 in r) ≡ Err w.0 = sym v.1 ∙ w.1 in cc) in
    let same : (c, n) ≡ (d, m) = sym v.2 ∙ (ap (fault_at text (tokens text).1) one ∙ w.2) in
    (ap (λ (p : FaultCode × ℕ). p.0) same, ap (λ (p : FaultCode × ℕ). p.1) same)

-- a statement that is left out has one word
pub one_word : (text : List ℕ) (n m : ℕ) (v w : List ℕ) → IsLeftOut text n v → IsLeftOut text m w → v ≡ w
one_word text n m v w (IsLeftOut.token {ts = ts} {t = t} c d) (IsLeftOut.token {ts = us} {t = u} b e) =
    let first : tops text max_depth (tokens text).0 ≡ Err (halt.LeftOut t.span) = in_all text (halt.LeftOut t.span) tt c (left_out_reads text ts t d) in
    let second : tops text max_depth (tokens text).0 ≡ Err (halt.LeftOut u.span) = in_all text (halt.LeftOut u.span) tt b (left_out_reads text us u e) in
    let halts : (let r : Result (List Top) Halt = Err (halt.LeftOut t.span) in r) ≡ Err (halt.LeftOut u.span) = sym first ∙ second in
    let spans : t.span ≡ u.span = cc in
    ap (λ (s : Span). slice_range text s.start s.end) spans

-- ---- no script goes on with a token of 24 or 26

same_next : (front : List Token) (t u : Token) (r s : List Token) → front ++ t ∷ r ≡ front ++ u ∷ s → t ≡ u
same_next [] t u r s e = cc
same_next (v ∷ front) t u r s e = same_next front t u r s (let tails : front ++ t ∷ r ≡ front ++ u ∷ s = cc in tails)

module _ (text : List ℕ) (ts front rest : List Token) (t : Token) {end : ℕ} {left : List ℕ} (c : Cut 0 text ts end left) (is_ts : ts ≡ front ++ t ∷ rest) where
  none_with : (h : Halt) → AtToken h → ((u : Token) → StopsAt h u → u.span ≡ t.span) → tops text max_depth ts ≡ Err h → (tree : List Top) (more : List Token) → g.TopsAt text max_depth tree (front ++ t ∷ more) → ⊥
  none_with h hard spot e tree more d =
      let w = dead_end text ts h hard e in
      let fronts : front ≡ w.front = one_place 0 end ts front w.front rest w.rest t w.t (cut_in_order c 0 (omega arith)) is_ts w.is_ts (sym (spot w.t w.stops)) in
      let heads : t ≡ w.t = same_next w.front t w.t rest w.rest (ap (λ f. f ++ t ∷ rest) (sym fronts) ∙ (sym is_ts ∙ w.is_ts)) in
      let P : List Token → Type 0 = λ v. g.TopsAt text max_depth tree v in
      w.none tree more (subst P (ap (λ f. f ++ t ∷ more) fronts ∙ ap (λ u. w.front ++ u ∷ more) heads) d)

  pub dead_ends : Deepens text ts t ⊎ BeginsLeftOut text ts t → (tree : List Top) (more : List Token) → g.TopsAt text max_depth tree (front ++ t ∷ more) → ⊥
  dead_ends (inl d) = none_with (halt.TooDeep t.span) tt (λ u is. is) (deepens_reads text ts t d)
  dead_ends (inr d) = none_with (halt.LeftOut t.span) tt (λ u is. is) (left_out_reads text ts t d)
