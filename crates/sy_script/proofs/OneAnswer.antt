-- Which of several faults is answered: the one that goes before all others, and no text has two such.
use Rattle.std.proofs.Common.{◌≡◌, ◌≢◌, ◌⊎◌, inl, inr, ◌<◌, ◌≤◌, ℕ, List, [], length, take, Option, Some, None, Result, Ok, Err, refl, sym, ap, ◌∙◌, subst, arith}
use Rattle.std.proofs.lemmas.Bool.{cases_lt}
use Rattle.sy_script.specs.declared.token.Ending.{Ending}
use Rattle.sy_script.specs.declared.token.Ending.TheVariants as ending
use Rattle.sy_script.specs.declared.halt.Halt.{Halt}
use Rattle.sy_script.specs.declared.halt.Halt.TheVariants as halt
use Rattle.sy_script.specs.declared.fault.FaultCode.{FaultCode}
use Rattle.sy_script.specs.declared.fault.FaultCode.TheVariants as code
use Rattle.sy_script.specs.declared.fault.ScriptFault.{ScriptFault}
use Rattle.sy_script.specs.declared.script.PlacedFault.{PlacedFault}
use Rattle.sy_script.specs.declared.tree.Script.{Script}
use Rattle.sy_script.specs.declared.tree.Top.{Top}
use Rattle.sy_script.specs.Terms.{max_depth, max_text}
use Rattle.sy_script.specs.Grammar.{IsScript}
use Rattle.sy_script.specs.Place.{IsPlace}
use Rattle.sy_script.specs.Faults.{IsLeftOut, Misplaced, Unended, IsFault, NoneMisplaced, IsFirst, IsAnswer, Stands}
use Rattle.sy_script.specs.internal.Lex.{tokens}
use Rattle.sy_script.specs.internal.ReadingStmt.{tops}
use Rattle.sy_script.specs.internal.Answer.{at_end, fault_of, ended_by, ended, reading, located, Locates}
use Rattle.sy_script.proofs.Places.{one_column}
use Rattle.sy_script.proofs.SoundStmt.{reading_ok}
use Rattle.sy_script.proofs.FaultsStand.{stands}
use Rattle.sy_script.proofs.ReportedStmt.{tops_reported}
use Rattle.sy_script.proofs.OneFault.{misplaced_read, one_misplaced, one_word}
use Rattle.sy_script.proofs.OneEnding.{one_unended}

-- ---- what reading finds goes before all others

none_misplaced : (text : List ℕ) (f : PlacedFault) (c : FaultCode) → reading text ≡ Err f → f.code ≡ c → ((n : ℕ) → Misplaced text c n → ⊥) → NoneMisplaced text
none_misplaced text f c e is none d n s =
    let v = misplaced_read text d n s in
    let same : v.0 ≡ f = (let r : (let r : Result Script PlacedFault = Err v.0 in r) ≡ Err f = sym v.1 ∙ e in cc) in
    let P : FaultCode → Type 0 = λ c. Misplaced text c n in
    none n (subst P (sym v.2 ∙ (ap (λ (f : PlacedFault). f.code) same ∙ is)) s)

first_by : (text : List ℕ) (f : PlacedFault) (c : FaultCode) → length text ≤ max_text → reading text ≡ Err f → f.code ≡ c → IsFirst text c
first_by text f code.Byte small e is = (small, none_misplaced text f code.Byte e is (λ n s. s))
first_by text f code.Unclosed small e is = (small, none_misplaced text f code.Unclosed e is (λ n s. s))
first_by text f code.Unexpected small e is = small
first_by text f code.TooDeep small e is = small
first_by text f code.TooLarge small e is = tt
first_by text f code.LeftOut small e is = small
first_by text f code.NoMemory small e is = small

-- what the reader answers where reading finds a fault
pub found_first : (text : List ℕ) (f : PlacedFault) (found : ScriptFault) → length text ≤ max_text → reading text ≡ Err f → f.code ≢ code.NoMemory → Locates text f found → IsFirst text found.code
found_first text f found small e other l = by_code found.code refl where
  as_located : found.code ≢ code.NoMemory → IsFirst text found.code
  as_located named = first_by text f found.code small e (sym (ap (λ (f : ScriptFault). f.code) (l.0 named)))

  by_code : (c : FaultCode) → found.code ≡ c → IsFirst text found.code
  by_code code.Byte is = as_located (λ e. let no : code.Byte ≡ code.NoMemory = sym is ∙ e in cc)
  by_code code.Unclosed is = as_located (λ e. let no : code.Unclosed ≡ code.NoMemory = sym is ∙ e in cc)
  by_code code.Unexpected is = as_located (λ e. let no : code.Unexpected ≡ code.NoMemory = sym is ∙ e in cc)
  by_code code.TooDeep is = as_located (λ e. let no : code.TooDeep ≡ code.NoMemory = sym is ∙ e in cc)
  by_code code.TooLarge is = as_located (λ e. let no : code.TooLarge ≡ code.NoMemory = sym is ∙ e in cc)
  by_code code.LeftOut is = as_located (λ e. let no : code.LeftOut ≡ code.NoMemory = sym is ∙ e in cc)
  by_code code.NoMemory is = let P : FaultCode → Type 0 = λ c. IsFirst text c in subst P (sym is) small

-- ---- each text is a script or has an answer

at_end_named : (len : ℕ) (e : Ending) (o : Option ℕ) → (at_end len e o).code ≢ code.NoMemory
at_end_named len (ending.Byte n) o is = cc
at_end_named len (ending.Open n) o is = cc
at_end_named len ending.Complete (Some n) is = cc
at_end_named len ending.Complete None is = cc

module _ (text : List ℕ) where
  halt_named : (h : Halt) (e : Ending) → tops text max_depth (tokens text).0 ≡ Err h → (fault_of (length text) e h).code ≢ code.NoMemory
  halt_named halt.Memory e stops is = tops_reported text (tokens text).0 halt.Memory stops
  halt_named (halt.Unexpected span) e stops is = cc
  halt_named (halt.TooDeep span) e stops is = cc
  halt_named (halt.LeftOut span) e stops is = cc
  halt_named (halt.End opened) e stops is = at_end_named (length text) e opened is

  ended_named : (e : Ending) (tree : List Top) (f : PlacedFault) → ended_by (length text) tree e ≡ Err f → f.code ≢ code.NoMemory
  ended_named ending.Complete tree f h is = cc
  ended_named (ending.Byte n) tree f h is = cc
  ended_named (ending.Open n) tree f h is = cc

  read_named : (r : Result (List Top) Halt) (f : PlacedFault) → tops text max_depth (tokens text).0 ≡ r → ended (length text) (tokens text).1 r ≡ Err f → f.code ≢ code.NoMemory
  read_named (Ok tree) f is h = ended_named (tokens text).1 tree f h
  read_named (Err stop) f is h =
      let same : fault_of (length text) (tokens text).1 stop ≡ f = cc in
      let P : PlacedFault → Type 0 = λ f. f.code ≢ code.NoMemory in
      subst P same (halt_named stop (tokens text).1 is)

  named : (f : PlacedFault) → reading text ≡ Err f → f.code ≢ code.NoMemory
  unfolding reading
  named f h = read_named (tops text max_depth (tokens text).0) f refl h

  by_reading : (r : Result Script PlacedFault) → length text ≤ max_text → reading text ≡ r → ((script : Script) × IsScript text script) ⊎ ((f : ScriptFault) × IsAnswer text f)
  by_reading (Ok script) small e = inl (script, reading_ok text script small e)
  by_reading (Err f) small e = inr (located text f, record { stands = stands text f e (named f e); is_first = first_by text f f.code small e refl; not_memory = named f e })

  by_size : (max_text < length text) ⊎ (length text ≤ max_text) → ((script : Script) × IsScript text script) ⊎ ((f : ScriptFault) × IsAnswer text f)
  by_size (inr small) = by_reading (reading text) small refl
  by_size (inl large) = inr (record { code = code.TooLarge; line = 1; column = 1; word = [] }, record { stands = (record { is_large = large; line_is = refl; column_is = refl }, refl); is_first = tt; not_memory = λ is. cc })

-- ---- one answer

module _ (text : List ℕ) where
  record Large (c : FaultCode) (line column : ℕ) (word : List ℕ) : Type 0 where
    is_large : max_text < length text
    code_is : c ≡ code.TooLarge
    line_is : line ≡ 1
    column_is : column ≡ 1
    word_is : word ≡ []

  record OfToken (c : FaultCode) (line column : ℕ) (word : List ℕ) : Type 0 where
    is_small : length text ≤ max_text
    n : ℕ
    stands : Misplaced text c n
    spot : IsPlace (take n text) line column
    word_is : ((c ≡ code.LeftOut) × IsLeftOut text n word) ⊎ ((c ≢ code.LeftOut) × (word ≡ []))

  record OfEnd (c : FaultCode) (line column : ℕ) (word : List ℕ) : Type 0 where
    is_small : length text ≤ max_text
    none : NoneMisplaced text
    n : ℕ
    stands : Unended text c n
    spot : IsPlace (take n text) line column
    word_is : word ≡ []

  Sorted : FaultCode → ℕ → ℕ → List ℕ → Type 0
  Sorted c line column word = Large c line column word ⊎ (OfToken c line column word ⊎ OfEnd c line column word)

  sorted : (c : FaultCode) (line column : ℕ) (word : List ℕ) → IsFault text c line column word → IsFirst text c → c ≢ code.NoMemory → Sorted c line column word
  unfolding Sorted
  sorted code.Byte line column word f first other = inr (inr (record { is_small = first.0; none = first.1; n = f.0.0; stands = f.0.1; spot = f.0.2; word_is = f.1 }))
  sorted code.Unclosed line column word f first other = inr (inr (record { is_small = first.0; none = first.1; n = f.0.0; stands = f.0.1; spot = f.0.2; word_is = f.1 }))
  sorted code.Unexpected line column word f first other = inr (inl (record { is_small = first; n = f.0.0; stands = f.0.1; spot = f.0.2; word_is = inr ((λ is. cc), f.1) }))
  sorted code.TooDeep line column word f first other = inr (inl (record { is_small = first; n = f.0.0; stands = f.0.1; spot = f.0.2; word_is = inr ((λ is. cc), f.1) }))
  sorted code.TooLarge line column word f first other = inl (record { is_large = f.0.is_large; code_is = refl; line_is = f.0.line_is; column_is = f.0.column_is; word_is = f.1 })
  sorted code.LeftOut line column word f first other = inr (inl (record { is_small = first; n = f.0; stands = (word, f.1); spot = f.2; word_is = inl (refl, f.1) }))
  sorted code.NoMemory line column word f first other = absurd (other refl)

  Same : FaultCode → ℕ → ℕ → List ℕ → FaultCode → ℕ → ℕ → List ℕ → Type 0
  Same c line column word d line' column' word' = (c ≡ d) × (line ≡ line') × (column ≡ column') × (word ≡ word')

  one_spot : (n m line column line' column' : ℕ) → n ≡ m → IsPlace (take n text) line column → IsPlace (take m text) line' column' → (line ≡ line') × (column ≡ column')
  one_spot n m line column line' column' same p q =
      let P : ℕ → Type 0 = λ n. IsPlace (take n text) line column in
      one_column (take m text) line line' column column' (subst P same p) q

  words : (c d : FaultCode) (n m : ℕ) (v w : List ℕ) → c ≡ d → ((c ≡ code.LeftOut) × IsLeftOut text n v) ⊎ ((c ≢ code.LeftOut) × (v ≡ [])) → ((d ≡ code.LeftOut) × IsLeftOut text m w) ⊎ ((d ≢ code.LeftOut) × (w ≡ [])) → v ≡ w
  words c d n m v w same (inl a) (inl b) = one_word text n m v w a.1 b.1
  words c d n m v w same (inl a) (inr b) = absurd (b.0 (sym same ∙ a.0))
  words c d n m v w same (inr a) (inl b) = absurd (a.0 (same ∙ b.0))
  words c d n m v w same (inr a) (inr b) = a.1 ∙ sym b.1

  of_tokens : {c d : FaultCode} {line column line' column' : ℕ} {word word' : List ℕ} → OfToken c line column word → OfToken d line' column' word' → Same c line column word d line' column' word'
  unfolding Same
  of_tokens {c} {d} {line} {column} {line'} {column'} {word} {word'} a b =
      let one = one_misplaced text c d a.n b.n a.stands b.stands in
      let spot = one_spot a.n b.n line column line' column' one.1 a.spot b.spot in
      (one.0, spot.0, spot.1, words c d a.n b.n word word' one.0 a.word_is b.word_is)

  of_ends : {c d : FaultCode} {line column line' column' : ℕ} {word word' : List ℕ} → OfEnd c line column word → OfEnd d line' column' word' → Same c line column word d line' column' word'
  unfolding Same
  of_ends {c} {d} {line} {column} {line'} {column'} a b =
      let one = one_unended text c d a.n b.n a.stands b.stands in
      let spot = one_spot a.n b.n line column line' column' one.1 a.spot b.spot in
      (one.0, spot.0, spot.1, a.word_is ∙ sym b.word_is)

  same : (c d : FaultCode) (line column line' column' : ℕ) (word word' : List ℕ) → Sorted c line column word → Sorted d line' column' word' → Same c line column word d line' column' word'
  unfolding Sorted Same
  same c d line column line' column' word word' (inl a) (inl b) = (a.code_is ∙ sym b.code_is, a.line_is ∙ sym b.line_is, a.column_is ∙ sym b.column_is, a.word_is ∙ sym b.word_is)
  same c d line column line' column' word word' (inl a) (inr (inl b)) = absurd (omega (arith, a.is_large, b.is_small))
  same c d line column line' column' word word' (inl a) (inr (inr b)) = absurd (omega (arith, a.is_large, b.is_small))
  same c d line column line' column' word word' (inr (inl a)) (inl b) = absurd (omega (arith, a.is_small, b.is_large))
  same c d line column line' column' word word' (inr (inr a)) (inl b) = absurd (omega (arith, a.is_small, b.is_large))
  same c d line column line' column' word word' (inr (inl a)) (inr (inl b)) = of_tokens a b
  same c d line column line' column' word word' (inr (inl a)) (inr (inr b)) = absurd (b.none c a.n a.stands)
  same c d line column line' column' word word' (inr (inr a)) (inr (inl b)) = absurd (a.none d b.n b.stands)
  same c d line column line' column' word word' (inr (inr a)) (inr (inr b)) = of_ends a b

the_fault : (f : ScriptFault) → f ≡ record { code = f.code; line = f.line; column = f.column; word = f.word }
the_fault f = refl

pub one_answer : (text : List ℕ) (a b : ScriptFault) → IsAnswer text a → IsAnswer text b → a ≡ b
unfolding Same
one_answer text a b is_a is_b =
    let e = same text a.code b.code a.line a.column b.line b.column a.word b.word (sorted text a.code a.line a.column a.word is_a.stands is_a.is_first is_a.not_memory) (sorted text b.code b.line b.column b.word is_b.stands is_b.is_first is_b.not_memory) in
    rw (the_fault a, e.0, e.1, e.2, e.3) (sym (the_fault b))

of_memory : (text : List ℕ) (c : FaultCode) (line column : ℕ) (word : List ℕ) → c ≡ code.NoMemory → IsFault text c line column word → (line ≡ 1) × (column ≡ 1) × (word ≡ [])
of_memory text code.Byte line column word is f = absurd cc
of_memory text code.Unclosed line column word is f = absurd cc
of_memory text code.Unexpected line column word is f = absurd cc
of_memory text code.TooDeep line column word is f = absurd cc
of_memory text code.TooLarge line column word is f = absurd cc
of_memory text code.LeftOut line column word is f = absurd cc
of_memory text code.NoMemory line column word is f = f

-- that memory ran out is said in one way
pub one_of_memory : (text : List ℕ) (a b : ScriptFault) → Stands text a → Stands text b → a.code ≡ code.NoMemory → b.code ≡ code.NoMemory → a ≡ b
one_of_memory text a b at_a at_b is_a is_b =
    let x = of_memory text a.code a.line a.column a.word is_a at_a in
    let y = of_memory text b.code b.line b.column b.word is_b at_b in
    rw (the_fault a, is_a ∙ sym is_b, x.0 ∙ sym y.0, x.1 ∙ sym y.1, x.2 ∙ sym y.2) (sym (the_fault b))

pub large_first : (text : List ℕ) (c : FaultCode) → max_text < length text → IsFirst text c → c ≡ code.TooLarge
large_first text code.Byte large first = absurd (omega (arith, large, first.0))
large_first text code.Unclosed large first = absurd (omega (arith, large, first.0))
large_first text code.Unexpected large first = absurd (omega (arith, large, first))
large_first text code.TooDeep large first = absurd (omega (arith, large, first))
large_first text code.TooLarge large first = refl
large_first text code.LeftOut large first = absurd (omega (arith, large, first))
large_first text code.NoMemory large first = absurd (omega (arith, large, first))

pub some_answer : (text : List ℕ) → ((script : Script) × IsScript text script) ⊎ ((f : ScriptFault) × IsAnswer text f)
some_answer text = by_size text (cases_lt max_text (length text))
