-- The machine reads a piece of a text as its token.
use Rattle.std.proofs.Common.{◌≡◌, inl, inr, ℕ, ◌+◌, ◌-◌, Bool, true, false, cond, List, [], ◌∷◌, ◌++◌, length, take, Option, Some, None, Ok, Err, refl, sym, ap, ◌∙◌, subst, append_assoc, arith, length-append}
use Rattle.std.specs.Prelude.{◌==◌}
use Rattle.std.specs.Char.{is_ascii_digit}
use Rattle.std.specs.List.{slice_range}
use Rattle.std.proofs.lemmas.Bool.{false≢true}
use Rattle.std.proofs.lemmas.Bool.Decides.{eqb_tells, nat_tests}
use Rattle.std.proofs.Math.Seq.{drop-append_seam, take-append_seam}
use Rattle.sy_script.specs.declared.token.Kind.{Kind}
use Rattle.sy_script.specs.declared.token.Kind.TheVariants as k
use Rattle.sy_script.specs.declared.token.Token.{Token}
use Rattle.sy_script.specs.declared.token.Ending.{Ending}
use Rattle.sy_script.specs.declared.token.Ending.TheVariants as ending
use Rattle.sy_script.specs.declared.lex.State.{State}
use Rattle.sy_script.specs.declared.lex.State.TheVariants as s
use Rattle.sy_script.specs.declared.lex.Quote.{Quote}
use Rattle.sy_script.specs.declared.lex.Quote.TheVariants as quote
use Rattle.sy_script.specs.declared.lex.Move.TheVariants as move
use Rattle.sy_script.specs.Terms.{is_blank, is_in_word, starts_word, word_kind}
use Rattle.sy_script.specs.internal.Lex.{quoted, closes, begin, take_if, in_comment, go_on, token, finish, turn_with, turn, step_by, step, end_by, end, follow, and_on, tokens_from}
use Rattle.sy_script.specs.Tokens.{All, NoneNext, is_equals, is_no_feed, InString, NoEnd, PieceAt}

-- ---- tests of one byte

pub not_eq : (test : ℕ → Bool) (b c : ℕ) → test b ≡ true → test c ≡ false → (b == c) ≡ false
not_eq test b c passes fails = elim (eqb_tells b c) [
  | inl e ↦ absurd (false≢true (sym fails ∙ (ap test (sym e.1) ∙ passes)))
  | inr e ↦ e.0
]

begins_word : (at b : ℕ) → starts_word b ≡ true → begin at b ≡ Ok (s.Word at)
unfolding begin
begins_word at b h =
    let n : (c : ℕ) → starts_word c ≡ false → (b == c) ≡ false = λ c other. not_eq starts_word b c h other in
    rw (n 32 refl, n 9 refl, n 13 refl, n 10 refl, n 35 refl, n 47 refl, n 34 refl, n 39 refl, n 36 refl, n 40 refl, n 41 refl, n 123 refl, n 125 refl, n 61 refl, n 33 refl, n 60 refl, n 62 refl, h)

digit_no_word : (b : ℕ) → is_ascii_digit b ≡ true → starts_word b ≡ false
digit_no_word b h = grind (arith, nat_tests)

begins_number : (at b : ℕ) → is_ascii_digit b ≡ true → begin at b ≡ Ok (s.Number at)
unfolding begin
begins_number at b h =
    let n : (c : ℕ) → is_ascii_digit c ≡ false → (b == c) ≡ false = λ c other. not_eq is_ascii_digit b c h other in
    rw (n 32 refl, n 9 refl, n 13 refl, n 10 refl, n 35 refl, n 47 refl, n 34 refl, n 39 refl, n 36 refl, n 40 refl, n 41 refl, n 123 refl, n 125 refl, n 61 refl, n 33 refl, n 60 refl, n 62 refl, digit_no_word b h, h)

begins_blank : (at b : ℕ) → is_blank b ≡ true → begin at b ≡ Ok s.Between
unfolding begin
begins_blank at b h = rw h

feed_begins : (at b : ℕ) → is_no_feed b ≡ false → begin at b ≡ Ok s.Between
feed_begins at b h = begins_blank at b (elim (eqb_tells b 10) [
  | inl e ↦ ap is_blank e.1
  | inr e ↦ absurd (false≢true (sym h ∙ ap (λ t. cond t false true) e.0))
])

-- ---- one byte of the machine

module _ (text : List ℕ) where
  at_as : (st : State) {n m : ℕ} (bytes : List ℕ) → n ≡ m → tokens_from text st n bytes ≡ tokens_from text st m bytes
  at_as st bytes e = ap (λ n. tokens_from text st n bytes) e

  pub goes : (st next : State) (at b : ℕ) (bytes : List ℕ) → go_on st b ≡ move.On next → tokens_from text st at (b ∷ bytes) ≡ tokens_from text next (at + 1) bytes
  unfolding tokens_from step
  goes st next at b bytes h = ap (λ m. let done = step_by m (turn text st at b) at in follow done.found (and_on done.next (λ next. tokens_from text next (at + 1) bytes))) h

  pub goes_wrong : (st : State) (at b : ℕ) (bytes : List ℕ) → go_on st b ≡ move.Wrong → tokens_from text st at (b ∷ bytes) ≡ ([], ending.Byte at)
  unfolding tokens_from step
  goes_wrong st at b bytes h = ap (λ m. let done = step_by m (turn text st at b) at in follow done.found (and_on done.next (λ next. tokens_from text next (at + 1) bytes))) h

  pub begins : (st : State) (at b : ℕ) (bytes : List ℕ) → begin at b ≡ Ok st → tokens_from text s.Between at (b ∷ bytes) ≡ tokens_from text st (at + 1) bytes
  unfolding tokens_from step
  begins st at b bytes h = ap (λ r. follow None (and_on r (λ next. tokens_from text next (at + 1) bytes))) h

  pub begins_not : (at b : ℕ) (bytes : List ℕ) (e : Ending) → begin at b ≡ Err e → tokens_from text s.Between at (b ∷ bytes) ≡ ([], e)
  unfolding tokens_from step
  begins_not at b bytes e h = ap (λ r. follow None (and_on r (λ next. tokens_from text next (at + 1) bytes))) h

  -- a state takes no byte of the rest
  abbrev pub Over : State → List ℕ → Type 0
  Over st [] = Unit {0}
  Over st (b ∷ bytes) = go_on st b ≡ move.Over

  pub ends : (st : State) (at : ℕ) (found : Option Token) (rest : List ℕ) → finish text st at ≡ Ok found → Over st rest → tokens_from text st at rest ≡ follow found (tokens_from text s.Between at rest)
  unfolding tokens_from step
  ends st at None [] h over = ap end_by h
  ends st at (Some t) [] h over = ap end_by h
  ends st at found (b ∷ bytes) h over =
      ap (λ m. let done = step_by m (turn text st at b) at in follow done.found (and_on done.next (λ next. tokens_from text next (at + 1) bytes))) over
      ∙ ap (λ r. let done = turn_with r (begin at b) in follow done.found (and_on done.next (λ next. tokens_from text next (at + 1) bytes))) h

  pub refuses : (st : State) (at : ℕ) (e : Ending) (rest : List ℕ) → finish text st at ≡ Err e → Over st rest → tokens_from text st at rest ≡ ([], e)
  unfolding tokens_from step
  refuses st at e [] h over = ap end_by h
  refuses st at e (b ∷ bytes) h over =
      ap (λ m. let done = step_by m (turn text st at b) at in follow done.found (and_on done.next (λ next. tokens_from text next (at + 1) bytes))) over
      ∙ ap (λ r. let done = turn_with r (begin at b) in follow done.found (and_on done.next (λ next. tokens_from text next (at + 1) bytes))) h

  -- ---- many bytes

  runs : (test : ℕ → Bool) (st : State) → ((b : ℕ) → test b ≡ true → go_on st b ≡ move.On st) → (at : ℕ) (bytes rest : List ℕ) → All test bytes → tokens_from text st at (bytes ++ rest) ≡ tokens_from text st (at + length bytes) rest
  runs test st each at [] rest all = at_as st rest (omega arith)
  runs test st each at (b ∷ bytes) rest all = goes st st at b (bytes ++ rest) (each b all.0) ∙ (runs test st each (at + 1) bytes rest all.1 ∙ at_as st rest (omega arith))

  pub over_if : (test : ℕ → Bool) (st next : State) → ((b : ℕ) → go_on st b ≡ take_if (test b) next) → (rest : List ℕ) → NoneNext test rest → Over st rest
  over_if test st next is [] none = tt
  over_if test st next is (b ∷ bytes) none = is b ∙ ap (λ t. take_if t next) none

  -- the bytes between the quotes of a string
  abbrev pub quote_byte : Quote → ℕ
  quote_byte quote.Double = 34
  quote_byte quote.Single = 39

  closes_as : (q : Quote) (b : ℕ) → closes q b ≡ (b == quote_byte q)
  closes_as quote.Double b = refl
  closes_as quote.Single b = refl

  pub string_runs : (q : Quote) (start at : ℕ) (rest : List ℕ) {bytes : List ℕ} → InString (quote_byte q) bytes → tokens_from text (s.Text q start) at (bytes ++ rest) ≡ tokens_from text (s.Text q start) (at + length bytes) rest
  string_runs q start at rest InString.none = at_as (s.Text q start) rest (omega arith)
  string_runs q start at rest (InString.plain {b = b} {bytes = bytes} no_escape no_quote more) =
      let plain : go_on (s.Text q start) b ≡ move.On (s.Text q start) = ap (λ t. move.On (cond t (s.Escape q start) (cond (closes q b) (s.Whole (quoted q) start) (s.Text q start)))) no_escape ∙ ap (λ t. move.On (cond t (s.Whole (quoted q) start) (s.Text q start))) (closes_as q b ∙ no_quote) in
      goes (s.Text q start) (s.Text q start) at b (bytes ++ rest) plain ∙ (string_runs q start (at + 1) rest more ∙ at_as (s.Text q start) rest (omega arith))
  string_runs q start at rest (InString.escape {b = b} {bytes = bytes} escaped more) =
      goes (s.Text q start) (s.Escape q start) at 92 (b ∷ (bytes ++ rest)) refl
      ∙ (goes (s.Escape q start) (s.Text q start) (at + 1) b (bytes ++ rest) (ap (λ t. cond t (move.On (s.Text q start)) move.Wrong) escaped)
      ∙ (string_runs q start (at + 1 + 1) rest more ∙ at_as (s.Text q start) rest (omega arith)))

  -- a comment, which has just had a `*` or not
  abbrev pub comment_state : Bool → ℕ → State
  comment_state star start = cond star (s.Star start) (s.BlockComment start)

  abbrev pub NoEndBehind : Bool → List ℕ → Type 0
  NoEndBehind true bytes = NoEnd (42 ∷ bytes)
  NoEndBehind false bytes = NoEnd bytes

  no_end_tail : (b : ℕ) (bytes : List ℕ) → NoEnd (b ∷ bytes) → NoEnd bytes
  no_end_tail b [] h = tt
  no_end_tail b (c ∷ bytes) h = h.1

  no_end_first : (star : Bool) (b : ℕ) (bytes : List ℕ) → NoEndBehind star (b ∷ bytes) → NoEnd (b ∷ bytes)
  no_end_first true b bytes h = h.1
  no_end_first false b bytes h = h

  pub no_end_next : (star : Bool) (b : ℕ) (bytes : List ℕ) → NoEndBehind star (b ∷ bytes) → NoEndBehind (b == 42) bytes
  no_end_next star b bytes h =
      let all : NoEnd (b ∷ bytes) = no_end_first star b bytes h in
      elim (eqb_tells b 42) [
        | inl e ↦ (let P : Bool → Type 0 = λ t. NoEndBehind t bytes in let Q : ℕ → Type 0 = λ v. NoEnd (v ∷ bytes) in subst P (sym e.0) (subst Q e.1 all))
        | inr e ↦ (let P : Bool → Type 0 = λ t. NoEndBehind t bytes in subst P (sym e.0) (no_end_tail b bytes all))
      ]

  no_slash : (b : ℕ) → (b ≡ 47 → ⊥) → (b == 47) ≡ false
  no_slash b other = elim (eqb_tells b 47) [
    | inl e ↦ absurd (other e.1)
    | inr e ↦ e.0
  ]

  pub comment_goes : (star : Bool) (start b : ℕ) (bytes : List ℕ) → NoEndBehind star (b ∷ bytes) → go_on (comment_state star start) b ≡ move.On (comment_state (b == 42) start)
  comment_goes true start b bytes h = ap (λ t. cond t (move.On s.Between) (move.On (in_comment start b))) (no_slash b (h.0 refl))
  comment_goes false start b bytes h = refl

  pub comment_runs : (star : Bool) (start at : ℕ) (bytes rest : List ℕ) → NoEndBehind star (bytes ++ 42 ∷ []) → tokens_from text (comment_state star start) at (bytes ++ 42 ∷ 47 ∷ rest) ≡ tokens_from text s.Between (at + length bytes + 2) rest
  comment_runs star start at [] rest h =
      goes (comment_state star start) (s.Star start) at 42 (47 ∷ rest) (comment_goes star start 42 [] h) ∙ (goes (s.Star start) s.Between (at + 1) 47 rest refl ∙ at_as s.Between rest (omega arith))
  comment_runs star start at (b ∷ bytes) rest h =
      goes (comment_state star start) (comment_state (b == 42) start) at b (bytes ++ 42 ∷ 47 ∷ rest) (comment_goes star start b (bytes ++ 42 ∷ []) h)
      ∙ (comment_runs (b == 42) start (at + 1) bytes rest (no_end_next star b (bytes ++ 42 ∷ []) h) ∙ at_as s.Between rest (omega arith))

  -- ---- pieces

  abbrev pub token_of : Option Kind → ℕ → ℕ → Option Token
  token_of None start end = None
  token_of (Some kind) start end = Some (record { kind = kind; span = record { start = start; end = end } })

  -- a piece is read as its token, and what is after it is read by itself
  abbrev pub Reads : Option Kind → ℕ → List ℕ → List ℕ → Type 0
  Reads kind at piece rest = tokens_from text s.Between at (piece ++ rest) ≡ follow (token_of kind at (at + length piece)) (tokens_from text s.Between (at + length piece) rest)

  end_as : (kind : Kind) (start : ℕ) {n m : ℕ} (rest : List ℕ) → n ≡ m → follow (token_of (Some kind) start n) (tokens_from text s.Between n rest) ≡ follow (token_of (Some kind) start m) (tokens_from text s.Between m rest)
  end_as kind start rest e = ap (λ n. follow (token_of (Some kind) start n) (tokens_from text s.Between n rest)) e

  -- a sign of one byte
  sign : (kind : Kind) (at b : ℕ) (st : State) (rest : List ℕ) → begin at b ≡ Ok st → ((end : ℕ) → finish text st end ≡ token kind at end) → Over st rest → Reads (Some kind) at (b ∷ []) rest
  sign kind at b st rest is fin over = begins st at b rest is ∙ ends st (at + 1) (token_of (Some kind) at (at + 1)) rest (fin (at + 1)) over

  -- a sign of two bytes
  sign2 : (kind : Kind) (at b c : ℕ) (st st2 : State) (rest : List ℕ) → begin at b ≡ Ok st → go_on st c ≡ move.On st2 → ((end : ℕ) → finish text st2 end ≡ token kind at end) → Over st2 rest → Reads (Some kind) at (b ∷ c ∷ []) rest
  sign2 kind at b c st st2 rest is on fin over =
      begins st at b (c ∷ rest) is ∙ (goes st st2 (at + 1) c rest on ∙ (ends st2 (at + 1 + 1) (token_of (Some kind) at (at + 1 + 1)) rest (fin (at + 1 + 1)) over ∙ end_as kind at rest (omega arith)))

  whole_over : (kind : Kind) (start : ℕ) (rest : List ℕ) → Over (s.Whole kind start) rest
  whole_over kind start [] = tt
  whole_over kind start (b ∷ rest) = refl

  feed_over : (at : ℕ) (rest : List ℕ) → NoneNext is_no_feed rest → tokens_from text s.LineComment at rest ≡ tokens_from text s.Between at rest
  unfolding tokens_from
  feed_over at [] h = refl
  feed_over at (b ∷ rest) h =
      let on : go_on s.LineComment b ≡ move.On s.Between = elim (eqb_tells b 10) [
        | inl e ↦ ap (λ t. cond t (move.On s.Between) (move.On s.LineComment)) e.0
        | inr e ↦ absurd (false≢true (sym h ∙ ap (λ t. cond t false true) e.0))
      ] in
      goes s.LineComment s.Between at b rest on ∙ sym (begins s.Between at b rest (feed_begins at b h))

  feed_on : (b : ℕ) → is_no_feed b ≡ true → go_on s.LineComment b ≡ move.On s.LineComment
  feed_on b h = elim (eqb_tells b 10) [
    | inl e ↦ absurd (false≢true (sym (ap (λ t. cond t false true) e.0) ∙ h))
    | inr e ↦ ap (λ t. cond t (move.On s.Between) (move.On s.LineComment)) e.0
  ]

  pub string_reads : (q : Quote) (kind : Kind) (at : ℕ) {bytes : List ℕ} (rest : List ℕ) → ((b : ℕ) → begin at (quote_byte q) ≡ Ok (s.Text q at)) → quoted q ≡ kind → InString (quote_byte q) bytes → Reads (Some kind) at (quote_byte q ∷ bytes ++ quote_byte q ∷ []) rest
  string_reads q kind at {bytes} rest is same h =
      let c : ℕ = quote_byte q in
      let on : go_on (s.Text q at) c ≡ move.On (s.Whole kind at) = closing q kind same in
      ap (λ l. tokens_from text s.Between at (c ∷ l)) (append_assoc bytes (c ∷ []) rest)
      ∙ (begins (s.Text q at) at c (bytes ++ c ∷ rest) (is 0)
      ∙ (string_runs q at (at + 1) (c ∷ rest) h
      ∙ (goes (s.Text q at) (s.Whole kind at) (at + 1 + length bytes) c rest on
      ∙ (ends (s.Whole kind at) (at + 1 + length bytes + 1) (token_of (Some kind) at (at + 1 + length bytes + 1)) rest refl (whole_over kind at rest)
      ∙ end_as kind at rest (omega (arith, length-append bytes (c ∷ [])))))))
    where
      closing : (q : Quote) (kind : Kind) → quoted q ≡ kind → go_on (s.Text q at) (quote_byte q) ≡ move.On (s.Whole kind at)
      closing quote.Double kind same = ap (λ k. move.On (s.Whole k at)) same
      closing quote.Single kind same = ap (λ k. move.On (s.Whole k at)) same

  -- the text of a word
  spelled : (before piece rest : List ℕ) (at : ℕ) → text ≡ before ++ (piece ++ rest) → length before ≡ at → slice_range text at (at + length piece) ≡ piece
  spelled before piece rest at is_text is_at =
      let len : length before + length piece - length before ≡ length piece = omega arith in
      ap (λ n. slice_range text n (n + length piece)) (sym is_at)
      ∙ (ap (λ t. slice_range t (length before) (length before + length piece)) is_text
      ∙ (ap (λ d. take (length before + length piece - length before) d) (drop-append_seam before (piece ++ rest))
      ∙ (ap (λ n. take n (piece ++ rest)) len
      ∙ take-append_seam piece rest)))

  word_reads : (before : List ℕ) (at b : ℕ) (bytes rest : List ℕ) → text ≡ before ++ (b ∷ bytes ++ rest) → length before ≡ at → starts_word b ≡ true → All is_in_word bytes → NoneNext is_in_word rest → Reads (Some (word_kind (b ∷ bytes))) at (b ∷ bytes) rest
  word_reads before at b bytes rest is_text is_at start all none =
      let st : State = s.Word at in
      let fin : finish text st (at + 1 + length bytes) ≡ token (word_kind (b ∷ bytes)) at (at + 1 + length bytes) =
      ap (λ w. token (word_kind w) at (at + 1 + length bytes)) (ap (λ n. slice_range text at n) (let e : at + 1 + length bytes ≡ at + length (b ∷ bytes) = omega arith in e) ∙ spelled before (b ∷ bytes) rest at is_text is_at) in
      begins st at b (bytes ++ rest) (begins_word at b start)
      ∙ (runs is_in_word st (λ b h. ap (λ t. take_if t st) h) (at + 1) bytes rest all
      ∙ (ends st (at + 1 + length bytes) (token_of (Some (word_kind (b ∷ bytes))) at (at + 1 + length bytes)) rest fin (over_if is_in_word st st (λ b. refl) rest none)
      ∙ end_as (word_kind (b ∷ bytes)) at rest (omega arith)))

  number_reads : (at b : ℕ) (bytes rest : List ℕ) → is_ascii_digit b ≡ true → All is_ascii_digit bytes → NoneNext is_ascii_digit rest → Reads (Some k.Number) at (b ∷ bytes) rest
  number_reads at b bytes rest start all none =
      let st : State = s.Number at in
      begins st at b (bytes ++ rest) (begins_number at b start)
      ∙ (runs is_ascii_digit st (λ b h. ap (λ t. take_if t st) h) (at + 1) bytes rest all
      ∙ (ends st (at + 1 + length bytes) (token_of (Some k.Number) at (at + 1 + length bytes)) rest refl (over_if is_ascii_digit st st (λ b. refl) rest none)
      ∙ end_as k.Number at rest (omega arith)))

  property_reads : (at b : ℕ) (bytes rest : List ℕ) → starts_word b ≡ true → All is_in_word bytes → NoneNext is_in_word rest → Reads (Some k.Property) at (36 ∷ b ∷ bytes) rest
  unfolding begin
  property_reads at b bytes rest start all none =
      let st : State = s.Property at in
      begins (s.Dollar at) at 36 (b ∷ (bytes ++ rest)) refl
      ∙ (goes (s.Dollar at) st (at + 1) b (bytes ++ rest) (ap (λ t. take_if t st) start)
      ∙ (runs is_in_word st (λ b h. ap (λ t. take_if t st) h) (at + 1 + 1) bytes rest all
      ∙ (ends st (at + 1 + 1 + length bytes) (token_of (Some k.Property) at (at + 1 + 1 + length bytes)) rest refl (over_if is_in_word st st (λ b. refl) rest none)
      ∙ end_as k.Property at rest (omega arith))))

  line_comment_reads : (at : ℕ) (bytes rest : List ℕ) → All is_no_feed bytes → NoneNext is_no_feed rest → Reads None at (35 ∷ bytes) rest
  unfolding begin
  line_comment_reads at bytes rest all none =
      begins s.LineComment at 35 (bytes ++ rest) refl ∙ (runs is_no_feed s.LineComment feed_on (at + 1) bytes rest all ∙ (feed_over (at + 1 + length bytes) rest none ∙ at_as s.Between rest (omega arith)))

  block_comment_reads : (at : ℕ) (bytes rest : List ℕ) → NoEnd (bytes ++ 42 ∷ []) → Reads None at (47 ∷ 42 ∷ bytes ++ 42 ∷ 47 ∷ []) rest
  unfolding begin
  block_comment_reads at bytes rest h =
      ap (λ l. tokens_from text s.Between at (47 ∷ 42 ∷ l)) (append_assoc bytes (42 ∷ 47 ∷ []) rest)
      ∙ (begins (s.Slash at) at 47 (42 ∷ (bytes ++ 42 ∷ 47 ∷ rest)) refl
      ∙ (goes (s.Slash at) (s.BlockComment at) (at + 1) 42 (bytes ++ 42 ∷ 47 ∷ rest) refl
      ∙ (comment_runs false at (at + 1 + 1) bytes rest h
      ∙ at_as s.Between rest (omega (arith, length-append bytes (42 ∷ 47 ∷ []))))))

  pub piece_reads : (before : List ℕ) (at : ℕ) {kind : Option Kind} {piece rest : List ℕ} → text ≡ before ++ (piece ++ rest) → length before ≡ at → PieceAt kind piece rest → Reads kind at piece rest
  unfolding begin
  piece_reads before at is_text is_at (PieceAt.blank {b = b} {rest = rest} h) = begins s.Between at b rest (begins_blank at b h)
  piece_reads before at is_text is_at (PieceAt.line_comment {bytes = bytes} {rest = rest} all none) = line_comment_reads at bytes rest all none
  piece_reads before at is_text is_at (PieceAt.block_comment bytes {rest = rest} h) = block_comment_reads at bytes rest h
  piece_reads before at is_text is_at (PieceAt.word {b = b} {bytes = bytes} {rest = rest} start all none) = word_reads before at b bytes rest is_text is_at start all none
  piece_reads before at is_text is_at (PieceAt.number {b = b} {bytes = bytes} {rest = rest} start all none) = number_reads at b bytes rest start all none
  piece_reads before at is_text is_at (PieceAt.property {b = b} {bytes = bytes} {rest = rest} start all none) = property_reads at b bytes rest start all none
  piece_reads before at is_text is_at (PieceAt.quoted {rest = rest} h) = string_reads quote.Double k.Quoted at rest (λ b. refl) refl h
  piece_reads before at is_text is_at (PieceAt.single_quoted {rest = rest} h) = string_reads quote.Single k.SingleQuoted at rest (λ b. refl) refl h
  piece_reads before at is_text is_at (PieceAt.left_paren {rest = rest}) = sign k.LeftParen at 40 (s.Whole k.LeftParen at) rest refl (λ end. refl) (whole_over k.LeftParen at rest)
  piece_reads before at is_text is_at (PieceAt.right_paren {rest = rest}) = sign k.RightParen at 41 (s.Whole k.RightParen at) rest refl (λ end. refl) (whole_over k.RightParen at rest)
  piece_reads before at is_text is_at (PieceAt.left_brace {rest = rest}) = sign k.LeftBrace at 123 (s.Whole k.LeftBrace at) rest refl (λ end. refl) (whole_over k.LeftBrace at rest)
  piece_reads before at is_text is_at (PieceAt.right_brace {rest = rest}) = sign k.RightBrace at 125 (s.Whole k.RightBrace at) rest refl (λ end. refl) (whole_over k.RightBrace at rest)
  piece_reads before at is_text is_at (PieceAt.assign {rest = rest} none) = sign k.Assign at 61 (s.Assign at) rest refl (λ end. refl) (over_if is_equals (s.Assign at) (s.Whole k.Equal at) (λ b. refl) rest none)
  piece_reads before at is_text is_at (PieceAt.equal {rest = rest}) = sign2 k.Equal at 61 61 (s.Assign at) (s.Whole k.Equal at) rest refl refl (λ end. refl) (whole_over k.Equal at rest)
  piece_reads before at is_text is_at (PieceAt.not_equal {rest = rest}) = sign2 k.NotEqual at 33 61 (s.Bang at) (s.Whole k.NotEqual at) rest refl refl (λ end. refl) (whole_over k.NotEqual at rest)
  piece_reads before at is_text is_at (PieceAt.less {rest = rest} none) = sign k.Less at 60 (s.Less at) rest refl (λ end. refl) (over_if is_equals (s.Less at) (s.Whole k.AtMost at) (λ b. refl) rest none)
  piece_reads before at is_text is_at (PieceAt.at_most {rest = rest}) = sign2 k.AtMost at 60 61 (s.Less at) (s.Whole k.AtMost at) rest refl refl (λ end. refl) (whole_over k.AtMost at rest)
  piece_reads before at is_text is_at (PieceAt.greater {rest = rest} none) = sign k.Greater at 62 (s.Greater at) rest refl (λ end. refl) (over_if is_equals (s.Greater at) (s.Whole k.AtLeast at) (λ b. refl) rest none)
  piece_reads before at is_text is_at (PieceAt.at_least {rest = rest}) = sign2 k.AtLeast at 62 61 (s.Greater at) (s.Whole k.AtLeast at) rest refl refl (λ end. refl) (whole_over k.AtLeast at rest)
