-- The tokens that the machine finds are those of the pieces into which the text is cut.
use Rattle.std.proofs.Common.{◌≡◌, ◌≢◌, inl, inr, ◌<◌, ◌≤◌, ℕ, zero, suc, ◌+◌, Bool, true, false, cond, List, [], ◌∷◌, ◌++◌, length, take, Option, Some, None, Ok, Err, refl, sym, ap, ◌∙◌, subst, append_assoc, append-nil, arith, length-append}
use Rattle.std.specs.Prelude.{◌==◌}
use Rattle.std.specs.Char.{is_ascii_digit}
use Rattle.std.proofs.lemmas.Bool.{false≢true}
use Rattle.std.proofs.Math.Seq.{take-append_seam}
use Rattle.std.proofs.lemmas.Bool.Decides.{eqb_tells}
use Rattle.sy_script.specs.declared.token.Kind.{Kind}
use Rattle.sy_script.specs.declared.token.Kind.TheVariants as k
use Rattle.sy_script.specs.declared.token.Token.{Token}
use Rattle.sy_script.specs.declared.token.Ending.{Ending}
use Rattle.sy_script.specs.declared.token.Ending.TheVariants as ending
use Rattle.sy_script.specs.declared.lex.State.TheVariants as s
use Rattle.sy_script.specs.declared.lex.Quote.{Quote}
use Rattle.sy_script.specs.declared.lex.Quote.TheVariants as quote
use Rattle.sy_script.specs.declared.lex.Move.TheVariants as move
use Rattle.sy_script.specs.Terms.{is_blank, is_escaped, is_in_word, starts_word}
use Rattle.sy_script.specs.internal.Lex.{Lexing, begin, with_front, follow, tokens_from, tokens}
use Rattle.sy_script.specs.Tokens.{All, NoneNext, is_equals, is_no_feed, InString, NoEnd, PieceAt, with_token, Cut, AreTokens}
use Rattle.sy_script.specs.Spans.{InOrder}
use Rattle.sy_script.specs.Faults.{is_sign, is_quote, is_star, BeginsNone}
use Rattle.sy_script.proofs.Pieces.{goes, goes_wrong, begins, begins_not, refuses, over_if, quote_byte, string_runs, comment_state, NoEndBehind, no_end_next, comment_goes, token_of, piece_reads}

-- ---- from pieces to the machine

with_token_front : (kind : Option Kind) (start end : ℕ) (ts : List Token) (l : Lexing) (text : List ℕ) → follow (token_of text kind start end) (with_front ts l) ≡ with_front (with_token kind start end ts) l
with_token_front None start end ts l text = refl
with_token_front (Some kind) start end ts l text = refl

-- what stands after a piece
behind_piece : (text before piece more : List ℕ) (at : ℕ) → text ≡ before ++ (piece ++ more) → length before ≡ at → (text ≡ (before ++ piece) ++ more) × (length (before ++ piece) ≡ at + length piece)
behind_piece text before piece more at is_text is_at = (is_text ∙ sym (append_assoc before piece more), omega (arith, length-append before piece))

pub cut_reads : (text before : List ℕ) {at : ℕ} {bytes : List ℕ} {ts : List Token} {end : ℕ} {rest : List ℕ} → text ≡ before ++ bytes → length before ≡ at → Cut at bytes ts end rest →
    tokens_from text s.Between at bytes ≡ with_front ts (tokens_from text s.Between end rest)
cut_reads text before is_text is_at Cut.none = refl
cut_reads text before is_text is_at (Cut.piece {at = at} {kind = kind} {bytes = bytes} {more = more} {ts = ts} p c) =
    let b = behind_piece text before bytes more at is_text is_at in
    piece_reads text before at is_text is_at p ∙ (ap (λ l. follow (token_of text kind at (at + length bytes)) l) (cut_reads text (before ++ bytes) b.0 b.1 c) ∙ with_token_front kind at (at + length bytes) ts _ text)

cut_end : {at : ℕ} {bytes : List ℕ} {ts : List Token} {end : ℕ} {rest : List ℕ} → Cut at bytes ts end rest → end + length rest ≡ at + length bytes
cut_end Cut.none = refl
cut_end (Cut.piece {bytes = bytes} {more = more} p c) = omega (arith, cut_end c, length-append bytes more)

pub are_tokens : (text : List ℕ) (ts : List Token) → AreTokens text ts → tokens text ≡ (ts, ending.Complete)
unfolding tokens_from
are_tokens text ts c = cut_reads text [] refl refl c ∙ ap (λ l. (l, ending.Complete)) (append-nil ts)

-- ---- what bytes begin with

abbrev Span : (ℕ → Bool) → List ℕ → Type 0
Span test bytes = (more : List ℕ) × (rest : List ℕ) × (bytes ≡ more ++ rest) × All test more × NoneNext test rest

span : (test : ℕ → Bool) (bytes : List ℕ) → Span test bytes
span test [] = ([], [], refl, tt, tt)
span test (b ∷ bytes) = by_test (test b) refl (span test bytes) where
  by_test : (t : Bool) → test b ≡ t → Span test bytes → Span test (b ∷ bytes)
  by_test true is w = (b ∷ w.0, w.1, ap (λ l. b ∷ l) w.2, (is, w.3), w.4)
  by_test false is w = ([], b ∷ bytes, refl, tt, is)

-- how the bytes after a quote go on
data Scan (q : ℕ) : List ℕ → Type 0 where
  closed : {inner : List ℕ} (rest : List ℕ) → InString q inner → Scan q (inner ++ q ∷ rest)
  unended : {inner : List ℕ} → InString q inner → Scan q inner
  over : {inner : List ℕ} → InString q inner → Scan q (inner ++ 92 ∷ [])
  bad : {inner : List ℕ} (b : ℕ) (rest : List ℕ) → InString q inner → is_escaped b ≡ false → Scan q (inner ++ 92 ∷ b ∷ rest)

scan_plain : (q b : ℕ) {bytes : List ℕ} → (b == 92) ≡ false → (b == q) ≡ false → Scan q bytes → Scan q (b ∷ bytes)
scan_plain q b x y (Scan.closed rest h) = Scan.closed rest (InString.plain x y h)
scan_plain q b x y (Scan.unended h) = Scan.unended (InString.plain x y h)
scan_plain q b x y (Scan.over h) = Scan.over (InString.plain x y h)
scan_plain q b x y (Scan.bad c rest h e) = Scan.bad c rest (InString.plain x y h) e

scan_escape : (q b : ℕ) {bytes : List ℕ} → is_escaped b ≡ true → Scan q bytes → Scan q (92 ∷ b ∷ bytes)
scan_escape q b x (Scan.closed rest h) = Scan.closed rest (InString.escape x h)
scan_escape q b x (Scan.unended h) = Scan.unended (InString.escape x h)
scan_escape q b x (Scan.over h) = Scan.over (InString.escape x h)
scan_escape q b x (Scan.bad c rest h e) = Scan.bad c rest (InString.escape x h) e

scan_as : (q : ℕ) {b c : ℕ} (bytes : List ℕ) → b ≡ c → Scan q (c ∷ bytes) → Scan q (b ∷ bytes)
scan_as q bytes e h = let P : ℕ → Type 0 = λ v. Scan q (v ∷ bytes) in subst P (sym e) h

scan_quote : (q b : ℕ) (bytes : List ℕ) → (b == 92) ≡ false → Scan q bytes → Scan q (b ∷ bytes)
scan_quote q b bytes x more = elim (eqb_tells b q) [
  | inl e ↦ scan_as q bytes e.1 (Scan.closed bytes InString.none)
  | inr e ↦ scan_plain q b x e.0 more
]

scan : (q : ℕ) (bytes : List ℕ) → Scan q bytes
scan q [] = Scan.unended InString.none
scan q (b ∷ []) = elim (eqb_tells b 92) [
  | inl e ↦ scan_as q [] e.1 (Scan.over InString.none)
  | inr e ↦ scan_quote q b [] e.0 (Scan.unended InString.none)
]
scan q (b ∷ c ∷ bytes) = elim (eqb_tells b 92) [
  | inl e ↦ scan_as q (c ∷ bytes) e.1 (by_test (scan q bytes) (is_escaped c) refl)
  | inr e ↦ scan_quote q b (c ∷ bytes) e.0 (scan q (c ∷ bytes))
] where
  by_test : Scan q bytes → (t : Bool) → is_escaped c ≡ t → Scan q (92 ∷ c ∷ bytes)
  by_test more true is = scan_escape q c is more
  by_test more false is = Scan.bad c bytes InString.none is

-- how the bytes after `/*` go on
data Comment : List ℕ → Type 0 where
  ended : (inner rest : List ℕ) → NoEnd (inner ++ 42 ∷ []) → Comment (inner ++ 42 ∷ 47 ∷ rest)
  unended : {bytes : List ℕ} → NoEnd bytes → Comment bytes

comment_more : (b : ℕ) (bytes : List ℕ) → ((c : ℕ) (more : List ℕ) → bytes ≡ c ∷ more → b ≡ 42 → c ≢ 47) → Comment bytes → Comment (b ∷ bytes)
comment_more b bytes go (Comment.ended [] rest h) = Comment.ended (b ∷ []) rest (go 42 (47 ∷ rest) refl, tt)
comment_more b bytes go (Comment.ended (i ∷ inner) rest h) = Comment.ended (b ∷ i ∷ inner) rest (go i (inner ++ 42 ∷ 47 ∷ rest) refl, h)
comment_more b [] go (Comment.unended h) = Comment.unended tt
comment_more b (c ∷ bytes) go (Comment.unended h) = Comment.unended (go c bytes refl, h)

scan_comment : (bytes : List ℕ) → Comment bytes
scan_comment [] = Comment.unended tt
scan_comment (b ∷ []) = Comment.unended tt
scan_comment (b ∷ c ∷ bytes) = elim (eqb_tells b 42) [
  | inl e ↦ elim (eqb_tells c 47) [
    | inl d ↦ (let P : ℕ → Type 0 = λ v. Comment (v ∷ c ∷ bytes) in let Q : ℕ → Type 0 = λ v. Comment (42 ∷ v ∷ bytes) in subst P (sym e.1) (subst Q (sym d.1) (Comment.ended [] bytes tt)))
    | inr d ↦ comment_more b (c ∷ bytes) (λ x more is star slash. d.1 (same_head is ∙ slash)) (scan_comment (c ∷ bytes))
  ]
  | inr e ↦ comment_more b (c ∷ bytes) (λ x more is star slash. e.1 star) (scan_comment (c ∷ bytes))
] where
  same_head : {x y : ℕ} {xs ys : List ℕ} → x ∷ xs ≡ y ∷ ys → x ≡ y
  same_head h = cc

data Front : List ℕ → Type 0 where
  piece : {kind : Option Kind} {bytes more : List ℕ} → PieceAt kind bytes more → Front (bytes ++ more)
  nothing : {bytes : List ℕ} → BeginsNone bytes → Front bytes
  no_escape : {q : ℕ} {bytes : List ℕ} (b : ℕ) (rest : List ℕ) → is_quote q ≡ true → InString q bytes → is_escaped b ≡ false → Front (q ∷ bytes ++ 92 ∷ b ∷ rest)
  string : {q : ℕ} {bytes : List ℕ} → is_quote q ≡ true → InString q bytes → Front (q ∷ bytes)
  escape : {q : ℕ} {bytes : List ℕ} → is_quote q ≡ true → InString q bytes → Front (q ∷ bytes ++ 92 ∷ [])
  comment : {bytes : List ℕ} → NoEnd bytes → Front (47 ∷ 42 ∷ bytes)

front_as : {b c : ℕ} (bytes : List ℕ) → b ≡ c → Front (c ∷ bytes) → Front (b ∷ bytes)
front_as bytes e h = let P : ℕ → Type 0 = λ v. Front (v ∷ bytes) in subst P (sym e) h

front_is : {bytes more : List ℕ} → bytes ≡ more → Front more → Front bytes
front_is e h = let P : List ℕ → Type 0 = λ v. Front v in subst P (sym e) h

quoted_front : {bytes : List ℕ} → Scan 34 bytes → Front (34 ∷ bytes)
quoted_front (Scan.closed {inner = inner} rest h) = front_is (ap (λ l. 34 ∷ l) (sym (append_assoc inner (34 ∷ []) rest))) (Front.piece (PieceAt.quoted {rest = rest} h))
quoted_front (Scan.unended h) = Front.string refl h
quoted_front (Scan.over h) = Front.escape refl h
quoted_front (Scan.bad b rest h e) = Front.no_escape b rest refl h e

single_front : {bytes : List ℕ} → Scan 39 bytes → Front (39 ∷ bytes)
single_front (Scan.closed {inner = inner} rest h) = front_is (ap (λ l. 39 ∷ l) (sym (append_assoc inner (39 ∷ []) rest))) (Front.piece (PieceAt.single_quoted {rest = rest} h))
single_front (Scan.unended h) = Front.string refl h
single_front (Scan.over h) = Front.escape refl h
single_front (Scan.bad b rest h e) = Front.no_escape b rest refl h e

comment_front : {bytes : List ℕ} → Comment bytes → Front (47 ∷ 42 ∷ bytes)
comment_front (Comment.ended inner rest h) = front_is (ap (λ l. 47 ∷ 42 ∷ l) (sym (append_assoc inner (42 ∷ 47 ∷ []) rest))) (Front.piece (PieceAt.block_comment inner {rest = rest} h))
comment_front (Comment.unended h) = Front.comment h

slash_front : (bytes : List ℕ) → Front (47 ∷ bytes)
slash_front [] = Front.nothing (BeginsNone.slash tt)
slash_front (c ∷ bytes) = elim (eqb_tells c 42) [
  | inl e ↦ (let P : ℕ → Type 0 = λ v. Front (47 ∷ v ∷ bytes) in subst P (sym e.1) (comment_front (scan_comment bytes)))
  | inr e ↦ Front.nothing (BeginsNone.slash e.0)
]

line_front : (bytes : List ℕ) → Front (35 ∷ bytes)
line_front bytes = let w = span is_no_feed bytes in front_is (ap (λ l. 35 ∷ l) w.2) (Front.piece (PieceAt.line_comment w.3 w.4))

word_front : (b : ℕ) (bytes : List ℕ) → starts_word b ≡ true → Front (b ∷ bytes)
word_front b bytes is = let w = span is_in_word bytes in front_is (ap (λ l. b ∷ l) w.2) (Front.piece (PieceAt.word is w.3 w.4))

number_front : (b : ℕ) (bytes : List ℕ) → is_ascii_digit b ≡ true → Front (b ∷ bytes)
number_front b bytes is = let w = span is_ascii_digit bytes in front_is (ap (λ l. b ∷ l) w.2) (Front.piece (PieceAt.number is w.3 w.4))

dollar_front : (bytes : List ℕ) → Front (36 ∷ bytes)
dollar_front [] = Front.nothing (BeginsNone.dollar tt)
dollar_front (c ∷ bytes) = by_test (starts_word c) refl where
  by_test : (t : Bool) → starts_word c ≡ t → Front (36 ∷ c ∷ bytes)
  by_test true is = let w = span is_in_word bytes in front_is (ap (λ l. 36 ∷ c ∷ l) w.2) (Front.piece (PieceAt.property is w.3 w.4))
  by_test false is = Front.nothing (BeginsNone.dollar is)

second_as : (b : ℕ) {c d : ℕ} (bytes : List ℕ) → c ≡ d → Front (b ∷ d ∷ bytes) → Front (b ∷ c ∷ bytes)
second_as b bytes e h = let P : ℕ → Type 0 = λ v. Front (b ∷ v ∷ bytes) in subst P (sym e) h

-- a sign that may go on with `=`
sign_front : (b : ℕ) (bytes : List ℕ) → (NoneNext is_equals bytes → Front (b ∷ bytes)) → ((more : List ℕ) → Front (b ∷ 61 ∷ more)) → Front (b ∷ bytes)
sign_front b [] alone two = alone tt
sign_front b (c ∷ bytes) alone two = elim (eqb_tells c 61) [
  | inl e ↦ second_as b bytes e.1 (two bytes)
  | inr e ↦ alone e.0
]

other_front : (b : ℕ) (bytes : List ℕ) → is_blank b ≡ false → is_sign b ≡ false → (b == 36) ≡ false → (b == 33) ≡ false → (b == 47) ≡ false → Front (b ∷ bytes)
other_front b bytes blank sign dollar bang slash = by_word (starts_word b) refl where
  by_digit : (t : Bool) → starts_word b ≡ false → is_ascii_digit b ≡ t → Front (b ∷ bytes)
  by_digit true word is = number_front b bytes is
  by_digit false word is = Front.nothing (BeginsNone.byte blank word is sign dollar bang slash)

  by_word : (t : Bool) → starts_word b ≡ t → Front (b ∷ bytes)
  by_word true is = word_front b bytes is
  by_word false is = by_digit (is_ascii_digit b) is refl

front_by : (b : ℕ) (bytes : List ℕ) → is_blank b ≡ false → Front (b ∷ bytes)
front_by b bytes blank =
    elim (eqb_tells b 35) [
      | inl e ↦ front_as bytes e.1 (line_front bytes)
      | inr n35 ↦
          elim (eqb_tells b 47) [
            | inl e ↦ front_as bytes e.1 (slash_front bytes)
            | inr n47 ↦
                elim (eqb_tells b 34) [
                  | inl e ↦ front_as bytes e.1 (quoted_front (scan 34 bytes))
                  | inr n34 ↦
                      elim (eqb_tells b 39) [
                        | inl e ↦ front_as bytes e.1 (single_front (scan 39 bytes))
                        | inr n39 ↦
                            elim (eqb_tells b 36) [
                              | inl e ↦ front_as bytes e.1 (dollar_front bytes)
                              | inr n36 ↦
                                  elim (eqb_tells b 40) [
                                    | inl e ↦ front_as bytes e.1 (Front.piece (PieceAt.left_paren {rest = bytes}))
                                    | inr n40 ↦
                                        elim (eqb_tells b 41) [
                                          | inl e ↦ front_as bytes e.1 (Front.piece (PieceAt.right_paren {rest = bytes}))
                                          | inr n41 ↦
                                              elim (eqb_tells b 123) [
                                                | inl e ↦ front_as bytes e.1 (Front.piece (PieceAt.left_brace {rest = bytes}))
                                                | inr n123 ↦
                                                    elim (eqb_tells b 125) [
                                                      | inl e ↦ front_as bytes e.1 (Front.piece (PieceAt.right_brace {rest = bytes}))
                                                      | inr n125 ↦
                                                          elim (eqb_tells b 61) [
                                                            | inl e ↦ front_as bytes e.1 (sign_front 61 bytes (λ none. Front.piece (PieceAt.assign none)) (λ more. Front.piece (PieceAt.equal {rest = more})))
                                                            | inr n61 ↦
                                                                elim (eqb_tells b 33) [
                                                                  | inl e ↦ front_as bytes e.1 (sign_front 33 bytes (λ none. Front.nothing (BeginsNone.bang none)) (λ more. Front.piece (PieceAt.not_equal {rest = more})))
                                                                  | inr n33 ↦
                                                                      elim (eqb_tells b 60) [
                                                                        | inl e ↦ front_as bytes e.1 (sign_front 60 bytes (λ none. Front.piece (PieceAt.less none)) (λ more. Front.piece (PieceAt.at_most {rest = more})))
                                                                        | inr n60 ↦
                                                                            elim (eqb_tells b 62) [
                                                                              | inl e ↦ front_as bytes e.1 (sign_front 62 bytes (λ none. Front.piece (PieceAt.greater none)) (λ more. Front.piece (PieceAt.at_least {rest = more})))
                                                                              | inr n62 ↦
                                                                                  (let sign : is_sign b ≡ false = rw (n34.0, n39.0, n35.0, n40.0, n41.0, n123.0, n125.0, n61.0, n60.0, n62.0) in
                                                                                  other_front b bytes blank sign n36.0 n33.0 n47.0)
                                                                            ]
                                                                      ]
                                                                ]
                                                          ]
                                                    ]
                                              ]
                                        ]
                                  ]
                            ]
                      ]
                ]
          ]
    ]

front : (b : ℕ) (bytes : List ℕ) → Front (b ∷ bytes)
front b bytes = by_test (is_blank b) refl where
  by_test : (t : Bool) → is_blank b ≡ t → Front (b ∷ bytes)
  by_test true is = Front.piece (PieceAt.blank {rest = bytes} is)
  by_test false is = front_by b bytes is

-- ---- the machine where no piece begins

differs : (test : ℕ → Bool) (b c : ℕ) → test b ≡ false → test c ≡ true → (b == c) ≡ false
differs test b c fails passes = elim (eqb_tells b c) [
  | inl e ↦ absurd (false≢true (sym fails ∙ (ap test e.1 ∙ passes)))
  | inr e ↦ e.0
]

byte_begins_none : (at b : ℕ) → is_blank b ≡ false → starts_word b ≡ false → is_ascii_digit b ≡ false → is_sign b ≡ false → (b == 36) ≡ false → (b == 33) ≡ false → (b == 47) ≡ false → begin at b ≡ Err (ending.Byte at)
unfolding begin
byte_begins_none at b blank word digit sign dollar bang slash =
    let n : (c : ℕ) → is_sign c ≡ true → (b == c) ≡ false = λ c is. differs is_sign b c sign is in
    let m : (c : ℕ) → is_blank c ≡ true → (b == c) ≡ false = λ c is. differs is_blank b c blank is in
    rw (m 32 refl, m 9 refl, m 13 refl, m 10 refl, n 35 refl, slash, n 34 refl, n 39 refl, dollar, n 40 refl, n 41 refl, n 123 refl, n 125 refl, n 61 refl, bang, n 60 refl, n 62 refl, word, digit)

none_reads : (text : List ℕ) (at : ℕ) (bytes : List ℕ) → BeginsNone bytes → tokens_from text s.Between at bytes ≡ ([], ending.Byte at)
unfolding begin
none_reads text at _ (BeginsNone.byte {b = b} {rest = rest} blank word digit sign dollar bang slash) = begins_not text at b rest (ending.Byte at) (byte_begins_none at b blank word digit sign dollar bang slash)
none_reads text at _ (BeginsNone.dollar {rest = rest} none) =
    begins text (s.Dollar at) at 36 rest refl ∙ refuses text (s.Dollar at) (at + 1) (ending.Byte at) rest refl (over_if text starts_word (s.Dollar at) (s.Property at) (λ b. refl) rest none)
none_reads text at _ (BeginsNone.bang {rest = rest} none) =
    begins text (s.Bang at) at 33 rest refl ∙ refuses text (s.Bang at) (at + 1) (ending.Byte at) rest refl (over_if text is_equals (s.Bang at) (s.Whole k.NotEqual at) (λ b. refl) rest none)
none_reads text at _ (BeginsNone.slash {rest = rest} none) =
    begins text (s.Slash at) at 47 rest refl ∙ refuses text (s.Slash at) (at + 1) (ending.Byte at) rest refl (over_if text is_star (s.Slash at) (s.BlockComment at) (λ b. refl) rest none)

comment_open : (text : List ℕ) (star : Bool) (start at : ℕ) (bytes : List ℕ) → NoEndBehind text star bytes → tokens_from text (comment_state text star start) at bytes ≡ ([], ending.Open start)
comment_open text true start at [] h = refuses text (s.Star start) at (ending.Open start) [] refl tt
comment_open text false start at [] h = refuses text (s.BlockComment start) at (ending.Open start) [] refl tt
comment_open text star start at (b ∷ bytes) h =
    goes text (comment_state text star start) (comment_state text (b == 42) start) at b bytes (comment_goes text star start b bytes h) ∙ comment_open text (b == 42) start (at + 1) bytes (no_end_next text star b bytes h)

begins_quote : (q : Quote) (at : ℕ) (text : List ℕ) → begin at (quote_byte text q) ≡ Ok (s.Text q at)
unfolding begin
begins_quote quote.Double at text = refl
begins_quote quote.Single at text = refl

quote_of : (text : List ℕ) (c : ℕ) → is_quote c ≡ true → (q : Quote) × (quote_byte text q ≡ c)
quote_of text c h = elim (eqb_tells c 34) [
  | inl e ↦ (quote.Double, sym e.1)
  | inr e ↦ elim (eqb_tells c 39) [
    | inl d ↦ (quote.Single, sym d.1)
    | inr d ↦ absurd (let no_quote : is_quote c ≡ false = rw (e.0, d.0) in false≢true (sym no_quote ∙ h))
  ]
]

module _ (text : List ℕ) (q : Quote) (at : ℕ) {bytes : List ℕ} (h : InString (quote_byte text q) bytes) where
  string_to : (rest : List ℕ) → tokens_from text s.Between at (quote_byte text q ∷ (bytes ++ rest)) ≡ tokens_from text (s.Text q at) (at + 1 + length bytes) rest
  string_to rest = begins text (s.Text q at) at (quote_byte text q) (bytes ++ rest) (begins_quote q at text) ∙ string_runs text q at (at + 1) rest h

  string_open : tokens_from text s.Between at (quote_byte text q ∷ bytes) ≡ ([], ending.Open at)
  string_open = ap (λ l. tokens_from text s.Between at (quote_byte text q ∷ l)) (sym (append-nil bytes)) ∙ (string_to [] ∙ refuses text (s.Text q at) (at + 1 + length bytes) (ending.Open at) [] refl tt)

  escape_open : tokens_from text s.Between at (quote_byte text q ∷ bytes ++ 92 ∷ []) ≡ ([], ending.Open at)
  escape_open = string_to (92 ∷ []) ∙ (goes text (s.Text q at) (s.Escape q at) (at + 1 + length bytes) 92 [] refl ∙ refuses text (s.Escape q at) (at + 1 + length bytes + 1) (ending.Open at) [] refl tt)

  escape_bad : (b : ℕ) (rest : List ℕ) → is_escaped b ≡ false → tokens_from text s.Between at (quote_byte text q ∷ bytes ++ 92 ∷ b ∷ rest) ≡ ([], ending.Byte (at + length bytes + 2))
  escape_bad b rest e =
      string_to (92 ∷ b ∷ rest)
      ∙ (goes text (s.Text q at) (s.Escape q at) (at + 1 + length bytes) 92 (b ∷ rest) refl
      ∙ (goes_wrong text (s.Escape q at) (at + 1 + length bytes + 1) b rest (ap (λ t. cond t (move.On (s.Text q at)) move.Wrong) e)
      ∙ ap (λ n. ([], ending.Byte n)) (let same : at + 1 + length bytes + 1 ≡ at + length bytes + 2 = omega arith in same)))

-- ---- from the machine to pieces

pub data BadAt : ℕ → ℕ → List ℕ → Type 0 where
  begins_none : {at : ℕ} {rest : List ℕ} → BeginsNone rest → BadAt at at rest
  no_escape : {at q : ℕ} {bytes : List ℕ} (b : ℕ) (rest : List ℕ) → is_quote q ≡ true → InString q bytes → is_escaped b ≡ false → BadAt (at + length bytes + 2) at (q ∷ bytes ++ 92 ∷ b ∷ rest)

pub data OpenAt : ℕ → ℕ → List ℕ → Type 0 where
  string : {at q : ℕ} {bytes : List ℕ} → is_quote q ≡ true → InString q bytes → OpenAt at at (q ∷ bytes)
  escape : {at q : ℕ} {bytes : List ℕ} → is_quote q ≡ true → InString q bytes → OpenAt at at (q ∷ bytes ++ 92 ∷ [])
  comment : {at : ℕ} {bytes : List ℕ} → NoEnd bytes → OpenAt at at (47 ∷ 42 ∷ bytes)

abbrev pub Stopped : Ending → ℕ → List ℕ → Type 0
Stopped ending.Complete at rest = rest ≡ []
Stopped (ending.Byte n) at rest = BadAt n at rest
Stopped (ending.Open n) at rest = OpenAt n at rest

pub record Lexes (at : ℕ) (bytes : List ℕ) (l : Lexing) : Type 0 where
  pub end : ℕ
  pub rest : List ℕ
  pub cut : Cut at bytes l.0 end rest
  pub stopped : Stopped l.1 end rest

lexes_as : {at : ℕ} {bytes : List ℕ} {l m : Lexing} → l ≡ m → Lexes at bytes m → Lexes at bytes l
lexes_as {at = at} {bytes = bytes} e h = let P : Lexing → Type 0 = λ v. Lexes at bytes v in subst P (sym e) h

add_piece : (text : List ℕ) (at : ℕ) {kind : Option Kind} {piece more : List ℕ} {l : Lexing} → PieceAt kind piece more → Lexes (at + length piece) more l → Lexes at (piece ++ more) (follow (token_of text kind at (at + length piece)) l)
add_piece text at {kind = None} p h = record { end = h.end; rest = h.rest; cut = Cut.piece p h.cut; stopped = h.stopped }
add_piece text at {kind = Some kind} p h = record { end = h.end; rest = h.rest; cut = Cut.piece p h.cut; stopped = h.stopped }

pub some_bytes : {kind : Option Kind} {piece more : List ℕ} → PieceAt kind piece more → 0 < length piece
some_bytes (PieceAt.blank h) = omega arith
some_bytes (PieceAt.line_comment a b) = omega arith
some_bytes (PieceAt.block_comment bytes h) = omega arith
some_bytes (PieceAt.word a b c) = omega arith
some_bytes (PieceAt.number a b c) = omega arith
some_bytes (PieceAt.property a b c) = omega arith
some_bytes (PieceAt.quoted h) = omega arith
some_bytes (PieceAt.single_quoted h) = omega arith
some_bytes PieceAt.left_paren = omega arith
some_bytes PieceAt.right_paren = omega arith
some_bytes PieceAt.left_brace = omega arith
some_bytes PieceAt.right_brace = omega arith
some_bytes (PieceAt.assign h) = omega arith
some_bytes PieceAt.equal = omega arith
some_bytes PieceAt.not_equal = omega arith
some_bytes (PieceAt.less h) = omega arith
some_bytes PieceAt.at_most = omega arith
some_bytes (PieceAt.greater h) = omega arith
some_bytes PieceAt.at_least = omega arith

stops : {at : ℕ} {bytes : List ℕ} (e : Ending) → Stopped e at bytes → Lexes at bytes ([], e)
stops {at = at} {bytes = bytes} e h = record { end = at; rest = bytes; cut = Cut.none; stopped = h }

in_quote : (text : List ℕ) {q c : ℕ} (P : ℕ → Type 0) → q ≡ c → P c → P q
in_quote text P e h = subst P (sym e) h

abbrev From : List ℕ → ℕ → List ℕ → Type 0
From text at bytes = Lexes at bytes (tokens_from text s.Between at bytes)

string_lexes : (text : List ℕ) (at q : ℕ) {bytes : List ℕ} → is_quote q ≡ true → InString q bytes → From text at (q ∷ bytes)
string_lexes text at q {bytes = bytes} is h =
    let w = quote_of text q is in
    let P : ℕ → Type 0 = λ v. is_quote v ≡ true → InString v bytes → From text at (v ∷ bytes) in
    subst P w.1 (λ is h. lexes_as (string_open text w.0 at h) (stops (ending.Open at) (OpenAt.string is h))) is h

escape_lexes : (text : List ℕ) (at q : ℕ) {bytes : List ℕ} → is_quote q ≡ true → InString q bytes → From text at (q ∷ bytes ++ 92 ∷ [])
escape_lexes text at q {bytes = bytes} is h =
    let w = quote_of text q is in
    let P : ℕ → Type 0 = λ v. is_quote v ≡ true → InString v bytes → From text at (v ∷ bytes ++ 92 ∷ []) in
    subst P w.1 (λ is h. lexes_as (escape_open text w.0 at h) (stops (ending.Open at) (OpenAt.escape is h))) is h

bad_lexes : (text : List ℕ) (at q : ℕ) {bytes : List ℕ} (b : ℕ) (rest : List ℕ) → is_quote q ≡ true → InString q bytes → is_escaped b ≡ false → From text at (q ∷ bytes ++ 92 ∷ b ∷ rest)
bad_lexes text at q {bytes = bytes} b rest is h e =
    let w = quote_of text q is in
    let P : ℕ → Type 0 = λ v. is_quote v ≡ true → InString v bytes → From text at (v ∷ bytes ++ 92 ∷ b ∷ rest) in
    subst P w.1 (λ is h. lexes_as (escape_bad text w.0 at h b rest e) (stops (ending.Byte (at + length bytes + 2)) (BadAt.no_escape b rest is h e))) is h

comment_lexes : (text : List ℕ) (at : ℕ) (bytes : List ℕ) → NoEnd bytes → From text at (47 ∷ 42 ∷ bytes)
unfolding begin
comment_lexes text at bytes h =
    lexes_as (begins text (s.Slash at) at 47 (42 ∷ bytes) refl ∙ (goes text (s.Slash at) (s.BlockComment at) (at + 1) 42 bytes refl ∙ comment_open text false at (at + 1 + 1) bytes h)) (stops (ending.Open at) (OpenAt.comment h))

module _ (text : List ℕ) where
  front_lexes : (before : List ℕ) (at : ℕ) {bytes : List ℕ} → text ≡ before ++ bytes → length before ≡ at → Front bytes → ((before : List ℕ) (at : ℕ) (more : List ℕ) → text ≡ before ++ more → length before ≡ at → length more < length bytes → From text at more) → From text at bytes
  front_lexes before at is_text is_at (Front.piece {bytes = part} {more = more} p) deeper =
      let b = behind_piece text before part more at is_text is_at in
      lexes_as (piece_reads text before at is_text is_at p) (add_piece text at p (deeper (before ++ part) (at + length part) more b.0 b.1 (omega (arith, length-append part more, some_bytes p))))
  front_lexes before at {bytes = bytes} is_text is_at (Front.nothing h) deeper = lexes_as (none_reads text at bytes h) (stops (ending.Byte at) (BadAt.begins_none h))
  front_lexes before at is_text is_at (Front.no_escape {q = q} b rest is h e) deeper = bad_lexes text at q b rest is h e
  front_lexes before at is_text is_at (Front.string {q = q} is h) deeper = string_lexes text at q is h
  front_lexes before at is_text is_at (Front.escape {q = q} is h) deeper = escape_lexes text at q is h
  front_lexes before at is_text is_at (Front.comment {bytes = bytes} h) deeper = comment_lexes text at bytes h

  lexes : (n : ℕ) (before : List ℕ) (at : ℕ) (bytes : List ℕ) → length bytes ≤ n → text ≡ before ++ bytes → length before ≡ at → From text at bytes
  unfolding tokens_from
  lexes n before at [] small is_text is_at = record { end = at; rest = []; cut = Cut.none; stopped = refl }
  lexes zero before at (b ∷ bytes) small is_text is_at = absurd (omega arith)
  lexes (suc n) before at (b ∷ bytes) small is_text is_at = front_lexes before at is_text is_at (front b bytes) (λ before at more is_text is_at less. lexes n before at more (omega (arith, less, small)) is_text is_at)

pub tokens_cut : (text : List ℕ) → Lexes 0 text (tokens text)
tokens_cut text = lexes text (length text) [] 0 text (omega arith) refl refl

-- where the machine comes to the end, the whole text is cut
pub whole_cut : (text : List ℕ) → (tokens text).1 ≡ ending.Complete → AreTokens text (tokens text).0
whole_cut text h =
    let w = tokens_cut text in
    let P : Ending → Type 0 = λ e. Stopped e w.end w.rest in
    let none : w.rest ≡ [] = subst P h w.stopped in
    let end : w.end ≡ length text = omega (arith, cut_end w.cut, ap length none) in
    let Q : List ℕ → Type 0 = λ r. Cut 0 text (tokens text).0 w.end r in
    let R : ℕ → Type 0 = λ n. Cut 0 text (tokens text).0 n [] in
    subst R end (subst Q none w.cut)

-- a text is cut into tokens in one way
pub one_cutting : (text : List ℕ) (ts us : List Token) → AreTokens text ts → AreTokens text us → ts ≡ us
one_cutting text ts us a b = ap (λ (l : Lexing). l.0) (sym (are_tokens text ts a) ∙ are_tokens text us b)

pub cut_in_order : {at : ℕ} {bytes : List ℕ} {ts : List Token} {end : ℕ} {rest : List ℕ} → Cut at bytes ts end rest → (low : ℕ) → low ≤ at → InOrder low ts end
cut_in_order Cut.none low h = h
cut_in_order (Cut.piece {at = at} {kind = None} {bytes = bytes} p c) low h = cut_in_order c low (omega arith)
cut_in_order (Cut.piece {at = at} {kind = Some kind} {bytes = bytes} p c) low h = (h, omega (arith, some_bytes p), cut_in_order c (at + length bytes) (omega arith))

-- the bytes at a place begin with one token
pub one_token : (a b : Kind) (p q rest left : List ℕ) → PieceAt (Some a) p rest → PieceAt (Some b) q left → p ++ rest ≡ q ++ left → (a ≡ b) × (p ≡ q)
one_token a b p q rest left x y e =
    let text : List ℕ = p ++ rest in
    let t : Token = record { kind = a; span = record { start = 0; end = 0 + length p } } in
    let u : Token = record { kind = b; span = record { start = 0; end = 0 + length q } } in
    let l : Lexing = tokens_from text s.Between (0 + length p) rest in
    let m : Lexing = tokens_from text s.Between (0 + length q) left in
    let one : tokens_from text s.Between 0 (p ++ rest) ≡ follow (Some t) l = piece_reads text [] 0 refl refl x in
    let two : tokens_from text s.Between 0 (q ++ left) ≡ follow (Some u) m = piece_reads text [] 0 e refl y in
    let all : follow (Some t) l ≡ follow (Some u) m = sym one ∙ (ap (λ bytes. tokens_from text s.Between 0 bytes) e ∙ two) in
    let same : t ≡ u = first_token (ap (λ (v : Lexing). v.0) all) in
    let ends_at : 0 + length p ≡ 0 + length q = ap (λ (v : Token). v.span.end) same in
    let long : length p ≡ length q = omega (arith, ends_at) in
    (ap (λ (v : Token). v.kind) same, sym (take-append_seam p rest) ∙ (ap (λ n. take n (p ++ rest)) long ∙ (ap (λ bytes. take (length q) bytes) e ∙ take-append_seam q left)))
  where
    first_token : {t u : Token} {ts us : List Token} → t ∷ ts ≡ u ∷ us → t ≡ u
    first_token h = cc

-- where a text ends otherwise, it isn't cut to its end

bad_reads : (text : List ℕ) (at n : ℕ) (rest : List ℕ) → BadAt n at rest → tokens_from text s.Between at rest ≡ ([], ending.Byte n)
bad_reads text at n rest (BadAt.begins_none h) = none_reads text at rest h
bad_reads text at _ _ (BadAt.no_escape {q = q} {bytes = bytes} b rest is h e) =
    let w = quote_of text q is in
    let P : ℕ → Type 0 = λ v. is_quote v ≡ true → InString v bytes → tokens_from text s.Between at (v ∷ bytes ++ 92 ∷ b ∷ rest) ≡ ([], ending.Byte (at + length bytes + 2)) in
    subst P w.1 (λ is h. escape_bad text w.0 at h b rest e) is h

open_reads : (text : List ℕ) (at n : ℕ) (rest : List ℕ) → OpenAt n at rest → tokens_from text s.Between at rest ≡ ([], ending.Open n)
unfolding begin
open_reads text at _ _ (OpenAt.string {q = q} {bytes = bytes} is h) =
    let w = quote_of text q is in
    let P : ℕ → Type 0 = λ v. is_quote v ≡ true → InString v bytes → tokens_from text s.Between at (v ∷ bytes) ≡ ([], ending.Open at) in
    subst P w.1 (λ is h. string_open text w.0 at h) is h
open_reads text at _ _ (OpenAt.escape {q = q} {bytes = bytes} is h) =
    let w = quote_of text q is in
    let P : ℕ → Type 0 = λ v. is_quote v ≡ true → InString v bytes → tokens_from text s.Between at (v ∷ bytes ++ 92 ∷ []) ≡ ([], ending.Open at) in
    subst P w.1 (λ is h. escape_open text w.0 at h) is h
open_reads text at _ _ (OpenAt.comment {bytes = bytes} h) =
    begins text (s.Slash at) at 47 (42 ∷ bytes) refl ∙ (goes text (s.Slash at) (s.BlockComment at) (at + 1) 42 bytes refl ∙ comment_open text false at (at + 1 + 1) bytes h)

-- the tokens of a prefix of a text, and those after it
pub cut_in : (text : List ℕ) {ts : List Token} {end : ℕ} {rest : List ℕ} → Cut 0 text ts end rest → (more : List Token) × ((tokens text).0 ≡ ts ++ more)
cut_in text {end = end} {rest = rest} c = ((tokens_from text s.Between end rest).0, ap (λ (l : Lexing). l.0) (cut_reads text [] refl refl c))

pub cut_front : (text : List ℕ) {ts us : List Token} {end : ℕ} {rest : List ℕ} → Cut 0 text ts end rest → AreTokens text us → (more : List Token) × (us ≡ ts ++ more)
cut_front text {ts = ts} {us = us} {end = end} {rest = rest} c a =
    ((tokens_from text s.Between end rest).0, ap (λ (l : Lexing). l.0) (sym (are_tokens text us a) ∙ cut_reads text [] refl refl c))

not_ended : (text : List ℕ) (e : Ending) {ts us : List Token} {end : ℕ} {rest : List ℕ} → Cut 0 text ts end rest → AreTokens text us → tokens_from text s.Between end rest ≡ ([], e) → ending.Complete ≡ e
not_ended text e c a is = ap (λ (l : Lexing). l.1) (sym (are_tokens text _ a) ∙ cut_reads text [] refl refl c) ∙ ap (λ (l : Lexing). l.1) is

pub no_bad : (text : List ℕ) (n : ℕ) {ts us : List Token} {end : ℕ} {rest : List ℕ} → Cut 0 text ts end rest → AreTokens text us → BadAt n end rest → ⊥
no_bad text n {end = end} {rest = rest} c a h = let no : ending.Complete ≡ ending.Byte n = not_ended text (ending.Byte n) c a (bad_reads text end n rest h) in cc

pub no_open : (text : List ℕ) (n : ℕ) {ts us : List Token} {end : ℕ} {rest : List ℕ} → Cut 0 text ts end rest → AreTokens text us → OpenAt n end rest → ⊥
no_open text n {end = end} {rest = rest} c a h = let no : ending.Complete ≡ ending.Open n = not_ended text (ending.Open n) c a (open_reads text end n rest h) in cc

-- how a text ends as tokens
pub bad_end : (text : List ℕ) (n : ℕ) {ts : List Token} {end : ℕ} {rest : List ℕ} → Cut 0 text ts end rest → BadAt n end rest → (tokens text).1 ≡ ending.Byte n
bad_end text n {end = end} {rest = rest} c h = ap (λ (l : Lexing). l.1) (cut_reads text [] refl refl c) ∙ ap (λ (l : Lexing). l.1) (bad_reads text end n rest h)

pub open_end : (text : List ℕ) (n : ℕ) {ts : List Token} {end : ℕ} {rest : List ℕ} → Cut 0 text ts end rest → OpenAt n end rest → (tokens text).1 ≡ ending.Open n
open_end text n {end = end} {rest = rest} c h = ap (λ (l : Lexing). l.1) (cut_reads text [] refl refl c) ∙ ap (λ (l : Lexing). l.1) (open_reads text end n rest h)
