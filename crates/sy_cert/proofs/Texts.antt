-- The lines of rows, cut into their words, and texts with one row more.
use Rattle.std.proofs.Common.{◌≡◌, ℕ, ◌+◌, ◌*◌, ◌^◌, ◌<◌, ◌==◌, ◌&&◌, Bool, true, false, List, [], ◌∷◌, ◌++◌, length, map, refl, sym, ap, subst, ◌∙◌, inl, inr, arith, eq-eqb, eqb-true}
use Rattle.std.specs.Prelude.{codes}
use Rattle.std.specs.Char.{is_ascii_digit}
use Rattle.std.specs.Fmt.{decimal}
use Rattle.std.specs.List.{list_all, join_with_byte}
use Rattle.std.specs.Str.{bytes_eq}
use Rattle.std.proofs.lemmas.Bool.{true≢false}
use Rattle.std.proofs.lemmas.Slice.Eq.{bytes_eq-Decides}
use Rattle.std.proofs.lemmas.Fmt.{decimal_digit, decimal_nonempty, digits_decimal}
use Rattle.std.proofs.lemmas.List.{append_assoc, append-nil}
use Rattle.std.proofs.lemmas.List.Splits.{join_with_byte-slice_split}
use Rattle.sy_cert.specs.declared.kinds.Kind.TheVariants as kinds
use Rattle.sy_cert.specs.declared.row.Row.{Row}
use Rattle.sy_cert.specs.declared.row.Row.TheVariants as row
use Rattle.sy_wire.specs.Numbers.{is_numeral}
use Rattle.sy_cert.specs.Faults.{BeginsWith, HasShape, Lacks, words_in}
use Rattle.sy_cert.specs.internal.Reading.{IsCut, IsTaken}
use Rattle.sy_cert.specs.Rows.{AreOccurrences, IsRow, IsVersion, further, has_bytes, head, is_action, is_action_byte, is_name, is_name_byte, line, lines, spaced, text, words}
use Rattle.sy_cert.proofs.Cutting.{split_last, split_part}
use Rattle.sy_wire.proofs.Numerals.{is_one, own}
use Rattle.sy_cert.proofs.RowLines.{apart}
use Rattle.sy_cert.proofs.Rows.{one_more}

-- ---- bytes without a mark

abbrev pub AllLack : ℕ → List (List ℕ) → Type 0
AllLack c [] = Unit {0}
AllLack c (w ∷ ws) = Lacks c w × AllLack c ws

pub and_left : (x y : Bool) → (x && y) ≡ true → x ≡ true
and_left true y h = refl
and_left false y h = absurd (true≢false (sym h))

pub and_right : (x y : Bool) → (x && y) ≡ true → y ≡ true
and_right true y h = h
and_right false y h = absurd (true≢false (sym h))

-- bytes that pass a test lack each byte that doesn't
pub lacks_by : (p : ℕ → Bool) (c : ℕ) (w : List ℕ) → p c ≡ false → list_all p w ≡ true → Lacks c w
lacks_by p c [] out h = tt
lacks_by p c (b ∷ bs) out h = (apart (b == c) refl, lacks_by p c bs out (and_right (p b) (list_all p bs) h))
  where
    apart : (x : Bool) → (b == c) ≡ x → (b == c) ≡ false
    apart false e = e
    apart true e = absurd (true≢false (sym (and_left (p b) (list_all p bs) h) ∙ ap p (eqb-true b c e) ∙ out))

pub lacks_append : (c : ℕ) (xs ys : List ℕ) → Lacks c xs → Lacks c ys → Lacks c (xs ++ ys)
lacks_append c [] ys h g = g
lacks_append c (x ∷ xs) ys h g = (h.0, lacks_append c xs ys h.1 g)

lacks_further : (c : ℕ) (ws : List (List ℕ)) → (32 == c) ≡ false → AllLack c ws → Lacks c (further ws)
lacks_further c [] apart h = tt
lacks_further c (w ∷ ws) apart h = (apart, lacks_append c w (further ws) h.0 (lacks_further c ws apart h.1))

pub lacks_spaced : (c : ℕ) (ws : List (List ℕ)) → (32 == c) ≡ false → AllLack c ws → Lacks c (spaced ws)
lacks_spaced c [] apart h = tt
lacks_spaced c (w ∷ ws) apart h = lacks_append c w (further ws) h.0 (lacks_further c ws apart h.1)

-- ---- the words of a line

pub split_spaced : (w : List ℕ) (ws : List (List ℕ)) → AllLack 32 (w ∷ ws) → words_in (spaced (w ∷ ws)) ≡ w ∷ ws
split_spaced w [] h = ap words_in (append-nil w) ∙ split_last 32 w h.0
split_spaced w (v ∷ ws) h = split_part 32 w (spaced (v ∷ ws)) h.0 ∙ ap (λ l. w ∷ l) (split_spaced v ws h.1)

joined : (ws : List (List ℕ)) → spaced ws ≡ join_with_byte 32 ws
joined [] = refl
joined (w ∷ []) = append-nil w
joined (w ∷ v ∷ ws) = ap (λ l. w ++ 32 ∷ l) (joined (v ∷ ws))

-- a line is its words with a space between them
pub line_is : (bytes : List ℕ) → spaced (words_in bytes) ≡ bytes
line_is bytes = joined (words_in bytes) ∙ join_with_byte-slice_split 32 bytes

-- ---- the words of rows

digits_lack : (c n : ℕ) → is_ascii_digit c ≡ false → n < 2 ^ 64 → Lacks c (decimal n)
digits_lack c n out h = lacks_by is_ascii_digit c (decimal n) out (digits_decimal own n h)

name_lacks : (c : ℕ) (w : List ℕ) → is_name_byte c ≡ false → is_name w ≡ true → Lacks c w
name_lacks c w out h = lacks_by is_name_byte c w out (and_right _ (list_all is_name_byte w) (and_right (has_bytes w) _ h))

action_lacks : (c : ℕ) (w : List ℕ) → is_action_byte c ≡ false → is_action w ≡ true → Lacks c w
action_lacks c w out h = lacks_by is_action_byte c w out (and_right (has_bytes w) (list_all is_action_byte w) h)

way_lacks : (c : ℕ) (ns : List ℕ) → is_ascii_digit c ≡ false → AreOccurrences ns → AllLack c (map decimal ns)
way_lacks c [] out h = tt
way_lacks c (n ∷ ns) out h = (digits_lack c n out (omega (arith, h.0)), way_lacks c ns out h.1)

-- none of the six words has the mark, nor do names and numbers
record IsMark (c : ℕ) : Type 0 where
  class : Lacks c (codes "class")
  reach : Lacks c (codes "reach")
  branch : Lacks c (codes "branch")
  rank : Lacks c (codes "rank")
  inner : Lacks c (codes "inner")
  path : Lacks c (codes "path")
  digit : is_ascii_digit c ≡ false
  name : is_name_byte c ≡ false
  action : is_action_byte c ≡ false

row_lacks : (version c : ℕ) → IsMark c → (r : Row) → IsRow version r → AllLack c (words r)
row_lacks version c m (row.Class k) h = (m.class, (digits_lack c (8 * k.facility + k.severity) m.digit (omega (arith, h.0, h.1)), tt))
row_lacks version c m (row.Reach relay port) h = (m.reach, (name_lacks c relay m.name h.0, (digits_lack c port m.digit (omega (arith, h.1.1)), tt)))
row_lacks version c m (row.Branch relay port) h = (m.branch, (name_lacks c relay m.name h.1, (digits_lack c port m.digit (omega (arith, h.2.1)), tt)))
row_lacks version c m (row.Rank relay rank) h = (m.rank, (name_lacks c relay m.name h.0, (digits_lack c rank m.digit (omega (arith, h.1)), tt)))
row_lacks version c m (row.Inner relay list number) h = (
  m.inner,
  (
    name_lacks c relay m.name h.0,
    (digits_lack c list m.digit (omega (arith, h.1)), (digits_lack c number m.digit (omega (arith, h.2)), tt)),
  ),
)
row_lacks version c m (row.Path relay port archive action ns) h = (
  m.path,
  (
    name_lacks c relay m.name h.0,
    (
      digits_lack c port m.digit (omega (arith, h.1.1)),
      (name_lacks c archive m.name h.2, (action_lacks c action m.action h.3, way_lacks c ns m.digit h.4)),
    ),
  ),
)

space : IsMark 32
space = record {
  class = (refl, (refl, (refl, (refl, (refl, tt)))));
  reach = (refl, (refl, (refl, (refl, (refl, tt)))));
  branch = (refl, (refl, (refl, (refl, (refl, (refl, tt))))));
  rank = (refl, (refl, (refl, (refl, tt))));
  inner = (refl, (refl, (refl, (refl, (refl, tt)))));
  path = (refl, (refl, (refl, (refl, tt))));
  digit = refl;
  name = refl;
  action = refl;
}

feed : IsMark 10
feed = record {
  class = (refl, (refl, (refl, (refl, (refl, tt)))));
  reach = (refl, (refl, (refl, (refl, (refl, tt)))));
  branch = (refl, (refl, (refl, (refl, (refl, (refl, tt))))));
  rank = (refl, (refl, (refl, (refl, tt))));
  inner = (refl, (refl, (refl, (refl, (refl, tt)))));
  path = (refl, (refl, (refl, (refl, tt))));
  digit = refl;
  name = refl;
  action = refl;
}

some_words : (r : Row) → (w : List ℕ) × (ws : List (List ℕ)) × (words r ≡ w ∷ ws)
some_words (row.Class c) = (_, _, refl)
some_words (row.Reach relay port) = (_, _, refl)
some_words (row.Branch relay port) = (_, _, refl)
some_words (row.Rank relay rank) = (_, _, refl)
some_words (row.Inner relay list number) = (_, _, refl)
some_words (row.Path relay port archive action ns) = (_, _, refl)

pub words_of_line : (version : ℕ) (r : Row) → IsRow version r → words_in (line r) ≡ words r
words_of_line version r h =
    let s = some_words r in
    let lack = subst (AllLack 32) s.2 (row_lacks version 32 space r h) in
    ap (λ ws. words_in (spaced ws)) s.2 ∙ split_spaced s.0 s.1 lack ∙ sym s.2

pub line_lacks : (version : ℕ) (r : Row) → IsRow version r → Lacks 10 (line r)
line_lacks version r h = lacks_spaced 10 (words r) refl (row_lacks version 10 feed r h)

-- ---- the shapes of rows

has_some : (w : List ℕ) → 0 < length w → has_bytes w ≡ true
has_some [] l = absurd (omega (arith, l))
has_some (b ∷ bs) l = refl

numeral : (n : ℕ) → n < 2 ^ 64 → is_numeral (decimal n) ≡ true
numeral n h = is_one (decimal n) (decimal_nonempty n h) (digits_decimal own n h)

way_numerals : (ns : List ℕ) → AreOccurrences ns → list_all is_numeral (map decimal ns) ≡ true
way_numerals [] h = refl
way_numerals (n ∷ ns) h = rw (numeral n (omega (arith, h.0))) (way_numerals ns h.1)

pub row_shape : (version : ℕ) (r : Row) → IsRow version r → HasShape version (words r)
row_shape version (row.Class c) h = HasShape.class_line (decimal (8 * c.facility + c.severity)) (record { whole = refl; class_is = numeral (8 * c.facility + c.severity) (omega (arith, h.0, h.1)) })
row_shape version (row.Reach relay port) h = HasShape.reach_line relay (decimal port) (record { whole = refl; relay_is = h.0; number_is = numeral port (omega (arith, h.1.1)) })
row_shape version (row.Branch relay port) h = HasShape.branch_line relay (decimal port) h.0 (record { whole = refl; relay_is = h.1; number_is = numeral port (omega (arith, h.2.1)) })
row_shape version (row.Rank relay rank) h = HasShape.rank_line relay (decimal rank) (record { whole = refl; relay_is = h.0; number_is = numeral rank (omega (arith, h.1)) })
row_shape version (row.Inner relay list number) h =
    HasShape.inner_line relay (decimal list) (decimal number) (record {
      whole = refl;
      relay_is = h.0;
      list_is = numeral list (omega (arith, h.1));
      number_is = numeral number (omega (arith, h.2));
    })
row_shape version (row.Path relay port archive action ns) h =
    HasShape.path_line relay (decimal port) archive action (map decimal ns) (record {
      whole = refl;
      relay_is = h.0;
      port_is = numeral port (omega (arith, h.1.1));
      archive_relay_is = h.2;
      action_is = h.3;
      occurrences_are = way_numerals ns h.4;
    })

-- ---- a text with one row more

pub lines_more : (rows : List Row) (r : Row) (rest : List ℕ) → lines (rows ++ r ∷ []) ++ rest ≡ lines rows ++ (line r ++ 10 ∷ rest)
lines_more [] r rest = append_assoc (line r) (10 ∷ []) rest
lines_more (x ∷ rows) r rest =
    append_assoc (line x) (10 ∷ lines (rows ++ r ∷ [])) rest ∙ ap (λ l. line x ++ 10 ∷ l) (lines_more rows r rest)
    ∙ sym (append_assoc (line x) (10 ∷ lines rows) (line r ++ 10 ∷ rest))

pub text_more : (version : ℕ) (rows : List Row) (r : Row) (rest : List ℕ) → text version (rows ++ r ∷ []) ++ rest ≡ text version rows ++ (line r ++ 10 ∷ rest)
text_more version rows r rest =
    append_assoc (head version) (10 ∷ lines (rows ++ r ∷ [])) rest ∙ ap (λ l. head version ++ 10 ∷ l) (lines_more rows r rest)
    ∙ sym (append_assoc (head version) (10 ∷ lines rows) (line r ++ 10 ∷ rest))

pub begin_more : (bytes : List ℕ) (version : ℕ) (rows new : List Row) (rest bytes_of later : List ℕ) → BeginsWith bytes version rows rest
    → IsCut 10 rest bytes_of later → IsTaken version (words_in bytes_of) rows new → BeginsWith bytes version new later
begin_more bytes version rows new rest bytes_of later b cut taken =
    let same : line taken.row ≡ bytes_of = ap spaced taken.is_row_of.words_are ∙ line_is bytes_of in
    let is : text version (rows ++ taken.row ∷ []) ++ later ≡ bytes =
    text_more version rows taken.row later ∙ ap (λ l. text version rows ++ (l ++ 10 ∷ later)) same ∙ ap (λ l. text version rows ++ l) (sym cut.whole)
    ∙ sym b.whole in
    subst (λ rs. BeginsWith bytes version rs later) (sym taken.more) (record {
      whole = sym is;
      certificate = (b.certificate.0, one_more version kinds.Cert rows taken.row b.certificate.1 taken.is_row_of.is_row taken.follows);
    })

-- ---- the first line

pub head_1 : head 1 ≡ codes "cert 1"
head_1 = ap (λ d. codes "cert" ++ 32 ∷ d) (decimal_digit 1 (omega arith))

pub head_2 : head 2 ≡ codes "cert 2"
head_2 = ap (λ d. codes "cert" ++ 32 ∷ d) (decimal_digit 2 (omega arith))

-- a line, compared with one that is wanted
pub same_line : (line wanted : List ℕ) (r : Bool) → r ≡ bytes_eq line wanted → r ≡ true → line ≡ wanted
same_line line wanted r says is = (bytes_eq-Decides line wanted).0 (sym says ∙ is)

pub other_line : (line wanted : List ℕ) (r : Bool) → r ≡ bytes_eq line wanted → r ≡ false → line ≡ wanted → ⊥
other_line line wanted r says is e = true≢false (sym ((bytes_eq-Decides line wanted).1 e) ∙ sym says ∙ is)

pub begin : (bytes first later : List ℕ) (version : ℕ) → IsCut 10 bytes first later → IsVersion version → first ≡ head version
    → BeginsWith bytes version [] later
begin bytes first later version cut is_version is =
    let whole : text version [] ++ later ≡ bytes =
    append_assoc (head version) (10 ∷ []) later ∙ ap (λ h. h ++ 10 ∷ later) (sym is) ∙ sym cut.whole in
    record { whole = sym whole; certificate = (is_version, tt) }

-- ---- one cut

abbrev tail : List ℕ → List ℕ
tail [] = []
tail (b ∷ bs) = bs

abbrev front : List ℕ → ℕ
front [] = 0
front (b ∷ bs) = b

differ : (b c : ℕ) → (b == c) ≡ false → b ≡ c → ⊥
differ b c unlike e = true≢false (sym (eq-eqb b c e) ∙ unlike)

pub lacks_not : (c : ℕ) (zs xs ys : List ℕ) → Lacks c zs → zs ≡ xs ++ c ∷ ys → ⊥
lacks_not c [] [] ys h e = cc
lacks_not c [] (x ∷ xs) ys h e = cc
lacks_not c (z ∷ zs) [] ys h e = differ z c h.0 (ap front e)
lacks_not c (z ∷ zs) (x ∷ xs) ys h e = lacks_not c zs xs ys h.1 (ap tail e)

pub one_cut : (c : ℕ) (xs ys vs ws : List ℕ) → Lacks c xs → Lacks c vs → xs ++ c ∷ ys ≡ vs ++ c ∷ ws → (xs ≡ vs) × (ys ≡ ws)
one_cut c [] ys [] ws h g e = (refl, ap tail e)
one_cut c [] ys (v ∷ vs) ws h g e = absurd (differ v c g.0 (sym (ap front e)))
one_cut c (x ∷ xs) ys [] ws h g e = absurd (differ x c h.0 (ap front e))
one_cut c (x ∷ xs) ys (v ∷ vs) ws h g e =
    let same : x ≡ v = ap front e in
    let later = one_cut c xs ys vs ws h.1 g.1 (ap tail e) in
    (ap (λ b. b ∷ xs) same ∙ ap (λ l. v ∷ l) later.0, later.1)

pub head_lacks : (version : ℕ) → IsVersion version → Lacks 10 (head version)
head_lacks version (inl is) = subst (Lacks 10) (sym (ap head is ∙ head_1)) (refl, (refl, (refl, (refl, (refl, (refl, tt))))))
head_lacks version (inr is) = subst (Lacks 10) (sym (ap head is ∙ head_2)) (refl, (refl, (refl, (refl, (refl, (refl, tt))))))

-- two first lines that are the same say the same version
pub one_head : (version other : ℕ) → IsVersion version → IsVersion other → head version ≡ head other → version ≡ other
one_head version other (inl is) (inl also) e = is ∙ sym also
one_head version other (inl is) (inr also) e = absurd (apart (codes "cert 1") (codes "cert 2") refl (sym (ap head is ∙ head_1) ∙ e ∙ ap head also ∙ head_2))
one_head version other (inr is) (inl also) e = absurd (apart (codes "cert 2") (codes "cert 1") refl (sym (ap head is ∙ head_2) ∙ e ∙ ap head also ∙ head_1))
one_head version other (inr is) (inr also) e = is ∙ sym also

-- a text of one line that isn't ended, and one with another first line
pub no_first : (bytes : List ℕ) → Lacks 10 bytes → (version : ℕ) (rest : List ℕ) → IsVersion version → bytes ≡ head version ++ 10 ∷ rest → ⊥
no_first bytes h version rest is e = lacks_not 10 bytes (head version) rest h e

pub other_first : (bytes first later : List ℕ) → IsCut 10 bytes first later → ((version : ℕ) → IsVersion version → first ≡ head version → ⊥)
    → (version : ℕ) (rest : List ℕ) → IsVersion version → bytes ≡ head version ++ 10 ∷ rest → ⊥
other_first bytes first later cut other version rest is e =
    other version is (one_cut 10 first later (head version) rest cut.lacks (head_lacks version is) (sym cut.whole ∙ e)).0
