-- One text has one list of rows, or one fault.
use Rattle.std.proofs.Common.{◌≡◌, ℕ, ◌+◌, ◌*◌, ◌<◌, ◌≤◌, true, List, [], ◌∷◌, ◌++◌, map, refl, sym, ap, subst, ◌∙◌, arith}
use Rattle.std.specs.Coded.{le_prop}
use mathlib.Core.HLevel.{is_prop→PathP}
use Rattle.std.specs.Prelude.{codes}
use Rattle.std.specs.Fmt.{decimal}
use Rattle.std.proofs.lemmas.Bool.{true≢false}
use Rattle.std.proofs.lemmas.Fmt.{decimal_injective}
use Rattle.std.proofs.lemmas.List.{append_assoc, append-nil}
use Rattle.sy_wire.specs.declared.class.Class.{Class}
use Rattle.sy_cert.specs.declared.fault.FaultCode.{FaultCode}
use Rattle.sy_cert.specs.declared.fault.FaultCode.TheVariants as code
use Rattle.sy_cert.specs.declared.kinds.Kind.{Kind}
use Rattle.sy_cert.specs.declared.kinds.Kind.TheVariants as kinds
use Rattle.sy_cert.specs.declared.row.Row.{Row}
use Rattle.sy_cert.specs.declared.row.Row.TheVariants as row
use Rattle.sy_cert.specs.Faults.{BeginsWith, HasFault, HasShape, IsFaulty, Lacks, line_after, words_in}
use Rattle.sy_cert.specs.Rows.{AreOccurrences, AreRows, IsCertificate, IsRow, IsVersion, head, kind, last_from, last_kind, line, lines, may_follow, text, words}
use Rattle.sy_cert.proofs.RowLines.{after_fifth, after_first, after_second, apart, first, fourth, second, third}
use Rattle.sy_cert.proofs.Texts.{head_lacks, lacks_not, line_lacks, one_cut, one_head, row_shape, words_of_line}

-- ---- rows with the same words

-- that the two numbers are in range has one proof each
same_class : (a b : Class) → a.facility ≡ b.facility → a.severity ≡ b.severity → a ≡ b
same_class a b f s = λ i. record {
  facility = f i;
  severity = s i;
  facility_in_range = is_prop→PathP (λ j. f j < 24) (λ j. hlevel le_prop) a.facility_in_range b.facility_in_range i;
  severity_in_range = is_prop→PathP (λ j. s j < 8) (λ j. hlevel le_prop) a.severity_in_range b.severity_in_range i;
}

one_class : (a b : Class) → 8 * a.facility + a.severity ≡ 8 * b.facility + b.severity → a ≡ b
one_class a b e =
    let f : a.facility ≡ b.facility = omega (arith, e, a.severity_in_range, b.severity_in_range) in
    let s : a.severity ≡ b.severity = omega (arith, e, a.severity_in_range, b.severity_in_range) in
    same_class a b f s

one_number : (m n : ℕ) → m ≤ 4294967295 → n ≤ 4294967295 → decimal m ≡ decimal n → m ≡ n
one_number m n small low e = decimal_injective m n (omega (arith, small)) (omega (arith, low)) e

one_way : (ms ns : List ℕ) → AreOccurrences ms → AreOccurrences ns → map decimal ms ≡ map decimal ns → ms ≡ ns
one_way [] [] are also e = refl
one_way [] (n ∷ ns) are also e = cc
one_way (m ∷ ms) [] are also e = cc
one_way (m ∷ ms) (n ∷ ns) are also e =
    let same : m ≡ n = one_number m n (omega (arith, are.0)) (omega (arith, also.0)) (ap first e) in
    ap (λ k. k ∷ ms) same ∙ ap (λ ks. n ∷ ks) (one_way ms ns are.1 also.1 (ap after_first e))

abbrev fifth : List (List ℕ) → List ℕ
fifth ws = first (after_second (after_second ws))

same_path : (relay relay' archive archive' action action' ns ns' : List ℕ) (port port' : ℕ) → relay ≡ relay' → port ≡ port' → archive ≡ archive'
    → action ≡ action' → ns ≡ ns' → row.Path relay port archive action ns ≡ row.Path relay' port' archive' action' ns'
same_path relay relay' archive archive' action action' ns ns' port port' e0 e1 e2 e3 e4 = cc

same_reach : (relay relay' : List ℕ) (port port' : ℕ) → relay ≡ relay' → port ≡ port' → row.Reach relay port ≡ row.Reach relay' port'
same_reach relay relay' port port' e0 e1 = cc

same_branch : (relay relay' : List ℕ) (port port' : ℕ) → relay ≡ relay' → port ≡ port' → row.Branch relay port ≡ row.Branch relay' port'
same_branch relay relay' port port' e0 e1 = cc

same_rank : (relay relay' : List ℕ) (rank rank' : ℕ) → relay ≡ relay' → rank ≡ rank' → row.Rank relay rank ≡ row.Rank relay' rank'
same_rank relay relay' rank rank' e0 e1 = cc

same_inner : (relay relay' : List ℕ) (list list' number number' : ℕ) → relay ≡ relay' → list ≡ list' → number ≡ number'
    → row.Inner relay list number ≡ row.Inner relay' list' number'
same_inner relay relay' list list' number number' e0 e1 e2 = cc

pub one_row : (version : ℕ) (r s : Row) → IsRow version r → IsRow version s → words r ≡ words s → r ≡ s
one_row version (row.Class c) (row.Class d) h g e =
    ap row.Class (one_class c d (one_number (8 * c.facility + c.severity) (8 * d.facility + d.severity) (omega (arith, h.0, h.1)) (omega (arith, g.0, g.1)) (ap second e)))
one_row version (row.Class c) (row.Reach relay' port') h g e = absurd (apart (codes "class") (codes "reach") refl (ap first e))
one_row version (row.Class c) (row.Branch relay' port') h g e = absurd (apart (codes "class") (codes "branch") refl (ap first e))
one_row version (row.Class c) (row.Rank relay' rank') h g e = absurd (apart (codes "class") (codes "rank") refl (ap first e))
one_row version (row.Class c) (row.Inner relay' list' number') h g e = absurd (apart (codes "class") (codes "inner") refl (ap first e))
one_row version (row.Class c) (row.Path relay' port' archive' action' ns') h g e = absurd (apart (codes "class") (codes "path") refl (ap first e))
one_row version (row.Reach relay port) (row.Class d) h g e = absurd (apart (codes "reach") (codes "class") refl (ap first e))
one_row version (row.Reach relay port) (row.Reach relay' port') h g e =
    same_reach relay relay' port port' (ap second e) (one_number port port' (omega (arith, h.1.1)) (omega (arith, g.1.1)) (ap third e))
one_row version (row.Reach relay port) (row.Branch relay' port') h g e = absurd (apart (codes "reach") (codes "branch") refl (ap first e))
one_row version (row.Reach relay port) (row.Rank relay' rank') h g e = absurd (apart (codes "reach") (codes "rank") refl (ap first e))
one_row version (row.Reach relay port) (row.Inner relay' list' number') h g e = absurd (apart (codes "reach") (codes "inner") refl (ap first e))
one_row version (row.Reach relay port) (row.Path relay' port' archive' action' ns') h g e = absurd (apart (codes "reach") (codes "path") refl (ap first e))
one_row version (row.Branch relay port) (row.Class d) h g e = absurd (apart (codes "branch") (codes "class") refl (ap first e))
one_row version (row.Branch relay port) (row.Reach relay' port') h g e = absurd (apart (codes "branch") (codes "reach") refl (ap first e))
one_row version (row.Branch relay port) (row.Branch relay' port') h g e =
    same_branch relay relay' port port' (ap second e) (one_number port port' (omega (arith, h.2.1)) (omega (arith, g.2.1)) (ap third e))
one_row version (row.Branch relay port) (row.Rank relay' rank') h g e = absurd (apart (codes "branch") (codes "rank") refl (ap first e))
one_row version (row.Branch relay port) (row.Inner relay' list' number') h g e = absurd (apart (codes "branch") (codes "inner") refl (ap first e))
one_row version (row.Branch relay port) (row.Path relay' port' archive' action' ns') h g e = absurd (apart (codes "branch") (codes "path") refl (ap first e))
one_row version (row.Rank relay rank) (row.Class d) h g e = absurd (apart (codes "rank") (codes "class") refl (ap first e))
one_row version (row.Rank relay rank) (row.Reach relay' port') h g e = absurd (apart (codes "rank") (codes "reach") refl (ap first e))
one_row version (row.Rank relay rank) (row.Branch relay' port') h g e = absurd (apart (codes "rank") (codes "branch") refl (ap first e))
one_row version (row.Rank relay rank) (row.Rank relay' rank') h g e = same_rank relay relay' rank rank' (ap second e) (one_number rank rank' h.1 g.1 (ap third e))
one_row version (row.Rank relay rank) (row.Inner relay' list' number') h g e = absurd (apart (codes "rank") (codes "inner") refl (ap first e))
one_row version (row.Rank relay rank) (row.Path relay' port' archive' action' ns') h g e = absurd (apart (codes "rank") (codes "path") refl (ap first e))
one_row version (row.Inner relay list number) (row.Class d) h g e = absurd (apart (codes "inner") (codes "class") refl (ap first e))
one_row version (row.Inner relay list number) (row.Reach relay' port') h g e = absurd (apart (codes "inner") (codes "reach") refl (ap first e))
one_row version (row.Inner relay list number) (row.Branch relay' port') h g e = absurd (apart (codes "inner") (codes "branch") refl (ap first e))
one_row version (row.Inner relay list number) (row.Rank relay' rank') h g e = absurd (apart (codes "inner") (codes "rank") refl (ap first e))
one_row version (row.Inner relay list number) (row.Inner relay' list' number') h g e =
    same_inner relay relay' list list' number number' (ap second e) (one_number list list' h.1 g.1 (ap third e))
    (one_number number number' h.2 g.2 (ap fourth e))
one_row version (row.Inner relay list number) (row.Path relay' port' archive' action' ns') h g e = absurd (apart (codes "inner") (codes "path") refl (ap first e))
one_row version (row.Path relay port archive action ns) (row.Class d) h g e = absurd (apart (codes "path") (codes "class") refl (ap first e))
one_row version (row.Path relay port archive action ns) (row.Reach relay' port') h g e = absurd (apart (codes "path") (codes "reach") refl (ap first e))
one_row version (row.Path relay port archive action ns) (row.Branch relay' port') h g e = absurd (apart (codes "path") (codes "branch") refl (ap first e))
one_row version (row.Path relay port archive action ns) (row.Rank relay' rank') h g e = absurd (apart (codes "path") (codes "rank") refl (ap first e))
one_row version (row.Path relay port archive action ns) (row.Inner relay' list' number') h g e = absurd (apart (codes "path") (codes "inner") refl (ap first e))
one_row version (row.Path relay port archive action ns) (row.Path relay' port' archive' action' ns') h g e =
    same_path relay relay' archive archive' action action' ns ns' port port' (ap second e)
    (one_number port port' (omega (arith, h.1.1)) (omega (arith, g.1.1)) (ap third e)) (ap fourth e) (ap fifth e)
    (one_way ns ns' h.4 g.4 (ap after_fifth e))

pub one_line : (version : ℕ) (r s : Row) → IsRow version r → IsRow version s → line r ≡ line s → r ≡ s
one_line version r s h g e = one_row version r s h g (sym (words_of_line version r h) ∙ ap words_in e ∙ words_of_line version s g)

-- ---- lines of rows, and what is after them

-- no line of a row that may follow is at the front
abbrev IsStuck : ℕ → Kind → List ℕ → Type 0
IsStuck version before bytes = (r : Row) (later : List ℕ) → IsRow version r → may_follow before (kind r) ≡ true → bytes ≡ line r ++ 10 ∷ later → ⊥

same_rows : (version : ℕ) (before : Kind) (rows others : List Row) (x y : List ℕ) → AreRows version before rows → AreRows version before others
    → IsStuck version (last_from before rows) x → IsStuck version (last_from before others) y → lines rows ++ x ≡ lines others ++ y → (rows ≡ others) × (x ≡ y)
same_rows version before [] [] x y are also stuck held e = (refl, e)
same_rows version before [] (s ∷ others) x y are also stuck held e =
    absurd (stuck s (lines others ++ y) also.0 also.1 (e ∙ append_assoc (line s) (10 ∷ lines others) y))
same_rows version before (r ∷ rows) [] x y are also stuck held e =
    absurd (held r (lines rows ++ x) are.0 are.1 (sym e ∙ append_assoc (line r) (10 ∷ lines rows) x))
same_rows version before (r ∷ rows) (s ∷ others) x y are also stuck held e =
    let cut = one_cut 10 (line r) (lines rows ++ x) (line s) (lines others ++ y) (line_lacks version r are.0) (line_lacks version s also.0)
    (sym (append_assoc (line r) (10 ∷ lines rows) x) ∙ e ∙ append_assoc (line s) (10 ∷ lines others) y) in
    let same : s ≡ r = one_line version s r also.0 are.0 (sym cut.0) in
    let later = same_rows version (kind r) rows others x y are.2 (subst (λ z. AreRows version (kind z) others) same also.2) stuck
    (subst (λ z. IsStuck version (last_from (kind z) others) y) same held) cut.1 in
    (ap (λ z. z ∷ rows) (sym same) ∙ ap (λ zs. s ∷ zs) later.0, later.1)

no_end : (xs : List ℕ) (b : ℕ) (ys : List ℕ) → [] ≡ xs ++ b ∷ ys → ⊥
no_end [] b ys e = cc
no_end (x ∷ xs) b ys e = cc

end_stuck : (version : ℕ) (before : Kind) → IsStuck version before []
end_stuck version before r later is follows e = no_end (line r) 10 later e

open_stuck : (version : ℕ) (before : Kind) (bytes : List ℕ) → Lacks 10 bytes → IsStuck version before bytes
open_stuck version before bytes h r later is follows e = lacks_not 10 bytes (line r) later h e

-- the words of a faulty line are those of no row that may follow
faulty_words : (version : ℕ) (before : Kind) (ws : List (List ℕ)) (c : FaultCode) → IsFaulty version before ws c → (r : Row) → IsRow version r → may_follow before (kind r) ≡ true
    → words r ≡ ws → ⊥
faulty_words version before ws code.Line h r is follows e = h (subst (HasShape version) e (row_shape version r is))
faulty_words version before ws code.Order h r is follows e =
    true≢false (sym follows ∙ ap (λ s. may_follow before (kind s)) (one_row version r h.0 is h.1 (e ∙ sym h.2)) ∙ h.3)
faulty_words version before ws code.Number h r is follows e = h.1 r is e
faulty_words version before ws code.NoMemory h r is follows e = h

faulty_stuck : (version : ℕ) (before : Kind) (line_of later : List ℕ) (c : FaultCode) → Lacks 10 line_of
    → IsFaulty version before (words_in line_of) c → IsStuck version before (line_of ++ 10 ∷ later)
faulty_stuck version before line_of later c lacks h r rest is follows e =
    let cut = one_cut 10 line_of later (line r) rest lacks (line_lacks version r is) e in
    faulty_words version before (words_in line_of) c h r is follows (sym (words_of_line version r is) ∙ ap words_in (sym cut.0))

-- ---- texts

abbrev tail : List ℕ → List ℕ
tail [] = []
tail (b ∷ bs) = bs

after_head : (version : ℕ) (rows : List Row) (x : List ℕ) → text version rows ++ x ≡ head version ++ 10 ∷ (lines rows ++ x)
after_head version rows x = append_assoc (head version) (10 ∷ lines rows) x

-- what two readings of a text have in common
record SameReading (version other : ℕ) (rows others : List Row) (x y : List ℕ) : Type 0 where
  version_is : version ≡ other
  rows_are : rows ≡ others
  rest_is : x ≡ y

same_reading : (bytes : List ℕ) (version other : ℕ) (rows others : List Row) (x y : List ℕ) → BeginsWith bytes version rows x
    → BeginsWith bytes other others y → IsStuck version (last_kind rows) x → IsStuck other (last_kind others) y
    → SameReading version other rows others x y
same_reading bytes version other rows others x y b d stuck held =
    let cut = one_cut 10 (head version) (lines rows ++ x) (head other) (lines others ++ y) (head_lacks version b.certificate.0)
    (head_lacks other d.certificate.0) (sym (after_head version rows x) ∙ sym b.whole ∙ d.whole ∙ after_head other others y) in
    let is : other ≡ version = sym (one_head version other b.certificate.0 d.certificate.0 cut.0) in
    let same = same_rows version kinds.Cert rows others x y b.certificate.1 (subst (λ v. AreRows v kinds.Cert others) is d.certificate.1) stuck
    (subst (λ v. IsStuck v (last_kind others) y) is held) cut.1 in
    record { version_is = sym is; rows_are = same.0; rest_is = same.1 }

whole_text : (version : ℕ) (rows : List Row) → IsCertificate version rows → BeginsWith (text version rows) version rows []
whole_text version rows are = record { whole = sym (append-nil (text version rows)); certificate = are }

pub one_text : (version other : ℕ) (rows others : List Row) → IsCertificate version rows → IsCertificate other others
    → text version rows ≡ text other others → (version ≡ other) × (rows ≡ others)
one_text version other rows others are also e =
    let same = same_reading (text version rows) version other rows others [] [] (whole_text version rows are)
    (subst (λ t. BeginsWith t other others []) (sym e) (whole_text other others also)) (end_stuck version (last_kind rows))
    (end_stuck other (last_kind others)) in
    (same.version_is, same.rows_are)

-- ---- faults

pub no_fault : (version : ℕ) (rows : List Row) (c : FaultCode) (n : ℕ) → IsCertificate version rows → HasFault (text version rows) c n → ⊥
no_fault version rows c n are (HasFault.no_head never) = never version (lines rows) are.0 refl
no_fault version rows c n are (HasFault.not_ended other others b rest begins lacks) =
    let same = same_reading (text version rows) version other rows others [] (b ∷ rest) (whole_text version rows are) begins
    (end_stuck version (last_kind rows)) (open_stuck other (last_kind others) (b ∷ rest) lacks) in
    no_end [] b rest same.rest_is
no_fault version rows c n are (HasFault.faulty other others line_of later d begins lacks h) =
    let same = same_reading (text version rows) version other rows others [] (line_of ++ 10 ∷ later) (whole_text version rows are) begins
    (end_stuck version (last_kind rows)) (faulty_stuck other (last_kind others) line_of later d lacks h) in
    no_end line_of 10 later same.rest_is

one_code : (version : ℕ) (before : Kind) (ws : List (List ℕ)) (c d : FaultCode) → IsFaulty version before ws c → IsFaulty version before ws d → c ≡ d
one_code version before ws code.Line code.Line h g = refl
one_code version before ws code.Line code.Order h g = absurd (h (subst (HasShape version) g.2 (row_shape version g.0 g.1)))
one_code version before ws code.Line code.Number h g = absurd (h g.0)
one_code version before ws code.Line code.NoMemory h g = absurd g
one_code version before ws code.Order code.Line h g = absurd (g (subst (HasShape version) h.2 (row_shape version h.0 h.1)))
one_code version before ws code.Order code.Order h g = refl
one_code version before ws code.Order code.Number h g = absurd (g.1 h.0 h.1 h.2)
one_code version before ws code.Order code.NoMemory h g = absurd g
one_code version before ws code.Number code.Line h g = absurd (g h.0)
one_code version before ws code.Number code.Order h g = absurd (h.1 g.0 g.1 g.2)
one_code version before ws code.Number code.Number h g = refl
one_code version before ws code.Number code.NoMemory h g = absurd g
one_code version before ws code.NoMemory d h g = absurd h

-- none of the versions has its first line at the front
abbrev NoHead : List ℕ → Type 0
NoHead bytes = (version : ℕ) (rest : List ℕ) → IsVersion version → bytes ≡ head version ++ 10 ∷ rest → ⊥

-- a text with rows has its first line
has_head : (bytes : List ℕ) (version : ℕ) (rows : List Row) (x : List ℕ) → BeginsWith bytes version rows x → NoHead bytes → ⊥
has_head bytes version rows x b never = never version (lines rows ++ x) b.certificate.0 (b.whole ∙ after_head version rows x)

abbrev Same : FaultCode → FaultCode → ℕ → ℕ → Type 0
Same c d m n = (c ≡ d) × (m ≡ n)

-- two faulty lines behind the same rows are one
one_faulty : (version other : ℕ) (rows others : List Row) (l z line_of later : List ℕ) (k j : FaultCode)
    → SameReading version other rows others (l ++ 10 ∷ z) (line_of ++ 10 ∷ later) → Lacks 10 l → Lacks 10 line_of
    → IsFaulty version (last_kind rows) (words_in l) k → IsFaulty other (last_kind others) (words_in line_of) j
    → Same k j (line_after rows) (line_after others)
one_faulty version other rows others l z line_of later k j same lack lacks g h =
    let cut = one_cut 10 l z line_of later lack lacks same.rest_is in
    let before : last_kind others ≡ last_kind rows = ap last_kind (sym same.rows_are) in
    let ws : words_in line_of ≡ words_in l = ap words_in (sym cut.0) in
    let there = subst (λ w. IsFaulty w (last_kind others) (words_in line_of) j) (sym same.version_is) h in (
      one_code version (last_kind rows) (words_in l) k j g
          (subst (λ v. IsFaulty version (last_kind rows) v j) ws (subst (λ v. IsFaulty version v (words_in line_of) j) before there)),
      ap line_after same.rows_are,
    )

pub one_fault : (bytes : List ℕ) (c d : FaultCode) (m n : ℕ) → HasFault bytes c m → HasFault bytes d n → Same c d m n
one_fault bytes c d m n (HasFault.no_head never) (HasFault.no_head also) = (refl, refl)
one_fault bytes c d m n (HasFault.no_head never) (HasFault.not_ended other others b rest begins lacks) =
    absurd (has_head bytes other others (b ∷ rest) begins never)
one_fault bytes c d m n (HasFault.no_head never) (HasFault.faulty other others line_of later k begins lacks h) =
    absurd (has_head bytes other others (line_of ++ 10 ∷ later) begins never)
one_fault bytes c d m n (HasFault.not_ended version rows a x b lack) (HasFault.no_head never) = absurd (has_head bytes version rows (a ∷ x) b never)
one_fault bytes c d m n (HasFault.not_ended version rows a x b lack) (HasFault.not_ended other others b' rest begins lacks) =
    let same = same_reading bytes version other rows others (a ∷ x) (b' ∷ rest) b begins (open_stuck version (last_kind rows) (a ∷ x) lack)
    (open_stuck other (last_kind others) (b' ∷ rest) lacks) in
    (refl, ap line_after same.rows_are)
one_fault bytes c d m n (HasFault.not_ended version rows a x b lack) (HasFault.faulty other others line_of later k begins lacks h) =
    let same = same_reading bytes version other rows others (a ∷ x) (line_of ++ 10 ∷ later) b begins (open_stuck version (last_kind rows) (a ∷ x) lack)
    (faulty_stuck other (last_kind others) line_of later k lacks h) in
    absurd (lacks_not 10 (a ∷ x) line_of later lack same.rest_is)
one_fault bytes c d m n (HasFault.faulty version rows l z k b lack g) (HasFault.no_head never) = absurd (has_head bytes version rows (l ++ 10 ∷ z) b never)
one_fault bytes c d m n (HasFault.faulty version rows l z k b lack g) (HasFault.not_ended other others b' rest begins lacks) =
    let same = same_reading bytes version other rows others (l ++ 10 ∷ z) (b' ∷ rest) b begins (faulty_stuck version (last_kind rows) l z k lack g)
    (open_stuck other (last_kind others) (b' ∷ rest) lacks) in
    absurd (lacks_not 10 (b' ∷ rest) l z lacks (sym same.rest_is))
one_fault bytes c d m n (HasFault.faulty version rows l z k b lack g) (HasFault.faulty other others line_of later j begins lacks h) =
    one_faulty version other rows others l z line_of later k j
    (same_reading bytes version other rows others (l ++ 10 ∷ z) (line_of ++ 10 ∷ later) b begins (faulty_stuck version (last_kind rows) l z k lack g)
    (faulty_stuck other (last_kind others) line_of later j lacks h)) lack lacks g h
