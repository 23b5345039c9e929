-- What the tables of names have in common.
use Rattle.std.proofs.Common.{◌≡◌, ℕ, ◌<◌, Bool, true, false, ◌&&◌, ◌⊎◌, inl, inr, if◌then◌else◌, ◌==◌, nat_lt, List, [], ◌∷◌, Option, Some, None, refl, sym, arith, eqb-true}
use borrow.Author.Tests.{ltb-true}
use Rattle.std.proofs.lemmas.Bool.Decides.{nat_tests}
use Rattle.std.specs.Char.{is_ascii_alphanumeric, to_ascii_lowercase}
use Rattle.std.specs.Str.{str_eq_ignore_ascii_case}
use Rattle.sy_select.specs.Names.{Table, facilities, facility_of, number_of, severities, severity_of}
use Rattle.std.specs.Option.{IfSome}
use Rattle.sy_select.specs.Faults.{all_alphanumeric}

pub one_of : (b : Bool) (m n : ℕ) (o : Option ℕ) → (if b then Some m else o) ≡ Some n → ((b ≡ true) × (m ≡ n)) ⊎ (o ≡ Some n)
one_of true m n o e = inl (refl, cc)
one_of false m n o e = inr e

-- ---- numbers

abbrev pub all_below : ℕ → Table → Bool
all_below bound [] = true
all_below bound (row ∷ rows) = nat_lt row.1 bound && all_below bound rows

pub both : (a b : Bool) → (a && b) ≡ true → (a ≡ true) × (b ≡ true)
both true b e = (refl, e)
both false b e = cc

pub number_below : (bound n : ℕ) (table : Table) (text : List ℕ) → all_below bound table ≡ true → number_of table text ≡ Some n → n < bound
number_below bound n [] text below e = cc
number_below bound n (row ∷ rows) text below e =
    let parts = both (nat_lt row.1 bound) (all_below bound rows) below in
    elim (one_of (str_eq_ignore_ascii_case row.0 text) row.1 n (number_of rows text) e) [
      | inl found ↦ rw (sym found.1) (ltb-true row.1 bound parts.0)
      | inr later ↦ number_below bound n rows text parts.1 later
    ]

pub facility_below : (text : List ℕ) (f : ℕ) → facility_of text ≡ Some f → f < 24
unfolding facility_of
facility_below text f e = number_below 24 f facilities text refl e

pub severity_below : (text : List ℕ) (s : ℕ) → severity_of text ≡ Some s → s < 8
unfolding severity_of
severity_below text s e = number_below 8 s severities text refl e

-- ---- letters and digits

abbrev pub all_named : Table → Bool
all_named [] = true
all_named (row ∷ rows) = all_alphanumeric row.0 && all_named rows

same_case : (a b : ℕ) → to_ascii_lowercase a ≡ to_ascii_lowercase b → is_ascii_alphanumeric a ≡ true → is_ascii_alphanumeric b ≡ true
same_case a b e h = grind (arith, nat_tests)

same_word : (a b : List ℕ) → str_eq_ignore_ascii_case a b ≡ true → all_alphanumeric a ≡ true → all_alphanumeric b ≡ true
same_word [] [] e h = refl
same_word [] (b ∷ bs) e h = cc
same_word (a ∷ az) [] e h = cc
same_word (a ∷ az) (b ∷ bs) e h =
    let tests = both (to_ascii_lowercase a == to_ascii_lowercase b) (str_eq_ignore_ascii_case az bs) e in
    let kinds = both (is_ascii_alphanumeric a) (all_alphanumeric az) h in
    let head : is_ascii_alphanumeric b ≡ true = same_case a b (eqb-true _ _ tests.0) kinds.0 in
    let tail : all_alphanumeric bs ≡ true = same_word az bs tests.1 kinds.1 in
    rw (head, tail) refl

pub named_alphanumeric : (table : Table) (text : List ℕ) (n : ℕ) → all_named table ≡ true → number_of table text ≡ Some n → all_alphanumeric text ≡ true
named_alphanumeric [] text n named e = cc
named_alphanumeric (row ∷ rows) text n named e =
    let parts = both (all_alphanumeric row.0) (all_named rows) named in
    elim (one_of (str_eq_ignore_ascii_case row.0 text) row.1 n (number_of rows text) e) [
      | inl found ↦ same_word row.0 text found.0 parts.0
      | inr later ↦ named_alphanumeric rows text n parts.1 later
    ]

pub facility_alphanumeric : (text : List ℕ) (f : ℕ) → facility_of text ≡ Some f → all_alphanumeric text ≡ true
unfolding facility_of
facility_alphanumeric text f e = named_alphanumeric facilities text f refl e

pub severity_alphanumeric : (text : List ℕ) (s : ℕ) → severity_of text ≡ Some s → all_alphanumeric text ≡ true
unfolding severity_of
severity_alphanumeric text s e = named_alphanumeric severities text s refl e

pub none_alphanumeric : (name text : List ℕ) → all_alphanumeric name ≡ true → str_eq_ignore_ascii_case name text ≡ true → all_alphanumeric text ≡ true
none_alphanumeric name text h e = same_word name text e h

pub if_some : (P : ℕ → Type 0) (o : Option ℕ) → ((n : ℕ) → o ≡ Some n → P n) → IfSome o P
if_some P None h = tt
if_some P (Some n) h = h n refl
