-- Levels and their faults.
use Rattle.std.proofs.Common.{◌≡◌, ℕ, ◌<◌, ◌+◌, Bool, true, false, ◌||◌, if◌then◌else◌, ◌==◌, nat_lt, ◌⊎◌, inl, inr, List, ◌∷◌, Some, codes, refl, sym, ap, ◌∙◌}
use Rattle.std.specs.Str.{bytes_eq, str_eq_ignore_ascii_case}
use Rattle.std.specs.Cmp.Lexicographic.{bytes_decides}
use Rattle.sy_select.specs.Faults.{behind_sign, behind_signs, level_faults}
use Rattle.sy_select.specs.Names.{severity_of}
use Rattle.sy_select.specs.internal.Masks.{has_bit}
use Rattle.sy_select.specs.internal.Reading.{ReadsLevel}
use Rattle.sy_select.specs.Selectors.{has_severity, IsLevel, Level, add, equal, every, named, none, not_equal, not_named, not_star, only, star, take_away, up_to}
use Rattle.sy_select.proofs.Bits.{all_ones}

pub same_text : (a b : List ℕ) → bytes_eq a b ≡ true → a ≡ b
same_text a b e = (bytes_decides a b).0 e

pub or_right : (x : Bool) → (x || true) ≡ true
or_right true = refl
or_right false = refl

pub level_star : (whole text : List ℕ) (takes : Bool) (mask : ℕ) → bytes_eq text (codes "*") ≡ true → takes ≡ false → mask ≡ 255 → ReadsLevel whole text takes mask
unfolding level_faults
level_star whole text takes mask e t m = record {
  level = add every;
  is = rw (same_text text (codes "*") e) star;
  right = rw e refl;
  takes_is = t;
  same = λ s within. all_ones mask s m within;
}

pub level_away : (whole text : List ℕ) (takes : Bool) (mask : ℕ) → (bytes_eq text (codes "!*") ≡ true) ⊎ (str_eq_ignore_ascii_case (codes "none") text ≡ true) → takes ≡ true → mask ≡ 255 → ReadsLevel whole text takes mask
unfolding level_faults
level_away whole text takes mask (inl e) t m = record {
  level = take_away every;
  is = rw (same_text text (codes "!*") e) not_star;
  right = let same = same_text text (codes "!*") e in rw same refl;
  takes_is = t;
  same = λ s within. all_ones mask s m within;
}
level_away whole text takes mask (inr e) t m = record {
  level = take_away every;
  is = none e;
  right = rw (e, or_right (bytes_eq text (codes "*") || bytes_eq text (codes "!*"))) refl;
  takes_is = t;
  same = λ s within. all_ones mask s m within;
}

abbrev pub named_level : ℕ → Bool → Bool → Level
named_level severity false false = add (up_to severity)
named_level severity false true = add (only severity)
named_level severity true false = take_away (up_to severity)
named_level severity true true = take_away (only severity)

pub is_level : (text unsigned name : List ℕ) (severity : ℕ) (takes alone : Bool) → severity_of name ≡ Some severity → text ≡ (if takes then 33 ∷ unsigned else unsigned) → unsigned ≡ (if alone then 61 ∷ name else name) → IsLevel text (named_level severity takes alone)
is_level text unsigned name severity false false e p q = rw (p, q) (named e)
is_level text unsigned name severity false true e p q = rw (p, q) (equal e)
is_level text unsigned name severity true false e p q = rw (p, q) (not_named e)
is_level text unsigned name severity true true e p q = rw (p, q) (not_equal e)

takes_are : (severity : ℕ) (takes alone : Bool) → takes ≡ (named_level severity takes alone).takes
takes_are severity false false = refl
takes_are severity false true = refl
takes_are severity true false = refl
takes_are severity true true = refl

same_severities : (severity : ℕ) (takes alone : Bool) (s : ℕ) → (if alone then severity == s else nat_lt s (severity + 1)) ≡ has_severity (named_level severity takes alone).which s
same_severities severity false false s = refl
same_severities severity false true s = refl
same_severities severity true false s = refl
same_severities severity true true s = refl

pub level_named : (whole text unsigned name : List ℕ) (takes alone : Bool) (severity mask : ℕ)
    → bytes_eq text (codes "*") ≡ false → bytes_eq text (codes "!*") ≡ false → str_eq_ignore_ascii_case (codes "none") text ≡ false
    → unsigned ≡ behind_sign 33 text → text ≡ (if takes then 33 ∷ unsigned else unsigned)
    → name ≡ behind_sign 61 unsigned → unsigned ≡ (if alone then 61 ∷ name else name)
    → str_eq_ignore_ascii_case (codes "none") name ≡ false → Some severity ≡ severity_of name
    → ((s : ℕ) → s < 8 → has_bit mask s ≡ (if alone then severity == s else nat_lt s (severity + 1)))
    → ReadsLevel whole text takes mask
unfolding level_faults
level_named whole text unsigned name takes alone severity mask a b c u tu n un d e m =
    let signs : behind_signs text ≡ name = sym (n ∙ ap (behind_sign 61) u) in
    record {
      level = named_level severity takes alone;
      is = is_level text unsigned name severity takes alone (sym e) tu un;
      right = rw (a, b, c, signs, d, sym e) refl;
      takes_is = takes_are severity takes alone;
      same = λ s within. m s within ∙ same_severities severity takes alone s;
    }
