-- Whether a field of a head is a TIMESTAMP.
use Rattle.std.proofs.Common.{◌≡◌, ◌≢◌, ℕ, ◌/◌, ◌%◌, inl, inr, Bool, true, false, List, [], ◌∷◌, ◌++◌, length, refl, sym, ap, subst, ◌∙◌, arith, append_assoc}
use Rattle.std.specs.Prelude.{nat_eq}
use Rattle.std.specs.List.{AllByRecursion}
use Rattle.std.proofs.lemmas.List.{append_cancel_left}
use Rattle.sy_wire.specs.Characters.{IsDigit}
use Rattle.sy_wire.specs.Messages.{IsMessage, IsPri, Said, spaced}
use Rattle.sy_wire.specs.Timestamps.{IsFullDate, IsHourMinute, IsPartialTime, IsSecFrac, IsTimeOffset, IsTimestamp, two_digits}
use Rattle.sy_wire.proofs.Runs.{one_run, same_tail}
use Rattle.sy_unread.specs.Repairs.{IsTimeAnew}
use Rattle.sy_unread.specs.Words.{IsWord}
use Rattle.sy_unread.proofs.Classes.{front_is}
use Rattle.sy_unread.proofs.Grammar.{regroup}

-- ---- a TIMESTAMP has no space

two_and : (n : ℕ) (rest : List ℕ) → IsWord rest → IsWord (two_digits n ++ rest)
two_and n rest is = (λ e. omega (arith, e), (λ e. omega (arith, e), is))

word_and : (a b : List ℕ) → IsWord a → IsWord b → IsWord (a ++ b)
word_and [] b p q = q
word_and (x ∷ a) b p q = (p.0, word_and a b p.1 q)

digits_word : (text : List ℕ) → AllByRecursion IsDigit text → IsWord text
digits_word [] all = tt
digits_word (b ∷ text) all = (λ e. omega (arith, e, all.0.0), digits_word text all.1)

date_word : (text : List ℕ) → IsFullDate text → IsWord text
date_word text is =
    let days : IsWord (45 ∷ two_digits is.day) = (λ e. omega (arith, e), two_and is.day [] tt) in
    let later : List ℕ = 45 ∷ (two_digits is.month ++ 45 ∷ two_digits is.day) in
    let months : IsWord later = (λ e. omega (arith, e), two_and is.month (45 ∷ two_digits is.day) days) in
    subst IsWord (sym is.whole) (two_and (is.year / 100) (two_digits (is.year % 100) ++ later) (two_and (is.year % 100) later months))

minute_word : (text : List ℕ) → IsHourMinute text → IsWord text
minute_word text is =
    let minutes : IsWord (58 ∷ two_digits is.minute) = (λ e. omega (arith, e), two_and is.minute [] tt) in
    subst IsWord (sym is.whole) (two_and is.hour (58 ∷ two_digits is.minute) minutes)

fraction_word : (text : List ℕ) → IsSecFrac text → IsWord text
fraction_word text (inl none) = subst IsWord (sym none) tt
fraction_word text (inr (digits, run, is)) = subst IsWord (sym is) (λ e. omega (arith, e), digits_word digits run.each)

time_word : (text : List ℕ) → IsPartialTime text → IsWord text
time_word text is =
    let seconds : IsWord (58 ∷ two_digits is.second) = (λ e. omega (arith, e), two_and is.second [] tt) in
    subst IsWord (sym is.whole) (word_and (is.hour_minute ++ 58 ∷ two_digits is.second) is.fraction
    (word_and is.hour_minute (58 ∷ two_digits is.second) (minute_word is.hour_minute is.is_hour_minute) seconds) (fraction_word is.fraction is.is_fraction))

offset_word : (text : List ℕ) → IsTimeOffset text → IsWord text
offset_word text (inl is) = subst IsWord (sym is) (λ e. omega (arith, e), tt)
offset_word text (inr (sign, minute, inl plus, is, whole)) = subst IsWord (sym whole) (λ e. omega (arith, e, plus), minute_word minute is)
offset_word text (inr (sign, minute, inr dash, is, whole)) = subst IsWord (sym whole) (λ e. omega (arith, e, dash), minute_word minute is)

timestamp_word : (text : List ℕ) → IsTimestamp text → IsWord text
timestamp_word text (inl nil) = subst IsWord (sym nil) (λ e. omega (arith, e), tt)
timestamp_word text (inr is) =
    let times : IsWord (84 ∷ is.time) = (λ e. omega (arith, e), time_word is.time is.is_time) in
    subst IsWord (sym is.whole) (word_and (is.date ++ 84 ∷ is.time) is.offset
    (word_and is.date (84 ∷ is.time) (date_word is.date is.is_date) times) (offset_word is.offset is.is_offset))

-- ---- the message that has the field alone

abbrev nothing : List ℕ
nothing = 32 ∷ 45 ∷ 32 ∷ 45 ∷ 32 ∷ 45 ∷ 32 ∷ 45 ∷ 32 ∷ 45 ∷ []

abbrev pub said_at : List ℕ → Said
said_at field = record {
  raw = 60 ∷ 49 ∷ 51 ∷ 62 ∷ 49 ∷ 32 ∷ (field ++ nothing);
  class = record { facility = 1; severity = 5; facility_in_range = omega arith; severity_in_range = omega arith };
  hostname = 45 ∷ [];
  app_name = 45 ∷ [];
  procid = 45 ∷ [];
  msgid = 45 ∷ [];
  msg = [];
}

pri_is : IsPri (60 ∷ 49 ∷ 51 ∷ 62 ∷ []) 13
pri_is = (49 ∷ 51 ∷ [], record { numeral = (omega arith, grind arith); short = omega arith; value = refl; bound = omega arith }, refl)

pub time_message : (field : List ℕ) → IsTimestamp field → IsMessage (said_at field)
time_message field is = record {
  pri = 60 ∷ 49 ∷ 51 ∷ 62 ∷ [];
  version = 49 ∷ [];
  timestamp = field;
  data_text = 45 ∷ [];
  tail = [];
  is_pri = pri_is;
  is_version = refl;
  is_timestamp = is;
  is_hostname = inl refl;
  is_app_name = inl refl;
  is_procid = inl refl;
  is_msgid = inl refl;
  is_data = inl refl;
  is_tail = refl;
  text = sym (regroup (60 ∷ 49 ∷ 51 ∷ 62 ∷ []) (49 ∷ 32 ∷ []) (spaced field) (45 ∷ 32 ∷ []) (45 ∷ 32 ∷ []) (45 ∷ 32 ∷ []) (45 ∷ 32 ∷ []) (45 ∷ []) []
      ∙ ap (λ x. 60 ∷ 49 ∷ 51 ∷ 62 ∷ 49 ∷ 32 ∷ x) (append_assoc field (32 ∷ []) (45 ∷ 32 ∷ 45 ∷ 32 ∷ 45 ∷ 32 ∷ 45 ∷ 32 ∷ 45 ∷ [])));
}

-- behind the priority and the version of such bytes is the TIMESTAMP of what they say
time_by : (field pri version time behind : List ℕ) (n : ℕ) → IsPri pri n → version ≡ 49 ∷ [] → IsTimestamp time
    → 60 ∷ 49 ∷ 51 ∷ 62 ∷ 49 ∷ 32 ∷ (field ++ nothing) ≡ pri ++ (spaced version ++ (spaced time ++ behind)) → IsWord field → IsTimestamp field
time_by field pri version time behind n is v is_time whole word =
    let raw : List ℕ = 60 ∷ 49 ∷ 51 ∷ 62 ∷ 49 ∷ 32 ∷ (field ++ nothing) in
    let same : pri ≡ 60 ∷ 49 ∷ 51 ∷ 62 ∷ [] =
    sym (front_is raw pri (spaced version ++ (spaced time ++ behind)) n is whole) ∙ front_is raw (60 ∷ 49 ∷ 51 ∷ 62 ∷ []) (49 ∷ 32 ∷ (field ++ nothing)) 13 pri_is refl in
    let more : 49 ∷ 32 ∷ (field ++ nothing) ≡ spaced version ++ (spaced time ++ behind) =
    append_cancel_left (60 ∷ 49 ∷ 51 ∷ 62 ∷ []) _ _ (whole ∙ ap (λ x. x ++ (spaced version ++ (spaced time ++ behind))) same) in
    let spent : 49 ∷ 32 ∷ (field ++ nothing) ≡ 49 ∷ 32 ∷ (spaced time ++ behind) = more ∙ ap (λ x. spaced x ++ (spaced time ++ behind)) v in
    let words : field ++ nothing ≡ time ++ 32 ∷ behind = same_tail _ _ _ _ (same_tail _ _ _ _ spent) ∙ append_assoc time (32 ∷ []) behind in
    let found = one_run (λ b. b ≢ 32) field time 32 32 _ behind word (timestamp_word time is_time) (λ never. never refl) (λ never. never refl) words in
    subst IsTimestamp (sym found.0) is_time

pub time_read : (field : List ℕ) (m : Said) → IsMessage m → m.raw ≡ 60 ∷ 49 ∷ 51 ∷ 62 ∷ 49 ∷ 32 ∷ (field ++ nothing) → IsWord field → IsTimestamp field
time_read field m is raw word = time_by field is.pri is.version is.timestamp _ _ is.is_pri is.is_version is.is_timestamp (sym raw ∙ is.text ∙ regroup is.pri _ _ _ _ _ _ _ _) word

pub some_text : (is : Bool) (text : List ℕ) → is ≡ nat_eq (length text) 0 → text ≡ [] → is ≡ false → ⊥
some_text is text empty nothing_there some = let never : true ≡ false = sym (empty ∙ ap (λ x. nat_eq (length x) 0) nothing_there) ∙ some in cc

-- ---- the time anew

pub one_time_anew : (came a b : List ℕ) → IsTimeAnew came a → IsTimeAnew came b → a ≡ b
one_time_anew came a b (inl p) (inl q) = p.1 ∙ sym q.1
one_time_anew came a b (inl p) (inr q) = absurd (q.0 p.0)
one_time_anew came a b (inr p) (inl q) = absurd (p.0 q.0)
one_time_anew came a b (inr p) (inr q) = p.1 ∙ sym q.1

pub time_anew_is : (came time : List ℕ) → IsTimeAnew came time → IsTimestamp time
time_anew_is came time (inl p) = subst IsTimestamp (sym p.1) p.0
time_anew_is came time (inr p) = inl p.1
