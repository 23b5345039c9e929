-- Parts of a selector, and their faults.
use Rattle.std.proofs.Common.{◌≡◌, ℕ, zero, suc, ◌<◌, Bool, true, false, ◌||◌, ◌==◌, inl, inr, List, [], ◌∷◌, ◌++◌, length, Some, None, codes, refl, sym, ap, ◌∙◌, arith, append_assoc, length-append, Result, Ok, Err, IfOk, eq-eqb, get_or-set_other, get_or-set_same}
use Rattle.std.proofs.Math.ListN.{length-set, set}
use Rattle.std.specs.List.{flat_map}
use Rattle.std.specs.Str.{bytes_eq}
use Rattle.std.proofs.lemmas.Bool.{cases_eq, ne_eqb}
use Rattle.std.proofs.lemmas.List.Folds.{list_any-append}
use Rattle.sy_select.specs.declared.fault.FaultCode.{FaultCode}
use Rattle.sy_select.specs.declared.fault.FaultCode.TheVariants as code
use Rattle.sy_select.specs.Faults.{behind_dot, cut, facilities_faults, facility_faults, level_faults, no_name, part_faults, pieces}
use Rattle.sy_select.specs.Names.{facility_of}
use Rattle.sy_select.specs.internal.Reading.{at, Lists, ReadsFacilities, ReadsLevel, ReadsPart, Refuses}
use Rattle.sy_select.specs.Selectors.{all, AreFacilities, has_facility, listed, more, one}
use Rattle.sy_select.proofs.Cutting.{first_piece, pieces_last, pieces_more}
use Rattle.sy_select.proofs.LevelLaws.{same_text}

-- ---- sets of facilities

or_true : (x : Bool) → (x || (true || false)) ≡ true
or_true true = refl
or_true false = refl

or_false : (x : Bool) → (x || (false || false)) ≡ x
or_false true = refl
or_false false = refl

-- one more facility
facility_more : (table : List Bool) (found : List ℕ) (f : ℕ) → f < length table → ((g : ℕ) → g < 24 → at table g ≡ has_facility (listed found) g)
    → (g : ℕ) → g < 24 → at (set table f true) g ≡ has_facility (listed (found ++ f ∷ [])) g
facility_more table found f within same g bound =
    elim (cases_eq g f) [
      | inl e ↦ rw (list_any-append (λ h. h == g) found (f ∷ []), e, get_or-set_same table f true false within, eq-eqb f f refl) (sym (or_true (has_facility (listed found) f)))
      | inr apart ↦ rw (list_any-append (λ h. h == g) found (f ∷ []), get_or-set_other table f g true false apart, ne_eqb f g (λ h. apart (sym h)), same g bound) (sym (or_false (has_facility (listed found) g)))
    ]

-- ---- names between commas

-- What stands before the rest are names, of facilities that are in the set.
pub record NamesSoFar (whole text rest : List ℕ) (table : List Bool) : Type 0 where
  pub found : List ℕ
  pub size : length table ≡ 24
  pub right : flat_map (facility_faults whole) (pieces 44 rest) ≡ flat_map (facility_faults whole) (pieces 44 text)
  pub goes_on : (fs : List ℕ) → AreFacilities rest fs → AreFacilities text (found ++ fs)
  pub same : (f : ℕ) → f < 24 → at table f ≡ has_facility (listed found) f

abbrev pub all_false : List Bool → Bool
all_false [] = true
all_false (true ∷ bs) = false
all_false (false ∷ bs) = all_false bs

at_false : (table : List Bool) (f : ℕ) → all_false table ≡ true → at table f ≡ false
at_false [] f e = refl
at_false (true ∷ bs) f e = cc
at_false (false ∷ bs) zero e = refl
at_false (false ∷ bs) (suc f) e = at_false bs f e

pub names_start : (whole text : List ℕ) (table : List Bool) → length table ≡ 24 → all_false table ≡ true → NamesSoFar whole text text table
names_start whole text table size none = record { found = []; size = size; right = refl; goes_on = λ fs h. h; same = λ f within. at_false table f none }

pub names_more : (whole text rest name behind : List ℕ) (table : List Bool) (f : ℕ) → NamesSoFar whole text rest table → f < 24
    → name ≡ (cut 44 rest).0 → Some behind ≡ (cut 44 rest).1 → Some f ≡ facility_of name → NamesSoFar whole text behind (set table f true)
names_more whole text rest name behind table f so_far within front back is =
    let cuts = pieces_more 44 rest behind (sym back) in
    let place : f < length table = rw so_far.size within in
    let named : facility_of (cut 44 rest).0 ≡ Some f = rw (← front) (sym is) in
    let none : facility_faults whole (cut 44 rest).0 ≡ [] = rw named refl in
    record {
      found = so_far.found ++ f ∷ [];
      size = length-set table f true ∙ so_far.size;
      right =
          let step : flat_map (facility_faults whole) (pieces 44 rest) ≡ flat_map (facility_faults whole) (pieces 44 behind) = rw (cuts.0, none) refl in
          sym step ∙ so_far.right;
      goes_on = λ fs h. rw append_assoc (so_far.goes_on (f ∷ fs) (rw cuts.1 (more (cut 44 rest).0 named h)));
      same = facility_more table so_far.found f place so_far.same;
    }

pub names_done : (whole text rest name : List ℕ) (table : List Bool) (f : ℕ) → NamesSoFar whole text rest table → f < 24
    → name ≡ (cut 44 rest).0 → None ≡ (cut 44 rest).1 → Some f ≡ facility_of name → Lists whole text (set table f true)
names_done whole text rest name table f so_far within front back is =
    let cuts = pieces_last 44 rest (sym back) in
    let place : f < length table = rw so_far.size within in
    let named : facility_of (cut 44 rest).0 ≡ Some f = rw (← front) (sym is) in
    let none : facility_faults whole (cut 44 rest).0 ≡ [] = rw named refl in
    record {
      facilities = so_far.found ++ f ∷ [];
      is = so_far.goes_on (f ∷ []) (rw cuts.1 (one (cut 44 rest).0 named));
      right =
          let step : flat_map (facility_faults whole) (pieces 44 rest) ≡ [] = rw (cuts.0, none) refl in
          sym so_far.right ∙ step;
      same = facility_more table so_far.found f place so_far.same;
    }

pub names_fault : (whole text rest name : List ℕ) (table : List Bool) (c : FaultCode) (word : List ℕ) → NamesSoFar whole text rest table
    → name ≡ (cut 44 rest).0 → None ≡ facility_of name → c ≡ (no_name code.Facility whole name).code → word ≡ (no_name code.Facility whole name).word
    → Refuses (flat_map (facility_faults whole) (pieces 44 text)) c word
names_fault whole text rest name table c word so_far front is cs ws =
    let first = first_piece 44 rest in
    let faults : facility_faults whole name ≡ no_name code.Facility whole name ∷ [] = rw (sym is) refl in
    let fault : no_name code.Facility whole name ≡ record { code = c; word = word } = rw (cs, ws) refl in
    let step : flat_map (facility_faults whole) (pieces 44 rest) ≡ record { code = c; word = word } ∷ flat_map (facility_faults whole) first.0 = rw (first.1, ← front, faults, fault) refl in
    (flat_map (facility_faults whole) first.0, sym so_far.right ∙ step)

-- ---- facilities

pub all_facilities : (whole text : List ℕ) (table : List Bool) → bytes_eq text (codes "*") ≡ true → ((f : ℕ) → f < 24 → at table f ≡ true) → ReadsFacilities whole text table
unfolding facilities_faults
all_facilities whole text table e same = record { facilities = all; is = same_text text (codes "*") e; right = rw e refl; same = same }

pub listed_facilities : (whole text : List ℕ) (table : List Bool) → bytes_eq text (codes "*") ≡ false → Lists whole text table → ReadsFacilities whole text table
unfolding facilities_faults
listed_facilities whole text table e l = record { facilities = listed l.facilities; is = l.is; right = rw e l.right; same = l.same }

pub listed_fault : (whole text : List ℕ) (c : FaultCode) (word : List ℕ) → bytes_eq text (codes "*") ≡ false → Refuses (flat_map (facility_faults whole) (pieces 44 text)) c word → Refuses (facilities_faults whole text) c word
unfolding facilities_faults
listed_fault whole text c word e r = (r.0, rw e r.1)

-- ---- parts

pub part_reads : (whole text front behind : List ℕ) (table : List Bool) (takes : Bool) (mask : ℕ) → front ≡ (cut 46 text).0 → Some behind ≡ (cut 46 text).1
    → ReadsFacilities whole front table → ReadsLevel whole behind takes mask → ReadsPart whole text table takes mask
unfolding part_faults
part_reads whole text front behind table takes mask f b rf rl = record {
  part = record { facilities = rf.facilities; level = rl.level };
  is = record { front = front; behind = behind; facilities = rf.is; level = rl.is; whole = let cuts = pieces_more 46 text behind (sym b) in rw (← f) at cuts.1 };
  right = rw (← f, ← b, rf.right, rl.right) refl;
  facilities = rf.same;
  takes_is = rl.takes_is;
  severities = rl.same;
}

pub front_fault : (whole text front : List ℕ) (c : FaultCode) (word : List ℕ) → front ≡ (cut 46 text).0 → Refuses (facilities_faults whole front) c word → Refuses (part_faults whole text) c word
unfolding part_faults
front_fault whole text front c word f r = (r.0 ++ behind_dot whole (cut 46 text).1, rw (← f, r.1) refl)

pub no_dot : (whole text front : List ℕ) (table : List Bool) (c : FaultCode) (word : List ℕ) → front ≡ (cut 46 text).0 → None ≡ (cut 46 text).1 → ReadsFacilities whole front table
    → c ≡ code.Shape → word ≡ whole → Refuses (part_faults whole text) c word
unfolding part_faults
no_dot whole text front table c word f b rf cs ws = ([], rw (← f, ← b, rf.right, cs, ws) refl)

pub level_fault : (whole text front behind : List ℕ) (table : List Bool) (c : FaultCode) (word : List ℕ) → front ≡ (cut 46 text).0 → Some behind ≡ (cut 46 text).1 → ReadsFacilities whole front table
    → Refuses (level_faults whole behind) c word → Refuses (part_faults whole text) c word
unfolding part_faults
level_fault whole text front behind table c word f b rf r = (r.0, rw (← f, ← b, rf.right) r.1)

pub shorter_behind : (mark : ℕ) (text behind : List ℕ) → Some behind ≡ (cut mark text).1 → length behind < length text
shorter_behind mark text behind e =
    let cuts = pieces_more mark text behind (sym e) in
    omega (arith, ap length cuts.1 ∙ length-append (cut mark text).0 (mark ∷ behind))

pub if_ok_then : {T E : Type 0} {P Q : T → Type 0} (r : Result T E) → IfOk r P → ((x : T) → P x → Q x) → IfOk r Q
if_ok_then (Ok x) h f = f x h
if_ok_then (Err e) h f = tt
