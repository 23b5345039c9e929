-- A part applied to the severity sets.
use Rattle.std.proofs.Common.{◌≡◌, ◌≢◌, ℕ, ◌<◌, ◌≤◌, ◌+◌, ◌^◌, Bool, true, false, not, ◌&&◌, if◌then◌else◌, inl, inr, List, length, map, get_or, refl, ap, ◌∙◌, arith, get_or-set_other, get_or-set_same, slice_index}
use Rattle.std.proofs.Math.ListN.{get_or-map, length-set, set}
use Rattle.std.proofs.lemmas.Bool.{cases_eq}
use Rattle.sy_select.specs.declared.severities.Severities.{Severities}
use Rattle.sy_select.specs.internal.Masks.{has_bit}
use Rattle.sy_select.specs.internal.Reading.{at}
use Rattle.sy_select.specs.Selectors.{holds}

abbrev pub bits_at : List Severities → ℕ → ℕ
bits_at sets f = (get_or sets f (record { 0 = 0 })).0

-- one bit, where the part speaks of the facility or not
abbrev pub changed : Bool → Bool → ℕ → ℕ → ℕ → Bool
changed named takes mask old s = if named && has_bit mask s then not takes else has_bit old s

-- The facilities below n are done.
pub record AppliedSoFar (n : ℕ) (table : List Bool) (takes : Bool) (mask : ℕ) (old new : List Severities) : Type 0 where
  pub size : length new ≡ 24
  pub small : (f : ℕ) → bits_at old f < 2 ^ 8 → bits_at new f < 2 ^ 8
  pub done : (f s : ℕ) → f < n → s < 8 → has_bit (bits_at new f) s ≡ changed (at table f) takes mask (bits_at old f) s
  pub left : (f : ℕ) → n ≤ f → bits_at new f ≡ bits_at old f

pub applied_start : (table : List Bool) (takes : Bool) (mask : ℕ) (sets : List Severities) → length sets ≡ 24 → AppliedSoFar 0 table takes mask sets sets
applied_start table takes mask sets size = record { size = size; small = λ f h. h; done = λ f s below within. absurd (omega arith); left = λ f above. refl }

pub not_named : (n : ℕ) (table : List Bool) (takes : Bool) (mask : ℕ) (old new : List Severities) → AppliedSoFar n table takes mask old new → at table n ≡ false → AppliedSoFar (n + 1) table takes mask old new
not_named n table takes mask old new so_far e = record {
  size = so_far.size;
  small = so_far.small;
  done = λ f s below within. elim (cases_eq f n) [
    | inl same ↦ rw (same, e, so_far.left n (omega arith)) refl
    | inr other ↦ so_far.done f s (omega arith) within
  ];
  left = λ f above. so_far.left f (omega arith);
}

pub is_named : (n : ℕ) (table : List Bool) (takes : Bool) (mask : ℕ) (old new : List Severities) (x : Severities) → AppliedSoFar n table takes mask old new → n < 24 → at table n ≡ true
    → ((s : ℕ) → s < 8 → has_bit x.0 s ≡ (if has_bit mask s then not takes else has_bit (bits_at new n) s)) → (bits_at new n < 2 ^ 8 → x.0 < 2 ^ 8) → AppliedSoFar (n + 1) table takes mask old (set new n x)
is_named n table takes mask old new x so_far place e h keeps = record {
  size = length-set new n x ∙ so_far.size;
  small = λ f small. elim (cases_eq f n) [
    | inl same ↦
        let there : n < length new = rw so_far.size place in
        let here : bits_at (set new n x) n ≡ x.0 = ap (λ y. y.0) (get_or-set_same new n x (record { 0 = 0 }) there) in
        rw (same, here) (keeps (so_far.small n (rw same at small)))
    | inr other ↦
        let there : bits_at (set new n x) f ≡ bits_at new f = ap (λ y. y.0) (get_or-set_other new n f x (record { 0 = 0 }) other) in
        rw there (so_far.small f small)
  ];
  done = λ f s below within. elim (cases_eq f n) [
    | inl same ↦
        let there : n < length new = rw so_far.size place in
        let here : bits_at (set new n x) n ≡ x.0 = ap (λ y. y.0) (get_or-set_same new n x (record { 0 = 0 }) there) in
        rw (same, e, here, h s within, so_far.left n (omega arith)) refl
    | inr other ↦
        let there : bits_at (set new n x) f ≡ bits_at new f = ap (λ y. y.0) (get_or-set_other new n f x (record { 0 = 0 }) other) in
        rw there (so_far.done f s (omega arith) within)
  ];
  left = λ f above.
      let other : f ≢ n = omega arith in
      let there : bits_at (set new n x) f ≡ bits_at new f = ap (λ y. y.0) (get_or-set_other new n f x (record { 0 = 0 }) other) in
      rw there (so_far.left f (omega arith));
}

pub masks_at : (sets : List Severities) (f s : ℕ) → holds (map (λ x. x.0) sets) f s ≡ has_bit (bits_at sets f) s
masks_at sets f s = rw (get_or-map (λ x. x.0) sets f (record { 0 = 0 })) refl

pub applied : (table : List Bool) (takes : Bool) (mask n : ℕ) (old new : List Severities) → AppliedSoFar n table takes mask old new → 24 ≤ n
    → (f s : ℕ) → f < 24 → s < 8 → holds (map (λ x. x.0) new) f s ≡ (if at table f && has_bit mask s then not takes else holds (map (λ x. x.0) old) f s)
applied table takes mask n old new so_far all f s p q = rw (masks_at new f s, masks_at old f s) (so_far.done f s (omega arith) q)

pub masks_are : (sets : List Severities) (f : ℕ) → slice_index (map (λ x. x.0) sets) f ≡ bits_at sets f
masks_are sets f = get_or-map (λ x. x.0) sets f (record { 0 = 0 })

pub applied_small : (table : List Bool) (takes : Bool) (mask n : ℕ) (old new : List Severities) → AppliedSoFar n table takes mask old new
    → (f : ℕ) → f < 24 → slice_index (map (λ x. x.0) old) f < 2 ^ 8 → slice_index (map (λ x. x.0) new) f < 2 ^ 8
applied_small table takes mask n old new so_far f within h = rw (masks_are new f) (so_far.small f (rw (masks_are old f) at h))
