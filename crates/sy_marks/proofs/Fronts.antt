-- Entries taken from the front: one more, all that there are, and the three parts into which they fall.
use Rattle.std.proofs.Common.{◌≡◌, ℕ, ◌+◌, ◌-◌, ◌<◌, ◌≤◌, Bool, true, false, not, cond, ◌&&◌, min, ◌==◌, nat_le, List, [], ◌∷◌, length, filter, take, drop, refl, sym, ap, arith, leb-true, leb-false, le-leb, true≢false}
use Rattle.sy_chain.specs.Entries.{Entry}
use Rattle.sy_marks.specs.Marks.{is_reached, is_lost, is_kept, front_where, lost_of, finished_of, kept_of}
use Rattle.sy_marks.specs.declared.marks.Marks.{Marks}

module _ (test : Entry → ℕ → Bool) (e : Entry) (es : List Entry) where
  pub front_next : (n : ℕ) (xs : List Entry) → 0 < n → xs ≡ e ∷ es → test e (length es) ≡ true → front_where test n xs ≡ e ∷ front_where test (n - 1) es
  front_next ℕ.zero xs l is t = absurd (omega arith)
  front_next (ℕ.suc n) xs l is t = let m : ℕ.suc n - 1 ≡ n = omega arith in rw (m, is, t) refl

  pub front_skip : (n : ℕ) (xs : List Entry) → 0 < n → xs ≡ e ∷ es → test e (length es) ≡ false → front_where test n xs ≡ front_where test (n - 1) es
  front_skip ℕ.zero xs l is t = absurd (omega arith)
  front_skip (ℕ.suc n) xs l is t = let m : ℕ.suc n - 1 ≡ n = omega arith in rw (m, is, t) refl

module _ (e : Entry) (es : List Entry) where
  pub drop_next : (n : ℕ) (xs : List Entry) → 0 < n → xs ≡ e ∷ es → drop n xs ≡ drop (n - 1) es
  drop_next ℕ.zero xs l is = absurd (omega arith)
  drop_next (ℕ.suc n) xs l is = let m : ℕ.suc n - 1 ≡ n = omega arith in rw (m, is) refl

-- no more are taken than there are
pub front_all : (test : Entry → ℕ → Bool) (n : ℕ) (es : List Entry) → length es ≤ n → front_where test (length es) es ≡ front_where test n es
front_all test ℕ.zero [] l = refl
front_all test (ℕ.suc n) [] l = refl
front_all test ℕ.zero (e ∷ es) l = absurd (omega arith)
front_all test (ℕ.suc n) (e ∷ es) l = ap (λ (rest : List Entry). cond (test e (length es)) (e ∷ rest) rest) (front_all test n es (omega arith))

front_min : (test : Entry → ℕ → Bool) (k n : ℕ) (es : List Entry) → k ≡ min n (length es) → front_where test k es ≡ front_where test n es
front_min test k n es is = go (nat_le (length es) n) refl
  where
    go : (b : Bool) → nat_le (length es) n ≡ b → front_where test k es ≡ front_where test n es
    go true l = let all : k ≡ length es = omega (arith, is, leb-true (length es) n l) in rw all (front_all test n es (leb-true (length es) n l))
    go false l = let few : k ≡ n = omega (arith, is, leb-false (length es) n l) in rw few refl

pub kept_min : (marks : Marks) (k n : ℕ) (es : List Entry) → k ≡ min n (length es) → kept_of marks k es ≡ kept_of marks n es
kept_min marks = front_min (is_kept marks)

pub lost_min : (marks : Marks) (k n : ℕ) (es : List Entry) → k ≡ min n (length es) → lost_of marks k es ≡ lost_of marks n es
lost_min marks = front_min (is_lost marks)

-- a mark that is reached where fewer wait is reached
pub reached_before : (mark k n : ℕ) → k ≤ n → is_reached mark k ≡ true → is_reached mark n ≡ true
reached_before mark k n l h = go (nat_le 1 mark) (nat_le mark k) refl h
  where
    go : (b c : Bool) → nat_le mark k ≡ c → (b && c) ≡ true → (b && nat_le mark n) ≡ true
    go true true c h = le-leb mark n (omega (arith, leb-true mark k c))
    go true false c h = absurd (true≢false (sym h))
    go false c e h = h

-- an entry that isn't lost is kept where something is due for it
pub kept_if_due : (marks : Marks) (e : Entry) (n : ℕ) → is_lost marks e n ≡ false → not (e.due == 0) ≡ true → is_kept marks e n ≡ true
kept_if_due marks e n here due = rw (here, due) refl

pub finished_if_idle : (marks : Marks) (e : Entry) (n : ℕ) → is_lost marks e n ≡ false → not (e.due == 0) ≡ false → is_kept marks e n ≡ false
finished_if_idle marks e n here idle = rw (here, idle) refl

-- ---- the three parts

module _ (marks : Marks) (kind : Entry → Bool) where
  abbrev number : List Entry → ℕ
  number es = length (filter kind es)

  one_more : (e : Entry) (es : List Entry) → number (e ∷ es) ≡ cond (kind e) 1 0 + number es
  one_more e es = go (kind e)
    where
      go : (b : Bool) → length (cond b (e ∷ filter kind es) (filter kind es)) ≡ cond b 1 0 + length (filter kind es)
      go true = omega arith
      go false = omega arith

  one_of_three : (lost idle : Bool) (e : Entry) (all kept gone done : List Entry) → number all ≡ number kept + number gone + number done
      → number (e ∷ all) ≡ number (cond (not lost && not idle) (e ∷ kept) kept) + number (cond lost (e ∷ gone) gone) + number (cond (not lost && idle) (e ∷ done) done)
  one_of_three true idle e all kept gone done h = omega (arith, h, one_more e all, one_more e gone)
  one_of_three false true e all kept gone done h = omega (arith, h, one_more e all, one_more e done)
  one_of_three false false e all kept gone done h = omega (arith, h, one_more e all, one_more e kept)

  pub parted : (n : ℕ) (es : List Entry) → number (take n es) ≡ number (kept_of marks n es) + number (lost_of marks n es) + number (finished_of marks n es)
  parted ℕ.zero es = refl
  parted (ℕ.suc n) [] = refl
  parted (ℕ.suc n) (e ∷ es) = one_of_three (is_lost marks e (length es)) (e.due == 0) e (take n es) (kept_of marks n es) (lost_of marks n es) (finished_of marks n es) (parted n es)
