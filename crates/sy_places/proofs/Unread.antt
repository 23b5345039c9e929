-- Which file couldn't be read.
use Rattle.std.proofs.Common.{◌≡◌, ℕ, zero, suc, List, [], ◌∷◌, ◌++◌, refl, sym, subst, arith}
use Rattle.std.specs.List.{Any}
use Rattle.sy_report.specs.declared.outcome.halt.Halt.{Halt}
use Rattle.sy_report.specs.declared.outcome.halt.Halt.TheVariants as halt
use Rattle.sy_places.specs.Halts.{IsUnread}

-- ---- one of several

module _ {A : Type 0} (P : A → Type 0) where
  pub any_behind : (x : A) (xs : List A) → Any P xs → Any P (x ∷ xs)
  any_behind x xs (k, y, low, is, p) = (suc k, y, omega (arith, low), is, p)

  pub any_here : (x : A) (xs : List A) → P x → Any P (x ∷ xs)
  any_here x xs p = (0, x, omega arith, refl, p)

  any_within : (before : List A) (x : A) (later : List A) → P x → Any P (before ++ x ∷ later)
  any_within [] x later p = any_here x later p
  any_within (y ∷ before) x later p = any_behind y (before ++ x ∷ later) (any_within before x later p)

  only_one : (x : A) → Any P (x ∷ []) → P x
  only_one x (zero, y, low, is, p) = subst P (sym is) p
  only_one x (suc k, y, low, is, p) = absurd (omega (arith, low))

  pub any_first : (x : A) (xs : List A) → Any P (x ∷ []) → Any P (x ∷ xs)
  any_first x xs one = any_within [] x xs (only_one x one)

  -- of two lists that begin with the same
  pub any_between : (x y : A) (xs : List A) → Any P (x ∷ xs) → Any P (x ∷ y ∷ xs)
  any_between x y xs (zero, z, low, is, p) = (zero, z, omega arith, is, p)
  any_between x y xs (suc k, z, low, is, p) = (suc (suc k), z, omega (arith, low), is, p)

-- ---- files

module _ (MayFail : List ℕ → Type 0) where
  pub unread_on : (names others : List (List ℕ)) → (Any MayFail names → Any MayFail others) → (why : Halt) → IsUnread MayFail names why
      → IsUnread MayFail others why
  unread_on names others on (halt.Site fault) h = tt
  unread_on names others on (halt.Certificate fault) h = tt
  unread_on names others on (halt.Line n) h = tt
  unread_on names others on (halt.Illegal n) h = tt
  unread_on names others on (halt.TotalsFull n) h = tt
  unread_on names others on halt.NoMemory h = tt
  unread_on names others on halt.ReadFailed h = on h
  unread_on names others on halt.WriteFailed h = absurd h

  -- what is no matter of a file
  pub unread_no_file : (names : List (List ℕ)) (why : Halt) → IsUnread (λ _. ⊥) [] why → IsUnread MayFail names why
  unread_no_file names (halt.Site fault) h = tt
  unread_no_file names (halt.Certificate fault) h = tt
  unread_no_file names (halt.Line n) h = tt
  unread_no_file names (halt.Illegal n) h = tt
  unread_no_file names (halt.TotalsFull n) h = tt
  unread_no_file names halt.NoMemory h = tt
  unread_no_file names halt.ReadFailed (k, name, low, is, h) = absurd h
  unread_no_file names halt.WriteFailed h = absurd h

  -- one of these files
  pub unread_within : (name other : List ℕ) (before later names : List (List ℕ)) → name ≡ other → names ≡ before ++ other ∷ later → (why : Halt)
      → IsUnread MayFail (name ∷ []) why → IsUnread MayFail names why
  unread_within name other before later names same is why h =
      unread_on (name ∷ []) names (λ fails. subst (Any MayFail) (sym is)
      (any_within MayFail before other later (subst MayFail same (only_one MayFail name fails)))) why h

  pub unread_first : (name : List ℕ) (names : List (List ℕ)) (why : Halt) → IsUnread MayFail (name ∷ []) why → IsUnread MayFail (name ∷ names) why
  unread_first name names why h = unread_on (name ∷ []) (name ∷ names) (any_first MayFail name names) why h

  pub unread_behind : (name : List ℕ) (names : List (List ℕ)) (why : Halt) → IsUnread MayFail names why → IsUnread MayFail (name ∷ names) why
  unread_behind name names why h = unread_on names (name ∷ names) (any_behind MayFail name names) why h

  pub unread_between : (first second : List ℕ) (names : List (List ℕ)) (why : Halt) → IsUnread MayFail (first ∷ names) why
      → IsUnread MayFail (first ∷ second ∷ names) why
  unread_between first second names why h =
      unread_on (first ∷ names) (first ∷ second ∷ names) (any_between MayFail first second names) why h

  -- what is read behind a site: one of its files may fail, or another
  pub unread_any : (first second : List ℕ) (names : List (List ℕ)) (why : Halt) → IsUnread MayFail (first ∷ names) why → why ≡ halt.ReadFailed
      → Any MayFail (first ∷ second ∷ names)
  unread_any first second names why h is = any_between MayFail first second names (subst (IsUnread MayFail (first ∷ names)) is h)
