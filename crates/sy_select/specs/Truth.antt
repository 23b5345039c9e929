-- The truth of an expression under a valuation of its test occurrences, and what the class of a message admits.
use Rattle.std.specs.Prelude.{◌≡◌, Bool, true, false, not, ◌||◌, ◌&&◌, List, [], ◌∷◌, ◌++◌, length, drop, map, Option, Some, None}
use Rattle.sy_select.specs.declared.verdict.Verdict.{Verdict}
use Rattle.sy_select.specs.declared.verdict.Verdict.TheVariants.{Yes, No, Either}

-- An expression over tests of some type. `Never` and `Always` end the chains.
pub data Formula (T : Type 0) : Type 0 where
  Test : T → Formula T
  Not : Formula T → Formula T
  Or : Formula T → Formula T → Formula T
  And : Formula T → Formula T → Formula T
  Never : Formula T
  Always : Formula T

-- parts joined by `or`, and by `and`
abbrev pub any : {T : Type 0} → List (Formula T) → Formula T
any [] = Formula.Never
any (x ∷ xs) = Formula.Or x (any xs)

abbrev pub all : {T : Type 0} → List (Formula T) → Formula T
all [] = Formula.Always
all (x ∷ xs) = Formula.And x (all xs)

-- the test occurrences from left to right
abbrev pub occurrences : {T : Type 0} → Formula T → List T
occurrences (Formula.Test t) = t ∷ []
occurrences (Formula.Not x) = occurrences x
occurrences (Formula.Or x y) = occurrences x ++ occurrences y
occurrences (Formula.And x y) = occurrences x ++ occurrences y
occurrences Formula.Never = []
occurrences Formula.Always = []

-- A valuation has a truth value for each test occurrence, from left to right.
abbrev pub Valuation : Type 0
Valuation = List Bool

abbrev pub first : Valuation → Bool
first [] = false
first (b ∷ v) = b

-- the values of what stands after these test occurrences
abbrev pub behind : {T : Type 0} → List T → Valuation → Valuation
behind ts v = drop (length ts) v

-- The truth of an expression, whose test occurrences take the first values of a valuation. So several expressions may
-- share one valuation, each taking the values after those of the one before.
abbrev pub truth : {T : Type 0} → Formula T → Valuation → Bool
truth (Formula.Test t) v = first v
truth (Formula.Not x) v = not (truth x v)
truth (Formula.Or x y) v = truth x v || truth y (behind (occurrences x) v)
truth (Formula.And x y) v = truth x v && truth y (behind (occurrences x) v)
truth Formula.Never v = false
truth Formula.Always v = true

-- the valuation that what each test says gives
abbrev pub valuation : {T : Type 0} → (T → Bool) → List T → Valuation
valuation says ts = map says ts

-- a value agrees with what is known
abbrev pub Agrees : Option Bool → Bool → Type 0
Agrees None b = Unit {0}
Agrees (Some a) b = b ≡ a

-- The valuations of these test occurrences that agree with what is known. Each other occurrence is free by itself,
-- also where the same test occurs twice.
abbrev pub Admits : {T : Type 0} → (T → Option Bool) → List T → Valuation → Type 0
Admits known [] [] = Unit {0}
Admits known [] (b ∷ v) = ⊥
Admits known (t ∷ ts) [] = ⊥
Admits known (t ∷ ts) (b ∷ v) = Agrees (known t) b × Admits known ts v

-- some admitted valuation gives the expression this truth value
pub record Can {T : Type 0} (known : T → Option Bool) (x : Formula T) (b : Bool) : Type 0 where
  pub values : Valuation
  pub admitted : Admits known (occurrences x) values
  pub is : truth x values ≡ b

-- every admitted valuation gives it
abbrev pub Must : {T : Type 0} → (T → Option Bool) → Formula T → Bool → Type 0
Must known x b = (v : Valuation) → Admits known (occurrences x) v → truth x v ≡ b

-- the admitted valuations all make the expression true, all false, or differ
abbrev pub IsVerdict : {T : Type 0} → (T → Option Bool) → Formula T → Verdict → Type 0
IsVerdict known x Yes = Must known x true
IsVerdict known x No = Must known x false
IsVerdict known x Either = Can known x true × Can known x false

-- the verdict of `not`
abbrev pub opposite : Verdict → Verdict
opposite Yes = No
opposite No = Yes
opposite Either = Either
