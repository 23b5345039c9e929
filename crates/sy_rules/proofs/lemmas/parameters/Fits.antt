-- Where nothing is wrong with an object, each value of a known parameter has its shape and is in its range.
use Rattle.std.proofs.Common.{◌≡◌, ℕ, Bool, true, false, cond, not, ◌&&◌, List, [], ◌∷◌, ◌++◌, Option, Some, None, refl, ap}
use Rattle.std.specs.Str.{str_eq_ignore_ascii_case, str_to_ascii_lowercase, bytes_eq}
use Rattle.std.proofs.lemmas.Option.{same_Some}
use Rattle.std.proofs.lemmas.Slice.Eq.{bytes_eq-Decides}
use Rattle.sy_script.specs.declared.tree.Param.{Param}
use Rattle.sy_rules.specs.declared.fault.FaultCode.TheVariants as code
use Rattle.sy_rules.specs.declared.items.fault.ItemFault.{ItemFault}
use Rattle.sy_rules.specs.declared.parameters.kind.Kind.{Kind}
use Rattle.sy_rules.specs.Faults.{fault, when}
use Rattle.sy_rules.specs.parameters.Values.{given, is_given, is_required, has_shape, is_in_range, doubled, bad_value, out_of_range, faults_at, faults_of_given, missing, faults}
use Rattle.sy_rules.specs.parameters.Rows.{Shape, Row, rows, lookup}

pub record IsFit (shape : Shape) (value : List ℕ) : Type 0 where
  pub has : has_shape shape value ≡ true
  pub within : is_in_range shape value ≡ true

-- ---- nothing is wrong

pub no_front : {A : Type 0} (xs ys : List A) → xs ++ ys ≡ [] → xs ≡ []
no_front [] ys e = refl
no_front (x ∷ xs) ys e = cc

pub no_back : {A : Type 0} (xs ys : List A) → xs ++ ys ≡ [] → ys ≡ []
no_back [] ys e = e
no_back (x ∷ xs) ys e = cc

holds : (b : Bool) (f : ItemFault) → when (not b) f ≡ [] → b ≡ true
holds true f e = refl
holds false f e = cc

holds_too : (a b : Bool) (f : ItemFault) → a ≡ true → when (a && not b) f ≡ [] → b ≡ true
holds_too true true f h e = refl
holds_too true false f h e = cc
holds_too false b f h e = cc

-- ---- one name, however its letters are written

same_row : (rs : List Row) (a b : List ℕ) → str_to_ascii_lowercase a ≡ str_to_ascii_lowercase b → lookup rs a ≡ lookup rs b
same_row [] a b e = refl
same_row (r ∷ rs) a b e =
    let rest = same_row rs a b e in
    let here : str_eq_ignore_ascii_case r.name a ≡ str_eq_ignore_ascii_case r.name b = ap (bytes_eq (str_to_ascii_lowercase r.name)) e in
    rw (here, rest) refl

same_letters : (a b : List ℕ) → str_eq_ignore_ascii_case a b ≡ true → str_to_ascii_lowercase a ≡ str_to_ascii_lowercase b
same_letters a b e = (bytes_eq-Decides (str_to_ascii_lowercase a) (str_to_ascii_lowercase b)).0 e

-- ---- values

fit_here : (found : Option Row) (before : List Param) (p : Param) (r : Row) → faults_at found before p ≡ [] → found ≡ Some r → IsFit r.shape p.value.bytes
fit_here None before p r clean known = cc
fit_here (Some s) before p r clean known =
    let same : s ≡ r = same_Some s r known in
    let values = no_back (doubled before p) (bad_value s.shape p ++ out_of_range s.shape p) clean in
    let shaped = holds (has_shape s.shape p.value.bytes) _ (no_front (bad_value s.shape p) (out_of_range s.shape p) values) in
    let ranged = holds_too (has_shape s.shape p.value.bytes) (is_in_range s.shape p.value.bytes) _ shaped (no_back (bad_value s.shape p) (out_of_range s.shape p) values) in
    record { has = rw (← same) shaped; within = rw (← same) ranged }

either : {A P : Type 0} (same : Bool) (x value : A) (other : Option A) → cond same (Some x) other ≡ Some value → (same ≡ true → x ≡ value → P) → (other ≡ Some value → P) → P
either true x value other e here there = here refl (same_Some x value e)
either false x value other e here there = there e

pub fit_given : (rs : List Row) (before ps : List Param) → faults_of_given rs before ps ≡ [] → (name value : List ℕ) (r : Row) → given name ps ≡ Some value → lookup rs name ≡ Some r → IsFit r.shape value
fit_given rs before [] clean name value r found known = cc
fit_given rs before (p ∷ ps) clean name value r found known =
    either (str_eq_ignore_ascii_case name p.name.text) p.value.bytes value (given name ps) found
    (λ e is.
    let row : lookup rs p.name.text ≡ Some r = rw (← same_row rs name p.name.text (same_letters name p.name.text e)) known in
    rw (← is) (fit_here (lookup rs p.name.text) before p r (no_front (faults_at (lookup rs p.name.text) before p) (faults_of_given rs (before ++ p ∷ []) ps) clean) row))
    (λ later. fit_given rs (before ++ p ∷ []) ps (no_back (faults_at (lookup rs p.name.text) before p) (faults_of_given rs (before ++ p ∷ []) ps) clean) name value r later known)

-- what is given to a parameter of the table is fit
pub fit : (k : Kind) (ps : List Param) → faults k ps ≡ [] → (name value : List ℕ) (r : Row) → given name ps ≡ Some value → lookup (rows k) name ≡ Some r → IsFit r.shape value
unfolding faults
fit k ps clean name value r found known =
    fit_given (rows k) [] ps (no_front (faults_of_given (rows k) [] ps) (missing (rows k) ps) clean) name value r found known

-- ---- what must be given

given_in : (rs : List Row) (ps : List Param) → missing rs ps ≡ [] → (name : List ℕ) (r : Row) → lookup rs name ≡ Some r → is_required r.absent ≡ true → is_given r.name ps ≡ true
given_in [] ps clean name r known must = cc
given_in (x ∷ rs) ps clean name r known must =
    either (str_eq_ignore_ascii_case x.name name) x r (lookup rs name) known
    (λ e is.
    let here = no_front (when (is_required x.absent && not (is_given x.name ps)) (fault code.Missing x.name)) (missing rs ps) clean in
    rw (← is) (holds_too (is_required x.absent) (is_given x.name ps) _ (rw is must) here))
    (λ later. given_in rs ps (no_back (when (is_required x.absent && not (is_given x.name ps)) (fault code.Missing x.name)) (missing rs ps) clean) name r later must)

-- a parameter that must be given is given, where nothing is wrong
pub given_if_required : (k : Kind) (ps : List Param) → faults k ps ≡ [] → (name : List ℕ) (r : Row) → lookup (rows k) name ≡ Some r → is_required r.absent ≡ true → is_given r.name ps ≡ true
unfolding faults
given_if_required k ps clean name r known must =
    given_in (rows k) ps (no_back (faults_of_given (rows k) [] ps) (missing (rows k) ps) clean) name r known must
