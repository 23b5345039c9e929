-- Where a name is found in rows one after another.
use Rattle.std.proofs.Common.{◌≡◌, ℕ, Bool, true, false, cond, List, [], ◌∷◌, ◌++◌, Option, Some, None, refl, append_assoc}
use Rattle.std.specs.Str.{str_eq_ignore_ascii_case}
use Rattle.sy_script.specs.declared.tree.Param.{Param}
use Rattle.sy_rules.specs.declared.items.fault.ItemFault.{ItemFault}
use Rattle.sy_rules.specs.Faults.{first}
use Rattle.sy_rules.specs.parameters.Values.{missing}
use Rattle.sy_rules.specs.parameters.Rows.{Row, lookup}

-- the first of two, where there is one
abbrev pub or_else : {A : Type 0} → Option A → Option A → Option A
or_else (Some a) o = Some a
or_else None o = o

choose : (b : Bool) (r : Row) (x y : Option Row) → cond b (Some r) (or_else x y) ≡ or_else (cond b (Some r) x) y
choose true r x y = refl
choose false r x y = refl

pub lookup-append : (xs ys : List Row) (name : List ℕ) → lookup (xs ++ ys) name ≡ or_else (lookup xs name) (lookup ys name)
lookup-append [] ys name = refl
lookup-append (x ∷ xs) ys name = rw (lookup-append xs ys name) (choose (str_eq_ignore_ascii_case x.name name) x (lookup xs name) (lookup ys name))

-- ---- the first fault of lists one after another

pub first-append : (xs ys : List ItemFault) → first (xs ++ ys) ≡ or_else (first xs) (first ys)
first-append [] ys = refl
first-append (x ∷ xs) ys = refl

missing_list-append : (xs ys : List Row) (ps : List Param) → missing (xs ++ ys) ps ≡ missing xs ps ++ missing ys ps
missing_list-append [] ys ps = refl
missing_list-append (x ∷ xs) ys ps = rw (missing_list-append xs ys ps, append_assoc) refl

pub missing-append : (xs ys : List Row) (ps : List Param) → first (missing (xs ++ ys) ps) ≡ or_else (first (missing xs ps)) (first (missing ys ps))
missing-append xs ys ps = rw (missing_list-append xs ys ps) (first-append (missing xs ps) (missing ys ps))
