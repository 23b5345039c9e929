-- Which faults the parameters of an object have: each of the list of faults, and none where that is empty.
use Rattle.std.proofs.Common.{◌≡◌, ℕ, inl, inr, Bool, true, false, not, ◌&&◌, if◌then◌else◌, List, [], ◌∷◌, ◌++◌, Option, Some, None, is_some, refl, sym, ap, ◌∙◌, subst, append_assoc, append-nil}
use Rattle.std.specs.Str.{str_eq_ignore_ascii_case}
use Rattle.std.proofs.lemmas.Option.{same_Some}
use Rattle.sy_script.specs.declared.tree.Param.{Param}
use Rattle.sy_rules.specs.declared.fault.FaultCode.TheVariants as code
use Rattle.sy_rules.specs.declared.items.fault.ItemFault.{ItemFault}
use Rattle.sy_rules.specs.declared.parameters.kind.Kind.{Kind}
use Rattle.sy_rules.specs.declared.parameters.kind.Kind.TheVariants as kind
use Rattle.sy_rules.specs.Faults.{fault, fault_of_part, first, when}
use Rattle.sy_rules.specs.items.ItemFaults.{kind_of_object, object_faults}
use Rattle.sy_rules.specs.check.ObjectFaults.{HasOwnFault, HasParameterFault, IsClean, IsWord}
use Rattle.sy_rules.specs.parameters.Objects.{kind_of_action}
use Rattle.sy_rules.specs.items.Outline.{Item}
use Rattle.sy_rules.specs.parameters.Values.{bad_value, doubled, faults, faults_at, faults_of_given, given, has_shape, is_given, is_in_range, is_required, missing, out_of_range, unknown}
use Rattle.sy_rules.specs.parameters.Rows.{Absent, Row, lookup, rows}
use Rattle.sy_rules.proofs.lemmas.check.AmongLaws.{IsAmong, among_by, contained, first_of, first_when, here, move, none_when, there}
use Rattle.sy_rules.proofs.lemmas.parameters.Fits.{no_front, no_back}

-- ---- what is given

abbrev SameName : List ℕ → Param → Type 0
SameName name p = str_eq_ignore_ascii_case name p.name.text ≡ true

given_found : (name : List ℕ) (ps : List Param) → is_given name ps ≡ true → (p : Param) × IsAmong p ps × SameName name p
given_found name [] e = absurd cc
given_found name (p ∷ ps) e = go (str_eq_ignore_ascii_case name p.name.text) refl e (given_found name ps)
  where
    go : (b : Bool) → str_eq_ignore_ascii_case name p.name.text ≡ b → is_some (if b then Some p.value.bytes else given name ps) ≡ true → (is_given name ps ≡ true → (q : Param) × IsAmong q ps × SameName name q) → (q : Param) × IsAmong q (p ∷ ps) × SameName name q
    go true same e later = (p, here p ps, same)
    go false same e later = let r = later e in (r.0, there r.0 p ps r.1, r.2)

given_at : (name : List ℕ) (before after : List Param) (p : Param) → SameName name p → is_given name (before ++ p ∷ after) ≡ true
given_at name [] after p same = rw same refl
given_at name (b ∷ before) after p same = go (str_eq_ignore_ascii_case name b.name.text) (given name (before ++ p ∷ after)) (given_at name before after p same)
  where
    go : (c : Bool) (o : Option (List ℕ)) → is_some o ≡ true → is_some (if c then Some b.value.bytes else o) ≡ true
    go true o e = refl
    go false o e = e

given_of : (name : List ℕ) (ps : List Param) (p : Param) → IsAmong p ps → SameName name p → is_given name ps ≡ true
given_of name ps p a same = ap (is_given name) a.2 ∙ given_at name a.0 a.1 p same

none_of_some : {A : Type 0} (o : Option A) → is_some o ≡ false → o ≡ None
none_of_some None e = refl
none_of_some (Some x) e = absurd cc

not_true : (b : Bool) → not b ≡ true → b ≡ false
not_true true e = absurd cc
not_true false e = refl

both_true : (a b : Bool) → (a && not b) ≡ true → (a ≡ true) × (b ≡ false)
both_true true b e = (refl, not_true b e)
both_true false b e = absurd cc

-- ---- what is found is there

must_be : (a : Absent) → is_required a ≡ true → a ≡ Absent.Required
must_be Absent.Required e = refl
must_be Absent.Nothing e = absurd cc
must_be (Absent.Word word) e = absurd cc
must_be (Absent.Amount n) e = absurd cc
must_be (Absent.Hundredths n) e = absurd cc

record Misses (ps : List Param) (rs : List Row) (f : ItemFault) : Type 0 where
  r : Row
  among : IsAmong r rs
  required : r.absent ≡ Absent.Required
  absent : given r.name ps ≡ None
  is : fault code.Missing r.name ≡ f

misses : (ps : List Param) (rs : List Row) (f : ItemFault) → first (missing rs ps) ≡ Some f → Misses ps rs f
misses ps [] f e = absurd cc
misses ps (r ∷ rs) f e = elim (first_of (when (is_required r.absent && not (is_given r.name ps)) (fault code.Missing r.name)) (missing rs ps) f e) [
  | inl own ↦
      let w = first_when (is_required r.absent && not (is_given r.name ps)) (fault code.Missing r.name) f own in
      let both = both_true (is_required r.absent) (is_given r.name ps) w.0 in
      record { r = r; among = here r rs; required = must_be r.absent both.0; absent = none_of_some (given r.name ps) both.1; is = w.1 }
  | inr rest ↦
      let m = misses ps rs f rest.1 in
      record { r = m.r; among = there m.r r rs m.among; required = m.required; absent = m.absent; is = m.is }
]

module _ (k : Kind) (ps : List Param) where
  found_at : (r : Row) (before later : List Param) (p : Param) (f : ItemFault) → ps ≡ before ++ p ∷ later → lookup (rows k) p.name.text ≡ Some r
      → first (doubled before p ++ (bad_value r.shape p ++ out_of_range r.shape p)) ≡ Some f → HasParameterFault k ps f
  found_at r before later p f split known e = elim (first_of (doubled before p) (bad_value r.shape p ++ out_of_range r.shape p) f e) [
    | inl twice ↦
        let w = first_when (is_given p.name.text before) (fault_of_part p.name.span code.Duplicate p.name.text) f twice in
        let q = given_found p.name.text before w.0 in
        move (HasParameterFault k ps) w.1 (HasParameterFault.twice q.0 p (before, later, split, contained q.0 before q.1) q.2)
    | inr rest ↦ elim (first_of (bad_value r.shape p) (out_of_range r.shape p) f rest.1) [
      | inl bad ↦
          let w = first_when (not (has_shape r.shape p.value.bytes)) (fault_of_part p.name.span code.BadValue p.name.text) f bad in
          move (HasParameterFault k ps) w.1 (HasParameterFault.bad_value p r (contained p ps (before, later, split)) known (not_true (has_shape r.shape p.value.bytes) w.0))
      | inr out ↦
          let w = first_when (has_shape r.shape p.value.bytes && not (is_in_range r.shape p.value.bytes)) (fault_of_part p.name.span code.Range p.name.text) f out.1 in
          let both = both_true (has_shape r.shape p.value.bytes) (is_in_range r.shape p.value.bytes) w.0 in
          move (HasParameterFault k ps) w.1 (HasParameterFault.out_of_range p r (contained p ps (before, later, split)) known both.0 both.1)
    ]
  ]

  there_at : (o : Option Row) (before later : List Param) (p : Param) (f : ItemFault) → ps ≡ before ++ p ∷ later → lookup (rows k) p.name.text ≡ o → first (faults_at o before p) ≡ Some f → HasParameterFault k ps f
  there_at None before later p f split known e = move (HasParameterFault k ps) (same_Some (unknown p) f e) (HasParameterFault.unknown p (contained p ps (before, later, split)) known)
  there_at (Some r) before later p f split known e = found_at r before later p f split known e

  given_there : (before later : List Param) (f : ItemFault) → ps ≡ before ++ later → first (faults_of_given (rows k) before later) ≡ Some f → HasParameterFault k ps f
  given_there before [] f split e = absurd cc
  given_there before (p ∷ later) f split e = elim (first_of (faults_at (lookup (rows k) p.name.text) before p) (faults_of_given (rows k) (before ++ p ∷ []) later) f e) [
    | inl own ↦ there_at (lookup (rows k) p.name.text) before later p f split refl own
    | inr rest ↦ given_there (before ++ p ∷ []) later f (split ∙ sym (append_assoc before (p ∷ []) later)) rest.1
  ]

  parameter_there : (f : ItemFault) → first (faults k ps) ≡ Some f → HasParameterFault k ps f
  unfolding faults
  parameter_there f e = elim (first_of (faults_of_given (rows k) [] ps) (missing (rows k) ps) f e) [
    | inl own ↦ given_there [] ps f refl own
    | inr rest ↦
        let m = misses ps (rows k) f rest.1 in
        move (HasParameterFault k ps) m.is (HasParameterFault.missing m.r (contained m.r (rows k) m.among) m.required m.absent)
  ]

-- ---- where nothing is found, nothing is there

clean_at : (rs : List Row) (front before after : List Param) (p : Param) → faults_of_given rs front (before ++ p ∷ after) ≡ [] → faults_at (lookup rs p.name.text) (front ++ before) p ≡ []
clean_at rs front [] after p e = rw (append-nil front) (no_front (faults_at (lookup rs p.name.text) front p) (faults_of_given rs (front ++ p ∷ []) after) e)
clean_at rs front (b ∷ before) after p e =
    let rest = clean_at rs (front ++ b ∷ []) before after p (no_back (faults_at (lookup rs b.name.text) front b) (faults_of_given rs (front ++ b ∷ []) (before ++ p ∷ after)) e) in
    subst (λ xs. faults_at (lookup rs p.name.text) xs p ≡ []) (append_assoc front (b ∷ []) before) rest

clean_parameter : (rs : List Row) (ps before after : List Param) (p : Param) → ps ≡ before ++ p ∷ after → faults_of_given rs [] ps ≡ [] → faults_at (lookup rs p.name.text) before p ≡ []
clean_parameter rs ps before after p split e = clean_at rs [] before after p (subst (λ xs. faults_of_given rs [] xs ≡ []) split e)

missing_at : (before after : List Row) (r : Row) (ps : List Param) → missing (before ++ r ∷ after) ps ≡ [] → when (is_required r.absent && not (is_given r.name ps)) (fault code.Missing r.name) ≡ []
missing_at [] after r ps e = no_front (when (is_required r.absent && not (is_given r.name ps)) (fault code.Missing r.name)) (missing after ps) e
missing_at (b ∷ before) after r ps e = missing_at before after r ps (no_back (when (is_required b.absent && not (is_given b.name ps)) (fault code.Missing b.name)) (missing (before ++ r ∷ after) ps) e)

twice_refuted : (o : Option Row) (before : List Param) (q : Param) → is_given q.name.text before ≡ true → faults_at o before q ≡ [] → ⊥
twice_refuted None before q there e = absurd cc
twice_refuted (Some r) before q there e =
    none_when (is_given q.name.text before) (fault_of_part q.name.span code.Duplicate q.name.text) (no_front (doubled before q) (bad_value r.shape q ++ out_of_range r.shape q) e) there

given_refuted : (k : Kind) (ps : List Param) (f : ItemFault) → HasParameterFault k ps f → faults_of_given (rows k) [] ps ≡ [] → missing (rows k) ps ≡ [] → ⊥
given_refuted k ps f (HasParameterFault.missing r contains required absent) e m =
    let among = among_by r (rows k) contains in
    let bad = missing_at among.0 among.1 r ps (subst (λ rs. missing rs ps ≡ []) among.2 m) in
    none_when (is_required r.absent && not (is_given r.name ps)) (fault code.Missing r.name) bad (rw (required, absent) refl)
given_refuted k ps f (HasParameterFault.twice p q before same) e m =
    twice_refuted (lookup (rows k) q.name.text) before.0 q (given_of q.name.text before.0 p (among_by p before.0 before.3) same) (clean_parameter (rows k) ps before.0 before.1 q before.2 e)
given_refuted k ps f (HasParameterFault.unknown p contains none) e m =
    let among = among_by p ps contains in
    let bad : unknown p ∷ [] ≡ [] = rw none at (clean_parameter (rows k) ps among.0 among.1 p among.2 e) in
    absurd cc
given_refuted k ps f (HasParameterFault.bad_value p r contains known wrong) e m =
    let among = among_by p ps contains in
    let clean : doubled among.0 p ++ (bad_value r.shape p ++ out_of_range r.shape p) ≡ [] = rw known at (clean_parameter (rows k) ps among.0 among.1 p among.2 e) in
    let bad = no_front (bad_value r.shape p) (out_of_range r.shape p) (no_back (doubled among.0 p) (bad_value r.shape p ++ out_of_range r.shape p) clean) in
    none_when (not (has_shape r.shape p.value.bytes)) (fault_of_part p.name.span code.BadValue p.name.text) bad (rw wrong refl)
given_refuted k ps f (HasParameterFault.out_of_range p r contains known right out) e m =
    let among = among_by p ps contains in
    let clean : doubled among.0 p ++ (bad_value r.shape p ++ out_of_range r.shape p) ≡ [] = rw known at (clean_parameter (rows k) ps among.0 among.1 p among.2 e) in
    let bad = no_back (bad_value r.shape p) (out_of_range r.shape p) (no_back (doubled among.0 p) (bad_value r.shape p ++ out_of_range r.shape p) clean) in
    none_when (has_shape r.shape p.value.bytes && not (is_in_range r.shape p.value.bytes)) (fault_of_part p.name.span code.Range p.name.text) bad (rw (right, out) refl)

parameter_refuted : (k : Kind) (ps : List Param) (f : ItemFault) → HasParameterFault k ps f → faults k ps ≡ [] → ⊥
unfolding faults
parameter_refuted k ps f is e = given_refuted k ps f is (no_front (faults_of_given (rows k) [] ps) (missing (rows k) ps) e) (no_back (faults_of_given (rows k) [] ps) (missing (rows k) ps) e)

-- ---- words

pub word_is_a_name : (k : Kind) (ps : List Param) (f : ItemFault) → HasParameterFault k ps f → IsWord k ps f
word_is_a_name k ps f (HasParameterFault.missing r contains required absent) = inl (refl, r, contains, required, refl, refl)
word_is_a_name k ps f (HasParameterFault.twice p q before same) = inr (q, contained q ps (before.0, before.1, before.2), refl, refl)
word_is_a_name k ps f (HasParameterFault.unknown p contains none) = inr (p, contains, refl, refl)
word_is_a_name k ps f (HasParameterFault.bad_value p r contains known wrong) = inr (p, contains, refl, refl)
word_is_a_name k ps f (HasParameterFault.out_of_range p r contains known right out) = inr (p, contains, refl, refl)

-- ---- items

pub own_there : (x : Item) (f : ItemFault) → first (object_faults x) ≡ Some f → HasOwnFault x f
own_there (Item.Object found ps) f e = parameter_there (kind_of_object found) ps f e
own_there (Item.Ruleset ps) f e = parameter_there kind.Ruleset ps f e
own_there (Item.Action ps) f e = parameter_there (kind_of_action ps) ps f e
own_there (Item.Call name) f e = absurd cc
own_there (Item.Test test) f e = absurd cc

pub own_refuted : (x : Item) (f : ItemFault) → HasOwnFault x f → object_faults x ≡ [] → ⊥
own_refuted (Item.Object found ps) f is e = parameter_refuted (kind_of_object found) ps f is e
own_refuted (Item.Ruleset ps) f is e = parameter_refuted kind.Ruleset ps f is e
own_refuted (Item.Action ps) f is e = parameter_refuted (kind_of_action ps) ps f is e
own_refuted (Item.Call name) f is e = absurd is
own_refuted (Item.Test test) f is e = absurd is

pub no_own_fault : (x : Item) → object_faults x ≡ [] → IsClean x
no_own_fault x e f is = own_refuted x f is e
