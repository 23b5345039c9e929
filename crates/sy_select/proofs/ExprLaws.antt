-- The laws of expressions.
use Rattle.std.proofs.Common.{◌≡◌, inl, inr, ◌<◌, ◌+◌, ℕ, Bool, true, false, not, nat_eq, List, [], ◌∷◌, ◌++◌, Option, Some, None, length, map, drop, take, refl, sym, ap, ◌∙◌, arith}
use Rattle.std.specs.Prelude.{◌↔◌}
use Rattle.std.specs.List.{starts_with}
use Rattle.std.proofs.lemmas.Bool.{false≢true}
use Rattle.std.proofs.lemmas.Bool.Decides.{nat_tests}
use Rattle.std.proofs.lemmas.List.{take-append-drop, length-append}
use Rattle.std.proofs.lemmas.List.{drop_at}
use Rattle.sy_wire.specs.declared.class.Class.{Class}
use Rattle.sy_wire.specs.Messages.{Said}
use Rattle.sy_select.specs.declared.condition.Relation.{Relation}
use Rattle.sy_select.specs.declared.condition.Relation.TheVariants as relation
use Rattle.sy_select.specs.declared.condition.ClassTest.TheVariants as decided
use Rattle.sy_select.specs.declared.condition.Test.{Test}
use Rattle.sy_select.specs.declared.condition.Test.TheVariants as test
use Rattle.sy_select.specs.declared.property.Part.{Part}
use Rattle.sy_select.specs.declared.property.Part.TheVariants as part
use Rattle.sy_select.specs.declared.property.Property.{Property}
use Rattle.sy_select.specs.declared.verdict.Verdict.{Verdict}
use Rattle.sy_select.specs.declared.verdict.Verdict.TheVariants.{Yes, No, Either}
use Rattle.sy_script.specs.declared.tree.Comparison.{Comparison}
use Rattle.sy_script.specs.declared.tree.Span.{Span}
use Rattle.sy_select.specs.declared.fault.FaultCode.{FaultCode}
use Rattle.sy_select.specs.internal.Reading.{Refuses}
use Rattle.sy_select.specs.Selectors as selectors
use Rattle.sy_select.specs.Faults.{IsFirst, IsRefusal, at_place, faults, faults_at, no_memory}
use Rattle.sy_select.specs.declared.fault.SelectFault.{SelectFault}
use Rattle.sy_select.specs.Properties.{contains, kept, known, part_number, property_of, relates, says, test_by}
use Rattle.sy_select.specs.Trees.{Written, all_faults, property_faults, test_faults, IsTest, Means, Selects}
use Rattle.sy_select.specs.Truth.{Formula, Valuation, Agrees, Admits, Can, Must, IsVerdict, occurrences, opposite, truth, valuation}
use Rattle.sy_select.proofs.GrammarLaws.{no_faults}
use Rattle.sy_select.proofs.Contains.{begins, begun, contains_at, found}

-- ---- verdicts

module _ (m : Said) where
  agrees : (t : Test) → Agrees (known m.class t) (says m t)
  agrees (test.Field f how other) = tt
  agrees (test.Class t) = refl

  pub admitted : (ts : List Test) → Admits (known m.class) ts (valuation (says m) ts)
  admitted [] = tt
  admitted (t ∷ ts) = (agrees t, admitted ts)

  pub holds_for_all : (x : Formula Test) (b : Bool) → Must (known m.class) x b → truth x (valuation (says m) (occurrences x)) ≡ b
  holds_for_all x b must = must (valuation (says m) (occurrences x)) (admitted (occurrences x))

module _ {T : Type 0} (k : T → Option Bool) where
  value_of : Option Bool → Bool
  value_of None = false
  value_of (Some b) = b

  agreeing : (o : Option Bool) → (b : Bool) × Agrees o b
  agreeing None = (false, tt)
  agreeing (Some b) = (b, refl)

  -- some valuation is admitted
  pub some_valuation : (ts : List T) → (v : Valuation) × Admits k ts v
  some_valuation [] = ([], tt)
  some_valuation (t ∷ ts) = let a = agreeing (k t) in let later = some_valuation ts in (a.0 ∷ later.0, (a.1, later.1))

  clash : (x : Formula T) → Must k x true → Must k x false → ⊥
  clash x p q = let v = some_valuation (occurrences x) in false≢true (sym (q v.0 v.1) ∙ p v.0 v.1)

  clash_true : (x : Formula T) → Can k x true → Must k x false → ⊥
  clash_true x can q = false≢true (sym (q can.values can.admitted) ∙ can.is)

  clash_false : (x : Formula T) → Must k x true → Can k x false → ⊥
  clash_false x p can = false≢true (sym can.is ∙ p can.values can.admitted)

  pub same_verdict : (x : Formula T) (a b : Verdict) → IsVerdict k x a → IsVerdict k x b → a ≡ b
  same_verdict x Yes Yes p q = refl
  same_verdict x Yes No p q = absurd (clash x p q)
  same_verdict x Yes Either p q = absurd (clash_false x p q.1)
  same_verdict x No Yes p q = absurd (clash x q p)
  same_verdict x No No p q = refl
  same_verdict x No Either p q = absurd (clash_true x q.0 p)
  same_verdict x Either Yes p q = absurd (clash_false x q p.1)
  same_verdict x Either No p q = absurd (clash_true x p.0 q)
  same_verdict x Either Either p q = refl

  must_not : (x : Formula T) (b : Bool) → Must k x b → Must k (Formula.Not x) (not b)
  must_not x b must v h = ap not (must v h)

  can_not : (x : Formula T) (b : Bool) → Can k x b → Can k (Formula.Not x) (not b)
  can_not x b can = record { values = can.values; admitted = can.admitted; is = ap not can.is }

  pub opposite_of_not : (x : Formula T) (v : Verdict) → IsVerdict k x v → IsVerdict k (Formula.Not x) (opposite v)
  opposite_of_not x Yes h = must_not x true h
  opposite_of_not x No h = must_not x false h
  opposite_of_not x Either h = (can_not x false h.1, can_not x true h.0)

-- ---- numbers

same_relation : (r : Relation) (x n : ℕ) → x < 24 → relates r x (kept n) ≡ relates r x n
same_relation relation.Equal x n small = grind (arith, nat_tests)
same_relation relation.NotEqual x n small = grind (arith, nat_tests)
same_relation relation.Less x n small = grind (arith, nat_tests)
same_relation relation.AtMost x n small = grind (arith, nat_tests)
same_relation relation.Greater x n small = grind (arith, nat_tests)
same_relation relation.AtLeast x n small = grind (arith, nat_tests)

pub as_numbers : (p : Part) (r : Relation) (class : Class) (n : ℕ) → relates r (part_number p class) (kept n) ≡ relates r (part_number p class) n
as_numbers part.Facility r class n = same_relation r class.facility n class.facility_in_range
as_numbers part.Severity r class n = same_relation r class.severity n (omega (arith, class.severity_in_range))

-- ---- texts

pub contains_parts : (text other : List ℕ) → (contains text other ≡ true) ↔ ((before : List ℕ) × (after : List ℕ) × (text ≡ before ++ (other ++ after)))
contains_parts text other = (
  λ h. let f = found text other h in (take f.at text, f.rest, sym (take-append-drop f.at text) ∙ ap (λ r. take f.at text ++ r) f.is),
  λ p.
      let long : length text ≡ length p.0 + length (other ++ p.1) = ap length p.2 ∙ length-append p.0 (other ++ p.1) in
      contains_at (length p.0) text other p.1 (omega arith) (ap (drop (length p.0)) p.2 ∙ drop_at p.0 (other ++ p.1) (length p.0) refl),
)

pub starts_parts : (text other : List ℕ) → (starts_with nat_eq text other ≡ true) ↔ ((after : List ℕ) × (text ≡ other ++ after))
starts_parts text other = (λ h. (drop (length other) text, begun text other h), λ p. begins text other p.0 p.1)

pub empty_parts : (text : List ℕ) → (contains text [] ≡ true) × (starts_with nat_eq text [] ≡ true)
empty_parts text = (contains_at 0 text [] text (omega arith) refl, begins text [] text refl)

-- ---- faults

none_in : (c : Comparison) (p : Option Property) (t : Test) → test_by p c ≡ Some t → property_faults c p ≡ []
none_in c None t is = absurd cc
none_in c (Some p) t is = rw is refl

-- a selector has no fault at any place
pub none_at : (span : Span) (text : List ℕ) (parts : List selectors.Part) → selectors.IsSelector text parts → faults_at span text ≡ []
none_at span text parts is = ap (map (at_place span)) (no_faults text parts is)

no_fault_selected : (span : Span) (text : List ℕ) (t : Test) → Selects text t → faults_at span text ≡ []
no_fault_selected span text (test.Class (decided.Selected set)) is = none_at span text is.parts is.is_selector
no_fault_selected span text _ is = absurd is

no_fault_in : (w : Written) (t : Test) → IsTest w t → test_faults w ≡ []
no_fault_in (Written.compared c) t is = none_in c (property_of c.property.text) t is
no_fault_in (Written.selected text) t is = no_fault_selected text.span text.bytes t is

pub no_fault : (w : Formula Written) (x : Formula Test) → Means w x → all_faults w ≡ []
no_fault (Formula.Test w) (Formula.Test t) h = no_fault_in w t h
no_fault (Formula.Not w) (Formula.Not x) h = no_fault w x h
no_fault (Formula.Or w u) (Formula.Or x y) h = ap (λ fs. fs ++ all_faults u) (no_fault w x h.0) ∙ no_fault u y h.1
no_fault (Formula.And w u) (Formula.And x y) h = ap (λ fs. fs ++ all_faults u) (no_fault w x h.0) ∙ no_fault u y h.1
no_fault Formula.Never Formula.Never h = refl
no_fault Formula.Always Formula.Always h = refl
no_fault _ _ h = absurd h

pub for_memory : (found : List SelectFault) (fault : SelectFault) → found ≡ [] → IsRefusal found fault → fault ≡ no_memory
for_memory found fault none (inl memory) = memory
for_memory found fault none (inr first) = let e = first.1 in absurd cc

-- the first of one fault and of none after it
same_first : (a b : SelectFault) (later : List SelectFault) → a ∷ [] ≡ b ∷ later → a ≡ b
same_first a b later e = cc

-- the answer for the first fault is one for all of them
pub refused_for : (found : List SelectFault) (fault answer : SelectFault) → IsFirst found fault → IsRefusal (fault ∷ []) answer → IsRefusal found answer
refused_for found fault answer first (inl memory) = inl memory
refused_for found fault answer first (inr one) = inr (first.0, first.1 ∙ ap (λ f. f ∷ first.0) (same_first fault answer one.0 one.1))

-- the first flaw of a text is its first fault, at the text's place
pub first_at : (span : Span) (text : List ℕ) (c : FaultCode) (word : List ℕ) → Refuses (faults text) c word → IsFirst (faults_at span text) (record { code = c; word = word; span = span })
first_at span text c word first = (map (at_place span) first.0, ap (map (at_place span)) first.1)
