-- What each class executes of a list, looked up.
use Rattle.std.proofs.Common.{◌≡◌, ℕ, zero, suc, ◌+◌, ◌<◌, List, [], ◌∷◌, ◌++◌, Option, Some, None, bit_or, drop, length, inl, inr, refl, sym, ap, ◌∙◌, subst, arith}
use Rattle.std.specs.Prelude.{IfSome, slice_get}
use Rattle.std.specs.Int.{bit_at}
use Rattle.std.specs.Int.Bits.{or_zero_l}
use Rattle.std.proofs.lemmas.Bool.{cases_eq}
use Rattle.std.proofs.lemmas.List.{length-append}
use Rattle.std.proofs.lemmas.Option.{slice_get_within}
use Rattle.sy_wire.specs.declared.class.Class.{Class}
use Rattle.sy_wire.specs.Messages.{Said}
use Rattle.sy_select.specs.declared.condition.Test.{Test}
use Rattle.sy_select.specs.declared.verdict.Verdict.{Verdict}
use Rattle.sy_select.specs.declared.verdict.Verdict.TheVariants.{Yes, No, Either}
use Rattle.sy_select.specs.Properties.{known, says}
use Rattle.sy_select.specs.Truth.{Formula}
use Rattle.sy_select.specs.internal.Walk.{holds, verdict}
use Rattle.sy_rules.specs.declared.lists.class_flows.ClassFlow.{ClassFlow}
use Rattle.sy_rules.specs.declared.lists.class_flows.ClassFlows.{ClassFlows}
use Rattle.sy_rules.specs.declared.lists.decided.Head.{Head}
use Rattle.sy_rules.specs.declared.lists.statement.Statement.{Statement}
use Rattle.sy_rules.specs.declared.lists.walk.Reached.{Reached}
use Rattle.sy_rules.specs.internal.ClassFlows.{AreColumns, AreFlows, AreMet, AreRows, HasAlike, IsFlow, IsHead, IsMet, IsRow, column_in, in_row, met_statements}
use Rattle.sy_rules.specs.internal.FlowWalk.{judged}
use Rattle.sy_rules.specs.internal.TableWalk.{meets, work_of_list}
use Rattle.sy_rules.specs.internal.Tables.{AreTables, lines_of_tables, table_at, test_of}
use Rattle.sy_rules.specs.lists.Body.{Body}
use Rattle.sy_rules.specs.lists.Lines.{body_of}
use Rattle.sy_rules.specs.lists.Sets.{Bits}
use Rattle.sy_rules.specs.lists.Work.{Due, May, Must}
use Rattle.sy_rules.proofs.lemmas.lists.ClassVerdicts.{met_for_class, unmet_for_class}
use Rattle.sy_rules.proofs.lemmas.lists.Decided.{list_is_statements}
use Rattle.sy_rules.proofs.lemmas.lists.FlowRuns.{may_set, must_set}
use Rattle.sy_rules.proofs.lemmas.lists.TableRuns.{work_set}
use Rattle.sy_rules.proofs.lemmas.lists.WorkLaws.{must_work, work_may}

-- ---- lists that grow at their end

front_same : {A : Type 0} (xs ys : List A) (k : ℕ) → k < length xs → slice_get (xs ++ ys) k ≡ slice_get xs k
front_same [] ys k low = absurd (omega (arith, low))
front_same (x ∷ xs) ys zero low = refl
front_same (x ∷ xs) ys (suc k) low = front_same xs ys k (omega (arith, low))

last_is : {A : Type 0} (xs : List A) (x : A) → slice_get (xs ++ x ∷ []) (length xs) ≡ Some x
last_is [] x = refl
last_is (y ∷ xs) x = last_is xs x

pub some_same : {A : Type 0} (x y : A) → Some x ≡ Some y → x ≡ y
some_same x y e = cc

-- what holds of each element, by its number, and of one more
pub each_more : {A : Type 0} (P : ℕ → A → Type 0) (xs : List A) (x : A) → ((k : ℕ) (y : A) → slice_get xs k ≡ Some y → P k y) → P (length xs) x
    → (k : ℕ) (y : A) → slice_get (xs ++ x ∷ []) k ≡ Some y → P k y
each_more P xs x each last k y at =
    let long = length-append xs (x ∷ []) in
    let within = slice_get_within (xs ++ x ∷ []) k y at in
    elim (cases_eq k (length xs)) [
      | inl end ↦
          let is : x ≡ y = some_same x y (sym (last_is xs x) ∙ sym (ap (slice_get (xs ++ x ∷ [])) end) ∙ at) in
          subst (λ j. P j y) (sym end) (subst (P (length xs)) is last)
      | inr apart ↦ each k y (sym (front_same xs (x ∷ []) k (omega (arith, long, within, apart))) ∙ at)
    ]

-- ---- rows

module _ (tests : List (Formula Test)) (tables : List (List Statement)) where
  pub row_more : (list : ℕ) (classes : List Class) (class : Class) (row : List ClassFlow) (flow : ClassFlow) → slice_get classes (length row) ≡ Some class
      → IsFlow (judged class tests) tables list flow → IsRow tests tables list classes row → IsRow tests tables list classes (row ++ flow ∷ [])
  row_more list classes class row flow at is rows column other one =
      let P : ℕ → ClassFlow → Type 0 = λ k f. (c : Class) → slice_get classes k ≡ Some c → IsFlow (judged c tests) tables list f in
      λ here of. each_more P row flow (λ k f e c g. rows k f c e g)
      (λ c e. subst (λ (k : Class). IsFlow (judged k tests) tables list flow) (some_same class c (sym at ∙ e)) is) column other here one of

  -- the same where the places have other names
  pub row_pushed : (list n : ℕ) (classes : List Class) (class : Class) (row new : List ClassFlow) (flow : ClassFlow) → length row ≡ n → slice_get classes n ≡ Some class
      → IsFlow (judged class tests) tables list flow → IsRow tests tables list classes row → new ≡ row ++ flow ∷ [] → (length new ≡ n + 1) × IsRow tests tables list classes new
  row_pushed list n classes class row new flow size at is rows same =
      let long = length-append row (flow ∷ []) in
      let at_length : slice_get classes (length row) ≡ Some class = ap (slice_get classes) size ∙ at in (
        ap length same ∙ omega (arith, long, size),
        subst (IsRow tests tables list classes) (sym same) (row_more list classes class row flow at_length is rows),
      )

  pub no_row : (list : ℕ) (classes : List Class) → IsRow tests tables list classes []
  no_row list classes column flow one e of = cc

  pub rows_more : (classes : List Class) (rows : List (List ClassFlow)) (row : List ClassFlow) → AreRows tests tables classes rows → IsRow tests tables (length rows) classes row → AreRows tests tables classes (rows ++ row ∷ [])
  rows_more classes rows row so_far last = each_more (λ list r. IsRow tests tables list classes r) rows row so_far last

  pub rows_pushed : (classes : List Class) (n : ℕ) (rows new : List (List ClassFlow)) (row : List ClassFlow) → length rows ≡ n → AreRows tests tables classes rows → IsRow tests tables n classes row
      → new ≡ rows ++ row ∷ [] → (length new ≡ n + 1) × AreRows tests tables classes new
  rows_pushed classes n rows new row size so_far is same =
      let long = length-append rows (row ∷ []) in (
        ap length same ∙ omega (arith, long, size),
        subst (AreRows tests tables classes) (sym same) (rows_more classes rows row so_far (subst (λ k. IsRow tests tables k classes row) (sym size) is)),
      )

  -- a class has the flow of the class of its column
  pub flows_by_rows : (flows : ClassFlows) → AreColumns tests flows.columns → AreRows tests tables flows.columns.classes.items flows.rows.items → AreFlows tests tables flows
  flows_by_rows flows columns rows list class = by_row (slice_get flows.rows.items list) refl
    where
      column : ℕ
      column = column_in flows.columns.of_class class

      here : HasAlike tests flows.columns.classes.items column class
      here = columns class

      by_flow : (row : List ClassFlow) → slice_get flows.rows.items list ≡ Some row → (found : Option ClassFlow) → slice_get row column ≡ found
          → IfSome found (IsFlow (judged class tests) tables list)
      by_flow row at None e = tt
      by_flow row at (Some flow) e =
          let same : judged here.one tests ≡ judged class tests = λ i test. here.alike test i in
          subst (λ judge. IsFlow judge tables list flow) same (rows list row at column flow here.one e here.there)

      by_row : (row : Option (List ClassFlow)) → slice_get flows.rows.items list ≡ row → IfSome (in_row row column) (IsFlow (judged class tests) tables list)
      by_row None e = tt
      by_row (Some row) e = by_flow row e (slice_get row column) refl

-- ---- heads

-- nothing stands before the whole table
pub empty_head : (judge : ℕ → Verdict) (tables : List (List Statement)) (table : List Statement) → IsHead judge tables table (record { size = 0; executed = 0 })
empty_head judge tables table met are =
    let rest = met_statements met tables 16 table 0 in
    ap (λ (s : ℕ). let r : Reached = record { set = s; goes_on = rest.goes_on } in r) (sym (or_zero_l rest.set))

-- ---- messages and their classes

goes_with : (x : Formula Test) (m : Said) (v : Verdict) → v ≡ verdict (known m.class) x → IsMet v (holds (says m) x)
goes_with x m Yes e = sym (met_for_class x m Yes e refl)
goes_with x m No e = sym (unmet_for_class x m No e refl)
goes_with x m Either e = tt

-- each test's outcome goes with what the message's class says of it
pub message_meets : (tests : List (Formula Test)) (m : Said) → AreMet (judged m.class tests) (meets (says m) tests)
message_meets tests m test = goes_with (test_of tests test) m (judged m.class tests test) refl

module _ (tests : List (Formula Test)) (tables : List (List Statement)) (list : ℕ) (are : AreTables tests tables) where
  abbrev text : Body
  text = body_of (lines_of_tables tests tables) list

  pub flow_sets : (class : Class) (flow : ClassFlow) → IsFlow (judged class tests) tables list flow → Bits (May text class) flow.may × Bits (Must text class) flow.must
  flow_sets class flow is = (
    subst (Bits (May text class)) (sym is.may) (may_set tests tables class list are),
    subst (Bits (Must text class)) (sym is.must) (must_set tests tables class list are),
  )

  -- where may and must are the same, each message of the class executes just that
  pub due_between : (m : Said) (class : Class) (flow : ClassFlow) → class ≡ m.class → IsFlow (judged class tests) tables list flow → flow.may ≡ flow.must → Bits (Due text m) flow.must
  due_between m class flow of_it is same k =
      let sets = flow_sets class flow is in (
        λ set. must_work text m class k (sym of_it) ((sets.1 k).0 set),
        λ due. ap (λ s. bit_at s k) (sym same) ∙ (sets.0 k).1 (work_may text m class k (sym of_it) due),
      )

  -- what the head executes, and what the walk of the rest does
  pub due_by_head : (m : Said) (head : Head) (rest : Reached) → IsHead (judged m.class tests) tables (table_at tables list) head
      → rest ≡ met_statements (meets (says m) tests) tables 16 (drop head.size (table_at tables list)) 0 → Bits (Due text m) (bit_or head.executed rest.set)
  due_by_head m head rest is of_it =
      let met = meets (says m) tests in
      let whole = list_is_statements met tables 17 list 0 (table_at tables list) (λ e. absurd (omega (arith, e))) refl ∙ is met (message_meets tests m) in
      let set : (work_of_list (says m) tests tables 17 list 0).set ≡ bit_or head.executed rest.set =
      ap (λ r. r.set) whole ∙ ap (λ (r : Reached). bit_or head.executed r.set) (sym of_it) in
      subst (Bits (Due text m)) set (work_set tests tables m list are)
