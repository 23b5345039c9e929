-- The two sets of a walk by verdicts over numbered tables are may and must.
use Rattle.std.proofs.Common.{◌≡◌, ℕ, suc, Bool, ◌||◌, List, Option, refl, sym, ap, arith}
use Rattle.sy_wire.specs.declared.class.Class.{Class}
use Rattle.sy_select.specs.declared.condition.Test.{Test}
use Rattle.sy_select.specs.declared.verdict.Verdict.{Verdict}
use Rattle.sy_select.specs.declared.verdict.Verdict.TheVariants.{Yes, No, Either}
use Rattle.sy_select.specs.Properties.{known}
use Rattle.sy_select.specs.Truth.{Formula}
use Rattle.sy_select.specs.internal.Walk.{verdict}
use Rattle.sy_select.proofs.Verdicts.{verdict_is}
use Rattle.sy_rules.specs.Limits.{CALL_DEPTH}
use Rattle.sy_rules.specs.declared.lists.statement.Statement.{Statement}
use Rattle.sy_rules.specs.internal.Flow.{may_of, must_of, may_flow, must_flow}
use Rattle.sy_rules.specs.internal.FlowWalk.{flow_of_list, judged, may_take, must_take}
use Rattle.sy_rules.specs.lists.Lines.{body_of}
use Rattle.sy_rules.specs.lists.Body.{Body, Walk}
use Rattle.sy_rules.specs.lists.Sets.{Bits}
use Rattle.sy_rules.specs.internal.Tables.{lines_of_tables, AreTables}
use Rattle.sy_rules.specs.lists.Work.{May, Must}
use Rattle.sy_rules.proofs.lemmas.lists.MayMust.{may_is, must_is}
use Rattle.sy_rules.proofs.lemmas.lists.Sets.{bits-append, shown, shown_bits}
use Rattle.sy_rules.proofs.lemmas.lists.TableRuns.{list_runs}

shown_may : (v : Verdict) (a b : Walk) → may_take v (shown a) (shown b) ≡ shown (may_of v a b)
shown_may Yes a b = refl
shown_may No a b = refl
shown_may Either a b = ap (λ (s : ℕ). record { set = s; goes_on = a.goes_on || b.goes_on }) (sym (bits-append a.executed b.executed))

shown_must : (v : Verdict) (a b : Walk) → must_take v (shown a) (shown b) ≡ shown (must_of v a b)
shown_must Yes a b = refl
shown_must No a b = refl
shown_must Either a b = refl

module _ (tests : List (Formula Test)) (tables : List (List Statement)) (class : Class) (l : ℕ) (are : AreTables tests tables) where
  abbrev text : Body
  text = body_of (lines_of_tables tests tables) l

  abbrev k : Test → Option Bool
  k = known class

  pub may_set : Bits (May text class) (flow_of_list class tests tables (suc CALL_DEPTH) l 0).may.set
  may_set =
      let few = are.few l in
      shown_bits (May text class) (may_flow (verdict k) text 0) (flow_of_list class tests tables (suc CALL_DEPTH) l 0).may
      (list_runs tests (λ t. may_take (judged class tests t)) (λ x. may_of (verdict k x)) (λ t. shown_may (judged class tests t)) tables are CALL_DEPTH l 0 (omega arith) (are.not_deeper l) (omega arith))
      (may_is class (verdict k) (verdict_is k) text)

  pub must_set : Bits (Must text class) (flow_of_list class tests tables (suc CALL_DEPTH) l 0).must.set
  must_set =
      let few = are.few l in
      shown_bits (Must text class) (must_flow (verdict k) text 0) (flow_of_list class tests tables (suc CALL_DEPTH) l 0).must
      (list_runs tests (λ t. must_take (judged class tests t)) (λ x. must_of (verdict k x)) (λ t. shown_must (judged class tests t)) tables are CALL_DEPTH l 0 (omega arith) (are.not_deeper l) (omega arith))
      (must_is class (verdict k) (verdict_is k) text)
