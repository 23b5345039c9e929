-- A board before the first message.
use Rattle.std.proofs.Common.{◌≡◌, ℕ, ◌*◌, ◌≤◌, List, [], ◌∷◌, length, refl, sym, ap, ◌∙◌, arith, All, get_or, map, option_to_list, replicate, None, Option, Some}
use Rattle.std.specs.Prelude.{IfSome}
use Rattle.sy_chain.specs.Entries.{Entry}
use Rattle.sy_marks.specs.Marks.{QueueState}
use Rattle.sy_rules.specs.declared.parameters.settings.QueueParameters.{QueueParameters}
use Rattle.sy_rules.specs.PlanValue.{Plan}
use Rattle.sy_rules.specs.Whole.{IsWhole}
use Rattle.sy_board.specs.internal.Counting as counting
use Rattle.sy_board.specs.internal.Kept.{IsOrderly, LARGEST_BATCH, empty_queue}
use Rattle.sy_board.specs.relay.Boards.{account_of, guard_of, opened}
use Rattle.sy_board.specs.relay.Cells.{opening}
use Rattle.sy_board.specs.relay.Guards.{MayGuard}
use Rattle.sy_board.specs.relay.Patience.{IsPatient}
use Rattle.sy_board.specs.relay.Plans.{marks_of}
use Rattle.sy_board.specs.relay.Totals.{GuardState, total}
use Rattle.sy_board.proofs.relay.AccountLaws.{opens}
use Rattle.sy_board.proofs.relay.Guards.{guarding_start, unasked}

read : {A : Type 0} (n k : ℕ) (x : A) → get_or (replicate n x) k x ≡ x
read ℕ.zero k x = refl
read (ℕ.suc n) ℕ.zero x = refl
read (ℕ.suc n) (ℕ.suc k) x = read n k x

short : (n : ℕ) → All (λ (entries : List Entry). length entries ≤ LARGEST_BATCH) (replicate n [])
short ℕ.zero k d l = absurd (omega arith)
short (ℕ.suc n) ℕ.zero d l = omega arith
short (ℕ.suc n) (ℕ.suc k) d l = short n k d (omega (arith, l))

none : (n : ℕ) → total (length {A = Entry}) (replicate n []) ≡ 0
none ℕ.zero = refl
none (ℕ.suc n) = let e = none n in omega (arith, e)

abbrev free : Option Entry
free = None

pub free_hands : (n : ℕ) → map option_to_list (replicate n free) ≡ replicate n []
free_hands ℕ.zero = refl
free_hands (ℕ.suc n) = ap (λ z. [] ∷ z) (free_hands n)

pub empty_entries : (ps : List QueueParameters) → map (λ (q : QueueState). q.entries) (map empty_queue ps) ≡ replicate (length ps) []
empty_entries [] = refl
empty_entries (p ∷ ps) = ap (λ z. [] ∷ z) (empty_entries ps)

pub empty_marks : (ps : List QueueParameters) → map (λ (q : QueueState). q.marks) (map empty_queue ps) ≡ map marks_of ps
empty_marks [] = refl
empty_marks (p ∷ ps) = ap (λ z. marks_of p ∷ z) (empty_marks ps)

pub opened_account : (plan : Plan) (guard : Option GuardState) → counting.nothing (length plan.actions) ≡ account_of (opened plan guard)
opened_account plan guard = rw (none (64 * length plan.inputs), none (length plan.queues)) refl

pub opening_patient : (plan : Plan) → IsPatient plan (opening plan)
opening_patient plan = record {
  idle = λ w e. read (length plan.workers) w 0;
  runs = λ w a r job again. (let e = sym (read (length plan.workers) w []) ∙ job.held in absurd (cc));
}

-- without a guard nothing is asked
may_open : (plan : Plan) (guard : Option GuardState) → IfSome guard (MayGuard plan) → MayGuard plan (guard_of (opened plan guard))
may_open plan None asked = unasked plan []
may_open plan (Some found) asked = asked

pub opened_orderly : (plan : Plan) (guard : Option GuardState) → IsWhole plan → IfSome guard (MayGuard plan) → IsOrderly (opened plan guard) (account_of (opened plan guard))
opened_orderly plan guard whole asked = record {
  whole = whole;
  shaped = (opens plan).0;
  laws = (opens plan).1;
  counted = refl;
  batches = short (length plan.workers);
  patient = opening_patient plan;
  may = may_open plan guard asked;
  guarding = guarding_start plan (guard_of (opened plan guard));
  unlost = refl;
}
