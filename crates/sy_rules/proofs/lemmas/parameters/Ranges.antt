-- The numbers of a queue are in their ranges, where nothing is wrong with its object.
use Rattle.std.proofs.Common.{◌≡◌, ℕ, ◌*◌, ◌/◌, ◌≤◌, Bool, true, false, nat_le, ◌&&◌, ◌||◌, List, [], Option, Some, None, refl, codes, arith, unwrap_or, option_and_then, is_some}
use Rattle.std.proofs.lemmas.Bool.{leb-true}
use Rattle.std.proofs.lemmas.Nat.{mul-le}
use Rattle.sy_script.specs.declared.tree.Param.{Param}
use Rattle.sy_rules.specs.declared.parameters.kind.Kind.{Kind}
use Rattle.sy_rules.specs.declared.parameters.kind.Kind.TheVariants as kind
use Rattle.sy_rules.specs.parameters.Objects.{absent_number, default_number, number_of, is_word, size_of, queue_parameters, AreInRange}
use Rattle.sy_rules.specs.internal.Objects.{takes_queue, is_action}
use Rattle.sy_rules.specs.parameters.Values.{decimal_value, given, is_minus_one, is_in_range, is_within, faults}
use Rattle.sy_rules.specs.parameters.Rows.{Shape, Absent, row, rows, lookup, own_rows, destination_rows, queue_head_rows, queue_rest_rows, most}
use Rattle.sy_rules.proofs.lemmas.parameters.Fits.{IsFit, fit, given_if_required}

-- a number between these
pub record IsBetween (lowest highest n : ℕ) : Type 0 where
  pub least : lowest ≤ n
  pub greatest : n ≤ highest

both : (a b : Bool) → (a && b) ≡ true → (a ≡ true) × (b ≡ true)
both true true e = (refl, refl)
both true false e = cc
both false b e = cc

between : (lowest highest : ℕ) (n : Option ℕ) (default : ℕ) → is_within lowest highest n ≡ true → IsBetween lowest highest (unwrap_or n default)
between lowest highest None default e = cc
between lowest highest (Some n) default e =
    let parts = both (nat_le lowest n) (nat_le n highest) e in
    record { least = leb-true lowest n parts.0; greatest = leb-true n highest parts.1 }

within_shape : (lowest highest : ℕ) (value : List ℕ) → IsFit (Shape.Number lowest highest) value → is_within lowest highest (decimal_value value) ≡ true
unfolding is_in_range
within_shape lowest highest value fits = fits.within

by_value : (k : Kind) (ps : List Param) → faults k ps ≡ [] → (name : List ℕ) (lowest highest : ℕ) (absent : Absent) → lookup (rows k) name ≡ Some (row name (Shape.Number lowest highest) absent) → (default : ℕ) → IsBetween lowest highest default → (value : Option (List ℕ)) → given name ps ≡ value → IsBetween lowest highest (unwrap_or (option_and_then decimal_value value) default)
by_value k ps clean name lowest highest absent known default fits None found = fits
by_value k ps clean name lowest highest absent known default fits (Some value) found =
    between lowest highest (decimal_value value) default (within_shape lowest highest value (fit k ps clean name value _ found known))

-- a number as given, or its default where that is in range
pub in_range : (k : Kind) (ps : List Param) → faults k ps ≡ [] → (size : ℕ) (name : List ℕ) (lowest highest : ℕ) (absent : Absent) → lookup (rows k) name ≡ Some (row name (Shape.Number lowest highest) absent) → IsBetween lowest highest (absent_number size absent) → IsBetween lowest highest (number_of k ps size name)
unfolding number_of
in_range k ps clean size name lowest highest absent known fits =
    by_value k ps clean name lowest highest absent known (default_number size (lookup (rows k) name)) (rw known fits) (given name ps) refl

-- ---- the rows of a kind that may have a queue

pub record HasQueueRows (k : Kind) : Type 0 where
  pub size_default : ℕ
  pub size_fits : IsBetween 1 1000000 size_default
  pub batch_default : ℕ
  pub batch_fits : IsBetween 1 65536 batch_default
  pub size : lookup (rows k) (codes "queue.size") ≡ Some (row (codes "queue.size") (Shape.Number 1 1000000) (Absent.Amount size_default))
  pub batch : lookup (rows k) (codes "queue.dequeueBatchSize") ≡ Some (row (codes "queue.dequeueBatchSize") (Shape.Number 1 65536) (Absent.Amount batch_default))
  pub full_delay_mark : lookup (rows k) (codes "queue.fullDelayMark") ≡ Some (row (codes "queue.fullDelayMark") (Shape.Number 0 1000000) (Absent.Hundredths 97))
  pub light_delay_mark : lookup (rows k) (codes "queue.lightDelayMark") ≡ Some (row (codes "queue.lightDelayMark") (Shape.Number 0 1000000) (Absent.Hundredths 70))
  pub discard_mark : lookup (rows k) (codes "queue.discardMark") ≡ Some (row (codes "queue.discardMark") (Shape.Number 0 1000000) (Absent.Hundredths 80))
  pub discard_severity : lookup (rows k) (codes "queue.discardSeverity") ≡ Some (row (codes "queue.discardSeverity") (Shape.Number 0 8) (Absent.Amount 8))
  pub timeout_enqueue : lookup (rows k) (codes "queue.timeoutEnqueue") ≡ Some (row (codes "queue.timeoutEnqueue") (Shape.Number 0 most) (Absent.Amount 2000))
  pub workers : lookup (rows k) (codes "queue.workerThreads") ≡ Some (row (codes "queue.workerThreads") (Shape.Number 1 64) (Absent.Amount 1))

pub queue_rows_of : (k : Kind) → takes_queue k ≡ true → HasQueueRows k
unfolding own_rows destination_rows queue_head_rows queue_rest_rows
queue_rows_of kind.MainQueue takes = record { size_default = 50000; size_fits = record { least = omega arith; greatest = omega arith }; batch_default = 1024; batch_fits = record { least = omega arith; greatest = omega arith }; size = refl; batch = refl; full_delay_mark = refl; light_delay_mark = refl; discard_mark = refl; discard_severity = refl; timeout_enqueue = refl; workers = refl }
queue_rows_of kind.Ruleset takes = record { size_default = 50000; size_fits = record { least = omega arith; greatest = omega arith }; batch_default = 1024; batch_fits = record { least = omega arith; greatest = omega arith }; size = refl; batch = refl; full_delay_mark = refl; light_delay_mark = refl; discard_mark = refl; discard_severity = refl; timeout_enqueue = refl; workers = refl }
queue_rows_of kind.Action takes = record { size_default = 1000; size_fits = record { least = omega arith; greatest = omega arith }; batch_default = 128; batch_fits = record { least = omega arith; greatest = omega arith }; size = refl; batch = refl; full_delay_mark = refl; light_delay_mark = refl; discard_mark = refl; discard_severity = refl; timeout_enqueue = refl; workers = refl }
queue_rows_of kind.Archive takes = record { size_default = 1000; size_fits = record { least = omega arith; greatest = omega arith }; batch_default = 128; batch_fits = record { least = omega arith; greatest = omega arith }; size = refl; batch = refl; full_delay_mark = refl; light_delay_mark = refl; discard_mark = refl; discard_severity = refl; timeout_enqueue = refl; workers = refl }
queue_rows_of kind.Forward takes = record { size_default = 1000; size_fits = record { least = omega arith; greatest = omega arith }; batch_default = 128; batch_fits = record { least = omega arith; greatest = omega arith }; size = refl; batch = refl; full_delay_mark = refl; light_delay_mark = refl; discard_mark = refl; discard_severity = refl; timeout_enqueue = refl; workers = refl }
queue_rows_of kind.Module takes = cc
queue_rows_of kind.Global takes = cc
queue_rows_of kind.Input takes = cc

hundredths : (size n : ℕ) → n ≤ 100 → size ≤ 1000000 → IsBetween 0 1000000 (size * n / 100)
hundredths size n few small =
    let le : size * n ≤ 1000000 * 100 = mul-le size n 1000000 100 small few in
    record { least = omega arith; greatest = omega (arith, le) }

pub queue_in_range : (k : Kind) (ps : List Param) → takes_queue k ≡ true → faults k ps ≡ [] → AreInRange (queue_parameters k ps)
unfolding queue_parameters
queue_in_range k ps takes clean =
    let r = queue_rows_of k takes in
    let size = in_range k ps clean 0 _ _ _ _ r.size r.size_fits in
    let s = size_of k ps in
    let batch = in_range k ps clean s _ _ _ _ r.batch r.batch_fits in
    let full = in_range k ps clean s _ _ _ _ r.full_delay_mark (hundredths s 97 (omega arith) size.greatest) in
    let light = in_range k ps clean s _ _ _ _ r.light_delay_mark (hundredths s 70 (omega arith) size.greatest) in
    let discard = in_range k ps clean s _ _ _ _ r.discard_mark (hundredths s 80 (omega arith) size.greatest) in
    let severity = in_range k ps clean s _ _ _ _ r.discard_severity (record { least = omega arith; greatest = omega arith }) in
    let timeout = in_range k ps clean s _ _ _ _ r.timeout_enqueue (record { least = omega arith; greatest = omega arith }) in
    let workers = in_range k ps clean s _ _ _ _ r.workers (record { least = omega arith; greatest = omega arith }) in
    record {
      size_least = size.least;
      size_most = size.greatest;
      batch_least = batch.least;
      batch_most = batch.greatest;
      full_delay_mark = full.greatest;
      light_delay_mark = light.greatest;
      discard_mark = discard.greatest;
      discard_severity = severity.greatest;
      timeout_enqueue = timeout.greatest;
      workers_least = workers.least;
      workers_most = workers.greatest;
    }

-- ---- ports

port_row : lookup (rows kind.Input) (codes "port") ≡ Some (row (codes "port") (Shape.Number 1 65535) Absent.Required)
unfolding own_rows destination_rows queue_head_rows queue_rest_rows
port_row = refl

of_given : (k : Kind) (ps : List Param) → faults k ps ≡ [] → (name : List ℕ) (lowest highest : ℕ) (absent : Absent) → lookup (rows k) name ≡ Some (row name (Shape.Number lowest highest) absent) → (default : ℕ) → (value : Option (List ℕ)) → given name ps ≡ value → is_some value ≡ true → IsBetween lowest highest (unwrap_or (option_and_then decimal_value value) default)
of_given k ps clean name lowest highest absent known default None found there = cc
of_given k ps clean name lowest highest absent known default (Some value) found there =
    between lowest highest (decimal_value value) default (within_shape lowest highest value (fit k ps clean name value _ found known))

-- a number that must be given
required : (k : Kind) (ps : List Param) → faults k ps ≡ [] → (size : ℕ) (name : List ℕ) (lowest highest : ℕ) → lookup (rows k) name ≡ Some (row name (Shape.Number lowest highest) Absent.Required) → IsBetween lowest highest (number_of k ps size name)
unfolding number_of
required k ps clean size name lowest highest known =
    of_given k ps clean name lowest highest Absent.Required known (default_number size (lookup (rows k) name)) (given name ps) refl (given_if_required k ps clean name _ known refl)

pub input_port : (ps : List Param) → faults kind.Input ps ≡ [] → IsBetween 1 65535 (number_of kind.Input ps 0 (codes "port"))
input_port ps clean = required kind.Input ps clean 0 (codes "port") 1 65535 port_row

pub forward_port : (ps : List Param) → faults kind.Forward ps ≡ [] → IsBetween 1 65535 (number_of kind.Forward ps 0 (codes "port"))
unfolding own_rows destination_rows queue_head_rows queue_rest_rows
forward_port ps clean = in_range kind.Forward ps clean 0 (codes "port") 1 65535 (Absent.Amount 514) refl (record { least = omega arith; greatest = omega arith })

-- ---- retries and intervals of actions

retry_row : (k : Kind) → is_action k ≡ true → lookup (rows k) (codes "action.resumeRetryCount") ≡ Some (row (codes "action.resumeRetryCount") (Shape.NumberOrMinusOne 0 most) (Absent.Amount 0))
unfolding own_rows destination_rows queue_head_rows queue_rest_rows
retry_row kind.Action h = refl
retry_row kind.Archive h = refl
retry_row kind.Forward h = refl
retry_row kind.Module h = cc
retry_row kind.Global h = cc
retry_row kind.MainQueue h = cc
retry_row kind.Input h = cc
retry_row kind.Ruleset h = cc

interval_row : (k : Kind) → is_action k ≡ true → lookup (rows k) (codes "action.resumeInterval") ≡ Some (row (codes "action.resumeInterval") (Shape.Number 0 most) (Absent.Amount 30))
unfolding own_rows destination_rows queue_head_rows queue_rest_rows
interval_row kind.Action h = refl
interval_row kind.Archive h = refl
interval_row kind.Forward h = refl
interval_row kind.Module h = cc
interval_row kind.Global h = cc
interval_row kind.MainQueue h = cc
interval_row kind.Input h = cc
interval_row kind.Ruleset h = cc

pub interval_in_range : (k : Kind) (ps : List Param) → is_action k ≡ true → faults k ps ≡ [] → IsBetween 0 most (number_of k ps 0 (codes "action.resumeInterval"))
interval_in_range k ps action clean = in_range k ps clean 0 _ _ _ _ (interval_row k action) (record { least = omega arith; greatest = omega arith })

the_other : (a b : Bool) → a ≡ false → (a || b) ≡ true → b ≡ true
the_other true b e h = cc
the_other false b e h = h

within_or_minus_one : (lowest highest : ℕ) (value : List ℕ) → IsFit (Shape.NumberOrMinusOne lowest highest) value → is_minus_one value ≡ false → is_within lowest highest (decimal_value value) ≡ true
unfolding is_in_range
within_or_minus_one lowest highest value fits other = the_other (is_minus_one value) (is_within lowest highest (decimal_value value)) other fits.within

count_of : (k : Kind) (ps : List Param) → faults k ps ≡ [] → (name : List ℕ) (lowest highest : ℕ) (absent : Absent) → lookup (rows k) name ≡ Some (row name (Shape.NumberOrMinusOne lowest highest) absent) → (default : ℕ) → IsBetween lowest highest default → (value : Option (List ℕ)) → given name ps ≡ value → is_word (codes "-1") value ≡ false → IsBetween lowest highest (unwrap_or (option_and_then decimal_value value) default)
count_of k ps clean name lowest highest absent known default fits None found other = fits
count_of k ps clean name lowest highest absent known default fits (Some value) found other =
    between lowest highest (decimal_value value) default (within_or_minus_one lowest highest value (fit k ps clean name value _ found known) other)

pub retry_in_range : (k : Kind) (ps : List Param) → is_action k ≡ true → faults k ps ≡ [] → is_word (codes "-1") (given (codes "action.resumeRetryCount") ps) ≡ false → IsBetween 0 most (number_of k ps 0 (codes "action.resumeRetryCount"))
unfolding number_of
retry_in_range k ps action clean other =
    count_of k ps clean (codes "action.resumeRetryCount") 0 most (Absent.Amount 0) (retry_row k action) (default_number 0 (lookup (rows k) (codes "action.resumeRetryCount"))) (rw (retry_row k action) (record { least = omega arith; greatest = omega arith })) (given (codes "action.resumeRetryCount") ps) refl other

-- ---- what an action is, takes a queue

pub action_takes_queue : (k : Kind) → is_action k ≡ true → takes_queue k ≡ true
action_takes_queue kind.Action h = refl
action_takes_queue kind.Archive h = refl
action_takes_queue kind.Forward h = refl
action_takes_queue kind.Module h = cc
action_takes_queue kind.Global h = cc
action_takes_queue kind.MainQueue h = cc
action_takes_queue kind.Input h = cc
action_takes_queue kind.Ruleset h = cc
