-- What an object says: the values of its parameters, as given or by their defaults.
use Rattle.std.specs.Prelude.{ℕ, ◌*◌, ◌/◌, ◌≤◌, Bool, false, ◌||◌, if◌then◌else◌, List, [], Option, Some, None, unwrap_or, option_and_then, codes}
use Rattle.std.specs.Str.{bytes_eq}
use Rattle.sy_script.specs.declared.tree.Param.{Param}
use Rattle.sy_rules.specs.declared.parameters.kind.Kind.{Kind}
use Rattle.sy_rules.specs.declared.parameters.kind.Kind.TheVariants as kind
use Rattle.sy_rules.specs.declared.parameters.settings.FlowControl.{FlowControl}
use Rattle.sy_rules.specs.declared.parameters.settings.FlowControl.TheVariants as flow
use Rattle.sy_rules.specs.declared.parameters.settings.QueueParameters.{QueueParameters}
use Rattle.sy_rules.specs.declared.parameters.objects.InputParameters.{InputParameters}
use Rattle.sy_rules.specs.declared.parameters.objects.RulesetParameters.{RulesetParameters}
use Rattle.sy_rules.specs.declared.parameters.objects.ActionParameters.{ActionParameters}
use Rattle.sy_rules.specs.declared.parameters.objects.Destination.{Destination}
use Rattle.sy_rules.specs.declared.parameters.objects.Destination.TheVariants as destination
use Rattle.sy_rules.specs.parameters.Values.{decimal_value, given}
use Rattle.sy_rules.specs.parameters.Rows.{Absent, Row, rows, lookup}

-- ---- single values

-- the number where none is given, of a queue of this size
abbrev pub absent_number : ℕ → Absent → ℕ
absent_number size (Absent.Amount n) = n
absent_number size (Absent.Hundredths n) = size * n / 100
absent_number size _ = 0

abbrev pub default_number : ℕ → Option Row → ℕ
default_number size None = 0
default_number size (Some r) = absent_number size r.absent

-- the number of a parameter, as given or by its default
unfoldable pub number_of : Kind → List Param → ℕ → List ℕ → ℕ
number_of k ps size name = unwrap_or (option_and_then decimal_value (given name ps)) (default_number size (lookup (rows k) name))

abbrev pub absent_word : Absent → Option (List ℕ)
absent_word (Absent.Word word) = Some word
absent_word _ = None

abbrev pub default_word : Option Row → Option (List ℕ)
default_word None = None
default_word (Some r) = absent_word r.absent

abbrev pub given_or : Option (List ℕ) → Option (List ℕ) → Option (List ℕ)
given_or (Some word) default = Some word
given_or None default = default

-- the word of a parameter, as given or by its default, where it has one
unfoldable pub word_of : Kind → List Param → List ℕ → Option (List ℕ)
word_of k ps name = given_or (given name ps) (default_word (lookup (rows k) name))

abbrev pub is_word : List ℕ → Option (List ℕ) → Bool
is_word word None = false
is_word word (Some found) = bytes_eq found word

-- A queue is there where its type is one of a queue in memory: always of the main queue, else where queue.type says so.
unfoldable pub has_queue : Kind → List Param → Bool
has_queue k ps = is_word (codes "FixedArray") (word_of k ps (codes "queue.type")) || is_word (codes "LinkedList") (word_of k ps (codes "queue.type"))

abbrev pub size_of : Kind → List Param → ℕ
size_of k ps = number_of k ps 0 (codes "queue.size")

unfoldable pub queue_parameters : Kind → List Param → QueueParameters
queue_parameters k ps = record {
  size = size_of k ps;
  batch = number_of k ps (size_of k ps) (codes "queue.dequeueBatchSize");
  full_delay_mark = number_of k ps (size_of k ps) (codes "queue.fullDelayMark");
  light_delay_mark = number_of k ps (size_of k ps) (codes "queue.lightDelayMark");
  discard_mark = number_of k ps (size_of k ps) (codes "queue.discardMark");
  discard_severity = number_of k ps (size_of k ps) (codes "queue.discardSeverity");
  timeout_enqueue = number_of k ps (size_of k ps) (codes "queue.timeoutEnqueue");
  workers = number_of k ps (size_of k ps) (codes "queue.workerThreads");
  waits = is_word (codes "full") (word_of k ps (codes "queue.workerFlow"));
}

-- what every queue's parameters keep
pub record AreInRange (q : QueueParameters) : Type 0 where
  pub size_least : 1 ≤ q.size
  pub size_most : q.size ≤ 1000000
  pub batch_least : 1 ≤ q.batch
  pub batch_most : q.batch ≤ 65536
  pub full_delay_mark : q.full_delay_mark ≤ 1000000
  pub light_delay_mark : q.light_delay_mark ≤ 1000000
  pub discard_mark : q.discard_mark ≤ 1000000
  pub discard_severity : q.discard_severity ≤ 8
  pub timeout_enqueue : q.timeout_enqueue ≤ 2147483647
  pub workers_least : 1 ≤ q.workers
  pub workers_most : q.workers ≤ 64

-- the queue of a ruleset or an action, where it has one
abbrev pub queue_of : Kind → List Param → Option QueueParameters
queue_of k ps = if has_queue k ps then Some (queue_parameters k ps) else None

-- ---- inputs

abbrev pub flow_named : Option (List ℕ) → FlowControl
flow_named word = if is_word (codes "full") word then flow.Full else if is_word (codes "off") word then flow.Off else flow.On

unfoldable pub input_of : List Param → InputParameters
input_of ps = record {
  port = number_of kind.Input ps 0 (codes "port");
  flow = flow_named (word_of kind.Input ps (codes "flowControl"));
  ruleset_name = given (codes "ruleset") ps;
  unread_file = given (codes "unreadFile") ps;
}

-- ---- rulesets

abbrev pub text : Option (List ℕ) → List ℕ
text None = []
text (Some word) = word

unfoldable pub ruleset_of : List Param → RulesetParameters
ruleset_of ps = record { name = text (given (codes "name") ps); queue = queue_of kind.Ruleset ps }

-- ---- actions

abbrev pub kind_named : Option (List ℕ) → Kind
kind_named word = if is_word (codes "omfile") word then kind.Archive else if is_word (codes "omfwd") word then kind.Forward else kind.Action

-- The kind of an action is that of the module which its type names.
unfoldable pub kind_of_action : List Param → Kind
kind_of_action ps = kind_named (given (codes "type") ps)

-- -1 is without end
abbrev pub retry_of : Kind → List Param → Option ℕ
retry_of k ps = if is_word (codes "-1") (given (codes "action.resumeRetryCount") ps) then None else Some (number_of k ps 0 (codes "action.resumeRetryCount"))

unfoldable pub destination_of : Kind → List Param → Destination
destination_of kind.Forward ps = destination.Forward (text (given (codes "target") ps)) (number_of kind.Forward ps 0 (codes "port"))
destination_of _ ps = destination.Archive (text (given (codes "file") ps))

-- a port is 1 to 65535
abbrev pub HasPort : Destination → Type 0
HasPort (destination.Archive file) = Unit {0}
HasPort (destination.Forward target port) = 1 ≤ port

unfoldable pub action_of : Kind → List Param → ActionParameters
action_of k ps = record {
  name = given (codes "name") ps;
  destination = destination_of k ps;
  retry = retry_of k ps;
  resume_interval = number_of k ps 0 (codes "action.resumeInterval");
  queue = queue_of k ps;
}
