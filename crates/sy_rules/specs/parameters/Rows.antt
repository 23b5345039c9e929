-- The parameters of each kind of object, by the names of the rsyslog manual (its pages on the objects module, global, main_queue, input,
-- ruleset and action, on imtcp, omfile and omfwd, and on queue parameters). All ranges and defaults are this profile's own.
use Rattle.std.specs.Prelude.{ℕ, List, [], ◌∷◌, ◌++◌, Option, Some, None, if◌then◌else◌, codes, map}
use Rattle.std.specs.Str.{str_eq_ignore_ascii_case}
use Rattle.sy_rules.specs.declared.parameters.kind.Kind.{Kind}
use Rattle.sy_rules.specs.declared.parameters.kind.Kind.TheVariants as kind

-- which values a parameter takes
pub data Shape : Type 0 where
  -- 1 to 10 decimal digits; from the lowest value to the highest
  Number : ℕ → ℕ → Shape
  -- the same, or -1
  NumberOrMinusOne : ℕ → ℕ → Shape
  -- one of these words, exactly as they are
  OneOf : List (List ℕ) → Shape
  AnyText : Shape

-- what holds where a parameter is not given
pub data Absent : Type 0 where
  -- it must be given
  Required : Absent
  -- nothing
  Nothing : Absent
  -- this word
  Word : List ℕ → Absent
  -- this number
  Amount : ℕ → Absent
  -- so many hundredths of queue.size, rounded down
  Hundredths : ℕ → Absent

pub record Row : Type 0 where
  pub name : List ℕ
  pub shape : Shape
  pub absent : Absent

abbrev pub row : List ℕ → Shape → Absent → Row
row name shape absent = record { name = name; shape = shape; absent = absent }

-- ---- words

abbrev pub modules : List (List ℕ)
modules = codes "imtcp" ∷ codes "builtin:omfile" ∷ codes "builtin:omfwd" ∷ []

abbrev pub flows : List (List ℕ)
flows = codes "on" ∷ codes "off" ∷ codes "full" ∷ []

abbrev pub on_off : List (List ℕ)
on_off = codes "on" ∷ codes "off" ∷ []

-- how posts into a queue wait; rsyslog doesn't have it
abbrev pub worker_flows : List (List ℕ)
worker_flows = codes "full" ∷ codes "off" ∷ []

abbrev pub action_types : List (List ℕ)
action_types = codes "omfile" ∷ codes "omfwd" ∷ []

-- queues in memory; both are the same here
abbrev pub queue_types : List (List ℕ)
queue_types = codes "FixedArray" ∷ codes "LinkedList" ∷ []

-- the greatest number of seconds, milliseconds, retries
abbrev pub most : ℕ
most = 2147483647

-- ---- the table

abbrev pub module_rows : List Row
module_rows = row (codes "load") (Shape.OneOf modules) Absent.Required ∷ []

-- workDirectory has no effect
abbrev pub global_rows : List Row
global_rows = row (codes "workDirectory") Shape.AnyText Absent.Nothing ∷ []

-- frames that carry no message are kept in the file unreadFile (this profile's own); name has no effect
abbrev pub input_rows : List Row
input_rows =
    row (codes "type") (Shape.OneOf (codes "imtcp" ∷ [])) Absent.Required
    ∷ row (codes "port") (Shape.Number 1 65535) Absent.Required
    ∷ row (codes "flowControl") (Shape.OneOf flows) (Absent.Word (codes "on"))
    ∷ row (codes "ruleset") Shape.AnyText Absent.Nothing
    ∷ row (codes "name") Shape.AnyText Absent.Nothing
    ∷ row (codes "unreadFile") Shape.AnyText Absent.Nothing
    ∷ []

abbrev pub ruleset_rows : List Row
ruleset_rows = row (codes "name") Shape.AnyText Absent.Required ∷ []

-- the interval is in seconds
abbrev pub action_rows : List Row
action_rows =
    row (codes "type") (Shape.OneOf action_types) Absent.Required
    ∷ row (codes "name") Shape.AnyText Absent.Nothing
    ∷ row (codes "action.resumeRetryCount") (Shape.NumberOrMinusOne 0 most) (Absent.Amount 0)
    ∷ row (codes "action.resumeInterval") (Shape.Number 0 most) (Absent.Amount 30)
    ∷ []

abbrev pub omfile_rows : List Row
omfile_rows = row (codes "file") Shape.AnyText Absent.Required ∷ []

abbrev pub omfwd_rows : List Row
omfwd_rows =
    row (codes "target") Shape.AnyText Absent.Required
    ∷ row (codes "port") (Shape.Number 1 65535) (Absent.Amount 514)
    ∷ row (codes "protocol") (Shape.OneOf (codes "tcp" ∷ [])) Absent.Required
    ∷ row (codes "TCP_Framing") (Shape.OneOf (codes "octet-counted" ∷ [])) Absent.Required
    ∷ []

-- type, size and batch of a queue: of an action's, of a ruleset's, of the main queue; of the first two, how posts wait
abbrev pub worker_flow_row : Row
worker_flow_row = row (codes "queue.workerFlow") (Shape.OneOf worker_flows) (Absent.Word (codes "off"))

abbrev pub action_queue_rows : List Row
action_queue_rows =
    row (codes "queue.type") (Shape.OneOf (codes "Direct" ∷ queue_types)) (Absent.Word (codes "Direct"))
    ∷ row (codes "queue.size") (Shape.Number 1 1000000) (Absent.Amount 1000)
    ∷ row (codes "queue.dequeueBatchSize") (Shape.Number 1 65536) (Absent.Amount 128)
    ∷ worker_flow_row
    ∷ []

abbrev pub size_rows : List Row
size_rows =
    row (codes "queue.size") (Shape.Number 1 1000000) (Absent.Amount 50000)
    ∷ row (codes "queue.dequeueBatchSize") (Shape.Number 1 65536) (Absent.Amount 1024)
    ∷ []

abbrev pub ruleset_queue_rows : List Row
ruleset_queue_rows = row (codes "queue.type") (Shape.OneOf queue_types) Absent.Nothing ∷ (size_rows ++ worker_flow_row ∷ [])

abbrev pub main_queue_rows : List Row
main_queue_rows = row (codes "queue.type") (Shape.OneOf queue_types) (Absent.Word (codes "LinkedList")) ∷ size_rows

-- The rest, which is the same for every queue. queue.timeoutEnqueue is in milliseconds. What stands after queue.workerThreads has no effect.
abbrev pub queue_rows : List Row
queue_rows =
    row (codes "queue.fullDelayMark") (Shape.Number 0 1000000) (Absent.Hundredths 97)
    ∷ row (codes "queue.lightDelayMark") (Shape.Number 0 1000000) (Absent.Hundredths 70)
    ∷ row (codes "queue.discardMark") (Shape.Number 0 1000000) (Absent.Hundredths 80)
    ∷ row (codes "queue.discardSeverity") (Shape.Number 0 8) (Absent.Amount 8)
    ∷ row (codes "queue.timeoutEnqueue") (Shape.Number 0 most) (Absent.Amount 2000)
    ∷ row (codes "queue.workerThreads") (Shape.Number 1 64) (Absent.Amount 1)
    ∷ row (codes "queue.highWatermark") (Shape.Number 0 most) Absent.Nothing
    ∷ row (codes "queue.lowWatermark") (Shape.Number 0 most) Absent.Nothing
    ∷ row (codes "queue.workerThreadMinimumMessages") (Shape.Number 0 most) Absent.Nothing
    ∷ row (codes "queue.timeoutShutdown") (Shape.Number 0 most) Absent.Nothing
    ∷ row (codes "queue.timeoutActionCompletion") (Shape.Number 0 most) Absent.Nothing
    ∷ row (codes "queue.timeoutWorkerThreadShutdown") (Shape.Number 0 most) Absent.Nothing
    ∷ row (codes "queue.saveOnShutdown") (Shape.OneOf on_off) Absent.Nothing
    ∷ []

-- ---- the rows of a kind, part by part

-- its own
unfoldable pub own_rows : Kind → List Row
own_rows kind.Module = module_rows
own_rows kind.Global = global_rows
own_rows kind.MainQueue = []
own_rows kind.Input = input_rows
own_rows kind.Ruleset = ruleset_rows
own_rows kind.Action = action_rows
own_rows kind.Archive = action_rows
own_rows kind.Forward = action_rows

-- Of an action whose type is no known one nothing more is asked: its parameters may be those of either.
abbrev pub if_given : Row → Row
if_given r = record r { absent = Absent.Nothing }

-- those of the module that an action's type names
unfoldable pub destination_rows : Kind → List Row
destination_rows kind.Archive = omfile_rows
destination_rows kind.Forward = omfwd_rows
destination_rows kind.Action = map if_given (omfile_rows ++ omfwd_rows)
destination_rows _ = []

-- those of its queue: the first, and the rest
unfoldable pub queue_head_rows : Kind → List Row
queue_head_rows kind.MainQueue = main_queue_rows
queue_head_rows kind.Ruleset = ruleset_queue_rows
queue_head_rows kind.Action = action_queue_rows
queue_head_rows kind.Archive = action_queue_rows
queue_head_rows kind.Forward = action_queue_rows
queue_head_rows _ = []

unfoldable pub queue_rest_rows : Kind → List Row
queue_rest_rows kind.Module = []
queue_rest_rows kind.Global = []
queue_rest_rows kind.Input = []
queue_rest_rows _ = queue_rows

abbrev pub rows : Kind → List Row
rows k = own_rows k ++ (destination_rows k ++ (queue_head_rows k ++ queue_rest_rows k))

-- the row of a name, without regard to the case of its ASCII letters
abbrev pub lookup : List Row → List ℕ → Option Row
lookup [] name = None
lookup (r ∷ rs) name = if str_eq_ignore_ascii_case r.name name then Some r else lookup rs name
