-- What the queues of rsyslogd 8.2302 hold, where they wait and what they discard, by their parameters (runtime/rsconf.c, runtime/queue.c).
use Rattle.std.specs.Prelude.{ℕ, ◌*◌, ◌/◌, ◌-◌, ◌==◌, ◌&&◌, List, ◌++◌, Option, None, Some, codes, if◌then◌else◌, max, min, nat_le, nat_lt}
use Rattle.std.specs.Fmt.{decimal}
use Rattle.sy_fleet.specs.declared.queues.Given.{Given}
use Rattle.sy_fleet.specs.declared.queues.QueueKind.{QueueKind}
use Rattle.sy_fleet.specs.declared.queues.QueueKind.TheVariants as kind

-- for how many messages there is room where nothing says so
abbrev pub usual_size : QueueKind → ℕ
usual_size kind.Main = 100000
usual_size kind.Object = 50000
usual_size kind.Action = 1000

-- A size that is given counts within what the profile has.
abbrev pub size_of : QueueKind → Option ℕ → ℕ
size_of kind None = usual_size kind
size_of kind (Some given) = min (max given 1) 1000000

-- So many hundredths of the size; of queues too small for that another number.
abbrev pub usual_mark : (size hundredths small : ℕ) → ℕ
usual_mark size hundredths small = if size / 100 * hundredths == 0 then small else size / 100 * hundredths

-- A mark that is given counts where it is within the queue.
abbrev pub mark : Option ℕ → (size hundredths small : ℕ) → ℕ
mark None size hundredths small = usual_mark size hundredths small
mark (Some given) size hundredths small =
    if nat_lt 0 given && nat_le given size then given else usual_mark size hundredths small

-- The severity from which messages are discarded, 8 of none. In a first queue each is where any is: what isn't parsed yet counts there as of the least
-- severity.
abbrev pub discarded : QueueKind → ℕ → ℕ
discarded kind.Main severity = if nat_lt severity 8 then 0 else 8
discarded kind.Object severity = if nat_lt severity 8 then 0 else 8
discarded kind.Action severity = min severity 8

-- rsyslogd discards nothing where nothing says so
abbrev pub severity_of : Option ℕ → ℕ
severity_of None = 8
severity_of (Some given) = given

-- From which severity on, and at which mark; from the first message on each, where only one of several is taken.
abbrev pub discards : QueueKind → Given → ℕ
discards kind given = if given.is_sampled then 0 else discarded kind (severity_of given.severity)

abbrev pub discard_mark : (size : ℕ) → Given → ℕ
discard_mark size given = if given.is_sampled then 1 else mark given.mark size 98 size

abbrev pub one_text : List ℕ → ℕ → List ℕ
one_text name number = codes " queue." ++ name ++ codes "=\"" ++ decimal number ++ codes "\""

-- A text, and behind it the parameters in the plan of a queue of that size.
abbrev pub with_size : QueueKind → Given → (size : ℕ) → List ℕ → List ℕ
with_size kind given size text =
    (((text ++ one_text (codes "size") size) ++ one_text (codes "fullDelayMark") (mark given.full size 97 (size - 1)))
    ++ one_text (codes "discardMark") (discard_mark size given)) ++ one_text (codes "discardSeverity") (discards kind given)

abbrev pub with_queue : QueueKind → Given → List ℕ → List ℕ
with_queue kind given text = with_size kind given (size_of kind given.size) text
