-- What a turn of a connection does to what it holds.
use Rattle.std.proofs.Common.{◌≡◌, ℕ, List, [], append-nil, refl, sym, ap, ◌∙◌, subst, true≢false}
use Rattle.std.specs.Prelude.{Option, None, Some, Result, Ok, Err, Bool, false, ⊤, OnOk}
use Rattle.std.proofs.KnownBytes.{Consumes-nil}
use Rattle.sy_runtime.specs.declared.untaken.Item.{Item}
use Rattle.sy_wire.specs.Frames.{Held}
use Rattle.sy_wire.specs.Streams.{Rose}
use Rattle.sy_wire.specs.declared.framer.FrameFault.{FrameFault}
use Rattle.sy_wire.specs.declared.framer.FrameFault.TheVariants as frame
use Rattle.sy_runtime.specs.Connections.{Begins, Between, Connects, Counts, EndsWith, GoesOnWith, KeepsMore, Kept, Serves, Sorted, nothing_counted, rest_of, since}
use Rattle.sy_runtime.specs.internal.Turning.{CameIs, Goes, IsEarly, MayGoOn, came_from, RoundIs, RoundsAre, round_of}
use Rattle.sy_runtime.specs.internal.Gathering.{GatherIs, IsAtFront}
use Rattle.sy_runtime.specs.internal.Halting.{halted, halted_at}
use Rattle.sy_runtime.specs.internal.Held.{Holds}
use Rattle.sy_runtime.specs.declared.connection_end.Finish.{Finish}
use Rattle.sy_runtime.specs.declared.connection_end.Finish.TheVariants as finish
use Rattle.sy_runtime.specs.declared.fault.RunFault.{RunFault}
use Rattle.sy_runtime.specs.declared.fault.RunFault.TheVariants as fault
use Rattle.sy_runtime.specs.declared.connection.gathering.Gathered.{Gathered}
use Rattle.sy_runtime.specs.declared.connection.gathering.Gathered.TheVariants as gathered
use Rattle.sy_runtime.specs.declared.connection.halt.Halt.{Halt}
use Rattle.sy_runtime.specs.declared.connection.halt.Halt.TheVariants as halt
use Rattle.sy_runtime.specs.declared.connection.turns.Came.TheVariants as came
use Rattle.sy_runtime.specs.declared.connection.turns.Round.{Round}
use Rattle.sy_runtime.specs.declared.connection.turns.Round.TheVariants as round
use Rattle.sy_runtime.proofs.Taken.{begins, settled, unsettled}

halted_early : (h : Halt) (rest : List ℕ) → IsEarly (halted h) rest
halted_early halt.Closed rest = tt
halted_early halt.TotalsFull rest = tt
halted_early halt.Hands rest = tt
halted_early halt.NoMemory rest = tt

halted_at_early : (h : Halt) (stop : Gathered) (rest : List ℕ) → IsEarly (halted_at h stop) rest
halted_at_early halt.Closed gathered.Open rest = tt
halted_at_early halt.Closed gathered.Full rest = tt
halted_at_early halt.Closed (gathered.Fault f) rest = tt
halted_at_early halt.Closed gathered.NoMemory rest = tt
halted_at_early halt.TotalsFull stop rest = tt
halted_at_early halt.Hands stop rest = tt
halted_at_early halt.NoMemory stop rest = tt

-- whatever ended the gathering, what was read is held
gathered_holds : (stop : Gathered) (read : List ℕ) (end : Counts) (kept : Kept) (batch : List Item) (held : Held) → GatherIs stop read end kept batch held
    → Holds read end kept batch held.left
gathered_holds gathered.Open read end kept batch held g = g.0
gathered_holds gathered.Full read end kept batch held g = g.0
gathered_holds (gathered.Fault f) read end kept batch held g = g.0
gathered_holds gathered.NoMemory read end kept batch held g = g.0

-- with nothing in the batch, the rest is what the framer has left
pub bare : (P : List ℕ → Type 0) (batch : List Item) (left : List ℕ) → batch ≡ [] → P left → P (rest_of batch left)
bare P batch left none p = subst (λ b. P (rest_of b left)) (sym none) p

taken_in : (stop : Gathered) (read : List ℕ) (end : Counts) (kept : Kept) (end' : Counts) (kept' : Kept) (batch batch' : List Item) (held : Held) → GatherIs stop read end kept batch held
    → (Holds read end kept batch held.left → Holds read end' kept' batch' held.left) → batch' ≡ [] → RoundIs (round_of stop (Ok tt)) read end' kept' held batch'
taken_in gathered.Open read end kept end' kept' batch batch' held g p none =
    (record { begins = settled read end' kept' batch' held.left none (p g.0); good = g.1; empty = none }, g.2)
taken_in gathered.Full read end kept end' kept' batch batch' held g p none =
    record { begins = settled read end' kept' batch' held.left none (p g.0); good = g.1; empty = none }
taken_in gathered.NoMemory read end kept end' kept' batch batch' held g p none =
    record { begins = settled read end' kept' batch' held.left none (p g.0); good = g.1; empty = none }
taken_in (gathered.Fault f) read end kept end' kept' batch batch' held g p none =
    (begins read end' kept' batch' held.left (p g.0), bare (λ rest. IsAtFront f rest) batch' held.left none g.1)

rounds : (stop : Gathered) (inserted : Result ⊤ Halt) (read : List ℕ) (end : Counts) (kept : Kept) (end' : Counts) (kept' : Kept) (batch batch' : List Item) (held : Held)
    → GatherIs stop read end kept batch held → ((read left : List ℕ) → Holds read end kept batch left → Holds read end' kept' batch' left) → OnOk inserted (batch' ≡ [])
    → RoundIs (round_of stop inserted) read end' kept' held batch'
rounds stop (Ok _) read end kept end' kept' batch batch' held g p all = taken_in stop read end kept end' kept' batch batch' held g (p read held.left) all
rounds stop (Err h) read end kept end' kept' batch batch' held g p all =
    (begins read end' kept' batch' held.left (p read held.left (gathered_holds stop read end kept batch held g)), halted_at_early h stop (rest_of batch' held.left))

-- after a batch
pub rounded : (made : Round) (stop : Gathered) (inserted : Result ⊤ Halt) (read : List ℕ) (end : Counts) (kept : Kept) (end' : Counts) (kept' : Kept) (batch batch' : List Item) (held : Held)
    → made ≡ round_of stop inserted → GatherIs stop read end kept batch held → ((read left : List ℕ) → Holds read end kept batch left → Holds read end' kept' batch' left)
    → OnOk inserted (batch' ≡ []) → RoundIs made read end' kept' held batch'
rounded made stop inserted read end kept end' kept' batch batch' held is g p all =
    subst (λ r. RoundIs r read end' kept' held batch') (sym is) (rounds stop inserted read end kept end' kept' batch batch' held g p all)

fault_early : (f : FrameFault) (rest : List ℕ) (ahead : Option (List ℕ)) → IsAtFront f rest → GoesOnWith f rest ahead
fault_early frame.BadLength rest ahead e = e
fault_early frame.TooLong rest ahead e = e
fault_early frame.Truncated rest ahead e = absurd e
fault_early frame.NoMemory rest ahead e = absurd e
fault_early frame.Failed rest ahead e = absurd e

ends_early : (answer : Result Finish RunFault) (rest : List ℕ) (ahead : Option (List ℕ)) (failed failed' : ℕ) → IsEarly answer rest
    → EndsWith answer rest ahead failed failed'
ends_early (Ok finish.Closed) rest ahead failed failed' e = tt
ends_early (Ok finish.Ended) rest ahead failed failed' e = absurd e
ends_early (Err (fault.Frame f)) rest ahead failed failed' e = fault_early f rest ahead e
ends_early (Err fault.Read) rest ahead failed failed' e = absurd e
ends_early (Err fault.Bind) rest ahead failed failed' e = absurd e
ends_early (Err fault.Hands) rest ahead failed failed' e = tt
ends_early (Err fault.NoMemory) rest ahead failed failed' e = tt
ends_early (Err fault.TotalsFull) rest ahead failed failed' e = tt

-- whatever stands in a framer, it may have been read so
some_begins : (left : List ℕ) → Begins left nothing_counted (since None None) left
some_begins left = record { frames = []; unread = []; whole = refl; count = refl; none = refl; sorted = Sorted.nothing; keeps = tt }

may_go : (stop : Gathered) (inserted : Result ⊤ Halt) (read : List ℕ) (end : Counts) (kept : Kept) (batch batch' : List Item) (held : Held) (in_hand : Bool)
    → GatherIs stop read end kept batch held → OnOk inserted (batch' ≡ []) → OnOk inserted (in_hand ≡ false) → MayGoOn (round_of stop inserted) held batch' in_hand
may_go stop (Err h) read end kept batch batch' held in_hand g none free = tt
may_go gathered.Open (Ok _) read end kept batch batch' held in_hand g none free = (g.1, none, g.2, free)
may_go gathered.Full (Ok _) read end kept batch batch' held in_hand g none free = (g.1, none)
may_go gathered.NoMemory (Ok _) read end kept batch batch' held in_hand g none free = (g.1, none)
may_go (gathered.Fault f) (Ok _) read end kept batch batch' held in_hand g none free = tt

-- whatever was read before
pub may_go_on : (made : Round) (stop : Gathered) (inserted : Result ⊤ Halt) (before batch batch' : List Item) (left : List ℕ) (held : Held) (in_hand : Bool) → made ≡ round_of stop inserted → before ≡ []
    → ((read : List ℕ) (end : Counts) (kept : Kept) → Holds read end kept before left → GatherIs stop read end kept batch held) → OnOk inserted (batch' ≡ []) → OnOk inserted (in_hand ≡ false)
    → MayGoOn made held batch' in_hand
may_go_on made stop inserted before batch batch' left held in_hand is empty gathers none free =
    subst (λ r. MayGoOn r held batch' in_hand) (sym is)
    (may_go stop inserted left nothing_counted (since None None) batch batch' held in_hand
    (gathers left nothing_counted (since None None) (unsettled left nothing_counted (since None None) before left empty (some_begins left))) none free)

-- nothing was kept since
pub keeps_none : (kept : Option (List (List ℕ))) → KeepsMore kept kept []
keeps_none None = tt
keeps_none (Some texts) = sym (append-nil texts)

-- before the first turn
pub first : (ahead : Option (List ℕ)) (kept : Option (List (List ℕ))) → Serves ahead ahead nothing_counted (since kept kept) []
first ahead kept = record {
  read = [];
  consumed = Consumes-nil ahead;
  begins = record { frames = []; unread = []; whole = refl; count = refl; none = refl; sorted = Sorted.nothing; keeps = keeps_none kept };
}

-- where it waited for memory in vain
pub gave_up : (answer : Result Finish RunFault) (read : List ℕ) (end : Counts) (kept : Kept) (held : Held) (batch : List Item) → answer ≡ Err fault.NoMemory
    → Goes read end kept held batch → RoundsAre (Some answer) read end kept held batch
gave_up answer read end kept held batch is g =
    (bare (Begins read end kept) batch held.left g.empty g.begins, subst (λ a. IsEarly a (rest_of batch held.left)) (sym is) tt)

-- taking in that ended it
pub over : (ahead ahead' : Option (List ℕ)) (end : Counts) (kept : Kept) (end' : Counts) (kept' : Kept) (left : List ℕ) (held : Held) (batch : List Item) (answer : Result Finish RunFault)
    → Serves ahead ahead' end kept left → ((read : List ℕ) → Begins read end kept left → RoundsAre (Some answer) read end' kept' held batch)
    → CameIs (came.Over answer) ahead ahead' end' kept' held batch
over ahead ahead' end kept end' kept' left held batch answer s next failed failed' =
    let r = next s.read s.begins in
    record { read = s.read; consumed = s.consumed; begins = r.0; ends = ends_early answer (rest_of batch held.left) ahead' failed failed' r.1 }

-- taking in after which it goes on
pub goes_on : (ahead ahead' : Option (List ℕ)) (end : Counts) (kept : Kept) (end' : Counts) (kept' : Kept) (left : List ℕ) (held : Held) (batch : List Item)
    → Serves ahead ahead' end kept left → ((read : List ℕ) → Begins read end kept left → RoundsAre None read end' kept' held batch)
    → Serves ahead ahead' end' kept' held.left
goes_on ahead ahead' end kept end' kept' left held batch s next = record { read = s.read; consumed = s.consumed; begins = (next s.read s.begins).0.begins }

-- taking in, by how it ended, if it did
pub taken_so : (answer : Option (Result Finish RunFault)) (ahead ahead' : Option (List ℕ)) (end : Counts) (kept : Kept) (end' : Counts) (kept' : Kept) (left : List ℕ) (held : Held) (batch : List Item)
    → Serves ahead ahead' end kept left → ((read : List ℕ) → Begins read end kept left → RoundsAre answer read end' kept' held batch)
    → CameIs (came_from answer) ahead ahead' end' kept' held batch
taken_so None ahead ahead' end kept end' kept' left held batch s next = goes_on ahead ahead' end kept end' kept' left held batch s next
taken_so (Some answer) ahead ahead' end kept end' kept' left held batch s next = over ahead ahead' end kept end' kept' left held batch answer s next

-- the source has ended, and all whole frames were taken
pub taken_last : (ahead ahead' : Option (List ℕ)) (end : Counts) (kept : Kept) (held : Held) (batch : List Item) (answer : Result Finish RunFault) → batch ≡ []
    → ((failed failed' : ℕ) → Connects answer end kept held.left ahead ahead' failed failed') → CameIs (came.Over answer) ahead ahead' end kept held batch
taken_last ahead ahead' end kept held batch answer none connects failed failed' =
    bare (λ rest. Connects answer end kept rest ahead ahead' failed failed') batch held.left none (connects failed failed')

-- a wait for memory in vain, where nothing was read
pub waited : (answer : Result Finish RunFault) (ahead ahead' : Option (List ℕ)) (end : Counts) (kept : Kept) (held : Held) (batch : List Item)
    → answer ≡ Err fault.NoMemory → batch ≡ [] → Serves ahead ahead' end kept held.left → CameIs (came.Over answer) ahead ahead' end kept held batch
waited answer ahead ahead' end kept held batch is none s =
    taken_last ahead ahead' end kept held batch answer none
    (λ failed failed'. record { read = s.read; consumed = s.consumed; begins = s.begins; ends = subst (λ a. EndsWith a held.left ahead' failed failed') (sym is) tt })

-- a read that failed, where the connection ends at it
pub not_read : (answer : Result Finish RunFault) (end end' : Counts) (kept : Kept) (items : List Item) (left left' : List ℕ) (ahead ahead' : Option (List ℕ)) (failed before after : ℕ)
    → answer ≡ Err fault.Read → end' ≡ end → items ≡ [] → left' ≡ left → Serves ahead ahead' end kept left → before ≡ failed → Rose before after
    → Connects answer end' kept (rest_of items left') ahead ahead' failed after
not_read answer end end' kept items left left' ahead ahead' failed before after is same none as_left s as_failed rose =
    bare (λ rest. Connects answer end' kept rest ahead ahead' failed after) items left' none
    (subst (λ l. Connects answer end' kept l ahead ahead' failed after) (sym as_left)
    (subst (λ e. Connects answer e kept left ahead ahead' failed after) (sym same)
    (subst (λ a. Connects a end kept left ahead ahead' failed after) (sym is)
    (record { read = s.read; consumed = s.consumed; begins = s.begins; ends = subst (λ f. Rose f after) as_failed rose }))))

-- a connection that had no turn
pub never_began : (answer made : Result Finish RunFault) (connection : Between) (end : Counts) (kept : Option (List (List ℕ))) (items : List Item) (left : List ℕ) (ahead : Option (List ℕ)) (failed : ℕ)
    → IsEarly made [] → answer ≡ made → connection ≡ record { end = nothing_counted; left = [] } → end ≡ connection.end → items ≡ [] → left ≡ connection.left
    → Connects answer end (since kept kept) (rest_of items left) ahead ahead failed failed
never_began answer made connection end kept items left ahead failed early is new same none as_left =
    let s = first ahead kept in
    bare (λ rest. Connects answer end (since kept kept) rest ahead ahead failed failed) items left none
    (subst (λ l. Connects answer end (since kept kept) l ahead ahead failed failed) (sym (as_left ∙ ap (λ (b : Between). b.left) new))
    (subst (λ e. Connects answer e (since kept kept) [] ahead ahead failed failed) (sym (same ∙ ap (λ (b : Between). b.end) new))
    (record { read = s.read; consumed = s.consumed; begins = s.begins; ends = subst (λ a. EndsWith a [] ahead failed failed) (sym is) (ends_early made [] ahead failed failed early) })))
