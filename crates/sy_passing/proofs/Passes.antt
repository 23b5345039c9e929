-- How passes follow one another.
use Rattle.std.proofs.Common.{◌≡◌, ℕ, zero, suc, ◌+◌, ◌<◌, ◌≤◌, inl, inr, List, [], ◌∷◌, ◌++◌, length, refl, sym, ap, ◌∙◌, arith, length-append}
use Rattle.std.specs.Prelude.{Bool, Option, Some, None, false, true}
use Rattle.std.specs.List.{AllByRecursion}
use Rattle.std.specs.Io.KnownBytes.{Appends, Consumes, IsAtEnd, Keeps}
use Rattle.std.specs.Fmt.{decimal}
use Rattle.std.proofs.KnownBytes.{Appends-nil, Appends-trans, Appends-kept}
use Rattle.std.proofs.lemmas.List.{append_assoc, append-nil}
use Rattle.std.proofs.lemmas.List.Concat.{flat_map-append}
use Rattle.sy_wire.specs.Frames.{Held, frame, stream}
use Rattle.sy_wire.specs.Messages.{IsFault, IsMessage, Said}
use Rattle.sy_wire.specs.Steps.{GivesFrame, GivesInto}
use Rattle.sy_wire.specs.Streams.{count_after}
use Rattle.sy_wire.specs.declared.framer.FrameFault.TheVariants.{BadLength, TooLong, Truncated, NoMemory as OutOfMemory, Failed}
use Rattle.sy_wire.specs.declared.message.MsgFault.{MsgFault}
use Rattle.sy_passing.specs.Pass.{BeginsWith, CarriesFault, IsFramed, IsPart, PartPassed, Passed, line, lines}
use Rattle.sy_report.specs.Reports.{Torn}
use Rattle.sy_passing.specs.internal.Stops.{Advances, DrainFails, ReadCause, StopIs, StopsAt}
use Rattle.sy_passing.specs.Stops.{EntryFails}
use Rattle.sy_report.specs.declared.outcome.stop.Stop.{Stop}
use Rattle.sy_report.specs.declared.outcome.stop.Stop.TheVariants.{Frame, Message, NoMemory, ReadFailed, WriteFailed}
use Rattle.sy_wire.proofs.CuttingLaws.{bad_more, long_more}

all_append : (xs ys : List (List ℕ)) → AllByRecursion IsFramed xs → AllByRecursion IsFramed ys → AllByRecursion IsFramed (xs ++ ys)
all_append [] ys p q = q
all_append (x ∷ xs) ys p q = (p.0, all_append xs ys p.1 q)

pub passed_nothing : (bytes : List ℕ) (a b : Option (List ℕ)) → Keeps a b → Passed bytes a b bytes 0
passed_nothing bytes a b kept = record { messages = []; count = refl; each = tt; whole = refl; wrote = Appends-kept a a b [] (Appends-nil a) kept }

pub passed_trans : (bytes mid rest : List ℕ) (m n : ℕ) (a b c : Option (List ℕ)) → Passed bytes a b mid m → Passed mid b c rest n → Passed bytes a c rest (m + n)
passed_trans bytes mid rest m n a b c p q = record {
  messages = p.messages ++ q.messages;
  count = let sizes : length (p.messages ++ q.messages) ≡ length p.messages + length q.messages = simp length-append in omega (arith, sizes, p.count, q.count);
  each = all_append p.messages q.messages p.each q.each;
  whole = p.whole ∙ ap (λ x. stream p.messages ++ x) q.whole ∙ sym (append_assoc (stream p.messages) (stream q.messages) rest) ∙ ap (λ x. x ++ rest) (sym (flat_map-append frame p.messages q.messages));
  wrote = rw (flat_map-append line p.messages q.messages) (Appends-trans a b c (lines p.messages) (lines q.messages) p.wrote q.wrote);
}

pub passed_kept : (bytes rest : List ℕ) (n : ℕ) (a b c : Option (List ℕ)) → Passed bytes a b rest n → Keeps b c → Passed bytes a c rest n
passed_kept bytes rest n a b c p kept = record { messages = p.messages; count = p.count; each = p.each; whole = p.whole; wrote = Appends-kept a b c (lines p.messages) p.wrote kept }

-- more bytes come
pub passed_more : (bytes rest more : List ℕ) (n : ℕ) (a b : Option (List ℕ)) → Passed bytes a b rest n → Passed (bytes ++ more) a b (rest ++ more) n
passed_more bytes rest more n a b p = record {
  messages = p.messages;
  count = p.count;
  each = p.each;
  whole = ap (λ x. x ++ more) p.whole ∙ append_assoc (stream p.messages) rest more;
  wrote = p.wrote;
}

pub passed_one : (raw rest : List ℕ) (a b : Option (List ℕ)) → IsFramed raw → Appends a b (line raw) → Passed (frame raw ++ rest) a b rest 1
passed_one raw rest a b framed wrote = record {
  messages = raw ∷ [];
  count = refl;
  each = (framed, tt);
  whole = ap (λ x. x ++ rest) (sym (append-nil (frame raw)));
  wrote = rw (append-nil (line raw)) wrote;
}

pub part_of_passed : (bytes rest : List ℕ) (n : ℕ) (a b : Option (List ℕ)) → Passed bytes a b rest n → PartPassed bytes a b
part_of_passed bytes rest n a b p = record { messages = p.messages; rest = rest; part = []; each = p.each; whole = p.whole; is_part = inl refl; wrote = rw append-nil p.wrote }

part_torn : (bytes raw rest : List ℕ) (n : ℕ) (a b c : Option (List ℕ)) → Passed bytes a b (frame raw ++ rest) n → IsFramed raw → Torn b c (line raw) → PartPassed bytes a c
part_torn bytes raw rest n a b c p framed t = record {
  messages = p.messages;
  rest = frame raw ++ rest;
  part = t.part;
  each = p.each;
  whole = p.whole;
  is_part = inr (raw, rest, t.tail, framed, refl, t.front);
  wrote = Appends-trans a b c (lines p.messages) t.part p.wrote t.wrote;
}

pub advances_nothing : (bytes : List ℕ) (a b : Option (List ℕ)) (at : ℕ) → Keeps a b → Advances bytes a b bytes at at
advances_nothing bytes a b at kept = record { n = 0; passed = passed_nothing bytes a b kept; taken = omega arith }

pub advances_trans : (bytes mid rest : List ℕ) (a b c : Option (List ℕ)) (i j k : ℕ) → Advances bytes a b mid i j → Advances mid b c rest j k → Advances bytes a c rest i k
advances_trans bytes mid rest a b c i j k p q = record { n = p.n + q.n; passed = passed_trans bytes mid rest p.n q.n a b c p.passed q.passed; taken = omega (arith, p.taken, q.taken) }

pub gives_frame : (found : Bool) (old new : Held) (raw : List ℕ) → found ≡ true → GivesInto found old raw new → GivesFrame old raw new
gives_frame true old new raw is h = h
gives_frame false old new raw is h = cc

-- a frame leaves less than there was
pub left_shrinks : (old new : Held) (raw : List ℕ) → GivesFrame old raw new → length new.left + 1 ≤ length old.left
left_shrinks old new raw given =
    let sizes : length (frame raw ++ new.left) ≡ (length (decimal (length raw)) + (length raw + 1)) + length new.left = simp length-append (omega arith) in
    let whole : length old.left ≡ length (frame raw ++ new.left) = ap length given.taken in
    omega (arith, sizes, whole)

module _ (start raw : List ℕ) (old new : Held) (m : Said) (a b c : Option (List ℕ)) (i j : ℕ) (p : Advances start a b old.left i j) (given : GivesFrame old raw new) (is : IsMessage m) (text : m.raw ≡ raw) where
  framed : IsFramed raw
  framed = record { said = m; is_message = is; text = text; size = given.size }

  pub pass_frame : (k : ℕ) → k ≡ j + 1 → Appends b c (line m.raw) → Advances start a c new.left i k
  pass_frame k more wrote =
      let wrote_raw : Appends b c (line raw) = rw (← text) wrote in
      let one : Passed old.left b c new.left 1 = rw given.taken (passed_one raw new.left b c framed wrote_raw) in
      record { n = p.n + 1; passed = passed_trans start old.left new.left p.n 1 a b c p.passed one; taken = omega (arith, p.taken, more) }

  pub carry_keeps : (k : ℕ) → Keeps b c → DrainFails NoMemory start a c i k
  carry_keeps k h = (old.left, p.n, passed_kept start old.left p.n a b c p.passed h)

  pub carry_tears : (k : ℕ) → Torn b c (line m.raw) → DrainFails WriteFailed start a c i k
  carry_tears k h =
      let torn : Torn b c (line raw) = rw (← text) h in
      part_torn start raw new.left p.n a b c (rw (← given.taken) p.passed) framed torn

no_message : (start raw : List ℕ) (old new : Held) (fault : MsgFault) (a b : Option (List ℕ)) (i j : ℕ) → Advances start a b old.left i j → GivesFrame old raw new → IsFault raw fault.code fault.offset
    → StopsAt (Message fault) start a b i j
no_message start raw old new fault a b i j p given is = record {
  rest = old.left;
  advances = p;
  fault = record { raw = raw; more = new.left; size = given.size; front = given.taken; fault_is = is };
}

pub entry_fails : (e : Stop) (start raw : List ℕ) (old new : Held) (a b : Option (List ℕ)) (i j : ℕ) → Advances start a b old.left i j → GivesFrame old raw new → EntryFails e raw → DrainFails e start a b i j
entry_fails (Frame f) start raw old new a b i j p given h = absurd h
entry_fails (Message fault) start raw old new a b i j p given h = no_message start raw old new fault a b i j p given h
entry_fails NoMemory start raw old new a b i j p given h = (old.left, p.n, p.passed)
entry_fails ReadFailed start raw old new a b i j p given h = absurd h
entry_fails WriteFailed start raw old new a b i j p given h = absurd h

-- what is still to come after a read
pub after_read : (ahead : List ℕ) (new : Option (List ℕ)) (bytes : List ℕ) → Consumes (Some ahead) new bytes → (next : List ℕ) × (new ≡ Some next) × (ahead ≡ bytes ++ next)
after_read ahead None bytes h = absurd h
after_read ahead (Some next) bytes h = (next, refl, h)

pub at_end : (ahead : List ℕ) (new : Option (List ℕ)) → Consumes (Some ahead) new [] → IsAtEnd new → ahead ≡ []
at_end ahead None h e = absurd h
at_end ahead (Some next) h e = h ∙ e

fault_more : (fault : MsgFault) (bytes more : List ℕ) → CarriesFault fault bytes → CarriesFault fault (bytes ++ more)
fault_more fault bytes more n = record { raw = n.raw; more = n.more ++ more; size = n.size; front = ap (λ x. x ++ more) n.front ∙ append_assoc (frame n.raw) n.more more; fault_is = n.fault_is }

is_part_more : (part rest more : List ℕ) → IsPart part rest → IsPart part (rest ++ more)
is_part_more part rest more (inl e) = inl e
is_part_more part rest more (inr p) = inr (p.0, p.1 ++ more, p.2, p.3, ap (λ x. x ++ more) p.4 ∙ append_assoc (frame p.0) p.1 more, p.5)

part_more : (bytes more : List ℕ) (a b : Option (List ℕ)) → PartPassed bytes a b → PartPassed (bytes ++ more) a b
part_more bytes more a b p = record {
  messages = p.messages;
  rest = p.rest ++ more;
  part = p.part;
  each = p.each;
  whole = ap (λ x. x ++ more) p.whole ∙ append_assoc (stream p.messages) p.rest more;
  is_part = is_part_more p.part p.rest more p.is_part;
  wrote = p.wrote;
}

advances_more : (bytes rest more : List ℕ) (a b : Option (List ℕ)) (i j : ℕ) → Advances bytes a b rest i j → Advances (bytes ++ more) a b (rest ++ more) i j
advances_more bytes rest more a b i j p = record { n = p.n; passed = passed_more bytes rest more p.n a b p.passed; taken = p.taken }

stops_more : (e : Stop) (bytes more : List ℕ) (a b : Option (List ℕ)) (i j : ℕ) → ((rest : List ℕ) → BeginsWith e rest → BeginsWith e (rest ++ more)) → StopsAt e bytes a b i j → StopsAt e (bytes ++ more) a b i j
stops_more e bytes more a b i j stays s = record { rest = s.rest ++ more; advances = advances_more bytes s.rest more a b i j s.advances; fault = stays s.rest s.fault }

-- more bytes after a fault don't mend it
drain_more : (e : Stop) (bytes more : List ℕ) (a b : Option (List ℕ)) (i j : ℕ) → DrainFails e bytes a b i j → StopIs e (bytes ++ more) a b i j
drain_more (Frame BadLength) bytes more a b i j h = stops_more (Frame BadLength) bytes more a b i j (λ rest. bad_more rest more) h
drain_more (Frame TooLong) bytes more a b i j h = stops_more (Frame TooLong) bytes more a b i j (λ rest. long_more rest more) h
drain_more (Frame Truncated) bytes more a b i j h = absurd h
drain_more (Frame OutOfMemory) bytes more a b i j h = absurd h
drain_more (Frame Failed) bytes more a b i j h = absurd h
drain_more (Message f) bytes more a b i j h = stops_more (Message f) bytes more a b i j (λ rest. fault_more f rest more) h
drain_more NoMemory bytes more a b i j h = (h.0 ++ more, h.1, passed_more bytes h.0 more h.1 a b h.2)
drain_more ReadFailed bytes more a b i j h = absurd h
drain_more WriteFailed bytes more a b i j h = part_more bytes more a b h

part_trans : (bytes mid : List ℕ) (n : ℕ) (a b c : Option (List ℕ)) → Passed bytes a b mid n → PartPassed mid b c → PartPassed bytes a c
part_trans bytes mid n a b c p q = record {
  messages = p.messages ++ q.messages;
  rest = q.rest;
  part = q.part;
  each = all_append p.messages q.messages p.each q.each;
  whole = p.whole ∙ ap (λ x. stream p.messages ++ x) q.whole ∙ sym (append_assoc (stream p.messages) (stream q.messages) q.rest) ∙ ap (λ x. x ++ q.rest) (sym (flat_map-append frame p.messages q.messages));
  is_part = q.is_part;
  wrote = rw (flat_map-append line p.messages q.messages, append_assoc (lines p.messages) (lines q.messages) q.part) (Appends-trans a b c (lines p.messages) (lines q.messages ++ q.part) p.wrote q.wrote);
}

stops_after : (e : Stop) (bytes mid : List ℕ) (a b c : Option (List ℕ)) (i j k : ℕ) → Advances bytes a b mid i j → StopsAt e mid b c j k → StopsAt e bytes a c i k
stops_after e bytes mid a b c i j k p s = record { rest = s.rest; advances = advances_trans bytes mid s.rest a b c i j k p s.advances; fault = s.fault }

-- a stop after what was passed before
pub stop_after : (e : Stop) (bytes mid : List ℕ) (a b c : Option (List ℕ)) (i j k : ℕ) → Advances bytes a b mid i j → StopIs e mid b c j k → StopIs e bytes a c i k
stop_after (Frame f) bytes mid a b c i j k p h = stops_after (Frame f) bytes mid a b c i j k p h
stop_after (Message f) bytes mid a b c i j k p h = stops_after (Message f) bytes mid a b c i j k p h
stop_after NoMemory bytes mid a b c i j k p h = (h.0, p.n + h.1, passed_trans bytes mid h.0 p.n h.1 a b c p.passed h.2)
stop_after ReadFailed bytes mid a b c i j k p h = part_trans bytes mid p.n a b c p.passed h
stop_after WriteFailed bytes mid a b c i j k p h = part_trans bytes mid p.n a b c p.passed h

-- after the flush that a turn begins with
stop_kept : (e : Stop) (bytes : List ℕ) (a b c : Option (List ℕ)) (i j : ℕ) → Keeps a b → StopIs e bytes b c i j → StopIs e bytes a c i j
stop_kept e bytes a b c i j kept h = stop_after e bytes bytes a b c i i j (advances_nothing bytes a b i kept) h

-- a turn whose frames are passed up to a stop
-- a turn that can't read has passed nothing
pub read_stops : (e : Stop) (before after : ℕ) (bytes : List ℕ) (a b : Option (List ℕ)) (i : ℕ) → Keeps a b → ReadCause e before after → StopIs e bytes a b i i
read_stops ReadFailed before after bytes a b i kept h = part_of_passed bytes bytes 0 a b (passed_nothing bytes a b kept)
read_stops NoMemory before after bytes a b i kept h = (bytes, 0, passed_nothing bytes a b kept)
read_stops WriteFailed before after bytes a b i kept h = absurd h
read_stops (Frame fault) before after bytes a b i kept h = absurd h
read_stops (Message fault) before after bytes a b i kept h = absurd h

pub turn_stops : (e : Stop) (left ahead next bytes held : List ℕ) (a b c : Option (List ℕ)) (i j : ℕ) → Keeps a b → ahead ≡ bytes ++ next → held ≡ left ++ bytes → DrainFails e held b c i j → StopIs e (left ++ ahead) a c i j
turn_stops e left ahead next bytes held a b c i j kept split is h =
    let whole : (left ++ bytes) ++ next ≡ left ++ ahead = append_assoc left bytes next ∙ ap (λ x. left ++ x) (sym split) in
    let fails : DrainFails e (left ++ bytes) b c i j = rw (← is) h in
    let stops : StopIs e (left ++ ahead) b c i j = rw (← whole) (drain_more e (left ++ bytes) next b c i j fails) in
    stop_kept e (left ++ ahead) a b c i j kept stops

pub turn_goes_on : (left ahead next bytes held rest : List ℕ) (a b c : Option (List ℕ)) (i j : ℕ) → Keeps a b → ahead ≡ bytes ++ next → held ≡ left ++ bytes → Advances held b c rest i j → Advances (left ++ ahead) a c (rest ++ next) i j
turn_goes_on left ahead next bytes held rest a b c i j kept split is h =
    let whole : (left ++ bytes) ++ next ≡ left ++ ahead = append_assoc left bytes next ∙ ap (λ x. left ++ x) (sym split) in
    let passed : Advances (left ++ bytes) b c rest i j = rw (← is) h in
    let all : Advances (left ++ ahead) b c (rest ++ next) i j = rw (← whole) (advances_more (left ++ bytes) rest next b c i j passed) in
    advances_trans (left ++ ahead) (left ++ ahead) (rest ++ next) a b c i i j (advances_nothing (left ++ ahead) a b i kept) all

-- the calls of a loop, where the count may have begun at any number
pub calls_next : (first i now next : ℕ) → (i ≡ 0 → now ≡ first) → (0 < i → now ≡ count_after first i) → next ≡ count_after now 1 → next ≡ count_after first (i + 1)
calls_next first zero now next start later e = e ∙ ap (λ n. count_after n 1) (start refl)
calls_next first (suc i) now next start later e = let h : now ≡ count_after first (suc i) = later (omega arith) in omega (arith, h, e)
