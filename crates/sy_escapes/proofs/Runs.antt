-- Lines that are written together are lines that are written one after the other.
use Rattle.std.proofs.Common.{inl, inr, ◌≡◌, ℕ, ◌+◌, ◌<◌, ◌≤◌, List, [], ◌∷◌, ◌++◌, length, take, drop, refl, sym, ap, subst, ◌∙◌, arith, take-add}
use Rattle.std.proofs.lemmas.List.{append-nil, append_assoc, drop-take, drop_all, length-drop, length-take-le, take-take, take_all}
use Rattle.std.specs.Prelude.{IfNone, Option, Some, None}
use Rattle.std.specs.Io.KnownBytes.{Appends, Keeps}
use Rattle.sy_actions.specs.declared.device.DeviceFault.{DeviceFault}
use Rattle.sy_actions.specs.declared.device.DeviceFault.TheVariants.{NoMemory, Write}
use Rattle.sy_wire.specs.Messages.{Said}
use Rattle.sy_wire.specs.Streams.{with_held}
use Rattle.sy_escapes.specs.Escapes.{lines_of}
use Rattle.sy_escapes.specs.Sinks.{Begins, Wrote, begun, last_line, rest}
use Rattle.sy_escapes.specs.declared.batch.Batch.{Batch}
use Rattle.sy_escapes.specs.internal.Lines.{IsCut}
use Rattle.sy_escapes.specs.internal.Runs.{Run}
use Rattle.sy_escapes.proofs.Lines.{begins_none, begins_part, begins_text, begins_then, keeps_same, lines_append}

nothing_added : (a : Option (List ℕ)) (r s : List ℕ) → r ≡ [] → s ≡ [] → Appends (with_held a r) (with_held a s) []
nothing_added a r s none empty =
    begins_none (with_held a r) (with_held a s) (subst (λ t. Keeps (with_held a r) (with_held a t)) (none ∙ sym empty) (keeps_same (with_held a r)))

-- there is no memory for a line
pub no_room : (a : Option (List ℕ)) (before after : Batch) (messages : List Said) → 0 < length messages → rest before ≡ [] → after.text.items ≡ lines_of (take 0 messages) → Run a a before after messages 0 (Some NoMemory)
no_room a before after messages some nothing none =
    let empty : rest after ≡ [] = drop_all after.out after.text.items (omega (arith, ap length none)) in
    Run.whole NoMemory some empty (nothing_added a (rest before) (rest after) nothing empty)

text_kept : (a b : Option (List ℕ)) (gathered wrote : Batch) → gathered.out ≡ 0 → wrote.text.items ≡ gathered.text.items → Keeps (with_held a (rest gathered)) (with_held b (rest wrote)) → Keeps (with_held a wrote.text.items) (with_held b (rest wrote))
text_kept a b gathered wrote out same kept =
    subst (λ t. Keeps (with_held a t) (with_held b (rest wrote))) (ap (λ n. drop n gathered.text.items) out ∙ sym same) kept

-- all is out
pub all_out :
    (a b : Option (List ℕ)) (before gathered wrote : Batch) (messages : List Said) (count : ℕ) → rest before ≡ [] → gathered.out ≡ 0 → gathered.text.items ≡ lines_of (take count messages)
    → wrote.text.items ≡ gathered.text.items → rest wrote ≡ [] → Keeps (with_held a (rest gathered)) (with_held b (rest wrote)) → Run a b before wrote messages count None
all_out a b before gathered wrote messages count nothing out lines same empty kept =
    Run.all empty
    (subst (Appends (with_held a (rest before)) (with_held b (rest wrote))) (same ∙ lines)
    (begins_text a b (rest before) wrote.text.items (rest wrote) nothing (text_kept a b gathered wrote out same kept)))

-- a write failed
pub cut_out :
    (a b : Option (List ℕ)) (before gathered wrote after : Batch) (messages : List Said) (count whole : ℕ) → count ≤ length messages → rest before ≡ [] → gathered.out ≡ 0
    → gathered.text.items ≡ lines_of (take count messages) → wrote.text.items ≡ gathered.text.items → Keeps (with_held a (rest gathered)) (with_held b (rest wrote))
    → IsCut (take count messages) wrote after whole → Run a b before after messages whole (Some Write)
cut_out a b before gathered wrote after messages count whole few nothing out lines same kept cut =
    let size : length (take count messages) ≡ count = length-take-le count messages few in
    let within : whole < length messages = omega (arith, cut.within, size, few) in
    let front : take whole (take count messages) ≡ take whole messages = take-take whole count messages (omega (arith, cut.within, size)) in
    let further : take (whole + 1) (take count messages) ≡ take (whole + 1) messages = take-take (whole + 1) count messages (omega (arith, cut.within, size)) in
    let held = text_kept a b gathered wrote out same kept in
    elim cut.parts [
      | inl p ↦
          let is : take wrote.out wrote.text.items ++ rest after ≡ lines_of (take whole messages) =
          ap (λ t. take wrote.out wrote.text.items ++ t) p.0 ∙ append-nil (take wrote.out wrote.text.items) ∙ p.1 ∙ ap lines_of front in
          Run.whole Write within p.0 (begins_part a b (rest before) wrote.text.items (rest after) (lines_of (take whole messages)) wrote.out nothing held is)
      | inr p ↦
          Run.torn cut.next within (sym further ∙ cut.is_next ∙ ap (λ t. t ++ cut.next ∷ []) front) p.0
          (begins_part a b (rest before) wrote.text.items (rest after) (lines_of (take (whole + 1) messages)) wrote.out nothing held (p.1 ∙ ap lines_of further))
    ]

-- ---- one run after the other

lines_add : (n m : ℕ) (messages : List Said) → lines_of (take n messages) ++ lines_of (take m (drop n messages)) ≡ lines_of (take (n + m) messages)
lines_add n m messages = sym (ap lines_of (take-add n m messages) ∙ lines_append (take n messages) (take m (drop n messages)))

next_add : (n m : ℕ) (messages : List Said) (next : Said) → take (m + 1) (drop n messages) ≡ take m (drop n messages) ++ next ∷ [] → take (n + m + 1) messages ≡ take (n + m) messages ++ next ∷ []
next_add n m messages next is =
    ap (λ k. take k messages) (omega arith) ∙ take-add n (m + 1) messages ∙ ap (λ t. take n messages ++ t) is
    ∙ sym (append_assoc (take n messages) (take m (drop n messages)) (next ∷ [])) ∙ ap (λ t. t ++ next ∷ []) (sym (take-add n m messages))

further_within : (n m : ℕ) (messages : List Said) → m < length (drop n messages) → n + m < length messages
further_within n m messages within = omega (arith, within, length-drop n messages)

chain :
    (a b c : Option (List ℕ)) (first middle last : Batch) (messages : List Said) (n m : ℕ) → Appends (with_held a (rest first)) (with_held b (rest middle)) (lines_of (take n messages))
    → Appends (with_held b (rest middle)) (with_held c (rest last)) (lines_of (take m (drop n messages))) → Appends (with_held a (rest first)) (with_held c (rest last)) (lines_of (take (n + m) messages))
chain a b c first middle last messages n m one two =
    subst (Appends (with_held a (rest first)) (with_held c (rest last))) (lines_add n m messages)
    (begins_then (with_held a (rest first)) (with_held b (rest middle)) (with_held c (rest last)) (lines_of (take n messages)) (lines_of (take m (drop n messages))) one two)

adds_of : {a b : Option (List ℕ)} {first middle : Batch} {messages : List Said} {n : ℕ} {fault : Option DeviceFault} → Run a b first middle messages n fault → fault ≡ None
    → Appends (with_held a (rest first)) (with_held b (rest middle)) (lines_of (take n messages))
adds_of (Run.all empty adds) none = adds
adds_of (Run.whole fault within empty adds) none = cc
adds_of (Run.torn next within is_next is adds) none = cc

pub run_then :
    (a b c : Option (List ℕ)) (first middle last : Batch) (messages : List Said) (n m : ℕ) (fault : Option DeviceFault) → Run a b first middle messages n None
    → Run b c middle last (drop n messages) m fault → Run a c first last messages (n + m) fault
run_then a b c first middle last messages n m fault one (Run.all empty adds) = Run.all empty (chain a b c first middle last messages n m (adds_of one refl) adds)
run_then a b c first middle last messages n m fault one (Run.whole why within empty adds) =
    Run.whole why (further_within n m messages within) empty (chain a b c first middle last messages n m (adds_of one refl) adds)
run_then a b c first middle last messages n m fault one (Run.torn next within is_next is adds) =
    Run.torn next (further_within n m messages within) (next_add n m messages next is_next) is
    (subst (λ k. Appends (with_held a (rest first)) (with_held c (rest last)) (lines_of (take k messages))) (omega arith)
    (chain a b c first middle last messages n (m + 1) (adds_of one refl) adds))

pub run_then_all :
    (a b c : Option (List ℕ)) (first middle last : Batch) (messages later : List Said) (n m : ℕ) (fault fault' : Option DeviceFault) → Run a b first middle messages n None
    → later ≡ drop n messages → fault ≡ fault' → Run b c middle last later m fault → Run a c first last messages (n + m) fault'
run_then_all a b c first middle last messages later n m fault fault' one is same two =
    subst (Run a c first last messages (n + m)) same
    (run_then a b c first middle last messages n m fault one (subst (λ l. Run b c middle last l m fault) is two))

pub run_empty : {a b : Option (List ℕ)} {first middle : Batch} {messages : List Said} {n : ℕ} {fault : Option DeviceFault} → Run a b first middle messages n fault → fault ≡ None → rest middle ≡ []
run_empty (Run.all empty adds) none = empty
run_empty (Run.whole fault within empty adds) none = cc
run_empty (Run.torn next within is_next is adds) none = cc

pub run_none : (a : Option (List ℕ)) (batch : Batch) (messages : List Said) → rest batch ≡ [] → Run a a batch batch messages 0 None
run_none a batch messages nothing = Run.all nothing (nothing_added a (rest batch) (rest batch) nothing nothing)

-- ---- an offer

pub not_resumed : (a b : Option (List ℕ)) (before after : Batch) (messages : List Said) (fault : DeviceFault) → last_line after ≡ last_line before → Keeps (with_held a (rest before)) (with_held b (rest after)) → Wrote a b before after messages 0 (Some fault)
not_resumed a b before after messages fault same kept = record {
  lines = [];
  begins = Begins.nothing fault refl same;
  appends = begins_none (with_held a (rest before)) (with_held b (rest after)) kept;
}

kept_then : (a b c : Option (List ℕ)) (before middle after : Batch) (text : List ℕ) → Keeps (with_held a (rest before)) (with_held b (rest middle)) → Appends (with_held b (rest middle)) (with_held c (rest after)) text → Appends (with_held a (rest before)) (with_held c (rest after)) text
kept_then a b c before middle after text kept adds =
    begins_then (with_held a (rest before)) (with_held b (rest middle)) (with_held c (rest after)) [] text (begins_none (with_held a (rest before)) (with_held b (rest middle)) kept) adds

pub resumed :
    (a b c : Option (List ℕ)) (before middle after : Batch) (messages : List Said) (n m : ℕ) (fault : Option DeviceFault) → n ≡ begun before messages → n ≤ length messages
    → Keeps (with_held a (rest before)) (with_held b (rest middle)) → Run b c middle after (drop n messages) m fault → IfNone fault (m ≡ length (drop n messages)) → Wrote a c before after messages (n + m) fault
resumed a b c before middle after messages n m fault is few kept (Run.all empty adds) full =
    let all : take m (drop n messages) ≡ drop (begun before messages) messages = take_all m (drop n messages) (omega (arith, full)) ∙ ap (λ k. drop k messages) is in
    record {
      lines = drop (begun before messages) messages;
      begins = Begins.all (omega (arith, full, few, length-drop n messages)) empty;
      appends = subst (λ l. Appends (with_held a (rest before)) (with_held c (rest after)) (lines_of l)) all (kept_then a b c before middle after (lines_of (take m (drop n messages))) kept adds);
    }
resumed a b c before middle after messages n m fault is few kept (Run.whole why within empty adds) full =
    let some : take m (drop n messages) ≡ drop (begun before messages) (take (n + m) messages) = sym (drop-take n m messages) ∙ ap (λ k. drop k (take (n + m) messages)) is in
    record {
      lines = drop (begun before messages) (take (n + m) messages);
      begins = Begins.whole why (further_within n m messages within) empty;
      appends = subst (λ l. Appends (with_held a (rest before)) (with_held c (rest after)) (lines_of l)) some (kept_then a b c before middle after (lines_of (take m (drop n messages))) kept adds);
    }
resumed a b c before middle after messages n m fault is few kept (Run.torn next within is_next last adds) full =
    let some : take (m + 1) (drop n messages) ≡ drop (begun before messages) (take (n + m + 1) messages) =
    sym (drop-take n (m + 1) messages) ∙ ap (λ k. drop n (take k messages)) (omega arith) ∙ ap (λ k. drop k (take (n + m + 1) messages)) is in
    record {
      lines = drop (begun before messages) (take (n + m + 1) messages);
      begins = Begins.torn next (further_within n m messages within) (next_add n m messages next is_next) last;
      appends = subst (λ l. Appends (with_held a (rest before)) (with_held c (rest after)) (lines_of l)) some (kept_then a b c before middle after (lines_of (take (m + 1) (drop n messages))) kept adds);
    }
