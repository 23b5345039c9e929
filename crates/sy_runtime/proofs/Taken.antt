-- What a connection holds once the board took what stood first in its batch.
use Rattle.std.proofs.Common.{◌≡◌, ℕ, ◌+◌, List, [], ◌∷◌, ◌++◌, Some, None, refl, sym, ap, ◌∙◌, append_assoc, append-nil, length, length-append, subst}
use Rattle.std.specs.Global.{Vec}
use Rattle.std.specs.Prelude.{Option, map}
use Rattle.std.proofs.lemmas.List.Concat.{flat_map-append}
use Rattle.sy_chain.specs.Entries.{Entry}
use Rattle.sy_wire.specs.Frames.{IsSize, frame, stream}
use Rattle.sy_wire.specs.Messages.{IsMessage}
use Rattle.sy_wire.specs.declared.message.MsgFault.{MsgFault}
use Rattle.sy_rules.specs.PlanValue.{Plan}
use Rattle.sy_board.specs.relay.Plans.{IsDue, input_at}
use Rattle.sy_board.specs.relay.Steps.{IsOfInput}
use Rattle.sy_runtime.specs.Connections.{Begins, Counts, IsNoText, IsText, KeepsMore, Kept, Sorted, rest_of, since, text_of}
use Rattle.sy_runtime.specs.declared.untaken.Item.{Item}
use Rattle.sy_runtime.specs.declared.untaken.Item.TheVariants.{Message, Other, Unmade}
use Rattle.sy_runtime.specs.internal.Held.{Holds, IsItem, Stand}

-- an entry that follows an input's list, with all due of it, is one of that input
pub of_input : (plan : Plan) (input : ℕ) (old new : Entry) (list due : ℕ) → new ≡ record old { list = list; input = input; due = due }
    → list ≡ (input_at plan input).list → IsDue plan list old.message due → IsOfInput plan input new
of_input plan input old new list due is its due_is = subst (IsOfInput plan input) (sym is) (record {
  input_is = refl;
  list = its;
  due = subst (λ n. IsDue plan n old.message due) its due_is;
})

is_text : (raw : List ℕ) (item : Item) → IsItem raw item → text_of item ≡ raw
is_text raw (Message node) is = is.1
is_text raw (Other text why) is = is.1
is_text raw (Unmade text) is = is

-- items are gathered of the texts that they have
texts : (pending : List (List ℕ)) (batch : List Item) → Stand pending batch → pending ≡ map text_of batch
texts _ _ Stand.nothing = refl
texts _ _ (Stand.one {raws} {items} raw item is size later) =
    ap (λ x. x ∷ raws) (sym (is_text raw item is)) ∙ ap (λ xs. text_of item ∷ xs) (texts raws items later)

-- what is held is what was counted, and the rest
pub begins : (read : List ℕ) (end : Counts) (kept : Kept) (batch : List Item) (left : List ℕ) → Holds read end kept batch left → Begins read end kept (rest_of batch left)
begins read end kept batch left h = record {
  frames = h.frames;
  unread = h.unread;
  whole = h.whole ∙ ap (λ p. stream h.frames ++ (stream p ++ left)) (texts h.pending batch h.stand);
  count = h.count;
  none = h.none;
  sorted = h.sorted;
  keeps = h.keeps;
}

-- one frame more at the end
sorted_unread : (frames unread : List (List ℕ)) (took : ℕ) (raw : List ℕ) → Sorted frames unread took → IsNoText raw → IsSize (length raw)
    → Sorted (frames ++ raw ∷ []) (unread ++ raw ∷ []) took
sorted_unread _ _ _ raw Sorted.nothing is size = Sorted.unread raw is size Sorted.nothing
sorted_unread _ _ _ raw (Sorted.unread {later} {unread} {took} first first_is first_size sorted) is size =
    Sorted.unread first first_is first_size (sorted_unread later unread took raw sorted is size)
sorted_unread _ _ _ raw (Sorted.message {later} {unread} {took} first first_is first_size sorted) is size =
    Sorted.message first first_is first_size (sorted_unread later unread took raw sorted is size)

sorted_message : (frames unread : List (List ℕ)) (took : ℕ) (raw : List ℕ) → Sorted frames unread took → IsText raw → IsSize (length raw)
    → Sorted (frames ++ raw ∷ []) unread (took + 1)
sorted_message _ _ _ raw Sorted.nothing is size = Sorted.message raw is size Sorted.nothing
sorted_message _ _ _ raw (Sorted.unread {later} {unread} {took} first first_is first_size sorted) is size =
    Sorted.unread first first_is first_size (sorted_message later unread took raw sorted is size)
sorted_message _ _ _ raw (Sorted.message {later} {unread} {took} first first_is first_size sorted) is size =
    Sorted.message first first_is first_size (sorted_message later unread took raw sorted is size)

-- what was kept before, and one text more
keeps_one : (a b c : Option (List (List ℕ))) (texts : List (List ℕ)) (raw : List ℕ) → KeepsMore a b texts → KeepsMore b c (raw ∷ [])
    → KeepsMore a c (texts ++ raw ∷ [])
keeps_one None b c texts raw first more = tt
keeps_one (Some xs) None c texts raw first more = absurd first
keeps_one (Some xs) (Some ys) None texts raw first more = absurd more
keeps_one (Some xs) (Some ys) (Some zs) texts raw first more =
    more ∙ ap (λ t. t ++ raw ∷ []) first ∙ append_assoc xs texts (raw ∷ [])

-- the frames that were counted, and one more
one_more : (read left raw : List ℕ) (pending frames : List (List ℕ)) → read ≡ stream frames ++ (stream (raw ∷ pending) ++ left)
    → read ≡ stream (frames ++ raw ∷ []) ++ (stream pending ++ left)
one_more read left raw pending frames whole =
    whole
    ∙ ap (λ x. stream frames ++ x) (append_assoc (frame raw) (stream pending) left)
    ∙ sym (append_assoc (stream frames) (frame raw) (stream pending ++ left))
    ∙ ap (λ x. (stream frames ++ x) ++ (stream pending ++ left)) (sym (append-nil (frame raw)))
    ∙ ap (λ x. x ++ (stream pending ++ left)) (sym (flat_map-append frame frames (raw ∷ [])))

-- an item stands first
record First (item : Item) (batch : List Item) (pending : List (List ℕ)) : Type 0 where
  raw : List ℕ
  others : List (List ℕ)
  same : pending ≡ raw ∷ others
  is : IsItem raw item
  size : IsSize (length raw)
  stand : Stand others batch

first_of : (item : Item) (batch : List Item) (pending : List (List ℕ)) → Stand pending (item ∷ batch) → First item batch pending
first_of item batch _ (Stand.one {raws} raw _ is size later) =
    record { raw = raw; others = raws; same = refl; is = is; size = size; stand = later }

-- the message that stood first was taken
pub took_one : (read : List ℕ) (end : Counts) (kept : Kept) (end' : Counts) (item : Item) (node : Entry) (later : List Item) (left : List ℕ)
    → item ≡ Message node → end' ≡ record end { frames = end.frames + 1; took = end.took + 1 } → Holds read end kept (item ∷ later) left
    → Holds read end' kept later left
took_one read end kept end' item node later left is more held =
    let h : Holds read end kept (Message node ∷ later) left = subst (λ i. Holds read end kept (i ∷ later) left) is held in
    let f = first_of (Message node) later h.pending h.stand in
    subst (λ e. Holds read e kept later left) (sym more) (record {
      frames = h.frames ++ f.raw ∷ [];
      unread = h.unread;
      pending = f.others;
      whole = one_more read left f.raw f.others h.frames (h.whole ∙ ap (λ p. stream h.frames ++ (stream p ++ left)) f.same);
      count = length-append h.frames (f.raw ∷ []) ∙ ap (λ n. n + 1) h.count;
      none = h.none;
      sorted = sorted_message h.frames h.unread end.took f.raw h.sorted (node.message, f.is.0, f.is.1) f.size;
      keeps = h.keeps;
      stand = f.stand;
    })

-- the frame that stood first is no message, and was kept
pub unread_one : (read : List ℕ) (end end' : Counts) (before after after' : Option (List (List ℕ))) (item : Item) (text : Vec ℕ) (why : MsgFault)
    (later : List Item) (left : List ℕ) → item ≡ Other text why → KeepsMore after after' (text.items ∷ [])
    → end' ≡ record end { frames = end.frames + 1; unread = end.unread + 1 } → Holds read end (since before after) (item ∷ later) left
    → Holds read end' (since before after') later left
unread_one read end end' before after after' item text why later left is keeps more held =
    let h : Holds read end (since before after) (Other text why ∷ later) left =
    subst (λ i. Holds read end (since before after) (i ∷ later) left) is held in
    let f = first_of (Other text why) later h.pending h.stand in
    subst (λ e. Holds read e (since before after') later left) (sym more) (record {
      frames = h.frames ++ f.raw ∷ [];
      unread = h.unread ++ f.raw ∷ [];
      pending = f.others;
      whole = one_more read left f.raw f.others h.frames (h.whole ∙ ap (λ p. stream h.frames ++ (stream p ++ left)) f.same);
      count = length-append h.frames (f.raw ∷ []) ∙ ap (λ n. n + 1) h.count;
      none = length-append h.unread (f.raw ∷ []) ∙ ap (λ n. n + 1) h.none;
      sorted = sorted_unread h.frames h.unread end.took f.raw h.sorted (why.code, why.offset, f.is.0) f.size;
      keeps = keeps_one before after after' h.unread f.raw h.keeps (subst (λ t. KeepsMore after after' (t ∷ [])) f.is.1 keeps);
      stand = f.stand;
    })

-- an entry of the message stands for its text whatever list it follows
same_stand : (node node' : Entry) (batch : List Item) (pending : List (List ℕ)) → node'.message ≡ node.message → Stand pending (Message node ∷ batch)
    → Stand pending (Message node' ∷ batch)
same_stand node node' batch _ same (Stand.one {raws} raw _ is size later) =
    Stand.one raw (Message node') (subst (λ m. IsMessage m) (sym same) is.0, ap (λ m. m.raw) same ∙ is.1) size later

pub back : (read : List ℕ) (end : Counts) (kept : Kept) (item : Item) (node node' : Entry) (later : List Item) (left : List ℕ) → item ≡ Message node
    → node'.message ≡ node.message → Holds read end kept (item ∷ later) left → Holds read end kept (Message node' ∷ later) left
back read end kept item node node' later left is same held =
    let h : Holds read end kept (Message node ∷ later) left = subst (λ i. Holds read end kept (i ∷ later) left) is held in
    record {
      frames = h.frames;
      unread = h.unread;
      pending = h.pending;
      whole = h.whole;
      count = h.count;
      none = h.none;
      sorted = h.sorted;
      keeps = h.keeps;
      stand = same_stand node node' later h.pending same h.stand;
    }

none_pending : (pending : List (List ℕ)) → Stand pending [] → pending ≡ []
none_pending _ Stand.nothing = refl

-- once the batch is taken, what is left in the framer follows
pub settled : (read : List ℕ) (end : Counts) (kept : Kept) (batch : List Item) (left : List ℕ) → batch ≡ [] → Holds read end kept batch left → Begins read end kept left
settled read end kept batch left none held =
    let h : Holds read end kept [] left = subst (λ b. Holds read end kept b left) none held in
    record {
      frames = h.frames;
      unread = h.unread;
      whole = h.whole ∙ ap (λ p. stream h.frames ++ (stream p ++ left)) (none_pending h.pending h.stand);
      count = h.count;
      none = h.none;
      sorted = h.sorted;
      keeps = h.keeps;
    }

-- with nothing in the batch, what is left in the framer follows at once
pub unsettled : (read : List ℕ) (end : Counts) (kept : Kept) (batch : List Item) (left : List ℕ) → batch ≡ [] → Begins read end kept left → Holds read end kept batch left
unsettled read end kept batch left none b = subst (λ xs. Holds read end kept xs left) (sym none)
    (record {
      frames = b.frames;
      unread = b.unread;
      pending = [];
      whole = b.whole;
      count = b.count;
      none = b.none;
      sorted = b.sorted;
      keeps = b.keeps;
      stand = Stand.nothing;
    })
