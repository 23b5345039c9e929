-- What the steps of a connection do to what it holds.
use Rattle.std.proofs.Common.{◌≡◌, ℕ, List, [], ◌∷◌, ◌++◌, sym, ap, ◌∙◌, append_assoc, append-nil, length, subst}
use Rattle.std.proofs.lemmas.List.Concat.{flat_map-append}
use Rattle.sy_runtime.specs.declared.untaken.Item.{Item}
use Rattle.sy_wire.specs.Frames.{Held as Framed, IsSize, frame, stream}
use Rattle.sy_wire.specs.Steps.{GivesFrame}
use Rattle.sy_runtime.specs.Connections.{Counts, Kept}
use Rattle.sy_runtime.specs.internal.Held.{Holds, IsItem, Stand}

stand_more : (raws : List (List ℕ)) (items : List Item) (raw : List ℕ) (item : Item) → Stand raws items → IsItem raw item
    → IsSize (length raw) → Stand (raws ++ raw ∷ []) (items ++ item ∷ [])
stand_more _ _ raw item Stand.nothing is size = Stand.one raw item is size Stand.nothing
stand_more _ _ raw item (Stand.one {raws} {items} first one first_is first_size later) is size =
    Stand.one first one first_is first_size (stand_more raws items raw item later is size)

-- one frame more was gathered
gathered : (read : List ℕ) (end : Counts) (kept : Kept) (batch : List Item) (left raw left' : List ℕ) (item : Item)
    → Holds read end kept batch left → IsSize (length raw) → left ≡ frame raw ++ left' → IsItem raw item → Holds read end kept (batch ++ item ∷ []) left'
gathered read end kept batch left raw left' item h size taken is = record {
  frames = h.frames;
  unread = h.unread;
  pending = h.pending ++ raw ∷ [];
  whole = h.whole ∙ ap (λ x. stream h.frames ++ x)
      (ap (λ x. stream h.pending ++ x) taken
      ∙ sym (append_assoc (stream h.pending) (frame raw) left')
      ∙ ap (λ x. (stream h.pending ++ x) ++ left') (sym (append-nil (frame raw)))
      ∙ ap (λ x. x ++ left') (sym (flat_map-append frame h.pending (raw ∷ []))));
  count = h.count;
  none = h.none;
  sorted = h.sorted;
  keeps = h.keeps;
  stand = stand_more h.pending batch raw item h.stand is size;
}

pub gathered_one : (read : List ℕ) (end : Counts) (kept : Kept) (batch batch' : List Item) (old new : Framed) (raw : List ℕ) (item : Item)
    → Holds read end kept batch old.left → GivesFrame old raw new → IsItem raw item → batch' ≡ batch ++ item ∷ [] → Holds read end kept batch' new.left
gathered_one read end kept batch batch' old new raw item h gives is e =
    subst (λ b. Holds read end kept b new.left) (sym e) (gathered read end kept batch old.left raw new.left item h gives.size gives.taken is)
