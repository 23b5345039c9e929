-- The whole frames of a framer go to those that were gathered.
use Rattle.std.proofs.Common.{◌≡◌, ℕ, List, [], ◌∷◌, ◌++◌, map, inl, inr, refl, sym, subst, ap, ◌∙◌, append_assoc, append-nil, true≢false}
use Rattle.std.specs.Prelude.{◌⊎◌, OnOk, Result, Ok, Err, Option, true}
use Rattle.std.specs.Io.KnownBytes.{Appends}
use Rattle.std.proofs.lemmas.List.Concat.{flat_map-append}
use Rattle.sy_wire.specs.Frames.{Held, IsBadLength, IsTooLong, frame, stream}
use Rattle.sy_wire.specs.Steps.{Breaks, EndFails, Ends, GivesFrame, GivesNone, HadFailed}
use Rattle.sy_wire.specs.declared.framer.FrameFault.{FrameFault}
use Rattle.sy_wire.specs.declared.framer.FrameFault.TheVariants as fault
use Rattle.sy_runtime.specs.Connections.{text_of}
use Rattle.sy_runtime.specs.declared.untaken.Item.{Item}
use Rattle.sy_runtime.specs.declared.untaken.Untaken.{Untaken}
use Rattle.sy_outlets.specs.Left.{IsCut, IsRest, IsRestUpTo}
use Rattle.sy_outlets.specs.internal.Cutting.{Moved, Moves, Stays}

texts_more : (items : List Item) (item : Item) → map text_of (items ++ item ∷ []) ≡ map text_of items ++ text_of item ∷ []
texts_more [] item = refl
texts_more (one ∷ items) item = ap (λ texts. text_of one ∷ texts) (texts_more items item)

pub moved_one : (items items' : List Item) (old new : Held) (raw : List ℕ) (item : Item) → GivesFrame old raw new → items' ≡ items ++ item ∷ []
    → text_of item ≡ raw → Moves items old items' new
moved_one items items' old new raw item gives more is = record {
  raw = raw;
  gathered = ap (λ xs. map text_of xs) more ∙ texts_more items item ∙ ap (λ t. map text_of items ++ t ∷ []) is;
  taken = gives.taken;
  good = gives.stays_good;
}

pub open_end : (items : List Item) (old mid new : Held) → GivesNone old mid → Ends mid new → Stays items old items new
open_end items old mid new none ends = record {
  same = refl;
  left = ap (λ h. h.left) ends.same ∙ ap (λ h. h.left) none.same;
  cut = inl (inl none.is_open);
}

ended_same : (why : FrameFault) (old new : Held) → EndFails why old new → new.left ≡ old.left
ended_same fault.BadLength old new fails = absurd fails
ended_same fault.TooLong old new fails = absurd fails
ended_same fault.Truncated old new fails = ap (λ h. h.left) fails.2.after
ended_same fault.NoMemory old new fails = absurd fails
ended_same fault.Failed old new fails = ap (λ h. h.left) fails.same

pub open_part : (items : List Item) (old mid new : Held) (why : FrameFault) → GivesNone old mid → EndFails why mid new → Stays items old items new
open_part items old mid new why none fails = record {
  same = refl;
  left = ended_same why mid new fails ∙ ap (λ h. h.left) none.same;
  cut = inl (inl none.is_open);
}

pub bad_part : (items : List Item) (old new : Held) → IsBadLength old.left → Breaks old new → Stays items old items new
bad_part items old new bad breaks = record { same = refl; left = ap (λ h. h.left) breaks.after; cut = inl (inr (inl bad)) }

pub long_part : (items : List Item) (old new : Held) → IsTooLong old.left → Breaks old new → Stays items old items new
long_part items old new long breaks = record { same = refl; left = ap (λ h. h.left) breaks.after; cut = inl (inr (inr long)) }

pub failed_part : (items : List Item) (old new : Held) → HadFailed old new → Stays items old items new
failed_part items old new had = record { same = refl; left = ap (λ h. h.left) had.same; cut = inr had.bad }

-- before the first
pub begun : (old : Untaken) → Moved old old.items.items old.framer
begun old = record { framed = []; gathered = sym (append-nil (map text_of old.items.items)); whole = refl; good = λ yes. (yes, refl) }

pub moves_on : (old : Untaken) (items items' : List Item) (framer framer' : Held) → Moved old items framer → Moves items framer items' framer'
    → Moved old items' framer'
moves_on old items items' framer framer' m moves = record {
  framed = m.framed ++ moves.raw ∷ [];
  gathered = moves.gathered ∙ ap (λ x. x ++ moves.raw ∷ []) m.gathered ∙ append_assoc (map text_of old.items.items) m.framed (moves.raw ∷ []);
  whole = m.whole
      ∙ ap (λ x. stream m.framed ++ x) moves.taken
      ∙ sym (append_assoc (stream m.framed) (frame moves.raw) framer'.left)
      ∙ ap (λ x. (stream m.framed ++ x) ++ framer'.left) (sym (append-nil (frame moves.raw)))
      ∙ ap (λ x. x ++ framer'.left) (sym (flat_map-append frame m.framed (moves.raw ∷ [])));
  good = λ yes. absurd (true≢false (sym yes ∙ moves.good));
}

end_of : (old : Untaken) (framed : List (List ℕ)) (left left' : List ℕ) (has_failed : Type 0)
    → (has_failed → (old.framer.has_failed ≡ true) × (framed ≡ [])) → left' ≡ left → IsCut left ⊎ has_failed
    → IsCut left' ⊎ ((old.framer.has_failed ≡ true) × (framed ≡ []))
end_of old framed left left' has_failed good same (inl cut) = inl (subst IsCut (sym same) cut)
end_of old framed left left' has_failed good same (inr failed) = inr (good failed)

pub stays_cut : (old : Untaken) (items items' : List Item) (framer framer' : Held) → Moved old items framer → Stays items framer items' framer'
    → IsRestUpTo old framer'.left (map text_of items')
stays_cut old items items' framer framer' m stays = record {
  framed = m.framed;
  texts_are = ap (λ xs. map text_of xs) stays.same ∙ m.gathered;
  cuts = record {
    whole = m.whole ∙ ap (λ x. stream m.framed ++ x) (sym stays.left);
    cut = end_of old m.framed framer.left framer'.left (framer.has_failed ≡ true) m.good stays.left stays.cut;
  };
}

-- what was written is the rest
pub wrote_rest : {T E : Type 0} (result : Result T E) (old : Untaken) (left : List ℕ) (texts : List (List ℕ)) (a b : Option (List ℕ))
    → IsRestUpTo old left texts → OnOk result (Appends a b (stream texts))
    → OnOk result ((texts : List (List ℕ)) × IsRest old texts × Appends a b (stream texts))
wrote_rest (Ok done) old left texts a b is wrote = (texts, record { left = left; up_to = is }, wrote)
wrote_rest (Err fault) old left texts a b is wrote = tt
