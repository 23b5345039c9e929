-- What comes of the turns of a read.
use Rattle.std.proofs.Common.{◌≡◌, ◌≢◌, ℕ, zero, suc, ◌+◌, ◌-◌, ◌<◌, ◌≤◌, ◌⊎◌, inl, inr, true, false, List, [], ◌∷◌, ◌++◌, length, take, drop, refl, sym, ap, ◌∙◌, arith}
use Rattle.std.specs.Prelude.{Option, None, Some, min}
use Rattle.std.specs.Io.KnownBytes.{Consumes, IsAtEnd, Keeps}
use Rattle.std.proofs.KnownBytes.{Consumes-kept, Consumes-nil, Consumes-trans, Keeps-refl}
use Rattle.std.proofs.lemmas.List.{append_assoc, append-nil, drop-drop, drop_at, length-append, length-take-le, take-append-drop, take_all}
use Rattle.std.specs.Fmt.{decimal}
use Rattle.sy_wire.specs.Characters.{space}
use Rattle.sy_wire.specs.Streams.{ReadsPiece}
use Rattle.sy_unread.specs.Skipping.{At, Goes, HandsOn, IsCut, IsLong, IsNumbered, IsUnframed, Kept, KeepsMore, KeepsStray, Reads, SetsAside, ends, follows, frame, keeps, long, next_number, passes, past_long, rests, skips, strays, unframed}
use Rattle.sy_wire.specs.Frames.{IsSize}
use Rattle.sy_unread.specs.internal.Fronts.{HasHead}
use Rattle.sy_unread.specs.declared.skipping.place.Place.{Place}
use Rattle.sy_unread.specs.declared.skipping.place.Place.TheVariants.{Within, WithinLong, Unframed}
use Rattle.sy_unread.proofs.Goings.{goes_before, goes_on}

pub keeps_none : (kept : Option (List Kept)) → KeepsMore kept kept []
keeps_none None = tt
keeps_none (Some kept) = sym (append-nil kept)

pub keeps_both : (a b c : Option (List Kept)) (x y : List Kept) → KeepsMore a b x → KeepsMore b c y → KeepsMore a c (x ++ y)
keeps_both None b c x y p q = tt
keeps_both (Some a) None c x y p q = absurd p
keeps_both (Some a) (Some b) None x y p q = absurd q
keeps_both (Some a) (Some b) (Some c) x y p q = q ∙ ap (λ l. l ++ y) p ∙ append_assoc a x y

-- where a frame may begin or is under way
pub not_stray : (n : ℕ) (place : Place) → place ≡ Within n → place ≡ Unframed → ⊥
not_stray n place is other = cc

past_frame : (n : ℕ) → past_long n ≡ Unframed → ⊥
past_frame zero is = cc
past_frame (suc n) is = cc

-- nothing was set aside, and these bytes came
pub came_goes : (old new : At) (ahead ahead' : Option (List ℕ)) (kept : Option (List Kept)) (came : List ℕ)
    → Consumes ahead ahead' came → Goes false old.frames old.place (old.held ++ came) [] [] new.frames new.place new.held → KeepsStray old new [] → SetsAside old new ahead ahead' kept kept
came_goes old new ahead ahead' kept came consumed goes stray =
    record { came = came; consumed = consumed; kept = []; keeps = keeps_none kept; goes = goes; stray = stray }

-- nothing came
pub none_goes : (old new : At) (ahead ahead' : Option (List ℕ)) (kept : Option (List Kept))
    → Keeps ahead ahead' → Goes false old.frames old.place old.held [] [] new.frames new.place new.held → KeepsStray old new [] → SetsAside old new ahead ahead' kept kept
none_goes old new ahead ahead' kept same goes stray =
    came_goes old new ahead ahead' kept [] (Consumes-kept ahead ahead ahead' [] (Consumes-nil ahead) same) (rw (append-nil old.held) goes) stray

pub stays : (old : At) (ahead ahead' : Option (List ℕ)) (kept : Option (List Kept)) → Keeps ahead ahead' → SetsAside old old ahead ahead' kept kept
stays old ahead ahead' kept same = none_goes old old ahead ahead' kept same rests (λ place. inl (place, refl, refl, refl))

pub stays_same : (old : At) (ahead : Option (List ℕ)) (before after : Option (List Kept)) → after ≡ before → SetsAside old old ahead ahead before after
stays_same old ahead before after same = rw same (stays old ahead ahead before (Keeps-refl ahead))

-- what is held is handed on, and nothing comes
pub hands_held : (old new : At) (ahead : Option (List ℕ)) (out : List ℕ) → Goes false old.frames old.place old.held out [] new.frames new.place new.held → HandsOn old new ahead ahead out
hands_held old new ahead out goes = record { came = []; consumed = Consumes-nil ahead; is_over = false; over = λ (never : false ≡ true). absurd cc; goes = rw (append-nil old.held) goes }

-- so many bytes of what is held are handed on
pub hands_frames : (old : At) (within count : ℕ) (buffer left : List ℕ) (ahead : Option (List ℕ))
    → old.place ≡ Within within → count ≤ within → count ≤ length buffer → old.held ≡ take count buffer ++ left
    → HandsOn old (record { place = Within (within - count); frames = old.frames; held = left }) ahead ahead (take count buffer)
hands_frames old within count buffer left ahead place fits inside whole =
    let sized : length (take count buffer) ≡ count = length-take-le count buffer inside in
    let goes : Goes false old.frames (Within within) old.held (take count buffer) [] old.frames (Within (within - count)) left =
    passes (take count buffer) left [] (omega (arith, sized)) whole (sym (append-nil (take count buffer))) (rw sized rests) in
    hands_held old _ ahead _ (rw place goes)

pub begins_frame : (old : At) (n from count : ℕ) (buffer left : List ℕ) (ahead : Option (List ℕ))
    → old.place ≡ Within 0 → IsSize n → HasHead old.held n from → count ≤ from + n → count ≤ length buffer → old.held ≡ take count buffer ++ left
    → HandsOn old (record { place = Within (from + n - count); frames = next_number old.frames; held = left }) ahead ahead (take count buffer)
begins_frame old n from count buffer left ahead place size head fits inside whole =
    let sized : length (take count buffer) ≡ count = length-take-le count buffer inside in
    let inner : Goes false (next_number old.frames) (Within (from + n)) old.held (take count buffer) [] (next_number old.frames) (Within (from + n - count)) left =
    passes (take count buffer) left [] (omega (arith, sized)) whole (sym (append-nil (take count buffer))) (rw sized rests) in
    let goes : Goes false old.frames (Within 0) old.held (take count buffer) [] (next_number old.frames) (Within (from + n - count)) left =
    frame n head.rest size head.whole (rw (← head.from_is) inner) in
    hands_held old _ ahead _ (rw place goes)

pub hands_unframed : (old new : At) (count : ℕ) (buffer : List ℕ) (ahead : Option (List ℕ))
    → old.place ≡ Unframed → new.place ≡ old.place → new.frames ≡ old.frames → old.held ≡ take count buffer ++ new.held → HandsOn old new ahead ahead (take count buffer)
hands_unframed old new count buffer ahead place same frames whole =
    let goes : Goes false old.frames Unframed old.held (take count buffer) [] old.frames Unframed new.held = follows (take count buffer) new.held [] whole (sym (append-nil (take count buffer))) rests in
    hands_held old new ahead _ (rw (frames, same, place) goes)

-- the stream is over within what is held
pub hands_cut : (old new : At) (count : ℕ) (buffer : List ℕ) (ahead ahead' : Option (List ℕ))
    → old.place ≡ Within 0 → new.place ≡ Unframed → new.frames ≡ old.frames → IsCut old.held → Consumes ahead ahead' [] → IsAtEnd ahead' → old.held ≡ take count buffer ++ new.held
    → HandsOn old new ahead ahead' (take count buffer)
hands_cut old new count buffer ahead ahead' place after frames cut consumed over whole =
    let goes : Goes true old.frames (Within 0) old.held (take count buffer) [] old.frames Unframed new.held =
    ends refl cut (follows (take count buffer) new.held [] whole (sym (append-nil (take count buffer))) rests) in
    record { came = []; consumed = consumed; is_over = true; over = λ _. over; goes = rw (append-nil old.held, frames, place, after) goes }

-- what is held of a long frame goes
pub drops_long : (old : At) (left count : ℕ) (ahead : Option (List ℕ)) (kept : Option (List Kept))
    → old.place ≡ WithinLong left → count ≤ left → count ≤ length old.held
    → SetsAside old (record { place = past_long (left - count); frames = old.frames; held = drop count old.held }) ahead ahead kept kept
drops_long old left count ahead kept place fits inside =
    let sized : length (take count old.held) ≡ count = length-take-le count old.held inside in
    let goes : Goes false old.frames (WithinLong left) old.held [] [] old.frames (past_long (left - count)) (drop count old.held) =
    skips (take count old.held) (drop count old.held) (omega (arith, sized)) (sym (take-append-drop count old.held)) (rw sized rests) in
    came_goes old _ ahead ahead kept [] (Consumes-nil ahead) (rw (append-nil old.held, place) goes) (λ is. absurd (past_frame (left - count) is))

-- none goes
pub skips_none : (old : At) (left : ℕ) (ahead : Option (List ℕ)) (kept : Option (List Kept))
    → old.place ≡ WithinLong left → SetsAside old (record { place = past_long left; frames = old.frames; held = old.held }) ahead ahead kept kept
skips_none old left ahead kept place =
    let none : left - 0 ≡ left = omega arith in
    let goes : Goes false old.frames (WithinLong left) old.held [] [] old.frames (past_long left) old.held = skips [] old.held (omega arith) refl (rw none rests) in
    came_goes old _ ahead ahead kept [] (Consumes-nil ahead) (rw (append-nil old.held, place) goes) (λ is. absurd (past_frame left is))

-- bytes of a long frame come, and go
pub skips_long : (old : At) (left count : ℕ) (buffer : List ℕ) (ahead ahead' : Option (List ℕ)) (kept : Option (List Kept))
    → old ≡ record { place = WithinLong left; frames = old.frames; held = [] } → count ≤ left → ReadsPiece ahead ahead' (take count buffer) count
    → SetsAside old (record { place = past_long (left - count); frames = old.frames; held = old.held }) ahead ahead' kept kept
skips_long old left count buffer ahead ahead' kept is fits read =
    let goes : Goes false old.frames (WithinLong left) ([] ++ take count buffer) [] [] old.frames (past_long (left - count)) [] =
    skips (take count buffer) [] (omega (arith, read.size)) (sym (append-nil (take count buffer))) (rw read.size rests) in
    came_goes old _ ahead ahead' kept (take count buffer) read.consumed (rw is goes) (λ after. absurd (past_frame (left - count) after))

-- bytes that no frame begins with come, and are handed on
pub reads_unframed : (old : At) (count : ℕ) (buffer : List ℕ) (ahead ahead' : Option (List ℕ))
    → old ≡ record { place = Unframed; frames = old.frames; held = [] } → ReadsPiece ahead ahead' (take count buffer) count → HandsOn old old ahead ahead' (take count buffer)
reads_unframed old count buffer ahead ahead' is read =
    let goes : Goes false old.frames Unframed ([] ++ take count buffer) (take count buffer) [] old.frames Unframed [] =
    follows (take count buffer) [] [] (sym (append-nil (take count buffer))) (sym (append-nil (take count buffer))) rests in
    record { came = take count buffer; consumed = read.consumed; is_over = false; over = λ (never : false ≡ true). absurd cc; goes = rw is goes }

-- nothing came, and nothing is handed on
pub hands_none : (old : At) (buffer : List ℕ) (ahead ahead' : Option (List ℕ)) → ReadsPiece ahead ahead' (take 0 buffer) 0 → HandsOn old old ahead ahead' (take 0 buffer)
hands_none old buffer ahead ahead' read =
    record { came = []; consumed = read.consumed; is_over = false; over = λ (never : false ≡ true). absurd cc; goes = rw (append-nil old.held) rests }

pub held_none : (old : At) (place : Place) → old ≡ record { place = place; frames = old.frames; held = [] } → old.held ≡ []
held_none old place is = ap (λ (a : At). a.held) is

pub not_nil : (bytes : List ℕ) → bytes ≢ [] → 0 < length bytes
not_nil [] some = absurd (some refl)
not_nil (b ∷ bytes) some = omega arith

pub some_held : (bytes : List ℕ) (n from : ℕ) → HasHead bytes n from → 0 < length bytes
some_held bytes n from head = let size = ap length head.whole in omega (arith, size, length-append (decimal n) (space ∷ head.rest))

-- a head of which more must come
pub cut_head : (bytes : List ℕ) → bytes ≢ [] → (bytes ≡ []) ⊎ ((n : ℕ) × IsNumbered n × (bytes ≡ decimal n)) → IsCut bytes
cut_head bytes some (inl none) = absurd (some none)
cut_head bytes some (inr digits) = inl digits

pub cut_long : (bytes : List ℕ) (n from : ℕ) → IsLong n → HasHead bytes n from → length bytes < from + 65536 → IsCut bytes
cut_long bytes n from is head short =
    let size = ap length head.whole in
    inr (n, head.rest, is, head.whole, omega (arith, short, size, head.from_is, length-append (decimal n) (space ∷ head.rest)))

-- the first bytes of a long frame were kept
pub sets_long : (old : At) (n from : ℕ) (text : List ℕ) (ahead : Option (List ℕ)) (before after : Option (List Kept))
    → old.place ≡ Within 0 → IsLong n → HasHead old.held n from → from + 65536 ≤ length old.held → text ≡ take 65536 (drop from old.held)
    → KeepsMore before after (long (next_number old.frames) n text ∷ [])
    → SetsAside old (record { place = past_long (n - 65536); frames = next_number old.frames; held = drop (from + 65536) old.held }) ahead ahead before after
sets_long old n from text ahead before after place is head all first kept =
    let front : old.held ≡ (decimal n ++ space ∷ []) ++ head.rest = head.whole ∙ sym (append_assoc (decimal n) (space ∷ []) head.rest) in
    let front_size : length (decimal n ++ space ∷ []) ≡ from = simp length-append (omega (arith, head.from_is)) in
    let behind : drop from old.held ≡ head.rest = rw front (drop_at (decimal n ++ space ∷ []) head.rest from front_size) in
    let size = ap length head.whole in
    let enough : 65536 ≤ length head.rest = omega (arith, all, size, head.from_is, length-append (decimal n) (space ∷ head.rest)) in
    let text_is : text ≡ take 65536 head.rest = first ∙ ap (take 65536) behind in
    let later : drop (from + 65536) old.held ≡ drop 65536 head.rest = sym (drop-drop 65536 from old.held) ∙ ap (drop 65536) behind in
    let text_size : length text ≡ 65536 = ap length text_is ∙ length-take-le 65536 head.rest enough in
    let whole : old.held ≡ decimal n ++ space ∷ (text ++ drop (from + 65536) old.held) =
    head.whole ∙ ap (λ x. decimal n ++ space ∷ x) (sym (ap (λ x. x ++ drop (from + 65536) old.held) text_is ∙ ap (λ x. take 65536 head.rest ++ x) later ∙ take-append-drop 65536 head.rest)) in
    let goes : Goes false old.frames (Within 0) old.held [] (long (next_number old.frames) n text ∷ []) (next_number old.frames) (past_long (n - 65536)) (drop (from + 65536) old.held) =
    keeps n text (drop (from + 65536) old.held) is text_size whole rests in
    record { came = []; consumed = Consumes-nil ahead; kept = long (next_number old.frames) n text ∷ []; keeps = kept; goes = rw (append-nil old.held, place) goes; stray = λ after. absurd (past_frame (n - 65536) after) }

-- what begins no frame was kept
pub sets_stray : (old : At) (text : List ℕ) (ahead : Option (List ℕ)) (before after : Option (List Kept))
    → old.place ≡ Within 0 → IsUnframed old.held → text ≡ take 1024 old.held → KeepsMore before after (unframed (next_number old.frames) text ∷ [])
    → SetsAside old (record { place = Unframed; frames = old.frames; held = old.held }) ahead ahead before after
sets_stray old text ahead before after place is first kept =
    let goes : Goes false old.frames (Within 0) old.held [] (unframed (next_number old.frames) (take 1024 old.held) ∷ []) old.frames Unframed old.held = strays old.held [] is (sym (append-nil old.held)) rests in
    record { came = []; consumed = Consumes-nil ahead; kept = unframed (next_number old.frames) (take 1024 old.held) ∷ []; keeps = rw (← first) kept; goes = rw (append-nil old.held, place) goes; stray = λ after. inr ([], refl) }

le_or_lt : (a b : ℕ) → (a ≤ b) ⊎ (b < a)
le_or_lt zero b = inl (omega arith)
le_or_lt (suc a) zero = inr (omega arith)
le_or_lt (suc a) (suc b) = elim (le_or_lt a b) [
  | inl le ↦ inl (omega (arith, le))
  | inr lt ↦ inr (omega (arith, lt))
]

-- as many as there are
pub take_least : (xs : List ℕ) (k : ℕ) → take (min (length xs) k) xs ≡ take k xs
take_least xs k = elim (le_or_lt (length xs) k) [
  | inl le ↦ let least : min (length xs) k ≡ length xs = omega (arith, le) in rw least (take_all (length xs) xs (omega arith) ∙ sym (take_all k xs le))
  | inr lt ↦ let least : min (length xs) k ≡ k = omega (arith, lt) in rw least refl
]

both_stray : (a b c : At) (x y : List Kept) → KeepsStray a b x → KeepsStray b c y → KeepsStray a c (x ++ y)
both_stray a b c x y p q place = elim (q place) [
  | inl stays ↦ elim (p stays.0) [
    | inl there ↦ inl (there.0, rw (there.1, stays.1) refl, stays.2 ∙ there.2, stays.3 ∙ there.3)
    | inr before ↦ inr (
      before.0,
      ap (λ l. x ++ l) stays.1 ∙ append-nil x ∙ before.1 ∙ ap (λ h. before.0 ++ unframed (next_number b.frames) (take 1024 h) ∷ []) (sym stays.2)
          ∙ ap (λ f. before.0 ++ unframed (next_number f) (take 1024 c.held) ∷ []) (sym stays.3),
    )
  ]
  | inr before ↦ inr (x ++ before.0, ap (λ l. x ++ l) before.1 ∙ sym (append_assoc x before.0 (unframed (next_number c.frames) (take 1024 c.held) ∷ [])))
]

-- one turn after others that handed nothing on
pub sets_both : (a b c : At) (ahead ahead' ahead'' : Option (List ℕ)) (before between after : Option (List Kept))
    → SetsAside a b ahead ahead' before between → SetsAside b c ahead' ahead'' between after → SetsAside a c ahead ahead'' before after
sets_both a b c ahead ahead' ahead'' before between after one other = record {
  came = one.came ++ other.came;
  consumed = Consumes-trans ahead ahead' ahead'' one.came other.came one.consumed other.consumed;
  kept = one.kept ++ other.kept;
  keeps = keeps_both before between after one.kept other.kept one.keeps other.keeps;
  goes = rw (← append_assoc a.held one.came other.came) (goes_on (goes_before other.came one.goes) other.goes);
  stray = both_stray a b c one.kept other.kept one.stray other.stray;
}

pub reads : (a b c : At) (ahead ahead' ahead'' : Option (List ℕ)) (before after after' : Option (List Kept)) (out : List ℕ)
    → SetsAside a b ahead ahead' before after → HandsOn b c ahead' ahead'' out → after' ≡ after → Reads a c ahead ahead'' before after' out
reads a b c ahead ahead' ahead'' before after after' out first second same = record { between = b; between_ahead = ahead'; first = rw same first; second = second }
