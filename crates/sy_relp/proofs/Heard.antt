-- What was heard.
use Rattle.std.proofs.Common.{◌≡◌, ℕ, ◌+◌, ◌<◌, List, [], ◌∷◌, ◌++◌, length, take, drop, refl, sym, ap, ◌∙◌, arith}
use Rattle.std.specs.Prelude.{Option, codes}
use Rattle.std.proofs.KnownBytes.{Consumes-kept, Consumes-nil, Consumes-trans}
use Rattle.std.proofs.lemmas.List.{append-nil, append_assoc, length-append, take-append-drop, take_at, take_all}
use Rattle.std.proofs.lemmas.List.Concat.{flat_map-append}
use Rattle.sy_wire.specs.Frames.{Held}
use Rattle.sy_wire.specs.Steps.{FillFails, Fills}
use Rattle.sy_wire.specs.declared.framer.FillFault.{FillFault}
use Rattle.sy_wire.specs.declared.framer.FillFault.TheVariants.{ReadFailed, NoMemory as OutOfRoom, Failed as HadFault}
use Rattle.sy_relp.specs.Frames.{Frame, IsFrame, frame, stream}
use Rattle.sy_relp.specs.Answers.{IsOk}
use Rattle.sy_relp.specs.Reading.{Gives, Stops}
use Rattle.sy_relp.specs.declared.fault.FrameFault.{FrameFault}
use Rattle.sy_relp.specs.declared.fault.FrameFault.TheVariants.{BadNumber, BadCommand, BadLength, TooLong, BadTrailer, Truncated, NoMemory, Failed}
use Rattle.sy_relp.proofs.Lists.{all_append}
use Rattle.sy_relp.specs.Exchanges.{AreAnswers, Hears, IsAnswer}
use Rattle.sy_relp.specs.internal.Streams.{Fed, HearsUpTo}

pub fed_nothing : (ahead : Option (List ℕ)) (left : List ℕ) → Fed ahead ahead left left
fed_nothing ahead left = record { bytes = []; read = Consumes-nil ahead; whole = append-nil left }

pub fed_same : (a b : Option (List ℕ)) (left left' left'' : List ℕ) → left'' ≡ left' → Fed a b left left' → Fed a b left left''
fed_same a b left left' left'' same h = record { bytes = h.bytes; read = h.read; whole = h.whole ∙ sym same }

pub fed_more : (a b c : Option (List ℕ)) (left : List ℕ) (old : Held) (count : ℕ) (new : Held) → Fed a b left old.left → Fills old count new b c → Fed a c left new.left
fed_more a b c left old count new h f = record {
  bytes = h.bytes ++ f.piece;
  read = Consumes-trans a b c h.bytes f.piece h.read f.reads.consumed;
  whole = sym (append_assoc left h.bytes f.piece) ∙ ap (λ z. z ++ f.piece) h.whole ∙ sym (ap (λ (v : Held). v.left) f.feeds.after);
}

pub fed_fails : (a b c : Option (List ℕ)) (left : List ℕ) (fault : FillFault) (old new : Held) → Fed a b left old.left → FillFails fault old new b c → Fed a c left new.left
fed_fails a b c left ReadFailed old new h f = record { bytes = h.bytes; read = Consumes-kept a b c h.bytes h.read f.1; whole = h.whole ∙ sym (ap (λ (v : Held). v.left) f.0.same) }
fed_fails a b c left OutOfRoom old new h f = record { bytes = h.bytes; read = rw f.1 h.read; whole = h.whole ∙ sym (ap (λ (v : Held). v.left) f.0.same) }
fed_fails a b c left HadFault old new h f = record { bytes = h.bytes; read = rw f.1 h.read; whole = h.whole ∙ sym (ap (λ (v : Held). v.left) f.0.same) }

pub stops_left : (fault : FrameFault) (old new : Held) → Stops fault old new → new.left ≡ old.left
stops_left BadNumber old new s = ap (λ (v : Held). v.left) s.0.after
stops_left BadCommand old new s = ap (λ (v : Held). v.left) s.0.after
stops_left BadLength old new s = ap (λ (v : Held). v.left) s.0.after
stops_left TooLong old new s = ap (λ (v : Held). v.left) s.0.after
stops_left BadTrailer old new s = ap (λ (v : Held). v.left) s.0.after
stops_left Truncated old new s = absurd s
stops_left NoMemory old new s = ap (λ (v : Held). v.left) s.0.same
stops_left Failed old new s = ap (λ (v : Held). v.left) s.same

pub hears_none : (a b : Option (List ℕ)) (left left' : List ℕ) → Fed a b left left' → Hears a b left left' []
hears_none a b left left' h = record { bytes = h.bytes; read = h.read; each = tt; whole = h.whole }

pub hears_one : (a b : Option (List ℕ)) (left : List ℕ) (old : Held) (f : Frame) (new : Held) → Fed a b left old.left → Gives old f new → Hears a b left new.left (f ∷ [])
hears_one a b left old f new h g = record {
  bytes = h.bytes;
  read = h.read;
  each = (g.at.is_frame, tt);
  whole = h.whole ∙ g.at.whole ∙ ap (λ z. z ++ new.left) (sym (append-nil (frame f)));
}

pub hears_more : (a b c : Option (List ℕ)) (left left' left'' : List ℕ) (hs gs : List Frame) → Hears a b left left' hs → Hears b c left' left'' gs → Hears a c left left'' (hs ++ gs)
hears_more a b c left left' left'' hs gs h g = record {
  bytes = h.bytes ++ g.bytes;
  read = Consumes-trans a b c h.bytes g.bytes h.read g.read;
  each = all_append IsFrame hs gs h.each g.each;
  whole = sym (append_assoc left h.bytes g.bytes) ∙ ap (λ z. z ++ g.bytes) h.whole ∙ append_assoc (stream hs) left' g.bytes ∙ ap (λ z. stream hs ++ z) g.whole ∙ sym (append_assoc (stream hs) (stream gs) left'') ∙ ap (λ z. z ++ left'') (sym (flat_map-append frame hs gs));
}

pub answers_more : (first : ℕ) (hs gs : List Frame) → AreAnswers first hs → AreAnswers (first + length hs) gs → AreAnswers first (hs ++ gs)
answers_more first [] gs p q = let none : first + 0 ≡ first = omega arith in rw none at q
answers_more first (h ∷ hs) gs p q =
    let next : first + length (h ∷ hs) ≡ (first + 1) + length hs = omega arith in
    (p.0, answers_more (first + 1) hs gs p.1 (rw next at q))

-- so far, each answer came
pub record HeardSoFar (a b : Option (List ℕ)) (left left' : List ℕ) (first count : ℕ) : Type 0 where
  pub heard : List Frame
  pub hears : Hears a b left left' heard
  pub answers : AreAnswers first heard
  pub size : length heard ≡ count

pub so_far_none : (a : Option (List ℕ)) (left : List ℕ) (first : ℕ) → HeardSoFar a a left left first 0
so_far_none a left first = record { heard = []; hears = hears_none a a left left (fed_nothing a left); answers = tt; size = refl }

pub so_far_more : (a b c : Option (List ℕ)) (left left' left'' : List ℕ) (first count : ℕ) (g : Frame) → HeardSoFar a b left left' first count → Hears b c left' left'' (g ∷ []) → IsAnswer (first + count) g → HeardSoFar a c left left'' first (count + 1)
so_far_more a b c left left' left'' first count g h more is = record {
  heard = h.heard ++ g ∷ [];
  hears = hears_more a b c left left' left'' h.heard (g ∷ []) h.hears more;
  answers = answers_more first h.heard (g ∷ []) h.answers ((let at : first + length h.heard ≡ first + count = omega (arith, h.size) in rw at is), tt);
  size = length-append h.heard (g ∷ []) ∙ (let n : length h.heard + 1 ≡ count + 1 = omega (arith, h.size) in n);
}

-- and then something else came, or nothing
pub up_to : (a b c : Option (List ℕ)) (left left' left'' : List ℕ) (first wanted count : ℕ) (gs : List Frame) → HeardSoFar a b left left' first count → Hears b c left' left'' gs → count < wanted → HearsUpTo a c left left'' first wanted count
up_to a b c left left' left'' first wanted count gs h more below = record {
  heard = h.heard ++ gs;
  hears = hears_more a b c left left' left'' h.heard gs h.hears more;
  answers = let front : take count (h.heard ++ gs) ≡ h.heard = take_at h.heard gs count h.size in rw front h.answers;
  enough = omega (arith, h.size, length-append h.heard gs);
  within = omega (arith, below);
  no_more = λ same. absurd (omega (arith, below, same));
}

pub all_heard : (a b : Option (List ℕ)) (left left' : List ℕ) (first wanted count : ℕ) → HeardSoFar a b left left' first count → count ≡ wanted → HearsUpTo a b left left' first wanted count
all_heard a b left left' first wanted count h same = record {
  heard = h.heard;
  hears = h.hears;
  answers = let all : take count h.heard ≡ h.heard = take_all count h.heard (omega (arith, h.size)) in rw all h.answers;
  enough = omega (arith, h.size);
  within = omega (arith, same);
  no_more = λ _. h.size;
}

pub ok_of : (content front : List ℕ) → front ≡ take 3 content → front ≡ codes "200" → IsOk content
ok_of content front a b = (drop 3 content, sym (take-append-drop 3 content) ∙ ap (λ x. x ++ drop 3 content) (sym a ∙ b))
