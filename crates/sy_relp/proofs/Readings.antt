-- The life of a reader.
use Rattle.std.proofs.Common.{◌≡◌, ℕ, Bool, true, false, List, [], ◌∷◌, ◌++◌, refl, sym, ap, ◌∙◌}
use Rattle.std.specs.List.{AllByRecursion}
use Rattle.std.specs.Prelude.{slice_range}
use Rattle.std.proofs.lemmas.List.{append-nil, append_assoc}
use Rattle.std.proofs.lemmas.List.Concat.{flat_map-append}
use Rattle.sy_wire.specs.Frames.{Held}
use Rattle.sy_wire.specs.Steps.{Breaks}
use Rattle.sy_relp.specs.Faults.{Faulty}
use Rattle.sy_relp.specs.Frames.{Frame, IsFrame, frame, stream}
use Rattle.sy_relp.specs.Reading.{CuttingIsFree, Reads, Stops, begins, fills, gives, stops}
use Rattle.sy_relp.specs.declared.fault.FrameFault.{FrameFault}
use Rattle.sy_relp.specs.declared.fault.FrameFault.TheVariants.{BadNumber, BadCommand, BadLength, TooLong, BadTrailer, Truncated, NoMemory, Failed}
use Rattle.sy_relp.proofs.Lists.{all_append}
use Rattle.sy_relp.proofs.NoFrames.{one_stream}

-- a fault that a reader found at the front
pub stopped : (fault : FrameFault) (old new : Held) → Breaks old new → Faulty fault old.left → Stops fault old new
stopped BadNumber old new b f = (b, f)
stopped BadCommand old new b f = (b, f)
stopped BadLength old new b f = (b, f)
stopped TooLong old new b f = (b, f)
stopped BadTrailer old new b f = (b, f)
stopped Truncated old new b f = absurd f
stopped NoMemory old new b f = absurd f
stopped Failed old new b f = absurd f

pub stops_at : (fault : FrameFault) (old : Held) (xs : List ℕ) (at end : ℕ) (failed : Bool) → record { left = slice_range xs at end; has_failed = failed } ≡ old → failed ≡ false → Faulty fault (slice_range xs at end)
    → Stops fault old (record { left = slice_range xs at end; has_failed = true })
stops_at fault old xs at end failed view good bad =
    stopped fault old (record { left = slice_range xs at end; has_failed = true })
    (record { good = sym (ap (λ (v : Held). v.has_failed) view) ∙ good; after = ap (λ (v : Held). record v { has_failed = true }) view })
    (rw (ap (λ (v : Held). v.left) view) at bad)

-- what was read is the frames that were given, and what is left
pub reads_all : (bytes : List ℕ) (frames : List Frame) (held : Held) → Reads bytes frames held → (bytes ≡ stream frames ++ held.left) × AllByRecursion IsFrame frames
reads_all _ _ _ begins = (refl, tt)
reads_all _ frames new (fills {bytes = bytes} {old = old} piece run step) =
    let so_far = reads_all bytes frames old run in
    (ap (λ z. z ++ piece) so_far.0 ∙ append_assoc (stream frames) old.left piece ∙ ap (λ z. stream frames ++ z) (sym (ap (λ (v : Held). v.left) step.after)), so_far.1)
reads_all bytes _ new (gives {frames = frames} {old = old} f run step) =
    let so_far = reads_all bytes frames old run in (
      so_far.0 ∙ ap (λ z. stream frames ++ z) step.at.whole ∙ sym (append_assoc (stream frames) (frame f) new.left)
          ∙ ap (λ z. z ++ new.left) (ap (λ z. stream frames ++ z) (sym (append-nil (frame f))) ∙ sym (flat_map-append frame frames (f ∷ []))),
      all_append IsFrame frames (f ∷ []) so_far.1 (step.at.is_frame, tt),
    )
reads_all bytes frames new (stops {old = old} run step) =
    let so_far = reads_all bytes frames old run in
    (so_far.0 ∙ ap (λ z. stream frames ++ z) (sym (ap (λ (v : Held). v.left) step.after)), so_far.1)

pub cutting_is_free : CuttingIsFree
cutting_is_free bytes fs gs held held' run run' none none' =
    let a = reads_all bytes fs held run in
    let b = reads_all bytes gs held' run' in
    one_stream fs gs held.left held'.left a.1 b.1 none none' (sym a.0 ∙ b.0)
