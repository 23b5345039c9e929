use Rattle.std.proofs.Common.{◌≡◌, ℕ, List, ◌++◌, ◌∙◌, ap, Ok, Err}
use Rattle.std.specs.Prelude.{Result, OnOk, if◌then◌else◌, is_ok}
use Rattle.sy_wire.specs.Frames.{stream}
use Rattle.sy_unread.specs.Records.{records_of}
use Rattle.sy_unread.proofs.record.append_records.Goals as goal

appended :
    {T E : Type 0} (r : Result T E) (old new x y : List ℕ)
    → new ≡ (if is_ok r then old ++ x else old) → x ≡ y → OnOk r (new ≡ old ++ y)
appended (Ok t) old new x y append same = append ∙ ap (λ z. old ++ z) same
appended (Err e) old new x y append same = tt

pub returns-clause-records : goal.returns-clause-records
returns-clause-records c =
    appended c.extend_from_slice.result _ _ c.deref.result.now _ c.extend_from_slice.ensures.items
    (c.deref.ensures.value ∙ c.in_ok-frames.ensures ∙ ap (λ z. stream (records_of c.args.about.now z)) c.front.ensures.value)
