-- Contents that are opened one by one.
use Rattle.std.proofs.Common.{◌≡◌, ℕ, List, [], ◌∷◌, ◌++◌, refl, sym, ◌∙◌, ap, append_assoc}
use Rattle.std.proofs.lemmas.List.{append-nil}
use Rattle.sy_journal.specs.Packing.{packed, Unpacked, IsNotPacked}
use Rattle.sy_journal.specs.Segment.{AreBatches}
use Rattle.sy_journal.specs.internal.Reading.{AreFront}
use Rattle.sy_journal.proofs.Leading.{packed_once}

pub front_none : (contents : List (List ℕ)) → AreFront contents [] contents
front_none contents es opens = (es, refl, opens)

pub front_more : (contents done rest batch : List (List ℕ)) (content : List ℕ) → AreFront contents done (content ∷ rest) → Unpacked content batch [] → AreFront contents (done ++ batch) rest
front_more contents done rest batch content front u es opens =
    let f = front es opens in
    let o = f.2 in
    let whole : packed batch ≡ packed o.0 = sym (append-nil (packed batch)) ∙ sym u.is ∙ o.2 in
    let same : batch ≡ o.0 = packed_once batch o.0 u.short o.5 whole in
    (o.1, f.1 ∙ ap (λ (l : List (List ℕ)). done ++ l) (o.3 ∙ ap (λ (l : List (List ℕ)). l ++ o.1) (sym same)) ∙ sym (append_assoc done batch o.1), o.4)

pub front_stops : (contents done rest : List (List ℕ)) (content : List ℕ) → AreFront contents done (content ∷ rest) → IsNotPacked content → (es : List (List ℕ)) → AreBatches contents es → ⊥
front_stops contents done rest content front none es opens =
    let f = front es opens in
    none f.2.0 f.2.5 f.2.2

pub front_all : (contents done : List (List ℕ)) → AreFront contents done [] → (es : List (List ℕ)) → AreBatches contents es → done ≡ es
front_all contents done front es opens =
    let f = front es opens in
    sym (f.1 ∙ ap (λ (l : List (List ℕ)). done ++ l) f.2 ∙ append-nil done)
