-- The records of a frame are messages that frames may carry, and their texts are the frame's bytes.
use Rattle.std.proofs.Common.{◌≡◌, ℕ, ◌+◌, ◌≤◌, inl, inr, Bool, true, false, List, [], ◌∷◌, ◌++◌, length, take, drop, refl, subst, arith, append-nil, length-append, length-drop}
use Rattle.std.specs.Prelude.{codes, leb, if◌then◌else◌}
use Rattle.std.proofs.lemmas.Bool.{leb-true}
use Rattle.std.proofs.lemmas.List.{length-take, take-append-drop}
use Rattle.sy_wire.specs.Frames.{IsSize}
use Rattle.sy_wire.specs.StructuredData.{AreParams, IsEscaped, IsParamValue, empty, no_params, ordinary}
use Rattle.sy_unread.specs.Records as spec
use Rattle.sy_unread.specs.Texts.{Carry, IsMessageOf, carry_more, carry_nothing}
use Rattle.sy_unread.specs.internal.{IsInRange}
use Rattle.sy_unread.specs.declared.record.About.{About}
use Rattle.sy_unread.proofs.Grammar.{head_message, name_part, param, param_of}
use Rattle.sy_unread.proofs.Lengths.{head_within}

ordinary_byte : (b : ℕ) → 47 ≤ b → b ≤ 57 → ¬ IsEscaped b
ordinary_byte b low high there = elim there [
  | inl e ↦ omega (arith, low, high, e)
  | inr g ↦ elim g [ inl e ↦ omega (arith, low, high, e) | inr e ↦ omega (arith, low, high, e) ]
]

which_value : (digit : ℕ) → 49 ≤ digit → digit ≤ 50 → IsParamValue (digit ∷ codes "/2")
which_value digit low high =
    ordinary (ordinary_byte digit (omega arith) (omega arith))
    (ordinary (ordinary_byte 47 (omega arith) (omega arith)) (ordinary (ordinary_byte 50 (omega arith) (omega arith)) empty))

part_is : (digit : ℕ) → 49 ≤ digit → digit ≤ 50 → AreParams (32 ∷ param (codes "part") (digit ∷ codes "/2"))
part_is digit low high = param_of (codes "part") (digit ∷ codes "/2") [] name_part (which_value digit low high) no_params

one_carries : (message text : List ℕ) → IsMessageOf message text → IsSize (length message) → Carry (message ∷ []) text
one_carries message text is size = subst (λ x. Carry (message ∷ []) x) (append-nil text) (carry_more is size carry_nothing)

sized : (about : About) (part bytes : List ℕ) → IsInRange about → length part ≤ 16 → length bytes ≤ 32768 → IsSize (length (spec.head about part ++ bytes))
sized about part bytes fits short few =
    let within = head_within about part fits short in
    let whole = length-append (spec.head about part) bytes in
    (omega (arith, whole, within.0), omega (arith, whole, within.1))

two_carry :
    (about : About) (bytes : List ℕ) (half : ℕ) → IsInRange about → half ≤ 32768 → length bytes ≤ half + 32768
    → Carry ((spec.head about (codes " part=\"1/2\"") ++ take half bytes) ∷ (spec.head about (codes " part=\"2/2\"") ++ drop half bytes) ∷ []) bytes
two_carry about bytes half fits low high =
    let front : length (take half bytes) ≤ 32768 = rw length-take (omega arith) in
    let rest : length (drop half bytes) ≤ 32768 = rw length-drop (omega arith) in
    let second = one_carries _ _ (head_message about (codes " part=\"2/2\"") (drop half bytes) fits (part_is 50 (omega arith) (omega arith))) (sized about (codes " part=\"2/2\"") (drop half bytes) fits (omega arith) rest) in
    let both = carry_more (head_message about (codes " part=\"1/2\"") (take half bytes) fits (part_is 49 (omega arith) (omega arith))) (sized about (codes " part=\"1/2\"") (take half bytes) fits (omega arith) front) second in
    subst (λ x. Carry ((spec.head about (codes " part=\"1/2\"") ++ take half bytes) ∷ (spec.head about (codes " part=\"2/2\"") ++ drop half bytes) ∷ []) x)
    (take-append-drop half bytes) both

carries_by :
    (room : Bool) (about : About) (bytes : List ℕ) (most half : ℕ) → IsInRange about → most ≤ 65536 → half ≤ 32768
    → length bytes ≤ half + 32768 → leb (length (spec.head about []) + length bytes) most ≡ room
    → Carry (if room then (spec.head about [] ++ bytes) ∷ []
    else (spec.head about (codes " part=\"1/2\"") ++ take half bytes) ∷ (spec.head about (codes " part=\"2/2\"") ++ drop half bytes) ∷ []) bytes
carries_by true about bytes most half fits limit low high e =
    let short = leb-true (length (spec.head about []) + length bytes) most e in
    let within = head_within about [] fits (omega arith) in
    let whole = length-append (spec.head about []) bytes in
    one_carries _ _ (head_message about [] bytes fits no_params) (omega (arith, whole, within.0), omega (arith, whole, short))
carries_by false about bytes most half fits limit low high e = two_carry about bytes half fits low high

pub records_carry : (about : About) (bytes : List ℕ) → IsInRange about → Carry (spec.records about bytes) (take 65536 bytes)
records_carry about bytes fits =
    let few : length (take 65536 bytes) ≤ 65536 = rw length-take (omega arith) in
    carries_by _ about (take 65536 bytes) 65536 32768 fits (omega arith) (omega arith) few refl
