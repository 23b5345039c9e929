use Rattle.std.proofs.Common.{◌≡◌, ◌∙◌, ◌≤◌, ℕ, Bool, List, ap, length, suc, subst, sym, take}
use Rattle.std.specs.Str.{continuation_len}
use Rattle.sy_report.specs.Printed.{is_character}
use Rattle.sy_report.proofs.PrintedNames.{front_empty, front_none, front_size}
use Rattle.sy_report.proofs.texts.printed.shown_size.Goals as goal

-- whether the front is a character, of the size that was answered
of_front : (bytes front : List ℕ) (b size : ℕ) (test result : Bool) → size ≡ suc (continuation_len b) → front ≡ take size bytes → result ≡ is_character front
    → result ≡ test → is_character (take (suc (continuation_len b)) bytes) ≡ test
of_front bytes front b size test result sized is answered tested =
    ap (λ n. is_character (take n bytes)) (sym sized) ∙ ap is_character (sym is) ∙ sym answered ∙ tested

pub returns-in_default-clause-is : goal.returns-in_default-clause-is
returns-in_default-clause-is c = front_empty c.args.bytes.now (sym c.in_default.ensures.value)

pub returns-then-is_character-clause-is : goal.returns-then-is_character-clause-is
returns-then-is_character-clause-is c =
    c.size_by-size.ensures
    ∙ (front_size c.args.bytes.now c.in-Some.first.now c.in-Some.ensures.value
    (of_front c.args.bytes.now c.front.result.now c.in-Some.first.now c.size_by-size.result _ c.is_character.result c.size_by-size.ensures c.front.ensures
    c.is_character.ensures c.if-is_character.true)).0

pub returns-then-is_character-clause-within : goal.returns-then-is_character-clause-within
returns-then-is_character-clause-within c =
    subst (λ n. n ≤ length c.args.bytes.now) (sym c.size_by-size.ensures)
    (front_size c.args.bytes.now c.in-Some.first.now c.in-Some.ensures.value
    (of_front c.args.bytes.now c.front.result.now c.in-Some.first.now c.size_by-size.result _ c.is_character.result c.size_by-size.ensures c.front.ensures
    c.is_character.ensures c.if-is_character.true)).1

pub returns-clause-is : goal.returns-clause-is
returns-clause-is c =
    front_none c.args.bytes.now c.in-Some.first.now c.in-Some.ensures.value
    (of_front c.args.bytes.now c.front.result.now c.in-Some.first.now c.size_by-size.result _ c.is_character.result c.size_by-size.ensures c.front.ensures
    c.is_character.ensures c.if-is_character.false)
