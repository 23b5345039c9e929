use Rattle.std.proofs.Common.{◌≡◌, ◌≤◌, ◌==◌, ◌&&◌, not, ℕ, Bool, true, false, nat_le, if◌then◌else◌, List, length, get_or, Some, None, refl, sym, ◌∙◌, arith, le-leb}
use Rattle.std.specs.Str.Parse.{digits_value}
use Rattle.sy_wire.specs.Numbers.{is_numeral}
use Rattle.sy_wire.proofs.Numerals.{fits}
use Rattle.sy_site.specs.texts.Shapes.{port_of}
use Rattle.sy_site.proofs.texts.shapes.port.Goals as goal

with_shape : (ds : List ℕ) (b : Bool) → nat_le (length ds) 10 ≡ true → (get_or ds 0 0 == 48) ≡ false
    → (if b then Some (digits_value 10 ds) else None)
    ≡ (if b && (nat_le (length ds) 10 && not (get_or ds 0 0 == 48)) then Some (digits_value 10 ds) else None)
with_shape ds true small first = rw (small, first) refl
with_shape ds false small first = refl

pub returns : goal.returns
unfolding port_of
returns c =
    let word = c.args.word.now in
    let short : length word ≤ 10 = omega (arith, c.if-word-gt-PORT_DIGITS.false) in
    c.number_up_to.ensures ∙ fits 9999999999 10 word short (omega arith)
    ∙ with_shape word (is_numeral word) (le-leb (length word) 10 short) (sym c.begins_with_zero.ensures ∙ c.if-begins_with_zero.false)
