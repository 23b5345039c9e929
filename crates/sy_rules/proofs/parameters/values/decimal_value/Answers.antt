use Rattle.std.proofs.Common.{◌≡◌, ◌≤◌, ◌&&◌, ℕ, Bool, true, false, nat_le, if◌then◌else◌, List, length, Some, None, refl, ◌∙◌, arith, le-leb}
use Rattle.std.specs.Str.Parse.{digits_value}
use Rattle.sy_wire.specs.Numbers.{is_numeral}
use Rattle.sy_wire.proofs.Numerals.{fits}
use Rattle.sy_rules.specs.parameters.Values.{decimal_value}
use Rattle.sy_rules.proofs.parameters.values.decimal_value.Goals as goal

with_length : (ds : List ℕ) (b : Bool) → nat_le (length ds) 10 ≡ true
    → (if b then Some (digits_value 10 ds) else None) ≡ (if b && nat_le (length ds) 10 then Some (digits_value 10 ds) else None)
with_length ds true e = rw e refl
with_length ds false e = refl

pub returns : goal.returns
unfolding decimal_value
returns c =
    let value = c.args.value.now in
    let short : length value ≤ 10 = omega (arith, c.if-value-gt-MOST_DIGITS.false) in
    c.number_up_to.ensures ∙ fits 9999999999 10 value short (omega arith) ∙ with_length value (is_numeral value) (le-leb (length value) 10 short)
