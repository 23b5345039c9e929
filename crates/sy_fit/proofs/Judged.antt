-- Names and classes that are compared.
use Rattle.std.proofs.Common.{◌≡◌, ℕ, ◌+◌, ◌*◌, Bool, List, sym, subst, arith}
use Rattle.std.specs.Prelude.{Decides}
use Rattle.std.specs.Str.{bytes_eq}
use Rattle.std.proofs.lemmas.Slice.Eq.{bytes_eq-Decides}
use Rattle.sy_wire.specs.declared.class.Class.{Class}
use Rattle.sy_board.proofs.relay.SamePairs.{same_class}

pub same_bytes : (xs ys : List ℕ) (b : Bool) → b ≡ bytes_eq xs ys → Decides b (xs ≡ ys)
same_bytes xs ys b e = subst (λ x. Decides x (xs ≡ ys)) (sym e) (bytes_eq-Decides xs ys)

pub one_class : (a b : Class) → 8 * a.facility + a.severity ≡ 8 * b.facility + b.severity → a ≡ b
one_class a b e =
    let f : a.facility ≡ b.facility = omega (arith, e, a.severity_in_range, b.severity_in_range) in
    let s : a.severity ≡ b.severity = omega (arith, e, a.severity_in_range, b.severity_in_range) in
    same_class a b f s
