use Rattle.std.proofs.Common.{◌≡◌, ◌<◌, ℕ, List, [], ◌∷◌, length, sym, ◌∙◌, arith}
use Rattle.sy_wire.proofs.Numerals.{numeral_is, read_is}
use Rattle.sy_running.proofs.words.seconds.Goals as goal

not_nil : (word : List ℕ) → 0 < length word → word ≡ [] → ⊥
not_nil [] some e = omega (arith, some)
not_nil (b ∷ word) some e = cc

pub returns-in-Some : goal.returns-in-Some
returns-in-Some c =
    let read = read_is 86400 c.in-Some.number c.args.word.now (sym c.number_up_to.ensures ∙ c.in-Some.is) in
    let is = numeral_is c.args.word.now read.0 in
    record { some = not_nil c.args.word.now is.0; digits_are = is.1; value = sym read.2; most = read.1 }
