use Rattle.std.proofs.Common.{rules, ◌≡◌, ◌≤◌, ◌++◌, List, ℕ, length, get_or, drop, take, take-append-drop, sym, ap, ◌∙◌}
use Rattle.sy_journal.specs.Frames.{AreDigits, number}
use Rattle.std.proofs.lemmas.List.{take_rest}
use Rattle.sy_journal.proofs.Fronts.{found_at}
use Rattle.sy_journal.proofs.reading.first_frame.Goals as goal

pub returns-then-zeros_in-number_of-clause-some : goal.returns-then-zeros_in-number_of-clause-some
returns-then-zeros_in-number_of-clause-some c =
    let bytes = c.args.bytes.now in
    let digits : AreDigits (get_or bytes 0 0) (get_or bytes 1 0) (get_or bytes 2 0) (get_or bytes 3 0) (get_or bytes 4 0) (get_or bytes 5 0) (get_or bytes 6 0) (get_or bytes 7 0) = search rules in
    let front : c.split_at.result.0.now ≡ take c.number_of-size.result (drop 8 bytes) = c.split_at.ensures.front ∙ ap (λ (l : List ℕ). take c.number_of-size.result l) (take_rest bytes 8) in
    let back : c.split_at.result.1.now ≡ drop c.number_of-size.result (drop 8 bytes) = c.split_at.ensures.back ∙ ap (λ (l : List ℕ). drop c.number_of-size.result l) (take_rest bytes 8) in
    let split : drop 8 bytes ≡ c.split_at.result.0.now ++ c.split_at.result.1.now = sym (take-append-drop c.number_of-size.result (drop 8 bytes)) ∙ (λ i. sym front i ++ sym back i) in
    let long : 8 ≤ length bytes = search rules in
    let size : length c.split_at.result.0.now ≡ number (get_or bytes 0 0) (get_or bytes 1 0) (get_or bytes 2 0) (get_or bytes 3 0) = search rules in
    found_at bytes c.split_at.result.0.now c.split_at.result.1.now long digits split size (sym c.zeros_in.ensures ∙ c.if-zeros_in-number_of.true ∙ c.number_of.ensures)
