use Rattle.std.proofs.Common.{rules, ◌≡◌, ◌<◌, ◌≤◌, ◌-◌, ◌+◌, ◌++◌, [], length, ap, sym, ◌∙◌, arith}
use Rattle.std.proofs.lemmas.List.{append-nil, append_assoc, take-append-drop}
use Rattle.sy_escapes.specs.Escapes.{escaped}
use Rattle.sy_escapes.proofs.Exact.{empty, escaped_nil, plain_stays}
use Rattle.sy_escapes.proofs.escaping.append_escaped.Goals as goal

pub loop-rest-smaller : goal.loop-rest-smaller
loop-rest-smaller c =
    let some : 0 < length c.loop-rest.rest.now = search (rules, arith) in
    let less : length c.in_ok-rest.rest.now ≤ length c.split_at.result.1.now - 1 = search rules in
    let size : length c.split_at.result.0.now + length c.split_at.result.1.now ≡ length c.loop-rest.rest.now = search (rules, arith) in
    omega (arith, some, less, size)

pub loop-rest-preserved : goal.loop-rest-preserved
loop-rest-preserved c =
    let old = c.loop-rest.text.items in
    let plain = c.split_at.result.0.now in
    let after = c.split_at.result.1.now in
    let whole : plain ++ after ≡ c.loop-rest.rest.now = search (rules, take-append-drop) in
    let pushed : c.extend_from_slice.new.self.items ≡ old ++ plain = search rules in
    let first : c.append_first.new.text.items ++ escaped c.in_ok-rest.rest.now ≡ c.extend_from_slice.new.self.items ++ escaped after = search rules in
    let stays : escaped (plain ++ after) ≡ plain ++ escaped after = plain_stays plain after (search rules) in
    first ∙ ap (λ t. t ++ escaped after) pushed ∙ append_assoc old plain (escaped after)
    ∙ ap (λ t. old ++ t) (sym stays ∙ ap escaped whole) ∙ c.loop-rest.invariant

pub returns : goal.returns
returns c =
    let none : c.loop-rest.rest.now ≡ [] = empty _ (search (rules, arith)) in
    sym (append-nil c.loop-rest.text.items) ∙ ap (λ t. c.loop-rest.text.items ++ t) (sym escaped_nil ∙ ap escaped (sym none)) ∙ c.loop-rest.invariant
