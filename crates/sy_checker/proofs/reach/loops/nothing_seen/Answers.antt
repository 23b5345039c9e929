use Rattle.std.proofs.Common.{◌≡◌, ◌∙◌, [], ap, length, refl, replicate}
use Rattle.std.proofs.lemmas.List.{length-replicate}
use Rattle.sy_checker.proofs.Ranking.{ranked_as, ranked_first}
use Rattle.sy_checker.proofs.reach.loops.nothing_seen.Goals as goal

pub returns-clause-ranked : goal.returns-clause-ranked
returns-clause-ranked c = λ class.
    let zeros : c.in_ok-vec.field-0.items ≡ replicate c.relays.result 0 = c.in_ok-vec.ensures.items_if_clones_equal (λ y is. is) in
    ranked_as c.args.site.now class [] c.new-2.result.items [] c.new-3.result.items c.in_ok-vec.field-0.items c.in_ok-vec.field-0.items
    c.new-2.ensures.items c.new-3.ensures.items refl
    (ranked_first c.args.site.now class c.in_ok-vec.field-0.items c.relays.result zeros
    (ap length zeros ∙ length-replicate c.relays.result 0 ∙ c.relays.ensures))
