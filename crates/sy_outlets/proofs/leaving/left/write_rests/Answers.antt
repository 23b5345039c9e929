use Rattle.std.proofs.Common.{◌≡◌, [], rules, subst, sym}
use Rattle.sy_outlets.specs.Left.{AreRests}
use Rattle.sy_outlets.proofs.LeftFrames.{nothing_written, rest_more}
use Rattle.sy_outlets.proofs.leaving.left.write_rests.Goals as goal

pub loop-untaken-preserved : goal.loop-untaken-preserved
loop-untaken-preserved g c = λ end texts rests more.
    let w = c.in_ok-write_rest.ensures in
    let m =
    rest_more _ _ end c.loop-untaken.all.items c.in-Some.untaken c.pop_front.new.self.items w.0 texts (search rules) w.1 w.2 rests more in
    c.loop-untaken.invariant end m.0 m.1 m.2

pub returns : goal.returns
returns g c =
    let none : c.loop-untaken.all.items ≡ [] = search rules in
    c.loop-untaken.invariant _ [] (subst (λ xs. AreRests xs []) (sym none) AreRests.none) (nothing_written _)
