use Rattle.std.proofs.Common.{◌≡◌, ◌∷◌, List, [], ap, refl, subst, sym, ◌∙◌}
use Rattle.sy_site.specs.machine.Findings.{IsLoop}
use Rattle.sy_site.specs.declared.finding.WayRow.{WayRow}
use Rattle.sy_site.specs.Finding as finding
use Rattle.sy_checker.specs.internal.Loops.{HasNoRanks, way_of}
use Rattle.sy_checker.proofs.course.unranked.Goals as goal

same_way : (rows : List WayRow) → finding.way_of rows ≡ way_of rows
same_way [] = refl
same_way (row ∷ rows) = ap (λ l. finding.row_of row ∷ l) (same_way rows)

pub looped-requires-clause-met : goal.looped-requires-clause-met
looped-requires-clause-met c =
    subst (λ w. IsLoop c.args.site.now c.args.class w c.in-Loop.end)
    (sym (ap finding.way_of c.as_slice.ensures.value ∙ same_way c.in-Loop.way.items))
    (subst (HasNoRanks c.args.site.now c.args.class) c.in-Loop.is c.requires.none)
