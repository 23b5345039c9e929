use Rattle.std.proofs.Common.{Some, ap, inl, inr, subst, sym}
use Rattle.std.specs.Prelude.{option_map}
use Rattle.sy_commands.specs.Graphs.{GraphIs}
use Rattle.sy_commands.proofs.Drawn.{drawn, two_fails}
use Rattle.sy_commands.proofs.NoMemory.{memory_fails}
use Rattle.sy_commands.proofs.graph.graph.Goals as goal

pub returns-in-Ok-None-clause-draws : goal.returns-in-Ok-None-clause-draws
returns-in-Ok-None-clause-draws g c = λ text known. elim c.no_class.ensures.reported [
  | inl two ↦ inr (
    c.in-Some.word.now,
    ap (option_map (λ word. word.now)) c.in-Some.is,
    rw c.in-Ok-None.field-0-is at c.in-Ok-None.ensures.none,
    two.0,
    c.no_class.ensures.same,
    two.1,
    two.2,
  )
  | inr three ↦ inl (inr (inr (inl three), c.no_class.ensures.same))
]

pub returns-in-Ok-None-clause-fails : goal.returns-in-Ok-None-clause-fails
returns-in-Ok-None-clause-fails g c = λ text known. elim c.no_class.ensures.reported [
  | inl two ↦ two_fails _ c.no_class.result c.args.out.now c.no_class.new.out two.0
  | inr three ↦ memory_fails _ c.no_class.result c.args.out.now c.no_class.new.out three.0
]

pub returns-in-Ok-Some-clause-draws : goal.returns-in-Ok-Some-clause-draws
returns-in-Ok-Some-clause-draws g c = λ text known.
    let bytes_of = g.F.Files.bytes_of c.args.files.now in
    subst (λ class. GraphIs class bytes_of text c.print_drawing-in-Ok-Some.result c.args.out.now c.print_drawing-in-Ok-Some.new.out)
    (sym (ap (option_map (λ word. word.now)) c.in-Some.is))
    (drawn (Some c.in-Some.word.now) bytes_of text c.print_drawing-in-Ok-Some.result c.args.out.now c.print_drawing-in-Ok-Some.new.out
    (c.in-Ok-Some.class, (rw c.in-Ok-Some.field-0-is at c.in-Ok-Some.ensures.some)) (c.print_drawing-in-Ok-Some.ensures.draws text known))
