use Rattle.std.proofs.Common.{◌≡◌, ◌∷◌, Some, true}
use Rattle.sy_site.specs.texts.Files.{file_names}
use Rattle.sy_commands.proofs.Endings.{answered}
use Rattle.sy_commands.proofs.Failing.{fails_by}
use Rattle.sy_commands.proofs.graph.print_drawing.Goals as goal

pub returns-clause-draws : goal.returns-clause-draws
returns-clause-draws g c = λ text known.
    answered (λ site drawing is_accepted. is_accepted ≡ true) (g.F.Files.bytes_of c.args.files.now) c.args.site.now text c.drawing_of.result c.print.result
    c.args.out.now c.print.new.out c.drawing_of.ensures.ok c.drawing_of.ensures.err c.print.ensures.printed c.print.ensures.stopped known

pub returns-clause-fails : goal.returns-clause-fails
returns-clause-fails g c =
    let site = c.args.site.now in
    fails_by (g.F.Files.may_fail c.args.files.now) (λ text. g.F.Files.bytes_of c.args.files.now site ≡ Some text) (λ text. site ∷ file_names text)
    c.drawing_of.result c.print.result c.args.out.now c.print.new.out c.print.ensures.printed c.print.ensures.stopped c.drawing_of.ensures.unread
