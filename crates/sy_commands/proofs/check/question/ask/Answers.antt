use Rattle.std.proofs.Common.{◌≡◌, ◌∷◌, Some}
use Rattle.sy_site.specs.texts.Files.{file_names}
use Rattle.sy_commands.proofs.Ends.{WordsOf, asked_ends, asked_says, fails_with}
use Rattle.sy_commands.proofs.ReportLaws.{kept_in_words}
use Rattle.sy_commands.proofs.check.question.ask.Goals as goal

pub returns-clause-ends : goal.returns-clause-ends
returns-clause-ends g c = λ text known.
    asked_ends c.args.asked (g.F.Files.bytes_of c.args.files.now) c.args.site.now text c.answer_of-answer.result c.print_report.result
    c.args.out.now c.print_report.new.out (WordsOf c.args.asked c.args.options) c.answer_of-answer.ensures.ok c.answer_of-answer.ensures.err
    c.print_report.ensures.printed c.print_report.ensures.stopped known

pub returns-clause-says : goal.returns-clause-says
returns-clause-says g c = λ words text known.
    asked_says c.args.asked c.args.options (g.F.Files.bytes_of c.args.files.now) c.args.site.now text c.answer_of-answer.result c.print_report.result
    c.args.out.now c.print_report.new.out c.answer_of-answer.ensures.ok c.answer_of-answer.ensures.err
    c.print_report.ensures.printed c.print_report.ensures.reported words known

pub returns-clause-check_safe : goal.returns-clause-check_safe
returns-clause-check_safe g c = λ text known check zero.
    kept_in_words c.one_site.ensures (g.F.Files.bytes_of c.args.files.now) c.args.asked c.args.site.now text (WordsOf c.args.asked c.args.options)
    c.answer_of-answer.result c.print_report.result c.args.out.now c.print_report.new.out c.answer_of-answer.ensures.ok
    c.print_report.ensures.printed c.print_report.ensures.stopped known check zero

pub returns-clause-fails : goal.returns-clause-fails
returns-clause-fails g c =
    let site = c.args.site.now in
    fails_with (g.F.Files.may_fail c.args.files.now) (λ text. g.F.Files.bytes_of c.args.files.now site ≡ Some text) (λ text. site ∷ file_names text)
    c.answer_of-answer.result c.print_report.result c.args.out.now c.print_report.new.out
    c.print_report.ensures.printed c.print_report.ensures.stopped c.answer_of-answer.ensures.unread
