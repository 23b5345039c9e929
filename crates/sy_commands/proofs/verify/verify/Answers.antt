use Rattle.std.proofs.Common.{◌≡◌, ◌∷◌, Some}
use Rattle.sy_site.specs.texts.Files.{file_names}
use Rattle.sy_commands.proofs.Ends.{fails_with, verify_ends, verify_says}
use Rattle.sy_commands.proofs.ReportLaws.{halted_otherwise, kept_by_zero}
use Rattle.sy_commands.proofs.verify.verify.Goals as goal

pub returns-clause-ends : goal.returns-clause-ends
returns-clause-ends g c = λ site text is_site is_text.
    verify_ends (g.F.Files.bytes_of c.args.files.now) c.args.site_name.now c.args.certificate_name.now site text
    c.answer_of-answer.result c.print_report.result c.args.out.now c.print_report.new.out c.answer_of-answer.ensures.ok c.answer_of-answer.ensures.err
    c.print_report.ensures.printed c.print_report.ensures.stopped is_site is_text

pub returns-clause-fails : goal.returns-clause-fails
returns-clause-fails g c =
    let site = c.args.site_name.now in
    fails_with (g.F.Files.may_fail c.args.files.now) (λ text. g.F.Files.bytes_of c.args.files.now site ≡ Some text)
    (λ text. site ∷ c.args.certificate_name.now ∷ file_names text)
    c.answer_of-answer.result c.print_report.result c.args.out.now c.print_report.new.out
    c.print_report.ensures.printed c.print_report.ensures.stopped c.answer_of-answer.ensures.unread

pub returns-clause-says : goal.returns-clause-says
returns-clause-says g c = λ words site text is_site is_text.
    verify_says c.args.options (g.F.Files.bytes_of c.args.files.now) c.args.site_name.now c.args.certificate_name.now site text
    c.answer_of-answer.result c.print_report.result c.args.out.now c.print_report.new.out
    (c.answer_of-answer.ensures.words words) c.answer_of-answer.ensures.err
    c.print_report.ensures.printed (c.print_report.ensures.reported words) is_site is_text

pub returns-clause-verify_safe : goal.returns-clause-verify_safe
returns-clause-verify_safe g c = λ text is_site zero.
    kept_by_zero (g.F.Files.bytes_of c.args.files.now) c.args.site_name.now text c.answer_of-answer.result c.print_report.result
    c.args.out.now c.print_report.new.out c.answer_of-answer.ensures.kept c.print_report.ensures.printed
    (halted_otherwise c.answer_of-answer.result c.print_report.result _ _ c.print_report.ensures.stopped) is_site zero
