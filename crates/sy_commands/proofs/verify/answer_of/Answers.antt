use Rattle.std.proofs.Common.{◌∷◌}
use Rattle.sy_site.specs.texts.Files.{file_names}
use Rattle.std.proofs.lemmas.Result.{err_from_is_err_and}
use Rattle.sy_commands.proofs.Endings.{certificate_unread, site_unread}
use Rattle.sy_commands.proofs.ReportLaws.{kept_site}
use Rattle.sy_places.proofs.Unread.{unread_behind, unread_between, unread_first}
use Rattle.sy_commands.proofs.verify.answer_of.Goals as goal

pub returns-clause-ok : goal.returns-clause-ok
returns-clause-ok g c = λ site text is_site is_text. (
  c.in_ok-answer.ensures.ok.0,
  record {
    site = c.in_ok-site.site;
    is_site = c.in_ok-site.ensures.ok site is_site;
    certificate = c.in_ok-certificate.certificate;
    is_text = rw is_text at c.in_ok-certificate.ensures.ok;
    says = c.in_ok-answer.ensures.ok.1;
  },
)

pub returns-clause-words : goal.returns-clause-words
returns-clause-words g c = λ words site text is_site is_text. record {
  site = c.in_ok-site.site;
  is_site = c.in_ok-site.ensures.ok site is_site;
  certificate = c.in_ok-certificate.certificate;
  is_text = rw is_text at c.in_ok-certificate.ensures.ok;
  says = c.in_ok-answer.ensures.words words;
}

pub returns-clause-kept : goal.returns-clause-kept
returns-clause-kept g c = λ text is_site accepts.
    kept_site c.one_site.ensures (g.F.Files.bytes_of c.args.files.now) text c.in_ok-site.site c.in_ok-certificate.certificate
    c.in_ok-answer.ensures.ok.0 c.in_ok-answer.answer.is_accepted (c.in_ok-site.ensures.ok text is_site) c.in_ok-answer.ensures.ok.1 accepts

pub returns-in_err-site-clause-err : goal.returns-in_err-site-clause-err
returns-in_err-site-clause-err g c =
    let p = err_from_is_err_and c.from_residual.result c.from_residual.ensures.1 in
    rw (p.1, p.2) (λ site text is_site is_text.
    site_unread (g.F.Files.bytes_of c.args.files.now) site text c.in_err-site.field-0.0 c.in_err-site.ensures.kind (c.in_err-site.ensures.err site is_site))

pub returns-in_err-certificate-clause-err : goal.returns-in_err-certificate-clause-err
returns-in_err-certificate-clause-err g c =
    let p = err_from_is_err_and c.from_residual-in_err-certificate.result c.from_residual-in_err-certificate.ensures.1 in
    rw (p.1, p.2) (λ site text is_site is_text.
    certificate_unread (g.F.Files.bytes_of c.args.files.now) site text c.in_ok-site.site (c.in_ok-site.ensures.ok site is_site)
    c.in_err-certificate.field-0.0 (rw is_text at c.in_err-certificate.ensures.err))

pub returns-in_err-answer-clause-err : goal.returns-in_err-answer-clause-err
returns-in_err-answer-clause-err g c =
    let p = err_from_is_err_and c.from_residual-in_err-answer.result c.from_residual-in_err-answer.ensures.1 in
    rw (p.1, p.2) (rw c.in_err-answer.ensures.err (λ site text is_site is_text. tt))

pub returns-in_err-site-clause-unread : goal.returns-in_err-site-clause-unread
returns-in_err-site-clause-unread g c =
    let p = err_from_is_err_and c.from_residual.result c.from_residual.ensures.1 in
    rw (p.1, p.2) (λ text is_site.
    unread_between (g.F.Files.may_fail c.args.files.now) c.args.site_name.now c.args.certificate_name.now (file_names text) c.in_err-site.field-0.0
    (c.in_err-site.ensures.unread text is_site))

pub returns-in_err-certificate-clause-unread : goal.returns-in_err-certificate-clause-unread
returns-in_err-certificate-clause-unread g c =
    let p = err_from_is_err_and c.from_residual-in_err-certificate.result c.from_residual-in_err-certificate.ensures.1 in
    let why = c.in_err-certificate.field-0.0 in
    rw (p.1, p.2) (λ text is_site.
    let may_fail = g.F.Files.may_fail c.args.files.now in
    unread_behind may_fail c.args.site_name.now (c.args.certificate_name.now ∷ file_names text) why
    (unread_first may_fail c.args.certificate_name.now (file_names text) why c.in_err-certificate.ensures.unread))

pub returns-in_err-answer-clause-unread : goal.returns-in_err-answer-clause-unread
returns-in_err-answer-clause-unread g c =
    let p = err_from_is_err_and c.from_residual-in_err-answer.result c.from_residual-in_err-answer.ensures.1 in
    rw (p.1, p.2) (rw c.in_err-answer.ensures.err (λ text is_site. tt))
