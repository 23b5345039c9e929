use Rattle.sy_checker.proofs.Described.{described_named}
use Rattle.std.proofs.Common.{subst, sym, ◌∙◌}
use Rattle.sy_cert.specs.Rows.{IsVersion}
use Rattle.sy_cert.specs.declared.kinds.Kind.TheVariants as kinds
use Rattle.sy_checker.specs.internal.Certifying.{AreShaped}
use Rattle.sy_fit.specs.Fit.{IsFit}
use Rattle.sy_checker.proofs.Shaped.{a_version, rows_shaped}
use Rattle.sy_checker.proofs.certifying.fit_certificate.Goals as goal

pub certificate_of-requires : goal.certificate_of-requires
certificate_of-requires c =
    let site = c.args.site.now in
    let is = c.is_described.ensures in
    record {
      version = subst IsVersion (sym c.policy.ensures) (a_version site c.is_lawful.ensures);
      shaped = subst (λ v. AreShaped v kinds.Cert c.in_ok-rows.rows.items) (sym c.policy.ensures) (rows_shaped site c.is_lawful.ensures (described_named is.0 is.1 site is.2) c.archives_are_those_named.ensures.named
          c.archives_are_those_named.ensures.all c.in_ok-rows.rows.items c.in_ok-rows.ensures.ok);
    }

pub returns-clause-ok : goal.returns-clause-ok
returns-clause-ok c = record {
  version = c.in_ok-certificate.ensures.version ∙ c.policy.ensures;
  rows = subst (IsFit c.args.site.now) (sym c.in_ok-certificate.ensures.rows) c.in_ok-rows.ensures.ok;
}
