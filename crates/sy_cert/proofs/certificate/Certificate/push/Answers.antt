use Rattle.std.proofs.Common.{◌≡◌, true, sym, subst}
use Rattle.sy_cert.specs.CertificateValue.{Certificate}
use Rattle.sy_cert.specs.declared.kinds.Kind.TheVariants as kinds
use Rattle.sy_cert.specs.Rows.{AreRows, IsRow, kind, last_kind, may_follow}
use Rattle.sy_cert.proofs.Rows.{one_more}
use Rattle.sy_cert.proofs.certificate.Certificate.push.Goals as goal

pub invariant_of-self-2 : goal.invariant_of-self-2
invariant_of-self-2 c = (
  c.self.invariant.0,
  subst (AreRows c.self.inside.version kinds.Cert) (sym c.in_ok-push.ensures.items) (one_more c.self.inside.version kinds.Cert c.self.inside.rows.items
      c.args.row c.self.invariant.1 (subst (λ (s : Certificate). IsRow s.version c.args.row) (sym c.self.view_is) c.requires.shape) (subst (λ (s : Certificate). may_follow (last_kind s.rows) (kind c.args.row) ≡ true) (sym c.self.view_is) c.requires.place)),
)
