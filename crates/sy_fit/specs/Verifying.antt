-- What is said of a certificate that is verified.
use Rattle.std.specs.Prelude.{ℕ, List, codes}
use Rattle.sy_wire.specs.declared.class.Class.{Class}
use Rattle.sy_site.specs.Sites.{Site}
use Rattle.sy_cert.specs.CertificateValue.{Certificate}
use Rattle.sy_fit.specs.Fit.{IsWrongFor}
use Rattle.sy_fit.specs.declared.verifying.CertFault.{CertFault}
use Rattle.sy_fit.specs.declared.verifying.CertFault.TheVariants as faults
use Rattle.sy_fit.specs.declared.rows.wanted.RowKind.{RowKind}
use Rattle.sy_fit.specs.declared.rows.wanted.RowKind.TheVariants as kinds

-- This is wrong with the certificate: its first line, or the first wrong row. Memory may always run out.
abbrev pub IsFault : Site → Certificate → CertFault → Type 0
IsFault site certificate (faults.Wrong line kind) = IsWrongFor site certificate line kind
IsFault site certificate faults.NoMemory = Unit {0}

-- the word that the rows of a kind begin with
abbrev pub kind_words : RowKind → List ℕ
kind_words kinds.Class = codes "class"
kind_words kinds.Reach = codes "reach"
kind_words kinds.Branch = codes "branch"
kind_words kinds.Rank = codes "rank"
kind_words kinds.Inner = codes "inner"
kind_words kinds.Path = codes "path"
kind_words kinds.Cert = codes "cert"
