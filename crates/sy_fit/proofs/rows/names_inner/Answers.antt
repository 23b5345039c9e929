use Rattle.std.proofs.Common.{◌∙◌, eq-eqb, eqb-true, sym}
use Rattle.std.proofs.lemmas.Bool.{false≢true}
use Rattle.sy_site.specs.Names.{name_of}
use Rattle.sy_fit.proofs.Judged.{same_bytes}
use Rattle.sy_fit.proofs.rows.names_inner.Goals as goal

pub returns-then-not-is_name : goal.returns-then-not-is_name
returns-then-not-is_name c =
    let named = same_bytes c.args.relay.now (name_of c.args.site.now c.args.inner.relay) c.is_name.result c.is_name.ensures in
    (λ is. absurd (false≢true is), λ h. absurd (false≢true (sym c.if-not-is_name.true ∙ named.1 h.0)))

pub returns : goal.returns
returns c =
    let named = same_bytes c.args.relay.now (name_of c.args.site.now c.args.inner.relay) c.is_name.result c.is_name.ensures in (
      λ is. (named.0 c.if-not-is_name.false, eqb-true c.args.list c.args.inner.list is),
      λ h. eq-eqb c.args.list c.args.inner.list h.1,
    )
