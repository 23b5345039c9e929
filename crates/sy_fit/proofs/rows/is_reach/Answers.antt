use Rattle.std.proofs.Common.{◌∙◌, ap, sym}
use Rattle.std.proofs.lemmas.Bool.{false≢true}
use Rattle.sy_site.specs.Names.{name_of}
use Rattle.sy_fit.proofs.Judged.{same_bytes}
use Rattle.sy_fit.proofs.rows.is_reach.Goals as goal

pub returns-then-not-is_name : goal.returns-then-not-is_name
returns-then-not-is_name c =
    let named = same_bytes c.args.relay.now (name_of c.args.site.now c.args.input.relay) c.is_name.result c.is_name.ensures in
    (λ no. absurd (false≢true no), λ h. absurd (false≢true (sym c.if-not-is_name.true ∙ named.1 h.0)))

pub returns : goal.returns
returns c =
    let named = same_bytes c.args.relay.now (name_of c.args.site.now c.args.input.relay) c.is_name.result c.is_name.ensures in (
      λ yes. (named.0 c.if-not-is_name.false, sym c.if-input_at-port.false ∙ ap (λ i. i.port) c.input_at.ensures, c.is_clean.ensures.0 yes),
      λ h. c.is_clean.ensures.1 h.2,
    )
