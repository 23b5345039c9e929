use Rattle.std.proofs.Common.{◌∙◌, ap, sym}
use Rattle.std.proofs.lemmas.Bool.{false≢true}
use Rattle.sy_site.specs.Names.{action_name, name_of}
use Rattle.sy_fit.proofs.Judged.{same_bytes}
use Rattle.sy_fit.proofs.rows.names_path.Goals as goal

pub returns-then-not-is_name : goal.returns-then-not-is_name
returns-then-not-is_name c =
    let named = same_bytes c.args.relay.now (name_of c.args.site.now c.args.entry.relay) c.is_name.result c.is_name.ensures in
    (λ no. absurd (false≢true no), λ h. absurd (false≢true (sym c.if-not-is_name.true ∙ named.1 h.0)))

pub returns : goal.returns
returns c =
    let first = same_bytes c.args.relay.now (name_of c.args.site.now c.args.entry.relay) c.is_name.result c.is_name.ensures in
    let second = same_bytes c.args.archive_relay.now (name_of c.args.site.now c.args.archive.relay) c.is_name-2.result c.is_name-2.ensures in
    let third = same_bytes c.args.action.now (action_name c.args.site.now c.args.archive) c.is_action_name.result c.is_action_name.ensures in (
      λ yes. (
        first.0 c.if-not-is_name.false,
        sym c.if-input_at-port.false ∙ ap (λ i. i.port) c.input_at.ensures,
        second.0 c.if-not-is_name-2.false,
        third.0 yes,
      ),
      λ h. third.1 h.3,
    )
