use Rattle.std.proofs.Common.{inr, ap, sym, ◌∙◌}
use Rattle.std.specs.Option.{option_copied}
use Rattle.sy_site.specs.internal.Relays.{IsRefusedRelay}
use Rattle.sy_site.proofs.texts.relays.relay.Goals as goal

pub returns-in_default-clause-err : goal.returns-in_default-clause-err
returns-in_default-clause-err c = inr (IsRefusedRelay.no_file (sym c.bytes_of.ensures ∙ ap option_copied c.in_default.is))
