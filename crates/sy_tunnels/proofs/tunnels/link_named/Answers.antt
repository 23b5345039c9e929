use Rattle.std.proofs.Common.{sym, ◌∙◌}
use Rattle.sy_tunnels.specs.Tunnels.{IsNoLink}
use Rattle.sy_tunnels.proofs.tunnels.link_named.Goals as goal

pub returns-in-None-link_at-clause-err : goal.returns-in-None-link_at-clause-err
returns-in-None-link_at-clause-err c =
    IsNoLink.no_action c.in-Some.at (sym c.relay_named.ensures ∙ c.in-Some.is) (sym c.link_at.ensures ∙ c.in-None-link_at.is)

pub returns-in-None-clause-err : goal.returns-in-None-clause-err
returns-in-None-clause-err c = IsNoLink.no_relay (sym c.relay_named.ensures ∙ c.in-None.is)
