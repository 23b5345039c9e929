use Rattle.std.proofs.Common.{◌∷◌, codes, refl, ap, arith}
use Rattle.std.proofs.lemmas.List.{length-map}
use Rattle.sy_tunnels.specs.Tunnels.{IsFaulty}
use Rattle.sy_tunnels.proofs.tunnels.read_tunnel_line.Goals as goal

pub returns-in_default-clause-err : goal.returns-in_default-clause-err
returns-in_default-clause-err c =
    IsFaulty.no_shape refl (λ three. c.in_default.ensures.none (omega (arith, three, length-map c.args.rest.now (λ word. word.now))))

pub returns-in-Err-clause-err : goal.returns-in-Err-clause-err
returns-in-Err-clause-err c =
    IsFaulty.no_link c.in-Some.relay.now c.in-Some.action.now (ap (λ rest. codes "tunnel" ∷ rest) c.in-Some.ensures.some) c.in-Err.ensures.err

pub returns-then-is_among-clause-err : goal.returns-then-is_among-clause-err
returns-then-is_among-clause-err c =
    IsFaulty.again c.in-Ok.link
    (record {
      relay = c.in-Some.relay.now;
      action = c.in-Some.action.now;
      whole = ap (λ rest. codes "tunnel" ∷ rest) c.in-Some.ensures.some;
      is = c.in-Ok.ensures.ok;
    })
    (c.if-is_among.ensures.0 refl)
