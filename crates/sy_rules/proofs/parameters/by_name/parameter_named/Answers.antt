use Rattle.std.proofs.Common.{◌++◌, refl}
use Rattle.sy_rules.specs.parameters.Rows.{own_rows, destination_rows, queue_head_rows, queue_rest_rows}
use Rattle.sy_rules.proofs.lemmas.parameters.Lookups.{lookup-append}
use Rattle.sy_rules.proofs.parameters.by_name.parameter_named.Goals as goal

pub returns-in-Some : goal.returns-in-Some
returns-in-Some c =
    let k = c.args.kind in
    let e = lookup-append (own_rows k) (destination_rows k ++ (queue_head_rows k ++ queue_rest_rows k)) c.args.name.now in
    rw (e, ← c.own_rows.ensures, ← c.in-Some.ensures) refl

pub returns-in-None : goal.returns-in-None
returns-in-None c =
    let k = c.args.kind in
    let e = lookup-append (own_rows k) (destination_rows k ++ (queue_head_rows k ++ queue_rest_rows k)) c.args.name.now in
    rw (e, ← c.own_rows.ensures, ← c.in-None.ensures, ← c.find_in_destination.ensures) refl
