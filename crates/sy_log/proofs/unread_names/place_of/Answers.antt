use Rattle.std.proofs.Common.{rules, arith, List, ℕ, Bor}
use Rattle.sy_log.proofs.Names.{found_there, pushed_kept, pushed_there}
use Rattle.sy_log.proofs.unread_names.place_of.Goals as goal

pub returns-in-Some-clause-there : goal.returns-in-Some-clause-there
returns-in-Some-clause-there c =
    found_there {A = Bor (List ℕ)} (λ n. n.now) c.args.names.now.items c.args.name.now c.in-Some.place (search rules)

pub returns-clause-there : goal.returns-clause-there
returns-clause-there c =
    rw c.in_ok-push.ensures.items (pushed_there {A = Bor (List ℕ)} (λ n. n.now) c.args.names.now.items c.args.name c.len-place.result
    (omega (arith, c.len-place.ensures, c.args.names.now.ok.0)))

pub returns-clause-kept : goal.returns-clause-kept
returns-clause-kept c = rw c.in_ok-push.ensures.items (pushed_kept {A = Bor (List ℕ)} (λ n. n.now) c.args.names.now.items c.args.name)
