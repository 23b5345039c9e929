use Rattle.std.proofs.Common.{Some, None, arith, subst, sym, drop, ◌+◌}
use Rattle.std.proofs.lemmas.Str.Pattern.{rfind_char}
use Rattle.sy_diff.proofs.Places.{behind_slash, no_slash}
use Rattle.sy_diff.specs.Folders.{IsPlace}
use Rattle.sy_diff.proofs.folder.place_of.Goals as goal

pub returns-in-Some : goal.returns-in-Some
returns-in-Some c =
    let last = rfind_char 47 c.args.path.now (Some c.in-Some.at) c.in-Some.ensures.cases (omega arith) in
    subst (λ name. IsPlace c.args.path.now c.split_at.result.0.now name) (sym c.split_at.ensures.back)
    (subst (λ folder. IsPlace c.args.path.now folder (drop (c.in-Some.at + 1) c.args.path.now)) (sym c.split_at.ensures.front)
    (behind_slash c.args.path.now c.in-Some.at last.0 last.1 last.2))

pub returns-in-None : goal.returns-in-None
returns-in-None c = no_slash c.args.path.now (rfind_char 47 c.args.path.now None c.in-None.ensures.cases (omega arith))
