use Rattle.std.proofs.Common.{List, ℕ, sym, subst}
use Rattle.sy_journal.specs.Storage.{written_at}
use Rattle.sy_journal.specs.Finishes.{Fades}
use Rattle.sy_journal.proofs.Moments.{started, goes_on}
use Rattle.sy_journal.proofs.Fading.{fades_written, finish_crash}
use Rattle.sy_journal.proofs.finishes.finish.Goals as goal

pub returns-clause-any_moment : goal.returns-clause-any_moment
returns-clause-any_moment g c =
    let set = g.S.Storage.seen c.args.file.now in
    let P = Fades (written_at c.args.first c.args.run.now set) in
    let s0 = started g.S.Storage.moment g.S.Storage.left_since c.args.file.now P (λ f left. fades_written c.args.first c.args.run.now set f c.requires.set (c.requires.sound f (g.met.S.Storage.only_now c.args.file.now f left))) in
    goes_on g.S.Storage.moment g.S.Storage.left_since c.args.file.now c.args.file.now c.write_at.new.self P _ s0 c.write_at.ensures.time (finish_crash set c.args.run.now c.args.first _ _ c.requires.set c.requires.sound c.write_at.ensures.crash)

pub returns-in_err-write_at-clause-any_moment : goal.returns-in_err-write_at-clause-any_moment
returns-in_err-write_at-clause-any_moment g c =
    let set = g.S.Storage.seen c.args.file.now in
    let P = Fades (written_at c.args.first c.args.run.now set) in
    let s0 = started g.S.Storage.moment g.S.Storage.left_since c.args.file.now P (λ f left. fades_written c.args.first c.args.run.now set f c.requires.set (c.requires.sound f (g.met.S.Storage.only_now c.args.file.now f left))) in
    goes_on g.S.Storage.moment g.S.Storage.left_since c.args.file.now c.args.file.now c.write_at.new.self P _ s0 c.write_at.ensures.time (finish_crash set c.args.run.now c.args.first _ _ c.requires.set c.requires.sound c.write_at.ensures.crash)

pub returns-clause-sound : goal.returns-clause-sound
returns-clause-sound g c f left =
    subst (λ (l : List ℕ). Fades l f) (sym c.in_ok-write_at.ensures.written) (finish_crash (g.S.Storage.seen c.args.file.now) c.args.run.now c.args.first _ _ c.requires.set c.requires.sound c.write_at.ensures.crash f left)
