use Rattle.std.proofs.Common.{List, ℕ, [], ◌∷◌, subst}
use Rattle.sy_runtime.specs.Connections.{KeepsMore}
use Rattle.sy_runtime.proofs.Taken.{unread_one}
use Rattle.sy_runtime.proofs.connection.keeping.keep_one.Goals as goal

pub returns-in-Ok-counted-clause-kept : goal.returns-in-Ok-counted-clause-kept
returns-in-Ok-counted-clause-kept g c = λ read left before later holds.
    unread_one read c.args.end.now c.count_kept-counted.new.end before _ _ c.args.item c.in-Other.text c.in-Other.fault later left c.in-Other.is
    (subst (λ (text : List ℕ). KeepsMore (g.U.UnreadSink.kept c.args.sink.now) (g.U.UnreadSink.kept c.keep.new.self) (text ∷ [])) c.as_slice.ensures.value
    c.in-Ok.ensures.ok)
    c.count_kept-counted.ensures.end holds

pub returns-in-Ok-clause-kept : goal.returns-in-Ok-clause-kept
returns-in-Ok-clause-kept g c = λ read left before later holds.
    unread_one read c.args.end.now c.count_kept-counted.new.end before _ _ c.args.item c.in-Other.text c.in-Other.fault later left c.in-Other.is
    (subst (λ (text : List ℕ). KeepsMore (g.U.UnreadSink.kept c.args.sink.now) (g.U.UnreadSink.kept c.keep.new.self) (text ∷ [])) c.as_slice.ensures.value
    c.in-Ok.ensures.ok)
    c.count_kept-counted.ensures.end holds
