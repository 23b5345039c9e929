use Rattle.std.proofs.Common.{refl}
use Rattle.sy_relp.proofs.OneFrame.{same_fields}
use Rattle.sy_relp.proofs.Numbers.{gives_frame}
use Rattle.sy_relp.proofs.Readings.{stops_at}
use Rattle.sy_relp.proofs.reader.Reader.next_into.Goals as goal

pub returns-in-Ok-replace-2-clause-ok : goal.returns-in-Ok-replace-2-clause-ok
returns-in-Ok-replace-2-clause-ok c =
    let h = rw c.deref.ensures.value at c.in-Ok.ensures.ok in
    gives_frame c.args.self.now c.self.inside.bytes.items c.self.inside.at c.self.inside.end c.self.inside.has_failed _ _ _ c.self.invariant.0 c.self.invariant.1 c.self.view_is c.if-self.false h
    (same_fields _ _ refl c.in-Ok-replace.ensures c.in-Ok-replace-2.ensures)

pub returns-in-Err-Bad-clause-err : goal.returns-in-Err-Bad-clause-err
returns-in-Err-Bad-clause-err c =
    let bad = rw c.in-Err-Bad.field-0-is at c.in-Err-Bad.ensures.err in
    stops_at c.in-Err-Bad.fault c.args.self.now c.self.inside.bytes.items c.self.inside.at c.self.inside.end c.self.inside.has_failed c.self.view_is c.if-self.false (rw c.deref.ensures.value at bad)
