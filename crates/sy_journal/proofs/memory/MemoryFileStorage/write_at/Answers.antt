use Rattle.std.proofs.Common.{◌≡◌, ◌∙◌, sym, refl, subst, ap}
use Rattle.sy_journal.specs.Storage.{Torn, written_at}
use Rattle.sy_journal.proofs.Kept.{elapses_to}
use Rattle.sy_journal.proofs.Torn.{torn_written, torn_same}
use Rattle.sy_journal.proofs.memory.MemoryFileStorage.write_at.Goals as goal

pub returns-clause-time : goal.returns-clause-time
returns-clause-time c =
    let past = c.in_ok-replace.ensures.past in
    elapses_to c.args.self.now.past.items c.replace.new.past.items past.0 c.args.self.now.bytes.items c.replace.new.bytes.items past.1 past.2

pub returns-in_err-next-clause-crash : goal.returns-in_err-next-clause-crash
returns-in_err-next-clause-crash c f is = (c.args.self.now.bytes.items, refl, subst (Torn c.args.at c.args.bytes.now c.args.self.now.bytes.items) (sym is) (torn_same c.args.at c.args.bytes.now c.args.self.now.bytes.items))

pub returns-in_err-replace-clause-crash : goal.returns-in_err-replace-clause-crash
returns-in_err-replace-clause-crash c f is = (c.args.self.now.bytes.items, refl, subst (Torn c.args.at c.args.bytes.now c.args.self.now.bytes.items) (sym (is ∙ c.in_err-replace.ensures.err)) (torn_same c.args.at c.args.bytes.now c.args.self.now.bytes.items))

pub returns-clause-crash : goal.returns-clause-crash
returns-clause-crash c f is =
    let written_now : c.replace.new.bytes.items ≡ written_at c.args.at c.args.bytes.now c.args.self.now.bytes.items = c.in_ok-replace.ensures.ok ∙ c.in_ok-next.ensures ∙ ap (written_at c.args.at c.args.bytes.now) c.deref.ensures.value in
    (c.args.self.now.bytes.items, refl, subst (Torn c.args.at c.args.bytes.now c.args.self.now.bytes.items) (sym (is ∙ written_now)) (torn_written c.args.at c.args.bytes.now c.args.self.now.bytes.items))
