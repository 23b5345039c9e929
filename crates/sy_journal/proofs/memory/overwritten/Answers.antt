use Rattle.std.proofs.Common.{rules, ◌≡◌, ◌+◌, ◌++◌, length, take, drop, sym, refl, ◌∙◌}
use Rattle.std.proofs.lemmas.List.{take_rest}
use Rattle.sy_journal.proofs.Torn.{written_is}
use Rattle.sy_journal.proofs.memory.overwritten.Goals as goal

pub returns : goal.returns
returns c =
    let is : c.extend_from_slice-2.new.self.items ≡ take c.args.at c.args.old.now ++ c.args.bytes.now ++ drop (c.args.at + length c.args.bytes.now) c.args.old.now = search (rules, take_rest) in
    is ∙ sym (written_is c.args.at c.args.bytes.now c.args.old.now _ refl c.requires)
