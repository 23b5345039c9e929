use Rattle.std.proofs.Common.{rules, ◌≡◌, ◌++◌, List, ℕ, length, sym, ◌∙◌, ap, append_assoc}
use Rattle.sy_journal.specs.Packing.{digits}
use Rattle.sy_journal.proofs.Packs.{packed-push}
use Rattle.sy_journal.proofs.batch.pack.Goals as goal

pub returns : goal.returns
returns c es was =
    let n = length c.args.entry.now in
    let is : c.extend_from_slice-2.new.self.items ≡ c.args.content.now.items ++ digits n ++ c.args.entry.now = search rules in
    is ∙ append_assoc c.args.content.now.items (digits n) c.args.entry.now ∙ ap (λ (l : List ℕ). l ++ (digits n ++ c.args.entry.now)) was ∙ sym (packed-push es c.args.entry.now)
