use Rattle.sy_select.proofs.Bits.{added, more_is_small, less_is_small, taken}
use Rattle.sy_select.proofs.severities.Level.apply.Goals as goal

pub returns-then-self-clause-pairs : goal.returns-then-self-clause-pairs
returns-then-self-clause-pairs c = λ s within. taken c.args.set.now.0 c.args.self.severities.0 c.remove.new.self.0 s c.args.self.takes c.if-self.true c.args.self.mask_in_range within (c.remove.ensures tt)

pub returns-else-self-clause-pairs : goal.returns-else-self-clause-pairs
returns-else-self-clause-pairs c = λ s within. added c.args.set.now.0 c.args.self.severities.0 c.insert.new.self.0 s c.args.self.takes c.if-self.false (c.insert.ensures tt)

pub returns-then-self-clause-small : goal.returns-then-self-clause-small
returns-then-self-clause-small c = λ small. less_is_small c.args.set.now.0 c.args.self.severities.0 c.remove.new.self.0 small (c.remove.ensures tt)

pub returns-else-self-clause-small : goal.returns-else-self-clause-small
returns-else-self-clause-small c = λ small. more_is_small c.args.set.now.0 c.args.self.severities.0 c.insert.new.self.0 small c.args.self.mask_in_range (c.insert.ensures tt)
