use Rattle.sy_commands.proofs.CommandWords.{shows_checked}
use Rattle.sy_commands.proofs.commands.over_site.Goals as goal

pub returns-in-Ask-clause-ends : goal.returns-in-Ask-clause-ends
returns-in-Ask-clause-ends g c = rw c.in-Ask.is (λ text known. c.ask.ensures.ends text known)

pub returns-in-Ask-clause-says : goal.returns-in-Ask-clause-says
returns-in-Ask-clause-says g c = rw c.in-Ask.is (λ words text known. c.ask.ensures.says words text known)

pub returns-in-Ask-clause-keeps : goal.returns-in-Ask-clause-keeps
returns-in-Ask-clause-keeps g c = rw c.in-Ask.is (shows_checked (g.F.Files.bytes_of c.args.files.now) _ _ c.ask.result c.ask.ensures.check_safe)

pub returns-in-Replay-clause-fails : goal.returns-in-Replay-clause-fails
returns-in-Replay-clause-fails g c = rw c.in-Replay.is (λ text events known read. c.replay.ensures.fails text events known read)

pub returns-in-Replay-clause-says : goal.returns-in-Replay-clause-says
returns-in-Replay-clause-says g c = rw c.in-Replay.is (λ words text events known read. c.replay.ensures.says words text events known read)

pub returns-in-Verify-clause-says : goal.returns-in-Verify-clause-says
returns-in-Verify-clause-says g c = rw c.in-Verify.is (λ words site text known read. c.verify.ensures.says words site text known read)

pub returns-in-Verify-clause-keeps : goal.returns-in-Verify-clause-keeps
returns-in-Verify-clause-keeps g c = rw c.in-Verify.is (λ text known zero. c.verify.ensures.verify_safe text known zero)
