use Rattle.std.proofs.Common.{◌∙◌, ap, codes, map, subst, sym}
use Rattle.std.specs.Prelude.{string_bytes}
use Rattle.sy_site.specs.texts.Describes.{file_named}
use Rattle.sy_commands.specs.Checks.{AskedIs}
use Rattle.sy_report.specs.Memory.{given}
use Rattle.sy_commands.specs.Replays.{ReplayIs}
use Rattle.sy_commands.specs.Verdicts.{VerifyIs}
use Rattle.sy_commands.specs.Words.{AreAskingOf, AreReplayOf, AreVerifyOf}
use Rattle.syc.specs.declared.examples.TheConstants.{CERTIFICATE, EVENTS, SITE}
use Rattle.syc.proofs.ExampleEndings.{asking_writes, replaying_writes, verifying_writes}
use Rattle.syc.proofs.examples.run_words.Goals as goal

pub returns-clause-asked : goal.returns-clause-asked
returns-clause-asked g c = λ question are.
    subst (λ fs. AskedIs question (file_named fs) SITE.now c.run_each.result c.args.out.now c.run_each.new.out) c.files.ensures
    (c.run_each.ensures.asked question (codes "site") SITE.now (subst (λ ws. AreAskingOf question ws (codes "site")) (sym (ap (map string_bytes) c.as_slice-2.ensures.value ∙ c.in_ok-words.ensures)) are)
    (ap (λ fs. file_named fs (codes "site")) c.files.ensures))

pub returns-clause-asked_fails : goal.returns-clause-asked_fails
returns-clause-asked_fails g c = λ question are.
    asking_writes (given c.files.result) c.files.ensures c.run_each.result c.args.out.now c.run_each.new.out
    (c.run_each.ensures.asked_fails question (codes "site") SITE.now (subst (λ ws. AreAskingOf question ws (codes "site")) (sym (ap (map string_bytes) c.as_slice-2.ensures.value ∙ c.in_ok-words.ensures)) are)
    (ap (λ fs. file_named fs (codes "site")) c.files.ensures))

pub returns-clause-verify : goal.returns-clause-verify
returns-clause-verify g c = λ are.
    subst (λ fs. VerifyIs (file_named fs) SITE.now CERTIFICATE.now c.run_each.result c.args.out.now c.run_each.new.out) c.files.ensures
    (c.run_each.ensures.verify (codes "site") (codes "cert") SITE.now CERTIFICATE.now (subst (λ ws. AreVerifyOf ws (codes "site") (codes "cert")) (sym (ap (map string_bytes) c.as_slice-2.ensures.value ∙ c.in_ok-words.ensures)) are)
    (ap (λ fs. file_named fs (codes "site")) c.files.ensures) (ap (λ fs. file_named fs (codes "cert")) c.files.ensures))

pub returns-clause-verify_fails : goal.returns-clause-verify_fails
returns-clause-verify_fails g c = λ are.
    verifying_writes (given c.files.result) c.files.ensures c.run_each.result c.args.out.now c.run_each.new.out
    (c.run_each.ensures.verify_fails (codes "site") (codes "cert") SITE.now (subst (λ ws. AreVerifyOf ws (codes "site") (codes "cert")) (sym (ap (map string_bytes) c.as_slice-2.ensures.value ∙ c.in_ok-words.ensures)) are)
    (ap (λ fs. file_named fs (codes "site")) c.files.ensures))

pub returns-clause-replay : goal.returns-clause-replay
returns-clause-replay g c = λ are.
    subst (λ fs. ReplayIs (file_named fs) SITE.now EVENTS.now c.run_each.result c.args.out.now c.run_each.new.out) c.files.ensures
    (c.run_each.ensures.replay (codes "site") (codes "events") SITE.now EVENTS.now (subst (λ ws. AreReplayOf ws (codes "site") (codes "events")) (sym (ap (map string_bytes) c.as_slice-2.ensures.value ∙ c.in_ok-words.ensures)) are)
    (ap (λ fs. file_named fs (codes "site")) c.files.ensures) (ap (λ fs. file_named fs (codes "events")) c.files.ensures))

pub returns-clause-replay_fails : goal.returns-clause-replay_fails
returns-clause-replay_fails g c = λ are.
    replaying_writes (given c.files.result) c.files.ensures c.run_each.result c.args.out.now c.run_each.new.out
    (c.run_each.ensures.replay_fails (codes "site") (codes "events") SITE.now EVENTS.now (subst (λ ws. AreReplayOf ws (codes "site") (codes "events")) (sym (ap (map string_bytes) c.as_slice-2.ensures.value ∙ c.in_ok-words.ensures)) are)
    (ap (λ fs. file_named fs (codes "site")) c.files.ensures) (ap (λ fs. file_named fs (codes "events")) c.files.ensures))
