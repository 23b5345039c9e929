use Rattle.std.proofs.Common.{refl}
use Rattle.sy_report.specs.declared.command_line.command.Asked.TheVariants as asked
use Rattle.sy_commands.specs.Words.{OverSite}
use Rattle.sy_commands.specs.Requests.{no_options}
use Rattle.syc.proofs.ByCommand.{asked_alone, says_as}
use Rattle.syc.proofs.Optioned.{asking_over, none_over, optioned_over, replay_over, verify_over}
use Rattle.syc.proofs.laws.run_each.Goals as goal

pub returns-clause-pass : goal.returns-clause-pass
returns-clause-pass g c = λ words input known. (c.run.ensures.pass words).says input known

pub returns-clause-leaves : goal.returns-clause-leaves
returns-clause-leaves g c = λ words. (c.run.ensures.pass words).leaves

pub returns-clause-replay : goal.returns-clause-replay
returns-clause-replay g c = λ site events text input are known read.
    (c.run.ensures.reports no_options (OverSite.Replay site events) (replay_over _ site events are)).says refl text input known read

pub returns-clause-asked : goal.returns-clause-asked
returns-clause-asked g c = λ question site text are known.
    asked_alone question _ text _ _ _
    ((c.run.ensures.reports no_options (OverSite.Ask question site) (asking_over question _ site are)).says refl text known)

pub returns-clause-verify : goal.returns-clause-verify
returns-clause-verify g c = λ site certificate site_text text are known read.
    (c.run.ensures.reports no_options (OverSite.Verify site certificate) (verify_over _ site certificate are)).says refl site_text text known read

pub returns-clause-check_safe : goal.returns-clause-check_safe
returns-clause-check_safe g c = λ site text are known zero.
    c.run.ensures.safe no_options (OverSite.Ask asked.Check site) (asking_over asked.Check _ site are) text known zero

pub returns-clause-verify_safe : goal.returns-clause-verify_safe
returns-clause-verify_safe g c = λ site certificate text are known zero.
    c.run.ensures.safe no_options (OverSite.Verify site certificate) (verify_over _ site certificate are) text known zero

pub returns-clause-replay_fails : goal.returns-clause-replay_fails
returns-clause-replay_fails g c = λ site events text input are known read.
    c.run.ensures.fails no_options (OverSite.Replay site events) (replay_over _ site events are) text input known read

pub returns-clause-asked_fails : goal.returns-clause-asked_fails
returns-clause-asked_fails g c = λ question site text are known.
    c.run.ensures.fails no_options (OverSite.Ask question site) (asking_over question _ site are) text known

pub returns-clause-verify_fails : goal.returns-clause-verify_fails
returns-clause-verify_fails g c = λ site certificate text are known.
    c.run.ensures.fails no_options (OverSite.Verify site certificate) (verify_over _ site certificate are) text known

pub returns-clause-options_end : goal.returns-clause-options_end
returns-clause-options_end g c = λ options command are. (c.run.ensures.reports options command (optioned_over _ options command are)).ends

pub returns-clause-options_say : goal.returns-clause-options_say
returns-clause-options_say g c = λ options command are.
    says_as _ options command _ _ _ are.some (c.run.ensures.reports options command (optioned_over _ options command are)).says

pub returns-clause-options_safe : goal.returns-clause-options_safe
returns-clause-options_safe g c = λ options command are. c.run.ensures.safe options command (optioned_over _ options command are)

pub returns-clause-options_fail : goal.returns-clause-options_fail
returns-clause-options_fail g c = λ options command are. c.run.ensures.fails options command (optioned_over _ options command are)

pub returns-clause-graph : goal.returns-clause-graph
returns-clause-graph g c = λ class site text are known.
    (c.run.ensures.reports no_options (OverSite.Draw class site) (refl, are)).says text known

pub returns-clause-graph_fails : goal.returns-clause-graph_fails
returns-clause-graph_fails g c = λ class site text are known.
    c.run.ensures.fails no_options (OverSite.Draw class site) (refl, are) text known

pub returns-clause-other : goal.returns-clause-other
returns-clause-other g c = λ none. c.run.ensures.other (none_over _ none)

pub returns-clause-calls : goal.returns-clause-calls
returns-clause-calls g c = c.run.ensures.reads.calls_are

pub returns-clause-untouched : goal.returns-clause-untouched
returns-clause-untouched g c = c.run.ensures.reads.untouched
