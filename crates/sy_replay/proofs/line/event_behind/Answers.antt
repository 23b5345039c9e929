use Rattle.std.specs.Option.{option_copied}
use Rattle.sy_replay.specs.declared.line.verb.Verb.TheVariants as verb
use Rattle.sy_replay.specs.internal.Reading.{words_left}
use Rattle.sy_replay.proofs.LineEvents.{by_verb}
use Rattle.sy_replay.proofs.line.event_behind.Goals as goal

pub returns-in-Take-clause-err : goal.returns-in-Take-clause-err
returns-in-Take-clause-err c = by_verb c.args.site.now (words_left (option_copied c.args.rest)) c.args.verb verb.Take c.take.result c.in-Take.is c.take.ensures.err

pub returns-in-Enter-clause-err : goal.returns-in-Enter-clause-err
returns-in-Enter-clause-err c = by_verb c.args.site.now (words_left (option_copied c.args.rest)) c.args.verb verb.Enter c.enter.result c.in-Enter.is c.enter.ensures.err

pub returns-in-Expire-clause-err : goal.returns-in-Expire-clause-err
returns-in-Expire-clause-err c = by_verb c.args.site.now (words_left (option_copied c.args.rest)) c.args.verb verb.Expire c.expire.result c.in-Expire.is c.expire.ensures.err

pub returns-in-Grab-clause-err : goal.returns-in-Grab-clause-err
returns-in-Grab-clause-err c = by_verb c.args.site.now (words_left (option_copied c.args.rest)) c.args.verb verb.Grab c.grab.result c.in-Grab.is c.grab.ensures.err

pub returns-in-Done-clause-err : goal.returns-in-Done-clause-err
returns-in-Done-clause-err c = by_verb c.args.site.now (words_left (option_copied c.args.rest)) c.args.verb verb.Done c.done.result c.in-Done.is c.done.ensures.err

pub returns-in-Fail-clause-err : goal.returns-in-Fail-clause-err
returns-in-Fail-clause-err c = by_verb c.args.site.now (words_left (option_copied c.args.rest)) c.args.verb verb.Fail c.fail.result c.in-Fail.is c.fail.ensures.err

pub returns-in-GiveUp-clause-err : goal.returns-in-GiveUp-clause-err
returns-in-GiveUp-clause-err c = by_verb c.args.site.now (words_left (option_copied c.args.rest)) c.args.verb verb.GiveUp c.give_up.result c.in-GiveUp.is c.give_up.ensures.err

pub returns-in-Post-clause-err : goal.returns-in-Post-clause-err
returns-in-Post-clause-err c = by_verb c.args.site.now (words_left (option_copied c.args.rest)) c.args.verb verb.Post c.post.result c.in-Post.is c.post.ensures.err

pub returns-in-PostLost-clause-err : goal.returns-in-PostLost-clause-err
returns-in-PostLost-clause-err c = by_verb c.args.site.now (words_left (option_copied c.args.rest)) c.args.verb verb.PostLost c.post_lost.result c.in-PostLost.is c.post_lost.ensures.err
