use Rattle.sy_diff.proofs.Judged.{judged}
use Rattle.sy_diff.proofs.diff.said.Goals as goal

pub returns-in-Ok-text_of-clause-ok : goal.returns-in-Ok-text_of-clause-ok
returns-in-Ok-text_of-clause-ok c =
    judged c.args.change c.in-Ok.comparison c.in-Ok.ensures c.is_empty.result c.is_empty.ensures (λ empty.
    let no_worse = c.empty_comparisons_are_no_worse.ensures.no_worse c.args.change c.in-Ok.comparison c.in-Ok.ensures empty in
    let sound = c.empty_comparisons_are_no_worse.ensures.sound c.args.change c.is_lawful.ensures no_worse in
    record {
      no_worse = no_worse;
      sound = sound;
      safe = λ old events state run. c.sound_sites_are_safe.ensures c.args.change.new.now c.is_lawful.ensures (sound old) events state run;
    })
