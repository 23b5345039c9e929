use Rattle.sy_survey.proofs.survey.of_whole.Goals as goal

pub returns-in-Ok-answer_of-clause-kept : goal.returns-in-Ok-answer_of-clause-kept
returns-in-Ok-answer_of-clause-kept g c = λ zero. record {
  fleet = c.in-Ok.fleet;
  is_read = rw (← c.as_slice.ensures.value) c.in-Ok.ensures;
  kept = c.in-Ok-answer_of.ensures (c.print_answer.ensures.accepted zero);
}
