use Rattle.sy_survey.proofs.converting.verdict_on.Goals as goal

pub returns : goal.returns
returns c = λ is. record {
  site = c.in_ok-site.site;
  is_site = rw (← c.as_slice.ensures.value) c.in_ok-site.ensures;
  sound = c.in_ok-is_sound.ensures is;
}
