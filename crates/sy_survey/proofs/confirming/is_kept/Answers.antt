use Rattle.sy_survey.proofs.confirming.is_kept.Goals as goal

pub returns-in-Ok-check_site : goal.returns-in-Ok-check_site
returns-in-Ok-check_site c = λ is.
    let ok = c.in-Ok-check_site.ensures in
    let text = c.in-Ok-site_text.ensures in
    record {
      action = c.args.action;
      spares = text.spares;
      keeps = c.if-not-is_archive.ensures is;
      site = c.in_ok-site.site;
      is_site = rw (← text.text_is, ← c.as_slice.ensures.value, ← c.as_slice-2.ensures.value) c.in_ok-site.ensures;
      sound = ok.sound;
      safe = ok.safe;
    }
