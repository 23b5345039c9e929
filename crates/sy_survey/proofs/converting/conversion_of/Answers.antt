use Rattle.sy_survey.proofs.converting.conversion_of.Goals as goal

pub returns : goal.returns
returns c = λ is. record {
  fleet = c.in_ok-fleet.fleet;
  pieces = c.args.pieces.now;
  is_text = c.requires;
  statements = c.in_ok-fleet.ensures;
  told = c.in_ok-made.made.told.items;
  are_told = c.in_ok-made.ensures;
  none_lost = is;
}
