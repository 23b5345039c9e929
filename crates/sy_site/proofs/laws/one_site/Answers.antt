use Rattle.sy_site.proofs.lemmas.texts.OneSite.{one_site}
use Rattle.sy_site.proofs.laws.one_site.Goals as goal

pub returns : goal.returns
returns c = one_site
