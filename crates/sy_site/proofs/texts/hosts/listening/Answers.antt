use Rattle.sy_site.specs.texts.Lines.{words}
use Rattle.sy_site.proofs.lemmas.texts.Hosts.{no_listening}
use Rattle.sy_site.proofs.texts.hosts.listening.Goals as goal

pub returns-in-None-clause-none : goal.returns-in-None-clause-none
returns-in-None-clause-none c = λ first second e h l is. no_listening (words c.args.text.now) c.in-None.ensures.none first second e h l is
