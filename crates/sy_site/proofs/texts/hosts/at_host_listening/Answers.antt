use Rattle.sy_site.specs.texts.Lines.{words}
use Rattle.sy_site.proofs.lemmas.texts.Hosts.{no_second}
use Rattle.sy_site.proofs.texts.hosts.at_host_listening.Goals as goal

pub returns-in-None-listen_address-clause-none : goal.returns-in-None-listen_address-clause-none
returns-in-None-listen_address-clause-none c = λ second third later e h l is.
    no_second c.args.word.now (words c.args.text.now) c.in-None-listen_address.ensures.none second third later e h l is
