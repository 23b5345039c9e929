use Rattle.std.proofs.Common.{[], inl, inr}
use Rattle.std.proofs.lemmas.Bool.{false≢true}
use Rattle.sy_site.proofs.lemmas.sites.Archives.{all_named, each_once, named}
use Rattle.sy_site.proofs.laws.archives_are_those_named.Goals as goal

pub returns-clause-named : goal.returns-clause-named
returns-clause-named c = λ site class archive there. named class [] site.protections archive there

pub returns-clause-all : goal.returns-clause-all
returns-clause-all c = λ site class p there asks.
    elim (all_named class [] site.protections p there asks) [ inl found ↦ found | inr none ↦ absurd (false≢true none) ]

pub returns-clause-once : goal.returns-clause-once
returns-clause-once c = λ site class. each_once class [] site.protections
