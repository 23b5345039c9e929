use Rattle.std.proofs.Common.{◌≡◌, length}
use Rattle.sy_site.specs.Sites.{outside_named}
use Rattle.sy_site.proofs.site.host.outside_named.Given as goal

abbrev pub invariant-loop-rest : goal.invariant-loop-rest
invariant-loop-rest l = outside_named l.outsides l.name l.port ≡ outside_named l.rest l.name l.port

abbrev pub decreases-loop-rest : goal.decreases-loop-rest
decreases-loop-rest l = length l.rest
