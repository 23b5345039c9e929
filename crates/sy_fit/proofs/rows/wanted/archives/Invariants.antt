use Rattle.std.proofs.Common.{◌≡◌, ◌++◌, drop, reverse}
use Rattle.sy_site.specs.Sites.{archives, archives_from}
use Rattle.sy_fit.proofs.rows.wanted.archives.Given as goal

abbrev pub invariant-loop-protection : goal.invariant-loop-protection
invariant-loop-protection l =
    l.found.items ++ archives_from (reverse l.found.items) (drop l.protection-index l.site.protections) l.class ≡ archives l.site l.class
