-- How the lines of all that is found grow.
use Rattle.std.specs.Prelude.{◌≡◌, ℕ, List, ◌++◌}
use Rattle.sy_site.specs.Sites.{Site}
use Rattle.sy_site.specs.Finding.{words}
use Rattle.sy_findings.specs.declared.verdicts.instances.Instance.{Instance}
use Rattle.sy_findings.specs.Checks.{instance_text}

-- such a line, with words behind it, is put behind a text
abbrev pub AppendsLineInWords : Site → Instance → List ℕ → List ℕ → Type 0
AppendsLineInWords site instance old new = (names words : List ℕ) × (new ≡ old ++ names ++ instance_text site instance ++ words)
