-- What a check promises of the site, a strict one promises too.
use Rattle.std.proofs.Common.{◌≡◌, ℕ, List}
use Rattle.std.specs.Prelude.{Option}
use Rattle.sy_report.specs.declared.command_line.command.Asked.TheVariants as asked
use Rattle.sy_commands.specs.Optioned.{KeepsAs}
use Rattle.sy_commands.specs.Words.{OverSite}

pub keeps_on : (bytes_of : List ℕ → Option (List ℕ)) (command : OverSite) (first last : ℕ) → first ≡ 0 → KeepsAs bytes_of command first
    → KeepsAs bytes_of command last
keeps_on bytes_of (OverSite.Ask asked.Check site) first last zero keeps = λ text is end. keeps text is zero
keeps_on bytes_of (OverSite.Ask asked.Certify site) first last zero keeps = tt
keeps_on bytes_of (OverSite.Replay site events) first last zero keeps = tt
keeps_on bytes_of (OverSite.Verify site certificate) first last zero keeps = λ text is end. keeps text is zero
keeps_on bytes_of (OverSite.Draw class site) first last zero keeps = tt
