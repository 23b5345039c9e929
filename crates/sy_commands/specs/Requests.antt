-- What is wanted of a site, and which words want it.
use Rattle.std.specs.Prelude.{ℕ, List, Some, None, false}
use Rattle.sy_report.specs.declared.command_line.command.SiteCommand.{SiteCommand}
use Rattle.sy_report.specs.declared.command_line.command.SiteCommand.TheVariants as of_site
use Rattle.sy_report.specs.declared.command_line.options.Options.{Options}
use Rattle.sy_commands.specs.Words.{AreOver, OverSite}
use Rattle.sy_commands.specs.declared.commands.Request.{Request}
use Rattle.sy_commands.specs.declared.commands.Request.TheVariants as request

-- the same command by its words
abbrev pub over : SiteCommand → OverSite
over (of_site.Ask question site) = OverSite.Ask question site.now
over (of_site.Replay site events) = OverSite.Replay site.now events.now
over (of_site.Verify site certificate) = OverSite.Verify site.now certificate.now

abbrev pub no_options : Options
no_options = record { explain = false; all = false; json = false }

-- what is wanted of a site, and the options that are given with it
abbrev pub over_of : Request → OverSite
over_of (request.OfSite options command) = over command
over_of (request.Graph site) = OverSite.Draw None site.now
over_of (request.GraphOfClass site class) = OverSite.Draw (Some class.now) site.now

abbrev pub options_of : Request → Options
options_of (request.OfSite options command) = options
options_of _ = no_options

-- the words want this
abbrev pub IsRequest : List (List ℕ) → Request → Type 0
IsRequest words found = AreOver words (options_of found) (over_of found)
