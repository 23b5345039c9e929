-- What a relay needs to run, by the words of the command line (this profile's own).
use Rattle.std.specs.Prelude.{◌≡◌, ℕ, List, Option, Some}
use Rattle.sy_board.specs.relay.Totals.{GuardState}
use Rattle.sy_site.specs.Sites.{Site, relay_named}
use Rattle.sy_places.specs.SiteFiles.{IsSiteOf}
use Rattle.sy_endpoints.specs.Endpoints.{AreEndpoints}
use Rattle.sy_inputs.specs.WholeEntries.{KeepsWhole}
use Rattle.sy_running.specs.Words.{AreRunOf}
use Rattle.sy_running.specs.Commands.{options_of}
use Rattle.sy_running.specs.declared.words.RunWords.{RunWords}
use Rattle.sy_running.specs.Prepared.{IsGuardOf}

-- the site that the words name, the number of its relay, and the guard; endpoints are told apart, and of each whole entry of the relay a file keeps the frames without a message
pub record IsPrepared (bytes_of : List ℕ → Option (List ℕ)) (words : List (List ℕ)) (site : Site) (relay : ℕ) (guard : Option GuardState) (found : RunWords) :
    Type 0 where
  pub words_are : AreRunOf (options_of found) words found.site.now found.relay.now
  pub site_is : (text : List ℕ) → bytes_of found.site.now ≡ Some text → IsSiteOf bytes_of text site
  pub named : relay_named site.relays found.relay.now ≡ Some relay
  pub guard_is : IsGuardOf found.is_unchecked site relay guard
  pub endpoints : AreEndpoints site relay
  pub keeps_whole : KeepsWhole site relay (options_of found).unread
