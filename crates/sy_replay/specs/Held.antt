-- The state of a site that a replay's lists hold, and its steps.
use Rattle.std.specs.Prelude.{List, [], None, length, map, replicate}
use Rattle.sy_rules.specs.PlanValue.{Plan}
use Rattle.sy_board.specs.relay.Boards.{opened}
use Rattle.sy_site.specs.Sites.{Relay, Site}
use Rattle.sy_replay.specs.Parts.{PartState}

-- a relay that has held nothing yet, and whose devices took nothing
abbrev pub opened_part : Plan → PartState
opened_part plan = record { board = opened plan None; passed = replicate (length plan.actions) [] }

abbrev pub opened_parts : Site → List PartState
opened_parts site = map (λ (r : Relay). opened_part r.plan) site.relays
