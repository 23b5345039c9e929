-- The plan that takes messages in and writes them all.
use Rattle.std.specs.Prelude.{[], ◌∷◌, None, codes}
use Rattle.sy_rules.specs.declared.parameters.kind.Kind.TheVariants as kind
use Rattle.sy_rules.specs.declared.parameters.objects.Destination.TheVariants as destination
use Rattle.sy_rules.specs.declared.parameters.settings.FlowControl.TheVariants as flow
use Rattle.sy_rules.specs.declared.parts.Action.{Action}
use Rattle.sy_rules.specs.parameters.Objects.{number_of, queue_parameters, retry_of}
use Rattle.sy_rules.specs.parts.Plans.{action_name, default_ruleset}
use Rattle.sy_rules.specs.PlanValue.{Plan}
use Rattle.sy_rules.specs.lists.Body.{Body}

-- an archive without a file's name, by the defaults of actions
abbrev pub action : Action
action = record {
  name = action_name 0 None;
  destination = destination.Archive [];
  retry = retry_of kind.Archive [];
  resume_interval = number_of kind.Archive [] 0 (codes "action.resumeInterval");
}

-- One input that does not wait, of port 1; the main queue by its defaults with its one worker; and the one list, which runs that archive.
abbrev pub plan : Plan
plan = record {
  inputs = record { port = 1; flow = flow.Off; list = 0; queue = 0; unread_file = None } ∷ [];
  queues = queue_parameters kind.MainQueue [] ∷ [];
  workers = 0 ∷ [];
  actions = action ∷ [];
  lists = record { body = Body.Run 0 Body.End; queue = None } ∷ [];
  rulesets = 0;
  names = default_ruleset ∷ [];
}
