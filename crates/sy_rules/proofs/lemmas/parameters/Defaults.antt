-- Objects without parameters.
use Rattle.std.proofs.Common.{◌≡◌, [], Some, codes, refl}
use Rattle.sy_rules.specs.declared.parameters.kind.Kind.TheVariants as kind
use Rattle.sy_rules.specs.parameters.Objects.{number_of, queue_parameters, retry_of}
use Rattle.sy_rules.specs.parameters.Values.{faults}
use Rattle.sy_rules.specs.parameters.Rows.{own_rows, destination_rows, queue_head_rows, queue_rest_rows}

-- nothing is wrong with a main queue
pub main_queue_is_clean : faults kind.MainQueue [] ≡ []
unfolding faults own_rows destination_rows queue_head_rows queue_rest_rows
main_queue_is_clean = refl

pub archive_retry : retry_of kind.Archive [] ≡ Some 0
unfolding number_of own_rows destination_rows queue_head_rows queue_rest_rows
archive_retry = refl

pub archive_interval : number_of kind.Archive [] 0 (codes "action.resumeInterval") ≡ 30
unfolding number_of own_rows destination_rows queue_head_rows queue_rest_rows
archive_interval = refl

-- the main queue has one worker
pub one_worker : (queue_parameters kind.MainQueue []).workers ≡ 1
unfolding queue_parameters number_of own_rows destination_rows queue_head_rows queue_rest_rows
one_worker = refl
