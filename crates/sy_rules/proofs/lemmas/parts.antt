-- Parts of plans.
pub mod Listed
pub mod ListNames
pub mod WholeItems
pub mod GivenParts
pub mod GivenItems
pub mod GivenLists
pub mod GivenQueues
pub mod GivenInputs
pub mod GivenPlans
pub mod OnePlan
pub mod QueueLaws
