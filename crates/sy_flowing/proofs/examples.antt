pub mod ExampleFlows
pub mod JamSound
pub mod JamRun
pub mod RoundSteps
pub mod LossyFlows
