-- What is wrong with a script: each fault by itself, and which is answered.
pub mod ScriptFaults
pub mod Before
pub mod ObjectFaults
pub mod FaultsThere
