-- What a relay holds, its nine steps, and what they count. All of it is about one relay; a set of relays is made of these.
pub mod Plans
pub mod Cells
pub mod Steps
pub mod Runs
pub mod Spares
pub mod Totals
pub mod Moves
pub mod Feeders
pub mod Kinds
pub mod Guards
pub mod Boards
pub mod Patience
