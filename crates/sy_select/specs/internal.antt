-- What only private functions cite: how a selector is read, and the nodes, the codes and the walk of an expression.
pub mod Masks
pub mod Reading
pub mod Nodes
pub mod Codes
pub mod Walk
