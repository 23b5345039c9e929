-- Items of a script.
pub mod TextItems
pub mod PlacedItems
pub mod TestLaws
pub mod RulesetItems
