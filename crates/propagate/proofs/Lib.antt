pub mod Spans
pub mod NumberLists
pub mod Spreads
pub mod Growths
pub mod NextStates
pub mod ChildOrders
pub mod ChildCode
pub mod ChildParts
