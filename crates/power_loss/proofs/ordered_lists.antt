pub mod ElementsAndOrders
pub mod LowestPlaces
pub mod SortedKeys
