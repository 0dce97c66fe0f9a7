pub mod DurableInOrder
pub mod PendingByFrontier
pub mod PendingByMove
