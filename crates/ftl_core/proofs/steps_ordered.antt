pub mod CollectionsOrdered
pub mod CopiesOrdered
pub mod MarksOrdered
pub mod NonePending
pub mod QuietLayers
pub mod RepairsOrdered
pub mod Turns
