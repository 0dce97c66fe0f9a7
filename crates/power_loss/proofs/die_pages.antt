pub mod BlankOutsideDies
pub mod LeftoversLeaveOneArray
pub mod PageRulesHold
pub mod PagesOfEachCall
