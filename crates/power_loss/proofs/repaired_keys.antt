pub mod LivesMendSoon
pub mod NoMoreKeys
pub mod RepairsStayFew
pub mod StopsLeaveFew
