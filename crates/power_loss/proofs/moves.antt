pub mod MovesKeepCellsFitting
pub mod MovesKeepValid
