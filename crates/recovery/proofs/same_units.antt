pub mod SameUnits
