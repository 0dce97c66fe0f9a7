pub mod ScanFacts
