pub mod NamesBehind
pub mod PagesNamed
pub mod StoredNames
