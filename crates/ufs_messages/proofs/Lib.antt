mod ChosenCdbs
mod DataOuts
mod UnmapLists
