mod SameImages
mod SavedDies
