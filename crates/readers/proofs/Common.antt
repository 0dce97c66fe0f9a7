-- What most of these proofs use: words and lemmas of std and of the crates below, and the words of this one.
pub use Rattle.block_table.specs.Lives.{Lives}
pub use Rattle.readers.specs.Pins.{is_of_reader, is_owed_by, is_pin_of, let_go, moved_pin, pin_moves, wanted_no_more}
pub use Rattle.readers.specs.Pins.{wanted_now, without_pins}
pub use Rattle.readers.specs.RowInside.{row_seen}
pub use Rattle.readers.specs.Rows.{Rises, RowPins, is_slotted, is_wanted, pins_in, with_pins}
pub use Rattle.readers.specs.declared.pin.Pin.{Pin}
pub use Rattle.std.proofs.Common.{Bool, List, [], ap, arith, drop, false, get_or, length, map, not, refl, rules}
pub use Rattle.std.proofs.Common.{slice_set, subst, sym, take, true, ℕ, ◌++◌, ◌+◌, ◌-◌, ◌<◌, ◌∙◌, ◌∷◌, ◌≡◌, ◌≤◌}
pub use Rattle.std.proofs.lemmas.Fn.{filter_same}
pub use Rattle.std.proofs.lemmas.List.{get_or_default, length-append, length-map, map-append}
pub use Rattle.std.proofs.lemmas.List.Edits.{map_over_more}
pub use Rattle.std.specs.Prelude.{count_by, filter, find, fold, if◌then◌else◌}
