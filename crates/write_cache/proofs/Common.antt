-- What most of these proofs use: words and lemmas of std and of the crates below, and the words of this one.
pub use Rattle.std.proofs.Common.{Bool, List, None, Option, Some, [], ap, append_assoc, arith, cond, drop, false}
pub use Rattle.std.proofs.Common.{get_or, inl, inr, length, map, not, refl, replicate, rules, slice_get, subst, suc}
pub use Rattle.std.proofs.Common.{sym, take, true, zero, ℕ, ◌++◌, ◌+◌, ◌-◌, ◌<◌, ◌^◌, ◌∙◌, ◌∷◌, ◌≡◌, ◌≢◌, ◌≤◌, ◌⊎◌}
pub use Rattle.std.proofs.lemmas.Bool.{ne_eqb}
pub use Rattle.std.proofs.lemmas.List.{append-nil, drop_all, get_or_default, length-append, length-map, map-append}
pub use Rattle.std.proofs.lemmas.List.{take_more}
pub use Rattle.std.proofs.lemmas.List.Edits.{map_over_more}
pub use Rattle.std.proofs.lemmas.List.Elements.{filter-append}
pub use Rattle.std.proofs.lemmas.Option.{slice_get-map, slice_get_within}
pub use Rattle.std.specs.List.{list_any, position_from}
pub use Rattle.std.specs.Prelude.{filter_map, is_none, is_some, min, nat_le, nat_lt, option_and_then, option_map}
pub use Rattle.std.specs.Prelude.{position, slice_set, vec_capacity, ◌&&◌, ◌==◌, ◌||◌}
pub use Rattle.std.specs.VecDeque.{deque_capacity}
pub use Rattle.ufs_spec.proofs.Facts.{and_parts, cases_eq, cases_lt, eq-eqb, eqb-true, false≢true, le-leb, none-some}
pub use Rattle.ufs_spec.proofs.Facts.{same_Some, true≢false}
pub use Rattle.ufs_spec.proofs.Lists.{get_there, position_told, set_length}
pub use Rattle.ufs_spec.specs.declared.configs.Numbers.{Numbers}
pub use Rattle.ufs_spec.specs.declared.flash.Place.{Place}
pub use Rattle.word_set.proofs.Flags.{set_here}
pub use Rattle.word_set.specs.Flags.{passes, tells}
pub use Rattle.word_set.specs.Tests.{changed}
pub use Rattle.write_cache.specs.ClaimRows.{AreBare, AreOf, ClaimQueue, all_claims}
pub use Rattle.write_cache.specs.Kept.{Queue, WriteCache}
pub use Rattle.write_cache.specs.Ready.{AreTold, is_ready}
pub use Rattle.write_cache.specs.Rests.{awaits, base_behind, claim_brought, completed, completed_at, completed_by}
pub use Rattle.write_cache.specs.Rests.{page_moved, rests_filled, waits}
pub use Rattle.write_cache.specs.Ring.{AreApart, AreRuns, HasNone, IsRising, Shown, Stands}
pub use Rattle.write_cache.specs.Ring.{first_number, shortened, shown, wrapped, written}
pub use Rattle.write_cache.specs.Slots.{claim_filled, claims_but, claims_of, empty_claim, is_claim_behind, is_claim_of}
pub use Rattle.write_cache.specs.Slots.{is_named, is_there, page_claimed, without_claims, without_claims_behind}
pub use Rattle.write_cache.specs.Slots.{written_at}
pub use Rattle.write_cache.specs.declared.pages.ring.GroupAt.{GroupAt}
pub use Rattle.write_cache.specs.declared.rests.Rest.{Rest}
pub use Rattle.write_cache.specs.declared.slots.Claimed.{Claimed}
pub use Rattle.write_cache.specs.declared.slots.Pending.{Pending}
