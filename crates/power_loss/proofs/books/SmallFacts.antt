-- Small facts that stand in ufs_spec, under the names that files here know them by.
pub use Rattle.ufs_spec.proofs.Facts.{cases_Bool as two_ways, and_parts as and_true, and_false, eqb-true as eq_told}
pub use Rattle.ufs_spec.proofs.Facts.{eqb-self as eq_self, cond-true as if_true, cond-false as if_false}
pub use Rattle.ufs_spec.proofs.Equalities.{spot_is, spot_told, spot_self, spot_cases, place_is, place_told, place_self}
pub use Rattle.ufs_spec.proofs.Equalities.{name_is, name_told, name_self, name_cases}
pub use Rattle.ufs_spec.proofs.Updates.{at_spot_cases, at_place_cases, at_die_cases, at_spot_is, at_die_is}
pub use Rattle.ufs_spec.proofs.Updates.{at_name_cases}
