-- A right write is accepted.
use Rattle.ufs_laws.proofs.Common.{All, Command, Frame, List, None, Registers, Results, RpmbWrite, Some, [], ap, arith}
use Rattle.ufs_laws.proofs.Common.{checks, command_in, counter_end, false, first_failed, flat_map, has_key}
use Rattle.ufs_laws.proofs.Common.{is_well_formed, lacks_result, le-ltb, length, list_all, not, refl, rpmb_outcome, suc}
use Rattle.ufs_laws.proofs.Common.{sym, true, ℕ, ◌*◌, ◌+◌, ◌==◌, ◌∙◌, ◌∷◌, ◌≡◌}
use Rattle.std.proofs.lemmas.Bool.{eq-eqb, eqb-true, false_from_ne_true}
use Rattle.ufs_spec.specs.Rpmb.{Region, agrees, changed_by, fails_if, has_wrong_mac, is_past_area, same_bytes}
use Rattle.ufs_spec.specs.Rpmb.{with_end_bit}
use Rattle.ufs_laws.specs.RpmbWrites.{IsRightWrite, SaysTheSame}

agree : (f g : Frame) → SaysTheSame f g → agrees f g ≡ true
agree f g same =
    let kind = eq-eqb f.kind g.kind (sym same.kind) in
    let counter = eq-eqb f.counter g.counter (sym same.counter) in
    let address = eq-eqb f.address g.address (sym same.address) in
    let count = eq-eqb f.count g.count (sym same.count) in
    rw (kind, counter, address, count) refl

all_agree : (f : Frame) (fs : List Frame) → All (SaysTheSame f) fs → list_all (agrees f) fs ≡ true
all_agree f [] all = refl
all_agree f (g ∷ gs) all =
    let first = agree f g (all 0 g (omega arith)) in
    let more = all_agree f gs (λ k d lt. all (suc k) d (omega (arith, lt))) in
    rw (first, more) refl

pub same_refl : (xs : List ℕ) → same_bytes xs xs ≡ true
same_refl [] = refl
same_refl (x ∷ xs) = rw (eq-eqb x x refl, same_refl xs) refl

module _ (number : ℕ) (region : Region) (r : Registers) (f : Frame) (fs : List Frame)
    (is : IsRightWrite region f fs) where
  abbrev written : Command
  written = RpmbWrite number f.address (flat_map (λ (g : Frame). g.payload) (f ∷ fs))

  pub formed : is_well_formed f fs ≡ true
  formed =
      let kind : (f.kind == 3) ≡ true = eq-eqb f.kind 3 is.kind in
      let all = all_agree f fs is.agree in
      let count : (f.count == length fs + 1) ≡ true = eq-eqb f.count (length fs + 1) (omega (arith, is.count)) in
      rw (kind, all, count) refl

  pub not_lacking : lacks_result f r ≡ false
  not_lacking = let kind = is.kind in rw kind refl

  its_command : command_in number f fs ≡ Some written
  its_command = let kind = is.kind in rw kind refl

  pub key_set : has_key region ≡ true
  key_set = let key = is.is_key in rw key refl

  pub not_at_end : (region.counter == counter_end) ≡ false
  not_at_end =
      false_from_ne_true (region.counter == counter_end)
      (λ e. is.below_end (eqb-true region.counter counter_end e))

  pub not_past : is_past_area region f ≡ false
  not_past = le-ltb (length region.area) (256 * (f.address + f.count)) is.within

  pub mac_right : has_wrong_mac region.key f fs ≡ false
  mac_right = let key = is.is_key in let mac = is.mac in rw (key, mac, same_refl) refl

  pub present : (f.counter == region.counter) ≡ true
  present = eq-eqb f.counter region.counter is.counter

  of_write : checks region false f fs
      ≡ fails_if (not (has_key region)) 7 ∷ fails_if (region.counter == counter_end) 5
      ∷ fails_if (is_past_area region f) 4 ∷ fails_if (has_wrong_mac region.key f fs) 2
      ∷ fails_if (not (f.counter == region.counter)) 3 ∷ fails_if false 5 ∷ []
  of_write = let kind = is.kind in rw kind refl

  none_fails : first_failed (checks region false f fs) ≡ None
  none_fails = ap first_failed of_write ∙ rw (key_set, not_at_end, not_past, mac_right, present) refl

  accepted : rpmb_outcome number region r false (f ∷ fs)
      ≡ Results (with_end_bit (changed_by region written) 0) (Some written)
  accepted = rw (formed, not_lacking, its_command, none_fails) refl

pub accepted_as : (number : ℕ) (region : Region) (r : Registers) (f : Frame) (fs : List Frame) →
    IsRightWrite region f fs →
    (c : Command) → c ≡ RpmbWrite number f.address (flat_map (λ (g : Frame). g.payload) (f ∷ fs)) →
    rpmb_outcome number region r false (f ∷ fs) ≡ Results (with_end_bit (changed_by region c) 0) (Some c)
accepted_as number region r f fs is c e = rw e (accepted number region r f fs is)
