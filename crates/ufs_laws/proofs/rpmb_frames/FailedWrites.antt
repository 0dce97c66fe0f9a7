-- The results of a write that is right but for its MAC, its counter or the lock.
use Rattle.ufs_laws.proofs.Common.{Bool, Command, Frame, List, None, Option, Registers, Results, Some, [], ap, checks}
use Rattle.ufs_laws.proofs.Common.{command_in, counter_end, false, first_failed, has_key, not, outcome_after, refl}
use Rattle.ufs_laws.proofs.Common.{rpmb_outcome, sym, true, ℕ, ◌==◌, ◌∙◌, ◌∷◌, ◌≡◌, ◌≢◌}
use Rattle.std.proofs.lemmas.Bool.{eqb-true, false_from_ne_true}
use Rattle.ufs_spec.specs.Rpmb.{Region, fails_if, frames_mac, has_wrong_mac, is_past_area, last_mac}
use Rattle.ufs_spec.specs.Rpmb.{same_bytes}
use Rattle.ufs_laws.specs.RpmbWrites.{IsRightWrite}
use Rattle.ufs_laws.proofs.rpmb_frames.AcceptedWrites.{formed, key_set, mac_right, not_at_end, not_lacking, not_past}
use Rattle.ufs_laws.proofs.rpmb_frames.AcceptedWrites.{present}
use Rattle.ufs_laws.proofs.rpmb_frames.RightWrites.{equal_bytes}

-- a failed check of a region whose counter is not at its end gives its result alone
no_end_bit : (region : Region) (c : Option Command) (result : ℕ) → (region.counter == counter_end) ≡ false →
    has_key region ≡ true → outcome_after region c (Some result) ≡ Results result None
no_end_bit region c result end key = rw (key, end) refl

below_end : (region : Region) → region.counter ≢ 0xFFFFFFFF → (region.counter == counter_end) ≡ false
below_end region h =
    false_from_ne_true (region.counter == counter_end) (λ e. h (eqb-true region.counter counter_end e))

of_write : (region : Region) (locked : Bool) (f : Frame) (fs : List Frame) → f.kind ≡ 3 →
    checks region locked f fs
    ≡ fails_if (not (has_key region)) 7 ∷ fails_if (region.counter == counter_end) 5
    ∷ fails_if (is_past_area region f) 4 ∷ fails_if (has_wrong_mac region.key f fs) 2
    ∷ fails_if (not (f.counter == region.counter)) 3 ∷ fails_if locked 5 ∷ []
of_write region locked f fs kind = rw kind refl

module _ (number : ℕ) (region : Region) (r : Registers) (locked : Bool) (f : Frame) (fs : List Frame)
    (below : region.counter ≢ 0xFFFFFFFF) where
  module _ (key other : List ℕ) (counter : ℕ) (is_key : region.key ≡ Some key)
      (changed : last_mac f fs ≢ frames_mac key (f ∷ fs))
      (is : IsRightWrite (record region { key = Some other; counter = counter }) f fs) where
    abbrev another : Region
    another = record region { key = Some other; counter = counter }

    has : has_key region ≡ true
    has = rw is_key refl

    mac_wrong : has_wrong_mac region.key f fs ≡ true
    mac_wrong =
        let same : same_bytes (last_mac f fs) (frames_mac key (f ∷ fs)) ≡ false =
        false_from_ne_true _ (λ e. changed (equal_bytes (last_mac f fs) (frames_mac key (f ∷ fs)) e))
        in
        rw (is_key, same) refl

    second : first_failed (checks region locked f fs) ≡ Some 2
    second =
        ap first_failed (of_write region locked f fs is.kind)
        ∙ rw (has, below_end region below, not_past number another r f fs is, mac_wrong) refl

    pub wrong_mac : rpmb_outcome number region r locked (f ∷ fs) ≡ Results 2 None
    wrong_mac =
        rw (formed number another r f fs is, not_lacking number another r f fs is, second)
        (no_end_bit region (command_in number f fs) 2 (below_end region below) has)

  module _ (counter : ℕ) (is_not : counter ≢ region.counter)
      (is : IsRightWrite (record region { counter = counter }) f fs) where
    abbrev before : Region
    before = record region { counter = counter }

    key_there : has_key region ≡ true
    key_there = key_set number before r f fs is

    differs : (f.counter == region.counter) ≡ false
    differs =
        false_from_ne_true (f.counter == region.counter)
        (λ e. is_not (sym is.counter ∙ eqb-true f.counter region.counter e))

    third : first_failed (checks region locked f fs) ≡ Some 3
    third =
        let past = not_past number before r f fs is in
        let mac = mac_right number before r f fs is in
        ap first_failed (of_write region locked f fs is.kind)
        ∙ rw (key_there, below_end region below, past, mac, differs) refl

    pub wrong_counter : rpmb_outcome number region r locked (f ∷ fs) ≡ Results 3 None
    wrong_counter =
        rw (formed number before r f fs is, not_lacking number before r f fs is, third)
        (no_end_bit region (command_in number f fs) 3 (below_end region below) key_there)

pub locked_write : (number : ℕ) (region : Region) (r : Registers) (f : Frame) (fs : List Frame) →
    IsRightWrite region f fs → rpmb_outcome number region r true (f ∷ fs) ≡ Results 5 None
locked_write number region r f fs is =
    let has = key_set number region r f fs is in
    let end = not_at_end number region r f fs is in
    let past = not_past number region r f fs is in
    let mac = mac_right number region r f fs is in
    let counter = present number region r f fs is in
    let last : first_failed (checks region true f fs) ≡ Some 5 =
    ap first_failed (of_write region true f fs is.kind) ∙ rw (has, end, past, mac, counter) refl
    in
    rw (formed number region r f fs is, not_lacking number region r f fs is, last)
    (no_end_bit region (command_in number f fs) 5 end has)
