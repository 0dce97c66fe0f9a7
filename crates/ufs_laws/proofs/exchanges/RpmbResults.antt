-- The result of an RPMB request that is accepted.
use Rattle.ufs_laws.proofs.Common.{Bool, Command, Frame, List, None, Option, Refused, Registers, Results, RpmbOutcome}
use Rattle.ufs_laws.proofs.Common.{Some, Status, [], checks, command_in, cond, counter_end, false, first_failed}
use Rattle.ufs_laws.proofs.Common.{has_key, inl, inr, lacks_result, outcome_after, refl, rpmb_outcome, true, ℕ, ◌&&◌}
use Rattle.ufs_laws.proofs.Common.{◌==◌, ◌∙◌, ◌∷◌, ◌≡◌, ◌⊎◌}
use Rattle.std.proofs.Common.{bit_or}
use Rattle.ufs_laws.proofs.rpmb_frames.RequestOutcomes.{no_command, refused, same_command}
use Rattle.ufs_spec.specs.Rpmb.{Region, applied, with_end_bit}

end_bit : (b : Bool) → (cond b (bit_or 0 0x80) 0 ≡ 0) ⊎ (cond b (bit_or 0 0x80) 0 ≡ 0x80)
end_bit true = inr refl
end_bit false = inl refl

zero_or_end : (region : Region) → (with_end_bit region 0 ≡ 0) ⊎ (with_end_bit region 0 ≡ 0x80)
zero_or_end region = end_bit (has_key region && (region.counter == counter_end))

same_result : (n result : ℕ) (a : Option Command) (c : Command) → Results n a ≡ Results result (Some c) → result ≡ n
same_result n result a c e = cc

behind : (region : Region) (a : Option Command) (failed : Option ℕ) (result : ℕ) (c : Command) →
    outcome_after region a failed ≡ Results result (Some c) → (result ≡ 0) ⊎ (result ≡ 0x80)
behind region a (Some r) result c e = absurd (no_command (with_end_bit region r) result c e)
behind region a None result c e =
    let same = same_result (with_end_bit (applied region a) 0) result a c e in
    elim (zero_or_end (applied region a)) [ inl zero ↦ inl (same ∙ zero) | inr end ↦ inr (same ∙ end) ]

chosen : (malformed lacking : Bool) (s t : Status) (o : RpmbOutcome) (result : ℕ) (c : Command) →
    cond malformed (Refused s) (cond lacking (Refused t) o) ≡ Results result (Some c) → o ≡ Results result (Some c)
chosen true lacking s t o result c e = absurd (refused s result c e)
chosen false true s t o result c e = absurd (refused t result c e)
chosen false false s t o result c e = e

pub accepted_result : (number : ℕ) (region : Region) (r : Registers) (locked : Bool) (frames : List Frame)
    (result : ℕ) (c : Command) → rpmb_outcome number region r locked frames ≡ Results result (Some c) →
    (result ≡ 0) ⊎ (result ≡ 0x80)
accepted_result number region r locked [] result c e = absurd (refused _ result c e)
accepted_result number region r locked (f ∷ fs) result c e =
    behind region (command_in number f fs) (first_failed (checks region locked f fs)) result c
    (chosen _ (lacks_result f r) _ _ _ result c e)

-- the command of a request that is accepted is the one that its frames name
named : (region : Region) (a : Option Command) (failed : Option ℕ) (result : ℕ) (c : Command) →
    outcome_after region a failed ≡ Results result (Some c) → a ≡ Some c
named region a (Some r) result c e = absurd (no_command (with_end_bit region r) result c e)
named region a None result c e = same_command (with_end_bit (applied region a) 0) result a c e

pub accepted_command : (number : ℕ) (region : Region) (r : Registers) (locked : Bool) (f : Frame) (fs : List Frame)
    (result : ℕ) (c : Command) → rpmb_outcome number region r locked (f ∷ fs) ≡ Results result (Some c) →
    command_in number f fs ≡ Some c
accepted_command number region r locked f fs result c e =
    named region (command_in number f fs) (first_failed (checks region locked f fs)) result c
    (chosen _ (lacks_result f r) _ _ _ result c e)
