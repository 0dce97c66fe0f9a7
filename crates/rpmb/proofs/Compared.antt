-- Whether two MACs are the same, and where the MAC of a request is.
use Rattle.std.proofs.Common.{◌≡◌, ◌↔◌, ◌∙◌, ℕ, ◌-◌, Bool, true, false, IsTrue, List, [], ◌∷◌, Some, ap, arith}
use Rattle.std.proofs.Common.{length, map, not, option_map, refl, slice_get, subst, sym}
use Rattle.std.proofs.lemmas.Bool.{false≢true}
use Rattle.std.proofs.lemmas.List.{length-map}
use Rattle.std.proofs.lemmas.Option.{same_Some, slice_get-map}
use Rattle.ufs_laws.proofs.rpmb_frames.AcceptedWrites.{same_refl}
use Rattle.ufs_laws.proofs.rpmb_frames.RightWrites.{equal_bytes}
use Rattle.ufs_spec.specs.Frames.{Frame, frame_in}
use Rattle.ufs_spec.specs.Rpmb.{frames_mac, has_wrong_mac, last_mac, same_bytes}

-- what tells whether two lists are equal is what the definition says of their bytes
pub same_told : (xs ys : List ℕ) (told : Bool) → (IsTrue told ↔ (xs ≡ ys)) → told ≡ same_bytes xs ys
same_told xs ys true is = sym (subst (λ (zs : List ℕ). same_bytes xs zs ≡ true) (is.0 refl) (same_refl xs))
same_told xs ys false is = sym (false_unless (same_bytes xs ys) (λ e. false≢true (is.1 (equal_bytes xs ys e))))
  where
    false_unless : (b : Bool) → (b ≡ true → ⊥) → b ≡ false
    false_unless true none = absurd (none refl)
    false_unless false none = refl

-- the last frame has the MAC of a request
last_at : (f g : Frame) (fs : List Frame) → slice_get (f ∷ fs) (length fs) ≡ Some g → g.key_or_mac ≡ last_mac f fs
last_at f g [] e = ap (λ (h : Frame). h.key_or_mac) (sym (same_Some f g e))
last_at f g (h ∷ hs) e = last_at h g hs e

-- the last of these bytes are the frame with the MAC
pub last_told : (frames : List (List ℕ)) (last : List ℕ) (f : Frame) (fs : List Frame) → f ∷ fs ≡ map frame_in frames
    → Some last ≡ slice_get frames (length frames - 1) → (frame_in last).key_or_mac ≡ last_mac f fs
last_told frames last f fs e value =
    let long : length fs ≡ length frames - 1 = omega (arith, ap length e, length-map frames frame_in) in
    last_at f (frame_in last) fs
    ((λ i. slice_get (e i) (long i)) ∙ slice_get-map frame_in frames (length frames - 1)
    ∙ ap (option_map frame_in) (sym value))

-- what is told of the MAC that came is told of all frames
pub wrong_told : (key : List ℕ) (frames : List (List ℕ)) (last came made : List ℕ) (told : Bool) → came
    ≡ (frame_in last).key_or_mac → made ≡ frames_mac key (map frame_in frames) → (IsTrue told ↔ (came ≡ made))
    → Some last ≡ slice_get frames (length frames - 1) → (f : Frame) (fs : List Frame) → f ∷ fs ≡ map frame_in frames
    → not told ≡ has_wrong_mac (Some key) f fs
wrong_told key frames last came made told is_came is_made is value f fs e =
    ap not
    (same_told came made told is
    ∙ (λ i. same_bytes ((is_came ∙ last_told frames last f fs e value) i) ((is_made ∙ ap (frames_mac key) (sym e)) i)))
