-- What an RPMB request was that is accepted.
use Rattle.ufs_laws.proofs.Common.{All, Bool, Command, Frame, List, None, Option, Refused, Registers, Results}
use Rattle.ufs_laws.proofs.Common.{RpmbOutcome, RpmbWrite, SetKey, Some, Status, [], ap, arith, checks, command_in}
use Rattle.ufs_laws.proofs.Common.{cond, counter_end, false, first_failed, flat_map, has_key, invalid_list_field}
use Rattle.ufs_laws.proofs.Common.{is_well_formed, lacks_result, length, list_all, not, outcome_after, refl}
use Rattle.ufs_laws.proofs.Common.{rpmb_outcome, sequence_error, suc, sym, true, zero, ℕ, ◌&&◌, ◌*◌, ◌+◌, ◌==◌, ◌∙◌}
use Rattle.ufs_laws.proofs.Common.{◌∷◌, ◌≡◌}
use Rattle.std.proofs.lemmas.Bool.{and_parts, eq-eqb, eqb-true, false≢true, ltb-false, not-false, true≢false}
use Rattle.ufs_spec.specs.Rpmb.{Region, agrees, fails_if, frames_mac, has_wrong_mac, is_past_area, last_mac, same_bytes}
use Rattle.ufs_laws.specs.RpmbWrites.{IsRightWrite, SaysTheSame}
use Rattle.ufs_laws.proofs.rpmb_frames.RequestOutcomes.{no_command, refused, same_command}

-- a test that would refuse the request says no
pub not_refused : (b : Bool) (s : Status) (o : RpmbOutcome) (result : ℕ) (c : Command) →
    cond b (Refused s) o ≡ Results result (Some c) → (b ≡ false) × (o ≡ Results result (Some c))
not_refused true s o result c e = absurd (refused s result c e)
not_refused false s o result c e = (refl, e)

pub none_failed : (region : Region) (a : Option Command) (failed : Option ℕ) (result : ℕ) (c : Command) →
    outcome_after region a failed ≡ Results result (Some c) → (failed ≡ None) × (a ≡ Some c)
none_failed region a (Some n) result c e = absurd (no_command _ result c e)
none_failed region a None result c e = (refl, same_command _ result a c e)

some-none : (n : ℕ) → Some n ≡ None → ⊥
some-none n e = cc

passed : (b : Bool) (n : ℕ) (o : Option ℕ) → cond b (Some n) o ≡ None → (b ≡ false) × (o ≡ None)
passed true n o e = absurd (some-none n e)
passed false n o e = (refl, e)

no_key_set : (m n : ℕ) (k : List ℕ) (a : ℕ) (d : List ℕ) → Some (SetKey m k) ≡ Some (RpmbWrite n a d) → ⊥
no_key_set m n k a d e = cc

nothing : (n a : ℕ) (d : List ℕ) → None ≡ Some (RpmbWrite n a d) → ⊥
nothing n a d e = cc

same_write : (m n a b : ℕ) (d e : List ℕ) → Some (RpmbWrite m a d) ≡ Some (RpmbWrite n b e) →
    (m ≡ n) × (a ≡ b) × (d ≡ e)
same_write m n a b d e h = (cc, cc, cc)

is_write : (one three : Bool) (m n : ℕ) (k : List ℕ) (a b : ℕ) (d e : List ℕ) →
    cond one (Some (SetKey m k)) (cond three (Some (RpmbWrite m a d)) None) ≡ Some (RpmbWrite n b e) →
    (three ≡ true) × ((m ≡ n) × (a ≡ b) × (d ≡ e))
is_write true three m n k a b d e h = absurd (no_key_set m n k b e h)
is_write false true m n k a b d e h = (refl, same_write m n a b d e h)
is_write false false m n k a b d e h = absurd (nothing n b e h)

pub equal_bytes : (xs ys : List ℕ) → same_bytes xs ys ≡ true → xs ≡ ys
equal_bytes [] [] e = refl
equal_bytes (x ∷ xs) (y ∷ ys) e =
    let both = and_parts (x == y) (same_bytes xs ys) e in
    let first = eqb-true x y both.0 in
    let rest = equal_bytes xs ys both.1 in
    λ i. first i ∷ rest i
equal_bytes [] (y ∷ ys) e = absurd (false≢true e)
equal_bytes (x ∷ xs) [] e = absurd (false≢true e)

right_mac : (key : Option (List ℕ)) (f : Frame) (fs : List Frame) → has_wrong_mac key f fs ≡ false →
    (bytes : List ℕ) × (key ≡ Some bytes) × (last_mac f fs ≡ frames_mac bytes (f ∷ fs))
right_mac None f fs e = absurd (true≢false e)
right_mac (Some bytes) f fs e =
    (bytes, refl, equal_bytes (last_mac f fs) (frames_mac bytes (f ∷ fs)) (not-false _ e))

says_the_same : (f g : Frame) → agrees f g ≡ true → SaysTheSame f g
says_the_same f g e =
    let three = and_parts ((f.kind == g.kind) && (f.counter == g.counter) && (f.address == g.address)) _ e in
    let two = and_parts ((f.kind == g.kind) && (f.counter == g.counter)) _ three.0 in
    let one = and_parts (f.kind == g.kind) _ two.0 in
    record {
      kind = sym (eqb-true f.kind g.kind one.0);
      counter = sym (eqb-true f.counter g.counter one.1);
      address = sym (eqb-true f.address g.address two.1);
      count = sym (eqb-true f.count g.count three.1);
    }

all_say : (f : Frame) (fs : List Frame) → list_all (agrees f) fs ≡ true → All (SaysTheSame f) fs
all_say f [] e k d lt = absurd (omega (arith, lt))
all_say f (g ∷ gs) e zero d lt = says_the_same f g (and_parts (agrees f g) (list_all (agrees f) gs) e).0
all_say f (g ∷ gs) e (suc k) d lt =
    all_say f gs (and_parts (agrees f g) (list_all (agrees f) gs) e).1 k d (omega (arith, lt))

-- the checks of a write, if none fails
all_pass : (a b c d e g : Bool) →
    first_failed (fails_if a 7 ∷ fails_if b 5 ∷ fails_if c 4 ∷ fails_if d 2 ∷ fails_if e 3 ∷ fails_if g 5 ∷ []) ≡ None →
    (b ≡ false) × (c ≡ false) × (d ≡ false) × (e ≡ false) × (g ≡ false)
all_pass a b c d e g h =
    let one = passed a 7 _ h in
    let two = passed b 5 _ one.1 in
    let three = passed c 4 _ two.1 in
    let four = passed d 2 _ three.1 in
    let five = passed e 3 _ four.1 in
    (two.0, three.0, four.0, five.0, (passed g 5 None five.1).0)

module _ (number : ℕ) (region : Region) (r : Registers) (locked : Bool) (f : Frame) (fs : List Frame)
    (result named address : ℕ) (bytes : List ℕ)
    (e : rpmb_outcome number region r locked (f ∷ fs) ≡ Results result (Some (RpmbWrite named address bytes))) where
  abbrev c : Command
  c = RpmbWrite named address bytes

  formed : (not (is_well_formed f fs) ≡ false)
      × (cond (lacks_result f r) (Refused sequence_error)
      (outcome_after region (command_in number f fs) (first_failed (checks region locked f fs)))
      ≡ Results result (Some c))
  formed = not_refused (not (is_well_formed f fs)) invalid_list_field _ result c e

  asked : (first_failed (checks region locked f fs) ≡ None) × (command_in number f fs ≡ Some c)
  asked =
      none_failed region (command_in number f fs) (first_failed (checks region locked f fs)) result c
      (not_refused (lacks_result f r) sequence_error _ result c formed.1).1

  write : ((f.kind == 3) ≡ true)
      × ((number ≡ named) × (f.address ≡ address) × (flat_map (λ (g : Frame). g.payload) (f ∷ fs) ≡ bytes))
  write = is_write (f.kind == 1) (f.kind == 3) number named f.key_or_mac f.address address _ bytes asked.1

  kind : f.kind ≡ 3
  kind = eqb-true f.kind 3 write.0

  well_formed : (list_all (agrees f) fs ≡ true) × ((f.count == length fs + 1) ≡ true)
  well_formed =
      let is : is_well_formed f fs ≡ true = not-false _ formed.0 in
      let of_write : is_well_formed f fs ≡ (list_all (agrees f) fs && (f.count == length fs + 1)) = rw write.0 refl in
      and_parts (list_all (agrees f) fs) _ (sym of_write ∙ is)

  of_write : checks region locked f fs
      ≡ fails_if (not (has_key region)) 7 ∷ fails_if (region.counter == counter_end) 5
      ∷ fails_if (is_past_area region f) 4 ∷ fails_if (has_wrong_mac region.key f fs) 2
      ∷ fails_if (not (f.counter == region.counter)) 3 ∷ fails_if locked 5 ∷ []
  of_write = rw kind refl

  passed_all : ((region.counter == counter_end) ≡ false) × (is_past_area region f ≡ false)
      × (has_wrong_mac region.key f fs ≡ false) × (not (f.counter == region.counter) ≡ false) × (locked ≡ false)
  passed_all =
      all_pass (not (has_key region)) (region.counter == counter_end) (is_past_area region f)
      (has_wrong_mac region.key f fs) (not (f.counter == region.counter)) locked
      (sym (ap first_failed of_write) ∙ asked.0)

  pub unlocked : locked ≡ false
  unlocked = passed_all.4

  pub what_is_written : (number ≡ named) × (f.address ≡ address)
      × (flat_map (λ (g : Frame). g.payload) (f ∷ fs) ≡ bytes)
  what_is_written = write.1

  pub right_write : IsRightWrite region f fs
  right_write =
      let mac = right_mac region.key f fs passed_all.2 in
      record {
        kind = kind;
        agree = all_say f fs well_formed.0;
        count = omega (arith, eqb-true f.count (length fs + 1) well_formed.1);
        key = mac.0;
        is_key = mac.1;
        mac = mac.2;
        within = ltb-false (length region.area) (256 * (f.address + f.count)) passed_all.1;
        counter = eqb-true f.counter region.counter (not-false _ passed_all.3);
        below_end = λ same. true≢false (sym (eq-eqb region.counter 0xFFFFFFFF same) ∙ passed_all.0);
      }
