-- What is accepted of frames that came: it may come now, and what it leaves of key, counter and contents.
use Rattle.device.proofs.Common.{Bool, CanApply, Command, Frame, Group, IsKey, IsPlain, IsTied, Key, List, None, Plain}
use Rattle.device.proofs.Common.{Region, Registers, Results, RpmbWrite, SetKey, Shape, Some, State, [], after}
use Rattle.device.proofs.Common.{all_contents, ap, apply, area_there, arith, changed_by, content, eqb-true, false}
use Rattle.device.proofs.Common.{fold-append, get_or, is_success, length, named_changed, none-some, numbers_of}
use Rattle.device.proofs.Common.{plain_now, read_data, reads_area, refl, region_named, region_of, regions, rpmb_outcome}
use Rattle.device.proofs.Common.{same_Some, sequence_error, shape_of_numbers, subst, sym, true, ℕ, ◌&&◌, ◌++◌, ◌<◌}
use Rattle.device.proofs.Common.{◌==◌, ◌∙◌, ◌∷◌, ◌≡◌, ◌≢◌}
use Rattle.std.proofs.Common.{not}
use Rattle.ufs_spec.proofs.PlainFacts.{shape_after}
use Rattle.ufs_spec.specs.Exchanges.{invalid_list_field}
use Rattle.ufs_spec.specs.Keys.{Contents, IsCommand, put_groups}
use Rattle.ufs_spec.specs.Ledger.{accepted_groups}
use Rattle.ufs_spec.specs.Rpmb.{checks, command_in, first_failed, is_well_formed, lacks_result}
use Rattle.ufs_laws.proofs.plain_contents.GroupsOfCommands.{many_commands, put_groups-same}
use Rattle.ufs_laws.proofs.rpmb_frames.Regions.{others_stay}
use Rattle.ufs_laws.proofs.rpmb_frames.RightWrites.{none_failed, not_refused}
use Rattle.power_loss.proofs.shown_blocks.LooksShowContents.{accepted_alone}

-- Contents

-- all groups give the contents of the plain state as it is now
pub contents_now : (s : State) (k : Key) → IsTied s → IsKey (shape_of_numbers (numbers_of s)) k →
    all_contents s.translation.ledger k ≡ content (plain_now s) k
contents_now s k v is =
    sym (many_commands s.base s.accepted v.commands k (subst (λ (z : Shape). IsKey z k) (sym v.base.1) is)
    ∙ (ap (λ (gs : List Group). put_groups (content s.base) gs k) (sym v.groups)
    ∙ (put_groups-same (content s.base) s.translation.ledger.base (accepted_groups s.translation.ledger) k
    (sym (v.contents k is)) ∙ ap (λ (f : Contents). f k) (sym (accepted_alone v.valid)))))

-- What is accepted

-- a request for data accepts nothing
pub reads_none : (number : ℕ) (region : Region) (r : Registers) (locked : Bool) (f : Frame) (fs : List Frame) (code : ℕ)
    (c : Command) → rpmb_outcome number region r locked (f ∷ fs) ≡ Results code (Some c) → reads_area f code ≡ false
reads_none number region r locked f fs code c e = by (f.kind == read_data) refl
  where
    its : command_in number f fs ≡ Some c
    its =
        let formed = not_refused (not (is_well_formed f fs)) invalid_list_field _ code c e in
        let there = not_refused (lacks_result f r) sequence_error _ code c formed.1 in
        (none_failed region (command_in number f fs) (first_failed (checks region locked f fs)) code c there.1).1

    of_data : f.kind ≡ read_data → command_in number f fs ≡ None
    of_data kind = rw kind refl

    by : (b : Bool) → (f.kind == read_data) ≡ b → (b && is_success code) ≡ false
    by false is = refl
    by true is = absurd (none-some c (sym (of_data (eqb-true f.kind read_data is)) ∙ its))

-- What it leaves

-- the key or a write leaves the boot setting as it is
pub boot_stays : (p : Plain) (c : Command) (number : ℕ) → region_named c ≡ Some number → (apply p c).boot ≡ p.boot
boot_stays p (SetKey named bytes) number e = refl
boot_stays p (RpmbWrite named address bytes) number e = refl
boot_stays p c number e = absurd (none-some number e)

-- the key or a write leaves the protection for ever as it is
pub permanent_stays : (p : Plain) (c : Command) (number : ℕ) → region_named c ≡ Some number →
    (apply p c).permanent ≡ p.permanent
permanent_stays p (SetKey named bytes) number e = refl
permanent_stays p (RpmbWrite named address bytes) number e = refl
permanent_stays p c number e = absurd (none-some number e)

-- it changes its region
pub region_changed : (p : Plain) (cs : List Command) (c : Command) → IsPlain (after p cs) → (number : ℕ) →
    number < regions → region_named c ≡ Some number →
    region_of (after p (cs ++ c ∷ [])) number ≡ changed_by (region_of (after p cs) number) c
region_changed p cs c plain number there e =
    ap (λ (q : Plain). region_of q number) (fold-append apply p cs (c ∷ []))
    ∙ named_changed (after p cs) c number (let count = plain.regions_count in omega arith) e

-- and no other one
pub other_region : (p : Plain) (cs : List Command) (c : Command) (number other : ℕ) → other ≢ number →
    region_named c ≡ Some number → region_of (after p (cs ++ c ∷ [])) other ≡ region_of (after p cs) other
other_region p cs c number other differ e =
    ap (λ (q : Plain). region_of q other) (fold-append apply p cs (c ∷ []))
    ∙ others_stay (after p cs) c other (λ e2. differ (same_Some other number (sym e2 ∙ e)))

-- and no area gets another length
pub area_stays : (p : Plain) (c : Command) → IsPlain p → IsCommand c → CanApply p c → (number : ℕ) →
    number < regions → region_named c ≡ Some number →
    length (changed_by (region_of p number) c).area ≡ length (region_of p number).area
area_stays p c plain is can number there e =
    ap (λ (r : Region). length r.area)
    (sym (named_changed p c number (let count = plain.regions_count in omega arith) e))
    ∙ (sym (area_there (apply p c) number)
    ∙ (ap (λ (x : Shape). get_or x.areas number 0) (shape_after p (c ∷ []) (is, can, tt)) ∙ area_there p number))
