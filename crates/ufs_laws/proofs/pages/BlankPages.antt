-- A blank page is nothing, and a block of zeros is the settings page of a new device.
use Rattle.ufs_laws.proofs.Common.{Cell, GroupPage, IsCell, IsFrontOf, IsSettingsBody, List, MarkPage, Nothing, Opens}
use Rattle.ufs_laws.proofs.Common.{Tag, ap, arith, false, get_or, inl, inr, mark_tag, refl, sym, take, ℕ, ◌≡◌}
use Rattle.ufs_spec.specs.Dies.{blank_page}
use Rattle.ufs_spec.specs.Plain.{zero_block}
use Rattle.ufs_laws.proofs.pages.SettingsBodies.{none_in_ranges, none_said, zero_settings}

-- Blank pages

-- the first spare byte of a blank page is none of the magic
blank_byte : get_or (take 64 blank_page.spare) 0 0 ≡ 255
unfolding blank_page
blank_byte = refl

front_byte : (t : Tag) (front : List ℕ) → IsFrontOf t front → get_or front 0 0 ≡ 85
front_byte t front (inl new) = ap (λ (f : List ℕ). get_or f 0 0) new
front_byte t front (inr old) = ap (λ (f : List ℕ). get_or f 0 0) old.1

pub blank_opens_not : (t : Tag) (body : List ℕ) → Opens blank_page t body → ⊥
blank_opens_not t body h =
    let sealed : get_or (take 64 blank_page.spare) 0 0 ≡ 85 =
    front_byte t (take 64 blank_page.spare) h.sealed.front in
    let blank = blank_byte in
    omega arith

pub blank_is_nothing : (x : Cell) → IsCell blank_page x → x ≡ Nothing
blank_is_nothing Nothing h = refl
blank_is_nothing (GroupPage t body) h = absurd (blank_opens_not t body h.0)
blank_is_nothing (MarkPage m) h = absurd (blank_opens_not (mark_tag m) h.0 h.1)

pub nothing_is_blank : IsCell blank_page Nothing
nothing_is_blank t body h hold = blank_opens_not t body h

-- Zeros

pub zeros_are_settings : IsSettingsBody zero_block
zeros_are_settings = record {
  boot = 0;
  permanent = false;
  said = none_said;
  ranges = none_in_ranges;
  bytes = sym zero_settings;
}
