-- Whether a body is that of a settings page, or of a mark.
use Rattle.ufs_laws.proofs.Common.{AreBytes, AreSettings, Fence, IsKeyAndCounter, IsMarkBody, IsSettingsBody}
use Rattle.ufs_laws.proofs.Common.{KeyAndCounter, List, Numbers, Option, UnitSpec, dec_le, dec_lt, length, map_dec}
use Rattle.ufs_laws.proofs.Common.{regions, said_in, slice_index, subst, sym, ℕ, ℕ_discrete, ◌<◌, ◌==◌, ◌^◌, ◌≡◌}
use Rattle.ufs_spec.specs.Cells.{IsFence, NumbersFit, UnitFits}
use Rattle.ufs_spec.specs.Keys.{settings_bytes}
use Rattle.ufs_spec.specs.Pages.{mark_bytes}
use Rattle.ufs_laws.proofs.deciding.Connectives.{are_bytes, dec_all, dec_and, dec_some, same_bytes}
use Rattle.ufs_laws.proofs.pages.MarkBodies.{fence_in, fence_of_mark, numbers_in, numbers_of_mark}
use Rattle.ufs_laws.proofs.pages.SettingsBodies.{ranges_read, written_again}

-- Settings

is_key : (bytes : List ℕ) → Dec ((length bytes ≡ 32) × AreBytes bytes)
is_key bytes = dec_and (ℕ_discrete (length bytes) 32) (are_bytes bytes)

is_key_and_counter : (r : KeyAndCounter) → Dec (IsKeyAndCounter r)
is_key_and_counter r =
    map_dec (λ h. record { key_length = h.0; counter_fits = h.1 }) (λ is. (is.key_length, is.counter_fits))
    (dec_and (dec_some (λ (bytes : List ℕ). (length bytes ≡ 32) × AreBytes bytes) is_key r.key)
    (dec_lt r.counter (2 ^ 32)))

are_settings : (boot : ℕ) (said : List KeyAndCounter) → Dec (AreSettings boot said)
are_settings boot said =
    map_dec (λ h. record { boot_bound = h.0; count = h.1.0; each = h.1.1 })
    (λ r. (r.boot_bound, (r.count, r.each)))
    (dec_and (dec_le boot 2)
    (dec_and (ℕ_discrete (length said) regions) (dec_all IsKeyAndCounter is_key_and_counter said)))

-- whether a body is that of a settings page: read, written again and compared
pub is_settings_body : (body : List ℕ) → Dec (IsSettingsBody body)
is_settings_body body =
    map_dec
    (λ h. record {
      boot = slice_index body 0;
      permanent = slice_index body 1 == 1;
      said = said_in body;
      ranges = h.0;
      bytes = h.1;
    })
    (λ s. (ranges_read body s, sym (written_again body s)))
    (dec_and (are_settings (slice_index body 0) (said_in body))
    (same_bytes body (settings_bytes (slice_index body 0) (slice_index body 1 == 1) (said_in body))))

-- Marks

is_fence : (f : Fence) → Dec (IsFence f)
is_fence f =
    map_dec (λ h. record { ordered = h.0; some = h.1.0; fits = h.1.1 }) (λ r. (r.ordered, (r.some, r.fits)))
    (dec_and (dec_le f.first f.last) (dec_and (dec_lt 0 f.last) (dec_lt f.last (2 ^ 64))))

unit_fits : (u : UnitSpec) → Dec (UnitFits u)
unit_fits u =
    map_dec (λ h. record { blocks = h.0; boot = h.1.0; protect = h.1.1 }) (λ r. (r.blocks, (r.boot, r.protect)))
    (dec_and (dec_lt u.blocks (2 ^ 32)) (dec_and (dec_lt u.boot (2 ^ 8)) (dec_lt u.protect (2 ^ 8))))

numbers_fit : (n : Numbers) → Dec (NumbersFit n)
numbers_fit n =
    map_dec
    (λ h. record {
      dies = h.0.0;
      blocks = h.0.1;
      pages = h.1.0.0;
      units = h.1.0.1;
      each_unit = h.1.1.0.0;
      regions = h.1.1.0.1.0;
      rpmb = h.1.1.0.1.1;
      slots = h.1.1.1.0;
      spare = h.1.1.1.1.0;
      profile = h.1.1.1.1.1.0;
      serial = h.1.1.1.1.1.1;
    })
    (λ r. (
      (r.dies, r.blocks),
      (
        (r.pages, r.units),
        (
          (r.each_unit, (r.regions, r.rpmb)),
          (r.slots, (r.spare, (r.profile, r.serial))),
        ),
      ),
    ))
    (dec_and (dec_and (dec_lt n.dies (2 ^ 8)) (dec_lt n.blocks (2 ^ 16)))
    (dec_and (dec_and (dec_lt n.pages (2 ^ 16)) (dec_le (length n.units.items) 8))
    (dec_and (dec_and (dec_all UnitFits unit_fits n.units.items)
    (dec_and (ℕ_discrete (length n.rpmb) regions)
    (dec_all (λ (steps : ℕ). steps < 2 ^ 8) (λ (steps : ℕ). dec_lt steps (2 ^ 8)) n.rpmb)))
    (dec_and (dec_lt n.slots (2 ^ 16)) (dec_and (dec_lt n.spare (2 ^ 16))
    (dec_and (ℕ_discrete n.profile 0) (ℕ_discrete n.serial 1)))))))

-- whether a body is that of a mark with this fence and these numbers
is_body_of : (fence : Option Fence) (n : Numbers) (body : List ℕ) → Dec (IsMarkBody fence n body)
is_body_of fence n body =
    map_dec (λ h. record { fence_right = h.0; numbers_fit = h.1.0; bytes = h.1.1 })
    (λ r. (r.fence_right, (r.numbers_fit, r.bytes)))
    (dec_and (dec_some IsFence is_fence fence) (dec_and (numbers_fit n) (same_bytes body (mark_bytes n fence))))

-- the body of a mark is that of the fence and the numbers that are read from it
as_read : (fence : Option Fence) (n : Numbers) (body : List ℕ) → IsMarkBody fence n body
    → IsMarkBody (fence_in body) (numbers_in body) body
as_read fence n body h =
    subst (λ (f : Option Fence). IsMarkBody f (numbers_in body) body) (sym (fence_of_mark fence n body h))
    (subst (λ (m : Numbers). IsMarkBody fence m body) (sym (numbers_of_mark fence n body h)) h)

-- whether a body is that of a mark: read, written again and compared
pub is_mark_body : (body : List ℕ) → Dec ((fence : Option Fence) × (n : Numbers) × IsMarkBody fence n body)
is_mark_body body =
    map_dec (λ h. (fence_in body, numbers_in body, h)) (λ m. as_read m.0 m.1 body m.2)
    (is_body_of (fence_in body) (numbers_in body) body)
