-- A settings page is read, written again and compared.
use Rattle.std.proofs.Common.{All, Bool, IsTrue, List, None, Some, [], ap, append_assoc, arith, cond, drop, false}
use Rattle.std.proofs.Common.{length, length-append, length-drop, length-take, refl, replicate, slice_index, subst, suc}
use Rattle.std.proofs.Common.{sym, take, true, zero, ℕ, ◌*◌, ◌++◌, ◌+◌, ◌-◌, ◌<◌, ◌==◌, ◌∙◌, ◌∷◌, ◌≡◌, ◌≤◌}
use Rattle.std.specs.Str.{bytes_eq}
use Rattle.std.proofs.lemmas.List.{drop-drop, drop-replicate, drop_at, take_at}
use Rattle.std.proofs.lemmas.Slice.Eq.{bytes_eq-Decides}
use Rattle.byteorder.specs.Endian.{big_bytes}
use Rattle.ufs_bytes.specs.Fields.{with_field}
use Rattle.ufs_spec.specs.Keys.{AreSettings, IsKeyAndCounter, IsSettingsBody, counter_in, flag_place, key_in, said_in}
use Rattle.ufs_spec.specs.Messages.{AreBytes}
use Rattle.ufs_spec.specs.Pages.{zero_filled}
use Rattle.ufs_spec.specs.Plain.{regions, with_part, zero_block}
use Rattle.ufs_spec.proofs.Facts.{none-some, same_Some}
use Rattle.ufs_bytes.proofs.FieldRanges.{field_fits}
use Rattle.ufs_laws.proofs.pages.ByteLists.{bytes-drop, bytes-take}
use Rattle.ufs_laws.proofs.pages.SettingsBodies.{ReadsBack, none_in_ranges, read_back, written_again, zero_settings}
use Rattle.settings.specs.Told.{bytes_of, new_settings, settings_in}
use Rattle.settings.specs.declared.page.Settings.{Settings}

-- Writing

-- the counter, written into four bytes behind the key
pub counter_written : (counter : ℕ) (key : List ℕ) → length key ≡ 32
    → with_field 4 36 counter (0 ∷ 0 ∷ 0 ∷ 0 ∷ (key ++ replicate 4 0))
    ≡ 0 ∷ 0 ∷ 0 ∷ 0 ∷ (key ++ big_bytes 4 counter)
counter_written counter key long =
    let before : take 32 (key ++ replicate 4 0) ≡ key = take_at key (replicate 4 0) 32 long in
    let behind : drop 32 (key ++ replicate 4 0) ≡ replicate 4 0 = drop_at key (replicate 4 0) 32 long in
    rw (before, behind) refl

-- zeros behind the bytes of a front, with forty bytes written over their first ones
put_behind : (at n : ℕ) (front forty : List ℕ) → length front ≡ at → length forty ≡ 40
    → with_part at forty (front ++ replicate (40 + n) 0) ≡ (front ++ forty) ++ replicate n 0
put_behind at n front forty long forty_long =
    let zeros : List ℕ = replicate (40 + n) 0 in
    let behind : drop (at + length forty) (front ++ zeros) ≡ replicate n 0 =
    ap (λ (k : ℕ). drop (at + k) (front ++ zeros)) forty_long
    ∙ sym (drop-drop 40 at (front ++ zeros)) ∙ ap (drop 40) (drop_at front zeros at long)
    ∙ drop-replicate {X = ℕ} 40 (40 + n) 0 ∙ ap (λ (k : ℕ). replicate k 0) (omega arith) in
    rw (take_at front zeros at long, behind) (sym (append_assoc front forty (replicate n 0)))

-- the forty bytes of each region, written into zeros one after another
pub regions_written : (first one two three page page_1 page_2 page_3 : List ℕ)
    → length first ≡ 40 → length one ≡ 40 → length two ≡ 40 → length three ≡ 40
    → page_1 ≡ with_part 0 first (replicate 4096 0) → page_2 ≡ with_part 40 one page_1
    → page_3 ≡ with_part 80 two page_2 → page ≡ with_part 120 three page_3
    → page ≡ zero_filled 4096 (first ++ one ++ two ++ three)
unfolding zero_filled
regions_written first one two three page page_1 page_2 page_3 h0 h1 h2 h3 e1 e2 e3 e4 =
    let l1 = length-append first one in
    let l2 = length-append (first ++ one) two in
    let l3 = length-append (first ++ one ++ two) three in
    let is_1 : page_1 ≡ first ++ replicate 4056 0 = e1 ∙ put_behind 0 4056 [] first refl h0 in
    let is_2 : page_2 ≡ (first ++ one) ++ replicate 4016 0 =
    e2 ∙ ap (with_part 40 one) is_1 ∙ put_behind 40 4016 first one h0 h1 in
    let is_3 : page_3 ≡ (first ++ one ++ two) ++ replicate 3976 0 =
    e3 ∙ ap (with_part 80 two) is_2 ∙ put_behind 80 3976 (first ++ one) two (omega (arith, l1, h0, h1)) h2 in
    let is_4 : page ≡ (first ++ one ++ two ++ three) ++ replicate 3936 0 =
    e4 ∙ ap (with_part 120 three) is_3
    ∙ put_behind 120 3936 (first ++ one ++ two) three (omega (arith, l1, l2, h0, h1, h2)) h3 in
    let rest : 4096 - length (first ++ one ++ two ++ three) ≡ 3936 = omega (arith, l1, l2, l3, h0, h1, h2, h3) in
    is_4 ∙ ap (λ (n : ℕ). (first ++ one ++ two ++ three) ++ replicate n 0) (sym rest)

-- Reading

-- what settings in their ranges are written as is read as these settings
pub said_again : (s : Settings) → AreSettings s.boot s.regions → settings_in (bytes_of s) ≡ s
said_again s h =
    let back : ReadsBack (bytes_of s) s.boot s.is_permanent s.regions =
    read_back s.boot s.is_permanent s.regions h in
    λ i. record {
      boot = back.boot_is i;
      is_permanent = back.permanent_is i;
      regions = back.said_is i;
    }

-- zeros say the settings of a new device
pub zeros_say : new_settings ≡ settings_in zero_block
zeros_say = sym (said_again new_settings none_in_ranges) ∙ ap settings_in zero_settings

-- a key that is read has 32 bytes
key_fits : (set : Bool) (bytes key : List ℕ) → length bytes ≡ 32 → AreBytes bytes
    → cond set (Some bytes) None ≡ Some key → (length key ≡ 32) × AreBytes key
key_fits true bytes key long are e =
    let same : bytes ≡ key = same_Some bytes key e in
    subst (λ (k : List ℕ). (length k ≡ 32) × AreBytes k) same (long, are)
key_fits false bytes key long are e = absurd (none-some key e)

module _ (page : List ℕ) (long : length page ≡ 4096) (are : AreBytes page) where
  -- the bytes of a region and all behind them
  abbrev forty : ℕ → List ℕ
  forty number = drop (40 * number) page

  taken : (number : ℕ) → number < regions → length (take 32 (drop 4 (forty number))) ≡ 32
  taken number there =
      let behind = length-drop (40 * number) page in
      omega (arith, length-take 32 (drop 4 (forty number)), length-drop 4 (forty number), behind, there, long)

  key_read : (number : ℕ) → number < regions → (key : List ℕ) → key_in number page ≡ Some key
      → (length key ≡ 32) × AreBytes key
  key_read number there key e =
      key_fits (slice_index (forty number) (flag_place number) == 1) (take 32 (drop 4 (forty number))) key
      (taken number there)
      (bytes-take 32 (drop 4 (forty number)) (bytes-drop 4 (forty number) (bytes-drop (40 * number) page are))) e

  -- what is read of a region is in its ranges
  region_read : (number : ℕ) → number < regions
      → IsKeyAndCounter (record { key = key_in number page; counter = counter_in number page })
  region_read number there = record {
    key_length = key_read number there;
    counter_fits = field_fits 4 36 (forty number) (bytes-drop (40 * number) page are);
  }

  all_read : All IsKeyAndCounter (said_in page)
  all_read zero d there = region_read 0 (omega arith)
  all_read (suc zero) d there = region_read 1 (omega arith)
  all_read (suc (suc zero)) d there = region_read 2 (omega arith)
  all_read (suc (suc (suc zero))) d there = region_read 3 (omega arith)
  all_read (suc (suc (suc (suc k)))) d there = absurd (omega (arith, there))

  -- what is read, written again, is the block exactly if it is a settings page
  pub told : (s : Settings) (written : List ℕ) (same : Bool) → s ≡ settings_in page → s.boot ≤ 2
      → written ≡ bytes_of s → same ≡ bytes_eq written page
      → (IsTrue same → IsSettingsBody page) × (IsSettingsBody page → IsTrue same)
  told s written same said low spelled test = (
    λ yes. record {
      boot = s.boot;
      permanent = s.is_permanent;
      said = s.regions;
      ranges = subst (λ (x : Settings). AreSettings s.boot x.regions) (sym said) (record {
        boot_bound = low;
        count = refl;
        each = all_read;
      });
      bytes = sym ((bytes_eq-Decides written page).0 (sym test ∙ yes)) ∙ spelled;
    },
    λ is. test ∙ (bytes_eq-Decides written page).1 (spelled ∙ ap bytes_of said ∙ written_again page is),
  )
