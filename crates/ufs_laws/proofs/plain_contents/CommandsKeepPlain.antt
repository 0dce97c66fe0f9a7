-- Commands leave a plain state plain.
use Rattle.ufs_laws.proofs.Common.{All, All-map, All-replicate, AreBytes, AreSettings, Command, IsBlock}
use Rattle.ufs_laws.proofs.Common.{IsKeyAndCounter, IsPlain, IsRegion, List, Plain, Region, [], after, apply, arith}
use Rattle.ufs_laws.proofs.Common.{cases_lt, changed_by, counter_end, drop, empty_region, inl, inr, length, length-map}
use Rattle.ufs_laws.proofs.Common.{map, none-some, region_of, regions, replicate, said_by, same_Some, slice_index_or}
use Rattle.ufs_laws.proofs.Common.{slice_set, subst, sym, take, with_part, with_region, ℕ, ◌*◌, ◌++◌, ◌+◌, ◌/◌, ◌<◌}
use Rattle.ufs_laws.proofs.Common.{◌∙◌, ◌∷◌, ◌≡◌, ◌≤◌}
use Rattle.std.proofs.lemmas.List.{length-set}
use Rattle.std.proofs.lemmas.List.Elements.{All-append, All-drop, All-set, All-take}
use Rattle.ufs_spec.specs.Keys.{CanApplyAll, IsCommand}
use Rattle.ufs_spec.specs.Plain.{CanApply, zero_block}
use Rattle.ufs_spec.specs.Commands as cmd
use Rattle.ufs_spec.proofs.PlainFacts.{length-with_part}
use Rattle.ufs_spec.proofs.RegionPages.{area_there}
use Rattle.std.proofs.Math.ListN.{get_or-eq_default}
use Rattle.ufs_laws.proofs.pages.ByteLists.{bytes-append, bytes-drop, bytes-nil, bytes-take, zero_block_is}

-- blocks in place of others
written_blocks : (units : List (List (List ℕ))) (unit address : ℕ) (blocks : List (List ℕ)) → All (All IsBlock) units →
    All IsBlock blocks → unit < length (map length units)
    → All (All IsBlock) (slice_set units unit (with_part address blocks (slice_index_or units unit [])))
written_blocks units unit address blocks each new there =
    let old : List (List ℕ) = slice_index_or units unit [] in
    let lt : unit < length units = omega (arith, length-map units length) in
    let was : All IsBlock old = each unit [] lt in
    let rest : All IsBlock (drop (address + length blocks) old) = All-drop IsBlock (address + length blocks) old was in
    let behind : All IsBlock (blocks ++ drop (address + length blocks) old) = All-append IsBlock blocks
    (drop (address + length blocks) old) new rest in
    let whole : All IsBlock (with_part address blocks old) = All-append IsBlock (take address old)
    (blocks ++ drop (address + length blocks) old) (All-take IsBlock address old was) behind in
    All-set (All IsBlock) units unit (with_part address blocks old) whole each

-- bytes in place of others
written_bytes : (at : ℕ) (new old : List ℕ) → AreBytes new → AreBytes old → AreBytes (with_part at new old)
written_bytes at new old fresh was =
    bytes-append (take at old) (new ++ drop (at + length new) old) (bytes-take at old was)
    (bytes-append new (drop (at + length new) old) fresh (bytes-drop (at + length new) old was))

-- units in place of others
kept_units : (p : Plain) (units : List (List (List ℕ))) → IsPlain p → All (All IsBlock) units →
    IsPlain (record p { units = units })
kept_units p units plain are = record {
  blocks = are;
  boot_bound = plain.boot_bound;
  regions_count = plain.regions_count;
  each_region = plain.each_region;
}

-- a region in place of another
kept_regions : (p : Plain) (number : ℕ) (new : Region) → IsPlain p → IsRegion new → IsPlain (with_region number new p)
kept_regions p number new plain is = record {
  blocks = plain.blocks;
  boot_bound = plain.boot_bound;
  regions_count = length-set p.regions number new ∙ plain.regions_count;
  each_region = All-set IsRegion p.regions number new is plain.each_region;
}

pub its_region : (p : Plain) (number : ℕ) → IsPlain p → number < regions → IsRegion (region_of p number)
its_region p number plain there = plain.each_region number empty_region (omega (arith, plain.regions_count, there))

-- also where there is none
pub region_right : (p : Plain) → IsPlain p → (number : ℕ) → IsRegion (region_of p number)
region_right p plain number =
    elim (cases_lt number (length p.regions)) [
      | inl there ↦ plain.each_region number empty_region there
      | inr past ↦ subst IsRegion (sym (get_or-eq_default p.regions empty_region past)) empty_right
    ]
  where
    empty_right : IsRegion empty_region
    empty_right = record {
      key_length = λ bytes e. absurd (none-some bytes e);
      area = omega arith;
      area_bytes = bytes-nil;
      counter_fits = omega arith;
    }

key_set : (r : Region) (number : ℕ) (bytes : List ℕ) → IsRegion r → length bytes ≡ 32 → AreBytes bytes →
    IsRegion (changed_by r (cmd.SetKey number bytes))
key_set r number bytes is long are = record {
  key_length = λ other e. subst (λ (b : List ℕ). (length b ≡ 32) × AreBytes b) (same_Some bytes other e) (long, are);
  area = is.area;
  area_bytes = is.area_bytes;
  counter_fits = is.counter_fits;
}

area_written : (r : Region) (number address : ℕ) (bytes : List ℕ) → IsRegion r →
    256 * address + length bytes ≤ length r.area → AreBytes bytes → r.counter < counter_end →
    IsRegion (changed_by r (cmd.RpmbWrite number address bytes))
area_written r number address bytes is within are below =
    let long = length-with_part (256 * address) bytes r.area within in
    record {
      key_length = is.key_length;
      area = subst (λ (n : ℕ). n ≡ 4096 * (n / 4096)) (sym long) is.area;
      area_bytes = written_bytes (256 * address) bytes r.area are is.area_bytes;
      counter_fits = omega (arith, below);
    }

-- the settings of a plain state are in their ranges
pub settings_ranges : (p : Plain) → IsPlain p → AreSettings p.boot (map said_by p.regions)
settings_ranges p plain = record {
  boot_bound = plain.boot_bound;
  count = length-map p.regions said_by ∙ plain.regions_count;
  each =
      All-map IsKeyAndCounter said_by p.regions
      (λ k d lt. (let is = plain.each_region k d lt in
      record { key_length = is.key_length; counter_fits = is.counter_fits }));
}

pub kept_plain : (p : Plain) (c : Command) → IsPlain p → IsCommand c → CanApply p c → IsPlain (apply p c)
kept_plain p (cmd.Write unit address blocks) plain is_cmd can =
    kept_units p _ plain (written_blocks p.units unit address blocks plain.blocks is_cmd can.0.0)
kept_plain p (cmd.Zero unit address count) plain is_cmd can =
    let zeros : All IsBlock (replicate count zero_block) = All-replicate IsBlock count zero_block zero_block_is in
    kept_units p _ plain
    (written_blocks p.units unit address (replicate count zero_block) plain.blocks zeros can.0.0)
kept_plain p (cmd.SetKey region bytes) plain is_cmd can =
    kept_regions p region _ plain
    (key_set (region_of p region) region bytes (its_region p region plain can.0.0.0) can.0.1 is_cmd)
kept_plain p (cmd.RpmbWrite region address bytes) plain is_cmd can =
    kept_regions p region _ plain
    (area_written (region_of p region) region address bytes (its_region p region plain can.0.0.0)
    (omega (arith, can.0.1.1, area_there p region)) is_cmd can.1)
kept_plain p (cmd.SetBoot boot) plain is_cmd can = record {
  blocks = plain.blocks;
  boot_bound = can.0;
  regions_count = plain.regions_count;
  each_region = plain.each_region;
}
kept_plain p cmd.SetPermanent plain is_cmd can = record {
  blocks = plain.blocks;
  boot_bound = plain.boot_bound;
  regions_count = plain.regions_count;
  each_region = plain.each_region;
}

pub all_kept_plain : (p : Plain) (cs : List Command) → IsPlain p → CanApplyAll p cs → IsPlain (after p cs)
all_kept_plain p [] plain can = plain
all_kept_plain p (c ∷ cs) plain can = all_kept_plain (apply p c) cs (kept_plain p c plain can.0 can.1) can.2
