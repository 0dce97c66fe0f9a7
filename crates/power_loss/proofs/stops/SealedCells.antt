-- A page that a life writes shows the cell that it is meant to be.
use Rattle.ufs_spec.specs.Configs.{marked}
use Rattle.power_loss.proofs.Common.{◌≡◌, ℕ, suc, ◌-◌, ◌*◌, ◌<◌, ◌≤◌, ◌^◌, true, false, List, [], ◌∷◌, ◌++◌, All}
use Rattle.power_loss.proofs.Common.{Option, Some, None, length, map, get_or, refl, sym, ap, ◌∙◌, ⊎_elim}
use Rattle.power_loss.proofs.Common.{arith, nat_le, option_and_then, flat_map, get_or-map, length-append, length-map}
use Rattle.power_loss.proofs.Common.{leb-true, slice_get_within, GroupPage, IsCell, IsFence, Mark, MarkPage, mark_tag}
use Rattle.power_loss.proofs.Common.{page_of, Group, IsArea, IsBlock, IsData, IsKey, IsSettings, Entry, Name, entry_in}
use Rattle.power_loss.proofs.Common.{shape_of_numbers, cell_of_entry, tag_of, Numbers, Fence, Key, config_tests, ranges}
use Rattle.power_loss.proofs.Common.{cases_Bool, cond-false, Book, BookRight, IsPageAt, last_number}
use Rattle.power_loss.proofs.MachineWords.{IsConfig, AreBytes, UnitSpec, BookFits, EntryFits}
use Rattle.std.specs.Prelude.{slice_get}
use Rattle.std.specs.Int.{bytes_high_first}
use Rattle.std.proofs.lemmas.Bool.{leb-false}
use Rattle.std.proofs.Math.Nat.{mul-le-mul_right}
use Rattle.ufs_laws.proofs.pages.BlankPages.{nothing_is_blank}
use Rattle.ufs_laws.proofs.pages.ByteLists.{bytes-append, bytes-cons, bytes-filled, bytes-nil, bytes-number}
use Rattle.ufs_laws.proofs.pages.ByteLists.{bytes-zeros, length-filled}
use Rattle.ufs_spec.specs.Pages.{IsTag, fence_bytes, greatest_number, mark_bytes, numbers_bytes, seal_page, unit_bytes}
use Rattle.ufs_spec.specs.Cells.{NumbersFit, UnitFits}
use Rattle.ufs_spec.specs.Configs.{InRange, UnitInRange}
use Rattle.ufs_spec.specs.Plain.{regions, steps_of}
use Rattle.ufs_spec.proofs.RegionPages.{pages_there}
use Rattle.ufs_spec.proofs.SealedPages.{seals, units_length}

pub ranges_of : (n : Numbers) → IsConfig n → InRange n
ranges_of n h = ranges n (config_tests n h).0

-- Keys

pub record KeyRanges (k : Key) : Type 0 where
  pub some : 1 ≤ k.kind
  pub kinds : k.kind ≤ 3
  pub unit : k.unit < 8
  pub region : k.kind ≡ 2 → k.unit < regions
  pub alone : 3 ≤ k.kind → k.unit ≡ 0
  pub address : k.address < 2 ^ 32
  pub blocks_alone : 3 ≤ k.kind → k.address ≡ 0

no_unit : UnitSpec
no_unit = record { blocks = 0; boot = 0; protect = 0 }

blocks_below : (units : List UnitSpec) (unit : ℕ) → All UnitInRange units → unit < length (map (λ u. u.blocks) units) →
    get_or (map (λ u. u.blocks) units) unit 0 ≤ 2097152
blocks_below units unit each lt =
    let there : unit < length units = omega (arith, length-map units (λ u. u.blocks)) in
    let at = get_or-map (λ u. u.blocks) units unit no_unit 0 there in
    let bound = (each unit no_unit there).blocks_bound in
    omega arith

pub key_ranges : {n : Numbers} → InRange n → {k : Key} → IsKey (shape_of_numbers n) k → KeyRanges k
key_ranges {n} r (IsData unit address there within) =
    let bound = blocks_below n.units.items unit r.each_unit there in
    let few = r.units_bound in
    record {
      some = omega arith;
      kinds = omega arith;
      unit = omega (arith, length-map n.units.items (λ u. u.blocks));
      region = λ h. absurd (omega arith);
      alone = λ h. absurd (omega arith);
      address = omega arith;
      blocks_alone = λ h. absurd (omega arith);
    }
key_ranges {n} r (IsArea region page there within) =
    let few : steps_of n region ≤ 8 = r.rpmb_bound region 0 (omega (arith, there, r.count_of_regions)) in
    record {
      some = omega arith;
      kinds = omega arith;
      unit = omega (arith, there);
      region = λ h. there;
      alone = λ h. absurd (omega arith);
      address = omega (arith, within, pages_there n region there);
      blocks_alone = λ h. absurd (omega arith);
    }
key_ranges r IsSettings = record {
  some = omega arith;
  kinds = omega arith;
  unit = omega arith;
  region = λ h. absurd (omega arith);
  alone = λ h. refl;
  address = omega arith;
  blocks_alone = λ h. refl;
}

-- Pages of groups

-- a page of the book has a number of the book
pub number_within : {b : Book} {n : ℕ} (i : ℕ) (e : Entry) → BookRight b → IsPageAt b n i e → n ≤ last_number b
number_within {b} {n} i e r is = ⊎_elim old new (cases_Bool (nat_le n b.greatest_seen))
  where
    old : nat_le n b.greatest_seen ≡ true → n ≤ last_number b
    old h = let l = leb-true n b.greatest_seen h in omega arith

    found : (x : Option Group) → option_and_then (λ g. entry_in g i) x ≡ Some e → (g : Group) × (x ≡ Some g)
    found None h = cc
    found (Some g) h = (g, refl)

    new : nat_le n b.greatest_seen ≡ false → n ≤ last_number b
    new h =
        let l = leb-false n b.greatest_seen h in
        let at : option_and_then (λ g. entry_in g i) (slice_get b.groups (n - b.greatest_seen - 1)) ≡ Some e =
        ap (λ x. option_and_then (λ g. entry_in g i) x)
        (sym (cond-false (nat_le n b.greatest_seen) None (slice_get b.groups (n - b.greatest_seen - 1)) h))
        ∙ (sym (cond-false (nat_le n b.greatest_seen) (b.entries_before n i) _ h) ∙ is) in
        let g = found (slice_get b.groups (n - b.greatest_seen - 1)) at in
        let w = slice_get_within b.groups (n - b.greatest_seen - 1) g.0 g.1 in
        omega arith

entry_tag : {n : Numbers} {name : Name} {e : Entry} {frontier last : ℕ} → InRange n →
    IsKey (shape_of_numbers n) e.item.key → EntryFits e name.index → 1 ≤ name.number → name.number ≤ last →
    frontier ≤ last → last ≤ greatest_number → IsTag (tag_of name e frontier)
entry_tag r key fits some number reach l =
    let k = key_ranges r key in
    record {
      kind_known = (k.some, omega (arith, k.kinds));
      unit_known = k.unit;
      region_known = k.region;
      unit_of_blocks_alone = k.alone;
      address_fits = k.address;
      address_of_blocks_alone = k.blocks_alone;
      number_given = (some, omega arith);
      group_not_long = (omega (arith, fits.inside), fits.size);
      index_in_group = fits.inside;
      mark_alone = λ h. absurd (omega (arith, k.kinds));
      frontier_fits = omega arith;
    }

entry_cell : {n : Numbers} {name : Name} {e : Entry} {frontier last : ℕ} → InRange n →
    IsKey (shape_of_numbers n) e.item.key → EntryFits e name.index → 1 ≤ name.number → name.number ≤ last →
    frontier ≤ last → last ≤ greatest_number → IsCell (seal_page (tag_of name e frontier) e.item.body)
    (GroupPage (tag_of name e frontier) e.item.body)
entry_cell {n} {name} {e} {frontier} r key fits some number reach l =
    let k = key_ranges r key in (
      record {
        tag_right = entry_tag r key fits some number reach l;
        body_right = fits.block;
        sealed = seals (tag_of name e frontier) e.item.body;
      },
      record { settings = fits.settings; mark = λ h. absurd (omega (arith, k.kinds)) },
      λ h. omega (arith, k.kinds),
    )

pub page_cell : {b : Book} (name : Name) (e : Option Entry) (frontier : ℕ) → IsConfig b.numbers → BookRight b →
    BookFits b → frontier ≤ last_number b → ((x : Entry) → e ≡ Some x → IsPageAt b name.number name.index x) →
    IsCell (page_of (cell_of_entry name e frontier)) (cell_of_entry name e frontier)
page_cell name None frontier config right fits reach is = nothing_is_blank
page_cell {b} name (Some e) frontier config right fits reach is =
    let page = is e refl in
    let entry = fits.entries name.number name.index e page in
    entry_cell (ranges_of b.numbers config) (right.keys name.number name.index e page) entry.0 entry.1
    (number_within name.index e right page) reach fits.last

-- Marks

unit_fits : (units : List UnitSpec) → All UnitInRange units → All UnitFits units
unit_fits units each k d lt =
    let u = each k d lt in
    record {
      blocks = omega (arith, u.blocks_bound);
      boot = omega (arith, u.boot_bound);
      protect = omega (arith, u.protect_bound);
    }

pub numbers_fit : {n : Numbers} → InRange n → NumbersFit (marked n)
numbers_fit {n} r =
    let dies = r.dies_bound in
    let blocks = r.blocks_bound in
    let pages = r.pages_bound in
    let slots = r.slots_bound in
    let spare = r.spare_bound in
    record {
      dies = omega arith;
      blocks = omega arith;
      pages = omega arith;
      units = r.units_bound;
      each_unit = unit_fits n.units.items r.each_unit;
      regions = r.count_of_regions;
      rpmb = λ k d lt. (let few = r.rpmb_bound k d lt in omega arith);
      slots = omega arith;
      spare = spare_fits n.dies n.blocks n.spare dies blocks spare;
      profile = refl;
      serial = refl;
    }
  where
    spare_fits : (dies blocks spare : ℕ) → dies ≤ 8 → blocks ≤ 1024 → spare ≤ dies * blocks → spare < 2 ^ 16
    spare_fits dies blocks spare d b s = omega (arith, mul-le-mul_right blocks d)

unit_is_bytes : {u : UnitSpec} → UnitFits u → AreBytes (unit_bytes u)
unit_is_bytes {u} f =
    bytes-append (bytes_high_first 4 u.blocks) (u.boot ∷ u.protect ∷ 0 ∷ 0 ∷ []) (bytes-number 4 u.blocks)
    (bytes-cons u.boot (u.protect ∷ 0 ∷ 0 ∷ []) f.boot (bytes-cons u.protect (0 ∷ 0 ∷ []) f.protect (bytes-zeros 2)))

units_are_bytes : (units : List UnitSpec) → All UnitFits units → AreBytes (flat_map unit_bytes units)
units_are_bytes [] each = bytes-nil
units_are_bytes (u ∷ us) each =
    bytes-append (unit_bytes u) (flat_map unit_bytes us) (unit_is_bytes (each 0 u (omega arith)))
    (units_are_bytes us (λ k d lt. each (suc k) d (omega arith)))

fence_is_bytes : (f : Option Fence) → AreBytes (fence_bytes f) × (length (fence_bytes f) ≡ 16)
fence_is_bytes None = (bytes-zeros 16, refl)
fence_is_bytes (Some f) = (
  bytes-append (bytes_high_first 8 f.first) (bytes_high_first 8 f.last)
      (bytes-number 8 f.first) (bytes-number 8 f.last),
  refl,
)

numbers_are_bytes : {n : Numbers} → NumbersFit n → AreBytes (numbers_bytes n)
numbers_are_bytes {n} f =
    let sizes : List ℕ = steps_of n 1 ∷ steps_of n 2 ∷ steps_of n 3 ∷ 0 ∷ [] in
    let spare : List ℕ = bytes_high_first 2 n.spare ++ sizes in
    let slots : List ℕ = bytes_high_first 2 n.slots ++ spare in
    let pages : List ℕ = bytes_high_first 2 n.pages ++ steps_of n 0 ∷ 0 ∷ slots in
    let blocks : List ℕ = bytes_high_first 2 n.blocks ++ pages in
    let few : length n.units.items < 256 = omega (arith, f.units) in
    let fits : (region : ℕ) → region < regions → steps_of n region < 256 =
    λ region there. (let step = f.rpmb region 0 (omega (arith, there, f.regions)) in omega arith) in
    let others : AreBytes sizes = bytes-cons (steps_of n 1) (steps_of n 2 ∷ steps_of n 3 ∷ 0 ∷ []) (fits 1 (omega arith))
    (bytes-cons (steps_of n 2) (steps_of n 3 ∷ 0 ∷ []) (fits 2 (omega arith))
    (bytes-cons (steps_of n 3) (0 ∷ []) (fits 3 (omega arith)) (bytes-zeros 1))) in
    let one : AreBytes spare = bytes-append (bytes_high_first 2 n.spare) sizes (bytes-number 2 n.spare) others in
    let two : AreBytes slots = bytes-append (bytes_high_first 2 n.slots) spare (bytes-number 2 n.slots) one in
    let three : AreBytes (steps_of n 0 ∷ 0 ∷ slots) = bytes-cons (steps_of n 0) (0 ∷ slots) (fits 0 (omega arith))
    (bytes-cons 0 slots (omega arith) two) in
    let four : AreBytes pages = bytes-append (bytes_high_first 2 n.pages) (steps_of n 0 ∷ 0 ∷ slots)
    (bytes-number 2 n.pages) three in
    let five : AreBytes blocks = bytes-append (bytes_high_first 2 n.blocks) pages (bytes-number 2 n.blocks) four in
    bytes-cons n.dies (length n.units.items ∷ blocks) f.dies (bytes-cons (length n.units.items) blocks few five)

mark_is_block : {n : Numbers} (f : Option Fence) → NumbersFit n → IsBlock (mark_bytes n f)
mark_is_block {n} f fit =
    let fence = fence_is_bytes f in
    let units = units_length n.units.items in
    let front = length-append (fence_bytes f) (numbers_bytes n) in
    let behind = length-append (fence_bytes f ++ numbers_bytes n) (flat_map unit_bytes n.units.items) in
    let own : length (numbers_bytes n) ≡ 16 = refl in
    let few = fit.units in
    let long = fence.1 in
    let bytes = bytes-append (fence_bytes f ++ numbers_bytes n) (flat_map unit_bytes n.units.items)
    (bytes-append (fence_bytes f) (numbers_bytes n) fence.0 (numbers_are_bytes fit))
    (units_are_bytes n.units.items fit.each_unit) in (
      length-filled 4096 (fence_bytes f ++ numbers_bytes n ++ flat_map unit_bytes n.units.items) (omega arith),
      bytes-filled 4096 (fence_bytes f ++ numbers_bytes n ++ flat_map unit_bytes n.units.items) bytes,
    )

mark_is_tag : (m : Mark) → 1 ≤ m.number → m.number ≤ greatest_number → m.records ≤ greatest_number → IsTag (mark_tag m)
mark_is_tag m some number records = record {
  kind_known = (omega arith, omega arith);
  unit_known = omega arith;
  region_known = λ h. absurd (omega arith);
  unit_of_blocks_alone = λ h. refl;
  address_fits = omega arith;
  address_of_blocks_alone = λ h. refl;
  number_given = (some, number);
  group_not_long = (omega arith, omega arith);
  index_in_group = omega arith;
  mark_alone = λ h. (refl, refl);
  frontier_fits = records;
}

pub mark_cell : (m : Mark) → NumbersFit m.numbers → ((f : Fence) → m.fence ≡ Some f → IsFence f) → 1 ≤ m.number →
    m.number ≤ greatest_number → m.records ≤ greatest_number → IsCell (page_of (MarkPage m)) (MarkPage m)
mark_cell m fit fence some number records = (
  mark_bytes m.numbers m.fence,
  record {
    tag_right = mark_is_tag m some number records;
    body_right = mark_is_block m.fence fit;
    sealed = seals (mark_tag m) (mark_bytes m.numbers m.fence);
  },
  record { fence_right = fence; numbers_fit = fit; bytes = refl },
)

-- Torn pages
