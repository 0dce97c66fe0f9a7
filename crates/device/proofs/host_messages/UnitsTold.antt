-- A command that tells of the device begins a task that keeps what it tells.
use Rattle.device.proofs.Common.{Bool, Cdb, Core, Describes, DeviceCore, IsNamed, IsTied, List, None, Numbers, Ok}
use Rattle.device.proofs.Common.{Option, Phase, Plan, Request, Result, Some, State, Status, UnitSpec, [], ap, arith}
use Rattle.device.proofs.Common.{below, data_begun, false, flat_map, if◌then◌else◌, length, length-append, length-take}
use Rattle.device.proofs.Common.{min, most_tasks, numbers_of, refl, sends_frames, spelled_cdb, subst, sym, take}
use Rattle.device.proofs.Common.{target_of, task_of, true, unit_numbers_of, units_listed, with_zeros, ℕ, ◌++◌, ◌<◌, ◌∙◌}
use Rattle.device.proofs.Common.{◌∷◌, ◌≡◌, ◌≤◌}
use Rattle.std.specs.Prelude.{map, ◌*◌, ◌+◌, ◌==◌}
use Rattle.byteorder.specs.Endian.{big_bytes}
use Rattle.std.proofs.lemmas.List.{take_min}
use Rattle.std.proofs.lemmas.List.Concat.{flat_map-cons}
use Rattle.ufs_spec.proofs.ConfigFacts.{config_tests, ranges}
use Rattle.ufs_spec.specs.Begins.{capacity_bytes, told_bytes}
use Rattle.ufs_spec.specs.Refusals.{told_length}
use Rattle.ufs_spec.specs.Identities.{long_capacity_bytes, luns_bytes, luns_listed, unit_entry}
use Rattle.ufs_spec.specs.Messages.{zeros}
use Rattle.ufs_spec.specs.declared.operations.Told.{Told}
use Rattle.ufs_spec.specs.declared.operations.Told.TheVariants as told
use Rattle.ufs_spec.specs.declared.scsi.Cdb.TheVariants as cdb
use Rattle.ufs_laws.proofs.exchanges.ListedUnits.{luns_size}
use Rattle.ufs_laws.proofs.exchanges.ToldPages.{commands_told}
use Rattle.lun_route.proofs.Listed.{listed_count}
use Rattle.lun_route.proofs.ToldLengths.{modes_fit, modes_length, page_fits, short_modes_fit, short_modes_length}
use Rattle.device.specs.declared.plans.Identity.{Identity}
use Rattle.device.specs.Frames.{capacity_told, identity_bytes, long_capacity_told}
use Rattle.device.specs.Plans.{identity_of, length_on, send_plan}
use Rattle.device.specs.declared.plans.Source.TheVariants as source
use Rattle.device.specs.Targets.{blocks_in}
use Rattle.device.proofs.described.Answered.{IsBehind}
use Rattle.device.proofs.host_messages.HeldBegins.{core_keeping, held_begins, last_held}
use Rattle.device.proofs.host_messages.TasksBegin.{HasBegunFor, opened_for}
use Rattle.device.proofs.host_messages.UnitsThere.{reads_there}

-- How many bytes they tell

-- each entry has eight bytes
abbrev AreEntries : List (List ℕ) → Type 0
AreEntries [] = Unit {0}
AreEntries (e ∷ es) = (length e ≡ 8) × AreEntries es

entries_append : (xs ys : List (List ℕ)) → AreEntries xs → AreEntries ys → AreEntries (xs ++ ys)
entries_append [] ys h k = k
entries_append (x ∷ xs) ys h k = (h.0, entries_append xs ys h.1 k)

entries_of : (high : ℕ) (units : List ℕ) → AreEntries (map (unit_entry high) units)
entries_of high [] = tt
entries_of high (u ∷ us) = (refl, entries_of high us)

joined_size : (es : List (List ℕ)) → AreEntries es → length (flat_map (λ (e : List ℕ). e) es) ≡ 8 * length es
joined_size [] h = refl
joined_size (e ∷ es) h =
    let rest = joined_size es h.1 in
    let first = h.0 in
    let both = length-append e (flat_map (λ (x : List ℕ). x) es) in
    ap length (flat_map-cons (λ (x : List ℕ). x) e es) ∙ omega arith

listed : (n : Numbers) (select : ℕ) → AreEntries (luns_listed n select)
listed n select =
    entries_append (if select == 1 then [] else map (unit_entry 0x00) (below (length n.units.items)))
    (if select == 0 then [] else map (unit_entry 0xC1) (0x01 ∷ 0x30 ∷ 0x44 ∷ 0x50 ∷ []))
    (if_entries (select == 1) 0x00 (below (length n.units.items)))
    (if_entries (select == 0) 0xC1 (0x01 ∷ 0x30 ∷ 0x44 ∷ 0x50 ∷ []))
  where
    if_entries : (b : Bool) (high : ℕ) (units : List ℕ) → AreEntries (if b then [] else map (unit_entry high) units)
    if_entries true high units = tt
    if_entries false high units = entries_of high units

pub luns_length : (n : Numbers) (select allocation : ℕ) →
    length (luns_bytes n select) ≡ 8 + 8 * units_listed n (cdb.Tell told.Units select allocation)
luns_length n select allocation =
    let list : List ℕ = flat_map (λ (e : List ℕ). e) (luns_listed n select) in
    let count = listed_count n select allocation in
    let size = joined_size (luns_listed n select) (listed n select) in
    let behind = length-append (zeros 4) list in
    let all = length-append (big_bytes 4 (8 * length (luns_listed n select))) (zeros 4 ++ list) in
    omega arith

few_luns : (s : State) → IsTied s → (select : ℕ) → length (luns_bytes (numbers_of s) select) ≤ 4096
few_luns s v select =
    let few = (ranges (numbers_of s) (config_tests (numbers_of s) v.config).0).units_bound in
    let size = luns_size (numbers_of s) select (omega arith) in
    omega arith

module _ (d : DeviceCore) (s : State) (r : Request) (h : Describes d s) (free : task_of r.tag s.tasks ≡ None)
    (few : length s.tasks < most_tasks) (after : Core) where
  abbrev Begins : Result Plan Status → Phase → Type 0
  Begins todo p = HasBegunFor s r after todo p

  abbrev Opens : Result Plan Status → Phase → State → Type 0
  Opens todo p v = IsBehind (opened_for d r after todo p) v

  -- what is told is told of the configuration of the state
  tells_begins : (command : Cdb) (told : Identity) (allocation size : ℕ) (p : Phase) →
      sends_frames (Some command) ≡ false → length (identity_bytes (numbers_of s) told) ≤ 4096 →
      size ≡ min allocation (length (identity_bytes (numbers_of s) told)) →
      Begins (Ok (send_plan r.expected (source.Identity told) size)) p →
      Opens (Ok (send_plan r.expected (source.Identity told) size)) p
      (data_begun s r command (take allocation (identity_bytes (numbers_of s) told)))
  tells_begins command told allocation size p quiet short size_is begun =
      subst (λ (x : DeviceCore). IsBehind x (data_begun s r command bytes))
      (sym (last_held d r after p (with_zeros (identity_bytes d.ftl.numbers told))
      ∙ (λ i. core_keeping d r after (begun.0 i) (with_zeros (identity_bytes (same i) told)))))
      (held_begins d s r h free few after command all bytes size short first long quiet begun.1)
    where
      same : d.ftl.numbers ≡ numbers_of s
      same = h.kept.layer_kept.kept.numbers

      all : List ℕ
      all = identity_bytes (numbers_of s) told

      bytes : List ℕ
      bytes = take allocation all

      first : take size all ≡ bytes
      first = ap (λ (n : ℕ). take n all) size_is ∙ take_min allocation all

      long : length bytes ≡ size
      long = length-take allocation all ∙ sym size_is

  -- what is told of the unit of the request
  abbrev its_identity : Told → ℕ → Identity
  its_identity what select = identity_of (target_of s r) what select

  -- how many blocks the unit has that is there
  capacity_same : (o : Option UnitSpec) → (u : UnitSpec) × (o ≡ Some u) → capacity_told (blocks_in o) ≡ capacity_bytes o
  capacity_same (Some u) there = refl
  capacity_same None there = absurd (none there.0 there.1)
    where
      none : (u : UnitSpec) → None ≡ Some u → ⊥
      none u k = cc

  long_capacity_same : (o : Option UnitSpec) → (u : UnitSpec) × (o ≡ Some u) →
      long_capacity_told (blocks_in o) ≡ long_capacity_bytes o
  long_capacity_same (Some u) there = refl
  long_capacity_same None there = absurd (none there.0 there.1)
    where
      none : (u : UnitSpec) → None ≡ Some u → ⊥
      none u k = cc

  -- is what the command tells
  told_same : (what : Told) (select allocation : ℕ) → IsNamed s r →
      spelled_cdb r.bytes ≡ Some (cdb.Tell what select allocation) →
      identity_bytes (numbers_of s) (its_identity what select) ≡ told_bytes s r what select
  told_same told.Sense select allocation named spells = refl
  told_same told.Identity select allocation named spells = refl
  told_same told.Capacity select allocation named spells =
      capacity_same (unit_numbers_of s r)
      (reads_there s r (cdb.Tell told.Capacity select allocation) named spells refl)
  told_same told.Units select allocation named spells = refl
  told_same told.LongCapacity select allocation named spells =
      long_capacity_same (unit_numbers_of s r)
      (reads_there s r (cdb.Tell told.LongCapacity select allocation) named spells refl)
  told_same told.Page select allocation named spells = refl
  told_same told.Modes select allocation named spells = refl
  told_same told.ShortModes select allocation named spells = refl
  told_same told.Operations select allocation named spells = refl

  -- as long as it is said to be, and no longer than a block
  told_size : (what : Told) (select : ℕ) →
      (length (identity_bytes (numbers_of s) (its_identity what select)) ≡ told_length (numbers_of s) r.lun what select)
      × (length (identity_bytes (numbers_of s) (its_identity what select)) ≤ 4096)
  told_size told.Sense select = (refl, omega arith)
  told_size told.Identity select = (refl, omega arith)
  told_size told.Capacity select = (refl, omega arith)
  told_size told.Units select = (luns_length (numbers_of s) select 0, few_luns s h.tied select)
  told_size told.LongCapacity select = (refl, omega arith)
  told_size told.Page select = (refl, page_fits (numbers_of s) r.lun select)
  told_size told.Modes select =
      (modes_length select (target_of s r).is_guarded, modes_fit select (target_of s r).is_guarded)
  told_size told.ShortModes select =
      (short_modes_length select (target_of s r).is_guarded, short_modes_fit select (target_of s r).is_guarded)
  told_size told.Operations select = let few = (commands_told select).0 in (refl, omega (arith, few))

  pub tell_begins : (what : Told) (select allocation : ℕ) (p : Phase) → IsNamed s r →
      spelled_cdb r.bytes ≡ Some (cdb.Tell what select allocation) →
      Begins
      (Ok (send_plan r.expected (source.Identity (its_identity what select))
      (length_on (numbers_of s) r.lun (cdb.Tell what select allocation)))) p →
      Opens
      (Ok (send_plan r.expected (source.Identity (its_identity what select))
      (length_on (numbers_of s) r.lun (cdb.Tell what select allocation)))) p
      (data_begun s r (cdb.Tell what select allocation) (take allocation (told_bytes s r what select)))
  tell_begins what select allocation p named spells begun =
      let size = told_size what select in
      subst (λ (bytes : List ℕ). Opens (Ok (send_plan r.expected (source.Identity (its_identity what select))
      (length_on (numbers_of s) r.lun (cdb.Tell what select allocation)))) p
      (data_begun s r (cdb.Tell what select allocation) (take allocation bytes)))
      (told_same what select allocation named spells)
      (tells_begins (cdb.Tell what select allocation) (its_identity what select) allocation
      (length_on (numbers_of s) r.lun (cdb.Tell what select allocation)) p refl size.1 (ap (min allocation) (sym size.0)) begun)
