-- How a command begins: in one of few ways, for a reason. A law of it is a case for each way (`begins_by`), so that a
-- new command adds its lines here. What comes of it once all its data are there is told in WaysOfData.
use Rattle.ufs_laws.proofs.Common.{Answering, Awaiting, Bool, Cdb, Claim, ForFrames, ForUnmap, ForWrite, Gathering}
use Rattle.ufs_laws.proofs.Common.{Good, List, Numbers, Purpose, Request, Some, State, Task, [], and_parts, arith}
use Rattle.ufs_laws.proofs.Common.{begun, command_blocks, data_begun, eqb-true, false, false≢true, has_wrong_list}
use Rattle.ufs_laws.proofs.Common.{if_both, if_cases, if◌then◌else◌, is_among, is_too_long, kind_of, leb-true, length}
use Rattle.ufs_laws.proofs.Common.{mended, nat_le, nat_lt, not, not-false, numbers_of, read_begun, refl, suc, take}
use Rattle.ufs_laws.proofs.Common.{true, with_moves, with_task, zero, ℕ, ◌*◌, ◌++◌, ◌<◌, ◌==◌, ◌^◌, ◌||◌, ◌∷◌, ◌≡◌, ◌≢◌}
use Rattle.ufs_laws.proofs.Common.{◌≤◌}
use Rattle.std.proofs.Math.Nat.{div-add-mod}
use Rattle.ufs_spec.proofs.Facts.{eqb-false, ltb-false}
use Rattle.ufs_spec.specs.Exchanges.{Comparing, ReadingArea}
use Rattle.ufs_spec.specs.Machine.{read_blocks}
use Rattle.ufs_spec.specs.Begins.{keeps, keeps_wanted, expected_of_write, frames_begun, told_bytes, volatile_told, write_begun}
use Rattle.ufs_spec.specs.Cdbs.{address_of, blocks_of}
use Rattle.ufs_spec.specs.Machine.{flush_begun}
use Rattle.ufs_spec.specs.Exchanges.{to_gather}
use Rattle.ufs_spec.specs.Refusals.{blocks_brought, brought, is_frames, needs_mended, slots_needed}
use Rattle.ufs_spec.specs.declared.operations.Kind.TheVariants as kind
use Rattle.ufs_spec.specs.declared.operations.Told.{Told}
use Rattle.ufs_spec.specs.declared.scsi.Cdb.TheVariants as cdb
use Rattle.ufs_spec.specs.declared.volatile.Volatile.{Volatile}

pub data Beginning : Type 0 where
  -- it is answered GOOD, of n bytes of which so many count as expected; or it waits for all that is accepted
  Answered : (expected n : ℕ) → Beginning
  Waiting : Beginning
  -- it sends these data, and leaves so what is volatile; or the frames that wait in a region
  Telling : (volatile : Volatile) → (bytes : List ℕ) → Beginning
  Handing : (region n : ℕ) → Beginning
  -- it reads so many bytes of blocks to send them, or so many blocks to look whether they can be read, or to compare them
  Reading : (unit address n : ℕ) → Beginning
  Verifying : (unit address n : ℕ) → Beginning
  Checking : (unit address n : ℕ) → Beginning
  -- it gathers data, of n bytes of which so many count as expected, in slots that it claims
  Gathered : (expected count : ℕ) → (purpose : Purpose) → (n : ℕ) → Beginning

-- the request, of which so many bytes count as expected
abbrev pub expecting : Request → ℕ → Request
expecting r expected = record r { expected = expected }

abbrev pub begun_as : State → Request → Cdb → Beginning → State
begun_as s r c (Answered expected n) = with_task s (expecting r expected) (Some (brought r.expected c)) n (Answering Good n)
begun_as s r c Waiting = with_task s r (Some (brought r.expected c)) 0 (Awaiting (length s.accepted))
begun_as s r c (Telling volatile bytes) = data_begun (record s { volatile = volatile }) r (brought r.expected c) bytes
begun_as s r c (Handing region n) = frames_begun s r region n
begun_as s r c (Reading unit address n) = read_begun s r (brought r.expected c) unit address n
begun_as s r c (Verifying unit address n) =
    with_task (with_moves s (keeps_wanted s r.tag unit address n)) r (Some (brought r.expected c)) 0
    (ReadingArea (read_blocks s unit address n))
begun_as s r c (Checking unit address n) =
    with_task (with_moves s (keeps s r.tag unit address n)) r (Some (brought r.expected c)) (4096 * n)
    (Comparing (read_blocks s unit address n) 0 false)
begun_as s r c (Gathered expected count purpose n) =
    with_task (with_moves s (Claim count ∷ [])) (expecting r expected) (Some (brought r.expected c)) n
    (Gathering purpose [] false)

-- data that are known at the COMMAND
pub record IsTold (s : State) (r : Request) (volatile : Volatile) (bytes : List ℕ) : Type 0 where
  pub what : Told
  pub select : ℕ
  pub allocation : ℕ
  pub is : bytes ≡ take allocation (told_bytes s r what select)
  pub leaves : volatile ≡ volatile_told s r what

-- what a WRITE gathers: the blocks of its that come, each in a slot
pub record IsWritten (n : Numbers) (unit : ℕ) (r : Request) (c : Cdb) (count u address blocks total : ℕ) : Type 0 where
  pub unit_is : u ≡ unit
  pub address_is : address ≡ address_of c
  pub blocks_are : blocks ≡ count
  pub total_is : total ≡ 4096 * blocks_of c
  pub some : 0 < count
  pub few : count ≤ blocks_of c
  pub those : blocks_of (brought r.expected c) ≡ count
  pub same_address : address_of (brought r.expected c) ≡ address_of c
  pub writes : kind_of c ≡ kind.Write
  pub still_writes : kind_of (brought r.expected c) ≡ kind.Write
  pub long : is_too_long n c ≡ nat_lt (command_blocks n) (blocks_of c)

-- what each command gathers that takes data: a WRITE its blocks, an UNMAP its list, a SECURITY PROTOCOL OUT its frames
abbrev pub IsGathered : Numbers → ℕ → Request → Cdb → ℕ → Purpose → ℕ → Type 0
IsGathered n unit r c count (ForWrite u address blocks forced) total = IsWritten n unit r c count u address blocks total
IsGathered n unit r c count (ForUnmap u) total = (u ≡ unit) × (c ≡ cdb.Unmap total)
IsGathered n unit r c count (ForFrames region) total = c ≡ cdb.SecurityOut region total

abbrev pub WhyBegun : State → Request → ℕ → Cdb → Beginning → Type 0
WhyBegun s r unit c (Answered expected n) =
    (expected ≤ r.expected) × (is_too_long (numbers_of s) c ≡ false → n < 2 ^ 32)
WhyBegun s r unit c Waiting = mended s ≡ true
WhyBegun s r unit c (Telling volatile bytes) = IsTold s r volatile bytes
WhyBegun s r unit c (Handing region n) = c ≡ cdb.SecurityIn region n
WhyBegun s r unit c (Reading u address n) =
    (u ≡ unit) × (address ≡ address_of c) × (n ≡ blocks_of c * 4096)
    × (kind_of c ≡ kind.Read)
WhyBegun s r unit c (Verifying u address n) =
    (u ≡ unit) × (address ≡ address_of c) × (n ≡ blocks_of c) × (kind_of c ≡ kind.Verify) × (0 < n)
WhyBegun s r unit c (Checking u address n) = (u ≡ unit) × (c ≡ cdb.Verify address n true) × (0 < n)
WhyBegun s r unit c (Gathered expected count purpose n) =
    (slots_needed (numbers_of s) (brought r.expected c) ≡ count) × (is_too_long (numbers_of s) c ≡ false → 0 < to_gather purpose n)
    × (is_too_long (numbers_of s) c ≡ false → has_wrong_list c ≡ false → n < 2 ^ 32)
    × (needs_mended c ≡ true) × IsGathered (numbers_of s) unit r c count purpose n × (expected ≤ r.expected)
    × (to_gather purpose n ≤ n)

-- ## The walk

some_blocks : (n : ℕ) → (n == 0) ≡ false → 0 < 4096 * n
some_blocks n e = by n (eqb-false n 0 e)
  where
    by : (n : ℕ) → n ≢ 0 → 0 < 4096 * n
    by zero h = absurd (h refl)
    by (suc n) h = omega arith

more_than_none : (n : ℕ) → n ≢ 0 → 0 < n
more_than_none zero h = absurd (h refl)
more_than_none (suc n) h = omega arith

-- a length that is that of frames is not none
some_frames : (region n : ℕ) → not (is_frames n) ≡ false → 0 < n
some_frames region n e =
    let some = leb-true 512 n (and_parts (nat_le 512 n) _ (and_parts _ _ (not-false (is_frames n) e)).0).0 in
    omega arith

-- and at most 4096 bytes
few_frames : (n : ℕ) → not (is_frames n) ≡ false → n < 2 ^ 32
few_frames n e =
    let most = leb-true n 4096 (and_parts (nat_le 512 n) _ (and_parts _ _ (not-false (is_frames n) e)).0).1 in
    omega arith

-- a command may have few blocks
few_blocks : (n : Numbers) (blocks : ℕ) → nat_lt (command_blocks n) blocks ≡ false → blocks ≤ 128
few_blocks n blocks e =
    let most : command_blocks n ≤ 128 = if_both (λ m. m ≤ 128) (nat_le 256 n.slots) (omega arith) (omega arith) in
    let low = ltb-false (command_blocks n) blocks e in
    omega arith

-- a command that is not too long has few blocks
pub command_few : (n : Numbers) (c : Cdb) → is_too_long n c ≡ false → blocks_of c ≤ 128
command_few n (cdb.Read address blocks) e = few_blocks n blocks e
command_few n (cdb.Write address blocks forced) e = few_blocks n blocks e
command_few n (cdb.Verify address blocks compared) e = few_blocks n blocks e
command_few n c e = omega arith

-- an UNMAP's list is short
few_listed : (list : ℕ) → not (is_among (0 ∷ 8 ∷ 24 ∷ []) list) ≡ false → list < 2 ^ 32
few_listed list e = by (list == 0) (list == 8) (list == 24) refl refl refl (not-false _ e)
  where
    by : (a b c : Bool) → (list == 0) ≡ a → (list == 8) ≡ b → (list == 24) ≡ c → (a || (b || (c || false))) ≡ true →
        list < 2 ^ 32
    by true b c f g h k = let is = eqb-true list 0 f in omega arith
    by false true c f g h k = let is = eqb-true list 8 g in omega arith
    by false false true f g h k = let is = eqb-true list 24 h in omega arith
    by false false false f g h k = absurd (false≢true k)

module _ (P : State → Type 0) (s : State) (r : Request) (unit : ℕ) where
  -- each way that has its reason
  abbrev Each : Cdb → Type 0
  Each c = (b : Beginning) → WhyBegun s r unit c b → P (begun_as s r c b)

  good_by : (c : Cdb) → Each c → P (with_task s r (Some (brought r.expected c)) 0 (Answering Good 0))
  good_by c each = each (Answered r.expected 0) (omega arith, λ short. omega arith)

  flush_by : (immediate : Bool) → Each (cdb.Flush immediate) → P (flush_begun s r (cdb.Flush immediate) immediate)
  flush_by true each = good_by (cdb.Flush true) each
  flush_by false each = by (mended s) refl
    where
      by : (b : Bool) → mended s ≡ b →
          P (with_task s r (Some (cdb.Flush false)) 0 (if not b then Answering Good 0 else Awaiting (length s.accepted)))
      by true e = each Waiting e
      by false e = good_by (cdb.Flush false) each

  good_unmap : (list : ℕ) → (list == 0) ≡ true → Each (cdb.Unmap list) →
      P (with_task s r (Some (cdb.Unmap list)) 0 (Answering Good 0))
  good_unmap list none each = good_by (cdb.Unmap list) each

  -- no more counts as expected than the host said
  less_counts : (expected n : ℕ) → expected_of_write expected n ≤ expected
  less_counts expected n =
      if_both (λ (m : ℕ). m ≤ expected) (nat_lt expected n)
      (let part = div-add-mod expected 4096 in omega arith) (omega arith)

  write_by : (address blocks : ℕ) (forced : Bool) → Each (cdb.Write address blocks forced) →
      P (write_begun s r unit address (blocks_brought r.expected blocks) forced (4096 * blocks))
  write_by address blocks forced each =
      let counts = less_counts r.expected (4096 * blocks) in
      let fewer : blocks_brought r.expected blocks ≤ blocks = grind arith in
      if_cases P (blocks_brought r.expected blocks == 0)
      (λ none. each (Answered (expected_of_write r.expected (4096 * blocks)) (4096 * blocks))
      (counts, λ short. (let few = few_blocks (numbers_of s) blocks short in omega arith)))
      (λ some. each
      (Gathered (expected_of_write r.expected (4096 * blocks)) (blocks_brought r.expected blocks)
      (ForWrite unit address (blocks_brought r.expected blocks) forced) (4096 * blocks)) (
        refl,
        (λ short. some_blocks _ some),
        (λ short listed. let few = few_blocks (numbers_of s) blocks short in omega arith),
        refl,
        record {
          unit_is = refl;
          address_is = refl;
          blocks_are = refl;
          total_is = refl;
          some = more_than_none _ (eqb-false _ 0 some);
          few = fewer;
          those = refl;
          same_address = refl;
          writes = refl;
          still_writes = refl;
          long = refl;
        },
        counts,
        omega arith,
      ))

  pub begins_by : (c : Cdb) → Each c → P (begun s r unit c)
  begins_by cdb.Nothing each = good_by cdb.Nothing each
  begins_by (cdb.Tell what select allocation) each =
      each (Telling _ _)
      (record { what = what; select = select; allocation = allocation; is = refl; leaves = refl })
  begins_by (cdb.Read address blocks) each = each (Reading unit address _) (refl, refl, omega arith, refl)
  begins_by (cdb.Write address blocks forced) each = write_by address blocks forced each
  begins_by (cdb.Verify address blocks true) each =
      if_cases P (blocks == 0) (λ none. good_by (cdb.Verify address blocks true) each)
      (λ some. each (Checking unit address blocks) (refl, refl, more_than_none blocks (eqb-false blocks 0 some)))
  begins_by (cdb.Verify address blocks false) each =
      if_cases P (blocks == 0) (λ none. good_by (cdb.Verify address blocks false) each)
      (λ some. each (Verifying unit address blocks)
      (refl, refl, refl, refl, more_than_none blocks (eqb-false blocks 0 some)))
  begins_by (cdb.Prefetch address blocks) each = good_by (cdb.Prefetch address blocks) each
  begins_by (cdb.Diagnose tests) each = good_by (cdb.Diagnose tests) each
  begins_by (cdb.Flush immediate) each = flush_by immediate each
  begins_by (cdb.Unmap list) each =
      if_cases P (list == 0) (λ none. good_unmap list none each)
      (λ some. each (Gathered r.expected (slots_needed (numbers_of s) (cdb.Unmap list)) (ForUnmap unit) list) (
        refl,
        (λ short. more_than_none list (eqb-false list 0 some)),
        (λ short listed. few_listed list listed),
        refl,
        (refl, refl),
        omega arith,
        omega arith,
      ))
  begins_by (cdb.SecurityIn region n) each = each (Handing region n) refl
  begins_by (cdb.SecurityOut region n) each =
      each (Gathered r.expected (slots_needed (numbers_of s) (cdb.SecurityOut region n)) (ForFrames region) n) (
        refl,
        some_frames region n,
        (λ short listed. few_frames n short),
        refl,
        refl,
        omega arith,
        omega arith,
      )

-- each opens one task, of the request's tag
pub beginning_opens : (s : State) (r : Request) (c : Cdb) (b : Beginning) →
    (task : Task) × ((begun_as s r c b).tasks ≡ s.tasks ++ task ∷ []) × (task.tag ≡ r.tag)
beginning_opens s r c (Answered expected n) = (_, refl, refl)
beginning_opens s r c b = (_, refl, refl)
