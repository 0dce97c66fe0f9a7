-- The list of an UNMAP came: what is decided of it is kept of the state behind it.
use Rattle.device.proofs.Common.{Answering, AreBytes, Bool, Core, Deed, Describes, DeviceCore, ForUnmap, Good, IsOfList}
use Rattle.device.proofs.Common.{Keeps, List, Sense, Some, State, TaskEvent, UnitSpec, Wanted, accepts, ap, arith}
use Rattle.device.proofs.Common.{before_accepted, claim_of, claims_of, data_heard, data_key, ends_with_status, false}
use Rattle.device.proofs.Common.{if_false, if◌then◌else◌, le-ltb, length, locked, nat_lt, not, numbers_of, out_of_range}
use Rattle.device.proofs.Common.{refl, subst, sym, task_of, true, unit_numbers_at, write_error, ℕ, ◌==◌, ◌∙◌, ◌≡◌}
use Rattle.std.specs.Prelude.{None, Option}
use Rattle.ufs_bytes.specs.Fields.{field_at}
use Rattle.ufs_spec.proofs.Facts.{not-false}
use Rattle.ufs_spec.specs.Changes.{set_deed}
use Rattle.ufs_spec.specs.Commands as command
use Rattle.ufs_spec.specs.DataOuts.{data_for, has_list_header, is_past_unit, is_wrong_descriptor, unmap_accepted}
use Rattle.ufs_spec.specs.DataOuts.{unmap_complete}
use Rattle.ufs_spec.specs.Exchanges.{sense}
use Rattle.ufs_spec.specs.declared.exchanges.Status.TheVariants.{CheckCondition}
use Rattle.scsi_cdb.specs.declared.unmap_list.UnmapList.{UnmapList}
use Rattle.task_set.specs.declared.tasks.Phase.TheVariants as phase
use Rattle.ufs_spec.specs.declared.exchanges.Status.TheVariants as status
use Rattle.task_set.specs.declared.tasks.TaskEvent.TheVariants as event
use Rattle.device.proofs.open_tasks.WantedData.{Gathers}
use Rattle.device.specs.Unmaps.{HasListCome, HasUnmapped, is_past, unmapping_in, unmapping_of}
use Rattle.device.specs.declared.unmap.Unmapping.{Unmapping}
use Rattle.device.specs.declared.unmap.Unmapping.TheVariants as does
use Rattle.device.proofs.host_messages.BlocksGathered.{core_then}
use Rattle.device.proofs.host_messages.ListsGathered.{ListCame, ended_keeps, gathers_its, gathers_list}
use Rattle.device.proofs.host_messages.ZerosAccepted.{zeroed_keeps}
use Rattle.device.proofs.open_tasks.OpenTasks.{Stands}

-- both sides ask the same
both_cases : {A B : Type 0} (P : A → B → Type 0) (b : Bool) {x y : A} {u v : B} → (b ≡ true → P x u) →
    (b ≡ false → P y v) → P (if b then x else y) (if b then u else v)
both_cases P true h k = h refl
both_cases P false h k = k refl

-- the descriptor names a block past the unit on both sides, or on neither
same_past : (list : List ℕ) (u : Option UnitSpec) →
    is_past u (field_at 8 8 list) (field_at 4 16 list) ≡ is_past_unit list u
same_past list None = refl
same_past list (Some u) = refl

module _ {d : DeviceCore} {s : State} {tag : ℕ} {list : List ℕ} (c : ListCame d s tag list) (layer : Core)
    (e : TaskEvent) where
  -- what the device makes of the list is kept of what the specified one makes of it
  abbrev IsSame : Unmapping → State → Type 0
  IsSame done behind =
      HasUnmapped layer s.translation (claims_of (numbers_of s) s.tasks) tag done e → Keeps (core_then d c.stands.k layer e) behind

  -- the list is refused
  refused : (why : Sense) → IsSame (does.Refused why) (ends_with_status s c.stands.b (CheckCondition why))
  refused why did =
      subst
      (λ (y : TaskEvent). Keeps (core_then d c.stands.k layer y)
      (ends_with_status s c.stands.b (CheckCondition why)))
      (sym did.0)
      (ended_keeps c (event.DataRefused why) (status.CheckCondition why)
      (record { phase_is = refl; frames_stay = refl; block_stays = refl }) layer did.1)

  -- it names no block
  nothing : IsSame does.Nothing (ends_with_status s c.stands.b Good)
  nothing did =
      subst
      (λ (y : TaskEvent). Keeps (core_then d c.stands.k layer y) (ends_with_status s c.stands.b Good))
      (sym did.0)
      (ended_keeps c event.DataTaken status.Good
      (record { phase_is = refl; frames_stay = refl; block_stays = refl }) layer did.1)

  abbrev address : ℕ
  address = field_at 8 8 list

  abbrev count : ℕ
  count = field_at 4 16 list

  abbrev unit_there : Option UnitSpec
  unit_there = unit_numbers_at (numbers_of s) (Some c.unit)

  -- its descriptor is right
  abbrev right : Unmapping
  right =
      if count == 0 then does.Nothing
      else if locked s then does.Refused write_error
      else does.Blocks (data_key c.unit address) count

  right_same : has_list_header list ≡ true → (length list == 8) ≡ false →
      is_wrong_descriptor (numbers_of s) list ≡ false → is_past_unit list unit_there ≡ false →
      IsSame right (unmap_accepted s c.stands.b c.unit address count)
  right_same header size descriptor within =
      both_cases IsSame (count == 0) (λ none. nothing)
      (λ some. both_cases IsSame (locked s) (λ lock. refused write_error)
      (λ free did.
      subst
      (λ (y : TaskEvent). Keeps (core_then d c.stands.k layer y)
      (set_deed
      (accepts s (command.Zero c.unit address count) (claim_of (numbers_of s) c.stands.b))
      c.stands.b.tag (Answering Good c.stands.b.length)))
      (sym did.0)
      (zeroed_keeps c
      (record { header = header; size = size; descriptor = descriptor; within = within; some = some }) free layer
      did.1)))

  -- so it is by what the list says
  abbrev IsSameOf : UnmapList → State → Type 0
  IsSameOf said = IsSame (unmapping_of s.translation c.unit said)

  list_same : IsSame (unmapping_in s.translation c.unit list) (unmap_complete s c.stands.b c.unit list)
  list_same =
      both_cases IsSameOf (not (has_list_header list)) (λ wrong. refused (sense 0x05 0x26))
      (λ header. both_cases IsSameOf (length list == 8) (λ alone. nothing)
      (λ size. both_cases IsSameOf (is_wrong_descriptor (numbers_of s) list) (λ wrong. refused (sense 0x05 0x26))
      (λ descriptor.
      subst
      (λ (past : Bool). IsSame
      (if past then does.Refused (sense 0x05 0x21) else right)
      (if is_past_unit list unit_there then ends_with_status s c.stands.b out_of_range
      else unmap_accepted s c.stands.b c.unit address count))
      (sym (same_past list unit_there))
      (both_cases IsSame (is_past_unit list unit_there) (λ past. refused (sense 0x05 0x21))
      (λ within. right_same (not-false _ header) size descriptor within)))))

-- the list is all there
complete_is : {d : DeviceCore} {s : State} {tag : ℕ} {list : List ℕ} (c : ListCame d s tag list) →
    data_heard s (task_of tag s.tasks) list ≡ unmap_complete s c.stands.b c.unit list
complete_is {d} {s} {tag} {list} c =
    ap (λ o. data_heard s o list) c.stands.found
    ∙ (ap (λ (deed : Deed). data_for s c.stands.b deed list) c.gathers.deed_is
    ∙ if_false (nat_lt (length list) c.stands.b.length) _ _ all_came)
  where
    all_came : nat_lt (length list) c.stands.b.length ≡ false
    all_came =
        le-ltb (length list) c.stands.b.length (let total = c.gathers.total_is in let long = c.long in omega arith)

pub list_keeps : (d come : DeviceCore) (s : State) (tag : ℕ) (list : List ℕ) (unit : ℕ) (w : Wanted) →
    Describes d s → (r : Stands (before_accepted s.translation.ledger) tag d.tasks s.tasks) →
    r.a.phase ≡ phase.Await w → w.purpose ≡ ForUnmap unit → Gathers w r.b.length r.b.deed →
    length list ≡ w.length → AreBytes list → HasListCome d come tag r.k unit list →
    Keeps come (data_heard s (task_of tag s.tasks) list)
list_keeps d come s tag list unit w h r at is g long are did =
    subst (λ (y : DeviceCore). Keeps y (data_heard s (task_of tag s.tasks) list)) (sym did.after_is)
    (subst (Keeps (core_then d r.k did.layer did.event)) (sym (complete_is came))
    (list_same came did.layer did.event
    (did.unmapped s.translation (claims_of (numbers_of s) s.tasks) (h.kept.layer_kept, h.kept.claims)
    (gathers_its came).fits.unit_in (subst IsOfList (sym long) came.gathers.of_list))))
  where
    came : ListCame d s tag list
    came = record {
      described = h;
      stands = r;
      unit = unit;
      wanted = w;
      awaits = at;
      purpose_is = is;
      gathers = gathers_list unit w r.b.length r.b.deed is g;
      long = long;
      are_bytes = are;
    }
