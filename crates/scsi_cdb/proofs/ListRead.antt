-- What UNMAP's list says, by what was found of it.
use Rattle.std.proofs.Common.{◌≡◌, ◌∙◌, ◌+◌, ◌==◌, ℕ, nat_lt, Bool, true, false, not, cond, if◌then◌else◌, List}
use Rattle.std.proofs.Common.{length, Option, None, Some, refl, ap}
use Rattle.std.proofs.lemmas.Bool.{ne_eqb}
use Rattle.ufs_bytes.specs.Fields.{field_at}
use Rattle.ufs_spec.proofs.Facts.{true≢false, false≢true}
use Rattle.ufs_spec.specs.Changes.{ends_with_status}
use Rattle.ufs_spec.specs.DataOuts.{has_list_header, is_past_unit, is_wrong_descriptor, unmap_accepted, unmap_complete}
use Rattle.ufs_spec.specs.Exchanges.{Task, invalid_list_field, out_of_range}
use Rattle.ufs_spec.specs.declared.exchanges.Status.TheVariants.{Good}
use Rattle.ufs_spec.specs.Refusals.{State, numbers_of, unit_numbers_at}
use Rattle.ufs_spec.specs.declared.configs.Numbers.{Numbers}
use Rattle.ufs_spec.specs.declared.configs.UnitSpec.{UnitSpec}
use Rattle.scsi_cdb.specs.Lists.{list_read}
use Rattle.scsi_cdb.specs.declared.unmap_list.UnmapList.{UnmapList}
use Rattle.scsi_cdb.specs.declared.unmap_list.UnmapList.TheVariants.{Descriptor, HeaderOnly, Malformed}

-- with a right header and a descriptor, the descriptor alone decides
behind : (header short wrong : Bool) (d : UnmapList) → header ≡ true → short ≡ false →
    cond wrong Malformed d ≡ cond (not header) Malformed (cond short HeaderOnly (cond wrong Malformed d))
behind true false wrong d h s = refl
behind true true wrong d h s = absurd (true≢false s)
behind false short wrong d h s = absurd (false≢true h)

pub descriptor_decides : (n : Numbers) (list : List ℕ) → has_list_header list ≡ true → (length list ≡ 8 → ⊥) →
    cond (is_wrong_descriptor n list) Malformed (Descriptor (field_at 8 8 list) (field_at 4 16 list))
    ≡ list_read n list
descriptor_decides n list h long =
    behind (has_list_header list) (length list == 8) (is_wrong_descriptor n list)
    (Descriptor (field_at 8 8 list) (field_at 4 16 list)) h (ne_eqb (length list) 8 long)

-- the count that a list tells; 0 without a descriptor
abbrev count_told : UnmapList → ℕ
count_told (Descriptor address count) = count
count_told other = 0

-- two descriptors that are the same count the same blocks
pub same_count : (address count a k : ℕ) → Descriptor address count ≡ Descriptor a k → count ≡ k
same_count address count a k e = ap count_told e

-- ## What the machine decides of a list is decided by what it says

-- address plus count is above the unit's count of blocks
abbrev pub is_past_by : ℕ → ℕ → Option UnitSpec → Bool
is_past_by address count None = false
is_past_by address count (Some u) = nat_lt u.blocks (address + count)

-- what is decided, by what the list says
abbrev pub decided_by : State → Task → ℕ → UnmapList → State
decided_by s task unit Malformed = ends_with_status s task invalid_list_field
decided_by s task unit HeaderOnly = ends_with_status s task Good
decided_by s task unit (Descriptor address count) =
    if is_past_by address count (unit_numbers_at (numbers_of s) (Some unit)) then ends_with_status s task out_of_range
    else unmap_accepted s task unit address count

same_past : (list : List ℕ) (u : Option UnitSpec) →
    is_past_unit list u ≡ is_past_by (field_at 8 8 list) (field_at 4 16 list) u
same_past list None = refl
same_past list (Some u) = refl

-- what is done with each branch is done with what the tests choose
chosen : (f : UnmapList → State) (header short wrong : Bool) (d : UnmapList) →
    cond (not header) (f Malformed) (cond short (f HeaderOnly) (cond wrong (f Malformed) (f d)))
    ≡ f (cond (not header) Malformed (cond short HeaderOnly (cond wrong Malformed d)))
chosen f false short wrong d = refl
chosen f true true wrong d = refl
chosen f true false true d = refl
chosen f true false false d = refl

pub decided : (s : State) (task : Task) (unit : ℕ) (list : List ℕ) →
    unmap_complete s task unit list ≡ decided_by s task unit (list_read (numbers_of s) list)
decided s task unit list =
    let n = numbers_of s in
    ap (λ past. cond (not (has_list_header list)) (ends_with_status s task invalid_list_field)
    (cond (length list == 8) (ends_with_status s task Good)
    (cond (is_wrong_descriptor n list) (ends_with_status s task invalid_list_field)
    (cond past (ends_with_status s task out_of_range)
    (unmap_accepted s task unit (field_at 8 8 list) (field_at 4 16 list))))))
    (same_past list (unit_numbers_at n (Some unit)))
    ∙ chosen (decided_by s task unit) (has_list_header list) (length list == 8) (is_wrong_descriptor n list)
    (Descriptor (field_at 8 8 list) (field_at 4 16 list))
