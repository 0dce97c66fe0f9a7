-- What becomes of an UNMAP by its list.
use Rattle.ufs_laws.proofs.Common.{Answering, Bool, Good, List, Plain, Some, State, Task, Zero, [], ap, apply, arith}
use Rattle.ufs_laws.proofs.Common.{block_at, cond-false, cond-true, drop, eq-eqb, false, field_at, get_or}
use Rattle.ufs_laws.proofs.Common.{get_or-append_right, get_or-map, get_or-replicate, get_or-set_same}
use Rattle.ufs_laws.proofs.Common.{get_or_append_left, if_both, if◌then◌else◌, invalid_list_field, is_past_unit}
use Rattle.ufs_laws.proofs.Common.{is_wrong_descriptor, length, length-map, length-replicate, length-take-le, locked}
use Rattle.ufs_laws.proofs.Common.{ne_eqb, not, numbers_of, out_of_range, refl, replicate, shape_of, take, true}
use Rattle.ufs_laws.proofs.Common.{unit_numbers_at, unmap_complete, with_part, write_error, ℕ, ◌++◌, ◌+◌, ◌-◌, ◌<◌}
use Rattle.ufs_laws.proofs.Common.{◌==◌, ◌∙◌, ◌≡◌, ◌≢◌, ◌≤◌}
use Rattle.std.specs.Prelude.{slice_index_or}
use Rattle.ufs_laws.proofs.plain_contents.GroupsOfCommands.{blocks_unless}
use Rattle.ufs_laws.specs.Decisions.{IsListed, PassesList}
use Rattle.ufs_spec.specs.Changes.{accepts, claimed_by, ends_with_status, set_deed}
use Rattle.ufs_spec.specs.DataOuts.{has_list_header, unmap_accepted}
use Rattle.ufs_spec.specs.Plain.{LiesWithin, unit_of, zero_block}

-- ## The list

module _ (s : State) (task : Task) (unit : ℕ) (list : List ℕ) where
  abbrev wrong_header : Bool
  wrong_header = not (has_list_header list)

  abbrev is_past : Bool
  is_past = is_past_unit list (unit_numbers_at (numbers_of s) (Some unit))

  abbrev right : State
  right = unmap_accepted s task unit (field_at 8 8 list) (field_at 4 16 list)

  abbrev within : State
  within = if is_past then ends_with_status s task out_of_range else right

  abbrev described : State
  described = if is_wrong_descriptor (numbers_of s) list then ends_with_status s task invalid_list_field else within

  abbrev headed : State
  headed = if length list == 8 then ends_with_status s task Good else described

  pub header : has_list_header list ≡ false →
      unmap_complete s task unit list ≡ ends_with_status s task invalid_list_field
  header e = cond-true wrong_header (ends_with_status s task invalid_list_field) headed (ap not e)

  to_headed : has_list_header list ≡ true → unmap_complete s task unit list ≡ headed
  to_headed e = cond-false wrong_header (ends_with_status s task invalid_list_field) headed (ap not e)

  pub header_alone : has_list_header list ≡ true → length list ≡ 8 →
      unmap_complete s task unit list ≡ ends_with_status s task Good
  header_alone e size =
      to_headed e ∙ cond-true (length list == 8) (ends_with_status s task Good) described (eq-eqb (length list) 8 size)

  to_described : IsListed list → unmap_complete s task unit list ≡ described
  to_described (e, size) =
      to_headed e ∙ cond-false (length list == 8) (ends_with_status s task Good) described (ne_eqb (length list) 8 size)

  pub descriptor : IsListed list → is_wrong_descriptor (numbers_of s) list ≡ true →
      unmap_complete s task unit list ≡ ends_with_status s task invalid_list_field
  descriptor h e =
      to_described h
      ∙ cond-true (is_wrong_descriptor (numbers_of s) list) (ends_with_status s task invalid_list_field) within e

  pub past : IsListed list → is_wrong_descriptor (numbers_of s) list ≡ false → is_past ≡ true →
      unmap_complete s task unit list ≡ ends_with_status s task out_of_range
  past h e k =
      to_described h
      ∙ cond-false (is_wrong_descriptor (numbers_of s) list) (ends_with_status s task invalid_list_field) within e
      ∙ cond-true is_past (ends_with_status s task out_of_range) right k

  to_right : PassesList s unit list → unmap_complete s task unit list ≡ right
  to_right (h, e, k) =
      to_described h
      ∙ cond-false (is_wrong_descriptor (numbers_of s) list) (ends_with_status s task invalid_list_field) within e
      ∙ cond-false is_past (ends_with_status s task out_of_range) right k

  abbrev zeros_accepted : State
  zeros_accepted =
      set_deed
      (accepts s (Zero unit (field_at 8 8 list) (field_at 4 16 list))
      (claimed_by (numbers_of s) task.deed task.command))
      task.tag (Answering Good task.length)

  abbrev unless_locked : State
  unless_locked = if locked s then ends_with_status s task write_error else zeros_accepted

  pub no_block : PassesList s unit list → field_at 4 16 list ≡ 0 →
      unmap_complete s task unit list ≡ ends_with_status s task Good
  no_block h none =
      to_right h
      ∙ cond-true (field_at 4 16 list == 0) (ends_with_status s task Good) unless_locked
      (eq-eqb (field_at 4 16 list) 0 none)

  to_unless_locked : PassesList s unit list → field_at 4 16 list ≢ 0 → unmap_complete s task unit list ≡ unless_locked
  to_unless_locked h some =
      to_right h
      ∙ cond-false (field_at 4 16 list == 0) (ends_with_status s task Good) unless_locked
      (ne_eqb (field_at 4 16 list) 0 some)

  pub lock : PassesList s unit list → field_at 4 16 list ≢ 0 → locked s ≡ true →
      unmap_complete s task unit list ≡ ends_with_status s task write_error
  lock h some e =
      to_unless_locked h some ∙ cond-true (locked s) (ends_with_status s task write_error) zeros_accepted e

  pub accepted : PassesList s unit list → field_at 4 16 list ≢ 0 → locked s ≡ false →
      unmap_complete s task unit list ≡ zeros_accepted
  accepted h some e =
      to_unless_locked h some ∙ cond-false (locked s) (ends_with_status s task write_error) zeros_accepted e

  abbrev GivesBack : State → Type 0
  GivesBack t = t.translation.claims ≡ s.translation.claims - claimed_by (numbers_of s) task.deed task.command

  pub gives_back : GivesBack (unmap_complete s task unit list)
  gives_back =
      if_both GivesBack wrong_header refl
      (if_both GivesBack (length list == 8) refl
      (if_both GivesBack (is_wrong_descriptor (numbers_of s) list) refl
      (if_both GivesBack is_past refl
      (if_both GivesBack (field_at 4 16 list == 0) refl (if_both GivesBack (locked s) refl refl)))))

-- ## The blocks

inside : (at count a : ℕ) (old : List (List ℕ)) → at + count ≤ length old → at ≤ a → a < at + count →
    get_or (with_part at (replicate count zero_block) old) a [] ≡ zero_block
inside at count a old room low high =
    let new : List (List ℕ) = replicate count zero_block in
    let long : length new ≡ count = length-replicate count zero_block in
    let front : length (take at old) ≡ at = length-take-le at old (omega arith) in
    get_or-append_right (take at old) (new ++ drop (at + length new) old) at a [] front low
    ∙ get_or_append_left new (drop (at + length new) old) [] (a - at) (omega arith)
    ∙ get_or-replicate count (a - at) zero_block [] (omega arith)

pub zeros : (p : Plain) (unit address count a : ℕ) → LiesWithin (shape_of p) (Zero unit address count) → address ≤ a →
    a < address + count → block_at unit a (apply p (Zero unit address count)) ≡ zero_block
zeros p unit address count a can low high =
    let lt : unit < length p.units = omega (arith, length-map p.units length, can.0) in
    let size = get_or-map length p.units unit [] 0 lt in
    let room = can.3 in
    ap (λ (bs : List (List ℕ)). slice_index_or bs a [])
    (get_or-set_same p.units unit (with_part address (replicate count zero_block) (unit_of unit p)) [] lt)
    ∙ inside address count a (unit_of unit p) (omega arith) low high

pub others : (p : Plain) (unit address count u a : ℕ) → LiesWithin (shape_of p) (Zero unit address count) →
    (u ≡ unit → address ≤ a → a < address + count → ⊥) →
    block_at u a (apply p (Zero unit address count)) ≡ block_at u a p
others p unit address count u a can apart =
    let long : length (replicate count zero_block) ≡ count = length-replicate count zero_block in
    let room = can.3 in
    blocks_unless p.units unit address (replicate count zero_block) u a can.0 (omega arith)
    (λ same low high. apart same low (omega arith))
