-- What stands on the dies once a write of one block was stopped inside its program: the mark, and the block's page or
-- none; and what each of the two stands for.
use Rattle.power_loss.proofs.Common.{◌≡◌, ◌==◌, ◌&&◌, ◌||◌, ℕ, Bool, true, false, not, if◌then◌else◌, List, [], ◌∷◌}
use Rattle.power_loss.proofs.Common.{Some, refl, sym, ap, ◌∙◌, subst, ⊎_elim, arith, Cell, Cells, MarkPage, Nothing}
use Rattle.power_loss.proofs.Common.{same_place, at_place, CanApplyAll, IsKey, content, data_key, same_key}
use Rattle.power_loss.proofs.Common.{CellsStandFor, Holds, IsKept, IsRecorded, apply, shape_of_numbers, zero_block, Key}
use Rattle.power_loss.proofs.Common.{Place, Tag, kept_shape, new_shape, place_cases}
use Rattle.power_loss.proofs.MachineWords.{first_mark, write_page, place_of, row}
use Rattle.ufs_laws.proofs.plain_contents.CommandsKeepPlain.{kept_plain}
use Rattle.ufs_laws.proofs.worked_rows.GapLists.{kept_next, kept_there}
use Rattle.ufs_laws.proofs.plain_contents.GroupsOfCommands.{one_command, same_from_true}
use Rattle.ufs_laws.proofs.worked_rows.ListedCells.{held, newest, not_whole, recorded, whole, zeros}
use Rattle.ufs_laws.proofs.plain_contents.NewDevice.{new_plain, new_zeros}
use Rattle.ufs_laws.proofs.new_dies.NewDeviceState.{Open}
use Rattle.ufs_laws.proofs.worked_run.RunStates.{block_written, writing}
use Rattle.ufs_laws.specs.GapRows.{Standing, at, cells_of}
use Rattle.ufs_spec.specs.Plain.{zero}
use Rattle.ufs_spec.specs.Commands as command

-- The pages

abbrev mark_there : Standing
mark_there = at 0 0 0 (MarkPage (first_mark row))

abbrev marked_pages : List Standing
marked_pages = mark_there ∷ []

abbrev written_pages : List ℕ → List Standing
written_pages body = at 0 0 1 (write_page 1 0xFF 0 body) ∷ marked_pages

unfoldable pub marked_cells : Cells
marked_cells = cells_of marked_pages

pub written_cells : List ℕ → Cells
written_cells body = cells_of (written_pages body)

pub turned_place : (p q : Place) → same_place p q ≡ same_place q p
turned_place p q = ⊎_elim (λ h. ap (λ r. same_place r q) h.1 ∙ ap (same_place q) (sym h.1))
    (λ h. h.0 ∙ sym (⊎_elim (λ k. absurd (h.1 (sym k.1))) (λ k. k.0) (place_cases _ _))) (place_cases _ _)

pub marked_either : (b d : Bool) (x : Cell) →
    (if b then x else if d then Nothing else Nothing) ≡ (if b then x else Nothing)
marked_either true d x = refl
marked_either false true x = refl
marked_either false false x = refl

-- nothing stands outside the mark's page
pub outside_mark : (p : Place) → (p.die ≡ 0 → ⊥) → marked_cells p ≡ Nothing
unfolding marked_cells
outside_mark p other = ⊎_elim (λ h. absurd (other (sym (ap (λ q. q.die) h.1))))
    (λ h. ap (λ b. if b then MarkPage (first_mark row) else Nothing) h.0) (place_cases _ _)

pub unwritten : marked_cells (place_of 1) ≡ Nothing
unfolding marked_cells
unwritten = refl

-- the cells while the block is programmed
pub writing_cells : (o : Open) (body : List ℕ) → (writing o body).translation.disk.cells ≡ marked_cells
unfolding writing marked_cells
writing_cells o body i p =
    (marked_either (same_place p (place_of 0)) ((p.die == 0) && (p.block == 0)) (MarkPage (first_mark row))
    ∙ ap (λ b. if b then MarkPage (first_mark row) else Nothing) (turned_place p (place_of 0))) i

-- and with the block's page
pub put_cells : (body : List ℕ) → at_place marked_cells (place_of 1) (write_page 1 0xFF 0 body) ≡ written_cells body
unfolding written_cells marked_cells
put_cells body i p =
    ap (λ b. if b then write_page 1 0xFF 0 body else cells_of marked_pages p) (turned_place p (place_of 1)) i

-- What the mark alone stands for

mark_recorded : IsRecorded (cells_of marked_pages) (Some (first_mark row)) 0
mark_recorded = recorded marked_pages (first_mark row) (place_of 0) refl refl refl

-- a new device
pub marked_stands : CellsStandFor row marked_cells (zero row)
unfolding marked_cells
marked_stands = record {
  newest = Some (first_mark row);
  is_newest = newest marked_pages (first_mark row) (place_of 0) refl refl;
  kept = 0;
  is_kept = kept_there marked_pages (first_mark row) mark_recorded (not_whole marked_pages 1 refl);
  shape = new_shape row;
  plain = new_plain row;
  holds = λ k key. subst (Holds (cells_of marked_pages) (Some (first_mark row)) 1 k) (sym (new_zeros row k key))
      (zeros marked_pages (Some (first_mark row)) 1 k refl);
}

-- What the mark and the block's page stand for

abbrev the_key : Key
the_key = data_key 0 0xFF

abbrev the_command : List ℕ → command.Command
the_command body = command.Write 0 0xFF (body ∷ [])

abbrev the_tag : Tag
the_tag = record { kind = 1; unit = 0; address = 0xFF; number = 1; index = 0; size = 1; frontier = 0 }

module _ (body : List ℕ) where
  write_recorded : IsRecorded (cells_of (written_pages body)) (Some (first_mark row)) 0
  write_recorded = recorded (written_pages body) (first_mark row) (place_of 0) refl refl refl

  write_kept : IsKept (cells_of (written_pages body)) (Some (first_mark row)) 1
  write_kept = kept_next (written_pages body) (first_mark row) 1 (omega arith) write_recorded
      (whole (written_pages body) 1 (place_of 1) the_tag body refl refl refl refl)
      (not_whole (written_pages body) 2 refl)

  -- the block where the key is its own, else zeros
  write_holds : (k : Key) (b : Bool) → same_key the_key k ≡ b → Holds (cells_of (written_pages body))
      (Some (first_mark row)) 2 k (if b then body else zero_block)
  write_holds k true e = held (written_pages body) (Some (first_mark row)) 2 k (place_of 1) the_tag body refl (λ h. h)
      (same_from_true the_key k e) (omega arith) (others k (same_key the_key k))
    where
      others : (k : Key) (b : Bool) → (not b || (false || (false || true))) && true ≡ true
      others k true = refl
      others k false = refl
  write_holds k false e = zeros (written_pages body) (Some (first_mark row)) 2 k
      (ap (λ b. (not b || (false || (false || false))) && true) e)

  module _ (can : CanApplyAll (zero row) (the_command body ∷ [])) where
    -- the content after the command
    content_now : {k : Key} → IsKey (shape_of_numbers row) k →
        content (apply (zero row) (the_command body)) k ≡ (if same_key the_key k then body else zero_block)
    content_now {k} key =
        one_command (zero row) (the_command body) can.1 k (subst (λ s. IsKey s k) (sym (new_shape row)) key)
        ∙ ap (λ x. if same_key the_key k then x else content (zero row) k)
        (block_written (zero row) body (new_shape row))
        ∙ ap (λ x. if same_key the_key k then body else x) (new_zeros row k key)

    -- a new device that took the write
    pub written_stands : CellsStandFor row (written_cells body) (apply (zero row) (the_command body))
    unfolding written_cells
    written_stands = record {
      newest = Some (first_mark row);
      is_newest = newest (written_pages body) (first_mark row) (place_of 0) refl refl;
      kept = 1;
      is_kept = write_kept;
      shape = kept_shape (zero row) (the_command body) can.1.0 ∙ new_shape row;
      plain = kept_plain (zero row) (the_command body) (new_plain row) can.0 can.1;
      holds = λ k key. subst (Holds (cells_of (written_pages body)) (Some (first_mark row)) 2 k) (sym (content_now key))
          (write_holds k (same_key the_key k) refl);
    }
