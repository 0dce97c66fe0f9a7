-- What comes of a task once all its data are there: one of few ways, for a reason. A law of it is a case for each way
-- (`completes_by`), so that new data add their lines here.
use Rattle.ufs_laws.proofs.Common.{Answering, Awaiting, Bool, Command, Comparing, Deed, ForFrames, ForUnmap, ForWrite, Frame}
use Rattle.ufs_laws.proofs.Common.{Gathering, Good, List, None, Option, Purpose, ReadingArea, Refused, Registers}
use Rattle.ufs_laws.proofs.Common.{Results, RpmbOutcome, Sending, SendingBytes, Some, State, Status, Task, Write, Zero}
use Rattle.ufs_laws.proofs.Common.{[], accepts, accepts_nothing, blocks_in, checks, claimed_by, command_in, complete}
use Rattle.ufs_laws.proofs.Common.{false, field_at, first_failed, frames_complete, given_back, if_cases, if◌then◌else◌}
use Rattle.ufs_laws.proofs.Common.{inl, inr, invalid_list_field, is_past_unit, is_well_formed, is_wrong_descriptor}
use Rattle.ufs_laws.proofs.Common.{lacks_result, length, locked, not, not-false, numbers_of, out_of_range}
use Rattle.ufs_laws.proofs.Common.{outcome_after, plain_now, reads_area, refl, request_decided, requested, rpmb_outcome}
use Rattle.ufs_laws.proofs.Common.{sequence_error, set_deed, subst, sym, true, unit_numbers_at, unmap_complete}
use Rattle.ufs_laws.proofs.Common.{with_moves, write_error, ℕ, ◌+◌, ◌/◌, ◌==◌, ◌∷◌, ◌≡◌, ◌⊎◌}
use Rattle.ufs_spec.specs.DataOuts.{has_list_header, unmap_accepted}
use Rattle.ufs_spec.specs.FrameRequests.{answered_at_once, area_read, keeps_area}
use Rattle.ufs_spec.specs.Frames.{frames_in}
use Rattle.ufs_spec.specs.Machine.{write_deed}
use Rattle.ufs_spec.specs.Moves.{Release}
use Rattle.ufs_spec.specs.Rpmb.{Region, region_of}

pub data Completion : Type 0 where
  -- the task is answered, and gives back slots
  Told : (status : Status) → (released : ℕ) → Completion
  -- its command is accepted, in place of claimed slots
  Accepted : (command : Command) → (claimed : ℕ) → (deed : Deed) → Completion
  -- its frames have a result: it is answered GOOD, reads the area, or its command is accepted
  HasResult : (region : ℕ) → (frames : List Frame) → (result : ℕ) → Completion
  ReadsArea : (region : ℕ) → (first : Frame) → (rest : List Frame) → (result : ℕ) → Completion
  AcceptsFrames : (region : ℕ) → (frames : List Frame) → (result : ℕ) → (command : Command) → Completion

-- how many slots the task has claimed
abbrev pub claim_of_task : State → Task → ℕ
claim_of_task s task = claimed_by (numbers_of s) task.deed task.command

abbrev pub completed : State → Task → Completion → State
completed s task (Told status released) =
    set_deed (with_moves s (Release released ∷ [])) task.tag (Answering status task.length)
completed s task (Accepted command claimed deed) = set_deed (accepts s command claimed) task.tag deed
completed s task (HasResult region frames result) =
    requested (given_back s task) task region frames result (Answering Good task.length)
completed s task (ReadsArea region f fs result) =
    requested (with_moves (given_back s task) (keeps_area s task.tag region f)) task region (f ∷ fs) result
    (ReadingArea (area_read s region f))
completed s task (AcceptsFrames region frames result command) =
    requested (accepts s command (claim_of_task s task)) task region frames result (Awaiting (length s.accepted + 1))

-- what a task is answered that has all its data
abbrev pub IsAnswerTo : Purpose → Status → Type 0
IsAnswerTo (ForWrite unit address blocks forced) status = (status ≡ Good) ⊎ (status ≡ write_error)
IsAnswerTo (ForUnmap unit) status =
    (status ≡ Good) ⊎ (status ≡ write_error) ⊎ (status ≡ invalid_list_field) ⊎ (status ≡ out_of_range)
IsAnswerTo (ForFrames region) status =
    (status ≡ Good) ⊎ (status ≡ invalid_list_field) ⊎ (status ≡ sequence_error)

-- it is one of five
pub data IsAnswerOfData : Status → Type 0 where
  IsGood : IsAnswerOfData Good
  IsWriteError : IsAnswerOfData write_error
  IsWrongField : IsAnswerOfData invalid_list_field
  IsOutOfRange : IsAnswerOfData out_of_range
  IsOutOfSequence : IsAnswerOfData sequence_error

told_by : (status other : Status) → status ≡ other → IsAnswerOfData other → IsAnswerOfData status
told_by status other e is = subst IsAnswerOfData (sym e) is

pub answer_one : (purpose : Purpose) (status : Status) → IsAnswerTo purpose status → IsAnswerOfData status
answer_one (ForWrite unit address blocks forced) status (inl e) = told_by status Good e IsGood
answer_one (ForWrite unit address blocks forced) status (inr e) = told_by status write_error e IsWriteError
answer_one (ForUnmap unit) status (inl e) = told_by status Good e IsGood
answer_one (ForUnmap unit) status (inr (inl e)) = told_by status write_error e IsWriteError
answer_one (ForUnmap unit) status (inr (inr (inl e))) = told_by status invalid_list_field e IsWrongField
answer_one (ForUnmap unit) status (inr (inr (inr e))) = told_by status out_of_range e IsOutOfRange
answer_one (ForFrames region) status (inl e) = told_by status Good e IsGood
answer_one (ForFrames region) status (inr (inl e)) = told_by status invalid_list_field e IsWrongField
answer_one (ForFrames region) status (inr (inr e)) = told_by status sequence_error e IsOutOfSequence

-- what is given back: a WRITE has claimed a slot for each block
abbrev pub IsReleased : State → Task → Purpose → ℕ → Type 0
IsReleased s task (ForWrite unit address blocks forced) released = released ≡ blocks
IsReleased s task (ForUnmap unit) released = released ≡ claim_of_task s task
IsReleased s task (ForFrames region) released = released ≡ claim_of_task s task

-- the list of an UNMAP that is right, and has something to do
pub record IsRightList (s : State) (unit : ℕ) (list : List ℕ) : Type 0 where
  pub header : has_list_header list ≡ true
  pub size : (length list == 8) ≡ false
  pub descriptor : is_wrong_descriptor (numbers_of s) list ≡ false
  pub within : is_past_unit list (unit_numbers_at (numbers_of s) (Some unit)) ≡ false
  pub some : (field_at 4 16 list == 0) ≡ false

-- what is accepted of these data, in place of which slots, and what the task does then
abbrev pub IsAccepted : State → Task → Purpose → List ℕ → Command → ℕ → Deed → Type 0
IsAccepted s task (ForWrite unit address blocks forced) bytes command claimed deed =
    (command ≡ Write unit address (blocks_in blocks bytes)) × (claimed ≡ blocks)
    × (deed ≡ write_deed forced (length s.accepted + 1) task.length)
IsAccepted s task (ForUnmap unit) bytes command claimed deed =
    (command ≡ Zero unit (field_at 8 8 bytes) (field_at 4 16 bytes)) × (claimed ≡ claim_of_task s task)
    × (deed ≡ Answering Good task.length) × IsRightList s unit bytes
IsAccepted s task (ForFrames region) bytes command claimed deed = ⊥

-- the frames are those of the data, sent to this region, and this was decided of them
pub record IsDecided (s : State) (purpose : Purpose) (bytes : List ℕ) (region : ℕ) (frames : List Frame) (result : ℕ)
    (command : Option Command) : Type 0 where
  pub purpose_is : purpose ≡ ForFrames region
  pub frames_are : frames ≡ frames_in (length bytes / 512) bytes
  pub decided :
      rpmb_outcome region (region_of (plain_now s) region) (s.registers region) (accepts_nothing s) frames ≡ Results result command

abbrev pub WhyCompleted : State → Task → Purpose → List ℕ → Completion → Type 0
WhyCompleted s task purpose bytes (Told status released) =
    IsAnswerTo purpose status × IsReleased s task purpose released
WhyCompleted s task purpose bytes (Accepted command claimed deed) =
    (locked s ≡ false) × IsAccepted s task purpose bytes command claimed deed
WhyCompleted s task purpose bytes (HasResult region frames result) =
    IsDecided s purpose bytes region frames result None
WhyCompleted s task purpose bytes (ReadsArea region f fs result) =
    IsDecided s purpose bytes region (f ∷ fs) result None × (reads_area f result ≡ true)
WhyCompleted s task purpose bytes (AcceptsFrames region frames result command) =
    IsDecided s purpose bytes region frames result (Some command)

-- what a task does whose command is accepted
abbrev pub IsAcceptedDeed : Purpose → Task → Deed → Type 0
IsAcceptedDeed purpose task (Answering status carried) = IsAnswerTo purpose status × (carried ≡ task.length)
IsAcceptedDeed purpose task (Awaiting position) = Unit {0}
IsAcceptedDeed purpose task (Gathering other gathered asked) = ⊥
IsAcceptedDeed purpose task (Sending blocks sent) = ⊥
IsAcceptedDeed purpose task (SendingBytes bytes) = ⊥
IsAcceptedDeed purpose task (ReadingArea pages) = ⊥
IsAcceptedDeed purpose task (Comparing blocks compared asked) = ⊥

write_waits : (unit address blocks : ℕ) (forced : Bool) (task : Task) (f : Bool) (n : ℕ) →
    IsAcceptedDeed (ForWrite unit address blocks forced) task (write_deed f n task.length)
write_waits unit address blocks forced task true n = tt
write_waits unit address blocks forced task false n = (inl refl, refl)

pub accepted_deed : (s : State) (task : Task) (purpose : Purpose) (bytes : List ℕ) (command : Command) (claimed : ℕ)
    (deed : Deed) → IsAccepted s task purpose bytes command claimed deed → IsAcceptedDeed purpose task deed
accepted_deed s task (ForWrite unit address blocks forced) bytes command claimed deed (c, n, e) =
    subst (IsAcceptedDeed (ForWrite unit address blocks forced) task) (sym e)
    (write_waits unit address blocks forced task forced _)
accepted_deed s task (ForUnmap unit) bytes command claimed deed (c, n, e, right) =
    subst (IsAcceptedDeed (ForUnmap unit) task) (sym e) (inl refl, refl)
accepted_deed s task (ForFrames region) bytes command claimed deed is = absurd is

-- ## The walk through UNMAP and frames

-- why frames are refused
same_refusal : (a b : Status) → Refused a ≡ Refused b → b ≡ a
same_refusal a b e = cc

no_refusal : (result : ℕ) (c : Option Command) (status : Status) → Results result c ≡ Refused status → ⊥
no_refusal result c status e = cc

after_checks : (region : Region) (c : Option Command) (o : Option ℕ) (status : Status) →
    outcome_after region c o ≡ Refused status → ⊥
after_checks region c None status e = no_refusal _ c status e
after_checks region c (Some result) status e = no_refusal _ None status e

refused_by : (malformed lacking : Bool) (o : RpmbOutcome) (status : Status) → (o ≡ Refused status → ⊥) →
    (if malformed then Refused invalid_list_field else if lacking then Refused sequence_error else o) ≡ Refused status →
    (status ≡ Good) ⊎ (status ≡ invalid_list_field) ⊎ (status ≡ sequence_error)
refused_by true lacking o status none e = inr (inl (same_refusal _ status e))
refused_by false true o status none e = inr (inr (same_refusal _ status e))
refused_by false false o status none e = absurd (none e)

pub why_refused : (number : ℕ) (region : Region) (r : Registers) (locked : Bool) (frames : List Frame)
    (status : Status) →
    rpmb_outcome number region r locked frames ≡ Refused status → IsAnswerTo (ForFrames number) status
why_refused number region r locked [] status e = inr (inl (same_refusal _ status e))
why_refused number region r locked (f ∷ fs) status e =
    refused_by (not (is_well_formed f fs)) (lacks_result f r)
    (outcome_after region (command_in number f fs) (first_failed (checks region locked f fs))) status
    (after_checks region (command_in number f fs) (first_failed (checks region locked f fs)) status) e

no_result : (status : Status) (result : ℕ) (c : Option Command) → Refused status ≡ Results result c → ⊥
no_result status result c e = cc

module _ (P : State → Type 0) (s : State) (task : Task) (purpose : Purpose) (bytes : List ℕ) where
  -- each way that has its reason
  abbrev EachCompletion : Type 0
  EachCompletion = (k : Completion) → WhyCompleted s task purpose bytes k → P (completed s task k)

module _ (P : State → Type 0) (s : State) (task : Task) (unit : ℕ) (list : List ℕ)
    (each : EachCompletion P s task (ForUnmap unit) list) where
  unmapped : has_list_header list ≡ true → (length list == 8) ≡ false →
      is_wrong_descriptor (numbers_of s) list ≡ false →
      is_past_unit list (unit_numbers_at (numbers_of s) (Some unit)) ≡ false →
      P (unmap_accepted s task unit (field_at 8 8 list) (field_at 4 16 list))
  unmapped header size descriptor within =
      if_cases P (field_at 4 16 list == 0) (λ none. each (Told Good (claim_of_task s task)) (inl refl, refl))
      (λ some. if_cases P (locked s)
      (λ e. each (Told write_error (claim_of_task s task)) (inr (inl refl), refl))
      (λ e. each
      (Accepted (Zero unit (field_at 8 8 list) (field_at 4 16 list)) (claim_of_task s task)
      (Answering Good task.length)) (
        e,
        (
          refl,
          refl,
          refl,
          record { header = header; size = size; descriptor = descriptor; within = within; some = some },
        ),
      )))

  unmaps_by : P (unmap_complete s task unit list)
  unmaps_by =
      if_cases P (not (has_list_header list))
      (λ wrong. each (Told invalid_list_field (claim_of_task s task)) (inr (inr (inl refl)), refl))
      (λ header. if_cases P (length list == 8) (λ none. each (Told Good (claim_of_task s task)) (inl refl, refl))
      (λ size. if_cases P (is_wrong_descriptor (numbers_of s) list)
      (λ wrong. each (Told invalid_list_field (claim_of_task s task)) (inr (inr (inl refl)), refl))
      (λ descriptor. if_cases P (is_past_unit list (unit_numbers_at (numbers_of s) (Some unit)))
      (λ past. each (Told out_of_range (claim_of_task s task)) (inr (inr (inr refl)), refl))
      (λ within. unmapped (not-false _ header) size descriptor within))))

module _ (P : State → Type 0) (s : State) (task : Task) (region : ℕ) (bytes : List ℕ)
    (each : EachCompletion P s task (ForFrames region) bytes) where
  abbrev outcome : List Frame → RpmbOutcome
  outcome frames = rpmb_outcome region (region_of (plain_now s) region) (s.registers region) (accepts_nothing s) frames

  told_at_once : (frames : List Frame) (result : ℕ) → frames ≡ frames_in (length bytes / 512) bytes →
      outcome frames ≡ Results result None → P (answered_at_once s task region frames result)
  told_at_once [] result are e = absurd (no_result _ result None e)
  told_at_once (f ∷ fs) result are e =
      if_cases P (reads_area f result)
      (λ reads. each (ReadsArea region f fs result) (decided, reads))
      (λ other. each (HasResult region (f ∷ fs) result) decided)
    where
      decided : IsDecided s (ForFrames region) bytes region (f ∷ fs) result None
      decided = record { purpose_is = refl; frames_are = are; decided = e }

  decided_by : (frames : List Frame) (o : RpmbOutcome) → frames ≡ frames_in (length bytes / 512) bytes →
      outcome frames ≡ o → P (request_decided s task region frames o)
  decided_by frames (Refused status) are e =
      each (Told status (claim_of_task s task)) (
        why_refused region (region_of (plain_now s) region) (s.registers region) (accepts_nothing s) frames status e,
        refl,
      )
  decided_by frames (Results result None) are e = told_at_once frames result are e
  decided_by frames (Results result (Some c)) are e =
      each (AcceptsFrames region frames result c) (record { purpose_is = refl; frames_are = are; decided = e })

  frames_by : (frames : List Frame) → frames ≡ frames_in (length bytes / 512) bytes →
      P (frames_complete s task region frames)
  frames_by frames are = decided_by frames (outcome frames) are refl

pub completes_by : (P : State → Type 0) (s : State) (task : Task) (purpose : Purpose) (bytes : List ℕ) →
    EachCompletion P s task purpose bytes → P (complete s task purpose bytes)
completes_by P s task (ForWrite unit address blocks forced) bytes each =
    if_cases P (locked s) (λ e. each (Told write_error blocks) (inr refl, refl))
    (λ e. each
    (Accepted (Write unit address (blocks_in blocks bytes)) blocks
    (write_deed forced (length s.accepted + 1) task.length))
    (e, (refl, refl, refl)))
completes_by P s task (ForUnmap unit) bytes each = unmaps_by P s task unit bytes each
completes_by P s task (ForFrames region) bytes each = frames_by P s task region bytes each _ refl
