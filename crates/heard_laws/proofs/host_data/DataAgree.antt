-- Behind a DATA OUT the device and the journal agree.
use Rattle.ufs_spec.specs.Exchanges.{Comparing}
use Rattle.std.specs.Prelude.{slice_get}
use Rattle.heard_laws.proofs.host_data.ComparedAgree.{compared_agrees}
use Rattle.heard_laws.proofs.Common.{ArrayVec, Blocks, Bool, CanApplyAll, DataOut, Deed, ForFrames, ForUnmap, ForWrite}
use Rattle.heard_laws.proofs.Common.{Frame, Frames, Gathering, IsTied, List, Some, State, Task, UnmapList, accepted_by}
use Rattle.heard_laws.proofs.Common.{accepted_in, and_parts, ap, arith, cond-false, drop, eqb-true, false, false≢true}
use Rattle.heard_laws.proofs.Common.{find, has_tag, inl, inr, le-ltb, length, length-append, locked, mended, nat_lt}
use Rattle.heard_laws.proofs.Common.{none-some, numbers_of, padding, plain_now, received, refl, region_of, spelling}
use Rattle.heard_laws.proofs.Common.{state_at, subst, sym, task_of, true, without, ℕ, ⊎_elim, ◌&&◌, ◌*◌, ◌++◌, ◌==◌}
use Rattle.heard_laws.proofs.Common.{◌∙◌, ◌≡◌, ◌⊎◌}
use Rattle.std.proofs.Common.{◌/◌, ◌||◌}
use Rattle.ufs_spec.specs.Commands.{Command}
use Rattle.ufs_spec.specs.DataOuts.{data_for, unmap_complete}
use Rattle.ufs_spec.specs.Exchanges.{count_at, is_asked_in, to_gather}
use Rattle.ufs_spec.specs.FrameRequests.{frames_complete}
use Rattle.ufs_spec.specs.Frames.{frames_in}
use Rattle.ufs_spec.specs.Machine.{gathered_more}
use Rattle.ufs_spec.specs.Refusals.{accepts_nothing}
use Rattle.ufs_spec.specs.Rpmb.{RpmbOutcome, rpmb_outcome}
use Rattle.ufs_spec.specs.declared.exchanges.Purpose.{Purpose}
use Rattle.power_loss.proofs.open_tasks.TaskLists.{found_fits}
use Rattle.power_loss.specs.Exchange.{DeedFits, claim_of}
use Rattle.rpmb.specs.Requests.{frames_of}
use Rattle.journal.specs.Heard.{Heard, brought, gathered, unmapped}
use Rattle.journal.specs.Unmaps.{zeros_accepted}
use Rattle.heard_laws.proofs.agreement.Agreement.{AgreeIn, DeedAgrees, Waits}
use Rattle.heard_laws.proofs.agreement.PairsChanged.{received_is}
use Rattle.heard_laws.proofs.host_data.BlocksHeard.{block_is}
use Rattle.heard_laws.proofs.host_data.DataLands.{its}
use Rattle.heard_laws.proofs.host_data.FramesAgree.{by_outcome, nothing_told}
use Rattle.heard_laws.proofs.host_data.FramesHeard.{locked_takes_none, same_accepted}
use Rattle.heard_laws.proofs.host_data.ListsAgree.{list_agrees}
use Rattle.heard_laws.proofs.host_data.WritesAgree.{block_agrees}
use Rattle.heard_laws.proofs.messages.HeardMessages.{data_of}

module _ (s : State) (held : ℕ) (j : Heard) (task : Task) (lun offset : ℕ) («data» : ArrayVec ℕ) (v : IsTied s)
    (a : AgreeIn s held s j) (found : task_of task.tag s.tasks ≡ Some task) where
  abbrev more : List ℕ
  more = «data».items

  abbrev m : List ℕ
  m = spelling (DataOut lun task.tag offset «data»)

  abbrev Fits : Deed → Type 0
  Fits deed = DeedFits (numbers_of s) (length s.accepted) (mended s) (claim_of (numbers_of s) task) task.length deed

  abbrev Agrees : Deed → Type 0
  Agrees deed =
      DeedAgrees (numbers_of s) (locked s || mended s) a.roll task.lun deed (find (has_tag task.tag) j.tasks)

  -- as many bytes came as were asked for
  asked_count : (purpose : Purpose) (before : List ℕ) (asked : Bool) →
      is_asked_in task lun offset (length more) (Gathering purpose before asked) ≡ true →
      length more ≡ count_at (to_gather purpose task.length) (length before)
  asked_count purpose before asked e =
      eqb-true (length more) (count_at (to_gather purpose task.length) (length before))
      (and_parts (asked && (task.lun == lun) && (offset == length before))
      (length more == count_at (to_gather purpose task.length) (length before)) e).1

  write_comes : (unit address blocks : ℕ) (forced : Bool) (before : List ℕ) →
      length more ≡ count_at (4096 * blocks) (length before) → Fits
      (Gathering (ForWrite unit address blocks forced) before true) →
      Agrees (Gathering (ForWrite unit address blocks forced) before true) →
      AgreeIn s held (gathered_more s task (ForWrite unit address blocks forced) (before ++ more))
      (received j task.tag m)
  write_comes unit address blocks forced before count fits h =
      let w = h.waits in
      let short = fits.short in
      let long = h.same.long in
      let whole : length more ≡ 4096 = omega (arith, count, short, long) in
      let joined = length-append before more in
      subst (AgreeIn s held (gathered_more s task (ForWrite unit address blocks forced) (before ++ more)))
      (sym (received_is j task.tag w.task (Blocks h.write) m w.is w.awaits
      ∙ ap (gathered (record j { tasks = without task.tag j.tasks }) w.task.name w.task.promised h.write)
      (block_is lun task.tag offset «data» whole)))
      (block_agrees s held j task a found unit address blocks forced before h more whole fits.is_mended
      (omega (arith, count, joined, short)))

  list_comes : (unit : ℕ) (before : List ℕ) → length more ≡ count_at task.length (length before) →
      Fits (Gathering (ForUnmap unit) before true) → Agrees (Gathering (ForUnmap unit) before true) →
      AgreeIn s held (gathered_more s task (ForUnmap unit) (before ++ more)) (received j task.tag m)
  list_comes unit before count fits h =
      let w = h.0 in
      let none = ap length h.1 in
      let total : length more ≡ task.length =
      ⊎_elim (λ e. let k = e.0 in omega (arith, count, none, k)) (λ e. let k = e.0 in omega (arith, count, none, k))
      fits.list
      in
      let long : (length more ≡ 8) ⊎ (length more ≡ 24) =
      ⊎_elim (λ e. inl (total ∙ e.0)) (λ e. inr (total ∙ e.0)) fits.list in
      let padded : padding (length more) ≡ 0 = ⊎_elim (λ e. ap padding e) (λ e. ap padding e) long in
      let all : zeros_accepted (numbers_of s) (locked s) unit more
      ≡ zeros_accepted j.numbers j.locked w.task.name.lun (drop 32 m) =
      λ i. zeros_accepted (sym a.numbers i) (sym a.lock i)
      ((h.2 ∙ sym ((its s held j task a found).named w.task w.is).lun_is) i)
      (sym (data_of lun task.tag offset «data» padded) i) in
      subst (λ (g : List ℕ). AgreeIn s held (gathered_more s task (ForUnmap unit) (g ++ more)) (received j task.tag m))
      (sym h.1)
      (subst (λ (u : State). AgreeIn s held u (received j task.tag m))
      (sym (cond-false (nat_lt (length more) task.length) _ (unmap_complete s task unit more)
      (le-ltb (length more) task.length (omega (arith, total)))))
      (subst (AgreeIn s held (unmap_complete s task unit more))
      (sym (received_is j task.tag w.task UnmapList m w.is w.awaits
      ∙ ap (unmapped (record j { tasks = without task.tag j.tasks }) w.task.name w.task.promised) (sym all)))
      (list_agrees s held j task a found unit w more (λ e. fits.is_mended (sym total ∙ e)) fits.unit_in long)))

  abbrev frames : List Frame
  frames = frames_in (length more / 512) more

  abbrev outcome : ℕ → RpmbOutcome
  outcome region =
      rpmb_outcome region (region_of (plain_now s) region) (s.registers region) (accepts_nothing s) frames

  -- the journal takes what the device accepts
  same : (region : ℕ) → (locked s || mended s) ≡ true →
      accepted_in (outcome region) ≡ accepted_by region (state_at j.regions region) j.locked frames
  same region ready =
      same_accepted region (state_at j.regions region) (region_of (plain_now s) region) (s.registers region)
      (accepts_nothing s) frames (a.regions region)
      ∙ ap (λ (b : Bool). accepted_by region (state_at j.regions region) b frames)
      (nothing_told (locked s) (mended s) ready ∙ sym a.lock)

  -- which is nothing on a device that is not mended
  takes_none : (region : ℕ) → (locked s || mended s) ≡ true → (c : Command) → accepted_in (outcome region) ≡ Some c →
      mended s ≡ true
  takes_none region ready c e = by (mended s) (locked s) refl refl ready
    where
      by : (x y : Bool) → mended s ≡ x → locked s ≡ y → (y || x) ≡ true → x ≡ true
      by true y k l ready = refl
      by false false k l ready = absurd (false≢true ready)
      by false true k l r =
          absurd (none-some c (sym (locked_takes_none region (state_at j.regions region) frames)
          ∙ (ap (λ (b : Bool). accepted_by region (state_at j.regions region) b frames) (sym (a.lock ∙ l))
          ∙ (sym (same region ready) ∙ e))))

  frames_agree : (region : ℕ) → Waits (numbers_of s) task.lun (Frames region) (find (has_tag task.tag) j.tasks) →
      (locked s || mended s) ≡ true → padding (length more) ≡ 0 →
      CanApplyAll s.base (frames_complete s task region frames).accepted →
      AgreeIn s held (frames_complete s task region frames) (received j task.tag m)
  frames_agree region w ready padded can =
      subst (AgreeIn s held (frames_complete s task region frames))
      (sym (received_is j task.tag w.task (Frames region) m w.is w.awaits
      ∙ ap (brought (record j { tasks = without task.tag j.tasks }) w.task.name w.task.promised region)
      (ap (λ (bytes : List ℕ). accepted_by region (state_at j.regions region) j.locked (frames_of bytes))
      (data_of lun task.tag offset «data» padded) ∙ sym (same region ready))))
      (by_outcome s held j task a found region w frames (outcome region) (same region ready) can
      (takes_none region ready))

  padded_frames : (n : ℕ) → length more ≡ 512 * n → padding (length more) ≡ 0
  padded_frames n e = omega (arith, e)

  frames_come : (region : ℕ) (before : List ℕ) → length more ≡ count_at task.length (length before) →
      Fits (Gathering (ForFrames region) before true) → Agrees (Gathering (ForFrames region) before true) →
      CanApplyAll s.base (gathered_more s task (ForFrames region) (before ++ more)).accepted →
      AgreeIn s held (gathered_more s task (ForFrames region) (before ++ more)) (received j task.tag m)
  frames_come region before count fits h can =
      let none = ap length h.1 in
      let size = fits.total_is in
      let few = fits.few in
      let total : length more ≡ task.length = omega (arith, count, none, size, few) in
      let done : gathered_more s task (ForFrames region) more ≡ frames_complete s task region frames =
      cond-false (nat_lt (length more) task.length) _ (frames_complete s task region frames)
      (le-ltb (length more) task.length (omega (arith, total))) in
      subst (λ (g : List ℕ). AgreeIn s held (gathered_more s task (ForFrames region) (g ++ more))
      (received j task.tag m))
      (sym h.1)
      (subst (λ (u : State). AgreeIn s held u (received j task.tag m)) (sym done)
      (frames_agree region h.0 h.2 (padded_frames fits.count (total ∙ size))
      (subst (λ (u : State). CanApplyAll s.base u.accepted) done
      (subst (λ (g : List ℕ). CanApplyAll s.base (gathered_more s task (ForFrames region) (g ++ more)).accepted) h.1
      can))))

  by_deed : (deed : Deed) → task.deed ≡ deed → is_asked_in task lun offset (length more) deed ≡ true → Fits deed → Agrees deed →
      CanApplyAll s.base (data_for s task deed more).accepted →
      AgreeIn s held (data_for s task deed more) (received j task.tag m)
  by_deed (Gathering (ForWrite unit address blocks forced) before asked) e is fits h can =
      write_comes unit address blocks forced before (asked_count (ForWrite unit address blocks forced) before asked is)
      fits h
  by_deed (Gathering (ForUnmap unit) before asked) e is fits h can =
      list_comes unit before (asked_count (ForUnmap unit) before asked is) fits h
  by_deed (Gathering (ForFrames region) before asked) e is fits h can =
      frames_come region before (asked_count (ForFrames region) before asked is) fits h can
  by_deed (Comparing blocks compared asked) e is fits h can =
      compared_agrees s held j task a found h blocks compared asked (slice_get blocks compared) more m e
  by_deed deed e is fits h can = absurd (false≢true is)

  pub data_agrees : is_asked_in task lun offset (length more) task.deed ≡ true →
      CanApplyAll s.base (data_for s task task.deed more).accepted →
      AgreeIn s held (data_for s task task.deed more) (received j task.tag m)
  data_agrees is can =
      by_deed task.deed refl is
      (found_fits (numbers_of s) (length s.accepted) (mended s) task.tag s.tasks task v.tasks.deeds found).0
      (its s held j task a found).deed can
