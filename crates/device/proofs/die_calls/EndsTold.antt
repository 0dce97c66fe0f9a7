-- A job's end tells the right things, and what is kept then describes what it makes of the state.
use Rattle.device.proofs.Common.{All-contains, AreClaimed, Array, Bool, Cell, Cells, Core, Describes, DeviceCore, Done}
use Rattle.device.proofs.Common.{Ending, Erasing, Flight, ForNobody, ForRest, ForStep, ForTask, GroupPage, HasFilled}
use Rattle.device.proofs.Common.{IsAnswered, IsEndingOf, IsTied, Keeps, List, MayLeave, None, NotRead, OfDone, OneSends}
use Rattle.device.proofs.Common.{OpenTask, Option, Outcome, Pin, Place, Programming, ReadRight, ReadState, ReadWrong}
use Rattle.device.proofs.Common.{Reader, Reading, Some, State, TasksKept, Translation, WasRead, WentWell, WentWrong, []}
use Rattle.device.proofs.Common.{and_parts, ap, arith, array_after, before_accepted, book, claimed_by, claimed_in}
use Rattle.device.proofs.Common.{claims_of, cond, ending_fits, eqb-true, false, false≢true, find, found_is, inl, inr}
use Rattle.device.proofs.Common.{is_pin_of, is_unread, job_ended, length, length-map, lock_told, map, most_tasks, moved}
use Rattle.device.proofs.Common.{none-some, numbers_of, option_map, refl, same_Some, subst, suc, sym, task_of, true}
use Rattle.device.proofs.Common.{wanted_by, wanted_kept, with_claimed, with_moves, with_wanted, ℕ, ◌∙◌, ◌∷◌, ◌≡◌, ◌≤◌}
use Rattle.std.proofs.Common.{slice_get}
use Rattle.std.specs.Prelude.{Contains}
use Rattle.ufs_spec.specs.Cells.{key_of}
use Rattle.ufs_spec.specs.Machine.{ends_with, read_noted_after, task_read}
use Rattle.ufs_spec.specs.Moves.{EndJob, Means, cell_read, end_flight, is_read_ending, is_read_job, is_read_outcome}
use Rattle.ufs_spec.specs.Moves.{same_bool}
use Rattle.ufs_spec.specs.Translation.{name_of}
use Rattle.ufs_spec.specs.declared.flash.Outcome.TheVariants as outcome
use Rattle.ufs_spec.specs.declared.flash.Tag.{Tag}
use Rattle.power_loss.specs.Invariant.{IsGroupPage, LookedRight}
use Rattle.power_loss.proofs.shown_blocks.LivesShowBlocks.{area_body, compared_body, page_body}
use Rattle.ftl_core.specs.Public as layer_kept
use Rattle.ftl_core.specs.Public.{EndedNow, IsAwaited, IsReadOf, IsTold}
use Rattle.ftl_core.specs.Ended as ended
use Rattle.device.specs.Calls.{told}
use Rattle.task_set.specs.Tasks.{after_lost_read, after_read}
use Rattle.power_loss.proofs.calls.CallsKeepTied.{first_keeps}
use Rattle.power_loss.proofs.calls.RightChanges.{right_keeps as right_keeps_tied}
use Rattle.power_loss.proofs.jobs.EndsOfJobs.{ends_right as job_right}
use Rattle.ufs_laws.proofs.walk.SmallChanges.{job_over}
use Rattle.device.proofs.described.Answered.{answered_told}
use Rattle.device.proofs.described.OneSender.{each_sends}
use Rattle.device.proofs.described.ShortExchanges.{same_shorts}
use Rattle.device.proofs.described.LayerMoves.{IsForNone, Leaves, job_leaves, layer_moves}
use Rattle.device.proofs.open_tasks.KeptByTag.{WantedFor, WantedForAll, claimed_same, claims_changed, one_changes}
use Rattle.device.proofs.open_tasks.ReadProgress.{want_other_tag}
use Rattle.device.proofs.open_tasks.BlockEnds.{set_read}
use Rattle.device.proofs.open_tasks.ReadsEnded.{IsReadFor, IsReading, claims_none, is_reading, lost_sends, read_sends}
use Rattle.device.proofs.open_tasks.ReadsEnded.{reads_one, task_ended, tasks_lost, tasks_read, wanted_then}

-- An ending that may come fits the job

-- an outcome that means an ending is of a read exactly if the ending is
means_same : (cell : Cell) (o : Outcome) (ending : Ending) → Means cell o ending →
    is_read_outcome o ≡ is_read_ending ending
means_same cell (outcome.Read page) ReadRight h = refl
means_same cell (outcome.Read page) ReadWrong h = refl
means_same cell outcome.ReadFailed ReadWrong h = refl
means_same cell outcome.Done WentWell h = refl
means_same cell outcome.Failed (WentWrong left) h = refl
means_same cell o ending h = absurd h

pub meant_fits : (cells : Cells) (x : Option Flight) (o : Outcome) (ending : Ending) → IsEndingOf cells x o ending →
    ending_fits x ending ≡ true
meant_fits cells None o ending h = h.0
meant_fits cells (Some flight) o ending h =
    ap (same_bool (is_read_job flight)) (sym (means_same (cell_read cells (Some flight)) o ending h.1)) ∙ h.0

-- The content of a page that was read

found_among : {X : Type 0} (p : X → Bool) (xs : List X) (x : X) → find p xs ≡ Some x → Contains xs x
found_among p [] x e = absurd (none-some x e)
found_among p (y ∷ ys) x e = by (p y) e (λ k. found_among p ys x k)
  where
    by : (b : Bool) → cond b (Some y) (find p ys) ≡ Some x → (find p ys ≡ Some x → Contains ys x) → Contains (y ∷ ys) x
    by true k rest = (0, omega arith, same_Some y x k)
    by false k rest = let r = rest k in (suc r.0, (let low = r.1 in omega arith), r.2)

bodies_same : (a b : Tag) (x y : List ℕ) → GroupPage a x ≡ GroupPage b y → x ≡ y
bodies_same a b x y e = cc

-- the page that was read is the block that its task sends or compares, or the page of the area that it reads
content_read : (d : DeviceCore) (s : State) (tag index : ℕ) (place : Place) (page : Tag) (body : List ℕ) →
    Describes d s →
    (w : IsAwaited s.translation tag index place) → (r : IsReading tag index s.tasks) →
    s.translation.disk.cells place ≡ GroupPage page body →
    body ≡ r.block.body
content_read d s tag index place page body h w r cell =
    let its = and_parts _ _ (found_is (is_pin_of tag index) s.translation.pins w.pin w.kept) in
    let tag_is : w.pin.tag ≡ tag = eqb-true w.pin.tag tag its.0 in
    let index_is : w.pin.index ≡ index = eqb-true w.pin.index index its.1 in
    let among = found_among (is_pin_of tag index) s.translation.pins w.pin w.kept in
    let g : IsGroupPage t.disk.cells t.disk.finished t.disk.erasing w.name place =
    subst (LookedRight (book t) t.ledger.frontier t.disk.cells t.disk.finished t.disk.erasing) w.looks
    (All-contains (λ pin. LookedRight (book t) t.ledger.frontier t.disk.cells t.disk.finished t.disk.erasing pin.looked)
    t.pins w.pin
    h.tied.valid.pins.each among) in
    bodies_same page g.tag body g.body (sym cell ∙ g.there)
    ∙ shown g among (ap (λ n. task_of n s.tasks) tag_is ∙ r.found) (ap (slice_get r.blocks) index_is ∙ r.there) r.deed
  where
    t : Translation
    t = s.translation

    shown : (g : IsGroupPage t.disk.cells t.disk.finished t.disk.erasing w.name place) → Contains t.pins w.pin →
        task_of w.pin.tag s.tasks ≡ Some r.task → slice_get r.blocks w.pin.index ≡ Some r.block →
        IsReadFor index r.task r.blocks → g.body ≡ r.block.body
    shown g among there at (inl deed) =
        page_body s w.pin r.task r.blocks index r.block w.name place h.tied h.shows among there deed at w.looks g
    shown g among there at (inr (inr deed)) =
        compared_body s w.pin r.task r.blocks index deed.0 r.block w.name place h.tied h.shows among there deed.1 at
        w.looks g
    shown g among there at (inr (inl deed)) =
        area_body s w.pin r.task r.blocks r.block w.name place h.tied h.shows among there deed.0 at w.looks g

-- and it is a whole block
whole_read : (s : State) (place : Place) (page : Tag) (body : List ℕ) → IsTied s →
    s.translation.disk.cells place ≡ GroupPage page body → length body ≡ 4096
whole_read s place page body tied cell =
    (tied.fits.entries (name_of page).number (name_of page).index
    (record { item = record { key = key_of page; body = body }; size = page.size })
    (tied.valid.pages.known place page body cell)).0.block.0

-- What is kept then

-- the state once a read for a task ended
abbrev read_state : State → ℕ → ℕ → ReadState → Array → Translation → State
read_state s tag index state array u = record s {
  tasks = map (task_read tag index state) s.tasks;
  array = array;
  translation = u;
}

module _ (d : DeviceCore) (s : State) (die tag index : ℕ) (place : Place) (after : Core) (h : Describes d s)
    (w : IsAwaited s.translation tag index place) (same : AreClaimed after (claims_of (numbers_of s) s.tasks)) where
  abbrev before : ℕ
  before = before_accepted s.translation.ledger

  -- the layer, and the state, once the read ended
  abbrev over : Ending → Translation
  over ending = job_ended s.translation die (Reading (ForTask tag index) place) ending

  abbrev pins : List Pin
  pins = map (with_wanted tag index false) s.translation.pins

  reading : IsReading tag index s.tasks
  reading = is_reading tag index s.tasks s.translation.pins (h.kept.wanted tag index)
      (ap (option_map (λ (pin : Pin). pin.wanted)) w.kept ∙ ap (λ b. Some b) w.wanted)

  few : (state : ReadState) → length (map (task_read tag index state) s.tasks) ≤ most_tasks
  few state = subst (λ n. n ≤ most_tasks) (sym (length-map s.tasks (task_read tag index state))) h.kept.few

  -- what is wanted for the tag is its task's; what is wanted for another is as it was
  wanted_now : (state : ReadState) → is_unread state ≡ false →
      WantedForAll pins (map (task_read tag index state) s.tasks)
  wanted_now state ends =
      one_changes s.translation.pins pins s.tasks (task_read tag index state) tag reading.task h.kept.wanted
      (reads_one tag index state) reading.found
      (subst (λ task. WantedFor pins tag (Some task)) (sym (task_ended tag index s.tasks reading state))
      (wanted_then tag index s.tasks reading state ends s.translation.pins (h.kept.wanted tag)))
      (λ n other k. want_other_tag tag index false n k s.translation.pins other)

  -- no task that reads has claimed a slot
  claims_now : (state : ReadState) → claims_of (numbers_of s) (map (task_read tag index state) s.tasks) ≡ claims_of (numbers_of s) s.tasks
  claims_now state =
      let none = claims_none tag index s.tasks reading state (numbers_of s) in
      claims_changed (numbers_of s) s.tasks (task_read tag index state) tag reading.task (reads_one tag index state) reading.found
      ∙ (ap (λ task. with_claimed (claims_of (numbers_of s) s.tasks) tag (claimed_by (numbers_of s) (Some task)))
      (task_ended tag index s.tasks reading state)
      ∙ claimed_same (claims_of (numbers_of s) s.tasks) tag
      (claimed_in (numbers_of s) (set_read index state reading.task).length (set_read index state reading.task).deed)
      (ap (claimed_by (numbers_of s)) reading.found ∙ (none.0 ∙ sym none.1)))

  -- once these are our tasks
  keeps_then : (state : ReadState) (ending : Ending) (ts : List OpenTask) → is_unread state ≡ false →
      (over ending).pins ≡ pins → (over ending).numbers ≡ numbers_of s → before_accepted (over ending).ledger ≡ before →
      layer_kept.Describes after (over ending) →
      TasksKept before ts (map (task_read tag index state) s.tasks) → OneSends ts →
      Keeps (record d { ftl = after; tasks = ts }) (read_state s tag index state s.array (over ending))
  keeps_then state ending ts ends are numbers same_before layer tasks once = record {
    boot = h.kept.boot;
    permanent = h.kept.permanent;
    each = h.kept.each;
    region = h.kept.region;
    registers = h.kept.registers;
    layer_kept = layer;
    few = few state;
    tasks = subst (λ n. TasksKept n ts (map (task_read tag index state) s.tasks)) (sym same_before) tasks;
    one_sends = once;
    wanted = subst (λ (ps : List Pin). (n k : ℕ) → wanted_kept ps n k
        ≡ wanted_by k (task_of n (map (task_read tag index state) s.tasks))) (sym are)
        (wanted_now state ends);
    claims =
        subst (λ n. AreClaimed after (claims_of n (map (task_read tag index state) s.tasks))) (sym numbers)
        (subst (AreClaimed after) (sym (claims_now state)) same);
    shorts = same_shorts (numbers_of s) (over ending).numbers before (before_accepted (over ending).ledger) d.shorts
        s.shorts numbers same_before h.kept.shorts;
    volatile = h.kept.volatile;
  }

  pub right_keeps : (page : Tag) (body : List ℕ) → s.translation.disk.cells place ≡ GroupPage page body →
      layer_kept.Describes after (over ReadRight) →
      Keeps (told (record d { ftl = after }) (ended.Read tag index (Some body)))
      (read_state s tag index WasRead s.array (over ReadRight))
  right_keeps page body cell layer =
      keeps_then WasRead ReadRight (map (after_read tag index body) d.tasks) refl refl refl refl layer
      (tasks_read before tag index s.tasks h.tied.tasks.tasks_differ reading body
      (whole_read s place page body h.tied cell) (content_read d s tag index place page body h w reading cell) d.tasks
      h.kept.tasks)
      (each_sends (after_read tag index body) (read_sends tag index body) d.tasks h.kept.one_sends)

  pub wrong_keeps : layer_kept.Describes after (over ReadWrong) →
      Keeps (told (record d { ftl = after }) (ended.Read tag index None))
      (read_state s tag index NotRead s.array (over ReadWrong))
  wrong_keeps layer =
      keeps_then NotRead ReadWrong (map (after_lost_read tag index) d.tasks) refl refl refl refl layer
      (tasks_lost before tag index s.tasks h.tied.tasks.tasks_differ reading d.tasks h.kept.tasks)
      (each_sends (after_lost_read tag index) (lost_sends tag index) d.tasks h.kept.one_sends)

-- Each job

-- a job that is for no task is noted of none
none_noted : (s : State) (flight : Flight) (ending : Ending) → IsForNone flight → read_noted_after s flight ending ≡ s
none_noted s (Reading ForNobody place) ReadRight none = refl
none_noted s (Reading ForNobody place) ReadWrong none = refl
none_noted s (Reading ForNobody place) WentWell none = refl
none_noted s (Reading ForNobody place) (WentWrong cells) none = refl
none_noted s (Reading ForStep place) ReadRight none = refl
none_noted s (Reading ForStep place) ReadWrong none = refl
none_noted s (Reading ForStep place) WentWell none = refl
none_noted s (Reading ForStep place) (WentWrong cells) none = refl
none_noted s (Reading (ForRest number index) place) ReadRight none = refl
none_noted s (Reading (ForRest number index) place) ReadWrong none = refl
none_noted s (Reading (ForRest number index) place) WentWell none = refl
none_noted s (Reading (ForRest number index) place) (WentWrong cells) none = refl
none_noted s (Reading reader place) ending none = absurd none
none_noted s (Programming place cell) ending none = refl
none_noted s (Erasing spot) ending none = refl

moved_is : (t : Translation) (die : ℕ) (flight : Flight) (ending : Ending) → t.disk.flights die ≡ Some flight →
    moved t (EndJob die ending) ≡ job_ended t die flight ending
moved_is t die flight ending e = ap (λ (x : Option Flight). end_flight t die x ending) e

module _ (d : DeviceCore) (s : State) (die : ℕ) (left : Array) (after : Core) (e : EndedNow) (h : Describes d s)
    (claims : AreClaimed after (claims_of (numbers_of s) s.tasks)) where
  abbrev Reads : ℕ → ℕ → Place → Option Flight
  Reads tag index place = Some (Reading (ForTask tag index) place)

  -- if this job ends so and this is told of it, what is kept then is kept of the state behind it
  abbrev EndKeeps : Option Flight → Ending → Type 0
  EndKeeps x ending =
      s.translation.disk.flights die ≡ x → ending_fits x ending ≡ true → IsTold s.translation.disk.cells x ending e →
      layer_kept.Describes after (moved s.translation (EndJob die ending)) →
      Keeps (told (record d { ftl = after }) e) (ends_with s die x ending left)

  nothing_keeps : (flight : Flight) (ending : Ending) → IsForNone flight →
      s.translation.disk.flights die ≡ Some flight → e ≡ ended.Other →
      layer_kept.Describes after (moved s.translation (EndJob die ending)) →
      Keeps (told (record d { ftl = after }) e) (ends_with s die (Some flight) ending left)
  nothing_keeps flight ending none is other layer =
      subst (λ x. Keeps (told (record d { ftl = after }) x) (ends_with s die (Some flight) ending left)) (sym other)
      (subst (λ x. Keeps (record d { ftl = after })
      (with_moves (record x { array = array_after s flight ending left }) (EndJob die ending ∷ [])))
      (sym (none_noted s flight ending none))
      (layer_moves d after s (array_after s flight ending left) (moved s.translation (EndJob die ending)) h.kept layer
      claims (subst (Leaves s.translation) (sym (moved_is s.translation die flight ending is))
      (job_leaves s.translation die flight ending none))))

  task_keeps : (tag index : ℕ) (place : Place) (ending : Ending) → IsAwaited s.translation tag index place →
      EndKeeps (Reads tag index place) ending
  task_keeps tag index place ReadRight w is fit tells layer =
      let same = moved_is s.translation die (Reading (ForTask tag index) place) ReadRight is in
      subst (λ x. Keeps (told (record d { ftl = after }) x) (ends_with s die (Reads tag index place) ReadRight left))
      (sym tells.3)
      (subst (λ u. Keeps (told (record d { ftl = after }) (ended.Read tag index (Some tells.1)))
      (read_state s tag index WasRead s.array u)) (sym same)
      (right_keeps d s die tag index place after h w claims tells.0 tells.1 tells.2
      (subst (layer_kept.Describes after) same layer)))
  task_keeps tag index place ReadWrong w is fit tells layer =
      let same = moved_is s.translation die (Reading (ForTask tag index) place) ReadWrong is in
      subst (λ x. Keeps (told (record d { ftl = after }) x) (ends_with s die (Reads tag index place) ReadWrong left))
      (sym tells)
      (subst (λ u. Keeps (told (record d { ftl = after }) (ended.Read tag index None))
      (read_state s tag index NotRead s.array u))
      (sym same) (wrong_keeps d s die tag index place after h w claims (subst (layer_kept.Describes after) same layer)))
  task_keeps tag index place WentWell w is fit tells layer = absurd (false≢true fit)
  task_keeps tag index place (WentWrong cells) w is fit tells layer = absurd (false≢true fit)

  job_keeps : (x : Option Flight) (ending : Ending) →
      ((who : Reader) (place : Place) → s.translation.disk.flights die ≡ Some (Reading who place) →
      IsReadOf s.translation place who) →
      EndKeeps x ending
  job_keeps None ending reads is fit tells layer = absurd (false≢true fit)
  job_keeps (Some (Reading (ForTask tag index) place)) ending reads is fit tells layer =
      task_keeps tag index place ending (reads (ForTask tag index) place is) is fit tells layer
  job_keeps (Some (Reading ForNobody place)) ending reads is fit tells layer =
      nothing_keeps (Reading ForNobody place) ending tt is tells layer
  job_keeps (Some (Reading ForStep place)) ending reads is fit tells layer =
      nothing_keeps (Reading ForStep place) ending tt is tells layer
  job_keeps (Some (Reading (ForRest number index) place)) ending reads is fit tells layer =
      nothing_keeps (Reading (ForRest number index) place) ending tt is tells layer
  job_keeps (Some (Programming place cell)) ending reads is fit tells layer =
      nothing_keeps (Programming place cell) ending tt is tells layer
  job_keeps (Some (Erasing spot)) ending reads is fit tells layer =
      nothing_keeps (Erasing spot) ending tt is tells layer

-- the job is told, and then the lock
pub ends_right : (d full new : DeviceCore) (s : State) (die : ℕ) (o : Outcome) (ending : Ending) (left : Array)
    (after : Core)
    (e : EndedNow) → Describes d s → IsEndingOf s.translation.disk.cells (s.translation.disk.flights die) o ending →
    MayLeave s die ending left → layer_kept.Describes after (moved s.translation (EndJob die ending)) →
    AreClaimed after (claims_of (numbers_of s) s.tasks) →
    IsTold s.translation.disk.cells (s.translation.disk.flights die) ending e →
    ((who : Reader) (place : Place) → s.translation.disk.flights die ≡ Some (Reading who place) →
    IsReadOf s.translation place who) →
    HasFilled (told (record d { ftl = after }) e) full →
    ((t : Translation) → layer_kept.Describes full.ftl t → new ≡ lock_told t full) →
    IsAnswered s (Done die ending left) (OfDone true) new
ends_right d full new s die o ending left after e h is leaves layer claims tells reads filled told_then =
    let fit = meant_fits s.translation.disk.cells (s.translation.disk.flights die) o ending is in
    answered_told d (told (record d { ftl = after }) e) full new s (Done die ending left) (OfDone true) h leaves
    (sym fit)
    (right_keeps_tied (job_right s die (s.translation.disk.flights die) ending left first) first)
    (job_keeps d s die left after e h claims (s.translation.disk.flights die) ending reads refl fit tells layer)
    filled told_then
  where
    first : IsTied (job_over s die (s.translation.disk.flights die) ending left)
    first = first_keeps (Done die ending left) (OfDone true) h.tied leaves
        (sym (meant_fits s.translation.disk.cells (s.translation.disk.flights die) o ending is))
