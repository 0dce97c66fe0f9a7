-- In a state that is tied to its dies and commands each call keeps what tasks need for their replies.
use Rattle.power_loss.proofs.Common.{All, All-head, All-tail, Array, Bool, IsKey, List, Numbers, Shape, Some, Spot, []}
use Rattle.power_loss.proofs.Common.{ap, arith, config_tests, data_key, flat_map, length, length-append, ranges, refl}
use Rattle.power_loss.proofs.Common.{shape_after, shape_of_numbers, subst, sym, ℕ, ◌*◌, ◌+◌, ◌∙◌, ◌∷◌, ◌≡◌}
use Rattle.power_loss.proofs.MachineWords.{Allowed, Answer, AreBytes, Call, Event, Every, IsOpened, IsSpoken, IsTied}
use Rattle.power_loss.proofs.MachineWords.{Leads, Life, Output, State, TaskSpeaks, ValidState, address_of, numbers_of}
use Rattle.power_loss.proofs.MachineWords.{observe, plain_now, unit_of_request, unit_or_first}
use Rattle.ufs_laws.proofs.plain_contents.CommandsKeepPlain.{all_kept_plain}
use Rattle.ufs_laws.proofs.exchanges.TasksSpeak.{FewUnits, FramesFit, ReadsFit, SetsOne, SetsRequest, speaks_law}
use Rattle.ufs_laws.proofs.pages.ByteLists.{bytes-append, bytes-nil}
use Rattle.power_loss.specs.WaitingFrames.{FramesWait, IsFrameSaid, TasksSpeak}
use Rattle.power_loss.proofs.spoken_replies.FramesStay.{call_waits, opened_frames}
use Rattle.ufs_laws.proofs.plain_contents.PlainFromContents.{content_is_block}
use Rattle.ufs_laws.proofs.walk.TaskLaws.{Any, any_asks, tasks_kept}
use Rattle.ufs_laws.proofs.exchanges.SpokenCalls.{spoken}
use Rattle.power_loss.proofs.calls.CallsKeepTied.{spelled_is}
use Rattle.power_loss.proofs.host_commands.PassedCommands.{Passed, passed}
use Rattle.power_loss.proofs.host_commands.ReadBlocks.{key_read, reads_in}
use Rattle.ufs_spec.specs.Refusals.{needs_blocks}
use Rattle.power_loss.proofs.open_tasks.TaskLists.{each_at_tag, each_set}

sets_one : (s : State) → IsTied s → SetsOne s
sets_one s v task deed found all p = each_set TaskSpeaks task.tag deed s.tasks v.tasks.tasks_differ found p all

-- What is read

-- of the unit that is read, also if that is the boot unit
reads_fit : (s : State) → IsTied s → ReadsFit s
reads_fit s v r c n is e refused reads size i low =
    content_is_block (plain_now s) (all_kept_plain s.base s.accepted v.base.0 v.commands)
    (data_key (unit_or_first (unit_of_request s r)) (address_of c + i))
    (subst (λ (z : Shape). IsKey z (data_key (unit_or_first (unit_of_request s r)) (address_of c + i)))
    (sym (shape_after s.base s.accepted v.commands ∙ v.base.1)) key)
  where
    p : Passed s r c
    p = passed s r c e refused

    key : IsKey (shape_of_numbers (numbers_of s)) (data_key (unit_or_first (unit_of_request s r)) (address_of c + i))
    key =
        key_read size (reads_in r.bytes c (spelled_is r.cdb c r.bytes is.1.2 e) (ap needs_blocks reads)) p i low

-- What waits in registers

-- so many frames have 512 bytes each
joined_frames : (fs : List (List ℕ)) → All IsFrameSaid fs →
    (length (flat_map (λ (frame : List ℕ). frame) fs) ≡ 512 * length fs)
    × AreBytes (flat_map (λ (frame : List ℕ). frame) fs)
joined_frames [] each = (refl, bytes-nil)
joined_frames (f ∷ fs) each =
    let first = All-head IsFrameSaid f fs each in
    let rest = joined_frames fs (All-tail IsFrameSaid f fs each) in
    let size = first.0 in
    let more = rest.0 in
    let joined = length-append f (flat_map (λ (frame : List ℕ). frame) fs) in
    (omega (arith, joined, size, more), bytes-append f (flat_map (λ (frame : List ℕ). frame) fs) first.1 rest.1)

frames_fit : (s : State) → FramesWait s → FramesFit s
frames_fit s h region =
    let r = h.registers_hold region in
    let all = joined_frames (s.registers region).response r.response in
    let size = all.0 in
    let few = r.few in
    (omega (arith, size, few), all.1)

few_units : (s : State) → IsTied s → FewUnits s
few_units s v = let few = (ranges (numbers_of s) (config_tests (numbers_of s) v.config).0).units_bound in omega arith

sets_request : (s : State) → IsTied s → SetsRequest s
sets_request s v task request deed found all p =
    each_at_tag TaskSpeaks task.tag (λ x. record x { deed = deed; request = Some request }) s.tasks
    v.tasks.tasks_differ found (record {
      lun = p.lun;
      tag = p.tag;
      expected = p.expected;
      length = p.length;
      deed = p.deed;
    }) all

-- Every call

pub each_speaks : (s : State) (call : Call) (answer : Answer) → IsTied s → IsSpoken call → Allowed s call answer →
    TasksSpeak s → TasksSpeak (observe s call answer)
each_speaks s call answer v is may h = record {
  tasks = tasks_kept TaskSpeaks (λ task deed. TaskSpeaks (record task { deed = deed })) Any s
      (speaks_law s (sets_one s v) (sets_request s v) (reads_fit s v) (few_units s v) (frames_fit s h.frames)) h.tasks
      call
      answer is (any_asks call) may;
  frames = call_waits call answer v is may h.frames;
}

pub event_speaks : {s t : State} {e : Event} {o : Output} → ValidState s → Leads s e o t → TasksSpeak s → TasksSpeak t
event_speaks {s = s} {e = e} v l all =
    subst TasksSpeak (sym l.next) (each_speaks s l.call l.answer v.tied (spoken s e l.call l.is_call) l.right all)

pub life_speaks : ((s t : State) (e : Event) (o : Output) → ValidState s → Leads s e o t → ValidState t) →
    (s : State) (es : List Event) (os : List Output) (t : State) → ValidState s → TasksSpeak s → Life s es os t →
    TasksSpeak t
life_speaks keeps s [] [] t v all life = subst TasksSpeak (sym life) all
life_speaks keeps s (e ∷ es) (o ∷ os) t v all life =
    life_speaks keeps life.0 es os t (keeps s life.0 e o v life.1) (event_speaks v life.1 all) life.2
life_speaks keeps s [] (o ∷ os) t v all life = absurd life
life_speaks keeps s (e ∷ es) [] t v all life = absurd life

pub opened_speaks : (n : Numbers) (array : Array) (bad : Spot → Bool) (s : State) → IsOpened n array bad s →
    TasksSpeak s
opened_speaks n array bad s h =
    record { tasks = subst (Every TaskSpeaks) (sym h.no_tasks) tt; frames = opened_frames n array bad s h }
