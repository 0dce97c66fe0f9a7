-- A COMMAND opens a task: what the device keeps then is kept of the state with the new task.
use Rattle.device.specs.Describes.{BringsFor}
use Rattle.device.proofs.Common.{All, All-head, All-tail, AreClaimed, Bool, Cdb, Claim, Core, Deed, Describes}
use Rattle.device.proofs.Common.{DeviceCore, Gathering, HaveAnswered, IsLayerWith, IsTold, IsToldIn, Keeps, List, None}
use Rattle.device.proofs.Common.{Numbers, OneSends, OpenTask, Option, Pin, Purpose, Request, ShowsRight, Some, State}
use Rattle.device.proofs.Common.{TaskKept, TasksKept, Translation, [], ap, arith, before_accepted, claimed_by}
use Rattle.device.proofs.Common.{claimed_in, claims_of, durable, eqb-true, false, is_sender, is_to_fill, keeps_for}
use Rattle.device.proofs.Common.{length, length-append, list_any, locked, most_tasks, moved, none-some, numbers_of}
use Rattle.device.proofs.Common.{refl, regions, sends_frames, sends_frames_to, subst, sym, task_of, true, true≢false}
use Rattle.device.proofs.Common.{wanted_in, wanted_kept, with_claimed, with_moves, with_task, ℕ, ◌++◌, ◌<◌, ◌==◌, ◌||◌}
use Rattle.device.proofs.Common.{◌∙◌, ◌∷◌, ◌≡◌}
use Rattle.std.proofs.lemmas.List.Elements.{All-push}
use Rattle.ufs_spec.specs.Exchanges as exchange
use Rattle.ufs_spec.specs.Machine as machine
use Rattle.ufs_spec.specs.declared.scsi.Cdb.TheVariants as cdb
use Rattle.ftl_core.specs.Public as layer_kept
use Rattle.device.specs.Describes.{claimed_for}
use Rattle.device.proofs.described.Answered.{IsBehind}
use Rattle.device.proofs.open_tasks.KeptByTag.{WantedFor, claimed_same, claims_more, one_comes}
use Rattle.device.proofs.described.OneSender.{one_more_sends}
use Rattle.device.proofs.described.ShortExchanges.{same_shorts}
use Rattle.device.proofs.described.Settled.{SameAtHand, none_stay, still_answered}
use Rattle.device.proofs.open_tasks.OpenTasks.{one_more}

-- the specified task that is opened
abbrev pub opened : Request → Option Cdb → ℕ → Deed → exchange.Task
opened r command n deed =
    record {
      lun = r.lun;
      tag = r.tag;
      expected = r.expected;
      command = command;
      length = n;
      deed = deed;
      request = None;
    }

-- a command that brings no frames brings none to a region
-- a command that brings no frames names no region
never_in : (region : ℕ) (command : Option Cdb) → sends_frames command ≡ false → sends_frames command ≡ true →
    region < regions
never_in region command quiet e = absurd (true≢false (sym e ∙ quiet))

quiet_here : (region : ℕ) (command : Option Cdb) → sends_frames command ≡ false →
    sends_frames_to region command ≡ false
quiet_here region None quiet = refl
quiet_here region (Some (cdb.SecurityOut other size)) quiet = absurd (true≢false quiet)
quiet_here region (Some command) quiet = refl

pub brings_none : (region : ℕ) (command : Option Cdb) → sends_frames command ≡ false → BringsFor region false command
brings_none region command quiet = record {
  sends = quiet;
  in_regions = never_in region command quiet;
  sends_to = λ other. quiet_here other command quiet;
}

-- the deed of a task without a request tells of no block
pub record TellsNothing (deed : Deed) : Type 0 where
  pub wanted : (index : ℕ) → wanted_in index None deed ≡ None
  pub claimed : (m : Numbers) (total : ℕ) → claimed_in m total deed ≡ []

-- what is wanted for the tag is what its deed tells, and for other tags nothing changes
pub record TagBegins (before : List Pin) (tag : ℕ) (deed : Deed) (pins : List Pin) : Type 0 where
  pub wanted : (index : ℕ) → wanted_kept pins tag index ≡ wanted_in index None deed
  pub others_want : (n index : ℕ) → (n == tag) ≡ false → wanted_kept pins n index ≡ wanted_kept before n index

module _ (d : DeviceCore) (s : State) (r : Request) (h : Describes d s) (free : task_of r.tag s.tasks ≡ None)
    (few : length s.tasks < most_tasks) where
  -- nothing is kept for the tag
  pub none_wanted : WantedFor s.translation.pins r.tag None
  none_wanted = subst (WantedFor s.translation.pins r.tag) free (h.kept.wanted r.tag)

  pub none_claimed : claims_of (numbers_of s) s.tasks r.tag ≡ []
  none_claimed = ap (claimed_by (numbers_of s)) free

  -- where its deed claims nothing, what is claimed stays
  pub still_claimed : (after : Core) (total : ℕ) (deed : Deed) → claimed_in (numbers_of s) total deed ≡ [] →
      AreClaimed after (claims_of (numbers_of s) s.tasks) →
      AreClaimed after (with_claimed (claims_of (numbers_of s) s.tasks) r.tag (claimed_in (numbers_of s) total deed))
  still_claimed after total deed none =
      subst (AreClaimed after)
      (sym (claimed_same (claims_of (numbers_of s) s.tasks) r.tag (claimed_in (numbers_of s) total deed) (none_claimed ∙ sym none)))

  nobody_in : (pins : List Pin) → All (ShowsRight s.translation.ledger s.tasks) pins →
      list_any (keeps_for r.tag) pins ≡ false
  nobody_in [] shows = refl
  nobody_in (pin ∷ pins) shows =
      by (pin.tag == r.tag) refl (nobody_in pins (All-tail (ShowsRight s.translation.ledger s.tasks) pin pins shows))
    where
      by : (b : Bool) → (pin.tag == r.tag) ≡ b → list_any (keeps_for r.tag) pins ≡ false →
          (b || list_any (keeps_for r.tag) pins) ≡ false
      by false e rest = rest
      by true e rest =
          let its = All-head (ShowsRight s.translation.ledger s.tasks) pin pins shows in
          absurd (none-some its.task (sym free ∙ (ap (λ n. task_of n s.tasks) (sym (eqb-true pin.tag r.tag e))
          ∙ its.there)))

  pub nobody : list_any (keeps_for r.tag) s.translation.pins ≡ false
  nobody = nobody_in s.translation.pins h.shows

  -- where the new task brings frames no other does
  pub sends_once : (a : OpenTask) → (is_sender a ≡ true → list_any is_sender d.tasks ≡ false) →
      OneSends (d.tasks ++ a ∷ [])
  sends_once a alone = one_more_sends d.tasks a alone h.kept.one_sends

  pub open_keeps : (c : Core) (u : Translation) (command : Option Cdb) (n : ℕ) (deed : Deed) (a : OpenTask) →
      layer_kept.Describes c u → u.numbers ≡ s.translation.numbers →
      before_accepted u.ledger ≡ before_accepted s.translation.ledger →
      TagBegins s.translation.pins r.tag deed u.pins →
      AreClaimed c (with_claimed (claims_of (numbers_of s) s.tasks) r.tag (claimed_in (numbers_of s) n deed)) →
      TaskKept (before_accepted s.translation.ledger) a (opened r command n deed) →
      (is_sender a ≡ true → list_any is_sender d.tasks ≡ false) →
      Keeps (with_task (record d { ftl = c }) a) (machine.with_task (record s { translation = u }) r command n deed)
  open_keeps c u command n deed a layer numbers before begins claims task alone = record {
    boot = h.kept.boot;
    permanent = h.kept.permanent;
    each = h.kept.each;
    region = h.kept.region;
    registers = h.kept.registers;
    layer_kept = layer;
    few = (let more = length-append s.tasks (b ∷ []) in omega arith);
    tasks = subst (λ m. TasksKept m (d.tasks ++ a ∷ []) (s.tasks ++ b ∷ [])) (sym before)
        (one_more (before_accepted s.translation.ledger) d.tasks s.tasks a b h.kept.tasks task);
    one_sends = sends_once a alone;
    wanted =
        one_comes s.translation.pins u.pins s.tasks b h.kept.wanted free begins.wanted
        (λ tag other index. begins.others_want tag index other);
    claims =
        subst (λ m. AreClaimed c (claims_of m (s.tasks ++ b ∷ []))) (sym numbers)
        (subst (AreClaimed c) (sym (claims_more (numbers_of s) s.tasks b free)) claims);
    shorts = same_shorts (numbers_of s) u.numbers (before_accepted s.translation.ledger) (before_accepted u.ledger)
        d.shorts s.shorts numbers before h.kept.shorts;
    volatile = h.kept.volatile;
  }
    where
      b : exchange.Task
      b = opened r command n deed

  -- where the device is locked the new task waits for durable commands alone
  pub open_told : (command : Option Cdb) (n : ℕ) (deed : Deed) → (locked s ≡ true → IsToldIn (durable s) deed) →
      locked s ≡ true → All (IsTold (durable s)) (s.tasks ++ opened r command n deed ∷ [])
  open_told command n deed new lock =
      All-push (IsTold (durable s)) s.tasks (opened r command n deed) (h.told lock) (new lock)

  -- a task that is opened has no request, and of the others none becomes due
  pub open_answered : (u : Translation) (command : Option Cdb) (n : ℕ) (deed : Deed) →
      ((tag : ℕ) → (tag == r.tag) ≡ false → SameAtHand s.translation u tag) →
      durable (record s { translation = u }) ≡ durable s →
      HaveAnswered (machine.with_task (record s { translation = u }) r command n deed)
  open_answered u command n deed stay same =
      All-push (λ task. is_to_fill v task ≡ false) s.tasks (opened r command n deed)
      (still_answered s v s.tasks (none_stay s.translation u r.tag s.tasks free stay) same h.answered) refl
    where
      v : State
      v = machine.with_task (record s { translation = u }) r command n deed

  -- where the layer stays
  pub opens_still : (c : Core) (command : Option Cdb) (n : ℕ) (deed : Deed) (a : OpenTask) →
      IsLayerWith c s.translation (claims_of (numbers_of s) s.tasks) → TellsNothing deed →
      (locked s ≡ true → IsToldIn (durable s) deed) →
      TaskKept (before_accepted s.translation.ledger) a (opened r command n deed) →
      (is_sender a ≡ true → list_any is_sender d.tasks ≡ false) →
      IsBehind (with_task (record d { ftl = c }) a) (machine.with_task s r command n deed)
  opens_still c command n deed a layer none new task alone = record {
    keeps =
        open_keeps c s.translation command n deed a layer.0 refl refl
        (record {
          wanted = λ index. none_wanted index ∙ sym (none.wanted index);
          others_want = λ m index other. refl;
        })
        (still_claimed c n deed (none.claimed (numbers_of s) n) layer.1) task alone;
    answered = open_answered s.translation command n deed (λ tag other index. refl) refl;
    told = open_told command n deed new;
    shorts_told = h.shorts_told;
  }

  -- where it claims slots and gathers what comes
  pub opens_gathering : (c : Core) (command : Option Cdb) (n slots : ℕ) (purpose : Purpose) (a : OpenTask) →
      IsLayerWith c (moved s.translation (Claim slots))
      (with_claimed (claims_of (numbers_of s) s.tasks) r.tag (claimed_for (numbers_of s) n purpose [])) →
      TaskKept (before_accepted s.translation.ledger) a (opened r command n (Gathering purpose [] false)) →
      (is_sender a ≡ true → list_any is_sender d.tasks ≡ false) →
      IsBehind (with_task (record d { ftl = c }) a)
      (machine.with_task (with_moves s (Claim slots ∷ [])) r command n (Gathering purpose [] false))
  opens_gathering c command n slots purpose a layer task alone = record {
    keeps =
        open_keeps c (moved s.translation (Claim slots)) command n (Gathering purpose [] false) a layer.0 refl refl
        (record { wanted = none_wanted; others_want = λ m index other. refl }) layer.1 task alone;
    answered =
        open_answered (moved s.translation (Claim slots)) command n (Gathering purpose [] false)
        (λ tag other index. refl) refl;
    told = open_told command n (Gathering purpose [] false) (λ l. tt);
    shorts_told = h.shorts_told;
  }
