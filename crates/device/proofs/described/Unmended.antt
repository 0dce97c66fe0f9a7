-- Until the device is mended no task waits for commands, so the tasks do not read from which number groups count.
use Rattle.device.proofs.Common.{All, All-cons, All-nil, Answering, Awaiting, Bool, Deed, DeedFits, DeedsFit, Gathering}
use Rattle.device.proofs.Common.{IsDoing, IsTold, IsToldIn, List, Numbers, OpenTask, Phase, ReadingArea, Sending}
use Rattle.device.proofs.Common.{SendingBytes, Some, TasksKept, [], claim_of, false, false≢true, is_task_of, subst}
use Rattle.device.proofs.Common.{task_of, true, ℕ, ◌∷◌, ◌≡◌}
use Rattle.ufs_spec.specs.Exchanges as exchange
use Rattle.ufs_spec.specs.Exchanges.{Comparing}
use Rattle.power_loss.proofs.open_tasks.TaggedLists.{each_found}
use Rattle.task_set.specs.declared.tasks.Phase.TheVariants as phase

-- What waits is told nothing new

deed_told : (n : Numbers) (accepted claimed total count : ℕ) (deed : Deed) →
    DeedFits n accepted false claimed total deed → IsToldIn count deed
deed_told n accepted claimed total count (Awaiting commands) h = absurd (false≢true h.1)
deed_told n accepted claimed total count (Gathering purpose gathered asked) h = tt
deed_told n accepted claimed total count (Sending blocks sent) h = tt
deed_told n accepted claimed total count (SendingBytes bytes) h = tt
deed_told n accepted claimed total count (ReadingArea pages) h = tt
deed_told n accepted claimed total count (Comparing blocks compared asked) h = tt
deed_told n accepted claimed total count (Answering status carried) h = tt

pub none_waits : (n : Numbers) (accepted count : ℕ) (us : List exchange.Task) → DeedsFit n accepted false us →
    All (IsTold count) us
none_waits n accepted count [] h = All-nil (IsTold count)
none_waits n accepted count (y ∷ us) h =
    All-cons (IsTold count) y us (deed_told n accepted (claim_of n y) y.length count y.deed h.0)
    (none_waits n accepted count us h.1)

-- Groups may count from another number

doing_else : (n : Numbers) (accepted claimed total before other expected : ℕ) (p : Phase) (deed : Deed) →
    DeedFits n accepted false claimed total deed → IsDoing before expected total p deed →
    IsDoing other expected total p deed
doing_else n accepted claimed total before other expected (phase.AwaitFrontier m size) (Awaiting commands) fits h =
    absurd (false≢true fits.1)
doing_else n accepted claimed total before other expected (phase.Ask w) (Gathering purpose gathered asked) fits h = h
doing_else n accepted claimed total before other expected (phase.Await w) (Gathering purpose gathered asked) fits h = h
doing_else n accepted claimed total before other expected (phase.SendHeld size) (SendingBytes bytes) fits h = h
doing_else n accepted claimed total before other expected (phase.SendBlocks x) (Sending blocks sent) fits h = h
doing_else n accepted claimed total before other expected (phase.ReadArea r) (ReadingArea pages) fits h = h
doing_else n accepted claimed total before other expected (phase.Verify x) (ReadingArea pages) fits h = h
doing_else n accepted claimed total before other expected (phase.AskBlock x) (Comparing blocks compared asked) fits
    h = h
doing_else n accepted claimed total before other expected (phase.AwaitBlock x) (Comparing blocks compared asked) fits
    h = h
doing_else n accepted claimed total before other expected (phase.Answer told m) (Comparing blocks compared asked) fits
    h = h
doing_else n accepted claimed total before other expected (phase.Answer told m) (Answering x carried) fits h = h
doing_else n accepted claimed total before other expected (phase.Answer told m) (Sending blocks sent) fits h = h
doing_else n accepted claimed total before other expected p deed fits h = absurd h

pub kept_else : (n : Numbers) (accepted before other : ℕ) (ts : List OpenTask) (us : List exchange.Task) →
    DeedsFit n accepted false us → TasksKept before ts us → TasksKept other ts us
kept_else n accepted before other [] [] fits h = tt
kept_else n accepted before other (x ∷ ts) (y ∷ us) fits h = (
  record {
    lun = h.0.lun;
    tag = h.0.tag;
    expected = h.0.expected;
    brings = h.0.brings;
    gathers = h.0.gathers;
    asked_of = h.0.asked_of;
    request = h.0.request;
    asks = h.0.asks;
    fits = h.0.fits;
    doing = doing_else n accepted (claim_of n y) y.length before other x.expected x.phase y.deed fits.0 h.0.doing;
    read = h.0.read;
  },
  kept_else n accepted before other ts us fits.1 h.1,
)
kept_else n accepted before other ts us fits h = absurd h

-- What waits finds the device mended

abbrev Fits : Numbers → ℕ → Bool → exchange.Task → Type 0
Fits n accepted mended task = DeedFits n accepted mended (claim_of n task) task.length task.deed

pub waits_mended : (n : Numbers) (accepted : ℕ) (mended : Bool) (us : List exchange.Task) (b : exchange.Task)
    (tag commands : ℕ) → DeedsFit n accepted mended us → task_of tag us ≡ Some b → b.deed ≡ Awaiting commands →
    mended ≡ true
waits_mended n accepted mended us b tag commands fits found deed =
    (subst (DeedFits n accepted mended (claim_of n b) b.length) deed
    (each_found (Fits n accepted mended) (is_task_of tag) us b fits found)).1
