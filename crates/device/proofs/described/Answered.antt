-- A call is answered rightly if its answer is right and what the device keeps is kept of the state behind the call:
-- what became due fills its register there and the lock is told, and nothing else is to be shown of a call.
use Rattle.device.proofs.Common.{AreaReads, Call, Describes, DeviceCore, Done, FramesWait, HasFilled, HaveAnswered}
use Rattle.device.proofs.Common.{Host, IsAnswered, IsTied, Keeps, Reply, ShowsReads, State, Take, Translation, Turn, ap}
use Rattle.device.proofs.Common.{fills, lock_applied, lock_told, observe, subst, sym, ◌∙◌, ◌≡◌}
use Rattle.ufs_spec.specs.Machine.{Allowed, Answer, behind}
use Rattle.power_loss.specs.Exchange.{MayCome}
use Rattle.power_loss.proofs.area_reads.AreaStays.{behind_reads, call_reads}
use Rattle.power_loss.proofs.calls.CallsKeepTied.{call_keeps}
use Rattle.power_loss.proofs.spoken_replies.FramesStay.{behind_frames, call_waits}
use Rattle.ufs_laws.specs.Exchange.{IsSpoken}
use Rattle.power_loss.proofs.shown_blocks.LivesShowBlocks.{behind_shows, call_shows}
pub use Rattle.device.specs.Describes.{IsBehind}
use Rattle.device.proofs.described.Filled.{keeps_filled}
use Rattle.device.proofs.described.Settled.{fills_nothing}
use Rattle.ftl_core.specs.Public as layer_kept
use Rattle.device.proofs.described.LockTold.{describes_told, lock_stays}

-- Calls

-- what is heard is spelled by bytes
spoken : (s : State) (call : Call) → MayCome s call → IsSpoken call
spoken s (Host heard) may = may
spoken s (Take die) may = tt
spoken s (Done die ending left) may = tt
spoken s Turn may = tt
spoken s Reply may = tt

-- a call behind which what became due fills its register, and then the lock is told
pub answered_told : (d e f new : DeviceCore) (s : State) (call : Call) (answer : Answer) → Describes d s →
    MayCome s call →
    Allowed s call answer → IsTied (behind s call answer) → Keeps e (behind s call answer) → HasFilled e f →
    ((t : Translation) → layer_kept.Describes f.ftl t → new ≡ lock_told t f) → IsAnswered s call answer new
answered_told d e f new s call answer h may right tied k filled told =
    let v = behind s call answer in
    let u = fills v in
    let its = keeps_filled e f v tied (behind_shows call answer h.tied may right h.shows)
    (behind_frames call answer h.tied (spoken s call may) right h.waits) (behind_reads call answer h.tied h.reads) k
    filled in
    record {
      right = right;
      describes =
          subst (λ (x : DeviceCore). Describes x (observe s call answer)) (sym (told u.translation its.0.layer_kept))
          (describes_told f u (call_keeps s call answer h.tied may right)
          (call_shows s call answer h.tied may right h.shows)
          (call_waits call answer h.tied (spoken s call may) right h.waits)
          (call_reads call answer h.tied h.reads) its.0 its.1);
    }

-- a call behind which no request is to fill its register, and then the lock is told
pub answered_locked : (d e new : DeviceCore) (s : State) (call : Call) (answer : Answer) → Describes d s →
    MayCome s call → Allowed s call answer → Keeps e (behind s call answer) → HaveAnswered (behind s call answer) →
    ((t : Translation) → layer_kept.Describes e.ftl t → new ≡ lock_told t e) → IsAnswered s call answer new
answered_locked d e new s call answer h may right k none told =
    let v = behind s call answer in
    let is = ap lock_applied (fills_nothing v none) in
    record {
      right = right;
      describes =
          subst (λ (x : DeviceCore). Describes x (observe s call answer)) (sym (told v.translation k.layer_kept))
          (subst (Describes (lock_told v.translation e)) (sym is)
          (describes_told e v (subst IsTied is (call_keeps s call answer h.tied may right))
          (subst ShowsReads is (call_shows s call answer h.tied may right h.shows))
          (subst FramesWait is (call_waits call answer h.tied (spoken s call may) right h.waits))
          (subst AreaReads is (call_reads call answer h.tied h.reads)) k none));
    }

-- such a call
pub answered : (d e : DeviceCore) (s : State) (call : Call) (answer : Answer) → Describes d s → MayCome s call →
    Allowed s call answer →
    IsBehind e (behind s call answer) → IsAnswered s call answer e
answered d e s call answer h may right b =
    let v = behind s call answer in
    let is = ap lock_applied (fills_nothing v b.answered) ∙ lock_stays v b.told b.shorts_told in
    record {
      right = right;
      describes =
          subst (Describes e) (sym is)
          (record {
            tied = subst IsTied is (call_keeps s call answer h.tied may right);
            shows = subst ShowsReads is (call_shows s call answer h.tied may right h.shows);
            waits = subst FramesWait is (call_waits call answer h.tied (spoken s call may) right h.waits);
            reads = subst AreaReads is (call_reads call answer h.tied h.reads);
            kept = b.keeps;
            answered = b.answered;
            told = b.told;
            shorts_told = b.shorts_told;
          });
    }

-- where the state behind the call is told as another
pub answered_as : (d e : DeviceCore) (s v : State) (call : Call) (answer : Answer) → Describes d s → MayCome s call →
    Allowed s call answer →
    behind s call answer ≡ v → IsBehind e v → IsAnswered s call answer e
answered_as d e s v call answer h may right is b =
    answered d e s call answer h may right (subst (IsBehind e) (sym is) b)

-- a state that stays
pub stays : (d : DeviceCore) (s : State) → Describes d s → IsBehind d s
stays d s h = record { keeps = h.kept; answered = h.answered; told = h.told; shorts_told = h.shorts_told }
