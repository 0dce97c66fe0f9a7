-- A block of a WRITE comes: the next one is asked for, and the last one completes the WRITE.
use Rattle.ufs_spec.specs.Exchanges.{to_gather}
use Rattle.device.proofs.Common.{AreBytes, AreClaimed, Bool, Claims, Core, Deed, Describes, DeviceCore, ForWrite}
use Rattle.device.proofs.Common.{FramesFit, Gathering, HasTaken, IsDoing, IsLayerWith, Keeps, List, None, Purpose, Some}
use Rattle.device.proofs.Common.{State, TaskEvent, Wanted, ap, arith, before_accepted, blocks_gathered, claims_of, cond}
use Rattle.device.proofs.Common.{data_heard, data_key, false, le-ltb, length, length-append, nat_lt, numbers_of}
use Rattle.device.proofs.Common.{read_in, refl, set_deed, subst, sym, task_of, true, wanted_block, with_block}
use Rattle.device.proofs.Common.{with_claimed, ℕ, ◌*◌, ◌++◌, ◌+◌, ◌-◌, ◌<◌, ◌∙◌, ◌≡◌}
use Rattle.std.proofs.lemmas.Bool.{lt-ltb, ltb-false, ltb-true}
use Rattle.ufs_spec.specs.Machine.{data_for, gathered_more, write_complete}
use Rattle.ufs_laws.proofs.pages.ByteLists.{bytes-append}
use Rattle.task_set.specs.Tasks.{asked_next}
use Rattle.task_set.specs.declared.tasks.Phase.TheVariants as phase
use Rattle.task_set.specs.declared.tasks.TaskEvent.TheVariants as event
use Rattle.device.specs.Calls.{HasGathered, HasGatheredThen}
use Rattle.device.proofs.due_replies.ReplyMoves.{few_set}
use Rattle.device.proofs.host_messages.BlocksGathered.{GathersBlocks, core_then, does, fits, frames_are, its_claims}
use Rattle.device.proofs.host_messages.BlocksGathered.{sends_once, slots_filled, still_wanted}
use Rattle.device.proofs.host_messages.LastBlock.{completes}
use Rattle.device.proofs.open_tasks.OpenTasks.{Stands}

module _ (d : DeviceCore) (s : State) (tag : ℕ) (bytes : List ℕ) (w : Wanted) (h : Describes d s)
    (r : Stands (before_accepted s.translation.ledger) tag d.tasks s.tasks) (at : r.a.phase ≡ phase.Await w)
    (g : GathersBlocks w r.b.length r.b.deed) (long : length bytes ≡ 4096) where
  abbrev purpose : Purpose
  purpose = ForWrite g.unit g.address g.blocks g.forced

  -- what came, with the block
  abbrev all : List ℕ
  all = g.gathered ++ bytes

  all_length : length all ≡ 4096 * (g.count + 1)
  all_length =
      let joined = length-append g.gathered bytes in
      let came = g.came in
      omega arith

  -- the claims with the block that came
  abbrev claims_now : Claims
  claims_now = with_block (claims_of (numbers_of s) s.tasks) r.b.tag (wanted_block w) bytes

  abbrev claims_then : Claims
  claims_then = with_claimed (claims_of (numbers_of s) s.tasks) r.b.tag (blocks_gathered g.blocks all)

  filled : claims_now ≡ claims_then
  filled = slots_filled d s tag w h r at g bytes long

  -- all that is to come
  whole : to_gather w.purpose w.length ≡ 4096 * g.blocks
  whole = ap (λ (p : Purpose). to_gather p w.length) g.purpose_is

  -- A block that is not the last

  abbrev next : Wanted
  next = record w { came = w.came + 4096 }

  -- more is to come, in bytes
  more_is : g.count + 1 < g.blocks → nat_lt 4096 (to_gather w.purpose w.length - w.came) ≡ true
  more_is more =
      let came = g.came_is in
      let total = whole in
      lt-ltb 4096 (to_gather w.purpose w.length - w.came) (omega arith)

  abbrev more_deed : Deed
  more_deed = Gathering purpose all false

  more_keeps : (after : Core) → IsLayerWith after s.translation claims_now → g.count + 1 < g.blocks →
      Keeps (core_then d r.k after event.BlockGathered) (set_deed s r.b.tag more_deed)
  more_keeps after layer more =
      record {
        boot = h.kept.boot;
        permanent = h.kept.permanent;
        each = h.kept.each;
        region = h.kept.region;
        registers = h.kept.registers;
        one_sends = sends_once d s tag w h r at g event.BlockGathered refl;
        layer_kept = layer.0;
        few = few_set d s r.k r.a r.b h r.opened more_deed;
        tasks =
            does d s tag w h r at g event.BlockGathered more_deed
            (subst
            (λ c. IsDoing (before_accepted s.translation.ledger) r.a.expected r.b.length
            (asked_next w (cond c (Some next) None)) more_deed)
            (sym less) (
              record {
                same = g.purpose_is;
                came = let came = all_length in let at = g.came_is in omega arith;
                total_is = g.size_is;
                so = (
                  g.count + 1,
                  (let at = g.came_is in omega arith),
                  more,
                );
              },
              refl,
            )) refl
            (subst (λ c. FramesFit (asked_next w (cond c (Some next) None)) r.a.frames r.a.held more_deed) (sym less)
            (frames_are d s tag w h r at g)) tt refl (ap read_in g.deed_is);
        wanted = still_wanted d s tag w h r at g more_deed (record { wanted = λ index request. refl; read = refl });
        claims =
            its_claims d s tag w h r at g after more_deed (blocks_gathered g.blocks all) refl
            (subst (AreClaimed after) filled layer.1);
        shorts = h.kept.shorts;
        volatile = h.kept.volatile;
      }
    where
      less : nat_lt 4096 (to_gather w.purpose w.length - w.came) ≡ true
      less = more_is more

  -- Either

  abbrev Then : Core → TaskEvent → Bool → Type 0
  Then after e more = HasGatheredThen after s.translation claims_now r.b.tag (data_key g.unit g.address) e (cond more (Some next) None)

  abbrev heard_at : Bool → State
  heard_at more = cond more (set_deed s r.b.tag more_deed)
      (write_complete s r.b g.unit g.address g.blocks g.forced all)

  -- where it is the last
  last_keeps : AreBytes bytes → (after : Core) (e : TaskEvent) → g.count + 1 ≡ g.blocks →
      HasTaken after s.translation claims_now r.b.tag (data_key g.unit g.address) e →
      Keeps (core_then d r.k after e) (heard_at false)
  last_keeps are after e last took =
      completes d s tag w h r at g all (bytes-append g.gathered bytes (fits d s tag w h r at g).bytes are)
      (let came = all_length in omega arith) after e
      (subst (λ (claims : Claims). HasTaken after s.translation claims r.b.tag (data_key g.unit g.address) e) filled took)

  pub block_keeps : AreBytes bytes → (after : Core) (e : TaskEvent) →
      HasGathered after s.translation (claims_of (numbers_of s) s.tasks) tag w (data_key g.unit g.address) bytes e →
      Keeps (core_then d r.k after e) (data_heard s (task_of tag s.tasks) bytes)
  block_keeps are after e did =
      subst (Keeps (core_then d r.k after e)) (sym path)
      (by (nat_lt 4096 (to_gather w.purpose w.length - w.came)) refl (subst
      (λ n. HasGathered after s.translation (claims_of (numbers_of s) s.tasks) n w (data_key g.unit g.address) bytes e)
      (sym r.tag_is) did))
    where
      path : data_heard s (task_of tag s.tasks) bytes ≡ gathered_more s r.b purpose all
      path = ap (λ o. data_heard s o bytes) r.found ∙ ap (λ (deed : Deed). data_for s r.b deed bytes) g.deed_is

      by : (more : Bool) → nat_lt 4096 (to_gather w.purpose w.length - w.came) ≡ more → Then after e (nat_lt 4096 (to_gather w.purpose w.length - w.came)) →
          Keeps (core_then d r.k after e) (heard_at (nat_lt (length all) (4096 * g.blocks)))
      by true is got =
          let less = ltb-true 4096 (to_gather w.purpose w.length - w.came) is in
          let its : Then after e true = subst (Then after e) is got in
          let came = all_length in
          let at = g.came_is in
          let total = whole in
          subst
          (λ b. Keeps (core_then d r.k after e) (heard_at b))
          (sym (lt-ltb (length all) (4096 * g.blocks) (omega arith)))
          (subst
          (λ (y : TaskEvent). Keeps (core_then d r.k after y) (heard_at true)) (sym its.0)
          (more_keeps after its.1 (omega arith)))
      by false is got =
          let most = ltb-false 4096 (to_gather w.purpose w.length - w.came) is in
          let its : Then after e false = subst (Then after e) is got in
          let came = all_length in
          let at = g.came_is in
          let total = whole in
          let more = g.more in
          subst
          (λ b. Keeps (core_then d r.k after e) (heard_at b))
          (sym (le-ltb (length all) (4096 * g.blocks) (omega arith)))
          (last_keeps are after e (omega arith) its)
