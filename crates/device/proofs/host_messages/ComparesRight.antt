-- A VERIFY compares its block with the one that its host sends: what is kept then is kept of the state behind it.
use Rattle.device.proofs.Common.{Answering, AreClaimed, Bool, Core, Deed, Describes, DeviceCore, Flight, FramesFit}
use Rattle.device.proofs.Common.{Good, IsDoing, IsFor, IsLayerWith, IsToldIn, LetGoAll, List, None, OpenTask, Option}
use Rattle.device.proofs.Common.{Pin, ReadBlock, Some, State, TaskEvent, Translation, ap, arith, before_accepted}
use Rattle.device.proofs.Common.{block_after, claimed_in, claims_of, data_heard, durable, false, filter, find}
use Rattle.device.proofs.Common.{found_task, frames_after, gathers_for, if◌then◌else◌, is_at_hand, is_lost, is_pin_of}
use Rattle.device.proofs.Common.{is_unfilled, length, ltb-false, ltb-true, moved, nat_lt, not, numbers_of, option_map}
use Rattle.device.proofs.Common.{phase_after, read_at, read_in, refl, set_deed, slice_get, subst, sym, task_of, true}
use Rattle.device.proofs.Common.{wanted_by, wanted_in, wanted_kept, with_event, ℕ, ◌*◌, ◌+◌, ◌<◌, ◌==◌, ◌∙◌, ◌≡◌}
use Rattle.ufs_spec.proofs.Lists.{get_there}
use Rattle.ufs_spec.specs.DataOuts.{block_compared, block_differs, block_same, data_for}
use Rattle.ufs_spec.specs.Exchanges as exchange
use Rattle.ufs_spec.specs.Exchanges.{Comparing, miscompare}
use Rattle.ufs_spec.specs.Rpmb.{same_bytes}
use Rattle.task_set.specs.Lists.{read_of}
use Rattle.task_set.specs.Tasks.{same_next}
use Rattle.task_set.specs.declared.tasks.Comparing.{Comparing as Compares}
use Rattle.task_set.specs.declared.tasks.ComparedWith.{ComparedWith}
use Rattle.task_set.specs.declared.tasks.Phase.TheVariants as phase
use Rattle.task_set.specs.declared.tasks.TaskEvent.TheVariants as event
use Rattle.device.specs.Describes.{IsComparing, own_of}
use Rattle.device.specs.Hears.{HasCompared, is_block_kept}
use Rattle.device.proofs.described.Answered.{IsBehind}
use Rattle.device.proofs.due_replies.BlocksBehind.{more_kept, none_kept, none_read_behind}
use Rattle.device.proofs.due_replies.PinsLetGo.{gone_pins, with_next}
use Rattle.device.proofs.due_replies.ReplyMoves.{answered_set, few_set, happened_sends, happened_to, none_asked}
use Rattle.device.proofs.due_replies.ReplyMoves.{same_claims, sent_layer, set_told, set_wanted, with_layer}
use Rattle.device.proofs.open_tasks.KeptByTag.{WantedFor}
use Rattle.device.proofs.open_tasks.OpenTasks.{IsOpen, Stands}
use Rattle.device.proofs.open_tasks.ReadProgress.{gone_finds_others, sent_finds_others, want_finds_others}

-- it compares its next block, and asked its host for the other one
record HasAsked (x : Compares) (total : ℕ) (deed : Deed) : Type 0 where
  pub blocks : List ReadBlock
  pub compared : ℕ
  pub deed_is : deed ≡ Comparing blocks compared true
  pub is : IsComparing x total blocks compared

has_asked : (before expected total : ℕ) (x : Compares) (deed : Deed) →
    IsDoing before expected total (phase.AwaitBlock x) deed → HasAsked x total deed
has_asked before expected total x (Comparing blocks compared asked) h = record {
  blocks = blocks;
  compared = compared;
  deed_is = ap (Comparing blocks compared) h.1;
  is = h.0;
}
has_asked before expected total x deed h = absurd h

-- a VERIFY of which one block more was found to be the same, and more follow
abbrev behind : Compares → Compares
behind x = record x { compared = x.compared + 1 }

abbrev next_if : Compares → Bool → Option Compares
next_if x more = if more then Some (behind x) else None

-- what it does then
abbrev next_deed : (total : ℕ) → List ReadBlock → (n : ℕ) → Bool → Deed
next_deed total blocks n more = if more then Comparing blocks (n + 1) false else Answering Good total

compares_more : (x : Compares) (total : ℕ) (blocks : List ReadBlock) (n : ℕ) → IsComparing x total blocks n →
    x.compared + 1 < x.blocks → IsComparing (behind x) total blocks (n + 1)
compares_more x total blocks n is more = record {
  count = is.count;
  compared_is = ap (λ (m : ℕ). m + 1) is.compared_is;
  more = more;
  total_is = is.total_is;
  few = is.few;
  behind = λ i block above. is.behind i block (omega arith);
}

-- One task compares its block

module _ (d : DeviceCore) (s : State) (k : ℕ) (a : OpenTask) (b : exchange.Task) (h : Describes d s)
    (o : IsOpen (before_accepted s.translation.ledger) k d.tasks s.tasks a b) (x : Compares)
    (at : a.phase ≡ phase.AwaitBlock x) where
  fits : FramesFit (phase.AwaitBlock x) a.frames a.held b.deed
  fits = subst (λ q. FramesFit q a.frames a.held b.deed) at o.kept.fits

  none : is_unfilled b.request ≡ false
  none = none_asked d s k a b h o fits

  -- the layer, of which these flights and pins are left
  abbrev left : (ℕ → Option Flight) → List Pin → Translation
  left flights pins =
      record s.translation { disk = record s.translation.disk { flights = flights }; pins = pins }

  -- it does something else from now on, and has no block
  goes_on : (after : Core) (e : TaskEvent) (deed : Deed) (flights : ℕ → Option Flight) (pins : List Pin) →
      IsDoing (before_accepted s.translation.ledger) a.expected b.length (phase_after (phase.AwaitBlock x) e) deed →
      frames_after a.frames e ≡ a.frames →
      FramesFit (phase_after (phase.AwaitBlock x) e) a.frames a.held deed → IsFor a.region (gathers_for deed) →
      IsToldIn (durable s) deed → block_after e (phase.AwaitBlock x) a.block ≡ read_in deed →
      WantedFor pins b.tag (Some (record b { deed = deed })) →
      ((n index : ℕ) → (n == b.tag) ≡ false →
      find (is_pin_of n index) pins ≡ find (is_pin_of n index) s.translation.pins) →
      claimed_in (numbers_of s) b.length b.deed ≡ claimed_in (numbers_of s) b.length deed →
      IsLayerWith after (left flights pins) (claims_of (numbers_of s) s.tasks) →
      IsBehind (with_layer after (with_event d k e))
      (set_deed (record s { translation = left flights pins }) b.tag deed)
  goes_on after e deed flights pins doing still frames gathers told read wanted others same layer = record {
    keeps = record {
      boot = h.kept.boot;
      permanent = h.kept.permanent;
      each = h.kept.each;
      region = h.kept.region;
      registers = h.kept.registers;
      layer_kept = layer.0;
      few = few_set d s k a b h o deed;
      tasks = happened_to d s k a b h o e (phase.AwaitBlock x) deed at doing still frames gathers none read;
      one_sends = happened_sends d s k a b h o e still;
      wanted =
          set_wanted d s k a b h o pins deed wanted
          (λ n index other. ap (option_map (λ (pin : Pin). pin.wanted)) (others n index other));
      claims = subst (AreClaimed after) (sym (same_claims d s k a b h o deed same)) layer.1;
      shorts = h.kept.shorts;
      volatile = h.kept.volatile;
    };
    answered =
        answered_set d s k a b h o (left flights pins) deed none
        (λ n other index. ap (is_at_hand s.translation.work.rests) (others n index other)) refl;
    told = λ lock. set_told (durable s) b.tag deed s.tasks told (h.told lock);
    shorts_told = h.shorts_told;
  }

  -- its block is another one
  differs : (after : Core) (blocks : List ReadBlock) (n : ℕ) → b.deed ≡ Comparing blocks n true →
      IsComparing x b.length blocks n →
      IsLayerWith after (moved s.translation (LetGoAll b.tag)) (claims_of (numbers_of s) s.tasks) →
      IsBehind (with_layer after (with_event d k event.BlockDiffers)) (block_differs s b n)
  differs after blocks n deed is layer =
      goes_on after event.BlockDiffers (Answering miscompare (4096 * (n + 1)))
      (moved s.translation (LetGoAll b.tag)).disk.flights
      (filter (λ pin. not (pin.tag == b.tag)) s.translation.pins)
      (refl, ap (λ (m : ℕ). 4096 * (m + 1)) is.compared_is) refl tt tt tt refl
      (λ index. gone_pins b.tag index s.translation.pins)
      (λ tag index other. gone_finds_others b.tag tag index s.translation.pins other)
      (ap (claimed_in (numbers_of s) b.length) deed) layer

  -- its block is the same: it goes on with the next one, or is done
  same : (after : Core) (blocks : List ReadBlock) (n : ℕ) → b.deed ≡ Comparing blocks n true →
      IsComparing x b.length blocks n →
      IsLayerWith after (sent_layer s.translation b.tag n) (claims_of (numbers_of s) s.tasks) →
      IsBehind (with_layer after (with_event d k event.BlockSame)) (block_same s b blocks n)
  same after blocks n deed is layer = by (nat_lt (x.compared + 1) x.blocks) refl
    where
      found : task_of b.tag s.tasks ≡ Some b
      found = found_task s.tasks k b h.tied.tasks.tasks_differ o.theirs

      kept : (index : ℕ) →
          wanted_kept s.translation.pins b.tag index ≡ wanted_in index b.request (Comparing blocks n true)
      kept index = h.kept.wanted b.tag index ∙ (ap (wanted_by index) found ∙ ap (wanted_in index b.request) deed)

      same_test : nat_lt (n + 1) (length blocks) ≡ nat_lt (x.compared + 1) x.blocks
      same_test i = nat_lt (is.compared_is i + 1) (is.count i)

      does : (more : Bool) → nat_lt (x.compared + 1) x.blocks ≡ more → (deed : Deed) →
          deed ≡ next_deed b.length blocks n more →
          IsDoing (before_accepted s.translation.ledger) a.expected b.length (same_next x (next_if x more)) deed →
          FramesFit (same_next x (next_if x more)) a.frames a.held deed → IsFor a.region (gathers_for deed) →
          IsToldIn (durable s) deed → None ≡ read_in deed →
          WantedFor (with_next b.tag n s.translation.pins) b.tag (Some (record b { deed = deed })) →
          claimed_in (numbers_of s) b.length b.deed ≡ claimed_in (numbers_of s) b.length deed →
          IsBehind (with_layer after (with_event d k event.BlockSame)) (block_same s b blocks n)
      does more e deed deed_is doing frames gathers told read wanted claims =
          subst
          (λ (z : Deed). IsBehind (with_layer after (with_event d k event.BlockSame))
          (set_deed (record s { translation = sent_layer s.translation b.tag n }) b.tag z))
          (deed_is ∙ ap (next_deed b.length blocks n) (sym (same_test ∙ e)))
          (goes_on after event.BlockSame deed (sent_layer s.translation b.tag n).disk.flights
          (with_next b.tag n s.translation.pins)
          (subst (λ (z : Bool). IsDoing (before_accepted s.translation.ledger) a.expected b.length
          (same_next x (next_if x z)) deed) (sym e) doing)
          refl (subst (λ (z : Bool). FramesFit (same_next x (next_if x z)) a.frames a.held deed) (sym e) frames)
          gathers told read wanted
          (λ tag index other. want_finds_others b.tag (n + 1) true tag index
          (filter (λ pin. not (is_pin_of b.tag n pin)) s.translation.pins) other
          ∙ sent_finds_others b.tag n tag index s.translation.pins other)
          claims layer)

      by : (more : Bool) → nat_lt (x.compared + 1) x.blocks ≡ more →
          IsBehind (with_layer after (with_event d k event.BlockSame)) (block_same s b blocks n)
      by true e =
          does true e (Comparing blocks (n + 1) false) refl (
            compares_more x b.length blocks n is (ltb-true (x.compared + 1) x.blocks e),
            refl,
            λ block there. ap is_lost (is.behind (n + 1) block (omega arith) there),
          )
          fits tt tt (sym (none_read_behind blocks n is.behind))
          (more_kept b.tag n s.translation.pins blocks kept is.behind)
          (ap (claimed_in (numbers_of s) b.length) deed)
      by false e =
          let count = is.count in
          let place = is.compared_is in
          let last = ltb-false (x.compared + 1) x.blocks e in
          does false e (Answering Good b.length) refl (refl, is.total_is) tt tt tt refl
          (none_kept b.tag n s.translation.pins blocks kept (omega arith))
          (ap (claimed_in (numbers_of s) b.length) deed)

-- The task of a tag compares its block with these bytes

pub block_compares : (d : DeviceCore) (s : State) (tag : ℕ) → Describes d s →
    (r : Stands (before_accepted s.translation.ledger) tag d.tasks s.tasks) (x : Compares) →
    r.a.phase ≡ phase.AwaitBlock x → (e : DeviceCore) (bytes : List ℕ) →
    HasCompared d e tag (record { index = r.k; comparing = x }) (is_block_kept bytes (read_at d.tasks r.k)) →
    IsBehind e (data_heard s (task_of tag s.tasks) bytes)
block_compares d s tag h r x at e bytes did =
    subst (λ (task : Option exchange.Task). IsBehind e (data_heard s task bytes)) (sym r.found)
    (subst (λ (deed : Deed). IsBehind e (data_for s r.b deed bytes)) (sym asked.deed_is)
    (subst (λ (block : Option ReadBlock). IsBehind e (block_compared s r.b asked.blocks asked.compared block bytes))
    (sym its.1) (by (same_bytes bytes its.0.body) (subst (HasCompared d e tag found) kept did))))
  where
    found : ComparedWith
    found = record { index = r.k; comparing = x }

    asked : HasAsked x r.b.length r.b.deed
    asked =
        has_asked (before_accepted s.translation.ledger) r.a.expected r.b.length x r.b.deed
        (subst (λ p. IsDoing (before_accepted s.translation.ledger) r.a.expected r.b.length p r.b.deed) at
        r.opened.kept.doing)

    its : (block : ReadBlock) × (slice_get asked.blocks asked.compared ≡ Some block)
    its =
        let count = asked.is.count in
        let place = asked.is.compared_is in
        let more = asked.is.more in
        get_there asked.blocks asked.compared (omega arith)

    kept : is_block_kept bytes (read_at d.tasks r.k) ≡ same_bytes bytes its.0.body
    kept =
        ap (is_block_kept bytes)
        (ap read_of r.opened.ours
        ∙ (r.opened.kept.read ∙ (ap read_in asked.deed_is ∙ ap (own_of true) its.1)))

    by : (is : Bool) → HasCompared d e tag found is →
        IsBehind e (if is then block_same s r.b asked.blocks asked.compared else block_differs s r.b asked.compared)
    by true new =
        subst (λ (y : DeviceCore). IsBehind y (block_same s r.b asked.blocks asked.compared)) (sym new.0)
        (same d s r.k r.a r.b h r.opened x at e.ftl asked.blocks asked.compared asked.deed_is asked.is
        (subst (λ (u : Translation). IsLayerWith e.ftl u (claims_of (numbers_of s) s.tasks))
        (λ i. sent_layer s.translation (sym r.tag_is i) (sym asked.is.compared_is i))
        (new.1 s.translation (claims_of (numbers_of s) s.tasks) (h.kept.layer_kept, h.kept.claims))))
    by false new =
        subst (λ (y : DeviceCore). IsBehind y (block_differs s r.b asked.compared)) (sym new.0)
        (differs d s r.k r.a r.b h r.opened x at e.ftl asked.blocks asked.compared asked.deed_is asked.is
        (subst (λ (n : ℕ). IsLayerWith e.ftl (moved s.translation (LetGoAll n)) (claims_of (numbers_of s) s.tasks))
        (sym r.tag_is)
        (new.1 s.translation (claims_of (numbers_of s) s.tasks) (h.kept.layer_kept, h.kept.claims))))
