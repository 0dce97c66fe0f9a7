-- What the end of a read leaves of a task that looks whether blocks can be read: it keeps no block, and is told of one
-- that could not be read.
use Rattle.device.specs.Describes.{BringsFor, HasFilledIts, HasRequest, IsVerifying, keeps_pages}
use Rattle.device.proofs.Common.{AreFramesKept, Bool, Frames, FramesFit, IsDoing, List, None, NotRead, OpenTask}
use Rattle.device.proofs.Common.{Option, Phase, ReadBlock, ReadState, ReadingArea, RpmbRequest, Some, TaskKept, Unread}
use Rattle.device.proofs.Common.{WasRead, [], ap, block_after, brings_frames, deed_read, false, false≢true, inl, inr}
use Rattle.device.proofs.Common.{is_unfilled, list_any, none-some, not, phase_after, read_for, read_in, refl, same_Some}
use Rattle.device.proofs.Common.{set_state, subst, suc, sym, task_after, true, zero, ℕ, ◌||◌, ◌∙◌, ◌∷◌, ◌≡◌, ◌⊎◌}
use Rattle.std.proofs.Common.{slice_get, slice_set}
use Rattle.ufs_spec.proofs.Lists.{set_length}
use Rattle.ufs_spec.specs.Exchanges as exchange
use Rattle.ufs_spec.specs.Machine.{with_block}
use Rattle.ufs_spec.specs.Replies.{is_not_read, is_unreadable}
use Rattle.task_set.specs.Tasks.{block_unread}
use Rattle.task_set.specs.declared.frames.Frames.TheVariants as frames
use Rattle.task_set.specs.declared.tasks.Phase.TheVariants as phase
use Rattle.task_set.specs.declared.tasks.TaskEvent.TheVariants as event
use Rattle.task_set.specs.declared.tasks.Verifying.{Verifying}
use Rattle.device.proofs.open_tasks.BlockEnds.{blocks_ended, set_read}

-- Requests

-- a request that has filled its register is to fill none, and keeps no page
pub filled_off : (o : Option RpmbRequest) → HasFilledIts o → is_unfilled o ≡ false
filled_off None h = absurd h
filled_off (Some request) h = ap not h

pub filled_keeps_none : (o : Option RpmbRequest) → HasFilledIts o → keeps_pages o ≡ false
filled_keeps_none None h = absurd h
filled_keeps_none (Some request) h = ap not h

-- one that is yet to fill its register keeps its pages, and so does what has none
pub unfilled_keeps : (o : Option RpmbRequest) → is_unfilled o ≡ true → keeps_pages o ≡ true
unfilled_keeps None e = absurd (false≢true e)
unfilled_keeps (Some request) e = e

pub keeps_so : (o : Option RpmbRequest) → keeps_pages o ≡ true → (o ≡ None) ⊎ (is_unfilled o ≡ true)
keeps_so None e = inl refl
keeps_so (Some request) e = inr e

-- what has a request has one in the definitions too
none_asked : (f : Frames) (held : Option (List ℕ)) → HasRequest f → AreFramesKept f held None → ⊥
none_asked frames.NotBrought held has its = has
none_asked frames.Undecided held has its = has
none_asked (frames.Decided code) held has its = none-some its.asked its.is
none_asked frames.Answered held has its = its

-- Blocks that could not be read

swapped : (a b c : Bool) → (a || (b || c)) ≡ (b || (a || c))
swapped true true c = refl
swapped true false c = refl
swapped false b c = refl

-- once the read of one ended that was not read yet, one could not be read if this one could not, or if one could not
-- before
pub set_unreadable : (pages : List ReadBlock) (index : ℕ) (page : ReadBlock) (how : ReadState) →
    slice_get pages index ≡ Some page → page.state ≡ Unread →
    list_any is_unreadable (slice_set pages index (set_state how page))
    ≡ (is_not_read how || list_any is_unreadable pages)
set_unreadable [] index page how there unread = absurd (none-some page there)
set_unreadable (x ∷ xs) zero page how there unread =
    ap (λ (b : Bool). is_not_read how || (b || list_any is_unreadable xs)) (sym was)
  where
    was : is_unreadable x ≡ false
    was = ap is_unreadable (same_Some x page there) ∙ ap is_not_read unread
set_unreadable (x ∷ xs) (suc index) page how there unread =
    ap (λ (b : Bool). is_unreadable x || b) (set_unreadable xs index page how there unread)
    ∙ swapped (is_unreadable x) (is_not_read how) (list_any is_unreadable xs)

-- The task

record IsVerifyingIn (total : ℕ) (p : Phase) (f : Frames) (pages : List ReadBlock) : Type 0 where
  x : Verifying
  is : p ≡ phase.Verify x
  quiet : f ≡ frames.NotBrought
  verifying : IsVerifying x total pages

-- a task without a request that reads pages is a VERIFY
verifies_in : (before expected total : ℕ) (p : Phase) (f : Frames) (held : Option (List ℕ)) (pages : List ReadBlock) →
    IsDoing before expected total p (ReadingArea pages) → FramesFit p f held (ReadingArea pages) →
    AreFramesKept f held None → IsVerifyingIn total p f pages
verifies_in before expected total (phase.Verify x) f held pages h fits its =
    record { x = x; is = refl; quiet = fits; verifying = h }
verifies_in before expected total (phase.ReadArea r) f held pages h fits its = absurd (none_asked f held fits.0 its)
verifies_in before expected total p f held pages h fits its = absurd h

verifying_ended : (x : Verifying) (failed : Bool) (total index : ℕ) (pages : List ReadBlock) (page : ReadBlock)
    (how : ReadState) → slice_get pages index ≡ Some page → page.state ≡ Unread → IsVerifying x total pages →
    (is_not_read how || x.failed) ≡ failed →
    IsVerifying (record x { failed = failed }) total (blocks_ended pages index how page)
verifying_ended x failed total index pages page how there unread h is = record {
  total_is = h.total_is;
  count = set_length pages index (set_state how page) ∙ h.count;
  few = h.few;
  failed =
      set_unreadable pages index page how there unread
      ∙ (ap (λ (b : Bool). is_not_read how || b) h.failed ∙ is);
}

module _ (before index : ℕ) (a : OpenTask) (b : exchange.Task) (pages : List ReadBlock) (page : ReadBlock)
    (h : TaskKept before a b) (deed : b.deed ≡ ReadingArea pages) (none : b.request ≡ None)
    (there : slice_get pages index ≡ Some page) (unread : page.state ≡ Unread) where
  its : IsVerifyingIn b.length a.phase a.frames pages
  its =
      verifies_in before a.expected b.length a.phase a.frames a.held pages
      (subst (IsDoing before a.expected b.length a.phase) deed h.doing)
      (subst (FramesFit a.phase a.frames a.held) deed h.fits)
      (subst (AreFramesKept a.frames a.held) none h.request)

  theirs : (how : ReadState) →
      record b { deed = ReadingArea (blocks_ended pages index how page) } ≡ set_read index how b
  theirs how =
      ap (λ x. record b { deed = x })
      (ap (λ o. ReadingArea (with_block pages index how o)) (sym there) ∙ ap (deed_read index how) (sym deed))

  -- the task behind the read of its block
  then_kept : (how : ReadState) (failed : Bool) → (is_not_read how || its.x.failed) ≡ failed →
      TaskKept before
      (record a { phase = phase.Verify (record its.x { failed = failed }); frames = frames.NotBrought })
      (record b { deed = ReadingArea (blocks_ended pages index how page) })
  then_kept how failed is = record {
    lun = h.lun;
    tag = h.tag;
    expected = h.expected;
    brings = subst (λ (x : Bool). BringsFor a.region x b.command) (ap brings_frames its.quiet) h.brings;
    gathers = tt;
    asked_of = h.asked_of;
    request = none;
    asks = tt;
    fits = refl;
    doing = verifying_ended its.x failed b.length index pages page how there unread its.verifying is;
    read = h.read ∙ ap read_in deed;
  }

  pub block_verified : (body : List ℕ) → TaskKept before (read_for index body a a.phase) (set_read index WasRead b)
  block_verified body =
      subst (TaskKept before (read_for index body a a.phase)) (theirs WasRead)
      (subst
      (λ (x : OpenTask). TaskKept before x (record b { deed = ReadingArea (blocks_ended pages index WasRead page) }))
      ours (then_kept WasRead its.x.failed refl))
    where
      ours : record a { phase = phase.Verify its.x; frames = frames.NotBrought } ≡ read_for index body a a.phase
      ours =
          (λ i. record a { phase = sym its.is i; frames = sym its.quiet i }) ∙ ap (read_for index body a) (sym its.is)

  pub block_unverified : TaskKept before (task_after (event.BlockLost index) a) (set_read index NotRead b)
  block_unverified =
      subst (TaskKept before (task_after (event.BlockLost index) a)) (theirs NotRead)
      (subst
      (λ (x : OpenTask). TaskKept before x (record b { deed = ReadingArea (blocks_ended pages index NotRead page) }))
      ours (then_kept NotRead true refl))
    where
      ours : record a { phase = phase.Verify (block_unread its.x); frames = frames.NotBrought }
          ≡ task_after (event.BlockLost index) a
      ours = λ i. record a {
        phase = phase_after (sym its.is i) (event.BlockLost index);
        frames = sym its.quiet i;
        block = block_after (event.BlockLost index) (sym its.is i) a.block;
      }
