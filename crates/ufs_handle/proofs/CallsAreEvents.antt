-- A call of a device that a handle holds is an event of a run, and leaves a handle that fits the state after it.
use Rattle.std.proofs.Common.{◌≡◌, ◌<◌, ◌^◌, ◌∙◌, ◌∷◌, [], ℕ, Bool, true, false, List, Option, None, Some, ap, inl, inr}
use Rattle.std.proofs.Common.{refl, sym, subst}
use Rattle.std.proofs.lemmas.List.{length-replicate, set-get_or}
use Rattle.std.specs.Global.{Vec}
use Rattle.std.specs.Prelude.{Result, Ok, slice_set}
use Rattle.std.specs.declared.alloc.Global.{Global}
use Rattle.ufs_spec.specs.Dies.{CanDo, DieState, blank_page, new_die, page_at, pages_of, with_bad, with_block, with_page}
use Rattle.ufs_spec.specs.Refusals.{State}
use Rattle.ufs_spec.specs.declared.events.Event.{Event}
use Rattle.ufs_spec.specs.declared.events.Event.TheVariants as event
use Rattle.ufs_spec.specs.declared.events.Leftover.{Leftover}
use Rattle.ufs_spec.specs.declared.events.Leftover.TheVariants as leftover
use Rattle.ufs_spec.specs.declared.events.Output.{Output}
use Rattle.ufs_spec.specs.declared.events.Output.TheVariants as output
use Rattle.ufs_spec.specs.declared.faults.HostFault.{HostFault}
use Rattle.ufs_spec.specs.declared.flash.Job.{Job}
use Rattle.ufs_spec.specs.declared.flash.Job.TheVariants as job
use Rattle.ufs_spec.specs.declared.flash.Outcome.TheVariants as outcome
use Rattle.device.specs.Kept.{WorldState}
use Rattle.device.specs.Leftovers.{IsOfJob, MayJobLeave}
use Rattle.device.specs.Worlds.{Went, block_of, die_left}
use Rattle.device.proofs.dies_of_world.FailRight.{fail_read_went, fail_went}
use Rattle.device.proofs.dies_of_world.WentRight.{finish_went, given_went, heard_went, replied_went, silent_went}
use Rattle.device.proofs.dies_of_world.WentRight.{stepped_went}
use Rattle.ufs_handle.specs.Calls.{Fails, Hears, IsTold, Replies, Takes, Turns, Works}
use Rattle.ufs_handle.specs.Kept.{HeldState, die_at, job_at}
use Rattle.ufs_handle.specs.Left.{failed_by, torn_page}
use Rattle.ufs_handle.specs.Runs.{Call, Fail, FitsHeld, Host, IsEvent, Reply, Shows, Take, Turn, Work, world_held}
use Rattle.ufs_handle.specs.declared.left.Left.{Left}
use Rattle.ufs_handle.specs.declared.left.Left.TheVariants as left
use Rattle.ufs_handle.proofs.AllJobsLeave.{has_die, on_die, pages_few}
use Rattle.ufs_handle.proofs.FilledBlocks.{filled_whole}
use Rattle.ufs_handle.proofs.JobsLeave.{IsJobOn, blank_long, copies, each_copy, vec_of}
use Rattle.ufs_handle.proofs.TornPages.{torn_fails}

-- the call is this event, and the handle fits the state that it leads to
pub went_event : (c : Call) (s : State) (after : HeldState) (e : Event) (o : Output) → Shows c (e ∷ []) (o ∷ []) →
    after.is_off ≡ false → Went s e (world_held after) (Ok o) → IsEvent c s after
went_event c s after e o shows on went =
    record {
      events = e ∷ [];
      outputs = o ∷ [];
      shows = shows;
      next = went.0;
      runs = (went.0, went.1, refl);
      stands = inl (record { on = on; world = went.2 });
    }

-- the call is no event
pub no_event : (c : Call) (s : State) (h after : HeldState) → Shows c [] [] → after ≡ h → FitsHeld h s → IsEvent c s after
no_event c s h after shows same fits =
    record {
      events = [];
      outputs = [];
      shows = shows;
      next = s;
      runs = refl;
      stands = inl (subst (λ (x : HeldState). FitsHeld x s) (sym same) fits);
    }

module _ (h after : HeldState) (s : State) (fits : FitsHeld h s) where
  abbrev w : WorldState
  w = world_held h

  -- a world that went on is the one that the handle holds now
  moved : (x : HeldState) (e : Event) (o : Output) → after ≡ x → Went s e (world_held x) (Ok o) →
      Went s e (world_held after) (Ok o)
  moved x e o is went = subst (λ (y : HeldState). Went s e (world_held y) (Ok o)) (sym is) went

  pub hears : (message : Vec ℕ) (answer : Result (Unit {0}) HostFault) → Hears message.items h answer after →
      IsEvent (Host message answer) s after
  hears message answer is =
      went_event (Host message answer) s after (event.Host message) (output.Host answer) (refl, refl)
      (ap (λ (x : HeldState). x.is_off) is.rest ∙ fits.on)
      (moved (record h { core = after.core }) (event.Host message) (output.Host answer) is.rest
      (heard_went w after.core s (event.Host message) message.items answer (λ heard same. (heard, same, refl)) fits.world
      (is.heard s fits.world.describes)))

  pub turns : (due : Bool) → Turns h due after → IsEvent (Turn due) s after
  turns due is =
      went_event (Turn due) s after event.Turn (output.Turn due) (refl, refl)
      (ap (λ (x : HeldState). x.is_off) is.rest ∙ fits.on)
      (moved (record h { core = after.core }) event.Turn (output.Turn due) is.rest
      (stepped_went w after.core s due fits.world (is.turned s fits.world.describes)))

  pub replies : (bytes : List ℕ) (due : Bool) → Replies [] bytes h due after → IsEvent (Reply bytes due) s after
  replies bytes true is =
      let shown = output.Reply (Some (record { items = bytes })) in
      went_event (Reply bytes true) s after event.Reply shown (refl, refl)
      (ap (λ (x : HeldState). x.is_off) is.rest ∙ fits.on)
      (moved (record h { core = after.core }) event.Reply shown is.rest
      (replied_went w after.core s bytes shown (λ m same. same) fits.world (is.replied s fits.world.describes)))
  replies bytes false is =
      went_event (Reply bytes false) s after event.Reply (output.Reply None) (refl, refl)
      (ap (λ (x : HeldState). x.is_off) is.rest ∙ fits.on)
      (moved (record h { core = after.core }) event.Reply (output.Reply None) is.rest
      (silent_went w after.core s fits.world (is.replied.2 s fits.world.describes)))

  pub takes : (die : ℕ) (given : Option Job) → Takes die h given after → IsEvent (Take die given) s after
  takes die given is =
      went_event (Take die given) s after (event.Take die) (output.Take given) (refl, refl)
      (ap (λ (x : HeldState). x.is_off) is.rest ∙ fits.on)
      (moved _ (event.Take die) (output.Take given) is.rest
      (given_went w after.core s die given fits.world (is.given s fits.world.describes)))

  pub works : (die : ℕ) (did : Bool) → Works die h did after → IsEvent (Work die did) s after
  works die true (j, has, can, is, told) =
      went_event (Work die true) s after (event.Finish die) output.Ended (refl, refl)
      (ap (λ (x : HeldState). x.is_off) is ∙ fits.on)
      (moved _ (event.Finish die) output.Ended is
      (finish_went w after.core s die j _ fits.world has refl
      (λ ending left it leaves. told s ending left fits.world.describes it leaves)))
  works die false (same, none) = no_event (Work die false) s h after (refl, refl) same fits

  -- ## A job that fails

  module _ (heap : Global) (die : ℕ) where
    abbrev d : DieState
    d = die_at h.dies die

    abbrev few : h.config.pages < 2 ^ 63
    few = pages_few w s fits.world heap []

    -- what a failed job leaves of its page
    abbrev page_after : Left → Job → Leftover → Type 0
    page_after x j l =
        IsOfJob h.config.pages j l × MayJobLeave d j l
        × (failed_by h.config.pages x j d ≡ with_bad (die_left d l) (block_of l))

    same_page : (block page : ℕ) → with_page d block page (page_at d block page) ≡ d
    same_page block page =
        ap (λ (xs : List _). with_block d block xs) (set-get_or (pages_of d block) page blank_page)
        ∙ ap (λ (bs : List (List _)). record d { blocks = bs }) (set-get_or d.blocks block [])

    same_block : (block : ℕ) → with_block d block (pages_of d block) ≡ d
    same_block block = ap (λ (bs : List (List _)). record d { blocks = bs }) (set-get_or d.blocks block [])

    -- of a program and of an erase
    leaves : (x : Left) (j : Job) → IsJobOn heap h.config.pages few die d (Some j) → ((p : _) → j ≡ job.Read p → ⊥) →
        (l : Leftover) × page_after x j l
    leaves x (job.Read p) on none = absurd (none p refl)
    leaves left.Old (job.Program p page) on none = (
      leftover.Page p (page_at d p.block p.page),
      (refl, inl refl, ap (λ (y : DieState). with_bad y p.block) (sym (same_page p.block p.page))),
    )
    leaves left.New (job.Program p page) on none = (leftover.Page p page, (refl, inr (inl refl), refl))
    leaves left.Torn (job.Program p page) on none =
        (leftover.Page p (torn_page page), (refl, inr (inr (torn_fails page on.1)), refl))
    leaves left.Old (job.Erase other block) on none = (
      leftover.Block other block (vec_of heap (pages_of d block) (subst (λ (n : ℕ). n < 2 ^ 63) (sym on.2) few)),
      (
        (refl, refl, on.2),
        (λ i less. inl refl),
        ap (λ (y : DieState). with_bad y block) (sym (same_block block)),
      ),
    )
    leaves left.New (job.Erase other block) on none = (
      leftover.Block other block (copies heap h.config.pages few blank_page),
      (
        (refl, refl, length-replicate h.config.pages blank_page),
        each_copy heap h.config.pages few d other block blank_page (λ before. inr (inl refl)),
        ap (λ (y : DieState). with_bad y block) (filled_whole block blank_page d on.1 h.config.pages on.2),
      ),
    )
    leaves left.Torn (job.Erase other block) on none = (
      leftover.Block other block (copies heap h.config.pages few (torn_page blank_page)),
      (
        (refl, refl, length-replicate h.config.pages (torn_page blank_page)),
        each_copy heap h.config.pages few d other block (torn_page blank_page)
            (λ before. inr (inr (torn_fails blank_page blank_long))),
        ap (λ (y : DieState). with_bad y block)
            (filled_whole block (torn_page blank_page) d on.1 h.config.pages on.2),
      ),
    )

    -- what the handle is once its job failed
    abbrev failed : Left → Job → HeldState
    failed x j = record h {
      core = after.core;
      dies = slice_set h.dies die (failed_by h.config.pages x j d);
      jobs = slice_set h.jobs die None;
    }

    the_same : (j x : Job) → Some j ≡ Some x → j ≡ x
    the_same j x e = cc

    shown : (x : Left) (o : Option Leftover) → Shows (Fail die x true) (event.Fail die o ∷ []) (output.Ended ∷ [])
    shown x o = ((o, refl), refl)

    -- a read leaves nothing
    read_fails : (x : Left) (p : _) → job_at h.jobs die ≡ Some (job.Read p) → after ≡ failed x (job.Read p) →
        IsTold die outcome.ReadFailed h.core after.core → IsEvent (Fail die x true) s after
    read_fails x p has is told =
        went_event (Fail die x true) s after (event.Fail die None) output.Ended (shown x None)
        (ap (λ (y : HeldState). y.is_off) is ∙ fits.on)
        (moved (failed x (job.Read p)) (event.Fail die None) output.Ended is
        (subst
        (λ (ds : List DieState). Went s (event.Fail die None) (record w {
          core = after.core;
          dies = ds;
          jobs = slice_set h.jobs die None;
        }) (Ok output.Ended)) (sym (set-get_or h.dies die (new_die 0 0)))
        (fail_read_went w s die fits.world after.core p has
        (λ ending left it leaves_it. told s ending left fits.world.describes it leaves_it))))

    -- a program or an erase leaves what is said
    other_fails : (x : Left) (j : Job) → ((p : _) → j ≡ job.Read p → ⊥) → job_at h.jobs die ≡ Some j → CanDo d j →
        after ≡ failed x j → IsTold die outcome.Failed h.core after.core → IsEvent (Fail die x true) s after
    other_fails x j none has can is told =
        let on = subst (IsJobOn heap h.config.pages few die d) has
        (on_die w s fits.world heap [] die (has_die w s fits.world heap [] die j has)) in
        let l = leaves x j on none in
        went_event (Fail die x true) s after (event.Fail die (Some l.0)) output.Ended (shown x (Some l.0))
        (ap (λ (y : HeldState). y.is_off) is ∙ fits.on)
        (moved (failed x j) (event.Fail die (Some l.0)) output.Ended is
        (subst
        (λ (y : DieState). Went s (event.Fail die (Some l.0)) (record w {
          core = after.core;
          dies = slice_set h.dies die y;
          jobs = slice_set h.jobs die None;
        }) (Ok output.Ended)) (sym l.1.2)
        (fail_went w s die l.0 fits.world (j, has, can, l.1.0) after.core
        (λ y same. subst (λ (z : Job). MayJobLeave d z l.0) (the_same j y (sym has ∙ same)) l.1.1)
        (λ ending left it leaves_it. told s ending left fits.world.describes it leaves_it))))

    pub fails : (x : Left) (did : Bool) → Fails die x h did after → IsEvent (Fail die x did) s after
    fails x true (job.Read p, has, can, is, told) = read_fails x p has is told
    fails x true (job.Program p page, has, can, is, told) =
        other_fails x (job.Program p page) (λ q e. no_program q e) has can is told
      where
        no_program : (q : _) → job.Program p page ≡ job.Read q → ⊥
        no_program q e = cc
    fails x true (job.Erase other block, has, can, is, told) =
        other_fails x (job.Erase other block) (λ q e. no_erase q e) has can is told
      where
        no_erase : (q : _) → job.Erase other block ≡ job.Read q → ⊥
        no_erase q e = cc
    fails x false (same, none) = no_event (Fail die x false) s h after (refl, refl) same fits
