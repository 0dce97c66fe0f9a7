-- A call of a handle whose dies are the program's own is an event of a run, if the dies did what was reported.
use Rattle.std.proofs.Common.{◌≡◌, ◌<◌, ◌^◌, ◌∙◌, ◌∷◌, [], ℕ, Bool, true, false, List, None, Some, ap, arith}
use Rattle.std.proofs.Common.{Contains, length, refl, replicate, sym, subst}
use Rattle.std.proofs.lemmas.List.{set-get_or}
use Rattle.std.specs.Global.{Vec}
use Rattle.std.specs.Prelude.{Ok, slice_set}
use Rattle.std.specs.declared.alloc.Global.{Global}
use Rattle.ufs_spec.specs.DieLaws.{pages_in}
use Rattle.ufs_spec.specs.Dies.{Did, DieState, after_job, new_die, outcome_of, pages_of}
use Rattle.ufs_spec.specs.Lives.{AreLeftovers, Fit, IsLawfulLeftover, Stops, array_of, bad_in, bad_of}
use Rattle.ufs_spec.specs.Refusals.{State, numbers_of}
use Rattle.ufs_spec.specs.declared.configs.Numbers.{Numbers}
use Rattle.ufs_spec.specs.declared.events.Event.{Event}
use Rattle.ufs_spec.specs.declared.events.Event.TheVariants as event
use Rattle.ufs_spec.specs.declared.events.Leftover.{Leftover}
use Rattle.ufs_spec.specs.declared.events.Leftover.TheVariants as leftover
use Rattle.ufs_spec.specs.declared.events.Output.{Output}
use Rattle.ufs_spec.specs.declared.events.Output.TheVariants as output
use Rattle.ufs_spec.specs.declared.flash.Job.{Job}
use Rattle.ufs_spec.specs.declared.flash.Job.TheVariants as job
use Rattle.ufs_spec.specs.declared.flash.Outcome.{Outcome}
use Rattle.ufs_spec.specs.declared.flash.Outcome.TheVariants as outcome
use Rattle.ufs_spec.specs.declared.flash.Page.{Page}
use Rattle.power_loss.proofs.stops.SealedCells.{ranges_of}
use Rattle.device.specs.Leftovers.{IsOfJob, MayJobLeave}
use Rattle.device.specs.Worlds.{Went, dies_failed, dies_stopped}
use Rattle.device.proofs.dies_of_world.DieParts.{die_size}
use Rattle.device.proofs.dies_of_world.FailRight.{fail_read_went, fail_went}
use Rattle.device.proofs.dies_of_world.LeftDies.{leftovers_on_dies, stopped_bad, stops_by}
use Rattle.device.proofs.dies_of_world.StoppedWorld.{are_lawful, are_leftovers}
use Rattle.device.proofs.dies_of_world.WentRight.{finish_can, finish_went, given_went, heard_went, replied_went}
use Rattle.device.proofs.dies_of_world.WentRight.{silent_went, stepped_went}
use Rattle.ufs_handle.specs.Calls.{GivesUp, IsOpen, IsTold, OpensOver}
use Rattle.ufs_handle.specs.Kept.{HeldState, die_at, job_at, jobs_given}
use Rattle.ufs_handle.specs.OwnDies.{Cut, Done, FitsOwn, IsEndOf, IsOwnEvent, IsQuiet, MayBeCut, OwnCall, OwnMakes}
use Rattle.ufs_handle.specs.OwnDies.{OwnShows, Quiet, world_with}
use Rattle.ufs_handle.specs.Runs.{Call, Fail, HoldTheSame, Host, Makes, Reply, Save, Stop, Take, Turn, Work}
use Rattle.ufs_handle.proofs.AllJobsLeave.{has_die}
use Rattle.ufs_handle.proofs.JobsLeave.{vec_of}
use Rattle.ufs_handle.proofs.StopsAreEvents.{opened_again}

-- the call is this event, and the handle fits the state that it leads to
own_event : (c : OwnCall) (s : State) (after : HeldState) (others : List DieState) (e : Event) (o : Output) →
    OwnShows c (e ∷ []) (o ∷ []) → after.is_off ≡ false → after.dies ≡ [] → Went s e (world_with after others) (Ok o) →
    IsOwnEvent c s after others
own_event c s after others e o shows on none went =
    record {
      events = e ∷ [];
      outputs = o ∷ [];
      shows = shows;
      next = went.0;
      runs = (went.0, went.1, refl);
      fits = record { on = on; none = none; world = went.2 };
    }

module _ (h : HeldState) (dies : List DieState) (s : State) (fits : FitsOwn h dies s) (after : HeldState) where
  -- ## Calls that ask nothing of the dies

  -- a handle that differs in its device and its jobs alone
  of_rest : (c : OwnCall) (x : HeldState) (e : Event) (o : Output) → OwnShows c (e ∷ []) (o ∷ []) → after ≡ x →
      x.is_off ≡ h.is_off → x.dies ≡ h.dies → Went s e (world_with x dies) (Ok o) → IsOwnEvent c s after dies
  of_rest c x e o shows is off kept went =
      subst (λ (y : HeldState). IsOwnEvent c s y dies) (sym is)
      (own_event c s x dies e o shows (off ∙ fits.on) (kept ∙ fits.none) went)

  quiet : (c : Call) → IsQuiet c → Makes c h after → IsOwnEvent (Quiet c) s after dies
  quiet (Host message answer) so (on, is) =
      of_rest (Quiet (Host message answer)) (record h { core = after.core }) (event.Host message) (output.Host answer)
      (refl, refl) is.rest refl refl
      (heard_went (world_with h dies) after.core s (event.Host message) message.items answer
      (λ heard same. (heard, same, refl)) fits.world (is.heard s fits.world.describes))
  quiet (Turn due) so (on, is) =
      of_rest (Quiet (Turn due)) (record h { core = after.core }) event.Turn (output.Turn due) (refl, refl) is.rest refl
      refl (stepped_went (world_with h dies) after.core s due fits.world (is.turned s fits.world.describes))
  quiet (Reply bytes true) so (on, is) =
      let shown = output.Reply (Some (record { items = bytes })) in
      of_rest (Quiet (Reply bytes true)) (record h { core = after.core }) event.Reply shown (refl, refl) is.rest refl refl
      (replied_went (world_with h dies) after.core s bytes shown (λ m same. same) fits.world
      (is.replied s fits.world.describes))
  quiet (Reply bytes false) so (on, is) =
      of_rest (Quiet (Reply bytes false)) (record h { core = after.core }) event.Reply (output.Reply None) (refl, refl)
      is.rest refl refl
      (silent_went (world_with h dies) after.core s fits.world (is.replied.2 s fits.world.describes))
  quiet (Take die given) so (on, is) =
      of_rest (Quiet (Take die given)) (record h { core = after.core; jobs = jobs_given h.jobs die given })
      (event.Take die) (output.Take given) (refl, refl) is.rest refl refl
      (given_went (world_with h dies) after.core s die given fits.world (is.given s fits.world.describes))
  quiet (Work die did) so is = absurd so
  quiet (Fail die x did) so is = absurd so
  quiet (Stop lefts answer) so is = absurd so
  quiet Save so is = absurd so

  -- ## The end of a job

  module _ (heap : Global) (die : ℕ) where
    abbrev d : DieState
    d = die_at dies die

    -- the handle once a job of this die ended
    abbrev ended : HeldState
    ended = record h { core = after.core; jobs = slice_set h.jobs die None }

    of_end : (end : Outcome) (e : Event) (x : DieState) → IsEndOf die end e → after ≡ ended →
        Went s e (world_with ended (slice_set dies die x)) (Ok output.Ended) →
        IsOwnEvent (Done die end true) s after (slice_set dies die x)
    of_end end e x shows is went =
        subst (λ (y : HeldState). IsOwnEvent (Done die end true) s y (slice_set dies die x)) (sym is)
        (own_event (Done die end true) s ended (slice_set dies die x) e output.Ended ((e, shows, refl), refl) fits.on
        fits.none went)

    -- a job that is done as it was told
    finishes : (j : Job) (end : Outcome) (x : DieState) → IsEndOf die end (event.Finish die) →
        job_at h.jobs die ≡ Some j → end ≡ outcome_of d j → x ≡ after_job d j → after ≡ ended →
        IsTold die end h.core after.core → IsOwnEvent (Done die end true) s after (slice_set dies die x)
    finishes j end x shows has out becomes is told =
        subst (λ (y : DieState). IsOwnEvent (Done die end true) s after (slice_set dies die y)) (sym becomes)
        (of_end end (event.Finish die) (after_job d j) shows is
        (finish_went (world_with h dies) after.core s die j end fits.world has out
        (λ ending left it leaves. told s ending left fits.world.describes it leaves)))

    -- a read that failed
    not_read : (p : _) (x : DieState) → job_at h.jobs die ≡ Some (job.Read p) → x ≡ d → after ≡ ended →
        IsTold die outcome.ReadFailed h.core after.core →
        IsOwnEvent (Done die outcome.ReadFailed true) s after (slice_set dies die x)
    not_read p x has same is told =
        subst (λ (y : DieState). IsOwnEvent (Done die outcome.ReadFailed true) s after (slice_set dies die y)) (sym same)
        (of_end outcome.ReadFailed (event.Fail die None) d refl is
        (subst (λ (ds : List DieState). Went s (event.Fail die None) (world_with ended ds) (Ok output.Ended))
        (sym (set-get_or dies die (new_die 0 0)))
        (fail_read_went (world_with h dies) s die fits.world after.core p has
        (λ ending left it leaves. told s ending left fits.world.describes it leaves))))

    the_same : (j x : Job) → Some j ≡ Some x → j ≡ x
    the_same j x e = cc

    -- a program or an erase that failed
    not_done : (j : Job) (l : Leftover) → IsOfJob h.config.pages j l → MayJobLeave d j l →
        job_at h.jobs die ≡ Some j → after ≡ ended → IsTold die outcome.Failed h.core after.core →
        IsOwnEvent (Done die outcome.Failed true) s after (dies_failed dies die l)
    not_done j l of may has is told =
        of_end outcome.Failed (event.Fail die (Some l)) _ (l, refl) is
        (fail_went (world_with h dies) s die l fits.world (j, has, finish_can (world_with h dies) s die j fits.world has, of)
        after.core
        (λ y same. subst (λ (z : Job). MayJobLeave d z l) (the_same j y (sym has ∙ same)) may)
        (λ ending left it leaves. told s ending left fits.world.describes it leaves))

    few : h.config.pages < 2 ^ 63
    few =
        subst (λ (m : Numbers). m.pages < 2 ^ 63) (sym fits.world.config)
        (let bound = (ranges_of (numbers_of s) fits.world.valid.tied.config).pages_bound in omega (arith, bound))

    -- as many pages as a block of the configuration has
    block_long : (other block : ℕ) → job_at h.jobs die ≡ Some (job.Erase other block) →
        length (pages_of d block) ≡ h.config.pages
    block_long other block has =
        let can = finish_can (world_with h dies) s die (job.Erase other block) fits.world has in
        let less = has_die (world_with h dies) s fits.world heap [] die (job.Erase other block) has in
        let size = die_size (numbers_of s) dies die fits.world.dies_fit.sizes less in
        let many = size.0 in
        let first = can.0 in
        pages_in d block (numbers_of s).blocks (numbers_of s).pages (omega (arith, many, first)) size
        ∙ ap (λ (m : Numbers). m.pages) (sym fits.world.config)

    ends : (j : Job) (end : Outcome) (failed now : ℕ) (x : DieState) → job_at h.jobs die ≡ Some j → Did failed now d j end x →
        after ≡ ended → IsTold die end h.core after.core → IsOwnEvent (Done die end true) s after (slice_set dies die x)
    ends (job.Read p) (outcome.Read page) failed now x has did is told =
        finishes (job.Read p) (outcome.Read page) x refl has (ap (λ (y : Page). outcome.Read y) did.0) did.1 is told
    ends (job.Read p) outcome.ReadFailed failed now x has did is told = not_read p x has did.0 is told
    ends (job.Program p page) outcome.Done failed now x has did is told =
        finishes (job.Program p page) outcome.Done x refl has refl did.0 is told
    ends (job.Erase other block) outcome.Done failed now x has did is told =
        finishes (job.Erase other block) outcome.Done x refl has refl did.0 is told
    ends (job.Program p page) outcome.Failed failed now x has did is told =
        subst (λ (y : DieState). IsOwnEvent (Done die outcome.Failed true) s after (slice_set dies die y)) (sym did.0.2)
        (not_done (job.Program p page) (leftover.Page p did.0.0) refl did.0.1 has is told)
    ends (job.Erase other block) outcome.Failed failed now x has did is told =
        let long = did.0.1 ∙ block_long other block has in
        subst (λ (y : DieState). IsOwnEvent (Done die outcome.Failed true) s after (slice_set dies die y)) (sym did.0.3)
        (not_done (job.Erase other block)
        (leftover.Block other block (vec_of heap did.0.0 (subst (λ (n : ℕ). n < 2 ^ 63) (sym long) few)))
        (refl, refl, long) did.0.2 has is told)
    ends (job.Read p) outcome.Done failed now x has did is told = absurd did
    ends (job.Read p) outcome.Failed failed now x has did is told = absurd did
    ends (job.Program p page) (outcome.Read other) failed now x has did is told = absurd did
    ends (job.Program p page) outcome.ReadFailed failed now x has did is told = absurd did
    ends (job.Erase other block) (outcome.Read page) failed now x has did is told = absurd did
    ends (job.Erase other block) outcome.ReadFailed failed now x has did is told = absurd did

  ended_so : (heap : Global) (die : ℕ) (end : Outcome) (known : Bool) (others : List DieState) →
      OwnMakes (Done die end known) h dies after others → IsOwnEvent (Done die end known) s after others
  ended_so heap die end true others (ends_it, did) =
      subst (λ (ds : List DieState). IsOwnEvent (Done die end true) s after ds) (sym did.others_are)
      (ends heap die did.job end did.failed did.now did.after did.flies did.did ends_it.1 ends_it.2)
  ended_so heap die end false others ((stays, none), same) =
      subst (λ (ds : List DieState). IsOwnEvent (Done die end false) s after ds) (sym same)
      (subst (λ (y : HeldState). IsOwnEvent (Done die end false) s y dies) (sym stays)
      (record { events = []; outputs = []; shows = (refl, refl); next = s; runs = refl; fits = fits }))

  -- ## A power cut

  module _ (lefts : Vec Leftover) (may : MayBeCut h dies lefts.items) (others : List DieState)
      (same : HoldTheSame (dies_stopped dies lefts.items) others) (opened : HeldState)
      (opens : IsOpen h.config others (Some opened)) where
    abbrev n : Numbers
    n = numbers_of s

    are : AreLeftovers s lefts.items
    are = are_leftovers (world_with h dies) s lefts.items fits.world may.of_jobs may.apart

    lawful : (l : Leftover) → Contains lefts.items l → IsLawfulLeftover s l
    lawful = are_lawful (world_with h dies) s lefts.items fits.world may.of_jobs may.lawful

    numbers : h.config ≡ n
    numbers = fits.world.config

    stops : Stops s lefts.items (array_of others)
    stops =
        subst (Stops s lefts.items) (sym same.0)
        (stops_by s fits.world.valid dies lefts.items fits.world.dies_fit.sizes fits.world.dies_fit.pages are lawful)

    bads : bad_in s ≡ bad_of others
    bads =
        (λ i spot. fits.world.dies_fit.blocks_fit.bad spot i)
        ∙ sym (stopped_bad n dies lefts.items fits.world.dies_fit.sizes
        (leftovers_on_dies s fits.world.valid lefts.items are))
        ∙ sym same.1

    cut : GivesUp opened tt after → IsOwnEvent (Cut lefts) s after others
    cut gives =
        subst (λ (y : HeldState). IsOwnEvent (Cut lefts) s y others) (sym gives)
        (own_event (Cut lefts) s (record opened { dies = [] }) others (event.Stop lefts) output.Stopped (refl, refl)
        opens.0 refl
        (subst (λ (ds : List DieState). Went s (event.Stop lefts) (world_with opened ds) (Ok output.Stopped)) opens.2
        (opened_again s lefts opened fits.world.valid (opens.1 ∙ numbers)
        (subst (λ (ds : List DieState). Stops s lefts.items (array_of ds)) (sym opens.2) stops)
        (bads ∙ ap bad_of (sym opens.2))
        (subst (Fit n) (sym opens.2) (subst (λ (m : Numbers). Fit m others) numbers opens.4.fit))
        (opens.3 ∙ ap (λ (k : ℕ). replicate k None) (ap (λ (ds : List DieState). length ds) (sym opens.2)))
        (subst (λ (m : Numbers). OpensOver m opened.dies opened.core) (sym opens.1)
        (subst (λ (ds : List DieState). OpensOver h.config ds opened.core) (sym opens.2) opens.4)))))

pub own_call : (heap : Global) (c : OwnCall) (h after : HeldState) (dies others : List DieState) (s : State) →
    FitsOwn h dies s → OwnMakes c h dies after others → IsOwnEvent c s after others
own_call heap (Quiet c) h after dies others s fits (so, is, same) =
    subst (λ (ds : List DieState). IsOwnEvent (Quiet c) s after ds) (sym same) (quiet h dies s fits after c so is)
own_call heap (Done die end known) h after dies others s fits is = ended_so h dies s fits after heap die end known others is
own_call heap (Cut lefts) h after dies others s fits (may, same, again) =
    cut h dies s fits after lefts may others same again.0 again.1 again.2
