-- A request whose GOOD is due fills its register: what the device keeps then is kept of the state in which all that
-- became due has filled its register.
use Rattle.device.proofs.Common.{All-cons, All-nil, AreaReads, Bool, DeviceCore, FramesWait, HasFilled, HaveAnswered}
use Rattle.device.proofs.Common.{IsTied, Keeps, List, None, OpenTask, Option, ShowsReads, Some, State, Translation, []}
use Rattle.device.proofs.Common.{ap, before_accepted, claims_of, cond, eq_self, eqb-true, false, false≢true, filled}
use Rattle.device.proofs.Common.{fills, found_task, if_false, inl, inr, is_decided, is_due_in, is_good_due, is_mended}
use Rattle.device.proofs.Common.{is_to_fill, is_unfilled, length, map, numbers_of, refl, same_Some, slice_get, subst}
use Rattle.device.proofs.Common.{suc, sym, task_filled, to_answer, true, ℕ, ◌&&◌, ◌==◌, ◌∙◌, ◌∷◌, ◌≡◌, ◌⊎◌}
use Rattle.ufs_laws.proofs.frame_laws.RegistersFilled.{never_again}
use Rattle.ufs_spec.specs.Exchanges as exchange
use Rattle.device.specs.Frames.{HasFilledAt, HasFilledBy, due_at, is_due_to}
use Rattle.device.proofs.described.FilledTask.{FillsOne, Knows, keeps_one, state_is}
use Rattle.device.proofs.described.GoodDue.{IsLow, all_answered, same_fill, same_unfilled}
use Rattle.device.proofs.described.OneSender.{DecidedOrNot, OneDecided, decided_cases}
use Rattle.device.proofs.described.Settled.{AreAnswered, fills_nothing}
use Rattle.device.proofs.described.Unmended.{waits_mended}
use Rattle.device.proofs.open_tasks.OpenTasks.{IsOpen, our_task, their_task}

-- What is filled has answered

filled_answered : (v u : State) (us : List exchange.Task) →
    ((j : ℕ) (x : exchange.Task) → slice_get us j ≡ Some x →
    (is_to_fill v x ≡ true) ⊎ (is_unfilled x.request ≡ false)) →
    AreAnswered u (map (task_filled v) us)
filled_answered v u [] each = All-nil (λ task. is_to_fill u task ≡ false)
filled_answered v u (y ∷ us) each =
    All-cons (λ task. is_to_fill u task ≡ false) (task_filled v y) (map (task_filled v) us) (by (each 0 y refl))
    (filled_answered v u us (λ j x at. each (suc j) x at))
  where
    by : (is_to_fill v y ≡ true) ⊎ (is_unfilled y.request ≡ false) → is_to_fill u (task_filled v y) ≡ false
    by (inl e) = never_again v u y e
    by (inr e) =
        ap (is_to_fill u)
        (if_false (is_to_fill v y) (record y { request = filled y.request }) y
        (ap (λ (c : Bool). c && is_good_due v y y.deed) e))
        ∙ ap (λ (c : Bool). c && is_good_due u y y.deed) e

-- The whole

-- what waits finds each repair durable
waits_low : (v : State) → IsTied v → (k : ℕ) (b : exchange.Task) → slice_get v.tasks k ≡ Some b → IsLow v b.deed
waits_low v tied k b at commands deed =
    tied.repaired (waits_mended (numbers_of v) (length v.accepted) (is_mended v.translation.work.mending) v.tasks b
    b.tag commands tied.tasks.deeds (found_task v.tasks k b tied.tasks.tasks_differ at) deed)

module _ (e f : DeviceCore) (v : State) (knows : Knows v) (k : Keeps e v) where
  abbrev t : Translation
  t = v.translation

  abbrev AreFilled : State → Type 0
  AreFilled u = Keeps f u × HaveAnswered u

  -- no task fills a register
  none_fills : f ≡ e → ((j : ℕ) (x : OpenTask) → slice_get e.tasks j ≡ Some x →
      (is_decided x && is_due_in t x.tag x.phase) ≡ false) → AreFilled (fills v)
  none_fills same none =
      subst AreFilled (sym (fills_nothing v answered))
      (subst (λ (d : DeviceCore). Keeps d v) (sym same) k, answered)
    where
      answered : HaveAnswered v
      answered = all_answered v e.tasks v.tasks (waits_low v knows.tied) none k.tasks

  -- the one that has a request does
  one_fills : (r : OneDecided e.tasks) → is_due_in t r.a.tag r.a.phase ≡ true →
      HasFilledAt e f t (claims_of (numbers_of v) v.tasks) r.k → AreFilled (fills v)
  one_fills r due h = by (their_task (before_accepted t.ledger) r.k e.tasks v.tasks r.a k.tasks r.at)
    where
      by : (b : exchange.Task) × IsOpen (before_accepted t.ledger) r.k e.tasks v.tasks r.a b → AreFilled (fills v)
      by (b, o) = (
        subst (Keeps f) (sym (state_is e v k r.k r.a b one))
            (keeps_one e v k r.k r.a b one knows f h (same_Some h.task r.a (sym h.there ∙ r.at))),
        filled_answered v (fills v) v.tasks each,
      )
        where
          fill : is_to_fill v b ≡ true
          fill = same_fill v r.a b (waits_low v knows.tied r.k b o.theirs) o.kept ∙ (λ i. r.decided i && due i)

          others : (j : ℕ) (x : exchange.Task) → slice_get v.tasks j ≡ Some x → (j ≡ r.k → ⊥) →
              is_unfilled x.request ≡ false
          others j x at differ = its (our_task (before_accepted t.ledger) j e.tasks v.tasks x k.tasks at)
            where
              its : (y : OpenTask) × IsOpen (before_accepted t.ledger) j e.tasks v.tasks y x →
                  is_unfilled x.request ≡ false
              its (y, p) =
                  same_unfilled y.frames y.held x.request p.kept.request ∙ r.others j y p.ours differ

          one : FillsOne e v r.k r.a b
          one = record {
            opened = o;
            due = due;
            fill = fill;
            others = others;
            found = found_task v.tasks r.k b knows.tied.tasks.tasks_differ o.theirs;
          }

          each : (j : ℕ) (x : exchange.Task) → slice_get v.tasks j ≡ Some x →
              (is_to_fill v x ≡ true) ⊎ (is_unfilled x.request ≡ false)
          each j x at = by_place (j == r.k) refl
            where
              by_place : (c : Bool) → (j == r.k) ≡ c → (is_to_fill v x ≡ true) ⊎ (is_unfilled x.request ≡ false)
              by_place true e =
                  inl (ap (is_to_fill v)
                  (same_Some x b (sym at ∙ (ap (slice_get v.tasks) (eqb-true j r.k e) ∙ o.theirs))) ∙ fill)
              by_place false e =
                  inr (others j x at (λ same. false≢true (sym e ∙ (ap (λ (m : ℕ). m == r.k) same ∙ eq_self r.k))))

  -- it has one, but its GOOD is not due yet
  one_waits : (r : OneDecided e.tasks) → is_due_in t r.a.tag r.a.phase ≡ false → f ≡ e → AreFilled (fills v)
  one_waits r waits same = none_fills same none
    where
      right : (b : Bool) → (b && false) ≡ false
      right true = refl
      right false = refl

      none : (j : ℕ) (x : OpenTask) → slice_get e.tasks j ≡ Some x →
          (is_decided x && is_due_in t x.tag x.phase) ≡ false
      none j x at = by_place (j == r.k) refl
        where
          by_place : (c : Bool) → (j == r.k) ≡ c → (is_decided x && is_due_in t x.tag x.phase) ≡ false
          by_place true e =
              let is : x ≡ r.a = same_Some x r.a (sym at ∙ (ap (slice_get _) (eqb-true j r.k e) ∙ r.at)) in
              ap (λ (y : OpenTask). is_decided y && is_due_in t y.tag y.phase) is
              ∙ (ap (λ (c : Bool). is_decided r.a && c) waits ∙ right (is_decided r.a))
          by_place false e =
              ap (λ (c : Bool). c && is_due_in t x.tag x.phase)
              (r.others j x at (λ same. false≢true (sym e ∙ (ap (λ (m : ℕ). m == r.k) same ∙ eq_self r.k))))

  one_decided : (r : OneDecided e.tasks) → (c : Bool) → is_due_in t r.a.tag r.a.phase ≡ c →
      HasFilledBy e f t (claims_of (numbers_of v) v.tasks) (cond c (Some r.k) None) → AreFilled (fills v)
  one_decided r false due h = one_waits r due h
  one_decided r true due h = one_fills r due h

  all_filled : HasFilledBy e f t (claims_of (numbers_of v) v.tasks) (to_answer t e) → DecidedOrNot e.tasks → AreFilled (fills v)
  all_filled its (inl none) =
      none_fills (subst (λ x. HasFilledBy e f t (claims_of (numbers_of v) v.tasks) (due_at t e x)) none.0 its)
      (λ j x at. ap (λ (c : Bool). c && is_due_in t x.tag x.phase) (none.1 j x at))
  all_filled its (inr r) =
      one_decided r (is_due_in t r.a.tag r.a.phase) refl
      (subst (λ (x : Option OpenTask). HasFilledBy e f t (claims_of (numbers_of v) v.tasks) (cond (is_due_to t x) (Some r.k) None))
      r.at
      (subst (λ x. HasFilledBy e f t (claims_of (numbers_of v) v.tasks) (due_at t e x)) r.found its))

pub keeps_filled : (e f : DeviceCore) (v : State) → IsTied v → ShowsReads v → FramesWait v → AreaReads v → Keeps e v →
    HasFilled e f → Keeps f (fills v) × HaveAnswered (fills v)
keeps_filled e f v tied shows waits reads k fill =
    all_filled e f v (record { tied = tied; shows = shows; waits = waits; reads = reads }) k
    (fill v.translation (claims_of (numbers_of v) v.tasks) (k.layer_kept, k.claims)) (decided_cases e.tasks k.one_sends)
