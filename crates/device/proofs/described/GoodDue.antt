-- GOOD is due to a task of the device just where it is due to the specified one: at once, once its group is durable, or
-- once each page of the RPMB area that it reads is there.
use Rattle.device.proofs.Common.{All-cons, All-nil, Answering, AreFramesKept, Awaiting, Bool, Deed, Frames, Gathering}
use Rattle.device.proofs.Common.{FramesFit, false≢true}
use Rattle.device.proofs.Common.{IsDoing, List, None, OpenTask, Option, Phase, ReadBlock, ReadState, ReadingArea}
use Rattle.device.proofs.Common.{RpmbRequest, Sending, SendingBytes, Some, State, Status, TaskKept, TasksKept}
use Rattle.device.proofs.Common.{Translation, [], ap, arith, before_accepted, false, find, is_area_read, is_at_hand}
use Rattle.device.proofs.Common.{is_decided, is_due_in, is_good_due, is_page_there, is_pin_of, is_read, is_to_fill}
use Rattle.device.proofs.Common.{is_unanswered, is_unfilled, map, nat_le, nat_tests, not, refl, second_read, slice_get}
use Rattle.device.proofs.Common.{suc, sym, true, zero, ℕ, ◌&&◌, ◌+◌, ◌-◌, ◌∙◌, ◌∷◌, ◌≡◌, ◌≤◌}
use Rattle.std.proofs.Math.Bool.{and-true}
use Rattle.ufs_spec.specs.Exchanges as exchange
use Rattle.ufs_spec.specs.Exchanges.{Comparing, is_good}
use Rattle.task_set.specs.declared.frames.Frames.TheVariants as frames
use Rattle.task_set.specs.declared.tasks.Phase.TheVariants as phase
use Rattle.ufs_spec.specs.declared.exchanges.Status.TheVariants as status
use Rattle.device.specs.Frames.{is_second_there}
use Rattle.device.proofs.described.Settled.{AreAnswered, same_asked}
use Rattle.device.proofs.open_tasks.VerifyEnds.{filled_off}

-- Pages of the area

-- what is read of two lists that are the same
pub same_first : {X : Type 0} {x y : X} {xs ys : List X} → x ∷ xs ≡ y ∷ ys → x ≡ y
same_first e = cc

pub same_rest : {X : Type 0} {x y : X} {xs ys : List X} → x ∷ xs ≡ y ∷ ys → xs ≡ ys
same_rest e = cc

pub some_left : {X : Type 0} {x : X} {xs : List X} → x ∷ xs ≡ [] → ⊥
some_left e = cc

-- one page is read or two are, and none of them needs a read any more on both sides, or on none
module _ (s : State) (b : exchange.Task) where
  abbrev is_there : ℕ → ReadState → Bool
  is_there index state =
      is_read state (is_at_hand s.translation.work.rests (find (is_pin_of b.tag index) s.translation.pins))

  pub same_pages : (pages : List ReadBlock) (first : ReadState) (second : Option ReadState) →
      map (λ (page : ReadBlock). page.state) pages ≡ first ∷ second_read second →
      is_area_read s b pages
      ≡ (is_page_there s.translation b.tag 0 first && is_second_there s.translation b.tag second)
  same_pages [] first second e = absurd (some_left (sym e))
  same_pages (p ∷ []) first None e = λ i. is_there 0 (same_first e i) && true
  same_pages (p ∷ []) first (Some how) e = absurd (some_left (sym (same_rest e)))
  same_pages (p ∷ q ∷ []) first (Some how) e =
      (λ i. is_there 0 (same_first e i) && (is_there 1 (same_first (same_rest e) i) && true))
      ∙ ap (λ (c : Bool). is_there 0 first && c) (and-true (is_there 1 how))
  same_pages (p ∷ q ∷ pages) first None e = absurd (some_left (same_rest e))
  same_pages (p ∷ q ∷ w ∷ pages) first (Some how) e = absurd (some_left (same_rest (same_rest e)))

-- Whose GOOD is due

-- a request is to fill its register on both sides, or on none
pub same_unfilled : (f : Frames) (held : Option (List ℕ)) (request : Option RpmbRequest) →
    AreFramesKept f held request → is_unfilled request ≡ is_unanswered f
same_unfilled frames.NotBrought held request h = ap is_unfilled h
same_unfilled frames.Undecided held request h = ap is_unfilled h
same_unfilled (frames.Decided code) held request h = ap is_unfilled h.is ∙ ap not h.unfilled
same_unfilled frames.Answered held request h = filled_off request h

good_told : (told : Status) (t : Translation) (tag n : ℕ) →
    is_good told ≡ is_due_in t tag (phase.Answer told n)
good_told status.Good t tag n = refl
good_told (status.CheckCondition sense) t tag n = refl
good_told status.Busy t tag n = refl
good_told status.TaskSetFull t tag n = refl

-- the numbers below the frontier, counted from the repairs on or from the first
pub same_test : (before n frontier commands : ℕ) → before ≤ frontier → n ≡ before + commands →
    nat_le commands (frontier - before) ≡ nat_le n frontier
same_test before n frontier commands above is = grind (arith, nat_tests)

-- each repair is durable if something waits
abbrev pub IsLow : State → Deed → Type 0
IsLow v deed =
    (commands : ℕ) → deed ≡ Awaiting commands → before_accepted v.translation.ledger ≤ v.translation.ledger.frontier

-- a request that is yet to fill its register is no VERIFY
not_quiet : (f : Frames) → is_unanswered f ≡ true → f ≡ frames.NotBrought → ⊥
not_quiet f asks quiet = false≢true (sym (ap is_unanswered quiet) ∙ asks)

-- GOOD is due to both sides' task, or to none, if it has a request that is yet to fill its register
module _ (v : State) (b : exchange.Task) (f : Frames) (held : Option (List ℕ)) (asks : is_unanswered f ≡ true) where
  same_good : (expected : ℕ) (p : Phase) (deed : Deed) → IsLow v deed → FramesFit p f held deed →
      IsDoing (before_accepted v.translation.ledger) expected b.length p deed →
      is_good_due v b deed ≡ is_due_in v.translation b.tag p
  same_good expected (phase.AwaitFrontier n size) (Awaiting commands) low fits h =
      same_test (before_accepted v.translation.ledger) n v.translation.ledger.frontier commands (low commands refl) h.0
  same_good expected (phase.ReadArea r) (ReadingArea pages) low fits h = same_pages v b pages r.first r.second h.reads
  same_good expected (phase.Verify x) (ReadingArea pages) low fits h = absurd (not_quiet f asks fits)
  same_good expected (phase.Answer told n) (Answering x carried) low fits h =
      ap is_good h.0 ∙ good_told told v.translation b.tag n
  same_good expected (phase.Answer told n) (Sending blocks sent) low fits h =
      sym (ap (λ (y : Status). is_due_in v.translation b.tag (phase.Answer y n)) h.told_is)
  same_good expected (phase.Answer told n) (Comparing blocks compared asked) low fits h =
      sym (ap (λ (y : Status). is_due_in v.translation b.tag (phase.Answer y n)) h.0.told_is)
  same_good expected (phase.AskBlock x) (Comparing blocks compared asked) low fits h = refl
  same_good expected (phase.AwaitBlock x) (Comparing blocks compared asked) low fits h = refl
  same_good expected (phase.Ask w) (Gathering purpose gathered asked) low fits h = refl
  same_good expected (phase.Await w) (Gathering purpose gathered asked) low fits h = refl
  same_good expected (phase.SendBlocks x) (Sending blocks sent) low fits h = refl
  same_good expected (phase.SendHeld x) (SendingBytes bytes) low fits h = refl
  same_good expected p deed low fits h = absurd h

-- Whose register is filled

pub same_fill : (v : State) (a : OpenTask) (b : exchange.Task) → IsLow v b.deed →
    TaskKept (before_accepted v.translation.ledger) a b →
    is_to_fill v b ≡ (is_decided a && is_due_in v.translation a.tag a.phase)
same_fill v a b low h =
    ap (λ (c : Bool). c && is_good_due v b b.deed) (same_unfilled a.frames a.held b.request h.request)
    ∙ same_asked (is_decided a) (is_good_due v b b.deed) (is_due_in v.translation a.tag a.phase)
    (λ asks. same_good v b a.frames a.held asks a.expected a.phase b.deed low h.fits h.doing
    ∙ ap (λ (tag : ℕ). is_due_in v.translation tag a.phase) h.tag)

-- where no task of the device is to fill a register now, none of the specified ones is
pub all_answered : (v : State) (ts : List OpenTask) (us : List exchange.Task) →
    ((k : ℕ) (b : exchange.Task) → slice_get us k ≡ Some b → IsLow v b.deed) →
    ((k : ℕ) (a : OpenTask) → slice_get ts k ≡ Some a →
    (is_decided a && is_due_in v.translation a.tag a.phase) ≡ false) →
    TasksKept (before_accepted v.translation.ledger) ts us → AreAnswered v us
all_answered v [] [] low none h = All-nil (λ task. is_to_fill v task ≡ false)
all_answered v (x ∷ ts) (y ∷ us) low none h =
    All-cons (λ task. is_to_fill v task ≡ false) y us
    (same_fill v x y (low zero y refl) h.0 ∙ none zero x refl)
    (all_answered v ts us (λ k b at. low (suc k) b at) (λ k a at. none (suc k) a at) h.1)
all_answered v ts us low none h = absurd h
