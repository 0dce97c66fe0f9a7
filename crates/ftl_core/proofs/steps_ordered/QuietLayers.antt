-- A layer whose mending has no step under way: when a step is due, and that nothing else is pending.
use Rattle.ftl_core.proofs.Common.{Book, Bool, Core, Describes, HasKey, IsLastRepair, Kept, Key, Ledger, List, None}
use Rattle.ftl_core.proofs.Common.{Option, OrderMark, OrderRepair, Repairing, Some, Spot, StepKept, Translation, [], ap}
use Rattle.ftl_core.proofs.Common.{arith, block_kept, book, drop, false, greatest_number, has_mark_number, has_stale}
use Rattle.ftl_core.proofs.Common.{if◌then◌else◌, inl, inr, is_mended, is_none, is_some, last_number, length, list_any}
use Rattle.ftl_core.proofs.Common.{mending_kept, nat_le, nat_lt, nat_tests, none_is, none_some, not, refl, slice_get}
use Rattle.ftl_core.proofs.Common.{spots, subst, suc, sym, true, zero, ℕ, ◌&&◌, ◌+◌, ◌∙◌, ◌∷◌, ◌≡◌, ◌⊎◌}
use Rattle.ufs_spec.specs.Ledger as ledger
use Rattle.ufs_spec.specs.Disk as disk
use Rattle.ufs_spec.specs.Translation as layer
use Rattle.ufs_spec.specs.Translation.{due_order}
use Rattle.block_table.specs.Blocks.{is_stale}
use Rattle.power_loss.proofs.books.LayerParts.{MendingOf}
use Rattle.ftl_core.specs.declared.books.Step as kept_step
use Rattle.ftl_core.specs.declared.books.Step.TheVariants as steps
use Rattle.ftl_core.proofs.job_taken.Mended.{none_waiting}
use Rattle.ftl_core.proofs.look_and_accept.Numbers.{numbers_right}
use Rattle.ftl_core.proofs.opened.FoundBlocks.{any_mapped}
use Rattle.ftl_core.specs.Moves.{has_number}
use Rattle.ftl_core.specs.Turns.{is_repair_due}

-- Lists

abbrev pub at_front : {A : Type 0} → List A → Option A
at_front [] = None
at_front (x ∷ xs) = Some x

pub get_dropped : {A : Type 0} (xs : List A) (n : ℕ) → slice_get xs n ≡ at_front (drop n xs)
get_dropped [] zero = refl
get_dropped [] (suc n) = refl
get_dropped (x ∷ xs) zero = refl
get_dropped (x ∷ xs) (suc n) = get_dropped xs n

-- No step

pub step_kept_none : (l : Ledger) (s : Option kept_step.Step) (content : List ℕ) (o : Option layer.Step) →
    StepKept l s content o → is_none s ≡ is_none o
step_kept_none l None content None h = refl
step_kept_none l None content (Some o) h = absurd h
step_kept_none l (Some (steps.Mark n fence)) content (Some o) h = refl
step_kept_none l (Some (steps.Mark n fence)) content None h = absurd h
step_kept_none l (Some (steps.Repair n k from there)) content (Some o) h = refl
step_kept_none l (Some (steps.Repair n k from there)) content None h = absurd h
step_kept_none l (Some (steps.Copy n k from read)) content (Some o) h = refl
step_kept_none l (Some (steps.Copy n k from read)) content None h = absurd h

-- the layer has no step where none is kept
pub no_step : (c : Core) (t : Translation) → Kept c t → c.step ≡ None → t.work.step ≡ None
no_step c t k none = none_is t.work.step
    (sym (step_kept_none t.ledger c.step c.content t.work.step k.work.step_is) ∙ ap (λ (o : Option kept_step.Step).
    is_none o) none)

-- While keys are repaired

under_way : (b : Book) {frontier : ℕ} {step : Option layer.Step} → step ≡ None →
    (frontier ≡ last_number b) ⊎ ((suc frontier ≡ last_number b) × IsLastRepair b step) → frontier ≡ last_number b
under_way b e (inl h) = h
under_way b e (inr h) = absurd (none_some _ (sym e ∙ h.1.2))

-- what is known of a layer that repairs these keys, with no step under way
pub record IsQuiet (c : Core) (t : Translation) (left : List Key) : Type 0 where
  pub pages : c.pages ≡ []
  pub repairs : t.ledger.repairs ≡ length t.ledger.groups
  pub frontier : t.ledger.frontier ≡ t.ledger.greatest_seen + length t.ledger.groups
  pub keys : (j : ℕ) (k : Key) → slice_get left j ≡ Some k → HasKey (book t) k

pub is_quiet : (c : Core) (t : Translation) (left : List Key) → Describes c t → c.step ≡ None →
    t.work.mending ≡ Repairing left → IsQuiet c t left
is_quiet c t left h none repairing = record {
  pages = none_waiting c t h (ap is_mended repairing);
  repairs = (h.valid.history.mending (ap is_mended repairing)).0;
  frontier = under_way (book t) (no_step c t h.kept none) mending.more.under_way;
  keys = mending.more.keys;
}
  where
    mending : MendingOf t (Repairing left)
    mending = subst (MendingOf t) repairing h.valid.mending

-- What is due

number_left : (next marks most : ℕ) → next ≡ suc marks → nat_le next most ≡ nat_lt marks most
number_left next marks most e = grind (arith, nat_tests)

pub mark_number : (c : Core) (t : Translation) → Kept c t → has_mark_number c ≡ layer.has_mark_number t
mark_number c t k = number_left c.next_mark t.ledger.marks greatest_number k.work.next_mark

tests : (a b most : ℕ) → a + 1 ≡ b → nat_lt a most ≡ nat_le b most
tests a b most e = grind (arith, nat_tests)

pub group_number : (c : Core) (t : Translation) → Describes c t → has_number c ≡ layer.has_number t
group_number c t h = tests c.last (ledger.next_number t.ledger) greatest_number (numbers_right c t h)

pub some_if : {A : Type 0} (b : Bool) (x : A) → b ≡ is_some (if b then Some x else None)
some_if true x = refl
some_if false x = refl

-- a block is kept as stale where it is free, and what is in it opens
pub stale_agrees : (c : Core) (t : Translation) → Kept c t → has_stale c ≡ layer.has_stale t
stale_agrees c t k =
    ap (list_any is_stale) k.blocks
    ∙ any_mapped is_stale (λ (s : Spot). block_kept (t.disk.blocks s) (t.disk.vacancies s)) (spots t.numbers)
    ∙ ap (λ (test : Spot → Bool). list_any test (spots t.numbers))
    (λ i s. one (t.disk.blocks s) (t.disk.vacancies s) i)
  where
    one : (b : disk.BlockState) (v : disk.Vacancy) →
        is_stale (block_kept b v) ≡ (layer.is_free b && layer.is_stale v)
    one disk.Free disk.Untouched = refl
    one disk.Free disk.Stale = refl
    one disk.Free disk.Ready = refl
    one (disk.Filling next) v = refl
    one disk.Closed v = refl
    one disk.Bad v = refl

-- whether a step may be ordered now
pub may_agree : (c : Core) (t : Translation) → Kept c t →
    (is_none c.step && not (has_stale c)) ≡ (is_none t.work.step && not (layer.has_stale t))
may_agree c t k = λ i.
    step_kept_none t.ledger c.step c.content t.work.step k.work.step_is i && not (stale_agrees c t k i)

-- the step that is due where none is under way, and no block is stale
pub order_is : (c : Core) (t : Translation) → Kept c t → (is_none c.step && not (has_stale c)) ≡ true →
    due_order t ≡ layer.next_order t (mending_kept c.mending (drop c.repaired c.lost)) t.work.plan
order_is c t k may = (λ i. if (sym (may_agree c t k) ∙ may) i then
    layer.next_order t (k.work.mending_is i) t.work.plan else None)

pub repair_due : (c : Core) (t : Translation) (left : List Key) (plan : Option layer.Plan) → Describes c t →
    c.step ≡ None → t.work.mending ≡ Repairing left →
    is_repair_due c (at_front left) ≡ is_some (layer.next_order t (Repairing left) plan)
repair_due c t [] plan h none repairing =
    mark_number c t h.kept ∙ some_if (layer.has_mark_number t) (OrderMark None)
repair_due c t (k ∷ left) plan h none repairing =
    group_number c t h ∙ some_if (layer.has_number t) (OrderRepair k left)
