-- The numbers of groups: behind the frontier come those of the pending groups, or that of the repair under way. The
-- pages that are kept are those of the pending groups.
use Rattle.ftl_core.proofs.Common.{Bool, Core, Describes, Entry, Key, Ledger, List, Name, None, Option, PagesKept}
use Rattle.ftl_core.proofs.Common.{Pending, Place, RepairStep, Repairing, Some, Standing, StepKept, Translation, Valid}
use Rattle.ftl_core.proofs.Common.{ap, arith, before_accepted, drop, entry_of, false, if_false, inl, inr, is_mended}
use Rattle.ftl_core.proofs.Common.{is_some, length, length-drop, name_cases, names_after, next_number, none_some}
use Rattle.ftl_core.proofs.Common.{pending, refl, repairs_in, same_name, step_after, subst, suc, sym, true, true≢false}
use Rattle.ftl_core.proofs.Common.{ℕ, ⊎_elim, ◌+◌, ◌∙◌, ◌≡◌, ◌≤◌, ◌⊎◌}
use Rattle.std.proofs.Common.{sum_by, ◌-◌}
use Rattle.std.proofs.lemmas.List.{drop-drop}
use Rattle.ufs_spec.specs.Keys as keys
use Rattle.ufs_spec.specs.Ledger as ledger
use Rattle.ufs_spec.specs.Translation as layer
use Rattle.ufs_spec.specs.Translation.{pending_pages}
use Rattle.ftl_core.specs.declared.books.Step as kept_step
use Rattle.ftl_core.specs.declared.books.Step.TheVariants as steps
use Rattle.ftl_core.proofs.pages.NamesBehind.{count_names}
use Rattle.ftl_core.proofs.pages.PagesNamed.{same_count}

-- as many pages are kept as the groups have
pub pages_length : (standing : Standing) (entries : Name → Option Entry) (n : ℕ) (ps : List Pending)
    (gs : List keys.Group) → PagesKept standing entries ps (names_after n gs) → length ps ≡ sum_by length gs
pages_length standing entries n ps gs h =
    same_count standing entries ps (names_after n gs) h ∙ count_names n gs

-- The step under way

-- the step repairs a key
abbrev pub IsRepair : Option layer.Step → Type 0
IsRepair step = (name : Name) × (from : Option Place) × (there : Bool)
    × (step ≡ Some (record { kind = RepairStep name from; there = there }))

-- the step under way is no repair, or it repairs the one group above the frontier
abbrev pub RepairsBehind : Ledger → Option kept_step.Step → Option layer.Step → Type 0
RepairsBehind l step u =
    ((repairs_in step ≡ 0) × (IsRepair u → ⊥))
    ⊎ ((repairs_in step ≡ 1) × (suc l.frontier ≡ l.greatest_seen + length l.groups) × IsRepair u)

repairs_kind : layer.StepKind → Bool
repairs_kind (layer.MarkStep n fence) = false
repairs_kind (layer.CopyStep name from) = false
repairs_kind (RepairStep name from) = true

repairs : Option layer.Step → Bool
repairs None = false
repairs (Some s) = repairs_kind s.kind

repairs_behind : (l : Ledger) (step : Option kept_step.Step) (content : List ℕ) (u : Option layer.Step) →
    StepKept l step content u → RepairsBehind l step u
unfolding repairs repairs_kind
repairs_behind l None content None h = inl (refl, λ r. cc)
repairs_behind l None content (Some s) h = absurd h
repairs_behind l (Some (steps.Mark n fence)) content None h = absurd h
repairs_behind l (Some (steps.Mark n fence)) content (Some s) h =
    inl (refl, λ r. true≢false (sym (ap repairs r.3) ∙ ap (λ (z : layer.Step). repairs (Some z)) h))
repairs_behind l (Some (steps.Copy n k from read)) content None h = absurd h
repairs_behind l (Some (steps.Copy n k from read)) content (Some s) h =
    inl (refl, λ r. true≢false (sym (ap repairs r.3) ∙ ap (λ (z : layer.Step). repairs (Some z)) h.1))
repairs_behind l (Some (steps.Repair n k from there)) content None h = absurd h
repairs_behind l (Some (steps.Repair n k from there)) content (Some s) h =
    inr (refl, sym h.1.next ∙ h.1.last, (_, _, _, ap (λ (z : layer.Step). Some z) h.0))

-- How far the mending is

module _ (t : Translation) (v : Valid t) where
  -- a repair is under way while keys are repaired alone
  repairing : IsRepair t.work.step → (left : List Key) × (t.work.mending ≡ Repairing left)
  repairing r = let k = v.step.kind _ r.3 in (k.0, k.1)

  pub no_repair_mended : IsRepair t.work.step → is_mended t.work.mending ≡ true → ⊥
  no_repair_mended r e = let k = repairing r in false_is (sym (ap is_mended k.1) ∙ e)
    where
      false_is : false ≡ true → ⊥
      false_is e = cc

-- the groups above the frontier
abbrev pub behind : Ledger → List keys.Group
behind l = drop (l.frontier - l.greatest_seen) l.groups

-- once each repair is durable they are those that are pending
pub pending_mended : (l : Ledger) → before_accepted l ≤ l.frontier → pending l ≡ behind l
pending_mended l h =
    drop-drop (l.frontier - before_accepted l) l.repairs l.groups
    ∙ ap (λ (n : ℕ). drop n l.groups) (sums l.greatest_seen l.repairs l.frontier h)
  where
    sums : (a b n : ℕ) → a + b ≤ n → b + (n - (a + b)) ≡ n - a
    sums a b n h = omega arith

-- none is pending where all are repairs
pub none_pending : (l : Ledger) → l.repairs ≡ length l.groups → length (pending l) ≡ 0
none_pending l e =
    let a = length-drop l.repairs l.groups in
    let b = length-drop (l.frontier - before_accepted l) (drop l.repairs l.groups) in
    omega (arith, a, b, e)

-- where the step is no repair, none is kept as under way, and the page of a group that did not stand does not end it
pub no_repair_kept : (l : Ledger) (step : Option kept_step.Step) (content : List ℕ) (u : Option layer.Step) →
    StepKept l step content u → (IsRepair u → ⊥) → repairs_in step ≡ 0
no_repair_kept l step content u h none =
    ⊎_elim (λ k. k.0) (λ k. absurd (none k.2)) (repairs_behind l step content u h)

-- and none is under way
pub beside_none : (l : Ledger) (step : Option kept_step.Step) (content : List ℕ) (u : Option layer.Step) →
    StepKept l step content u → repairs_in step ≡ 0 → IsRepair u → ⊥
beside_none l step content u h none =
    ⊎_elim (λ k. k.1)
    (λ (k : (repairs_in step ≡ 1) × (suc l.frontier ≡ l.greatest_seen + length l.groups) × IsRepair u).
    absurd (let one = k.0 in omega (arith, one, none)))
    (repairs_behind l step content u h)

pub step_stays : (l : Ledger) (step : Option kept_step.Step) (content : List ℕ) (u : Option layer.Step) (name : Name) →
    StepKept l step content u → l.standing name.number name.index ≡ None → repairs_in step ≡ 0 →
    step_after name u ≡ u
step_stays l None content None name h new e = refl
step_stays l None content (Some s) name h new e = absurd h
step_stays l (Some (steps.Mark n fence)) content None name h new e = absurd h
step_stays l (Some (steps.Mark n fence)) content (Some s) name h new e =
    subst (λ (z : layer.Step). step_after name (Some z) ≡ Some z) (sym h) refl
step_stays l (Some (steps.Repair n k from there)) content u name h new e = cc
step_stays l (Some (steps.Copy n k from read)) content None name h new e = absurd h
step_stays l (Some (steps.Copy n k from read)) content (Some s) name h new e =
    subst (λ (z : layer.Step). step_after name (Some z) ≡ Some z) (sym h.1)
    (if_false (same_name name h.0) None (Some (record { kind = layer.CopyStep h.0 from; there = is_some read }))
    (⊎_elim
    (λ (w : (same_name name h.0 ≡ true) × (name ≡ h.0)).
    absurd (none_some h.2.place
    (sym new ∙ ap (λ (z : Name). l.standing z.number z.index) w.1 ∙ h.2.stands)))
    (λ w. w.0)
    (name_cases name h.0)))

module _ (c : Core) (t : Translation) (h : Describes c t) where
  -- once the device is mended no repair is under way
  pub repairs_mended : is_mended t.work.mending ≡ true → repairs_in c.step ≡ 0
  repairs_mended e =
      ⊎_elim (λ k. k.0) (λ k. absurd (no_repair_mended t h.valid k.2 e))
      (repairs_behind t.ledger c.step c.content t.work.step h.kept.work.step_is)

  -- as many pages are kept as are pending
  pub kept_length : length c.pages ≡ pending_pages t.ledger
  kept_length = pages_length t.ledger.standing (entry_of t.ledger) t.ledger.frontier c.pages (pending t.ledger)
      h.kept.ledger_kept.pages

  -- once the device is mended the pages that are kept are those of all groups above the frontier
  pub kept_pages : is_mended t.work.mending ≡ true →
      PagesKept t.ledger.standing (entry_of t.ledger) c.pages (names_after t.ledger.frontier (behind t.ledger))
  kept_pages e =
      subst (λ (gs : List keys.Group). PagesKept t.ledger.standing (entry_of t.ledger) c.pages
      (names_after t.ledger.frontier gs)) (pending_mended t.ledger (h.kept.work.repaired e)) h.kept.ledger_kept.pages

  -- the greatest number that was given is that of the last group
  pub last_right : c.last ≡ t.ledger.greatest_seen + length t.ledger.groups
  last_right = let e = h.kept.ledger_kept.last_given in omega (arith, e)

  -- the next number is the ledger's
  pub numbers_right : next_number c ≡ ledger.next_number t.ledger
  numbers_right = let e = h.kept.ledger_kept.last_given in omega (arith, e)
