-- Steps that are ordered keep a life valid: a plan, and a copy of it.
use Rattle.power_loss.proofs.Common.{Book, Bool, Cell, Cells, CopyStep, Disk, Entry, GroupPage, IsLostNumber}
use Rattle.power_loss.proofs.Common.{IsOverwritten, IsPageAt, IsToCopy, Ledger, List, Mark, Mended, Mending}
use Rattle.power_loss.proofs.Common.{MendingRight, None, OnePlanRight, Option, Place, Plan, Some, Spot, StaleRight}
use Rattle.power_loss.proofs.Common.{StandsIn, Step, StepKindRight, StepRight, Tag, ToReadRight, Translation, Valid}
use Rattle.power_loss.proofs.Common.{Want, ap, arith, book, copy_begun, false, false≢true, inl, inr, key_of, name_of}
use Rattle.power_loss.proofs.Common.{none-some, one_page, recorded_in, refl, same_Some, subst, suc, sym, true}
use Rattle.power_loss.proofs.Common.{with_plan, zero, ℕ, ⊎_elim, ◌∙◌, ◌∷◌, ◌≡◌, ◌≤◌, ◌⊎◌}
use Rattle.power_loss.proofs.books.PagesByName.{overwritten_more}
use Rattle.power_loss.proofs.kept_pages.ReadsStay.{copy_read, copy_wants}
use Rattle.power_loss.proofs.ordered_steps.MarksAndRepairs.{next_step, no_step}
use Rattle.power_loss.proofs.books.LayerParts.{NeededOf, MendingOf}

-- A plan

-- in a mended device the plan and the step are of no matter to the mending
mended_mending : (b : Book) (d : Disk) (l : Ledger) (plan other : Option Plan) (step next : Option Step) {w : Mending} →
    w ≡ Mended → MendingRight b d l plan step w → MendingRight b d l other next w
mended_mending b d l plan other step next e m =
    subst (MendingRight b d l other next) (sym e) (subst (MendingRight b d l plan step) e m)

-- a plan and a step of it
pub plans : {t : Translation} {pl : Plan} {next : Option Step} → Valid t → t.work.step ≡ None →
    t.work.mending ≡ Mended →
    OnePlanRight (book t) t.ledger.frontier t.ledger.standing t.disk.blocks t.disk.flights next pl →
    StepRight (book t) t.ledger.marks t.disk.cells t.work.mending (Some pl) next →
    ToReadRight t.disk.cells t.disk.finished t.disk.blocks t.disk.erasing next (Some pl) →
    Valid (record t { work = record t.work { plan = Some pl; step = next } })
plans {t} {pl} {next} v none mended r s reads = next_step v none (omega arith)
    (subst (StaleRight t.numbers t.disk.blocks t.disk.vacancies next) (sym mended) tt)
    (mended_mending (book t) t.disk t.ledger t.work.plan (Some pl) t.work.step next mended v.mending) s
    (record {
      mended = λ other h. mended;
      one = λ other h.
          subst (OnePlanRight (book t) t.ledger.frontier t.ledger.standing t.disk.blocks t.disk.flights next)
          (same_Some pl other h) r;
    }) reads

-- What stands in the victim

pub record HoldsName (cells : Cells) (n i : ℕ) (p : Place) : Type 0 where
  pub tag : Tag
  pub body : List ℕ
  pub there : cells p ≡ GroupPage tag body
  pub number : tag.number ≡ n
  pub index : tag.index ≡ i

mended_recorded : {t : Translation} → Valid t → t.work.mending ≡ Mended →
    recorded_in t.ledger.newest ≤ t.ledger.frontier
mended_recorded {t} v mended =
    let m : MendingOf t Mended = subst (MendingOf t) mended v.mending in
    subst (λ (o : Option Mark). recorded_in o ≤ t.ledger.frontier) (sym m.is) m.right.within

-- what stands there is overwritten, or the place holds its page
pub stands_holds : {t : Translation} {n i : ℕ} (e : Entry) {p : Place} → Valid t → t.work.mending ≡ Mended →
    IsPageAt (book t) n i e → t.ledger.standing n i ≡ Some p → (IsLostNumber (book t) n → ⊥) →
    IsOverwritten (book t) n e.item.key t.ledger.frontier ⊎ HoldsName t.disk.cells n i p
stands_holds {t} {n} {i} e {p} v mended h s free = ⊎_elim
    (λ k.
    let at = same_Some k.place p (sym k.known ∙ s) in
    inr (record {
      tag = k.tag;
      body = k.body;
      there = ap t.disk.cells (sym at) ∙ k.there;
      number = k.number;
      index = k.index;
    })) (λ k. inl (overwritten_more (mended_recorded v mended) k.by)) (v.safe.safe n i e p h s free)

-- A copy

abbrev copy_step : Tag → Place → Step
copy_step tag p = record { kind = CopyStep (name_of tag) p; there = false }

-- what is to be copied of a plan, where the page at its front is the one of the step
copies_on : (copies : List Place) (p : Place) (tag : Tag) (body : List ℕ) {step : Option Step} {cells : Cells} {n i : ℕ}
    {q : Place} → step ≡ None → cells p ≡ GroupPage tag body → HoldsName cells n i q →
    IsToCopy (p ∷ copies) step n i q → IsToCopy copies (Some (copy_step tag p)) n i q
copies_on copies p tag body {cells = cells} {q = q} none is holds (inl (zero, h)) =
    let at = same_Some p q h in
    let same = (one_page tag holds.tag body holds.body (sym is ∙ ap cells at ∙ holds.there)).0 in
    let number = ap (λ (x : Tag). x.number) same ∙ holds.number in
    let index = ap (λ (x : Tag). x.index) same ∙ holds.index in
    inr (
      false,
      λ k. Some (record { kind = CopyStep (record { number = number k; index = index k }) (at k); there = false }),
    )
copies_on copies p tag body none is holds (inl (suc j, h)) = inl (j, h)
copies_on copies p tag body none is holds (inr h) = absurd (none-some _ (sym none ∙ h.1))

-- and where it holds no page of a group
copies_past : (copies : List Place) (p : Place) (step : Option Step) {cells : Cells} {n i : ℕ} {q : Place} →
    ((tag : Tag) (body : List ℕ) → cells p ≡ GroupPage tag body → ⊥) → HoldsName cells n i q →
    IsToCopy (p ∷ copies) step n i q → IsToCopy copies step n i q
copies_past copies p step {cells = cells} {q = q} never holds (inl (zero, h)) =
    absurd (never holds.tag holds.body (ap cells (same_Some p q h) ∙ holds.there))
copies_past copies p step never holds (inl (suc j, h)) = inl (j, h)
copies_past copies p step never holds (inr h) = inr h

abbrev pub plan_with : Spot → List Place → Plan
plan_with s copies = record { victim = s; copies = copies }

-- the copies of a plan that is valid go on
copies_right : {t : Translation} (s : Spot) (copies left : List Place) {next : Option Step} → Valid t →
    t.work.mending ≡ Mended → t.work.plan ≡ Some (plan_with s copies) →
    ((n i : ℕ) (q : Place) → HoldsName t.disk.cells n i q → IsToCopy copies t.work.step n i q →
    IsToCopy left next n i q) →
    OnePlanRight (book t) t.ledger.frontier t.ledger.standing t.disk.blocks t.disk.flights next (plan_with s left)
copies_right {t} s copies left {next} v mended is more = record {
  state = was.state;
  copied = λ n i e p h. ⊎_elim (λ o. inl o) (still n i e p h) (was.copied n i e p h);
  flown = was.flown;
}
  where
    was : OnePlanRight (book t) t.ledger.frontier t.ledger.standing t.disk.blocks t.disk.flights t.work.step
        (plan_with s copies)
    was = v.plan.one (plan_with s copies) is

    still : (n i : ℕ) (e : Entry) (p : Place) → StandsIn (book t) t.ledger.standing s n i e p →
        IsToCopy copies t.work.step n i p →
        IsOverwritten (book t) n e.item.key t.ledger.frontier ⊎ IsToCopy left next n i p
    still n i e p h c =
        ⊎_elim (λ o. inl o) (λ holds. inr (more n i p holds c)) (stands_holds e v mended h.is h.known h.free)

abbrev is_group : Cell → Bool
is_group (GroupPage tag body) = true
is_group cell = false

copy_of : {t : Translation} (s : Spot) (p : Place) (ps : List Place) (cell : Cell) → Valid t → t.work.step ≡ None →
    t.work.mending ≡ Mended → t.work.plan ≡ Some (plan_with s (p ∷ ps)) → t.disk.cells p ≡ cell →
    Valid (copy_begun (with_plan t s ps) p cell)
copy_of {t} s p ps (GroupPage tag body) v none mended is at =
    let step = copy_step tag p in
    plans v none mended (copies_right s (p ∷ ps) ps v mended is (λ n i q. copies_on ps p tag body none at))
    (record {
      kind = λ x h. subst
          (λ (z : Step). StepKindRight (book t) t.ledger.marks t.disk.cells t.work.mending (Some (plan_with s ps))
          z.kind)
          (same_Some step x h) (
            mended,
            (record { item = record { key = key_of tag; body = body }; size = tag.size }, v.pages.known p tag body at),
          );
    })
    (copy_read s ps v is
    (λ h. copy_wants (λ (w : Want). NeededOf t w.place) (name_of tag) p h))
copy_of {t} s p ps cell v none mended is at = plans v none mended
    (copies_right s (p ∷ ps) ps v mended is
    (λ n i q. copies_past ps p t.work.step (λ tag body e. false≢true (ap is_group (sym at ∙ e)))))
    (record { kind = λ x h. absurd (no_step none h) }) (copy_read s ps v is (λ h. v.to_read.wanted))

-- a copy is ordered
pub copies_ordered : {t : Translation} (s : Spot) (p : Place) (ps : List Place) → Valid t → t.work.step ≡ None →
    t.work.mending ≡ Mended → t.work.plan ≡ Some (plan_with s (p ∷ ps)) →
    Valid (copy_begun (with_plan t s ps) p (t.disk.cells p))
copies_ordered {t} s p ps v none mended is = copy_of s p ps (t.disk.cells p) v none mended is refl
