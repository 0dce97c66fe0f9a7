-- Programs that fail keep a life valid.
use Rattle.power_loss.proofs.Common.{◌≡◌, ◌≢◌, ℕ, ◌+◌, true, false, ◌⊎◌, List, Some, None, refl, sym, ap, ◌∙◌, subst}
use Rattle.power_loss.proofs.Common.{inl, inr, ⊎_elim, arith, Cell, Cells, GroupPage, Mark, MarkPage, Nothing, Bad}
use Rattle.power_loss.proofs.Common.{CellCrash, Erasing, Free, Programming, Spot, at_die, at_place, at_spot}
use Rattle.power_loss.proofs.Common.{flight_alone, program_failed, spot_of, WentWrong, job_ended, MarkStep, Translation}
use Rattle.power_loss.proofs.Common.{has_mark_number, mark_ordered, Place, Tag, cases_Bool, cond-false, cond-true}
use Rattle.power_loss.proofs.Common.{false≢true, none-some, same_Some, mark_not_nothing, page_not_mark, at_die_is}
use Rattle.power_loss.proofs.Common.{at_place_is, at_spot_is, book, BlocksRight, EraseRight, MarkStepRight}
use Rattle.power_loss.proofs.Common.{ProgramRight, StepKindRight, Valid}
use Rattle.power_loss.proofs.kept_pages.PagesStay.{HeldStay, held_stay, stay_failed}
use Rattle.power_loss.proofs.jobs.DiskChanges.{Change, Follows, HasNoMore, IsGone, IsLeft, changed, numbered_change}
use Rattle.power_loss.proofs.jobs.DiskChanges.{same_step}
use Rattle.power_loss.proofs.jobs.ReadsAndTasks.{idle_fewer}
use Rattle.power_loss.proofs.kept_pages.ReadsStay.{idle_reads, reads_stay}
use Rattle.power_loss.proofs.jobs.StandsSecurely.{at_place_here, at_spot_here, at_spot_other, filling_is_not_bad}
use Rattle.power_loss.proofs.jobs.StandsSecurely.{free_is_not_filling, keeps_program_failed, program_left, blocks_bad}
use Rattle.power_loss.proofs.jobs.StandsSecurely.{closed_is_not_filling, free_is_not_bad, state_kept, vacancies_put}
use Rattle.power_loss.proofs.jobs.StandsSecurely.{victim_kept}
use Rattle.power_loss.proofs.jobs.JobsBegin.{mark_no_copy, mark_no_repair}

-- The place of a program

pub program_blank : {t : Translation} {die : ℕ} {p : Place} → Valid t → ProgramRight t.numbers t.disk.blocks die p →
    t.disk.cells p ≡ Nothing
program_blank {p = p} v r = v.blocks.blank p p.page r.next (omega arith)

pub program_stays : {t : Translation} {die : ℕ} {p : Place} → Valid t → ProgramRight t.numbers t.disk.blocks die p →
    t.disk.erasing (spot_of p) ≡ false
program_stays {t = t} {p = p} v r = ⊎_elim (λ h. absurd (⊎_elim (λ k. free_is_not_filling k r.next)
    (λ k. filling_is_not_bad r.next k) (v.blocks.erased (spot_of p) h))) (λ h. h)
    (cases_Bool (t.disk.erasing (spot_of p)))

-- What a failed program changes

abbrev IsLeftBy : Translation → Place → Cell → Cells → Place → Type 0
IsLeftBy t p cell left q = (left q ≡ t.disk.cells q) ⊎ ((q ≡ p) × ((left q ≡ cell) ⊎ (left q ≡ Nothing)))

module _ (t : Translation) (die : ℕ) (p : Place) (cell : Cell) (left : Cells) (v : Valid t)
    (e : t.disk.flights die ≡ Some (Programming p cell)) (by : (q : Place) → IsLeftBy t p cell left q) where
  place : ProgramRight t.numbers t.disk.blocks die p
  place = v.flights.programs die p cell e

  left_other : (q : Place) → q ≢ p → left q ≡ t.disk.cells q
  left_other q out = ⊎_elim (λ h. h) (λ h. absurd (out h.0)) (by q)

  fresh_at : (q : Place) → IsLeftBy t p cell left q → IsLeft t (program_failed t.disk p left) q
  fresh_at q (inl h) = inl h
  fresh_at q (inr (at, inr h)) = inr (inl h)
  fresh_at q (inr (at, inl h)) =
      let r = v.flights.programs die p cell e in
      inr (inr record {
        die = die;
        flies = e ∙ ap (λ z. Some (Programming z cell)) (sym at) ∙ ap (λ z. Some (Programming q z)) (sym h);
        unfinished = at_place_here t.disk.finished p false q at;
        bad = at_spot_here t.disk.blocks (spot_of p) Bad (spot_of q) (ap spot_of at);
        stays = ap (λ z. t.disk.erasing (spot_of z)) at ∙ program_stays v r;
        blank = ap t.disk.cells at ∙ program_blank v r;
      })

  bad_blocks : BlocksRight t.numbers left (at_place t.disk.finished p false) (at_spot t.disk.blocks (spot_of p) Bad)
      t.disk.erasing
  bad_blocks = blocks_bad (spot_of p) v.blocks
      (λ q h. ⊎_elim (λ k. inl (ap spot_of k.0)) (λ k. inr k.1) (at_place_is t.disk.finished p false q false h))
      (λ q out h. left_other q (λ at. out (ap spot_of at)) ∙ h)

  other_place : (d : ℕ) (q : Place) (other : Cell) → at_die t.disk.flights p.die None d ≡ Some (Programming q other) →
      ProgramRight t.numbers (at_spot t.disk.blocks (spot_of p) Bad) d q
  other_place d q other h = ⊎_elim (λ k. absurd (none-some _ k.1)) (λ k.
      let r = v.flights.programs d q other k.1 in
      record {
        at_home = r.at_home;
        place = r.place;
        next = at_spot_other t.disk.blocks (spot_of p) Bad (spot_of q)
            (λ s. k.0 (sym r.at_home ∙ ap (λ z. z.die) s)) ∙ r.next;
      }) (at_die_is t.disk.flights p.die None d (Some (Programming q other)) h)

  other_erase : (d : ℕ) (a : Spot) → at_die t.disk.flights p.die None d ≡ Some (Erasing a) →
      EraseRight (at_spot t.disk.blocks (spot_of p) Bad) t.disk.erasing d a
  other_erase d a h =
      let r = v.flights.erases d a ((idle_fewer {f = t.disk.flights} p.die).erases d a h) in
      record {
        at_home = r.at_home;
        free = state_kept t.disk.blocks (spot_of p) Bad r.free (λ f. free_is_not_filling f place.next);
        counted = r.counted;
      }

  pub program_change : Change t (program_failed t.disk p left)
  program_change = record {
    keeps = keeps_program_failed p (program_blank v (v.flights.programs die p cell e)) left_other;
    left = λ q. fresh_at q (by q);
    ended = λ q h. ⊎_elim (λ k. absurd (false≢true k.1)) (λ k. k.1) (at_place_is t.disk.finished p false q true h);
    unended = λ q h. ⊎_elim
        (λ k. ⊎_elim (λ s. inr (inl (s ∙ ap t.disk.cells k.0 ∙ program_blank v place))) (λ x. inr x)
        (fresh_at q (by q)))
        (λ k. inl k.1) (at_place_is t.disk.finished p false q false h);
    blocks = bad_blocks;
    vacancies = vacancies_put (spot_of p) Bad (λ b. free_is_not_bad b refl) v.vacancies
        (λ q out h. left_other q (λ at. out (ap spot_of at)) ∙ h);
    flew = (idle_fewer {f = t.disk.flights} p.die).programs;
    programs = other_place;
    erases = other_erase;
    freed = λ a h. ⊎_elim (λ k. absurd (free_is_not_bad k.1 refl)) (λ k. k.1)
        (at_spot_is t.disk.blocks (spot_of p) Bad a Free h);
    stale = λ a free is. is;
    spent = λ a h. inr h;
    victims = λ a. victim_kept t.disk.blocks (spot_of p) Bad (λ c. closed_is_not_filling c place.next)
        (filling_is_not_bad place.next);
    reads = reads_stay
        (stay_failed t.disk.cells left t.disk.finished t.disk.erasing p (λ q. (left q ≡ cell) ⊎ (left q ≡ Nothing))
        (program_blank v (v.flights.programs die p cell e)) by) (idle_reads t.disk.flights p.die) v.reads;
  }

  pub program_gone : IsGone t (program_failed t.disk p left)
  program_gone q h = inl (⊎_elim (λ k. sym k ∙ h)
      (λ k. ap t.disk.cells k.0 ∙ program_blank v (v.flights.programs die p cell e)) (by q))

-- what is kept is not there
failed_held : {t : Translation} {die : ℕ} {p : Place} {cell : Cell} {left : Cells} → Valid t → t.disk.flights die ≡ Some
    (Programming p cell) →
    ((q : Place) → (left q ≡ t.disk.cells q) ⊎ ((q ≡ p) × ((left q ≡ cell) ⊎ (left q ≡ Nothing)))) →
    HeldStay t (program_failed t.disk p left)
failed_held {t} {die} {p} {cell} {left} v e by = held_stay (program_failed t.disk p left) v
    (stay_failed t.disk.cells left t.disk.finished t.disk.erasing p (λ q. (left q ≡ cell) ⊎ (left q ≡ Nothing))
    (program_blank v (v.flights.programs die p cell e)) by)

pub fails_page : {t : Translation} (die : ℕ) (p : Place) (tag : Tag) (body : List ℕ) (left : Cells) → Valid t →
    t.disk.flights die ≡ Some (Programming p (GroupPage tag body)) → CellCrash t.disk.cells
    (flight_alone t.disk.flights die) left → Valid (job_ended t die (Programming p (GroupPage tag body))
    (WentWrong left))
fails_page {t} die p tag body left v e crash =
    let by = program_left t.disk die left e crash in
    let c = program_change t die p (GroupPage tag body) left v e by in
    changed v c (program_gone t die p (GroupPage tag body) left v e by) (same_step v c old) (failed_held v e by)
  where
    old : HasNoMore t (program_failed t.disk p left)
    old q m h = ⊎_elim (λ k. sym k ∙ h) (λ k. absurd (⊎_elim (λ z. page_not_mark _ _ _ _ z h)
        (λ z. mark_not_nothing _ _ h z) k.1)) (program_left t.disk die left e crash q)

-- no mark flies any more
none_flies : (t : Translation) (die : ℕ) (p : Place) (m : Mark) → Valid t → t.disk.flights die ≡ Some
    (Programming p (MarkPage m)) → (d : ℕ) (q : Place) {other : Mark} → at_die t.disk.flights p.die None d ≡ Some
    (Programming q (MarkPage other)) → ⊥
none_flies t die p m v e d q {other} h = ⊎_elim (λ k. none-some _ k.1) (λ k.
    k.0 (v.flights.one_mark d die q p other m k.1 e ∙ sym (v.flights.programs die p (MarkPage m) e).at_home))
    (at_die_is t.disk.flights p.die None d (Some (Programming q (MarkPage other))) h)

module _ (t : Translation) (die : ℕ) (p : Place) (m : Mark) (left : Cells) (v : Valid t) (e : t.disk.flights die ≡ Some
    (Programming p (MarkPage m))) (c : Change t (program_failed t.disk p left)) where
  step_was : MarkStepRight t.ledger.marks t.disk.cells t.work.mending t.work.plan m.number m.fence
  step_was = let f = v.flights.mark die p m e in v.step.kind (record {
    kind = MarkStep m.number m.fence;
    there = f.there;
  }) f.step_is

  again : Follows t (program_failed t.disk p left) (t.ledger.marks + 1)
      (Some (record { kind = MarkStep (t.ledger.marks + 1) m.fence; there = true }))
  again = record {
    more = omega arith;
    right = record {
      kind = λ s h. subst (λ z. StepKindRight (book t) (t.ledger.marks + 1) left t.work.mending t.work.plan z.kind)
          (same_Some _ _ h)
          record {
            last = refl;
            given = omega arith;
            above = λ q other k. let l = numbered_change t (program_failed t.disk p left) v c q other k in omega arith;
            fence_right = step_was.fence_right;
            behind_copies = step_was.behind_copies;
          };
    };
    mark = λ d q other h. absurd (none_flies t die p m v e d q h);
    repair = λ r. absurd (let f = v.flights.mark die p m e in mark_no_repair (book t) f.step_is r);
    copy = λ name q there h. absurd (let f = v.flights.mark die p m e in mark_no_copy q f.step_is h);
    had = λ s h. let f = v.flights.mark die p m e in (_, f.step_is);
    wants = inr refl;
  }

  no_more : Follows t (program_failed t.disk p left) t.ledger.marks None
  no_more = record {
    more = omega arith;
    right = record { kind = λ s h. absurd (none-some _ h) };
    mark = λ d q other h. absurd (none_flies t die p m v e d q h);
    repair = λ r. absurd (let f = v.flights.mark die p m e in mark_no_repair (book t) f.step_is r);
    copy = λ name q there h. absurd (let f = v.flights.mark die p m e in mark_no_copy q f.step_is h);
    had = λ s h. absurd (none-some s h);
    wants = inr refl;
  }

pub fails_mark : {t : Translation} (die : ℕ) (p : Place) (m : Mark) (left : Cells) → Valid t → t.disk.flights die ≡ Some
    (Programming p (MarkPage m)) → CellCrash t.disk.cells (flight_alone t.disk.flights die) left →
    Valid (job_ended t die (Programming p (MarkPage m)) (WentWrong left))
fails_mark {t} die p m left v e crash =
    let by = program_left t.disk die left e crash in
    let c = program_change t die p (MarkPage m) left v e by in
    let gone = program_gone t die p (MarkPage m) left v e by in
    ⊎_elim
    (λ h. subst Valid (sym (cond-true (has_mark_number t) (mark_ordered behind m.fence)
    (record behind { work = record t.work { step = None } }) h))
    (changed v c gone (again t die p m left v e c) (failed_held v e by)))
    (λ h. subst Valid (sym (cond-false (has_mark_number t) (mark_ordered behind m.fence)
    (record behind { work = record t.work { step = None } }) h))
    (changed v c gone (no_more t die p m left v e c) (failed_held v e by))) (cases_Bool (has_mark_number t))
  where
    behind : Translation
    behind = record t { disk = program_failed t.disk p left }
