-- Erases that end keep a life valid.
use Rattle.power_loss.proofs.Common.{Bad, BlockState, BlocksRight, Bool, Cell, CellCrash, Cells, EraseRight, Erasing}
use Rattle.power_loss.proofs.Common.{Free, None, Nothing, Place, ProgramRight, Programming, Ready, Some, Spot, Stale}
use Rattle.power_loss.proofs.Common.{Translation, VacanciesRight, Valid, WentWell, WentWrong, ap, at_die, at_die_is}
use Rattle.power_loss.proofs.Common.{at_spot, at_spot_is, erase_failed, erased, false, flight_alone, inl, inr}
use Rattle.power_loss.proofs.Common.{job_ended, none-some, refl, spot_cases, spot_of, sym, true, ℕ, ⊎_elim, ◌∙◌, ◌≡◌}
use Rattle.power_loss.proofs.Common.{◌≢◌, ◌⊎◌}
use Rattle.power_loss.proofs.jobs.DiskChanges.{Change, lost_pages}
use Rattle.power_loss.proofs.jobs.ReadsAndTasks.{idle_fewer}
use Rattle.power_loss.proofs.kept_pages.ReadsStay.{idle_reads, reads_stay}
use Rattle.power_loss.proofs.kept_pages.PagesStay.{held_stay, stay_erased, stay_unerased}
use Rattle.power_loss.proofs.jobs.StandsSecurely.{at_spot_here, at_spot_other, erase_left, erased_here, erased_other}
use Rattle.power_loss.proofs.jobs.StandsSecurely.{keeps_erase_failed, keeps_erased, true_is_not_false, blocks_bad}
use Rattle.power_loss.proofs.jobs.StandsSecurely.{closed_is_not_free, free_is_not_bad, free_is_not_filling}
use Rattle.power_loss.proofs.jobs.StandsSecurely.{ready_is_not_stale, state_kept, vacancies_put, victim_kept}

-- jobs of the other dies

other_program : {t : Translation} (die : ℕ) (s : Spot) (x : BlockState) → Valid t → t.disk.blocks s ≡ Free →
    (other : ℕ) (p : Place) (cell : Cell) → at_die t.disk.flights die None other ≡ Some (Programming p cell) →
    ProgramRight t.numbers (at_spot t.disk.blocks s x) other p
other_program {t} die s x v free other p cell h =
    let r = v.flights.programs other p cell ((idle_fewer {f = t.disk.flights} die).programs other p cell h) in record {
      at_home = r.at_home;
      place = r.place;
      next = state_kept t.disk.blocks s x r.next (λ e. free_is_not_filling free e);
    }

other_erase : {t : Translation} {die : ℕ} (s : Spot) (x : BlockState) {erasing : Spot → Bool} → Valid t → s.die ≡ die →
    ((a : Spot) → a ≢ s → erasing a ≡ t.disk.erasing a) → (other : ℕ) (a : Spot) →
    at_die t.disk.flights die None other ≡ Some (Erasing a) → EraseRight (at_spot t.disk.blocks s x) erasing other a
other_erase {t} {die} s x v home same other a h = ⊎_elim (λ k. absurd (none-some _ k.1))
    (λ k.
    let r = v.flights.erases other a k.1 in
    let out : a ≢ s = λ e. k.0 (sym r.at_home ∙ ap (λ z. z.die) e ∙ home) in
    record {
      at_home = r.at_home;
      free = at_spot_other t.disk.blocks s x a out ∙ r.free;
      counted = same a out ∙ r.counted;
    }) (at_die_is t.disk.flights die None other (Some (Erasing a)) h)

-- the state of a block that was closed or bad

-- An erase that went well

erased_less : (t : Translation) (s : Spot) (q : Place) → ((erased t.disk s).cells q ≡ t.disk.cells q) ⊎
    ((erased t.disk s).cells q ≡ Nothing)
erased_less t s q = ⊎_elim (λ k. inr (erased_here t.disk q k.1)) (λ k. inl (erased_other t.disk s q k.1))
    (spot_cases (spot_of q) s)

erased_blocks : {t : Translation} (s : Spot) → Valid t → BlocksRight t.numbers (erased t.disk s).cells t.disk.finished
    (erased t.disk s).blocks (erased t.disk s).erasing
erased_blocks {t} s v = record {
  unfinished = v.blocks.unfinished;
  filling = v.blocks.filling;
  blank = λ p next h l. ⊎_elim (λ k. k ∙ v.blocks.blank p next h l) (λ k. k) (erased_less t s p);
  erased = λ a h. ⊎_elim (λ k. absurd (true_is_not_false refl (sym k.1))) (λ k. v.blocks.erased a k.1)
      (at_spot_is t.disk.erasing s false a true h);
}

-- the block is empty, and no longer counts as being erased
erased_vacancies : {t : Translation} (s : Spot) → Valid t → VacanciesRight (erased t.disk s).cells
    (erased t.disk s).blocks (erased t.disk s).vacancies (erased t.disk s).erasing
erased_vacancies {t} s v = record {
  empty = λ q free full. ⊎_elim (λ k. erased_here t.disk q k.1)
      (λ k. erased_other t.disk s q k.1
      ∙ v.vacancies.empty q free (λ e. full (at_spot_other t.disk.vacancies s Ready (spot_of q) k.1 ∙ e)))
      (spot_cases (spot_of q) s);
  ready = λ a free is. ⊎_elim (λ k. at_spot_here t.disk.erasing s false a k.0)
      (λ k. at_spot_other t.disk.erasing s false a k.0 ∙ v.vacancies.ready a free k.1)
      (at_spot_is t.disk.vacancies s Ready a Ready is);
}

-- what flies behind the erase flew on another die
erased_programs : {t : Translation} (s : Spot) → Valid t → (other : ℕ) (p : Place) (cell : Cell) →
    at_die t.disk.flights s.die None other ≡ Some (Programming p cell) → ProgramRight t.numbers t.disk.blocks other p
erased_programs {t} s v other p cell h =
    v.flights.programs other p cell ((idle_fewer {f = t.disk.flights} s.die).programs other p cell h)

erased_erases : {t : Translation} (s : Spot) → Valid t → (other : ℕ) (a : Spot) →
    at_die t.disk.flights s.die None other ≡ Some (Erasing a) →
    EraseRight t.disk.blocks (at_spot t.disk.erasing s false) other a
erased_erases {t} s v other a h = ⊎_elim (λ k. absurd (none-some _ k.1))
    (λ k.
    let r = v.flights.erases other a k.1 in
    record {
      at_home = r.at_home;
      free = r.free;
      counted = at_spot_other t.disk.erasing s false a (λ e. k.0 (sym r.at_home ∙ ap (λ z. z.die) e)) ∙ r.counted;
    }) (at_die_is t.disk.flights s.die None other (Some (Erasing a)) h)

erased_change : {t : Translation} (s : Spot) → Valid t → t.disk.erasing s ≡ true → Change t (erased t.disk s)
erased_change {t} s v erasing = record {
  keeps = keeps_erased s erasing;
  left = λ q. ⊎_elim (λ k. inl k) (λ k. inr (inl k)) (erased_less t s q);
  ended = λ q h. h;
  unended = λ q h. inl h;
  blocks = erased_blocks s v;
  vacancies = erased_vacancies s v;
  flew = (idle_fewer s.die).programs;
  programs = erased_programs s v;
  erases = erased_erases s v;
  freed = λ a h. h;
  stale = λ a free is. ⊎_elim (λ k. absurd (ready_is_not_stale refl k.1)) (λ k. k.1)
      (at_spot_is t.disk.vacancies s Ready a Stale is);
  spent = λ a h. ⊎_elim (λ k. absurd (true_is_not_false refl (sym k.1))) (λ k. inr k.1)
      (at_spot_is t.disk.erasing s false a true h);
  victims = λ a h. h;
  reads = reads_stay (stay_erased t.disk s erasing) (idle_reads t.disk.flights s.die) v.reads;
}

pub ends_erase : {t : Translation} (die : ℕ) (s : Spot) → Valid t → t.disk.flights die ≡ Some (Erasing s) →
    Valid (job_ended t die (Erasing s) WentWell)
ends_erase {t} die s v e =
    let r = v.flights.erases die s e in
    lost_pages v (erased_change s v r.counted)
    (λ p h. ⊎_elim (λ k. inr (inl (ap t.disk.blocks k.1 ∙ r.free))) (λ k. inl (sym (erased_other t.disk s p k.1) ∙ h))
    (spot_cases (spot_of p) s)) (erased_less t s) (held_stay (erased t.disk s) v (stay_erased t.disk s r.counted))

-- An erase that failed

failed_blocks : {t : Translation} (s : Spot) {left : Cells} → Valid t → t.disk.blocks s ≡ Free →
    ((q : Place) → (left q ≡ t.disk.cells q) ⊎ (left q ≡ Nothing)) → BlocksRight t.numbers left t.disk.finished
    (at_spot t.disk.blocks s Bad) t.disk.erasing
failed_blocks {t} s v free less =
    blocks_bad s v.blocks (λ q h. inr h) (λ q out h. ⊎_elim (λ y. y ∙ h) (λ y. y) (less q))

failed_change : {t : Translation} {s : Spot} (left : Cells) → Valid t → t.disk.blocks s ≡ Free →
    t.disk.erasing s ≡ true → ((q : Place) → (left q ≡ t.disk.cells q) ⊎ ((spot_of q ≡ s) × (left q ≡ Nothing))) →
    Change t (erase_failed t.disk s left)
failed_change {t} {s} left v free erasing less = record {
  keeps = keeps_erase_failed s erasing (λ q out. ⊎_elim (λ k. k) (λ k. absurd (out k.0)) (less q));
  left = λ q. ⊎_elim (λ k. inl k) (λ k. inr (inl k.1)) (less q);
  ended = λ q h. h;
  unended = λ q h. inl h;
  blocks = failed_blocks s v free (λ q. ⊎_elim (λ k. inl k) (λ k. inr k.1) (less q));
  vacancies = vacancies_put s Bad (λ e. free_is_not_bad e refl) v.vacancies
      (λ q out h. ⊎_elim (λ k. k ∙ h) (λ k. k.1) (less q));
  flew = (idle_fewer s.die).programs;
  programs = other_program s.die s Bad v free;
  erases = other_erase s Bad v refl (λ a out. refl);
  freed = λ a h. ⊎_elim (λ k. absurd (free_is_not_bad k.1 refl)) (λ k. k.1) (at_spot_is t.disk.blocks s Bad a Free h);
  stale = λ a free is. is;
  spent = λ a h. inr h;
  victims = λ a. victim_kept t.disk.blocks s Bad (λ e. closed_is_not_free e free) (free_is_not_bad free);
  reads = reads_stay
      (stay_unerased t.disk.cells left t.disk.finished t.disk.erasing s (λ q. left q ≡ Nothing) erasing less)
      (idle_reads t.disk.flights s.die) v.reads;
}

pub fails_erase : {t : Translation} (die : ℕ) (s : Spot) (left : Cells) → Valid t → t.disk.flights die ≡ Some
    (Erasing s) → CellCrash t.disk.cells (flight_alone t.disk.flights die) left →
    Valid (job_ended t die (Erasing s) (WentWrong left))
fails_erase {t} die s left v e crash =
    let r = v.flights.erases die s e in
    let less = erase_left t.disk die left e crash in
    lost_pages v (failed_change left v r.free r.counted less)
    (λ p h. ⊎_elim (λ k. inl (sym k ∙ h)) (λ k. inr (inl (ap t.disk.blocks k.0 ∙ r.free))) (less p))
    (λ q. ⊎_elim (λ k. inl k) (λ k. inr k.1) (less q))
    (held_stay (erase_failed t.disk s left) v (stay_unerased t.disk.cells left t.disk.finished t.disk.erasing s
    (λ q. left q ≡ Nothing) r.counted less))
