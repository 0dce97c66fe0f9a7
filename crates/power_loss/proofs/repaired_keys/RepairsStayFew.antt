-- A life that begins over cells with few lost keys has few keys to repair, and each move leaves it so.
use Rattle.power_loss.proofs.Common.{◌≡◌, ℕ, zero, suc, ◌+◌, ◌-◌, ◌≤◌, Bool, List, [], ◌∷◌, length, drop, Option, Some}
use Rattle.power_loss.proofs.Common.{None, slice_get, refl, sym, ap, ◌∙◌, subst, inl, inr, ⊎_elim, arith, Contains}
use Rattle.power_loss.proofs.Common.{slice_get_within, grown_length, get_splits, none-some, same_Some, true≢false}
use Rattle.power_loss.proofs.Common.{false≢true, AreWithin, Cells, Mark, MarkPage, Flight, Programming, Spot}
use Rattle.power_loss.proofs.Common.{CellsRight, CellsSound, Group, Item, Ledger, at_name, is_standing, Accept, EndJob}
use Rattle.power_loss.proofs.Common.{Move, TakeStep, mending_after, moved, IsMendingAt, lost_from, IsOpenedTranslation}
use Rattle.power_loss.proofs.Common.{Mended, Mending, Repairing, Translation, Unmarked, is_mended, name_of}
use Rattle.power_loss.proofs.Common.{repair_ordered, AreLost, Key, Numbers, Entry, Book, IsLostNumber, book, Valid}
use Rattle.power_loss.specs.FewRepairs.{HasFewLost, HasFewRepairs, LostFromRight, RepairsFew, still_lost}
use Rattle.power_loss.specs.Mending.{AreAllowedMoves, moved_by}
use Rattle.power_loss.proofs.books.FrontierClimbs.{climb}
use Rattle.power_loss.proofs.books.LayerParts.{MendingOf}
use Rattle.power_loss.proofs.moves.MovesKeepCellsFitting.{mark_repaired, move_stays}
use Rattle.power_loss.proofs.moves.MovesKeepValid.{all_keep}
use Rattle.power_loss.proofs.openings.OpenedByName.{Opened, opened}
use Rattle.power_loss.proofs.openings.OpenedIsValid.{opening_valid, whole_above}
use Rattle.power_loss.proofs.ordered_lists.ElementsAndOrders.{at_has, contained_in, in_contained}
use Rattle.power_loss.proofs.spent.BeforeTheFirstMark.{marked_behind}
use Rattle.ufs_laws.proofs.walk.LayerEffects.{ComesOf, Effect, MarkWritten, PageWritten, RepairOrdered, ended}
use Rattle.ufs_laws.proofs.walk.LayerEffects.{turned_by, with_effect}

-- A life begins

module _ {bad : Spot → Bool} {t : Translation} (o : Opened bad t) where
  lost_from_right : LostFromRight (book t) t.ledger.newest
  lost_from_right = record {
    fence = λ f e. o.start.ledger.first_lost ∙ ap (λ z. lost_from z o.start.ledger.kept) e;
    whole = λ n none low below.
        let at : t.ledger.first_lost ≡ suc o.start.ledger.kept =
        o.start.ledger.first_lost ∙ ap (λ z. lost_from z o.start.ledger.kept) none in
        whole_above o low (omega arith);
  }

  with_keys : (keys : List Key) → length keys ≤ t.numbers.slots →
      ((n i : ℕ) (e : Entry) → IsLostNumber (book t) n → t.ledger.entries_before n i ≡ Some e →
      Contains keys e.item.key) → ((k : Key) → Contains (still_lost t.work.mending) k → Contains keys k) →
      HasFewRepairs t
  with_keys keys few lost still =
      let none = o.start.ledger.none_repaired in
      let here = o.start.ledger.frontier in
      record {
        keys = keys;
        few = few;
        lost = lost;
        still = still;
        within = omega arith;
        repaired = λ j i g item l at has. absurd (omega arith);
        from = λ unmarked. lost_from_right;
        durable = λ mended. omega arith;
      }

  pub begins : Valid t → HasFewLost t.numbers t.disk.cells t.ledger.newest → HasFewRepairs t
  begins v few = by t.work.mending refl
    where
      by : (w : Mending) → t.work.mending ≡ w → HasFewRepairs t
      by (Unmarked fence lost) is =
          let m = subst (IsMendingAt t.numbers t.disk.cells t.ledger.newest t.ledger.first_lost t.ledger.greatest_seen) is
          o.start.mending in
          let u = subst (MendingOf t) is v.mending in
          with_keys lost
          (few o.start.ledger.kept t.ledger.greatest_seen lost o.start.ledger.is_kept o.start.ledger.greatest_seen
          (subst (λ low. AreLost t.disk.cells low t.ledger.greatest_seen lost) o.start.ledger.first_lost m.2))
          (λ n i e l h. (let r = u.lost_right.all n i e l h in in_contained lost (at_has lost r.0 e.item.key r.1)))
          (λ k h. subst (λ w. Contains (still_lost w) k) is h)
      by (Repairing left) is =
          absurd (subst (IsMendingAt t.numbers t.disk.cells t.ledger.newest t.ledger.first_lost t.ledger.greatest_seen) is
          o.start.mending)
      by Mended is =
          let m = subst (IsMendingAt t.numbers t.disk.cells t.ledger.newest t.ledger.first_lost t.ledger.greatest_seen) is
          o.start.mending in
          with_keys [] (omega arith)
          (λ n i e l h. absurd (let a = l.from in let b = l.to in let c = m.2 in omega arith))
          (λ k h. subst (λ w. Contains (still_lost w) k) is h)

pub opening_few : (n : Numbers) (c : Cells) (bad : Spot → Bool) (t : Translation) → 1 ≤ n.pages → CellsRight c →
    AreWithin n c → CellsSound c t.ledger.newest → HasFewLost n c t.ledger.newest → IsOpenedTranslation n c bad t →
    HasFewRepairs t
opening_few n c bad t pages right within sound few start =
    begins (opened bad pages right within sound start) (opening_valid n c bad t pages right within sound start)
    (subst (λ z. HasFewLost z t.disk.cells t.ledger.newest) (sym start.numbers)
    (subst (λ z. HasFewLost n z t.ledger.newest) (sym start.disk.cells) few))

-- The frontier climbs

climbed_few : {b : Book} {repairs frontier : ℕ} {newest : Option Mark} {w : Mending} (more : ℕ) → frontier ≤ more →
    RepairsFew b repairs frontier newest w → RepairsFew b repairs more newest w
climbed_few more up f = record {
  keys = f.keys;
  few = f.few;
  lost = f.lost;
  still = f.still;
  within = f.within;
  repaired = f.repaired;
  from = f.from;
  durable = λ mended. let l = f.durable mended in omega arith;
}

-- A mark is finished

none_contained : {k : Key} → Contains [] k → ⊥
none_contained h = contained_in [] h

still_behind : (w : Mending) (k : Key) → Contains (still_lost (mending_after w)) k → Contains (still_lost w) k
still_behind (Unmarked None lost) k h = absurd (none_contained h)
still_behind (Unmarked (Some fence) lost) k h = h
still_behind (Repairing left) k h = absurd (none_contained h)
still_behind Mended k h = h

marked_few : {b : Book} {repairs frontier : ℕ} {newest : Option Mark} (w : Mending) (m : Mark) →
    b.greatest_seen + repairs ≤ frontier → RepairsFew b repairs frontier newest w →
    RepairsFew b repairs frontier (Some m) (mending_after w)
marked_few w m reached f = record {
  keys = f.keys;
  few = f.few;
  lost = f.lost;
  still = λ k h. f.still k (still_behind w k h);
  within = f.within;
  repaired = f.repaired;
  from = λ unmarked. absurd (true≢false (sym (marked_behind w) ∙ unmarked));
  durable = λ mended. reached;
}

-- One group more

pub accepted_few : (t : Translation) (claimed : ℕ) (g : Group) → HasFewRepairs t →
    HasFewRepairs (moved t (Accept claimed g))
accepted_few t claimed g f =
    let long = grown_length t.ledger.groups g in
    let within = f.within in
    record {
      keys = f.keys;
      few = f.few;
      lost = λ n i e l h. f.lost n i e (record { from = l.from; to = l.to }) h;
      still = f.still;
      within = omega arith;
      repaired = λ j i x item l at has. ⊎_elim (λ k. f.repaired j i x item l k has)
          (λ k. absurd (let e = k.0 in omega arith)) (get_splits t.ledger.groups g j x at);
      from = λ unmarked.
          let s = f.from unmarked in
          record {
            fence = s.fence;
            whole = λ n none low below.
                let w = s.whole n none low below in
                record { size = w.size; some = w.some; one_size = w.one_size; each = w.each };
          };
      durable = f.durable;
    }

repaired_few : {t : Translation} (k : Key) (left : List Key) → Valid t → t.work.mending ≡ Repairing (k ∷ left) →
    HasFewRepairs t → HasFewRepairs (repair_ordered t k left)
repaired_few {t} k left v is f =
    let group : Group = record { key = k; body = t.ledger.base k } ∷ [] in
    let long = grown_length t.ledger.groups group in
    let all : t.ledger.repairs ≡ length t.ledger.groups = (v.history.mending (ap is_mended is)).0 in
    record {
      keys = f.keys;
      few = f.few;
      lost = λ n i e l h. f.lost n i e (record { from = l.from; to = l.to }) h;
      still = λ x h. f.still x (subst (λ w. Contains (still_lost w) x) (sym is) (later x h));
      within = omega arith;
      repaired = λ j i x item l at has. ⊎_elim
          (λ h. (let w = slice_get_within t.ledger.groups j x h in f.repaired j i x item (omega arith) h has))
          (λ h. last i item (ap (λ z. slice_get z i) (sym h.1) ∙ has)) (get_splits t.ledger.groups group j x at);
      from = λ unmarked. absurd (true≢false unmarked);
      durable = λ mended. absurd (false≢true mended);
    }
  where
    later : (x : Key) → Contains left x → Contains (k ∷ left) x
    later x h = in_contained (k ∷ left) (inr (contained_in left h))

    last : (i : ℕ) (item : Item) → slice_get (record { key = k; body = t.ledger.base k } ∷ []) i ≡ Some item →
        Contains f.keys item.key
    last zero item h =
        let e = same_Some (record { key = k; body = t.ledger.base k }) item h in
        f.still item.key (subst (λ w. Contains (still_lost w) item.key) (sym is)
        (in_contained (k ∷ left) (inl (ap (λ (z : Item). z.key) e))))
    last (suc i) item h = absurd (none-some item h)

-- Steps, and the ends of jobs in flight

effect_few : {t : Translation} {o : Option Flight} (e : Effect) →
    ((x : Flight) → o ≡ Some x → (die : ℕ) × (t.disk.flights die ≡ Some x)) → ComesOf t o e → Valid t →
    HasFewRepairs t → HasFewRepairs (with_effect t e)
effect_few {t} (PageWritten p tag body) flies comes v f =
    let l : Ledger = record t.ledger { standing = at_name t.ledger.standing (name_of tag) (Some p) } in
    climbed_few _ (climb (is_standing l) l.frontier (drop (l.frontier - l.greatest_seen) l.groups)).from f
effect_few {t} (MarkWritten p m plan) flies comes v f =
    let job = flies (Programming p (MarkPage m)) comes.0 in
    marked_few t.work.mending m
    (mark_repaired t.work.mending v (v.flights.mark job.0 p m job.1) v.mending f.durable) f
effect_few {t} (RepairOrdered k left) flies comes v f = repaired_few k left v comes.1.1 f
effect_few {t} e flies comes v f = f

-- Moves

pub move_few : {t : Translation} (move : Move) → Valid t → HasFewRepairs t → HasFewRepairs (moved t move)
move_few {t} (Accept claimed g) v f = accepted_few t claimed g f
move_few {t} (EndJob die ending) v f = ended HasFewRepairs t die (t.disk.flights die) ending
    (λ e comes. effect_few e (λ x is. (die, is)) comes v f)
move_few {t} TakeStep v f = turned_by HasFewRepairs t
    (λ e comes. effect_few e (λ x is. absurd (none-some x is)) comes v f)
move_few move v f = f

-- Moves in a row

-- what holds of a layer and of what moves make of it
pub record IsKeptBy (t u : Translation) : Type 0 where
  pub numbers : u.numbers ≡ t.numbers
  pub valid : Valid u
  pub few : HasFewRepairs u

pub all_few : (t : Translation) (moves : List Move) → Valid t → HasFewRepairs t → AreAllowedMoves t moves →
    IsKeptBy t (moved_by t moves)
all_few t [] v f may = record { numbers = refl; valid = v; few = f }
all_few t (move ∷ moves) v f may =
    let r = all_few (moved t move) moves (all_keep t move v may.0) (move_few move v f) may.1 in
    record { numbers = r.numbers ∙ (move_stays t move).numbers; valid = r.valid; few = r.few }
