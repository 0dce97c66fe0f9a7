-- A group that is accepted keeps a life valid.
use Rattle.power_loss.proofs.Common.{◌≡◌, ℕ, ◌-◌, ◌≤◌, true, length, [], ◌∷◌, ◌++◌, Option, Some, None, refl, sym}
use Rattle.power_loss.proofs.Common.{subst, ⊎_elim, arith, get_or_from_slice_get, slice_get_within, Disk, Group, Item}
use Rattle.power_loss.proofs.Common.{InSlot, Ledger, Looked, OnPage, Unwritten, look, Accept, IsAllowedMove, IsGroup}
use Rattle.power_loss.proofs.Common.{moved, FromPage, FromSlot, Mended, Mending, Plan, Repairing, Rest, Source, Step}
use Rattle.power_loss.proofs.Common.{Translation, Unmarked, is_mended, is_rest_of, pending_pages, rests_of, source_of}
use Rattle.power_loss.proofs.Common.{Book, HasKey, book, HistoryRight, MendingRight, SlotsRight, Valid, PinsRight}
use Rattle.power_loss.proofs.Common.{Contains, find, option_map, All-append, All-weaker, none-some, same_Some}
use Rattle.power_loss.proofs.Common.{false≢true, get_splits, grown_length}
use Rattle.power_loss.proofs.MachineWords.{IsRestOf}
use Rattle.ufs_spec.specs.Translation.{awaited_read}
use Rattle.power_loss.proofs.books.PagesByName.{MayAdd, book_grows, grown, page_grows, plain_grows}
use Rattle.std.proofs.lemmas.List.Elements.{All-contains_itself}
use Rattle.power_loss.proofs.kept_pages.LookedUpPages.{look_right}
use Rattle.power_loss.proofs.kept_pages.PagesStay.{pins_stay}
use Rattle.power_loss.proofs.accepted_groups.RestsOfGroups.{rests_told}
use Rattle.ufs_laws.proofs.decided_data.UnmapSlots.{more_pages}
use Rattle.power_loss.proofs.books.BookGrows.{flights_grow, frontier_grows, kind_grows, marks_grow, pages_grow}
use Rattle.power_loss.proofs.books.BookGrows.{plan_grows, safe_grows}
use Rattle.power_loss.proofs.books.LayerParts.{LookedOf, SourceOf}

-- the ledger with the group
abbrev with_group : Ledger → Group → Ledger
with_group l g = record l { groups = l.groups ++ g ∷ [] }

pub group_may : {t : Translation} {g : Group} → IsGroup t g → MayAdd (book t) g
group_may {t} {g} is = record {
  some = let l = is.some in omega arith;
  differ = is.differ;
  keys = λ i item h. subst (λ (x : Item). HasKey (book t) x.key) (get_or_from_slice_get g i item item h)
      (is.items i item (slice_get_within g i item h)).key;
}

mending_grows : (b : Book) (g : Group) (d : Disk) (l : Ledger) (plan : Option Plan) (step : Option Step) (w : Mending) →
    is_mended w ≡ true → MendingRight b d l plan step w → MendingRight (grown b g) d (with_group l g) plan step w
mending_grows b g d l plan step (Unmarked fence lost) e m = absurd (false≢true e)
mending_grows b g d l plan step (Repairing left) e m = absurd (false≢true e)
mending_grows b g d l plan step Mended e m = record {
  mark = m.mark;
  is = m.is;
  right = marks_grow g d m.right;
  more = plain_grows g m.more;
}

history_grows : {b : Book} (g : Group) {repairs held frontier : ℕ} → HistoryRight b repairs held frontier true →
    HistoryRight (grown b g) repairs held frontier true
history_grows {b} g h = record {
  within = let w = h.within in let e = grown_length b.groups g in omega arith;
  contents = λ j i x item l is at.
      ⊎_elim (λ k. h.contents j i x item l k at) (λ k. let w = h.within in let z = k.0 in absurd (omega arith))
      (get_splits b.groups g j x is);
  mending = λ no. absurd (false≢true (sym no));
  durable = h.durable;
}

-- its pages take claimed slots
slots_grow : {t : Translation} (claimed : ℕ) (g : Group) → Valid t → length g ≤ claimed → claimed ≤ t.claims →
    SlotsRight t.numbers.slots (pending_pages (with_group t.ledger g)) (t.claims - claimed)
slots_grow {t} claimed g v few has =
    let more = more_pages t.ledger g v.history.within v.frontier.within in
    let w = v.slots.within in
    record { within = omega (arith, more, w, few, has) }

-- the rest of a page comes from a page that is there
source_there : (t : Translation) (x : Looked) (source : Source) → LookedOf t x →
    source_of t.work.rests x ≡ Some source → SourceOf t source
source_there t Unwritten source h e = absurd (none-some source e)
source_there t (OnPage name place) source h e = subst (SourceOf t) (same_Some (FromPage place) source e) (name, h)
source_there t (InSlot name) (FromSlot other) h e = tt
source_there t (InSlot name) (FromPage place) h e = absurd (by (find (is_rest_of name) t.work.rests) e)
  where
    by : (o : Option Rest) → option_map (λ (rest : Rest). FromSlot (awaited_read rest)) o ≡ Some
        (FromPage place) → ⊥
    by None k = cc
    by (Some rest) k = cc

rest_there : {t : Translation} {g : Group} {rest : Rest} → Valid t → IsGroup t g → IsRestOf t g rest →
    SourceOf t rest.source
rest_there {t} {g} {rest} v is r = source_there t (look t.ledger r.item.key) rest.source
    (look_right r.item.key v ((group_may is).keys r.index r.item r.at)) r.source

pub accepts : {t : Translation} (claimed : ℕ) (g : Group) → Valid t → IsAllowedMove t (Accept claimed g) →
    Valid (moved t (Accept claimed g))
accepts {t} claimed g v may =
    let pins : PinsRight (grown (book t) g) t.ledger.frontier t.disk.cells t.disk.finished t.disk.erasing t.pins =
    pins_stay (λ n i e h. page_grows (book t) g n i e h)
    (λ q some ended stays. record { there = refl; ended = ended; stays = stays }) v.pins in
    assumption (
      book_grows (book t) g (group_may may.4) v.book_right,
      frontier_grows g v.frontier,
      pages_grow g v.pages,
      flights_grow g t.disk v.flights,
      safe_grows g t.disk v.frontier v.safe,
      mending_grows (book t) g t.disk t.ledger t.work.plan t.work.step t.work.mending may.0 v.mending,
      λ (s : Step) (e : t.work.step ≡ Some s). kind_grows (book t) g t.ledger.marks t.disk.cells t.work.mending
          t.work.plan s.kind (v.step.kind s e),
      λ (pl : Plan) (e : t.work.plan ≡ Some pl). plan_grows g t.disk v.frontier (v.plan.one pl e),
      subst (HistoryRight (grown (book t) g) t.ledger.repairs t.ledger.held t.ledger.frontier) (sym may.0)
          (history_grows g
          (subst (HistoryRight (book t) t.ledger.repairs t.ledger.held t.ledger.frontier) may.0 v.history)),
      slots_grow claimed g v may.2 may.3,
      All-append (λ (rest : Rest). SourceOf t rest.source) t.work.rests (rests_of t g) v.rests.each
          (All-weaker (Contains (rests_of t g)) (λ (rest : Rest). SourceOf t rest.source)
          (λ rest h. rest_there v may.4 (rests_told t g rest h)) (rests_of t g) (All-contains_itself (rests_of t g))),
    )
