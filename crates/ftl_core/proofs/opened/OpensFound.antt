-- What is kept over what a scan found is the layer that the definitions open over the same pages.
use Rattle.ftl_core.proofs.Common.{All, All-cons, All-nil, AreToRepair, Bool, Cells, Core, Describes, DieRow, DiesKept}
use Rattle.ftl_core.proofs.Common.{Entry, Fence, Found, IsInNoSlot, Kept, Key, Ledger, LedgerKept, List, Mended}
use Rattle.ftl_core.proofs.Common.{Mending, Name, None, Numbers, Option, PagesKept, Pin, PinsKept, Repairing, RowKept}
use Rattle.ftl_core.proofs.Common.{Shape, Some, Spot, Standing, StepKept, Stored, Translation, Unmarked, WorkKept}
use Rattle.ftl_core.proofs.Common.{WritesGroup, [], ap, arith, contained_in, drop, entry_of, eqb-true, false, flat}
use Rattle.ftl_core.proofs.Common.{flies_name, get_or_from_slice_get, greatest_number, if◌then◌else◌, key_total}
use Rattle.ftl_core.proofs.Common.{latest_durable, length, length-map, length-replicate, map, mending_kept, names_after}
use Rattle.ftl_core.proofs.Common.{nat_lt, nat_tests, none_some, option_and_then, option_map, refl, regions, replicate}
use Rattle.ftl_core.proofs.Common.{same_Some, shape_of_numbers, slice_get, slice_get-map, slice_get_within, spot_at}
use Rattle.ftl_core.proofs.Common.{stored_in, subst, suc, sym, take, true, zero, ℕ, ⊎_elim, ◌&&◌, ◌+◌, ◌-◌, ◌<◌, ◌==◌}
use Rattle.ftl_core.proofs.Common.{◌∙◌, ◌∷◌, ◌≡◌, ◌≢◌, ◌≤◌}
use Rattle.std.specs.Prelude.{min, sum}
use Rattle.std.proofs.Math.Nat.{min-eq_left}
use Rattle.std.proofs.lemmas.Bool.{and_parts}
use Rattle.std.proofs.lemmas.List.{drop_all, get_or-replicate, take_all}
use Rattle.ufs_spec.specs.Cells.{AreWithin}
use Rattle.ufs_spec.specs.Cells as cells
use Rattle.ufs_spec.specs.Configs.{marked}
use Rattle.ufs_spec.specs.Disk as disk
use Rattle.ufs_spec.specs.Keys as keys
use Rattle.ufs_spec.specs.Keys.{area_pages}
use Rattle.ufs_spec.specs.Kept.{fence_in}
use Rattle.ufs_spec.specs.Ledger as ledger
use Rattle.ufs_spec.specs.Openings.{HasNumbers, IsMendingAt, IsOpenedTranslation, MayBeMended, number_of}
use Rattle.ufs_spec.specs.Plain.{steps_of}
use Rattle.ufs_spec.specs.Sound.{CellsSound, MarkSuits, with_one_region}
use Rattle.ufs_spec.proofs.RegionPages.{one_region}
use Rattle.ufs_spec.specs.Translation as layer
use Rattle.page_tag.specs.Contents.{mark_of}
use Rattle.page_tag.specs.declared.contents.Mark.{Mark}
use Rattle.power_loss.specs.Book.{CellsRight}
use Rattle.power_loss.proofs.openings.OpenedIsValid.{opening_valid}
use Rattle.recovery.specs.Found.{IsFound, newest_found}
use Rattle.geometry.specs.Keys.{AtSettings, IsIndex}
use Rattle.recovery.specs.Opened.{IsFenceFound, IsPageOf, OpensFound}
use Rattle.recovery.specs.declared.pages.FoundPage.{FoundPage}
use Rattle.geometry.proofs.KeyIndexes.{is_index, known_index}
use Rattle.recovery.proofs.opened.FoundOpens.{found_opens}
use Rattle.block_table.specs.declared.rows.Flight.TheVariants as flight
use Rattle.ufs_spec.proofs.Facts.{eqb-self}
use Rattle.power_loss.proofs.laid_rests.AllMoves.{laid_opened}
use Rattle.ftl_core.specs.Moves.{first_mending, idle_row, is_own, mark_number_behind, mending_from, same_regions}
use Rattle.ftl_core.specs.Moves.{number_behind, opened, stored_of_found}
use Rattle.power_loss.proofs.openings.FirstBlocks.{never_filling}
use Rattle.ftl_core.proofs.live_pages.OpenedLive.{opened_knows}
use Rattle.ftl_core.proofs.live_pages.StoredPages.{stored_owned}
use Rattle.ftl_core.proofs.opened.FoundBlocks.{blocks_found}
use Rattle.ftl_core.proofs.pages.StoredNames.{AreAlike, stored_is}

-- Dies

all_of_one : {A : Type 0} (n : ℕ) (x : A) (i : ℕ) (y : A) → slice_get (replicate n x) i ≡ Some y → y ≡ x
all_of_one n x i y at =
    let within = slice_get_within (replicate n x) i y at in
    sym (get_or_from_slice_get (replicate n x) i y y at)
    ∙ get_or-replicate n i x y (omega (arith, length-replicate n x))

flies_none : (name : Name) (f : Option disk.Flight) → f ≡ None → flies_name name f ≡ true → ⊥
flies_none name f e h = let clash : false ≡ true = sym (ap (flies_name name) e) ∙ h in absurd (cc)

row_idle : (n : Numbers) (blocks : Spot → disk.BlockState) (die : ℕ) (b : DieRow) (f : Option disk.Flight) →
    b ≡ idle_row → f ≡ None → ((s : Spot) (next : ℕ) → blocks s ≡ disk.Filling next → ⊥) →
    RowKept n blocks None die b f
row_idle n blocks die b f same none none_fills =
    subst (λ (x : DieRow × Option disk.Flight). RowKept n blocks None die x.0 x.1) (λ i. (sym same i, sym none i))
    (record { filling = λ block next within e. none_fills (spot_at die block) next e; job = tt })

dies_idle : (n m : Numbers) (blocks : Spot → disk.BlockState) (flights : ℕ → Option disk.Flight) → n ≡ m →
    ((die : ℕ) → flights die ≡ None) → ((s : Spot) (next : ℕ) → blocks s ≡ disk.Filling next → ⊥) →
    DiesKept m blocks flights None (replicate n.dies idle_row)
dies_idle n m blocks flights same idle none_fills = record {
  dies = length-replicate n.dies idle_row ∙ ap (λ (x : Numbers). x.dies) same;
  each = λ die b at.
      row_idle m blocks die b (flights die) (all_of_one n.dies idle_row die b at) (idle die) none_fills;
  no_more = λ die above. idle die;
}

-- Pages and places

pages_none : (standing : Standing) (entries : Name → Option Entry) (n k r : ℕ) (gs : List keys.Group) → gs ≡ [] →
    PagesKept standing entries [] (names_after n (drop k (drop r gs)))
pages_none standing entries n k r gs none =
    subst (λ (hs : List keys.Group). PagesKept standing entries [] (names_after n hs)) (sym (all_gone k r gs none)) tt
  where
    all_gone : (k r : ℕ) (gs : List keys.Group) → gs ≡ [] → drop k (drop r gs) ≡ []
    all_gone k r gs none = ap (λ (hs : List keys.Group). drop k (drop r hs)) none
        ∙ (ap (drop k) (drop_all r [] (omega arith)) ∙ drop_all k [] (omega arith))

-- each key reads as it did at the life's start
latest_first : (l : Ledger) (k : Key) → l.groups ≡ [] → latest_durable l k ≡ l.first_page k
latest_first l k none = (λ i. ledger.latest_in k l.greatest_seen (taken_none i) (l.first_page k))
  where
    taken_none : take (l.frontier - l.greatest_seen) l.groups ≡ []
    taken_none = ap (take (l.frontier - l.greatest_seen)) none
        ∙ take_all (l.frontier - l.greatest_seen) [] (omega arith)

found_alike : (standing : Standing) (e : Option FoundPage) (name : Option Name) → IsPageOf standing e name →
    AreAlike standing (option_map stored_of_found e) name
found_alike standing None None h = refl
found_alike standing None (Some name) h = absurd h
found_alike standing (Some e) None h = absurd h
found_alike standing (Some e) (Some name) h = stored_is standing (stored_of_found e) name (sym h.0) h.1

settings_key : Key
settings_key = record { kind = 3; unit = 0; address = 0 }

-- the last key of the device has a place
keys_there : (s : Shape) (contents : List (Option FoundPage)) →
    ((k : Key) (i : ℕ) → IsIndex s k i → (e : Option FoundPage) × (slice_get contents i ≡ Some e)) →
    key_total s ≤ length (map (option_map stored_of_found) contents)
unfolding settings_key
keys_there s contents all =
    let r = all settings_key (sum s.blocks + area_pages s) (AtSettings refl refl refl refl) in
    let within = slice_get_within contents (sum s.blocks + area_pages s) r.0 r.1 in
    let long = length-map contents (option_map stored_of_found) in
    omega arith

place_found : (n : Numbers) (contents : List (Option FoundPage)) (k : Key) (i : ℕ) (e : Option FoundPage) →
    IsIndex (shape_of_numbers n) k i → slice_get contents i ≡ Some e →
    stored_in n (map (option_map stored_of_found) contents) k ≡ option_map stored_of_found e
place_found n contents k i e index at =
    ap (option_and_then (λ (p : ℕ). flat (slice_get (map (option_map stored_of_found) contents) p)))
    (is_index (shape_of_numbers n) k i index)
    ∙ ap flat (slice_get-map (option_map stored_of_found) contents i ∙ ap (option_map (option_map stored_of_found)) at)

ledger_found : (n : Numbers) (f : Found) (t : Translation) → OpensFound n f t → t.ledger.groups ≡ [] →
    t.ledger.frontier ≡ t.ledger.greatest_seen →
    LedgerKept n (map (option_map stored_of_found) f.contents.items) [] (min f.greatest_seen greatest_number)
    (min f.greatest_seen greatest_number) t.ledger
ledger_found n f t h none still = record {
  frontier = min-eq_left h.seen_within ∙ (h.greatest_seen ∙ sym still);
  last_given = (let least : min f.greatest_seen greatest_number ≡ f.greatest_seen = min-eq_left h.seen_within in
      let same = h.greatest_seen in
      let long = ap (λ (gs : List keys.Group). length gs) none in omega (arith, least, same, long));
  pages = pages_none t.ledger.standing (entry_of t.ledger) t.ledger.frontier
      (t.ledger.frontier - ledger.before_accepted t.ledger) t.ledger.repairs t.ledger.groups none;
  keys = keys_there (shape_of_numbers n) f.contents.items
      (λ k i index. let r = h.contents k i index in (r.0, r.1));
  places = λ k has.
      let index = known_index (shape_of_numbers n) k has in
      let r = h.contents k index.0 index.1 in
      subst (λ (x : Option Stored × Option Name). AreAlike t.ledger.standing x.0 x.1)
      (λ i. (
        sym (place_found n f.contents.items k index.0 r.0 index.1 r.1) i,
        sym (latest_first t.ledger k none) i,
      ))
      (found_alike t.ledger.standing r.0 (t.ledger.first_page k) r.2);
}

-- The mending

fence_none : (low top : ℕ) (f : Fence) → top < low → (if nat_lt top low then None else Some f) ≡ None
fence_none low top f l = by (nat_lt top low) (grind (arith, nat_tests, l))
  where
    by : (b : Bool) → b ≡ true → (if b then None else Some f) ≡ None
    by true e = refl
    by false e = cc

fence_some : (low top : ℕ) (f : Fence) → low ≤ top → (if nat_lt top low then None else Some f) ≡ Some f
fence_some low top f l = by (nat_lt top low) (grind (arith, nat_tests, l))
  where
    by : (b : Bool) → b ≡ false → (if b then None else Some f) ≡ Some f
    by true e = cc
    by false e = refl

-- a mark with the device's numbers is its own
own_numbers : (n : Numbers) (m : Option Mark) → HasNumbers n (option_map mark_of m) → is_own n m ≡ true
own_numbers n None h = absurd h
own_numbers n (Some m) h = ap (same_regions n) h ∙ all_same
  where
    same : (k : ℕ) → (k == k) ≡ true
    same k = eqb-self k

    all_same : same_regions n n ≡ true
    all_same =
        ap (λ (b : Bool). b && (steps_of n 2 == steps_of n 2) && (steps_of n 3 == steps_of n 3)) (same (steps_of n 1))
        ∙ ap (λ (b : Bool). b && (steps_of n 3 == steps_of n 3)) (same (steps_of n 2)) ∙ same (steps_of n 3)

-- one that suits the device and is its own has its numbers
numbers_of_own : (n : Numbers) (m : Option Mark) → length n.rpmb ≡ regions →
    ((newest : cells.Mark) → option_map mark_of m ≡ Some newest → MarkSuits n newest.numbers) → is_own n m ≡ true →
    HasNumbers n (option_map mark_of m)
numbers_of_own n None four suits own = cc
numbers_of_own n (Some m) four suits own = ⊎_elim (λ same. same) of_one (suits (mark_of m) refl)
  where
    of_one : m.numbers ≡ with_one_region (marked n) → m.numbers ≡ marked n
    of_one one =
        let parts = and_parts _ _ (sym (ap (same_regions n) one) ∙ own) in
        let first = and_parts _ _ parts.0 in
        let sizes = one_region n.rpmb four (sym (eqb-true _ _ first.0)) (sym (eqb-true _ _ first.1))
        (sym (eqb-true _ _ parts.1)) in
        one ∙ (λ i. record (marked n) { rpmb = sym sizes i })

mended_from : (n : Numbers) (m : Option Mark) (newest : Option cells.Mark) → option_map mark_of m ≡ newest →
    HasNumbers n newest → (left : List Key) → Mended ≡ mending_kept (mending_from None (is_own n m)) left
mended_from n m newest e has left =
    ap (λ (own : Bool). mending_kept (mending_from None own) left)
    (sym (own_numbers n m (subst (HasNumbers n) (sym e) has)))

unmarked_from : (n : Numbers) (m : Option Mark) (newest : Option cells.Mark) (low top : ℕ) →
    option_map mark_of m ≡ newest → length n.rpmb ≡ regions →
    ((mark : cells.Mark) → option_map mark_of m ≡ Some mark → MarkSuits n mark.numbers) →
    fence_in newest ≡ None → top < low → (MayBeMended n newest low top → ⊥) →
    (left : List Key) → Unmarked None left ≡ mending_kept (mending_from None (is_own n m)) left
unmarked_from n m newest low top e four suits none l not_mended left = by (is_own n m) refl
  where
    by : (own : Bool) → is_own n m ≡ own → Unmarked None left ≡ mending_kept (mending_from None own) left
    by false k = refl
    by true k = absurd (not_mended (subst (HasNumbers n) e (numbers_of_own n m four suits k), none, l))

-- the mending that is due is the one that is kept
mending_found : (n : Numbers) (f : Found) (newest : Option cells.Mark) (c : Cells) (low top : ℕ) (w : Mending) →
    newest_found f ≡ newest → f.first_lost ≡ low → f.greatest_seen ≡ top → length n.rpmb ≡ regions →
    ((mark : cells.Mark) → newest_found f ≡ Some mark → MarkSuits n mark.numbers) → IsMendingAt n c newest low top w →
    ((fence : Option Fence) (lost : List Key) → w ≡ Unmarked fence lost →
    (lost ≡ f.lost.items) × IsFenceFound f fence) →
    w ≡ mending_kept (first_mending n f) f.lost.items
mending_found n f newest c low top Mended marked first seen four suits h lost =
    mended_from n f.newest newest marked h.0 f.lost.items
    ∙ ap (λ (fence : Option Fence). mending_kept (mending_from fence (is_own n f.newest)) f.lost.items)
    (sym (fence_none f.first_lost f.greatest_seen (record { first = f.first_lost; last = f.greatest_seen })
    (omega (arith, first, seen, h.2))))
mending_found n f newest c low top (Repairing left) marked first seen four suits h lost = absurd h
mending_found n f newest c low top (Unmarked None keys) marked first seen four suits h lost =
    ap (Unmarked None) (lost None keys refl).0
    ∙ (unmarked_from n f.newest newest low top marked four suits h.1.0 h.1.1 h.0 f.lost.items
    ∙ ap (λ (fence : Option Fence). mending_kept (mending_from fence (is_own n f.newest)) f.lost.items)
    (sym (fence_none f.first_lost f.greatest_seen (record { first = f.first_lost; last = f.greatest_seen })
    (omega (arith, first, seen, h.1.1)))))
mending_found n f newest c low top (Unmarked (Some fence) keys) marked first seen four suits h lost =
    let r = lost (Some fence) keys refl in
    (λ i. Unmarked (Some (record { first = r.1.0 i; last = r.1.1 i })) (r.0 i))
    ∙ ap (λ (o : Option Fence). mending_kept (mending_from o (is_own n f.newest)) f.lost.items)
    (sym (fence_some f.first_lost f.greatest_seen (record { first = f.first_lost; last = f.greatest_seen })
    (omega (arith, first, seen, h.1.2))))

step_none : (l : Ledger) (content : List ℕ) (o : Option layer.Step) → o ≡ None → StepKept l None content o
step_none l content None e = tt
step_none l content (Some s) e = cc

every : {A : Type 0} (P : A → Type 0) → ((x : A) → P x) → (xs : List A) → All P xs
every P all [] = All-nil P
every P all (x ∷ xs) = All-cons P x xs (all x) (every P all xs)

next_found : (m : Option Mark) (marks : ℕ) → marks ≡ number_of (option_map mark_of m) →
    number_of (option_map mark_of m) ≤ greatest_number → number_behind m ≡ suc marks
next_found None marks e l = omega (arith, e)
next_found (Some m) marks e l =
    let least : min m.number greatest_number ≡ m.number = min-eq_left l in
    omega (arith, e, least)

none_dropped : {A : Type 0} (xs : List A) → drop 0 xs ≡ xs
none_dropped [] = refl
none_dropped (x ∷ xs) = refl

to_repair_found : (l : Ledger) (ks : List Key) → l.groups ≡ [] → AreToRepair l ks → AreToRepair l (drop 0 ks)
to_repair_found l ks none h = subst (AreToRepair l) (sym (none_dropped ks)) h

work_found : (n : Numbers) (f : Found) (c : Cells) (bad : Spot → Bool) (t : Translation) (content : List ℕ) →
    length n.rpmb ≡ regions → IsFound n c bad f → OpensFound n f t → IsOpenedTranslation n c bad t →
    WorkKept (first_mending n f) (drop 0 f.lost.items) None content (mark_number_behind f) t.work t.ledger
work_found n f c bad t content four found h o = record {
  mending_is =
      mending_found n f t.ledger.newest c t.ledger.first_lost t.ledger.greatest_seen t.work.mending h.newest h.first_lost
      h.greatest_seen four found.suits.config o.mending h.lost
      ∙ ap (mending_kept (first_mending n f)) (sym (none_dropped f.lost.items));
  step_is = step_none t.ledger content t.work.step o.no_step;
  to_repair = λ un. to_repair_found t.ledger f.lost.items o.ledger.none_new (record {
    differ = h.differ;
    unrepaired = every (λ (k : Key). latest_durable t.ledger k ≡ t.ledger.first_page k)
        (λ k. latest_first t.ledger k o.ledger.none_new) f.lost.items;
  });
  next_mark = next_found f.newest t.ledger.marks h.marks h.marks_within;
  repaired = λ mended. omega (arith, o.ledger.none_repaired, o.ledger.frontier);
}

-- no die writes a page

idle_writes : (dies d number index : ℕ) → WritesGroup (replicate dies idle_row) d number index → ⊥
idle_writes zero d number index w = none_some w.book w.there
idle_writes (suc dies) zero number index w =
    none_some (flight.Group w.place number index)
    (ap (λ (b : DieRow). b.flight) (same_Some idle_row w.book w.there) ∙ w.job)
idle_writes (suc dies) (suc d) number index w =
    idle_writes dies d number index (record { book = w.book; there = w.there; place = w.place; job = w.job })

-- All of it

pins_none : (frontier : ℕ) (entries : Name → Option Entry) (qs : List layer.Pin) → qs ≡ [] →
    PinsKept frontier entries [] qs
pins_none frontier entries [] e = tt
pins_none frontier entries (q ∷ qs) e = cc

pub opens_right : (n : Numbers) (f : Found) (c : Cells) (bad : Spot → Bool) (t : Translation) →
    length n.rpmb ≡ regions → 1 ≤ n.pages →
    CellsRight c → AreWithin n c → CellsSound c t.ledger.newest → IsFound n c bad f → IsOpenedTranslation n c bad t →
    Describes (opened n f) t
opens_right n f c bad t four pages right within sound found o =
    let h = found_opens n c bad f t sound found o in
    let fills = λ (s : Spot) (next : ℕ) (e : t.disk.blocks s ≡ disk.Filling next). never_filling o.disk.blocks e in
    let valid = opening_valid n c bad t pages right within sound o in
    let kept : Kept (opened n f) t =
    record {
      numbers = sym o.numbers;
      blocks = blocks_found n t.numbers f t.disk.blocks t.disk.vacancies (sym o.numbers) h.as_many h.blocks;
      dies = dies_idle n t.numbers t.disk.blocks t.disk.flights (sym o.numbers) o.disk.idle fills;
      fly = record {
        one = λ d e name x y. absurd (flies_none name (t.disk.flights d) (o.disk.idle d) x);
        new = λ d number index w. absurd (idle_writes n.dies d number index w);
      };
      ledger_kept = ledger_found n f t h o.ledger.none_new o.ledger.frontier;
      work = work_found n f c bad t (opened n f).content four found h o;
      plan = record { plan_is = o.no_plan; inside = λ p e. cc };
      claims = sym o.no_claims;
      pins = pins_none t.ledger.frontier (entry_of t.ledger) t.pins o.no_pins;
      differ = tt;
      reads = λ die tag index place e. absurd (none_some _ (sym (o.disk.idle die) ∙ e));
      step_reads = λ die place e. absurd (none_some _ (sym (o.disk.idle die) ∙ e));
      readers = λ un. All-nil (λ (p : Pin). IsInNoSlot p.looked);
    } in
    record {
      valid = valid;
      kept = kept;
      live = opened_knows n (opened n f).places
          (λ k s at. (stored_owned (opened n f) t valid kept k s at).inside);
      copies = record {
        planned = λ p e. cc;
        named = λ name from is. absurd (none_some _ (sym o.no_step ∙ is));
      };
      rests = record {
        are = o.no_rests;
        laid = laid_opened n c bad t o;
        each = λ p rest there. absurd (contained_in [] there);
        reads = λ die number index place e. absurd (none_some _ (sym (o.disk.idle die) ∙ e));
      };
    }

pub opens_described : (n : Numbers) (f : Found) (kept : Core) → length n.rpmb ≡ regions → kept ≡ opened n f →
    (c : Cells) (bad : Spot → Bool) (t : Translation) → 1 ≤ n.pages → CellsRight c → AreWithin n c →
    CellsSound c t.ledger.newest → IsFound n c bad f → IsOpenedTranslation n c bad t → Describes kept t
opens_described n f kept four is c bad t pages right within sound found o =
    subst (λ (x : Core). Describes x t) (sym is) (opens_right n f c bad t four pages right within sound found o)
