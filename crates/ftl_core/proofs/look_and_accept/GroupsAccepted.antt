-- The group of the blocks that a reader gathered is accepted: its pages are those of its claims.
use Rattle.ftl_core.proofs.Common.{Accept, Claimed, Core, Describes, FromPage, Group, InRange, IsAllowedMove, IsKey}
use Rattle.ftl_core.proofs.Common.{IsWrittenAt, Item, Key, KnowsLive, List, Name, PageKept, PagesKept, Pending, Place}
use Rattle.ftl_core.proofs.Common.{RestsKept, Some, Translation, Valid, [], added_page, all_keep, ap, append-nil, arith}
use Rattle.ftl_core.proofs.Common.{below, book, claim_at, claims_behind, claims_for, claims_of_blocks, drop, entry_of}
use Rattle.ftl_core.proofs.Common.{eq-eqb, get_or_from_slice_get, get_there, greatest_number, if_true, inl, inr}
use Rattle.ftl_core.proofs.Common.{is_claim_of, is_sealable, key_at, key_behind, laid_move, length, length-below}
use Rattle.ftl_core.proofs.Common.{length-map, map, mapped_at, moved, name_at, names_of, nat_le, nat_lt, next_number}
use Rattle.ftl_core.proofs.Common.{none-some, page_claimed, page_grows, refl, same_Some, shape_of_numbers, slice_get}
use Rattle.ftl_core.proofs.Common.{slice_get_within, subst, suc, sym, true, waiting, waits, zero, ℕ, ⊎_elim, ◌++◌, ◌+◌}
use Rattle.ftl_core.proofs.Common.{◌∙◌, ◌∷◌, ◌≡◌, ◌≤◌}
use Rattle.std.proofs.Common.{filter, not, ◌&&◌, ◌==◌}
use Rattle.ufs_spec.proofs.ConfigFacts.{command_blocks-few}
use Rattle.ufs_spec.proofs.Facts.{le-leb, leb-true, lt-ltb}
use Rattle.ufs_spec.specs.Plain.{greatest_command}
use Rattle.ufs_spec.specs.Pages.{group_bound}
use Rattle.ufs_spec.specs.Ledger as ledger
use Rattle.ufs_spec.specs.Translation.{Rest, is_in_part, rests_of}
use Rattle.power_loss.proofs.accepted_groups.RestsOfGroups.{whole_has_none}
use Rattle.power_loss.proofs.pending_groups.DurableInOrder as durable
use Rattle.power_loss.proofs.pending_groups.PendingByFrontier.{beyond}
use Rattle.std.specs.Prelude.{Contains, cond}
use Rattle.ftl_core.proofs.rests_owed.RestsGrow.{rest_grows}
use Rattle.ftl_core.specs.Moves.{accepted, pages_claimed}
use Rattle.ftl_core.specs.Tells.{group_of_blocks, items_behind}
use Rattle.ftl_core.proofs.look_and_accept.BroughtLists.{written_before}
use Rattle.ftl_core.proofs.look_and_accept.KeysBehind.{keys_same}
use Rattle.ftl_core.proofs.look_and_accept.MoreGroups.{ledger_more, pins_kept_more, rests_more, with_group, work_more}
use Rattle.ftl_core.proofs.look_and_accept.Numbers.{numbers_right, repairs_mended}
use Rattle.ftl_core.proofs.pages.NamesBehind.{get_name}
use Rattle.ftl_core.proofs.pages.PagesNamed.{pages_kept}
use Rattle.ftl_core.proofs.small_calls.ReadersClaims.{left_beside}

-- Claims and items, by index

pub claims_length : (reader m : ℕ) (bodies : List (List ℕ)) → length (claims_behind reader m bodies) ≡ length bodies
claims_length reader m [] = refl
claims_length reader m (body ∷ bodies) = ap suc (claims_length reader (m + 1) bodies)

claim_there : (reader m : ℕ) (bodies : List (List ℕ)) (i : ℕ) (claim : Claimed) →
    slice_get (claims_behind reader m bodies) i ≡ Some claim →
    (body : List ℕ) × (slice_get bodies i ≡ Some body) × (claim ≡ claim_at reader (m + i) body)
claim_there reader m [] i claim h = absurd (none-some claim h)
claim_there reader m (body ∷ bodies) zero claim h =
    (body, refl, sym (same_Some (claim_at reader m body) claim h) ∙ ap (λ (n : ℕ). claim_at reader n body) (first m))
  where
    first : (m : ℕ) → m ≡ m + 0
    first m = omega arith
claim_there reader m (body ∷ bodies) (suc i) claim h =
    let r = claim_there reader (m + 1) bodies i claim h in
    (r.0, r.1, r.2 ∙ ap (λ (n : ℕ). claim_at reader n r.0) (next m i))
  where
    next : (m i : ℕ) → m + 1 + i ≡ m + suc i
    next m i = omega arith

pub items_length : (k : Key) (m : ℕ) (bodies : List (List ℕ)) → length (items_behind k m bodies) ≡ length bodies
items_length k m [] = refl
items_length k m (body ∷ bodies) = ap suc (items_length k (m + 1) bodies)

abbrev item_at : Key → ℕ → List ℕ → Item
item_at k i body = record { key = key_behind k i; body = body }

item_there : (k : Key) (m : ℕ) (bodies : List (List ℕ)) (i : ℕ) (body : List ℕ) → slice_get bodies i ≡ Some body →
    slice_get (items_behind k m bodies) i ≡ Some (item_at k (m + i) body)
item_there k m [] i body h = absurd (none-some body h)
item_there k m (x ∷ bodies) zero body h =
    λ j. Some (item_at k (first m j) (same_Some x body h j))
  where
    first : (m : ℕ) → m ≡ m + 0
    first m = omega arith
item_there k m (x ∷ bodies) (suc i) body h =
    item_there k (m + 1) bodies i body h ∙ ap (λ (n : ℕ). Some (item_at k n body)) (next m i)
  where
    next : (m i : ℕ) → m + 1 + i ≡ m + suc i
    next m i = omega arith

-- each is of the unit's kind
kind_there : (k : Key) (m : ℕ) (bodies : List (List ℕ)) (i : ℕ) (item : Item) →
    slice_get (items_behind k m bodies) i ≡ Some item → item.key.kind ≡ k.kind
kind_there k m [] i item h = absurd (none-some item h)
kind_there k m (x ∷ bodies) zero item h = sym (ap (λ (y : Item). y.key.kind) (same_Some (item_at k m x) item h))
kind_there k m (x ∷ bodies) (suc i) item h = kind_there k (m + 1) bodies i item h

-- One page

-- what is known of the group
record IsGathered (t : Translation) (k : Key) (bodies : List (List ℕ)) : Type 0 where
  pub kind : k.kind ≡ 1
  pub unit : k.unit ≤ 7
  pub number : ledger.next_number t.ledger ≤ greatest_number
  pub short : length bodies ≤ greatest_command
  pub keys : (i : ℕ) (body : List ℕ) → slice_get bodies i ≡ Some body → key_at k i ≡ key_behind k i

page_kept : (t : Translation) (k : Key) (bodies : List (List ℕ)) (reader i : ℕ) (body : List ℕ) → Valid t →
    IsGathered t k bodies → slice_get bodies i ≡ Some body →
    PageKept t.ledger.standing (entry_of (with_group t.ledger (group_of_blocks k bodies)))
    (page_claimed k (ledger.next_number t.ledger) (length bodies) (claim_at reader i body))
    (name_at (ledger.next_number t.ledger) i)
page_kept t k bodies reader i body v is at = record {
  number = refl;
  index = refl;
  body = body;
  entry = added_page (book t) (group_of_blocks k bodies) number i
      (record { item = record { key = key_at k i; body = body }; size = length bodies })
      (record { last = omega arith; item = item; size = sym (items_length k 0 bodies) });
  group_page = λ j. sealable j && one j && most j && index j && short j;
  stands = beyond number i v.frontier (omega arith);
  whole = λ none. refl;
}
  where
    number : ℕ
    number = ledger.next_number t.ledger

    at_zero : (i : ℕ) → 0 + i ≡ i
    at_zero i = omega arith

    item : slice_get (items_behind k 0 bodies) i ≡ Some (record { key = key_at k i; body = body })
    item = item_there k 0 bodies i body at
        ∙ (ap (λ (n : ℕ). Some (item_at k n body)) (at_zero i)
        ∙ ap (λ (x : Key). Some (record { key = x; body = body })) (sym (is.keys i body at)))

    sealable : is_sealable (key_at k i) ≡ true
    sealable =
        if_true (k.kind == 1) (nat_le k.unit 7) _ (eq-eqb k.kind 1 is.kind) ∙ le-leb k.unit 7 is.unit

    one : nat_le 1 (ledger.next_number t.ledger) ≡ true
    one = le-leb 1 (ledger.next_number t.ledger) (omega arith)

    most : nat_le (ledger.next_number t.ledger) greatest_number ≡ true
    most = le-leb (ledger.next_number t.ledger) greatest_number is.number

    index : nat_lt i (length bodies) ≡ true
    index = lt-ltb i (length bodies) (slice_get_within bodies i body at)

    -- what a command brings is never more than a tag can say
    short : nat_le (length bodies) group_bound ≡ true
    short = le-leb (length bodies) group_bound (let few = is.short in omega arith)

-- All pages

pages_gathered : (t : Translation) (k : Key) (bodies : List (List ℕ)) (reader : ℕ) → Valid t →
    IsGathered t k bodies →
    PagesKept t.ledger.standing (entry_of (with_group t.ledger (group_of_blocks k bodies)))
    (map (page_claimed k (ledger.next_number t.ledger) (length bodies)) (claims_of_blocks reader bodies))
    (names_of (ledger.next_number t.ledger) (group_of_blocks k bodies))
pages_gathered t k bodies reader v is =
    pages_kept t.ledger.standing (entry_of (with_group t.ledger (group_of_blocks k bodies)))
    (map page (claims_of_blocks reader bodies)) (names_of (ledger.next_number t.ledger) (group_of_blocks k bodies))
    same each
  where
    page : Claimed → Pending
    page = page_claimed k (ledger.next_number t.ledger) (length bodies)

    same : length (map page (claims_of_blocks reader bodies))
        ≡ length (names_of (ledger.next_number t.ledger) (group_of_blocks k bodies))
    same =
        length-map (claims_of_blocks reader bodies) page
        ∙ (claims_length reader 0 bodies
        ∙ (sym (items_length k 0 bodies)
        ∙ (sym (length-below (length (group_of_blocks k bodies)))
        ∙ sym (length-map (below (length (group_of_blocks k bodies))) (name_at (ledger.next_number t.ledger))))))

    at_zero : (i : ℕ) → 0 + i ≡ i
    at_zero i = omega arith

    each : (i : ℕ) (p : Pending) (name : Name) → slice_get (map page (claims_of_blocks reader bodies)) i ≡ Some p →
        slice_get (names_of (ledger.next_number t.ledger) (group_of_blocks k bodies)) i ≡ Some name →
        PageKept t.ledger.standing (entry_of (with_group t.ledger (group_of_blocks k bodies))) p name
    each i p name at named =
        let claim = mapped_at page (claims_of_blocks reader bodies) i p at in
        let body = claim_there reader 0 bodies i claim.0 claim.1 in
        let here : page (claim_at reader i body.0) ≡ p =
        ap page (ap (λ (n : ℕ). claim_at reader n body.0) (sym (at_zero i)) ∙ sym body.2) ∙ claim.2 in
        let title = (get_name (ledger.next_number t.ledger) i (group_of_blocks k bodies) name named).1 in
        subst
        (λ (x : Pending × Name). PageKept t.ledger.standing
        (entry_of (with_group t.ledger (group_of_blocks k bodies))) x.0 x.1)
        (λ j. (here j, sym title j)) (page_kept t k bodies reader i body.0 v is body.1)

-- The layer

-- no page of a unit is had in part
none_in_part : (t : Translation) (k : Key) (bodies : List (List ℕ)) → k.kind ≡ 1 →
    rests_of t (group_of_blocks k bodies) ≡ []
none_in_part t k bodies kind =
    whole_has_none t (group_of_blocks k bodies)
    (λ i other l.
    let item = get_there (group_of_blocks k bodies) i l in
    ap (λ (x : Item). is_in_part x.key) (get_or_from_slice_get (group_of_blocks k bodies) i item.0 other item.1)
    ∙ ap (λ (n : ℕ). n == 2) (kind_there k 0 bodies i item.0 item.1 ∙ kind))

-- a group that is accepted has no page that is written

written_behind : (ps : List Pending) (k : Key) (number size : ℕ) (claims : List Claimed) (p : Place) →
    IsWrittenAt (ps ++ map (page_claimed k number size) claims) p → IsWrittenAt ps p
written_behind [] k number size [] p w = w
written_behind [] k number size (x ∷ xs) p (inl w) = absurd (none-some p w)
written_behind [] k number size (x ∷ xs) p (inr w) = written_behind [] k number size xs p w
written_behind (q ∷ ps) k number size claims p (inl w) = inl w
written_behind (q ∷ ps) k number size claims p (inr w) = inr (written_behind ps k number size claims p w)

none_written : (c : Core) (k : Key) (reader : ℕ) → KnowsLive c.numbers c.places c.pages c.live →
    KnowsLive c.numbers c.places (c.pages ++ pages_claimed c reader k) c.live
none_written c k reader h = record {
  sizes = h.sizes;
  marks = h.marks;
  held = λ p e. ⊎_elim (λ at. inl at) (λ w. inr (written_before c.pages (pages_claimed c reader k) p w)) (h.held p e);
  lives = λ p at. h.lives p (⊎_elim (λ x. inl x) (λ w. inr (written_behind c.pages k (next_number c)
      (length (claims_for c reader)) (claims_for c reader) p w)) at);
}

-- and none that waits for its rest
claimed_whole : (ps : List Pending) (k : Key) (number size : ℕ) (claims : List Claimed) →
    waiting (ps ++ map (page_claimed k number size) claims) ≡ waiting ps
claimed_whole [] k number size [] = refl
claimed_whole [] k number size (x ∷ xs) = claimed_whole [] k number size xs
claimed_whole (p ∷ ps) k number size claims =
    ap (λ (qs : List Pending). cond (waits p) (p ∷ qs) qs) (claimed_whole ps k number size claims)

accepts_right : (c : Core) (t : Translation) (k : Key) (bodies : List (List ℕ)) (reader : ℕ) → InRange c.numbers →
    Describes c t → k.kind ≡ 1 → k.unit ≤ 7 → claims_for c reader ≡ claims_of_blocks reader bodies →
    IsAllowedMove t (Accept (length bodies) (group_of_blocks k bodies)) →
    Describes (accepted c reader k) (moved t (Accept (length bodies) (group_of_blocks k bodies)))
accepts_right c t k bodies reader ranges h kind unit claimed may = record {
  valid = all_keep t (Accept (length bodies) (group_of_blocks k bodies)) h.valid may;
  live = none_written c k reader h.live;
  copies = h.copies;
  rests = subst (RestsKept (moved t (Accept (length bodies) g)))
      (sym (claimed_whole c.pages k (next_number c) (length (claims_for c reader)) (claims_for c reader)))
      (record {
        are = (λ i. t.work.rests ++ none_in_part t k bodies kind i) ∙ append-nil t.work.rests ∙ h.rests.are;
        laid = laid_move t (Accept (length bodies) g) h.valid h.rests.laid may;
        each = λ p rest there e. rest_grows (book t) g t.disk.cells p rest (h.rests.each p rest there e);
        reads = λ die n i place e. subst (λ (rests : List Rest). Contains rests
            (record { name = record { number = n; index = i }; source = FromPage place }))
            (sym ((λ i. t.work.rests ++ none_in_part t k bodies kind i) ∙ append-nil t.work.rests))
            (h.rests.reads die n i place e);
      });
  kept = record {
    numbers = h.kept.numbers;
    blocks = h.kept.blocks;
    dies = h.kept.dies;
    fly = h.kept.fly;
    ledger_kept = ledger_more c t g (pages_claimed c reader k) h may.0
        (durable.accept t (Accept (length bodies) g) h.valid may g refl).0
        (subst (λ (ps : List Pending). PagesKept t.ledger.standing (entry_of (with_group t.ledger g)) ps
        (names_of (ledger.next_number t.ledger) g)) pages (pages_gathered t k bodies reader h.valid gathered));
    work = rests_more c.mending (drop c.repaired c.lost) c.step c.content c.next_mark t.work (with_group t.ledger g)
        (t.work.rests ++ rests_of t g)
        (work_more c.mending (drop c.repaired c.lost) c.step c.content c.next_mark t.work t.ledger
        (with_group t.ledger g) may.0 (repairs_mended c t h may.0) refl (h.kept.work.repaired may.0)
        (λ name e is. page_grows (book t) g name.number name.index e is) (λ name p is. (p, is)) h.kept.work);
    plan = h.kept.plan;
    claims =
        let both = left_beside reader c.claims (filter (λ claim. not (is_claim_of reader claim)) c.claims) refl in
        let mine = ap (λ (claims : List Claimed). length claims) claimed in
        let long = claims_length reader 0 bodies in
        let all = h.kept.claims in
        omega (arith, both, mine, long, all);
    pins = pins_kept_more t g c.pins t.pins h.kept.pins;
    differ = h.kept.differ;
    reads = h.kept.reads;
    step_reads = h.kept.step_reads;
    readers = h.kept.readers;
  };
}
  where
    g : Group
    g = group_of_blocks k bodies

    at_zero : (i : ℕ) → 0 + i ≡ i
    at_zero i = omega arith

    key_right : (i : ℕ) (body : List ℕ) → slice_get bodies i ≡ Some body →
        IsKey (shape_of_numbers t.numbers) (key_behind k i)
    key_right i body at =
        let there = item_there k 0 bodies i body at ∙ ap (λ (n : ℕ). Some (item_at k n body)) (at_zero i) in
        subst (λ (x : Item). IsKey (shape_of_numbers t.numbers) x.key)
        (get_or_from_slice_get (group_of_blocks k bodies) i (item_at k i body) (item_at k i body) there)
        (may.4.items i (item_at k i body)
        (slice_get_within (group_of_blocks k bodies) i (item_at k i body) there)).key

    gathered : IsGathered t k bodies
    gathered = record {
      kind = kind;
      unit = unit;
      number = leb-true (ledger.next_number t.ledger) greatest_number may.1;
      short =
          let l = may.4.not_long in
          let least = command_blocks-few t.numbers in
          let e = items_length k 0 bodies in
          omega (arith, l, least, e);
      keys = λ i body at. keys_same t.numbers k i (subst InRange h.kept.numbers ranges) (key_right i body at);
    }

    -- they are the pages of what the reader claimed
    pages : map (page_claimed k (ledger.next_number t.ledger) (length bodies)) (claims_of_blocks reader bodies)
        ≡ pages_claimed c reader k
    pages =
        let size : length bodies ≡ length (claims_for c reader) =
        sym (ap (λ (claims : List Claimed). length claims) claimed ∙ claims_length reader 0 bodies) in
        (λ j. map (page_claimed k (sym (numbers_right c t h) j) (size j)) (sym claimed j))

pub accepts_told : (c after : Core) (k : Key) (reader : ℕ) → InRange c.numbers → after ≡ accepted c reader k →
    (t : Translation) (bodies : List (List ℕ)) → Describes c t → k.kind ≡ 1 → k.unit ≤ 7 →
    claims_for c reader ≡ claims_of_blocks reader bodies →
    IsAllowedMove t (Accept (length bodies) (group_of_blocks k bodies)) →
    Describes after (moved t (Accept (length bodies) (group_of_blocks k bodies)))
accepts_told c after k reader ranges is t bodies h kind unit claimed may =
    subst (λ (x : Core). Describes x (moved t (Accept (length bodies) (group_of_blocks k bodies)))) (sym is)
    (accepts_right c t k bodies reader ranges h kind unit claimed may)
