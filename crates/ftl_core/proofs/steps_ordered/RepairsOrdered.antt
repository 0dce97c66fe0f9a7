-- A repair is ordered: it waits with the next number, and its content is still to be read, or is zeros.
use Rattle.ftl_core.proofs.Common.{All, All-head, AreToRepair, Book, Bool, Core, Describes, Entry, FirstRight}
use Rattle.ftl_core.proofs.Common.{GroupPage, HasKey, IsKey, Kept, Key, Ledger, LedgerKept, List, Name, None, Numbers}
use Rattle.ftl_core.proofs.Common.{Option, Pending, Place, RepairKept, Repairing, Some, Step, Stored, Tag, Translation}
use Rattle.ftl_core.proofs.Common.{Valid, [], added_page, ap, arith, book, drop, entry_of, false, inl, inr, is_mended}
use Rattle.ftl_core.proofs.Common.{is_none, keys_to_repair, latest_durable, latest_in, length, mending_kept, name_at}
use Rattle.ftl_core.proofs.Common.{names_pending, next_number, none_some, option_map, page_within, refl}
use Rattle.ftl_core.proofs.Common.{shape_of_numbers, slice_get, stored_in, stored_of, subst, suc, sym, take, true, ℕ}
use Rattle.ftl_core.proofs.Common.{◌++◌, ◌+◌, ◌-◌, ◌∙◌, ◌∷◌, ◌≡◌, ◌⊎◌}
use Rattle.std.proofs.lemmas.List.{take-append-le}
use Rattle.ufs_spec.specs.Disk as disk
use Rattle.ufs_spec.specs.Ledger as ledger
use Rattle.ufs_spec.specs.Plain.{zero_block}
use Rattle.ufs_spec.specs.Translation as layer
use Rattle.ufs_spec.specs.Translation.{standing_of, with_repair}
use Rattle.ufs_spec.proofs.Lists.{grown_length}
use Rattle.power_loss.specs.Book.{BaseAt, BaseNone, book_of}
use Rattle.ftl_core.specs.declared.books.Mending.TheVariants as mendings
use Rattle.ftl_core.specs.Moves.{repair_ordered, repair_step}
use Rattle.ftl_core.proofs.job_taken.Flown.{group_writer}
use Rattle.ftl_core.proofs.look_and_accept.MoreGroups.{pins_kept_more}
use Rattle.ftl_core.proofs.look_and_accept.Numbers.{numbers_right}
use Rattle.ftl_core.proofs.opened.ListParts.{drop_next}
use Rattle.ftl_core.proofs.steps_ordered.MarksOrdered.{MayBegin, dies_on, no_reads}
use Rattle.ftl_core.proofs.steps_ordered.NonePending.{no_names, none_kept}
use Rattle.ftl_core.proofs.steps_ordered.QuietLayers.{IsQuiet}
use Rattle.ftl_core.proofs.pages.StoredNames.{AreAlike, none_there, stored_there}

-- Where the content stands

-- it is read from where its page stands, and is there at once where none stands
stored_standing : (l : Ledger) (s : Option Stored) (name : Option Name) → AreAlike l.standing s name →
    option_map (λ (at : Stored). at.place) s ≡ standing_of l name
stored_standing l None name h = ap (standing_of l) (sym (none_there l.standing name h))
stored_standing l (Some s) name h =
    let r = stored_there l.standing s name h in sym (ap (standing_of l) r.0 ∙ r.1)

none_mapped : {A B : Type 0} (f : A → B) (o : Option A) → is_none (option_map f o) ≡ is_none o
none_mapped f None = refl
none_mapped f (Some x) = refl

none_stands : (l : Ledger) (s : Option Stored) (name : Option Name) → AreAlike l.standing s name → is_none s ≡ true →
    name ≡ None
none_stands l None name h e = none_there l.standing name h
none_stands l (Some s) name h e = cc

-- a key of which no page stood had zeros
zeros_of : (b : Book) (k : Key) → FirstRight b k None → BaseAt b k ⊎ BaseNone b k → zero_block ≡ b.base k
zeros_of b k first (inl h) = absurd (first h.number h.index _ h.is refl h.below)
zeros_of b k first (inr h) = sym h.zeros

pub base_zeros : (b : Book) (k : Key) → BaseAt b k ⊎ BaseNone b k → (name : Option Name) → FirstRight b k name →
    name ≡ None → zero_block ≡ b.base k
base_zeros b k base None first e = zeros_of b k first base
base_zeros b k base (Some name) first e = cc

-- The ledger with one repair more

-- the groups up to the frontier are as they were
durable_same : (l : Ledger) (k : Key) → l.frontier ≡ l.greatest_seen + length l.groups →
    latest_durable (with_repair l k) ≡ latest_durable l
durable_same l k up = (λ i key. latest_in key l.greatest_seen (same i) (l.first_page key))
  where
    same : take (l.frontier - l.greatest_seen) (l.groups ++ (record { key = k; body = l.base k } ∷ []) ∷ [])
        ≡ take (l.frontier - l.greatest_seen) l.groups
    same = take-append-le (l.frontier - l.greatest_seen) l.groups _ (omega (arith, up))

ledger_repaired : (n : Numbers) (places : List (Option Stored)) (pages : List Pending) (frontier last : ℕ) (l : Ledger)
    (k : Key) → pages ≡ [] → l.repairs ≡ length l.groups → l.frontier ≡ l.greatest_seen + length l.groups →
    LedgerKept n places pages frontier last l → LedgerKept n places pages frontier (last + 1) (with_repair l k)
ledger_repaired n places pages frontier last l k none all up h = record {
  frontier = h.frontier;
  last_given = (let given = h.last_given in let longer = more in omega (arith, given, longer));
  pages = none_kept l.standing (entry_of (with_repair l k)) pages (names_pending (with_repair l k)) none
      (no_names (with_repair l k) (let longer = more in omega (arith, all, longer)));
  keys = h.keys;
  places = λ key has. subst (λ (f : Key → Option Name). AreAlike l.standing (stored_in n places key) (f key))
      (sym (durable_same l k up)) (h.places key has);
}
  where
    more : length (with_repair l k).groups ≡ suc (length l.groups)
    more = grown_length l.groups (record { key = k; body = l.base k } ∷ [])

-- the page of the repair
repair_entry : (n : Numbers) (l : Ledger) (k : Key) (number : ℕ) → number ≡ suc (l.greatest_seen + length l.groups) →
    entry_of (with_repair l k) (name_at number 0)
    ≡ Some (record { item = record { key = k; body = l.base k }; size = 1 })
repair_entry n l k number is =
    added_page (book_of n l) (record { key = k; body = l.base k } ∷ []) number 0
    (record { item = record { key = k; body = l.base k }; size = 1 })
    (record { last = is; item = refl; size = refl })

repaired_to_repair : (l : Ledger) (k : Key) (ks : List Key) → l.frontier ≡ l.greatest_seen + length l.groups →
    AreToRepair l ks → AreToRepair (with_repair l k) ks
repaired_to_repair l k ks up h = record {
  differ = h.differ;
  unrepaired = subst (λ (f : Key → Option Name). All (λ (key : Key). f key ≡ l.first_page key) ks)
      (sym (durable_same l k up)) h.unrepaired;
}

-- the step that waits
repair_kept : (n : Numbers) (l : Ledger) (k : Key) (number : ℕ) (from : Option Stored) →
    l.standing number 0 ≡ None → l.frontier ≡ l.greatest_seen + length l.groups →
    number ≡ suc (l.greatest_seen + length l.groups) →
    AreAlike l.standing from (l.first_page k) → (is_none from ≡ true → zero_block ≡ l.base k) →
    RepairKept (with_repair l k) number k from (is_none from) zero_block
repair_kept n l k number from new up is at zeros = record {
  next = omega (arith, up, is);
  last = (let more = grown_length l.groups (record { key = k; body = l.base k } ∷ []) in omega (arith, is, more));
  new = new;
  entry = repair_entry n l k number is;
  stored = at;
  content_is = zeros;
}

abbrev a_repair : ℕ → Option Place → Bool → layer.Step
a_repair number from there = record { kind = layer.RepairStep (name_at number 0) from; there = there }

step_is : (l : Ledger) (k : Key) (number other : ℕ) (from : Option Stored) → number ≡ other →
    AreAlike l.standing from (l.first_page k) →
    a_repair other (standing_of l (l.first_page k)) (is_none (standing_of l (l.first_page k)))
    ≡ a_repair number (option_map (λ (at : Stored). at.place) from) (is_none from)
step_is l k number other from same at =
    (λ i. a_repair (sym same i) (sym (stored_standing l from (l.first_page k) at) i)
    ((ap (λ (o : Option Place). is_none o) (sym (stored_standing l from (l.first_page k) at))
    ∙ none_mapped (λ (s : Stored). s.place) from) i))

-- Jobs in flight

-- no die writes a group's page
none_written : (c : Core) (t : Translation) → Valid t → Kept c t → c.step ≡ None →
    t.ledger.frontier ≡ t.ledger.greatest_seen + length t.ledger.groups →
    (die : ℕ) (p : Place) (tag : Tag) (body : List ℕ) →
    t.disk.flights die ≡ Some (disk.Programming p (GroupPage tag body)) → ⊥
none_written c t v k none up die p tag body at =
    let known = v.flights.known die p tag body at in
    let low = page_within (book t) tag.number tag.index _ known in
    let stands = v.frontier.stand tag.number tag.index _ (omega (arith, low, up)) known in
    let new = k.fly.new die tag.number tag.index (group_writer c t die p tag body k none at) in
    none_some stands.0 (sym new ∙ stands.1)

-- no page stands behind the last number
stands_not : (t : Translation) (number : ℕ) → Valid t → number ≡ suc (t.ledger.greatest_seen + length t.ledger.groups) →
    (o : Option Place) → t.ledger.standing number 0 ≡ o → t.ledger.standing number 0 ≡ None
stands_not t number v is None e = e
stands_not t number v is (Some p) e =
    let known = v.frontier.known number 0 p e in
    let low = page_within (book t) number 0 known.0 known.1 in
    absurd (omega (arith, low, is))

may_repair : (s : Step) (f : Option disk.Flight) →
    ((p : Place) (tag : Tag) (body : List ℕ) → f ≡ Some (disk.Programming p (GroupPage tag body)) → ⊥) → MayBegin s f
may_repair s None none = tt
may_repair s (Some (disk.Reading who p)) none = tt
may_repair s (Some (disk.Programming p (GroupPage tag body))) none = absurd (none p tag body refl)
may_repair s (Some (disk.Programming p cell)) none = tt
may_repair s (Some (disk.Erasing x)) none = tt

no_more_mended : (left : List Key) {A : Type 0} → is_mended (Repairing left) ≡ true → A
no_more_mended left e = cc

-- The repair

-- the repair of the first of the keys waits
pub repair_waits : (c : Core) (t : Translation) (k : Key) (left : List Key) → Describes c t → c.step ≡ None →
    c.mending ≡ mendings.Repairing → drop c.repaired c.lost ≡ k ∷ left → t.work.mending ≡ Repairing (k ∷ left) →
    IsQuiet c t (k ∷ left) → Kept (repair_ordered c k) (layer.repair_ordered t k left)
repair_waits c t k left h none repairing at mending q = record {
  numbers = h.kept.numbers;
  blocks = h.kept.blocks;
  dies = dies_on t.numbers t.disk.blocks t.disk.flights c.step (repair_step c k) c.rows none
      (λ die. may_repair (repair_step c k) (t.disk.flights die) (none_written c t h.valid h.kept none q.frontier die))
      h.kept.dies;
  fly = record { one = h.kept.fly.one; new = h.kept.fly.new };
  ledger_kept = ledger_repaired c.numbers c.places c.pages c.frontier c.last t.ledger k q.pages q.repairs q.frontier
      h.kept.ledger_kept;
  work = record {
    mending_is = ap Repairing (sym next.0) ∙ ap (λ m. mending_kept m (drop (c.repaired + 1) c.lost)) (sym repairing);
    step_is = (
      step_is t.ledger k (next_number c) (ledger.next_number t.ledger) (stored_of c k) numbered stored,
      repair_kept t.numbers t.ledger k (next_number c) (stored_of c k) new q.frontier (omega (arith, numbered)) stored
          zeros,
    );
    to_repair = λ un. subst (λ (ks : List Key). AreToRepair (with_repair t.ledger k) (k ∷ ks)) (sym next.0)
        (repaired_to_repair t.ledger k (k ∷ left) q.frontier to_repair);
    next_mark = h.kept.work.next_mark;
    repaired = no_more_mended left;
  };
  plan = h.kept.plan;
  claims = h.kept.claims;
  pins = pins_kept_more t (record { key = k; body = t.ledger.base k } ∷ []) c.pins t.pins h.kept.pins;
  differ = h.kept.differ;
  reads = h.kept.reads;
  step_reads = no_reads t.disk.flights c.step (Some (repair_step c k)) none h.kept.step_reads;
  readers = λ un. h.kept.readers unmended;
}
  where
    one_more : (n : ℕ) → n + 1 ≡ suc n
    one_more n = omega arith

    unmended : is_mended t.work.mending ≡ false
    unmended = ap is_mended mending

    next : (drop (c.repaired + 1) c.lost ≡ left) × (slice_get c.lost c.repaired ≡ Some k)
    next =
        let r = drop_next c.lost c.repaired k left at in
        (ap (λ (n : ℕ). drop n c.lost) (one_more c.repaired) ∙ r.0, r.3)

    numbered : next_number c ≡ ledger.next_number t.ledger
    numbered = numbers_right c t h

    new : t.ledger.standing (next_number c) 0 ≡ None
    new = stands_not t (next_number c) h.valid (omega (arith, numbered)) (t.ledger.standing (next_number c) 0) refl

    to_repair : AreToRepair t.ledger (k ∷ left)
    to_repair = subst (AreToRepair t.ledger) at
        (subst (λ (o : Option Step). AreToRepair t.ledger (keys_to_repair o (drop c.repaired c.lost))) none
        (h.kept.work.to_repair unmended))

    first : latest_durable t.ledger k ≡ t.ledger.first_page k
    first = All-head (λ (key : Key). latest_durable t.ledger key ≡ t.ledger.first_page key) k left to_repair.unrepaired

    has : HasKey (book t) k
    has = q.keys 0 k refl

    stored : AreAlike t.ledger.standing (stored_of c k) (t.ledger.first_page k)
    stored = subst (AreAlike t.ledger.standing (stored_of c k)) first
        (h.kept.ledger_kept.places k
        (subst (λ (n : Numbers). IsKey (shape_of_numbers n) k) (sym h.kept.numbers) has))

    zeros : is_none (stored_of c k) ≡ true → zero_block ≡ t.ledger.base k
    zeros e = base_zeros (book t) k (h.valid.book_right.base k has) (t.ledger.first_page k)
        (h.valid.book_right.first_page k has)
        (none_stands t.ledger (stored_of c k) (t.ledger.first_page k) stored e)
