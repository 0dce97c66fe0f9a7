-- The blocks that a reader keeps: each stays kept as the next is, and looks at what its address has.
use Rattle.ftl_core.proofs.Common.{AreClaimed, Bool, Claims, Core, Describes, Entry, InRange, IsInNoSlot, IsKey}
use Rattle.ftl_core.proofs.Common.{IsLookOf, Key, List, Name, Option, Pin, PinKept, PinsKept, Some, Translation, Valid}
use Rattle.ftl_core.proofs.Common.{[], all_keep, ap, append-nil, append_assoc, arith, below, claims_for, entry_of}
use Rattle.ftl_core.proofs.Common.{false, false≢true, fold, get_below, if◌then◌else◌, is_mended, is_of_reader}
use Rattle.ftl_core.proofs.Common.{is_pin_of, key_at, key_behind, length, length-append, length-below, length-map}
use Rattle.ftl_core.proofs.Common.{list_any, look_now, map, map-append, mapped_at, most_pins, moved, nat_le, refl}
use Rattle.ftl_core.proofs.Common.{shape_of_numbers, slice_get, subst, suc, sym, true, true≢false, waiting, zero, ℕ}
use Rattle.ftl_core.proofs.Common.{⊎_elim, ◌++◌, ◌+◌, ◌<◌, ◌∙◌, ◌∷◌, ◌≡◌, ◌≤◌}
use Rattle.std.proofs.Common.{◌-◌, ◌==◌, ◌||◌}
use Rattle.std.proofs.lemmas.Bool.{and_parts, eqb-true}
use Rattle.std.proofs.lemmas.List.Sums.{fold-append}
use Rattle.ufs_spec.proofs.Lists.{any_none, none_passes}
use Rattle.ufs_spec.specs.Moves.{Keep, Move}
use Rattle.ufs_spec.specs.Translation as layer
use Rattle.power_loss.proofs.open_tasks.FoundInLists.{found_more}
use Rattle.ftl_core.proofs.rests_owed.RestsStay.{same_rests}
use Rattle.ftl_core.specs.Moves.{kept_all, look_of, pin_now}
use Rattle.ftl_core.specs.Tells.{PinsDiffer, keep_at, keeps_for}
use Rattle.ftl_core.proofs.look_and_accept.KeysBehind.{keys_same}
use Rattle.ftl_core.proofs.look_and_accept.LookedPages.{found_off, found_there}
use Rattle.ftl_core.proofs.look_and_accept.LookedUp.{looks_now}
use Rattle.ftl_core.proofs.pages.NamesBehind.{get_either}
use Rattle.ftl_core.proofs.pins.PinsAlike.{pins_more}
use Rattle.ftl_core.proofs.pins.PinsDiffer.{differ_more, tasks_differ}
use Rattle.std.proofs.lemmas.List.Elements.{All-push}

-- What readers keep is what tasks keep

pub as_many_pins : (frontier : ℕ) (entries : Name → Option Entry) (ps : List Pin) (qs : List layer.Pin) →
    PinsKept frontier entries ps qs → length ps ≡ length qs
as_many_pins frontier entries [] [] h = refl
as_many_pins frontier entries [] (q ∷ qs) h = absurd h
as_many_pins frontier entries (p ∷ ps) [] h = absurd h
as_many_pins frontier entries (p ∷ ps) (q ∷ qs) h = ap suc (as_many_pins frontier entries ps qs h.1)

-- a reader keeps something where its task does
reader_keeps : (frontier : ℕ) (entries : Name → Option Entry) (reader : ℕ) (ps : List Pin) (qs : List layer.Pin) →
    PinsKept frontier entries ps qs → list_any (is_of_reader reader) ps ≡ list_any (keeps_for reader) qs
reader_keeps frontier entries reader [] [] h = refl
reader_keeps frontier entries reader [] (q ∷ qs) h = absurd h
reader_keeps frontier entries reader (p ∷ ps) [] h = absurd h
reader_keeps frontier entries reader (p ∷ ps) (q ∷ qs) h =
    λ i. (sym h.0.tag i == reader) || reader_keeps frontier entries reader ps qs h.1 i

-- no block of a reader is kept twice
pub pins_differ : (c : Core) (t : Translation) → Describes c t → PinsDiffer t.pins
pins_differ c t h = tasks_differ t.ledger.frontier (entry_of t.ledger) c.pins t.pins h.kept.pins h.kept.differ

pub pins_count : (c : Core) (t : Translation) → Describes c t → length c.pins ≡ length t.pins
pins_count c t h = as_many_pins t.ledger.frontier (entry_of t.ledger) c.pins t.pins h.kept.pins

-- One block more

-- what is kept of a block, as it is specified
abbrev pub pin_at : Translation → ℕ → Key → Bool → ℕ → layer.Pin
pin_at t reader k all i = record {
  tag = reader;
  index = i;
  looked = look_now t (key_behind k i);
  wanted = all || (i == 0);
}

abbrev pub pins_at : Translation → ℕ → Key → Bool → ℕ → List layer.Pin
pins_at t reader k all n = map (pin_at t reader k all) (below n)

abbrev pub keeps_at : Translation → ℕ → Key → Bool → ℕ → List Move
keeps_at t reader k all n = map (keep_at t reader k all) (below n)

-- the blocks are kept one after another
made_more : {X : Type 0} (f : ℕ → X) (xs : List X) (n : ℕ) →
    (xs ++ map f (below n)) ++ f n ∷ [] ≡ xs ++ map f (below (suc n))
made_more {X} f xs n =
    append_assoc xs (map f (below n)) (f n ∷ [])
    ∙ ap (λ (ys : List X). xs ++ ys) (sym (map-append f (below n) (n ∷ [])))

kept_more : (c : Core) (reader : ℕ) (k : Key) (all : Bool) (n : ℕ) →
    record c { pins = (c.pins ++ map (pin_now c reader k all) (below n)) ++ pin_now c reader k all n ∷ [] } ≡
    kept_all c reader k all (suc n)
kept_more c reader k all n =
    ap (λ (ps : List Pin). record c { pins = ps }) (made_more (pin_now c reader k all) c.pins n)

pub kept_next : (c now after : Core) (reader : ℕ) (k : Key) (all : Bool) (n : ℕ) → now ≡ kept_all c reader k all n →
    after ≡ record now { pins = now.pins ++ pin_now now reader k all n ∷ [] } → after ≡ kept_all c reader k all (n + 1)
kept_next c now after reader k all n is new =
    new
    ∙ (ap (λ (x : Core). record x { pins = x.pins ++ pin_now x reader k all n ∷ [] }) is
    ∙ (kept_more c reader k all n ∙ ap (kept_all c reader k all) (next n)))
  where
    next : (n : ℕ) → suc n ≡ n + 1
    next n = omega arith

pub kept_count : (c now : Core) (reader : ℕ) (k : Key) (all : Bool) (n : ℕ) → now ≡ kept_all c reader k all n →
    length now.pins ≡ length c.pins + n
kept_count c now reader k all n is =
    ap (λ (x : Core). length x.pins) is
    ∙ (length-append c.pins (map (pin_now c reader k all) (below n))
    ∙ ap (λ (m : ℕ). length c.pins + m) (length-map (below n) (pin_now c reader k all) ∙ length-below n))

-- as it is specified
moved_more : (t : Translation) (reader : ℕ) (k : Key) (all : Bool) (n : ℕ) →
    record t { pins = (t.pins ++ pins_at t reader k all n) ++ pin_at t reader k all n ∷ [] } ≡
    record t { pins = t.pins ++ pins_at t reader k all (suc n) }
moved_more t reader k all n =
    ap (λ (ps : List layer.Pin). record t { pins = ps }) (made_more (pin_at t reader k all) t.pins n)

pub moved_all : (t : Translation) (reader : ℕ) (k : Key) (all : Bool) (n : ℕ) →
    fold moved t (keeps_at t reader k all n) ≡ record t { pins = t.pins ++ pins_at t reader k all n }
moved_all t reader k all zero = ap (λ (ps : List layer.Pin). record t { pins = ps }) (sym (append-nil t.pins))
moved_all t reader k all (suc n) =
    ap (fold moved t) (map-append (keep_at t reader k all) (below n) (n ∷ []))
    ∙ (fold-append moved t (keeps_at t reader k all n) (keep_at t reader k all n ∷ [])
    ∙ (ap (λ (x : Translation). moved x (keep_at t reader k all n)) (moved_all t reader k all n)
    ∙ moved_more t reader k all n))

-- One block that is kept

pub keeps_block : (c : Core) (t : Translation) (k : Key) (p : Pin) (q : layer.Pin) → Describes c t →
    IsKey (shape_of_numbers t.numbers) k → q.looked ≡ look_now t k →
    PinKept t.ledger.frontier (entry_of t.ledger) p q → list_any (is_pin_of p.reader p.index) c.pins ≡ false →
    Describes (record c { pins = c.pins ++ p ∷ [] }) (moved t (Keep k q))
keeps_block c t k p q h is looks kept new = record {
  valid = all_keep t (Keep k q) h.valid (is, looks);
  live = h.live;
  copies = h.copies;
  rests = same_rests t (moved t (Keep k q)) (waiting c.pages) refl refl refl refl h.rests.laid h.rests;
  kept = record {
    numbers = h.kept.numbers;
    blocks = h.kept.blocks;
    dies = h.kept.dies;
    fly = h.kept.fly;
    ledger_kept = h.kept.ledger_kept;
    work = h.kept.work;
    plan = h.kept.plan;
    claims = h.kept.claims;
    pins = pins_more t.ledger.frontier (entry_of t.ledger) c.pins t.pins p q h.kept.pins kept;
    differ = differ_more c.pins p new h.kept.differ;
    reads = λ die tag index place e.
        let w = h.kept.reads die tag index place e in
        (w.0, found_more (is_pin_of tag index) c.pins (p ∷ []) w.1, w.2);
    step_reads = h.kept.step_reads;
    readers = λ e. All-push (λ (x : Pin). IsInNoSlot x.looked) c.pins p (h.kept.readers e)
        (subst IsInNoSlot (sym looks ∙ kept.looked) (found_off t k h.valid is e));
  };
}

-- All of them

-- a block that may be kept: the device has its key, and it looks at what the key has
pub record IsKeepable (c : Core) (t : Translation) (k : Key) (i : ℕ) : Type 0 where
  pub key : IsKey (shape_of_numbers t.numbers) (key_behind k i)
  pub same : key_at k i ≡ key_behind k i
  pub looks : look_of c (key_behind k i) ≡ look_now t (key_behind k i)

block_kept : (c : Core) (t : Translation) (reader : ℕ) (k : Key) (all : Bool) (i : ℕ) → Valid t →
    IsKeepable c t k i →
    PinKept t.ledger.frontier (entry_of t.ledger) (pin_now c reader k all i) (pin_at t reader k all i)
block_kept c t reader k all i v may = record {
  tag = refl;
  index = refl;
  looked = sym may.looks ∙ ap (look_of c) (sym may.same);
  there = subst (λ (x : Key). IsLookOf t.ledger.frontier (entry_of t.ledger) x (look_now t (key_behind k i)))
      (sym may.same) (found_there t (key_behind k i) v may.key);
  wanted = refl;
}

-- a reader who kept nothing does not keep the next block
next_new : (c : Core) (reader : ℕ) (k : Key) (all : Bool) (n : ℕ) → list_any (is_of_reader reader) c.pins ≡ false →
    list_any (is_pin_of reader n) (c.pins ++ map (pin_now c reader k all) (below n)) ≡ false
next_new c reader k all n none =
    none_passes (is_pin_of reader n) (c.pins ++ map (pin_now c reader k all) (below n)) found
  where
    found : (j : ℕ) (p : Pin) → slice_get (c.pins ++ map (pin_now c reader k all) (below n)) j ≡ Some p →
        is_pin_of reader n p ≡ true → ⊥
    found j p h is =
        let both = and_parts (p.reader == reader) (p.index == n) is in
        ⊎_elim
        (λ (old : (j < length c.pins) × (slice_get c.pins j ≡ Some p)).
        false≢true (sym (any_none (is_of_reader reader) c.pins j p none old.1) ∙ both.0))
        (λ (made : (length c.pins ≤ j)
        × (slice_get (map (pin_now c reader k all) (below n)) (j - length c.pins) ≡ Some p)).
        let r = mapped_at (pin_now c reader k all) (below n) (j - length c.pins) p made.1 in
        let s = get_below n (j - length c.pins) r.0 r.1 in
        let same : r.0 ≡ n = ap (λ (x : Pin). x.index) r.2 ∙ eqb-true p.index n both.1 in
        let less = s.1 in
        absurd (omega (arith, same, less)))
        (get_either c.pins (map (pin_now c reader k all) (below n)) j p h)

kept_all_right : (c : Core) (t : Translation) (reader : ℕ) (k : Key) (all : Bool) (blocks : ℕ) → Describes c t →
    ((i : ℕ) → i < blocks → IsKeepable c t k i) →
    list_any (is_of_reader reader) c.pins ≡ false → (n : ℕ) → n ≤ blocks →
    Describes (kept_all c reader k all n) (record t { pins = t.pins ++ pins_at t reader k all n })
kept_all_right c t reader k all blocks h each none zero l =
    subst (λ (ps : List layer.Pin). Describes (kept_all c reader k all zero) (record t { pins = ps }))
    (sym (append-nil t.pins))
    (subst (λ (ps : List Pin). Describes (record c { pins = ps }) t) (sym (append-nil c.pins)) h)
kept_all_right c t reader k all blocks h each none (suc n) l =
    let may = each n (omega arith) in
    let so_far = kept_all_right c t reader k all blocks h each none n (omega arith) in
    let next = keeps_block (kept_all c reader k all n) (record t { pins = t.pins ++ pins_at t reader k all n })
    (key_behind k n) (pin_now c reader k all n) (pin_at t reader k all n) so_far may.key refl
    (block_kept c t reader k all n h.valid may) (next_new c reader k all n none) in
    subst (Describes (kept_all c reader k all (suc n))) (moved_more t reader k all n)
    (subst (λ (x : Core). Describes x
    (record t { pins = (t.pins ++ pins_at t reader k all n) ++ pin_at t reader k all n ∷ [] }))
    (kept_more c reader k all n) next)

-- a reader who keeps nothing keeps what each of the blocks has
pub keeps_all : (c : Core) (t : Translation) (reader : ℕ) (k : Key) (all : Bool) (blocks : ℕ) → Describes c t →
    ((i : ℕ) → i < blocks → IsKeepable c t k i) →
    list_any (keeps_for reader) t.pins ≡ false →
    Describes (kept_all c reader k all blocks) (fold moved t (keeps_at t reader k all blocks))
keeps_all c t reader k all blocks h each none =
    subst (Describes (kept_all c reader k all blocks)) (sym (moved_all t reader k all blocks))
    (kept_all_right c t reader k all blocks h each
    (reader_keeps t.ledger.frontier (entry_of t.ledger) reader c.pins t.pins h.kept.pins ∙ none) blocks (omega arith))

each_keepable : (c : Core) (t : Translation) (k : Key) (blocks : ℕ) → InRange c.numbers → Describes c t →
    ((i : ℕ) → i < blocks → IsKey (shape_of_numbers t.numbers) (key_behind k i)) →
    (i : ℕ) → i < blocks → IsKeepable c t k i
each_keepable c t k blocks ranges h keys i l = record {
  key = keys i l;
  same = keys_same t.numbers k i (subst InRange h.kept.numbers ranges) (keys i l);
  looks = looks_now c t h (key_behind k i) (keys i l);
}

-- if the device has the keys of all of them. Where there is no room for all, nothing is kept
pub keeps_told : (c after : Core) (reader : ℕ) (k : Key) (all : Bool) (blocks : ℕ) (room : Bool) →
    after ≡ (if room then kept_all c reader k all blocks else c) →
    InRange c.numbers → (t : Translation) → Describes c t →
    ((i : ℕ) → i < blocks → IsKey (shape_of_numbers t.numbers) (key_behind k i)) →
    list_any (keeps_for reader) t.pins ≡ false →
    Describes after (if room then fold moved t (keeps_at t reader k all blocks) else t)
keeps_told c after reader k all blocks true is ranges t h keys none =
    subst (λ (x : Core). Describes x (fold moved t (keeps_at t reader k all blocks))) (sym is)
    (keeps_all c t reader k all blocks h (each_keepable c t k blocks ranges h keys) none)
keeps_told c after reader k all blocks false is ranges t h keys none =
    subst (λ (x : Core). Describes x t) (sym is) h

-- there is room for as many as the layer that is specified has room for
pub room_told : (c : Core) (t : Translation) (blocks : ℕ) → Describes c t →
    nat_le (length c.pins + blocks) most_pins ≡ nat_le (length t.pins + blocks) most_pins
room_told c t blocks h = ap (λ (n : ℕ). nat_le (n + blocks) most_pins) (pins_count c t h)

-- the claims of readers stay
pub claims_stay : (c after : Core) (reader : ℕ) (k : Key) (all : Bool) (blocks : ℕ) (room : Bool) →
    after ≡ (if room then kept_all c reader k all blocks else c) → (claims : Claims) → AreClaimed c claims →
    AreClaimed after claims
claims_stay c after reader k all blocks true is claims h = λ other. ap (λ (x : Core). claims_for x other) is ∙ h other
claims_stay c after reader k all blocks false is claims h = λ other. ap (λ (x : Core). claims_for x other) is ∙ h other
