-- What readers keep shows in the layer that is specified: what they look at, let go and want next.
use Rattle.ftl_core.proofs.Common.{All, All-head, All-tail, Core, Describes, InSlot, IsInNoSlot, Key, Ledger, List}
use Rattle.ftl_core.proofs.Common.{Name, None, Option, Pin, Some, Step, StepKept, Translation, WorkKept, [], all_keep}
use Rattle.ftl_core.proofs.Common.{ap, before_accepted, book, cases_Bool, drop, entry_of, false, false≢true, filter}
use Rattle.ftl_core.proofs.Common.{find, if◌then◌else◌, is_pin_of, laid_move, map, moved, not, option_map, refl}
use Rattle.ftl_core.proofs.Common.{same_Some, subst, sym, true, waiting, wanted_now, ℕ, ⊎_elim, ◌+◌, ◌∷◌, ◌≡◌, ◌≤◌}
use Rattle.std.proofs.Common.{max}
use Rattle.std.specs.Prelude.{Bool, IsSome}
use Rattle.ufs_spec.specs.Moves as move
use Rattle.ufs_spec.specs.Moves.{Acknowledge, LetGo, LetGoAll, WantPage, is_for, is_for_task}
use Rattle.ufs_spec.specs.Translation as layer
use Rattle.power_loss.specs.Invariant.{PinsRight}
use Rattle.ftl_core.proofs.rests_owed.RestsStay.{gone_rests, same_rests}
use Rattle.ftl_core.specs.declared.books.Mending.{Mending}
use Rattle.ftl_core.specs.declared.books.Step.TheVariants as steps
use Rattle.ftl_core.specs.Moves.{is_to_read, looked_by, next_wanted, unpinned, wants_page, without_block}
use Rattle.ftl_core.specs.Tells.{is_page_wanted, looked_of}
use Rattle.ftl_core.proofs.pins.FoundPins.{FoundKept, pins_found}
use Rattle.ftl_core.proofs.pins.PinsGone.{let_go_kept, let_one_go_kept}
use Rattle.ftl_core.proofs.pins.PinsWanted.{wants_kept}

-- What is kept

-- what a reader keeps of a block is what the pin of this block looks at
pub pinned_right : (c : Core) (t : Translation) (reader index : ℕ) → Describes c t →
    looked_by reader index c.pins ≡ option_map looked_of (find (move.is_pin_of reader index) t.pins)
pinned_right c t reader index h =
    by (find (is_pin_of reader index) c.pins) (find (move.is_pin_of reader index) t.pins)
    (pins_found t.ledger.frontier (entry_of t.ledger) reader index c.pins t.pins h.kept.pins)
  where
    by : (o : Option Pin) (r : Option layer.Pin) → FoundKept t.ledger.frontier (entry_of t.ledger) o r →
        option_map (λ (x : Pin). x.looked) o ≡ option_map looked_of r
    by None None k = refl
    by (Some p) (Some q) k = ap Some (sym k.looked)
    by None (Some q) k = absurd k
    by (Some p) None k = absurd k

-- the page of a block is still to be read just where that of its pin is
pub wanted_right : (c : Core) (t : Translation) (reader index : ℕ) → Describes c t →
    wants_page reader index c.pins ≡ is_page_wanted (find (move.is_pin_of reader index) t.pins)
wanted_right c t reader index h =
    by (find (is_pin_of reader index) c.pins) (find (move.is_pin_of reader index) t.pins)
    (pins_found t.ledger.frontier (entry_of t.ledger) reader index c.pins t.pins h.kept.pins)
  where
    by : (o : Option Pin) (r : Option layer.Pin) → FoundKept t.ledger.frontier (entry_of t.ledger) o r →
        is_to_read o ≡ is_page_wanted r
    by None None k = refl
    by (Some p) (Some q) k = sym k.wanted
    by None (Some q) k = absurd k
    by (Some p) None k = absurd k

-- of pins in no slot none is found in one
none_in_slot : (reader index : ℕ) (ps : List Pin) (name : Name) → All (λ (p : Pin). IsInNoSlot p.looked) ps →
    looked_by reader index ps ≡ Some (InSlot name) → ⊥
none_in_slot reader index [] name off e = cc
none_in_slot reader index (p ∷ ps) name off e =
    by (is_pin_of reader index p) e
    (none_in_slot reader index ps name (All-tail (λ (z : Pin). IsInNoSlot z.looked) p ps off))
  where
    by : (b : Bool) →
        option_map (λ (z : Pin). z.looked) (if b then Some p else find (is_pin_of reader index) ps)
        ≡ Some (InSlot name) → (looked_by reader index ps ≡ Some (InSlot name) → ⊥) → ⊥
    by true is rest = subst IsInNoSlot (same_Some p.looked (InSlot name) is)
        (All-head (λ (z : Pin). IsInNoSlot z.looked) p ps off)
    by false is rest = rest is

-- it keeps a slot only once the device is mended
pub keeps_mended : (c : Core) (t : Translation) (reader index : ℕ) (name : Name) → Describes c t →
    looked_by reader index c.pins ≡ Some (InSlot name) → layer.is_mended t.work.mending ≡ true
keeps_mended c t reader index name h is =
    ⊎_elim (λ e. e) (λ e. absurd (none_in_slot reader index c.pins name (h.kept.readers e) is))
    (cases_Bool (layer.is_mended t.work.mending))

-- what readers keep is there
pub pins_there : (c : Core) (t : Translation) → Describes c t →
    PinsRight (book t) t.ledger.frontier t.disk.cells t.disk.finished t.disk.erasing t.pins
pins_there c t h = h.valid.pins

-- What is let go

pub unpins_right : (c : Core) (t : Translation) (reader : ℕ) → Describes c t →
    Describes (unpinned c reader) (moved t (LetGoAll reader))
unpins_right c t reader h = record {
  valid = all_keep t (LetGoAll reader) h.valid tt;
  kept = let_go_kept c t reader h.kept;
  live = h.live;
  copies = h.copies;
  rests = gone_rests t (waiting c.pages) (is_for_task reader) (λ n i. refl) (moved t (LetGoAll reader)) refl refl refl
      refl (laid_move t (LetGoAll reader) h.valid h.rests.laid tt) h.rests;
}

pub unpins_told : (c after : Core) (reader : ℕ) → after ≡ unpinned c reader → (t : Translation) → Describes c t →
    Describes after (moved t (LetGoAll reader))
unpins_told c after reader is t h =
    subst (λ (x : Core). Describes x (moved t (LetGoAll reader))) (sym is) (unpins_right c t reader h)

-- one block is let go
pub lets_go_right : (c : Core) (t : Translation) (reader index : ℕ) → Describes c t →
    Describes
    (record c {
      rows = map (without_block reader index) c.rows;
      pins = filter (λ p. not (is_pin_of reader index p)) c.pins;
    })
    (moved t (LetGo reader index))
lets_go_right c t reader index h = record {
  valid = all_keep t (LetGo reader index) h.valid tt;
  kept = let_one_go_kept c t reader index h.kept;
  live = h.live;
  copies = h.copies;
  rests = gone_rests t (waiting c.pages) (is_for reader index) (λ n i. refl) (moved t (LetGo reader index)) refl refl
      refl refl (laid_move t (LetGo reader index) h.valid h.rests.laid tt) h.rests;
}

pub wants_right : (c : Core) (t : Translation) (reader index : ℕ) → Describes c t →
    Describes (record c { pins = map (wanted_now reader index) c.pins }) (moved t (WantPage reader index))
wants_right c t reader index h = record {
  valid = all_keep t (WantPage reader index) h.valid tt;
  kept = wants_kept c t reader index h.kept;
  live = h.live;
  copies = h.copies;
  rests = same_rests t (moved t (WantPage reader index)) (waiting c.pages) refl refl refl refl h.rests.laid h.rests;
}

-- and the next one is wanted
pub wants_next : (c after : Core) (reader index : ℕ) → after ≡ next_wanted c reader index → (t : Translation) →
    Describes c t → Describes after (moved (moved t (LetGo reader index)) (WantPage reader (index + 1)))
wants_next c after reader index is t h =
    subst (λ (x : Core). Describes x (moved (moved t (LetGo reader index)) (WantPage reader (index + 1)))) (sym is)
    (wants_right
    (record c {
      rows = map (without_block reader index) c.rows;
      pins = filter (λ p. not (is_pin_of reader index p)) c.pins;
    })
    (moved t (LetGo reader index)) reader (index + 1) (lets_go_right c t reader index h))

-- What is acknowledged

-- what is known of the mending does not depend on it
work_held : (m : Mending) (left : List Key) (step : Option Step) (content : List ℕ) (next : ℕ) (w : layer.Work)
    (l : Ledger) (held : ℕ) → WorkKept m left step content next w l →
    WorkKept m left step content next w (record l { held = held })
work_held m left step content next w l held k = record {
  mending_is = k.mending_is;
  step_is = step_held step w.step k.step_is;
  to_repair = λ e. let r = k.to_repair e in record { differ = r.differ; unrepaired = r.unrepaired };
  next_mark = k.next_mark;
  repaired = k.repaired;
}
  where
    step_held : (s : Option Step) (u : Option layer.Step) → StepKept l s content u →
        StepKept (record l { held = held }) s content u
    step_held None None r = r
    step_held None (Some x) r = absurd r
    step_held (Some (steps.Mark n fence)) None r = absurd r
    step_held (Some (steps.Mark n fence)) (Some x) r = r
    step_held (Some (steps.Repair n key from there)) None r = absurd r
    step_held (Some (steps.Repair n key from there)) (Some x) r = (
      r.0,
      record {
        next = r.1.next;
        last = r.1.last;
        new = r.1.new;
        entry = r.1.entry;
        stored = r.1.stored;
        content_is = r.1.content_is;
      },
    )
    step_held (Some (steps.Copy n key from read)) None r = absurd r
    step_held (Some (steps.Copy n key from read)) (Some x) r = (
      r.0,
      r.1,
      record {
        number_is = r.2.number_is;
        place = r.2.place;
        stands = r.2.stands;
        entry = r.2.entry;
        known = r.2.known;
        key = r.2.key;
        copied = r.2.copied;
      },
    )

-- commands that are durable may be acknowledged, and nothing that is kept changes
pub acknowledges_right : (c : Core) (t : Translation) (count : ℕ) → Describes c t →
    before_accepted t.ledger + count ≤ t.ledger.frontier → Describes c (moved t (Acknowledge count))
acknowledges_right c t count h allowed = record {
  valid = all_keep t (Acknowledge count) h.valid allowed;
  live = h.live;
  copies = h.copies;
  rests = same_rests t (moved t (Acknowledge count)) (waiting c.pages) refl refl refl refl h.rests.laid h.rests;
  kept = record {
    numbers = h.kept.numbers;
    blocks = h.kept.blocks;
    dies = h.kept.dies;
    fly = h.kept.fly;
    ledger_kept = record {
      frontier = h.kept.ledger_kept.frontier;
      last_given = h.kept.ledger_kept.last_given;
      pages = h.kept.ledger_kept.pages;
      keys = h.kept.ledger_kept.keys;
      places = h.kept.ledger_kept.places;
    };
    work = work_held c.mending (drop c.repaired c.lost) c.step c.content c.next_mark t.work t.ledger
        (max t.ledger.held count) h.kept.work;
    plan = h.kept.plan;
    claims = h.kept.claims;
    pins = h.kept.pins;
    differ = h.kept.differ;
    reads = h.kept.reads;
    step_reads = h.kept.step_reads;
    readers = h.kept.readers;
  };
}

pub acknowledged_lets_go : (c after : Core) (reader : ℕ) → after ≡ unpinned c reader → (t : Translation) (count : ℕ) →
    Describes c t → before_accepted t.ledger + count ≤ t.ledger.frontier →
    Describes after (moved (moved t (Acknowledge count)) (LetGoAll reader))
acknowledged_lets_go c after reader is t count h allowed =
    unpins_told c after reader is (moved t (Acknowledge count)) (acknowledges_right c t count h allowed)
