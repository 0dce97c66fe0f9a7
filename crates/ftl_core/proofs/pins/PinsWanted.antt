-- The page of a block of a reader is wanted from now on, or wanted no more.
use Rattle.ftl_core.proofs.Common.{All-map, Bool, Core, Entry, IsInNoSlot, IsWanted, Kept, Name, Option, Pin, PinKept}
use Rattle.ftl_core.proofs.Common.{Place, Translation, ap, entry_of, false, if◌then◌else◌, is_pin_of, map, moved}
use Rattle.ftl_core.proofs.Common.{option_map, refl, true, wanted_now, ℕ, ◌∙◌, ◌≡◌}
use Rattle.ufs_spec.specs.Moves as move
use Rattle.ufs_spec.specs.Moves.{WantPage, with_wanted}
use Rattle.ufs_spec.specs.Translation as layer
use Rattle.ftl_core.proofs.pins.FoundPins.{found_mapped, same_test}
use Rattle.ftl_core.proofs.pins.PinsAlike.{pins_mapped}
use Rattle.ftl_core.proofs.pins.PinsDiffer.{differ_mapped}

-- so it is noted with the pin
abbrev pub want_noted : ℕ → ℕ → Bool → Pin → Pin
want_noted reader index b p = record p { wanted = if is_pin_of reader index p then b else p.wanted }

-- the pins of other blocks stay
pub wants_alike : (frontier : ℕ) (entries : Name → Option Entry) (reader index : ℕ) (b : Bool) (p : Pin)
    (q : layer.Pin) → PinKept frontier entries p q →
    PinKept frontier entries (want_noted reader index b p) (with_wanted reader index b q)
wants_alike frontier entries reader index b p q h =
    by (is_pin_of reader index p) (move.is_pin_of reader index q) (same_test frontier entries reader index p q h)
  where
    by : (x y : Bool) → y ≡ x → PinKept frontier entries (record p { wanted = if x then b else p.wanted })
        (if y then record q { wanted = b } else q)
    by true true e = record { tag = h.tag; index = h.index; looked = h.looked; there = h.there; wanted = refl }
    by true false e = cc
    by false true e = cc
    by false false e = h

-- who wants a page goes on to want it
still_wanted : (reader index : ℕ) (place : Place) (p : Pin) → IsWanted place p →
    IsWanted place (wanted_now reader index p)
still_wanted reader index place p w =
    record { name = w.name; looks = w.looks; wanted = by (is_pin_of reader index p) }
  where
    by : (b : Bool) → (if b then true else p.wanted) ≡ true
    by true = refl
    by false = w.wanted

pub wants_kept : (c : Core) (t : Translation) (reader index : ℕ) → Kept c t →
    Kept (record c { pins = map (wanted_now reader index) c.pins }) (moved t (WantPage reader index))
wants_kept c t reader index k = record {
  numbers = k.numbers;
  blocks = k.blocks;
  dies = k.dies;
  fly = k.fly;
  ledger_kept = k.ledger_kept;
  work = k.work;
  plan = k.plan;
  claims = k.claims;
  pins = pins_mapped t.ledger.frontier t.ledger.frontier (entry_of t.ledger) (entry_of t.ledger)
      (wanted_now reader index) (with_wanted reader index true) c.pins t.pins
      (wants_alike t.ledger.frontier (entry_of t.ledger) reader index true) k.pins;
  differ = differ_mapped (wanted_now reader index) (λ p. refl) (λ p. refl) c.pins k.differ;
  reads = λ die tag i place e.
      let r = k.reads die tag i place e in (
        wanted_now reader index r.0,
        found_mapped (is_pin_of tag i) (wanted_now reader index) (λ p. refl) c.pins
            ∙ ap (option_map (wanted_now reader index)) r.1,
        still_wanted reader index place r.0 r.2,
      );
  step_reads = k.step_reads;
  readers = λ e. All-map (λ (p : Pin). IsInNoSlot p.looked) (wanted_now reader index) c.pins (k.readers e);
}
