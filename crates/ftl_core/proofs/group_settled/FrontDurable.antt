-- The groups at the front whose pages are all written become durable one by one, and the frontier climbs over them.
use Rattle.ftl_core.proofs.Common.{Core, Entry, Item, Kept, List, None, Numbers, Option, PagesKept, Some, Translation}
use Rattle.ftl_core.proofs.Common.{ap, arith, before_accepted, climbed, drop, entry_of, front_written, group_durable}
use Rattle.ftl_core.proofs.Common.{is_mended, is_pin_of, length, map, names_after, option_map, refl, settled}
use Rattle.ftl_core.proofs.Common.{settled_pin, slice_get, slice_get_within, subst, suc, sym, true, true≢false, zero, ℕ}
use Rattle.ftl_core.proofs.Common.{⊎_elim, ◌-◌, ◌<◌, ◌∙◌, ◌≡◌, ◌≤◌}
use Rattle.ufs_spec.specs.Keys as keys
use Rattle.ufs_spec.specs.Ledger.{climbs, entry_in, is_standing}
use Rattle.ufs_spec.specs.Moves as moves
use Rattle.power_loss.proofs.books.FrontierClimbs.{climb}
use Rattle.ftl_core.proofs.group_settled.FrontLedger.{BehindKept, GroupsRight, IsNextWhole, goes_on, ledger_next, made}
use Rattle.ftl_core.proofs.group_settled.FrontLedger.{made_is, next_whole, none_whole}
use Rattle.ftl_core.proofs.group_settled.FrontPages.{entry_next}
use Rattle.ftl_core.proofs.group_settled.Settling.{fewer, settled_end, settled_step, written_or_not}
use Rattle.ftl_core.proofs.look_and_accept.MoreGroups.{work_more}
use Rattle.ftl_core.proofs.look_and_accept.Numbers.{IsRepair, behind, no_repair_kept, pending_mended}
use Rattle.ftl_core.proofs.opened.ListParts.{drop_next}
use Rattle.ftl_core.proofs.pins.FoundPins.{found_mapped}
use Rattle.ftl_core.proofs.pins.PinsDiffer.{differ_mapped}
use Rattle.ftl_core.proofs.pins.PinsSettled.{at_frontier, moved_all, pins_settle, pins_settled, pins_twice}
use Rattle.ftl_core.proofs.pins.PinsSettled.{still_wanted}

-- the layer with its frontier there, and with what tasks keep settled by it
abbrev pub raised_to : Translation → ℕ → Translation
raised_to u f = record u { ledger = at_frontier u.ledger f; pins = map (settled_pin (at_frontier u.ledger f)) u.pins }

abbrev climbed_to : Translation → ℕ
climbed_to u = climbed (is_standing u.ledger) u.ledger.frontier (behind u.ledger)

-- with its frontier over all groups that are wholly there
abbrev pub climbed_of : Translation → Translation
climbed_of u = moves.settled (record u { ledger = climbs u.ledger })

-- the device is mended: the frontier is not below the last repair; and the groups are such as are accepted
pub record MayClimb (u : Translation) : Type 0 where
  pub top : before_accepted u.ledger ≤ u.ledger.frontier
  pub mended : is_mended u.work.mending ≡ true
  pub no_repair : IsRepair u.work.step → ⊥
  pub groups : GroupsRight u.numbers u.ledger

pub climbs_on : (u : Translation) → MayClimb u → MayClimb (raised_to u (suc u.ledger.frontier))
climbs_on u m = record {
  top = let l = m.top in omega arith;
  mended = m.mended;
  no_repair = m.no_repair;
  groups = record { are_keys = m.groups.are_keys; differ = m.groups.differ; some = m.groups.some };
}

seen : (u : Translation) → MayClimb u → u.ledger.greatest_seen ≤ u.ledger.frontier
seen u m = let l = m.top in omega arith

-- the pages are those of the groups behind the frontier
pages_behind : (c : Core) (u : Translation) → Kept c u → MayClimb u → BehindKept c u.ledger
pages_behind c u h m =
    subst (λ (gs : List keys.Group). PagesKept u.ledger.standing (entry_of u.ledger) c.pages
    (names_after u.ledger.frontier gs)) (pending_mended u.ledger m.top) h.ledger_kept.pages

-- One group

within_group : (g : keys.Group) (j : ℕ) (e : Entry) → entry_in g j ≡ Some e → j < length g
within_group g j e is = by (slice_get g j) refl is
  where
    by : (o : Option Item) → slice_get g j ≡ o →
        option_map (λ (item : Item). record { item = item; size = length g }) o ≡ Some e → j < length g
    by None at f = cc
    by (Some x) at f = slice_get_within g j x at

made_kept : (c : Core) (u : Translation) (number : ℕ) → Kept c u → MayClimb u →
    (w : IsNextWhole c u.ledger number) →
    Kept (made c w.pages.front w.pages.rest) (raised_to u (suc u.ledger.frontier))
made_kept c u number h m w = record {
  numbers = h.numbers;
  blocks = h.blocks;
  dies = h.dies;
  fly = h.fly;
  ledger_kept = ledger_next c u.ledger number h.ledger_kept m.top
      (subst (λ (n : Numbers). GroupsRight n u.ledger) (sym h.numbers) m.groups) w;
  work = work_more c.mending (drop c.repaired c.lost) c.step c.content c.next_mark u.work u.ledger
      (at_frontier u.ledger (suc u.ledger.frontier)) m.mended
      (no_repair_kept u.ledger c.step c.content u.work.step h.work.step_is m.no_repair) refl (climbs_on u m).top
      (λ name e is. is) (λ name p is. (p, is)) h.work;
  plan = h.plan;
  claims = h.claims;
  pins = pins_settle u.ledger (entry_of u.ledger) w.group w.pages.front w.stand
      (λ j e is. within_group w.group j e (sym (entry_next u.ledger w.group j (seen u m) w.there) ∙ is))
      c.pins u.pins h.pins;
  differ = differ_mapped (moved_all w.pages.front) (λ x. refl) (λ x. refl) c.pins h.differ;
  reads = λ die tag index place e.
      let r = h.reads die tag index place e in (
        moved_all w.pages.front r.0,
        found_mapped (is_pin_of tag index) (moved_all w.pages.front) (λ x. refl) c.pins
            ∙ ap (option_map (moved_all w.pages.front)) r.1,
        still_wanted w.pages.front place r.0 r.2,
      );
  step_reads = h.step_reads;
  readers = λ e. absurd (true≢false (sym m.mended ∙ e));
}

pub whole_behind : (c : Core) (u : Translation) (number : ℕ) → Kept c u → MayClimb u → front_written c ≡ Some number →
    IsNextWhole c u.ledger number
whole_behind c u number h m e = next_whole c u.ledger (pages_behind c u h m) (seen u m) m.groups.some number e

-- one group more is durable
pub front_kept_on : (c : Core) (u : Translation) (number : ℕ) → Kept c u → MayClimb u → front_written c ≡ Some number →
    Kept (group_durable c number) (raised_to u (suc u.ledger.frontier))
front_kept_on c u number h m e =
    let w = whole_behind c u number h m e in
    subst (λ (z : Core). Kept z (raised_to u (suc u.ledger.frontier)))
    (sym (made_is c u.ledger number h.ledger_kept w)) (made_kept c u number h m w)

-- The climb

ends_there : (c : Core) (u : Translation) → Kept c u → MayClimb u → front_written c ≡ None → climbed_of u ≡ u
ends_there c u h m e =
    let still : climbed_to u ≡ u.ledger.frontier =
    none_whole c u.ledger (pages_behind c u h m) (seen u m) m.groups.some e in
    let same = pins_settled u.ledger (entry_of u.ledger) c.pins u.pins h.pins in
    ap (raised_to u) still ∙ (λ i. record u { pins = same i })

raised_twice : (u : Translation) (a b : ℕ) → a ≤ b → raised_to (raised_to u a) b ≡ raised_to u b
raised_twice u a b le = let same = pins_twice u.ledger a b u.pins le in λ i. record u {
  ledger = at_frontier u.ledger b;
  pins = same i;
}

climbs_more : (c : Core) (u : Translation) (number : ℕ) → Kept c u → MayClimb u → front_written c ≡ Some number →
    climbed_of (raised_to u (suc u.ledger.frontier)) ≡ climbed_of u
climbs_more c u number h m e =
    raised_twice u (suc u.ledger.frontier)
    (climbed (is_standing u.ledger) (suc u.ledger.frontier)
    (drop (suc u.ledger.frontier - u.ledger.greatest_seen) u.ledger.groups))
    (climb (is_standing u.ledger) (suc u.ledger.frontier)
    (drop (suc u.ledger.frontier - u.ledger.greatest_seen) u.ledger.groups)).from
    ∙ ap (raised_to u) to
  where
    w : IsNextWhole c u.ledger number
    w = whole_behind c u number h m e

    one_more : (a b : ℕ) → a ≤ b → suc b - a ≡ suc (b - a)
    one_more a b le = omega arith

    next_behind : drop (suc u.ledger.frontier - u.ledger.greatest_seen) u.ledger.groups ≡ w.groups
    next_behind = ap (λ (k : ℕ). drop k u.ledger.groups) (one_more u.ledger.greatest_seen u.ledger.frontier (seen u m))
        ∙ (drop_next u.ledger.groups (u.ledger.frontier - u.ledger.greatest_seen) w.group w.groups w.is).0

    to : climbed (is_standing u.ledger) (suc u.ledger.frontier)
        (drop (suc u.ledger.frontier - u.ledger.greatest_seen) u.ledger.groups) ≡ climbed_to u
    to = ap (climbed (is_standing u.ledger) (suc u.ledger.frontier)) next_behind
        ∙ sym (goes_on c u.ledger number w)

no_more : (c : Core) (u : Translation) → Kept c u → MayClimb u → front_written c ≡ None →
    Kept (settled c) (climbed_of u)
no_more c u h m e =
    subst (λ (z : Core × Translation). Kept z.0 z.1)
    (λ i. (sym (settled_end (length c.pages) c e) i, sym (ends_there c u h m e) i)) h

one_more : (c : Core) (u : Translation) (number : ℕ) → Kept c u → MayClimb u → front_written c ≡ Some number →
    Kept (settled (group_durable c number)) (climbed_of (raised_to u (suc u.ledger.frontier))) →
    Kept (settled c) (climbed_of u)
one_more c u number h m e k =
    subst (λ (z : Core × Translation). Kept z.0 z.1)
    (λ i. (settled_step c number e i, climbs_more c u number h m e i)) k

settles : (n : ℕ) (c : Core) (u : Translation) → length c.pages ≤ n → Kept c u → MayClimb u →
    Kept (settled c) (climbed_of u)
settles zero c u long h m =
    ⊎_elim (λ e. no_more c u h m e)
    (λ (e : (number : ℕ) × (front_written c ≡ Some number)).
    let l = fewer c e.0 e.1 in absurd (none (length (group_durable c e.0).pages) (length c.pages) l long))
    (written_or_not (front_written c))
  where
    none : (a b : ℕ) → a < b → b ≤ 0 → ⊥
    none a b l e = omega arith
settles (suc n) c u long h m =
    ⊎_elim
    (λ e. no_more c u h m e)
    (λ (e : (number : ℕ) × (front_written c ≡ Some number)). one_more c u e.0 h m e.1
    (settles n (group_durable c e.0) (raised_to u (suc u.ledger.frontier))
    (less (length (group_durable c e.0).pages) (length c.pages) n (fewer c e.0 e.1) long)
    (front_kept_on c u e.0 h m e.1) (climbs_on u m)))
    (written_or_not (front_written c))
  where
    less : (a b n : ℕ) → a < b → b ≤ suc n → a ≤ n
    less a b n e l = omega arith

-- all groups at the front whose pages are written are durable, and the frontier is behind them
pub all_settled : (c : Core) (u : Translation) → Kept c u → MayClimb u → Kept (settled c) (climbed_of u)
all_settled c u h m = settles (length c.pages) c u (omega arith) h m
