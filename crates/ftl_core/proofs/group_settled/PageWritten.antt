-- The page of a group is written, before any group is durable by that.
use Rattle.ftl_core.proofs.Common.{BlockState, BlocksKept, Core, Describes, DieRow, Entry, GroupPage, IsFilling, IsIn}
use Rattle.ftl_core.proofs.Common.{IsLastRepair, IsPageAt, Kept, List, Mended, Mending, MendingRight, Name, None}
use Rattle.ftl_core.proofs.Common.{Numbers, OpenBlock, Option, Pending, Place, Repairing, Some, Tag, Translation}
use Rattle.ftl_core.proofs.Common.{Unmarked, Valid, WorkKept, ap, arith, at_spot, book, drop, false, flies_name}
use Rattle.ftl_core.proofs.Common.{get_drop, is_mended, last_number, length, name_of, name_self, names_after}
use Rattle.ftl_core.proofs.Common.{names_pending, next_place, none_some, page_within, page_written, refl, repairs_in}
use Rattle.ftl_core.proofs.Common.{slice_get, slice_set, spot_at, step_after, subst, suc, sym, true, two_ways}
use Rattle.ftl_core.proofs.Common.{with_live, ℕ, ⊎_elim, ◌+◌, ◌-◌, ◌<◌, ◌∙◌, ◌≡◌, ◌≤◌}
use Rattle.ufs_spec.specs.Disk as disk
use Rattle.ufs_spec.specs.Disk.{programmed}
use Rattle.ufs_spec.specs.Keys as keys
use Rattle.ufs_spec.specs.Translation.{Step}
use Rattle.power_loss.proofs.books.FrontierClimbs.{in_group}
use Rattle.power_loss.proofs.books.PagesByName.{at_most}
use Rattle.block_table.specs.declared.BlockState.TheVariants as state
use Rattle.block_table.specs.declared.rows.Flight.TheVariants as flight
use Rattle.ftl_core.proofs.job_ended.ChangeParts.{blocks_on, blocks_put, closed_fills, elsewhere, filling_kept}
use Rattle.ftl_core.proofs.job_ended.ChangeParts.{page_ends, states_with}
use Rattle.ftl_core.proofs.job_taken.Flown.{die_within, dies_put, reads_over, step_reads_over}
use Rattle.ftl_core.proofs.job_ended.JobsOver.{filling_on, filling_over}
use Rattle.ftl_core.proofs.group_settled.PageStands.{IsPending, fly_written, is_pending, ledger_written, stands_on}
use Rattle.ftl_core.proofs.group_settled.PageStands.{with_page, writers_fly}
use Rattle.ftl_core.proofs.look_and_accept.MoreGroups.{work_more}
use Rattle.ftl_core.proofs.look_and_accept.Numbers.{IsRepair, behind, beside_none, pending_mended, step_stays}
use Rattle.ftl_core.proofs.pages.NamesBehind.{names_in}

-- the page stands, and the frontier has not climbed yet
abbrev pub with_group_page : Translation → Place → Tag → List ℕ → Translation
with_group_page t p tag body = record t {
  disk = programmed t.numbers.pages t.disk p (GroupPage tag body);
  ledger = with_page t.ledger (name_of tag) p;
  work = record t.work { step = step_after (name_of tag) t.work.step };
}

-- a page of a group is in flight to the next page of the die's open block
pub record IsGroupFlight (c : Core) (t : Translation) (die : ℕ) (b : DieRow) (o : OpenBlock) (tag : Tag)
    (body : List ℕ) : Type 0 where
  pub there : slice_get c.rows die ≡ Some b
  pub filling : b.filling ≡ Some o
  pub flies : t.disk.flights die ≡ Some (disk.Programming (next_place die o) (GroupPage tag body))
  pub job : b.flight ≡ Some (flight.Group (next_place die o) tag.number tag.index)
  pub beside : repairs_in c.step ≡ 0

-- Which page it is

-- it does not stand yet
pub flown_new : (c : Core) (t : Translation) (die : ℕ) (b : DieRow) (o : OpenBlock) (tag : Tag) (body : List ℕ) →
    Kept c t → IsGroupFlight c t die b o tag body →
    t.ledger.standing tag.number tag.index ≡ None
flown_new c t die b o tag body k f = k.fly.new die tag.number tag.index
    (record { book = b; there = f.there; place = next_place die o; job = f.job })

-- so its group is above the frontier
flown_above : (c : Core) (t : Translation) (die : ℕ) (b : DieRow) (o : OpenBlock) (tag : Tag) (body : List ℕ) →
    Describes c t → IsGroupFlight c t die b o tag body → t.ledger.frontier < tag.number
flown_above c t die b o tag body h f =
    let known = h.valid.flights.known die (next_place die o) tag body f.flies in
    ⊎_elim
    (λ l. let s = h.valid.frontier.stand tag.number tag.index _ l known in
    absurd (none_some s.0 (sym (flown_new c t die b o tag body h.kept f) ∙ s.1)))
    (λ l. l)
    (at_most tag.number t.ledger.frontier)

-- until the device is mended no group is above the frontier but the one that is being repaired
none_above : (t : Translation) → Valid t → (IsRepair t.work.step → ⊥) → is_mended t.work.mending ≡ false →
    t.ledger.frontier ≡ last_number (book t)
none_above t v none e = by t.work.mending v.mending e
  where
    by : (m : Mending) → MendingRight (book t) t.disk t.ledger t.work.plan t.work.step m → is_mended m ≡ false →
        t.ledger.frontier ≡ last_number (book t)
    by (Unmarked fence lost) r e =
        let long = ap (λ (gs : List keys.Group). length gs) r.none_new in
        let still = r.still in
        omega (arith, long, still)
    by (Repairing left) r e =
        ⊎_elim (λ f. f)
        (λ (f : (suc t.ledger.frontier ≡ last_number (book t)) × IsLastRepair (book t) t.work.step).
        absurd (none (_, f.1.0, f.1.1, f.1.2))) r.more.under_way
    by Mended r e = cc

-- so the device is mended
pub flown_mended : (c : Core) (t : Translation) (die : ℕ) (b : DieRow) (o : OpenBlock) (tag : Tag) (body : List ℕ) →
    Describes c t → IsGroupFlight c t die b o tag body → is_mended t.work.mending ≡ true
flown_mended c t die b o tag body h f =
    let known = h.valid.flights.known die (next_place die o) tag body f.flies in
    let above = flown_above c t die b o tag body h f in
    let within = page_within (book t) tag.number tag.index _ known in
    ⊎_elim (λ e. e)
    (λ e.
    let last = none_above t h.valid
    (beside_none t.ledger c.step c.content t.work.step h.kept.work.step_is f.beside) e in
    absurd (omega (arith, above, within, last)))
    (two_ways (is_mended t.work.mending))

-- a page above the frontier is pending
pub pending_of : (c : Core) (t : Translation) (name : Name) (e : Entry) → Describes c t →
    is_mended t.work.mending ≡ true → t.ledger.frontier < name.number → IsPageAt (book t) name.number name.index e →
    IsPending c t.ledger name
pending_of c t name e h mended above known =
    let seen = h.valid.frontier.above in
    let g = in_group (book t) name.number name.index e (omega (arith, above, seen)) known in
    is_pending c t.ledger name h.kept.ledger_kept.pages
    (subst (λ (gs : List keys.Group). IsIn name (names_after t.ledger.frontier gs))
    (sym (pending_mended t.ledger (h.kept.work.repaired mended)))
    (names_in t.ledger.frontier (behind t.ledger) name (record {
      above = above;
      group = g.0;
      is = get_drop t.ledger.groups (t.ledger.frontier - t.ledger.greatest_seen) (name.number - t.ledger.frontier - 1)
          ∙ ap (slice_get t.ledger.groups) (index t.ledger.greatest_seen t.ledger.frontier name.number seen above)
          ∙ g.1;
      index = g.2;
    })))
  where
    index : (top frontier n : ℕ) → top ≤ frontier → frontier < n → frontier - top + (n - frontier - 1) ≡ n - top - 1
    index top frontier n low l = omega arith

-- so is the page in flight
pub flown_pending : (c : Core) (t : Translation) (die : ℕ) (b : DieRow) (o : OpenBlock) (tag : Tag) (body : List ℕ) →
    Describes c t → IsGroupFlight c t die b o tag body → IsPending c t.ledger (name_of tag)
flown_pending c t die b o tag body h f =
    pending_of c t (name_of tag) _ h (flown_mended c t die b o tag body h f) (flown_above c t die b o tag body h f)
    (h.valid.flights.known die (next_place die o) tag body f.flies)

-- All but blocks

-- the page stands, and its block has this state
abbrev pub written_at : Translation → ℕ → OpenBlock → Tag → List ℕ → disk.BlockState → Translation
written_at t die o tag body x = record (with_group_page t (next_place die o) tag body) {
  disk = record (programmed t.numbers.pages t.disk (next_place die o) (GroupPage tag body)) {
    blocks = at_spot t.disk.blocks (spot_at die o.block) x;
  };
}

module _ (c : Core) (t : Translation) (die : ℕ) (b : DieRow) (o : OpenBlock) (tag : Tag) (body : List ℕ) (j : ℕ)
    (p : Pending)
    (h : Describes c t) (f : IsGroupFlight c t die b o tag body) (at : slice_get c.pages j ≡ Some p)
    (named : slice_get (names_pending t.ledger) j ≡ Some (name_of tag)) (mended : is_mended t.work.mending ≡ true) where
  -- the page is written there
  abbrev pub page_there : Core
  page_there = record c {
    pages = slice_set c.pages j (record p { written = Some (next_place die o) });
    live = with_live c.live (next_place die o) true;
  }

  -- what is kept, with these states of blocks and this open block of the die
  kept_written : (x : disk.BlockState) (states : List BlockState) (filling : Option OpenBlock) →
      BlocksKept t.numbers (at_spot t.disk.blocks (spot_at die o.block) x) t.disk.vacancies states →
      IsFilling t.numbers (at_spot t.disk.blocks (spot_at die o.block) x) die filling →
      Kept
      (record c {
        states = states;
        rows = slice_set c.rows die (record { filling = filling; flight = None });
        pages = slice_set c.pages j (record p { written = Some (next_place die o) });
        live = with_live c.live (next_place die o) true;
      })
      (written_at t die o tag body x)
  kept_written x states filling blocks is_open = record {
    numbers = h.kept.numbers;
    blocks = blocks;
    dies = dies_put t.numbers t.disk.blocks (at_spot t.disk.blocks (spot_at die o.block) x) t.disk.flights
        c.step c.rows die b (record { filling = filling; flight = None }) None h.kept.dies f.there
        (elsewhere t.disk.blocks die o.block x) (record { filling = is_open; job = tt });
    fly = fly_written t.ledger.standing t.disk.flights die c.rows filling (name_of tag) (next_place die o) h.kept.fly
        (writers_fly c t h.kept) (ap (flies_name (name_of tag)) f.flies ∙ name_self (name_of tag));
    ledger_kept = ledger_written c.numbers c.places c.pages c.frontier c.last t.ledger (name_of tag)
        (next_place die o) j p h.kept.ledger_kept (flown_new c t die b o tag body h.kept f) at named;
    work = subst (λ (s : Option Step). WorkKept c.mending (drop c.repaired c.lost) c.step c.content c.next_mark
        (record t.work { step = s }) (with_page t.ledger (name_of tag) (next_place die o)))
        (sym (step_stays t.ledger c.step c.content t.work.step (name_of tag) h.kept.work.step_is
        (flown_new c t die b o tag body h.kept f) f.beside))
        (work_more c.mending (drop c.repaired c.lost) c.step c.content c.next_mark t.work t.ledger
        (with_page t.ledger (name_of tag) (next_place die o)) mended f.beside refl (h.kept.work.repaired mended)
        (λ name e is. is) (stands_on t.ledger.standing (name_of tag) (next_place die o)) h.kept.work);
    plan = h.kept.plan;
    claims = h.kept.claims;
    pins = h.kept.pins;
    differ = h.kept.differ;
    reads = reads_over t.disk.flights die c.pins h.kept.reads;
    step_reads = step_reads_over t.disk.flights die c.step h.kept.step_reads;
    readers = h.kept.readers;
  }

  -- the group's page is written, and the die's open block has one page less, or is closed
  pub page_kept : Kept (page_written page_there die b (Some o)) (with_group_page t (next_place die o) tag body)
  page_kept =
      page_ends page_there die b o t.numbers.pages
      (written_at t die o tag body) (ap (λ (n : Numbers). n.pages) h.kept.numbers)
      (h.valid.blocks.filling (spot_at die o.block) o.next is_open.1)
      (kept_written (disk.Filling (o.next + 1)) c.states (Some (record { block = o.block; next = o.next + 1 }))
      (blocks_on t.numbers t.disk.blocks t.disk.vacancies c.states (spot_at die o.block) o.next
      (o.next + 1) is_open.1 h.kept.blocks)
      (filling_on t.numbers t.disk.blocks die o (o.next + 1) is_open))
      (kept_written disk.Closed (states_with c die o.block state.Closed) None
      (blocks_put c t die o.block disk.Closed h.kept (die_within c t die b h.kept f.there) is_open.0)
      (filling_over t.numbers t.disk.blocks die o disk.Closed closed_fills is_open))
    where
      is_open : IsFilling t.numbers t.disk.blocks die (Some o)
      is_open = filling_kept c t die b (Some o) h.kept f.there f.filling
