-- A group of pages with keys of their own is accepted: each page waits for its rest, if the rest is still to be read.
use Rattle.ftl_core.proofs.Common.{Accept, All, AreClaimedBy, Brought, Claimed, Core, Describes, FromPage, Group}
use Rattle.ftl_core.proofs.Common.{IsAllowedMove, IsIn, IsPartBrought, KnowsLive, List, None, Option, PagesKept}
use Rattle.ftl_core.proofs.Common.{Pending, RestKept, RestsKept, Some, Translation, all_keep, ap, arith, below, book}
use Rattle.ftl_core.proofs.Common.{contained_in, drop, empty_claim, entry_of, filter-append, filter_in, filter_map}
use Rattle.ftl_core.proofs.Common.{filter_map-append, get_there, greatest_number, grown, in_contained, inl, inr}
use Rattle.ftl_core.proofs.Common.{is_claim_of, laid_move, length, length-below, length-map, map, moved, name_at}
use Rattle.ftl_core.proofs.Common.{new_page, next_number, option_map, page_brought, page_grows, refl, replicate}
use Rattle.ftl_core.proofs.Common.{rest_kept, same_Some, slice_get, slice_get-map, subst, sym, waiting, waits, ℕ}
use Rattle.ftl_core.proofs.Common.{⊎_elim, ◌++◌, ◌<◌, ◌∙◌, ◌≡◌, ◌≤◌}
use Rattle.std.proofs.Common.{filter, not}
use Rattle.std.proofs.lemmas.Option.{slice_get_past}
use Rattle.ufs_spec.proofs.Facts.{leb-true}
use Rattle.ufs_spec.specs.Ledger as ledger
use Rattle.ufs_spec.specs.Plain.{zero_block}
use Rattle.ufs_spec.specs.Translation.{rest_at, rests_of}
use Rattle.power_loss.proofs.ordered_lists.ElementsAndOrders.{in_either, in_left}
use Rattle.power_loss.proofs.pending_groups.DurableInOrder as durable
use Rattle.write_cache.specs.declared.rests.NewPage.{NewPage}
use Rattle.write_cache.specs.declared.rests.Rest as cache
use Rattle.write_cache.specs.Rests.{body_brought, page_of}
use Rattle.ftl_core.specs.Rests.{accepted_pages, pages_brought}
use Rattle.ftl_core.specs.Tells.{IsGroupBrought}
use Rattle.ftl_core.proofs.look_and_accept.BroughtLists.{index_of, mapped_twice, none_behind, pages_by_index}
use Rattle.ftl_core.proofs.look_and_accept.BroughtLists.{rests_by_index, written_before, written_only}
use Rattle.ftl_core.proofs.look_and_accept.BroughtPages.{IsMade, brought_at, made}
use Rattle.ftl_core.proofs.look_and_accept.MoreGroups.{ledger_more, pins_kept_more, rests_more, with_group, work_more}
use Rattle.ftl_core.proofs.rests_owed.RestsGrow.{rest_grows}
use Rattle.ftl_core.proofs.look_and_accept.Numbers.{repairs_mended}
use Rattle.ftl_core.proofs.small_calls.ReadersClaims.{left_beside, zeros_claimed}

-- The pages of the group, in the order of its items

pub brought_pages : (c : Core) (reader claimed : ℕ) (xs : List Brought) →
    AreClaimedBy c reader (replicate claimed zero_block) → length xs ≤ claimed →
    pages_brought c reader xs ≡ filter_map (brought_at c xs reader) (below (length xs))
brought_pages c reader claimed xs claims few =
    ap (filter_map page) (claims ∙ sym (zeros_claimed reader claimed))
    ∙ (mapped_twice page (empty_claim reader) (below claimed)
    ∙ none_behind (brought_at c xs reader) (length xs) claimed few none)
  where
    page : Claimed → Option Pending
    page = page_brought c.pages (next_number c) (map (new_page c) xs)

    none : (i : ℕ) → length xs ≤ i → brought_at c xs reader i ≡ None
    none i l = ap (made_of i) (slice_get-map (new_page c) xs i ∙ nothing i l)
      where
        made_of : ℕ → Option NewPage → Option Pending
        made_of i o = option_map (λ y. page_of (next_number c) (length (map (new_page c) xs))
            (empty_claim reader i) (body_brought c.pages y zero_block) y) o

        nothing : (i : ℕ) → length xs ≤ i → option_map (new_page c) (slice_get xs i) ≡ None
        nothing i l = ap (option_map (new_page c)) (slice_get_past xs i l)

-- What was there

-- pages that come and are not written are not live
none_live : (c : Core) (more : List Pending) → ((q : Pending) → IsIn q more → q.written ≡ None) →
    KnowsLive c.numbers c.places c.pages c.live → KnowsLive c.numbers c.places (c.pages ++ more) c.live
none_live c more none h = record {
  sizes = h.sizes;
  marks = h.marks;
  held = λ p e. ⊎_elim (λ at. inl at) (λ w. inr (written_before c.pages more p w)) (h.held p e);
  lives = λ p at. h.lives p (⊎_elim (λ x. inl x) (λ w. inr (written_only c.pages more p none w)) at);
}

-- The layer

-- what is known of the call
pub record IsBrought (c : Core) (t : Translation) (g : Group) (xs : List Brought) (reader claimed : ℕ) : Type 0 where
  pub units : length c.numbers.units.items ≤ 8
  pub parts : All IsPartBrought xs
  pub short : length xs ≤ 3
  pub claims : AreClaimedBy c reader (replicate claimed zero_block)
  pub brought : IsGroupBrought t g xs
  pub may : IsAllowedMove t (Accept claimed g)

module _ (c : Core) (t : Translation) (g : Group) (xs : List Brought) (reader claimed : ℕ) (h : Describes c t)
    (is : IsBrought c t g xs reader claimed) where
  abbrev New : List Pending
  New = filter_map (brought_at c xs reader) (below (length g))

  -- each of its pages
  each_made : (i : ℕ) → i < length g → IsMade c t g xs reader i
  each_made i l =
      let item = get_there g i l in
      let x = get_there xs i (let e = is.brought.as_many in omega (arith, e, l)) in
      made c t h is.may.0 is.units g is.may.4 (leb-true (ledger.next_number t.ledger) greatest_number is.may.1) xs
      is.parts is.short is.brought reader i item.0 x.0 item.1 x.1

  pages_are : pages_brought c reader xs ≡ New
  pages_are =
      let many = is.brought.as_many in
      let few = is.may.2 in
      brought_pages c reader claimed xs is.claims (omega (arith, many, few))
      ∙ ap (λ (n : ℕ). filter_map (brought_at c xs reader) (below n)) (sym many)

  -- a page of the group by its index
  new_made : (p : Pending) → IsIn p New →
      (i : ℕ) × (m : IsMade c t g xs reader i) × (m.page ≡ p)
  new_made p there =
      let r = index_of (brought_at c xs reader) (length g) p there in
      let m = each_made r.0 r.1 in
      (r.0, m, same_Some m.page p (sym m.there ∙ r.2))

  kept_new : PagesKept t.ledger.standing (entry_of (with_group t.ledger g)) New
      (map (name_at (ledger.next_number t.ledger)) (below (length g)))
  kept_new = pages_by_index t.ledger.standing (entry_of (with_group t.ledger g)) (ledger.next_number t.ledger)
      (brought_at c xs reader) (length g)
      (λ i l. let m = each_made i l in (m.page, m.there, m.kept))

  unwritten : (q : Pending) → IsIn q New → q.written ≡ None
  unwritten q there =
      let m = new_made q there in
      ap (λ (p : Pending). p.written) (sym m.2) ∙ m.1.new

  -- Rests

  rests_are : t.work.rests ++ rests_of t g ≡ filter_map rest_kept (waiting (c.pages ++ New))
  rests_are =
      (λ j. h.rests.are j ++ sym news j)
      ∙ (sym (filter_map-append rest_kept (waiting c.pages) (waiting New))
      ∙ ap (filter_map rest_kept) (sym (filter-append waits c.pages New)))
    where
      news : filter_map rest_kept (waiting New) ≡ rests_of t g
      news = rests_by_index (brought_at c xs reader) (rest_at t g) (length g)
          (λ i l. let m = each_made i l in (m.page, m.there, m.rest))

  rests_kept : RestsKept (moved t (Accept claimed g)) (waiting (c.pages ++ New))
  rests_kept = record {
    are = rests_are;
    laid = laid_move t (Accept claimed g) h.valid h.rests.laid is.may;
    each = λ p rest there e. ⊎_elim
        (λ old. rest_grows (book t) g t.disk.cells p rest (h.rests.each p rest (in_contained (waiting c.pages) old) e))
        (λ new. let m = new_made p (filter_in waits p New new).0 in new_laid p rest m.0 m.1 m.2 e)
        (in_either p (waiting c.pages) (waiting New)
        (subst (IsIn p) (filter-append waits c.pages New)
        (contained_in (waiting (c.pages ++ New)) there)));
    reads = λ die n i place e. in_contained (t.work.rests ++ rests_of t g)
        (in_left (record { name = record { number = n; index = i }; source = FromPage place }) t.work.rests
        (rests_of t g) (contained_in t.work.rests (h.rests.reads die n i place e)));
  }
    where
      new_laid : (p : Pending) (rest : cache.Rest) (i : ℕ) (m : IsMade c t g xs reader i) → m.page ≡ p →
          p.rest ≡ Some rest → RestKept (grown (book t) g) t.disk.cells p rest
      new_laid p rest i m same e =
          subst (λ (q : Pending). RestKept (grown (book t) g) t.disk.cells q rest) same
          (m.laid rest (ap (λ (q : Pending). q.rest) same ∙ e))

  -- All of it

  accepts : Describes (record (accepted_pages c reader xs) { pages = c.pages ++ New }) (moved t (Accept claimed g))
  accepts = record {
    valid = all_keep t (Accept claimed g) h.valid is.may;
    live = none_live c New unwritten h.live;
    copies = h.copies;
    rests = rests_kept;
    kept = record {
      numbers = h.kept.numbers;
      blocks = h.kept.blocks;
      dies = h.kept.dies;
      fly = h.kept.fly;
      ledger_kept = ledger_more c t g New h is.may.0 (durable.accept t (Accept claimed g) h.valid is.may g refl).0
          kept_new;
      work = rests_more c.mending (drop c.repaired c.lost) c.step c.content c.next_mark t.work (with_group t.ledger g)
          (t.work.rests ++ rests_of t g)
          (work_more c.mending (drop c.repaired c.lost) c.step c.content c.next_mark t.work t.ledger
          (with_group t.ledger g) is.may.0 (repairs_mended c t h is.may.0) refl (h.kept.work.repaired is.may.0)
          (λ name e known. page_grows (book t) g name.number name.index e known) (λ name p stands. (p, stands))
          h.kept.work);
      plan = h.kept.plan;
      claims =
          let both = left_beside reader c.claims (filter (λ claim. not (is_claim_of reader claim)) c.claims) refl in
          let mine = ap (λ (claims : List Claimed). length claims) (is.claims ∙ sym (zeros_claimed reader claimed)) in
          let some = length-map (below claimed) (empty_claim reader) in
          let long = length-below claimed in
          let all = h.kept.claims in
          omega (arith, both, mine, some, long, all);
      pins = pins_kept_more t g c.pins t.pins h.kept.pins;
      differ = h.kept.differ;
      reads = h.kept.reads;
      step_reads = h.kept.step_reads;
      readers = h.kept.readers;
    };
  }

  accepts_pages : Describes (accepted_pages c reader xs) (moved t (Accept claimed g))
  accepts_pages = subst
      (λ (ps : List Pending). Describes (record (accepted_pages c reader xs) { pages = c.pages ++ ps })
      (moved t (Accept claimed g))) (sym pages_are) accepts

pub pages_told : (c new : Core) (xs : List Brought) (reader : ℕ) → length c.numbers.units.items ≤ 8 →
    All IsPartBrought xs → length xs ≤ 3 → new ≡ accepted_pages c reader xs →
    (t : Translation) (g : Group) (claimed : ℕ) → Describes c t → AreClaimedBy c reader (replicate claimed zero_block) →
    IsGroupBrought t g xs → IsAllowedMove t (Accept claimed g) → Describes new (moved t (Accept claimed g))
pages_told c new xs reader units parts short made_so t g claimed h claims brought may =
    subst (λ (x : Core). Describes x (moved t (Accept claimed g))) (sym made_so)
    (accepts_pages c t g xs reader claimed h
    (record { units = units; parts = parts; short = short; claims = claims; brought = brought; may = may }))
