-- The end of a read for the rest of a page: the right page brings the rest of all pages that wait for it, and any other
-- changes nothing, so that it is owed again.
use Rattle.ftl_core.proofs.Common.{Contains, Core, Describes, DieRow, EndJob, Ending, ForRest, FromPage, IsAnother}
use Rattle.ftl_core.proofs.Common.{IsBodyOf, IsCell, IsEndingOf, IsIn, IsNumbered, IsReadAfter, Kept, List, Looked}
use Rattle.ftl_core.proofs.Common.{MayEnd, Name, None, OnPage, Option, Outcome, OwedSource, Page, PageKept, Pending}
use Rattle.ftl_core.proofs.Common.{Place, ReadRight, ReadWrong, RestsKept, Some, Tag, Translation, and_from, and_parts}
use Rattle.ftl_core.proofs.Common.{ap, at_die, at_die_cases, awaited_read, awaits, book, contained_in, drop, end_flight}
use Rattle.ftl_core.proofs.Common.{entry_of, eq-eqb, eqb-true, false, false≢true, filter, filter_in, filter_map}
use Rattle.ftl_core.proofs.Common.{find_some, found_in, has_at, in_contained, in_mapped, is_named, is_read, kept_in}
use Rattle.ftl_core.proofs.Common.{laid_move, look_of_source, name_at, name_cases, none_some, not, own_name, rest_kept}
use Rattle.ftl_core.proofs.Common.{rest_look, rest_of_name, rests_filled, same_Some, same_name, slice_get, source_kept}
use Rattle.ftl_core.proofs.Common.{subst, sym, true, waiting, waits, with_rest, with_row, ℕ, ⊎_elim, ◌==◌, ◌∙◌, ◌≡◌}
use Rattle.ftl_core.proofs.Common.{◌≢◌}
use Rattle.std.proofs.Common.{find, is_some}
use Rattle.ufs_spec.specs.Disk as disk
use Rattle.ufs_spec.specs.Moves.{rests_without}
use Rattle.ufs_spec.specs.Translation as layer
use Rattle.ufs_spec.specs.declared.flash.Outcome.TheVariants as outcome
use Rattle.power_loss.specs.LaidRests.{HoldsBelow, RestsLaid}
use Rattle.power_loss.proofs.laid_rests.LaidContents.{laid_page}
use Rattle.write_cache.specs.declared.rests.OwedSource.TheVariants as owed
use Rattle.write_cache.specs.declared.rests.Rest as cache
use Rattle.ftl_core.specs.Gives.{IsBodyLooked, IsRestRead}
use Rattle.ftl_core.proofs.job_ended.ReadsEnded.{idle_kept}
use Rattle.ftl_core.proofs.job_ended.ReadsGiven.{IsPageOf, right_body, wrong_body}
use Rattle.ftl_core.proofs.look_and_accept.MoreGroups.{rests_more}
use Rattle.ftl_core.proofs.pages.NamesBehind.{name_is}
use Rattle.ftl_core.proofs.rests_owed.RestsFilled.{filled_kept}
use Rattle.ftl_core.proofs.rests_owed.RestsLeft.{filled_waits, left_rests}
use Rattle.ftl_core.proofs.rests_owed.RestsNamed.{IsRestOfPage, all_rests, held_at, one_page, rest_page}
use Rattle.ftl_core.proofs.rests_owed.RestsStay.{ends_rests}

-- what is kept once a read ended describes the layer in which it did, and so do the rests
pub record IsEndKept (t : Translation) (after : Core) : Type 0 where
  pub kept : Kept after t
  pub rests : RestsKept t (waiting after.pages)

end_as : (t : Translation) (after other : Core) → after ≡ other → IsEndKept t other → IsEndKept t after
end_as t after other e h = subst (IsEndKept t) (sym e) h

module _ (c : Core) (t : Translation) (die number index : ℕ) (b : DieRow) (place : Place) (h : Describes c t)
    (there : slice_get c.rows die ≡ Some b)
    (flies : t.disk.flights die ≡ Some (disk.Reading (ForRest number index) place)) where
  abbrev name : Name
  name = record { number = number; index = index }

  abbrev idle_core : Core
  idle_core = with_row c die record { filling = b.filling; flight = None }

  owed_rest : Contains t.work.rests (record { name = name; source = FromPage place })
  owed_rest = h.rests.reads die number index place flies

  -- the page that it is read for
  its : IsRestOfPage c.pages (record { name = name; source = FromPage place })
  its = rest_page c.pages (record { name = name; source = FromPage place })
      (subst (IsIn (record { name = name; source = FromPage place })) (all_rests c t h)
      (contained_in t.work.rests owed_rest))

  at : (k : ℕ) × (slice_get c.pages k ≡ Some its.page)
  at = has_at c.pages its.page its.there

  found : find (is_named number index) c.pages ≡ Some its.page
  found =
      let named : is_named number index its.page ≡ true =
      and_from (its.page.number == number) (its.page.index == index)
      (eq-eqb its.page.number number (sym (ap (λ (n : Name). n.number) its.name)))
      (eq-eqb its.page.index index (sym (ap (λ (n : Name). n.index) its.name))) in
      let r = find_some (is_named number index) c.pages at.0 its.page at.1 named in
      let f = found_in (is_named number index) c.pages r.0 r.1 in
      let e = and_parts (r.0.number == number) (r.0.index == index) f.1 in
      let own : own_name r.0 ≡ own_name its.page =
      name_is (own_name r.0) (eqb-true r.0.number number e.0) (eqb-true r.0.index index e.1) ∙ its.name in
      r.1 ∙ ap (λ (p : Pending). Some p) (one_page c t h r.0 its.page f.0 its.there own)

  -- it is read from the page of a name at this place
  source_is : (s : OwedSource) → source_kept s ≡ FromPage place → (n : Name) × (s ≡ owed.Page n place)
  source_is (owed.Page n p) e = (n, ap (owed.Page n) (same p e))
    where
      same : (p : Place) → FromPage p ≡ FromPage place → p ≡ place
      same p e = cc
  source_is (owed.Slot n) e = cc

  source : (n : Name) × (its.owed.source ≡ owed.Page n place)
  source = source_is its.owed.source (sym its.source)

  looks : rest_look its.page.rest ≡ OnPage source.0 place
  looks = ap rest_look its.is ∙ ap (λ (s : OwedSource). look_of_source s) source.1

  held : PageKept t.ledger.standing (entry_of t.ledger) its.page (own_name its.page)
  held = held_at c t h at.0 its.page at.1

  holds : HoldsBelow (book t) t.disk.cells (own_name its.page) its.page.key place
  holds = laid_page t (record { name = own_name its.page; source = source_kept its.owed.source }) place
      (record { item = record { key = its.page.key; body = held.body }; size = its.page.size }) h.valid h.rests.laid
      (subst (λ (rests : List layer.Rest). Contains rests
      (record { name = own_name its.page; source = source_kept its.owed.source })) (sym (all_rests c t h))
      (in_contained (filter_map rest_kept c.pages)
      (in_mapped rest_kept its.page c.pages its.there (ap (rest_of_name (own_name its.page)) its.is))))
      (sym its.source) held.entry

  page_there : IsPageOf t.disk.cells place its.page.key source.0.number
  page_there = record {
    tag = holds.tag;
    body = holds.body;
    there = holds.there;
    key = holds.key;
    number = numbered holds.tag holds.body holds.there;
  }
    where
      numbered : IsNumbered t.disk.cells (OnPage source.0 place)
      numbered = subst (IsNumbered t.disk.cells) (ap look_of_source source.1)
          (h.rests.each its.page its.owed
          (in_contained (waiting c.pages) (kept_in waits its.page c.pages its.there (ap is_some its.is))) its.is).numbered

  -- What the read gives

  looked : (page : Page) (body : Option (List ℕ)) →
      IsRestRead (find (is_named number index) c.pages) (outcome.Read page) body →
      IsBodyOf page its.page.key source.0.number body
  looked page body gives = subst (λ (l : Looked). IsBodyLooked page its.page.key l body) looks
      (subst (λ (p : Option Pending). IsRestRead p (outcome.Read page) body) found gives)

  right_given : (page : Page) (body : Option (List ℕ)) → IsCell page (t.disk.cells place) →
      IsRestRead (find (is_named number index) c.pages) (outcome.Read page) body → body ≡ Some page_there.body
  right_given page body cell gives =
      right_body page t.disk.cells place its.page.key source.0.number body page_there cell (looked page body gives)

  wrong_given : (page : Page) (body : Option (List ℕ)) → IsAnother page (t.disk.cells place) →
      IsRestRead (find (is_named number index) c.pages) (outcome.Read page) body → body ≡ None
  wrong_given page body other gives =
      wrong_body page t.disk.cells place its.page.key source.0.number body page_there other (looked page body gives)

  -- The wrong end

  wrong_end : MayEnd t.disk die (Some (disk.Reading (ForRest number index) place)) ReadWrong →
      IsEndKept (end_flight t die (Some (disk.Reading (ForRest number index) place)) ReadWrong) idle_core
  wrong_end may = record {
    kept = idle_kept c t die b h.kept there;
    rests = ends_rests t (waiting c.pages) die ReadWrong (Some (disk.Reading (ForRest number index) place)) h.valid
        h.rests flies may tt;
  }

  -- The right end

  abbrev filled_core : Core
  filled_core = record idle_core { pages = rests_filled name page_there.body c.pages }

  left_is : waiting (rests_filled name page_there.body c.pages) ≡ filter (λ p. not (awaits name p)) (waiting c.pages)
  left_is = filled_waits name page_there.body c.pages

  abbrev rest_at : ℕ → ℕ → Place → layer.Rest
  rest_at m j q = record { name = record { number = m; index = j }; source = FromPage q }

  -- another read in flight is of a rest that is left
  reads_left : (e m j : ℕ) (q : Place) →
      at_die t.disk.flights die None e ≡ Some (disk.Reading (ForRest m j) q) →
      Contains (rests_without name t.work.rests)
      (record { name = record { number = m; index = j }; source = FromPage q })
  reads_left e m j q is = ⊎_elim
      (λ (k : (e ≡ die) × (at_die t.disk.flights die None e ≡ None)). absurd (none_some _ (sym k.1 ∙ is)))
      (λ (k : (e ≢ die) × (at_die t.disk.flights die None e ≡ t.disk.flights e)).
      let job : t.disk.flights e ≡ Some (disk.Reading (ForRest m j) q) = sym k.1 ∙ is in
      let there = contained_in t.work.rests (h.rests.reads e m j q job) in
      in_contained (rests_without name t.work.rests)
      (kept_in (λ (rest : layer.Rest). not (same_name (awaited_read rest) name)) (rest_at m j q) t.work.rests there
      (⊎_elim
      (λ (x : (same_name (name_at m j) name ≡ true) × (name_at m j ≡ name)).
      absurd (k.0 (one_die e m j q job there x.1)))
      (λ (x : (same_name (name_at m j) name ≡ false) × (name_at m j ≢ name)). ap not x.0)
      (name_cases (name_at m j) name))))
      (at_die_cases t.disk.flights die None e)
    where
      same_place : (p : Place) → FromPage p ≡ FromPage place → p ≡ place
      same_place p e = cc

      one_die : (e m j : ℕ) (q : Place) → t.disk.flights e ≡ Some (disk.Reading (ForRest m j) q) →
          IsIn (rest_at m j q) t.work.rests → name_at m j ≡ name → e ≡ die
      one_die e m j q job there same =
          let other = rest_page c.pages (rest_at m j q) (subst (IsIn (rest_at m j q)) (all_rests c t h) there) in
          let page : other.page ≡ its.page = one_page c t h other.page its.page other.there its.there
          (sym other.name ∙ same ∙ its.name) in
          let rest : other.owed ≡ its.owed = same_Some other.owed its.owed
          (sym other.is ∙ ap (λ (p : Pending). p.rest) page ∙ its.is) in
          let at = same_place q (other.source ∙ ap (λ (r : cache.Rest). source_kept r.source) rest ∙ sym its.source) in
          sym (h.valid.reads.at_home e (ForRest m j) q job) ∙ ap (λ (p : Place). p.die) at
          ∙ h.valid.reads.at_home die (ForRest number index) place flies

  right_end : MayEnd t.disk die (Some (disk.Reading (ForRest number index) place)) ReadRight →
      IsEndKept (end_flight t die (Some (disk.Reading (ForRest number index) place)) ReadRight) filled_core
  right_end may = record {
    kept = record {
      numbers = k.numbers;
      blocks = k.blocks;
      dies = k.dies;
      fly = k.fly;
      ledger_kept = record {
        frontier = k.ledger_kept.frontier;
        last_given = k.ledger_kept.last_given;
        pages = filled_kept c t h name place page_there.tag page_there.body page_there.there owed_rest;
        keys = k.ledger_kept.keys;
        places = k.ledger_kept.places;
      };
      work = rests_more c.mending (drop c.repaired c.lost) c.step c.content c.next_mark t.work t.ledger
          (rests_without name t.work.rests) k.work;
      plan = k.plan;
      claims = k.claims;
      pins = k.pins;
      differ = k.differ;
      reads = k.reads;
      step_reads = k.step_reads;
      readers = k.readers;
    };
    rests = subst (RestsKept (end_flight t die (Some (disk.Reading (ForRest number index) place)) ReadRight))
        (sym left_is)
        (record {
          are = ap (rests_without name) h.rests.are ∙ sym (left_rests name (waiting c.pages));
          laid = subst (λ (x : Option disk.Flight). RestsLaid (end_flight t die x ReadRight)) flies
              (laid_move t (EndJob die ReadRight) h.valid h.rests.laid
              (subst (λ (x : Option disk.Flight). MayEnd t.disk die x ReadRight) (sym flies) may));
          each = λ p rest there e. h.rests.each p rest
              (in_contained (waiting c.pages) (filter_in (λ q. not (awaits name q)) p (waiting c.pages)
              (contained_in (filter (λ q. not (awaits name q)) (waiting c.pages)) there)).0) e;
          reads = reads_left;
        });
  }
    where
      k : Kept idle_core (record t { disk = record t.disk { flights = at_die t.disk.flights die None } })
      k = idle_kept c t die b h.kept there

  -- All ends

  pub rest_read_ends : (o : Outcome) (found_tag : Option Tag) (ending : Ending) (after : Core) →
      IsEndingOf t.disk.cells (Some (disk.Reading (ForRest number index) place)) o ending →
      MayEnd t.disk die (Some (disk.Reading (ForRest number index) place)) ending →
      IsReadAfter (is_read o) c die b o found_tag (ForRest number index) after →
      IsEndKept (end_flight t die (Some (disk.Reading (ForRest number index) place)) ending) after
  rest_read_ends (outcome.Read page) found_tag ReadRight after is may new =
      end_as (end_flight t die (Some (disk.Reading (ForRest number index) place)) ReadRight) after filled_core
      (new.2 ∙ ap (with_rest idle_core name) (right_given page new.0 is.1 new.1)) (right_end may)
  rest_read_ends (outcome.Read page) found_tag ReadWrong after is may new =
      end_as (end_flight t die (Some (disk.Reading (ForRest number index) place)) ReadWrong) after idle_core
      (new.2 ∙ ap (with_rest idle_core name) (wrong_given page new.0 is.1 new.1)) (wrong_end may)
  rest_read_ends outcome.ReadFailed found_tag ReadWrong after is may new =
      end_as (end_flight t die (Some (disk.Reading (ForRest number index) place)) ReadWrong) after idle_core
      (new.2 ∙ ap (with_rest idle_core name) (failed (find (is_named number index) c.pages) new.0 new.1))
      (wrong_end may)
    where
      failed : (p : Option Pending) (body : Option (List ℕ)) → IsRestRead p outcome.ReadFailed body → body ≡ None
      failed None body e = e
      failed (Some p) body e = e
  rest_read_ends outcome.Done found_tag ending after is may new = absurd (false≢true is.0)
  rest_read_ends outcome.Failed found_tag ending after is may new = absurd (false≢true is.0)
  rest_read_ends o found_tag ending after is may new = absurd is.1
