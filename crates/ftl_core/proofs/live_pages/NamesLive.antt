-- A page is live in what is kept exactly if it is live in the layer.
use Rattle.ftl_core.proofs.Common.{Bool, Cell, Core, Describes, Entry, GroupPage, IsKey, IsLastRepair, IsPageAt}
use Rattle.ftl_core.proofs.Common.{IsWrittenAt, Ledger, List, Mended, Mending, MendingRight, Name, None, Numbers}
use Rattle.ftl_core.proofs.Common.{Option, Pending, Place, RepairStep, Repairing, Some, StandsAt, Step, StepKept, Tag}
use Rattle.ftl_core.proofs.Common.{Translation, Unmarked, [], and_from, and_parts, ap, arith, book, cases_Bool}
use Rattle.ftl_core.proofs.Common.{entry_of, false, false≢true, inl, inr, is_live, is_mended, key_of, last_number}
use Rattle.ftl_core.proofs.Common.{latest_durable, length, ltb-true, name_at, name_of, names_pending, nat_lt, none-some}
use Rattle.ftl_core.proofs.Common.{page_new, page_within, refl, same_Some, shape_of_numbers, slice_get}
use Rattle.ftl_core.proofs.Common.{slice_get_within, stored_of, subst, suc, sym, true, zero, ℕ, ⊎_elim, ◌-◌, ◌<◌, ◌∙◌}
use Rattle.ftl_core.proofs.Common.{◌∷◌, ◌≡◌, ◌≤◌, ◌⊎◌}
use Rattle.ufs_spec.proofs.Equalities.{is_name_told, name_self, place_self, place_told}
use Rattle.ufs_spec.proofs.Facts.{lt-ltb, or_cases, or_left, or_right}
use Rattle.ufs_spec.specs.Keys as keys
use Rattle.ufs_spec.specs.Ledger.{is_name}
use Rattle.ufs_spec.specs.Translation as layer
use Rattle.ufs_spec.specs.Translation.{is_live_cell, stands_there}
use Rattle.ftl_core.specs.declared.books.Step.TheVariants as steps
use Rattle.ftl_core.proofs.group_settled.PageWritten.{pending_of}
use Rattle.ftl_core.proofs.job_taken.Flown.{same_tests}
use Rattle.ftl_core.proofs.live_pages.StoredPages.{pending_named, stored_named}
use Rattle.ftl_core.proofs.pages.PagesNamed.{pages_get}
use Rattle.ftl_core.proofs.pages.StoredNames.{AreAlike, name_there}

-- Tests

there_here : (p : Place) (o : Option Place) → o ≡ Some p → stands_there p o ≡ true
there_here p o e = ap (stands_there p) e ∙ place_self p

pub there_told : (p : Place) (o : Option Place) → stands_there p o ≡ true → o ≡ Some p
there_told p None e = absurd (false≢true e)
there_told p (Some q) e = ap (λ (x : Place). Some x) (place_told q p e)

-- Pending pages

pub written_at : (ps : List Pending) (p : Place) → IsWrittenAt ps p →
    (j : ℕ) × (q : Pending) × (slice_get ps j ≡ Some q) × (q.written ≡ Some p)
written_at [] p w = absurd w
written_at (q ∷ ps) p (inl w) = (0, q, refl, w)
written_at (q ∷ ps) p (inr w) = let r = written_at ps p w in (suc r.0, r.1, r.2, r.3)

at_position : (ps : List Pending) (j : ℕ) (q : Pending) (p : Place) → slice_get ps j ≡ Some q → q.written ≡ Some p →
    IsWrittenAt ps p
at_position [] j q p at w = absurd (none-some q at)
at_position (r ∷ ps) zero q p at w = inl (ap (λ (z : Pending). z.written) (same_Some r q at) ∙ w)
at_position (r ∷ ps) (suc j) q p at w = inr (at_position ps j q p at w)

-- A repair's page does not stand while it is under way

abbrev repair_step : ℕ → Option Place → Bool → layer.Step
repair_step n from there = record { kind = RepairStep (name_at n 0) from; there = there }

is_repair : layer.StepKind → Bool
is_repair (RepairStep name from) = true
is_repair kind = false

number_in : layer.StepKind → ℕ
number_in (RepairStep name from) = name.number
number_in kind = 0

repair_new : (l : Ledger) (step : Option Step) (content : List ℕ) (m : ℕ) (from : Option Place) (is_there : Bool) →
    StepKept l step content (Some (repair_step m from is_there)) → l.standing m 0 ≡ None
unfolding is_repair number_in
repair_new l None content m from is_there h = absurd h
repair_new l (Some (steps.Mark n fence)) content m from is_there h =
    absurd (false≢true (sym (ap (λ (s : layer.Step). is_repair s.kind) h)))
repair_new l (Some (steps.Copy n k s read)) content m from is_there h =
    absurd (false≢true (sym (ap (λ (z : layer.Step). is_repair z.kind) h.1)))
repair_new l (Some (steps.Repair n k s there)) content m from is_there h =
    subst (λ (x : ℕ). l.standing x 0 ≡ None) (sym (ap (λ (z : layer.Step). number_in z.kind) h.0)) h.1.new

module _ (c : Core) (t : Translation) (h : Describes c t) where
  -- until the device is mended no page above the frontier stands
  none_stands : (n i : ℕ) (e : Entry) (p : Place) → is_mended t.work.mending ≡ false → IsPageAt (book t) n i e →
      t.ledger.frontier < n → t.ledger.standing n i ≡ Some p → ⊥
  none_stands n i e p un is above stands = by t.work.mending h.valid.mending un
    where
      last : n ≤ last_number (book t)
      last = page_within (book t) n i e is

      low : t.ledger.greatest_seen ≤ t.ledger.frontier
      low = h.valid.frontier.above

      by : (m : Mending) → MendingRight (book t) t.disk t.ledger t.work.plan t.work.step m → is_mended m ≡ false → ⊥
      by (Unmarked fence lost) r un =
          let none = ap (λ (gs : List keys.Group). length gs) r.none_new in
          let still = r.still in
          let end = last in
          omega (arith, none, still, end, above)
      by (Repairing left) r un = ⊎_elim
          (λ f. let end = last in omega (arith, f, end, above))
          (λ (f : (suc t.ledger.frontier ≡ last_number (book t)) × IsLastRepair (book t) t.work.step).
          let from = low in
          let page = page_new (book t) n (omega (arith, from, above)) is in
          let single = r.more.singles (n - t.ledger.greatest_seen - 1) page.group page.is in
          let within = slice_get_within page.group i e.item page.item in
          let end = last in
          let at_end : n ≡ last_number (book t) = omega (arith, end, above, f.0) in
          let at_first : i ≡ 0 = omega (arith, single, within) in
          let new = repair_new t.ledger c.step c.content (last_number (book t)) f.1.0 f.1.1
          (subst (StepKept t.ledger c.step c.content) f.1.2 h.kept.work.step_is) in
          absurd (none-some p (sym new ∙ (λ j. t.ledger.standing (sym at_end j) (sym at_first j)) ∙ stands)))
          r.more.under_way
      by Mended r un = absurd (false≢true (sym un))

  -- so a page above it that stands is pending and written
  above_written : (tag : Tag) (e : Entry) (p : Place) → IsPageAt (book t) tag.number tag.index e →
      t.ledger.frontier < tag.number → t.ledger.standing tag.number tag.index ≡ Some p → IsWrittenAt c.pages p
  above_written tag e p is above stands = ⊎_elim
      (λ mended.
      let r = pending_of c t (name_of tag) e h mended above is in
      let page = pages_get t.ledger.standing (entry_of t.ledger) c.pages (names_pending t.ledger) r.at r.page
      h.kept.ledger_kept.pages r.there in
      at_position c.pages r.at r.page p r.there
      (sym page.2.stands ∙ ap (λ (z : Name). t.ledger.standing z.number z.index)
      (same_Some page.0 (name_of tag) (sym page.1 ∙ r.named)) ∙ stands))
      (λ un. absurd (none_stands tag.number tag.index e p un is above stands))
      (cases_Bool (is_mended t.work.mending))

  -- What is live

  durable : (p : Place) → StandsAt c.numbers c.places p → layer.is_live t p ≡ true
  durable p at =
      let r = stored_named c t h.valid h.kept at.0 at.1 at.2 in
      subst (λ (q : Place). layer.is_live t q ≡ true) at.3
      (ap (is_live_cell t.ledger at.1.place) r.there
      ∙ and_from _ _ (there_here at.1.place _ r.stands)
      (or_right (nat_lt t.ledger.frontier r.tag.number) _
      (ap (is_name (name_of r.tag)) (ap (latest_durable t.ledger) r.key ∙ r.latest) ∙ name_self (name_of r.tag))))

  pending_live : (p : Place) → IsWrittenAt c.pages p → layer.is_live t p ≡ true
  pending_live p w =
      let at = written_at c.pages p w in
      let r = pending_named c t h.valid h.kept at.0 at.1 p at.2 at.3 in
      ap (is_live_cell t.ledger p) r.there
      ∙ and_from _ _ (there_here p _ r.stands) (or_left _ _ (lt-ltb t.ledger.frontier r.tag.number r.above))

  held : (p : Place) (x : Cell) → t.disk.cells p ≡ x → is_live_cell t.ledger p x ≡ true →
      StandsAt c.numbers c.places p ⊎ IsWrittenAt c.pages p
  held p (GroupPage tag body) there e =
      let r = and_parts _ _ e in
      let stands = there_told p (t.ledger.standing tag.number tag.index) r.0 in
      ⊎_elim
      (λ above. inr (above_written tag _ p known (ltb-true t.ledger.frontier tag.number above) stands))
      (λ latest.
      let r = name_there t.ledger.standing (stored_of c (key_of tag)) (name_of tag)
      (subst (AreAlike t.ledger.standing (stored_of c (key_of tag)))
      (is_name_told (name_of tag) (latest_durable t.ledger (key_of tag)) latest)
      (h.kept.ledger_kept.places (key_of tag) is_key)) in
      inl (key_of tag, r.0, r.1, same_Some r.0.place p (sym r.3 ∙ stands)))
      (or_cases (nat_lt t.ledger.frontier tag.number) (is_name (name_of tag) (latest_durable t.ledger (key_of tag)))
      r.1)
    where
      known : IsPageAt (book t) tag.number tag.index (record {
        item = record { key = key_of tag; body = body };
        size = tag.size;
      })
      known = h.valid.pages.known p tag body there

      is_key : IsKey (shape_of_numbers c.numbers) (key_of tag)
      is_key = subst (λ (n : Numbers). IsKey (shape_of_numbers n) (key_of tag)) (sym h.kept.numbers)
          (h.valid.book_right.keys tag.number tag.index _ known)
  held p x there e = absurd (false≢true e)

  pub live_named : (p : Place) → is_live c.live p ≡ layer.is_live t p
  live_named p = same_tests (is_live c.live p) (layer.is_live t p)
      (λ e. ⊎_elim (durable p) (pending_live p) (h.live.held p e))
      (λ e. h.live.lives p (held p (t.disk.cells p) refl e))
