-- Which pages may go with blocks: what is spare may go, and whether a page may go is decided by the tags.
use Rattle.power_loss.proofs.Common.{◌≡◌, ◌≢◌, Option, Some, None, refl, sym, subst, inl, inr, ⊎_elim, AreWithin}
use Rattle.power_loss.proofs.Common.{Cell, Cells, GroupPage, Mark, MarkPage, Nothing, key_of, Spot, spot_of, IsSpare}
use Rattle.power_loss.proofs.Common.{Overwrites, Numbers, Place, Tag, page_not_nothing, name_of, name_is}
use Rattle.power_loss.specs.FreeBlocks.{HasCopyOutside, IsOverwrittenIn, MayGoWith}
use Rattle.ufs_laws.proofs.array_cells.NewestFound.{is_fenced, is_key}
use Rattle.ufs_laws.proofs.deciding.SearchOverPlaces.{Decided, alike, both, is_at_most, is_below, not, some_cell}
use Rattle.power_loss.proofs.openings.BlocksByAge.{either, some_place, inside}
use Rattle.power_loss.proofs.openings.FoundInCells.{IsNamed, has_name, is_named, named_page}

pub may_go_same : {c : Cells} (m : Option Mark) (A B : Spot → Type 0) (cell : Cell) →
    ((q : Place) → c q ≢ Nothing → B (spot_of q) → A (spot_of q)) → MayGoWith c m A cell → MayGoWith c m B cell
may_go_same None A B cell less h = absurd h
may_go_same (Some m) A B Nothing less h = absurd h
may_go_same (Some m) A B (MarkPage other) less h = h
may_go_same (Some m) A B (GroupPage t body) less (inl f) = inl f
may_go_same (Some m) A B (GroupPage t body) less (inr (inl o)) = inr (inl o)
may_go_same (Some m) A B (GroupPage t body) less (inr (inr k)) =
    inr (inr (k.0, k.1, λ h. k.2 (less k.0 (page_not_nothing _ _ _ k.1.2) h)))

-- what is spare may go
pub spare_goes : {c : Cells} (m : Option Mark) (A B : Spot → Type 0) (cell : Cell) →
    ((q : Place) → c q ≢ Nothing → B (spot_of q) → A (spot_of q)) → IsSpare c m A cell → MayGoWith c m B cell
spare_goes None A B cell less h = absurd h
spare_goes (Some m) A B Nothing less h = absurd h
spare_goes (Some m) A B (MarkPage other) less h = h
spare_goes (Some m) A B (GroupPage t body) less (inl f) = inl f
spare_goes (Some m) A B (GroupPage t body) less (inr k) = inr (⊎_elim
    (λ same. inr (
      k.place,
      (k.tag, k.other, k.there, name_is (name_of k.tag) (name_of t) (sym same.1) (sym same.2)),
      λ h. k.outside (less k.place (page_not_nothing _ _ _ k.there) h),
    )) (λ over. inl (k.place, k.tag, k.other, k.there, over)) k.instead)

pub spare_less : {c : Cells} (m : Option Mark) (A B : Spot → Type 0) (cell : Cell) →
    ((q : Place) → c q ≢ Nothing → B (spot_of q) → A (spot_of q)) → IsSpare c m A cell → IsSpare c m B cell
spare_less None A B cell less h = absurd h
spare_less (Some m) A B Nothing less h = absurd h
spare_less (Some m) A B (MarkPage other) less h = h
spare_less (Some m) A B (GroupPage t body) less (inl f) = inl f
spare_less (Some m) A B (GroupPage t body) less (inr k) = inr record {
  place = k.place;
  tag = k.tag;
  other = k.other;
  there = k.there;
  outside = λ h. k.outside (less k.place (page_not_nothing _ _ _ k.there) h);
  instead = k.instead;
}

overwrites : (m : Mark) (u t : Tag) → Decided (Overwrites m u t)
overwrites m u t =
    alike (λ h. record { key = h.0; newer = h.1.0; recorded = h.1.1.0; counts = h.1.1.1 })
    (λ h. (h.key, (h.newer, (h.recorded, h.counts))))
    (both (is_key (key_of u) (key_of t))
    (both (is_below t.number u.number) (both (is_at_most u.number m.records) (not (is_fenced m.fence u.number)))))

-- the cell is a page that overwrites one with this tag
abbrev Over : Mark → Tag → Cell → Type 0
Over mark t (GroupPage u other) = Overwrites mark u t
Over mark t cell = ⊥

module _ (n : Numbers) (c : Cells) (within : AreWithin n c) where
  pub is_overwritten : (mark : Mark) (t : Tag) → Decided (IsOverwrittenIn c mark t)
  is_overwritten mark t = alike (λ h. told h.0 (c h.0) refl h.1)
      (λ h. (h.0, subst (Over mark t) (sym h.3) h.4)) (some_cell n c within (Over mark t) decided (λ h. h))
    where
      decided : (x : Cell) → Decided (Over mark t x)
      decided (GroupPage u other) = overwrites mark u t
      decided x = inr (λ h. h)

      told : (p : Place) (x : Cell) → c p ≡ x → Over mark t x → IsOverwrittenIn c mark t
      told p (GroupPage u other) e h = (p, u, other, e, h)
      told p x e h = absurd h

  -- whether a page of the same name lies outside is told by tags alone
  has_copy : (blocks : Spot → Type 0) → ((s : Spot) → Decided (blocks s)) → (t : Tag) →
      Decided (HasCopyOutside c blocks t)
  has_copy blocks decide t =
      alike (λ h. (h.0, named_page (c h.0) h.1.0, h.1.1))
      (λ h. (h.0, (has_name c h.1, h.2)))
      (some_place n (λ q. IsNamed (name_of t) (c q) × (blocks (spot_of q) → ⊥))
      (λ q. both (is_named (name_of t) (c q)) (not (decide (spot_of q))))
      (λ q h. inside n c within q (λ e. subst (IsNamed (name_of t)) e h.0)))

  -- so whether a page may go with these blocks is decided over any cells, sound or not
  pub may_go : (blocks : Spot → Type 0) → ((s : Spot) → Decided (blocks s)) → (newest : Option Mark) (cell : Cell) →
      Decided (MayGoWith c newest blocks cell)
  may_go blocks decide None cell = inr (λ h. h)
  may_go blocks decide (Some mark) Nothing = inr (λ h. h)
  may_go blocks decide (Some mark) (MarkPage other) = is_below other.number mark.number
  may_go blocks decide (Some mark) (GroupPage t body) =
      either (is_fenced mark.fence t.number) (either (is_overwritten mark t) (has_copy blocks decide t))
