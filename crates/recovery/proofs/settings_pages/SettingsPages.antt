-- The page that has the settings' content lies on the dies, and over sound pages its body is their content.
use Rattle.recovery.proofs.Common.{Array, Bool, Cells, CellsSound, DieState, Fit, Found, FoundPage, GroupPage, HasNone}
use Rattle.recovery.proofs.Common.{Holds, IsCell, IsContentPage, IsFound, IsNewest, LiesOnDie, List, None, Numbers}
use Rattle.recovery.proofs.Common.{Option, Place, Shows, Some, Spot, Tag, ap, arith, array_of, inl, length, new_die}
use Rattle.recovery.proofs.Common.{newest_found, outside, page_not_nothing, refl, shape_of_numbers, slice_get}
use Rattle.recovery.proofs.Common.{slice_index_or, subst, suc, sym, ℕ, ⊎_elim, ◌+◌, ◌<◌, ◌∙◌, ◌≡◌}
use Rattle.std.specs.Prelude.{sum}
use Rattle.ufs_spec.specs.Keys.{area_pages, settings_key}
use Rattle.ufs_spec.specs.Plain.{zero_block}
use Rattle.ufs_laws.proofs.array_cells.StandsForOne.{content_one}
use Rattle.ufs_laws.proofs.deciding.SearchOverPlaces.{is_place}
use Rattle.settings.specs.Told.{settings_in}
use Rattle.settings.specs.declared.page.Settings.{Settings}
use Rattle.recovery.specs.Found.{HasSettings}
use Rattle.geometry.specs.Keys.{AtSettings}
use Rattle.recovery.proofs.opened.OutsidePages.{IsPageOutside, outside_there, page_outside, recorded_kept}
use Rattle.recovery.specs.Stood.{AreReadSettings, HasContent}
use Rattle.recovery.proofs.table_facts.TableFacts.{shown_cells}
use Rattle.recovery.proofs.tables.Counts.{lies}
use Rattle.recovery.proofs.tables.Whole.{shown_within}

-- what was found has a page of the settings, or none, as it has of each key
pub has_settings : (n : Numbers) (c : Cells) (bad : Spot → Bool) (f : Found) → IsFound n c bad f →
    HasSettings n c bad f
has_settings n c bad f found = record {
  basis = found.basis;
  page =
      found.contents settings_key (sum (shape_of_numbers n).blocks + area_pages (shape_of_numbers n))
      (AtSettings refl refl refl refl);
}

-- what was found stays so, whatever its settings are
pub still_found : (n : Numbers) (c : Cells) (bad : Spot → Bool) (f : Found) (s : Settings) → IsFound n c bad f →
    IsFound n c bad (record f { settings = s })
still_found n c bad f s found = record {
  basis = record {
    within = found.basis.within;
    newest = found.basis.newest;
    kept = found.basis.kept;
    free = found.basis.free;
    free_right = found.basis.free_right;
  };
  suits = found.suits;
  in_range = found.in_range;
  greatest_seen = found.greatest_seen;
  first_lost = found.first_lost;
  contents = found.contents;
  lost = found.lost;
  as_many = found.as_many;
  blocks = found.blocks;
}

-- What the settings are

-- a page's body is that of what stands there
body_there : (array : Array) (c : Cells) (p : Place) (t : Tag) (body : List ℕ) → Shows array c →
    c p ≡ GroupPage t body → (array p).body ≡ body
body_there array c p t body shown is =
    let cell : IsCell (array p) (GroupPage t body) = subst (IsCell (array p)) is (shown p) in
    cell.0.sealed.holds

-- The page that was found for the settings

pub record IsPageFor (n : Numbers) (c : Cells) (bad : Spot → Bool) (f : Found) (o : Option FoundPage) : Type 0 where
  pub has : HasSettings n c bad f
  pub content : IsContentPage (outside has.basis.free c) (newest_found f) f.kept settings_key o

abbrev pub IsSettingsPage : Numbers → (Spot → Bool) → Array → Found → Option FoundPage → Type 0
IsSettingsPage n bad array f o = (c : Cells) → Shows array c → IsPageFor n c bad f o

pub settings_there : (n : Numbers) (bad : Spot → Bool) (array : Array) (f : Found) (xs : List (Option FoundPage))
    (o : Option FoundPage) → ((c : Cells) → Shows array c → HasSettings n c bad f) → xs ≡ f.contents.items →
    ((e : Option FoundPage) → slice_get xs (sum (shape_of_numbers n).blocks + area_pages (shape_of_numbers n)) ≡ Some e
    → o ≡ e) → IsSettingsPage n bad array f o
settings_there n bad array f xs o has same told c shown =
    let h = has c shown in
    record {
      has = h;
      content = subst (IsContentPage (outside h.basis.free c) (newest_found f) f.kept settings_key)
          (sym (told h.page.0
          (ap (λ (ys : List (Option FoundPage)). slice_get ys
          (sum (shape_of_numbers n).blocks + area_pages (shape_of_numbers n))) same ∙ h.page.1))) h.page.2;
    }

-- over sound pages it is the page among all
page_for : (n : Numbers) (c : Cells) (bad : Spot → Bool) (f : Found) (o : Option FoundPage)
    (h : IsPageFor n c bad f o) → CellsSound c (newest_found f) →
    IsPageOutside h.has.basis.free c (newest_found f) f.kept settings_key o
page_for n c bad f o h sound =
    let b = h.has.basis in
    page_outside n c b.within (newest_found f) sound bad b.free b.free_right f.kept
    (recorded_kept c (newest_found f) f.kept b.newest b.kept) settings_key o h.content

module _ (n : Numbers) (bad : Spot → Bool) (dies : List DieState) (f : Found) (fit : Fit n dies) (e : FoundPage)
    (page : IsSettingsPage n bad (array_of dies) f (Some e)) where
  pub lies_there : (e.place.die < length dies)
      × LiesOnDie (slice_index_or dies e.place.die (new_die 0 0)) e.place.block e.place.page
  lies_there =
      let some = shown_cells (array_of dies) in
      let h = page some.0 some.1 in
      let within = shown_within n dies some.0 fit some.1 in
      ⊎_elim
      (λ inside. (
        omega (arith, inside.die, fit.0),
        lies n dies e.place.die e.place.block e.place.page fit inside.die inside.block inside.page,
      ))
      (λ out. absurd (page_not_nothing (some.0 e.place) e.tag h.content.0
      (outside_there h.has.basis.free some.0 e.place (GroupPage e.tag h.content.0)
      (page_not_nothing (GroupPage e.tag h.content.0) e.tag h.content.0 refl) h.content.1.counts.there).1
      (within e.place out)))
      (is_place n e.place)

-- the page says what the content says
pub page_says : (n : Numbers) (bad : Spot → Bool) (array : Array) (f : Found) (e : FoundPage) (s : Settings) →
    s ≡ settings_in (array e.place).body → IsSettingsPage n bad array f (Some e) → (c : Cells) → Shows array c →
    CellsSound c (newest_found f) → (x : List ℕ) →
    Holds c (newest_found f) (suc f.kept) settings_key x → s ≡ settings_in x
page_says n bad array f e s same page c shown sound x holds =
    let h = page_for n c bad f (Some e) (page c shown) sound in
    same ∙ ap settings_in (body_there array c e.place e.tag h.0 shown h.1.counts.there
    ∙ content_one c (newest_found f) (suc f.kept) settings_key h.0 x sound (inl (e.place, e.tag, h.1)) holds)

-- without a page the content is zeros, and the settings are what zeros say
pub none_says : (n : Numbers) (bad : Spot → Bool) (array : Array) (f : Found) (s : Settings) →
    s ≡ settings_in zero_block → IsSettingsPage n bad array f None →
    (c : Cells) → Shows array c → CellsSound c (newest_found f) → (x : List ℕ) →
    Holds c (newest_found f) (suc f.kept) settings_key x → s ≡ settings_in x
none_says n bad array f s zeros page c shown sound x holds = ⊎_elim
    (λ (h : (p : Place) × (t : Tag) × IsNewest c (newest_found f) (suc f.kept) settings_key p t x).
    let l = page_for n c bad f None (page c shown) sound h.0 h.1 x h.2.counts h.2.key in
    let w = h.2.within in
    absurd (omega (arith, l, w)))
    (λ (h : HasNone c (newest_found f) (suc f.kept) settings_key × (x ≡ zero_block)).
    zeros ∙ ap settings_in (sym h.1)) holds

-- over any pages the settings are what the page says that was found, or zeros where none was
module _ (n : Numbers) (array : Array) (xs contents : List (Option FoundPage)) (o : Option FoundPage) (s : Settings)
    (same : xs ≡ contents)
    (told : (e : Option FoundPage) →
    slice_get xs (sum (shape_of_numbers n).blocks + area_pages (shape_of_numbers n)) ≡ Some e → o ≡ e) where
  it_has : (e : Option FoundPage) (x : List ℕ) →
      slice_get contents (sum (shape_of_numbers n).blocks + area_pages (shape_of_numbers n)) ≡ Some e →
      HasContent array e x → HasContent array o x
  it_has e x at has =
      subst (λ (y : Option FoundPage). HasContent array y x)
      (sym (told e (ap (λ (ys : List (Option FoundPage)). slice_get ys
      (sum (shape_of_numbers n).blocks + area_pages (shape_of_numbers n))) same ∙ at))) has

  pub page_read : (e : FoundPage) → o ≡ Some e → s ≡ settings_in (array e.place).body →
      AreReadSettings n array contents s
  page_read e is says other x at has =
      let here : HasContent array (Some e) x =
      subst (λ (y : Option FoundPage). HasContent array y x) is (it_has other x at has) in
      says ∙ ap settings_in here.sealed.holds

  pub none_read : o ≡ None → s ≡ settings_in zero_block → AreReadSettings n array contents s
  none_read is zeros other x at has =
      let here : HasContent array None x =
      subst (λ (y : Option FoundPage). HasContent array y x) is (it_has other x at has) in
      zeros ∙ ap settings_in (sym here)
