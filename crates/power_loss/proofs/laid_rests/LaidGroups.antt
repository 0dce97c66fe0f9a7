-- The rests of a group that is accepted are laid over their pages, and those that were there stay so.
use Rattle.power_loss.proofs.Common.{Accept, Book, Contains, CopyStep, Entry, FromPage, FromSlot, Group, HasKey, InSlot}
use Rattle.power_loss.proofs.Common.{IsAllowedMove, IsGroup, IsPageAt, Item, Key, List, Looked, MarkStep, Name, None}
use Rattle.power_loss.proofs.Common.{OnPage, Option, Place, RepairStep, Rest, Some, Source, StepKind, StepKindRight}
use Rattle.power_loss.proofs.Common.{Translation, Unwritten, Valid, ap, arith, at_most, book, cond-true, false}
use Rattle.power_loss.proofs.Common.{false≢true, find, inl, inr, is_kind_of, is_mended, is_rest_of, key_of, last_number}
use Rattle.power_loss.proofs.Common.{latest, length, look, looked_at, looked_on, moved, name_cases, name_is, name_of}
use Rattle.power_loss.proofs.Common.{nat_lt, next_number, none-some, one_page, option_map, put_groups, refl, rests_of}
use Rattle.power_loss.proofs.Common.{same_Some, same_name, slice_get, source_of, subst, suc, sym, true, ℕ, ⊎_elim, ◌++◌}
use Rattle.power_loss.proofs.Common.{◌-◌, ◌<◌, ◌∙◌, ◌≡◌, ◌≤◌, ◌⊎◌}
use Rattle.power_loss.proofs.MachineWords.{IsRestOf, IsShown}
use Rattle.ufs_spec.specs.Translation.{awaited_read, is_in_part, read_from}
use Rattle.ufs_spec.proofs.Equalities.{name_told}
use Rattle.power_loss.specs.LaidRests.{IsOfFirst, IsUnflown, IsUnstepped, RestLaid, RestsLaid, SourceLaid, WaitsFor}
use Rattle.power_loss.specs.Shown.{IsPageOf}
use Rattle.power_loss.proofs.accepted_groups.AcceptedGroup.{group_may}
use Rattle.power_loss.proofs.accepted_groups.RestsOfGroups.{rest_found, rests_told}
use Rattle.power_loss.proofs.books.LastOfEachKey.{IsLastOf, latest_cases}
use Rattle.power_loss.proofs.books.LayerParts.{LookedOf}
use Rattle.power_loss.proofs.books.PagesByName.{IsAdded, IsNewPage, added_page, grown, page_grows, page_new, page_one}
use Rattle.power_loss.proofs.books.PagesByName.{page_splits, page_within}
use Rattle.power_loss.proofs.collected_blocks.FewestLivePages.{mended_told}
use Rattle.power_loss.proofs.kept_pages.LookedUpPages.{last_page, look_right}
use Rattle.power_loss.proofs.laid_rests.BelowGroups.{below_grows, below_last, is_less, rest_is_found}
use Rattle.power_loss.proofs.ordered_lists.ElementsAndOrders.{IsIn, contained_in, found_in, in_contained, in_either}
use Rattle.power_loss.proofs.ordered_lists.ElementsAndOrders.{in_left, in_right}
use Rattle.power_loss.proofs.shown_blocks.LooksShowContents.{latest_has, looked_has}

module _ {t : Translation} {g : Group} (v : Valid t) (laid : RestsLaid t) (mended : is_mended t.work.mending ≡ true)
    (is : IsGroup t g) where
  abbrev Old : Book
  Old = book t

  abbrev New : Book
  New = grown (book t) g

  abbrev Rests : List Rest
  Rests = t.work.rests ++ rests_of t g

  last_is : next_number t.ledger ≡ suc (last_number Old)
  last_is = omega arith

  old_there : (rest : Rest) → Contains t.work.rests rest → Contains Rests rest
  old_there rest there = in_contained Rests (in_left rest t.work.rests (rests_of t g) (contained_in t.work.rests there))

  new_there : (rest : Rest) → Contains (rests_of t g) rest → Contains Rests rest
  new_there rest there =
      in_contained Rests (in_right rest t.work.rests (rests_of t g) (contained_in (rests_of t g) there))

  either : {rest : Rest} → Contains Rests rest → Contains t.work.rests rest ⊎ Contains (rests_of t g) rest
  either {rest} there = ⊎_elim (λ k. inl (in_contained t.work.rests k)) (λ k. inr (in_contained (rests_of t g) k))
      (in_either rest t.work.rests (rests_of t g) (contained_in Rests there))

  -- A key that has a rest is looked up in a slot

  abbrev LaidAt : Rest → Type 0
  LaidAt rest = RestLaid Old t.ledger.standing t.disk.flights t.work.step t.disk.cells t.work.rests rest

  -- the page of a rest is above the frontier
  above : {rest : Rest} → LaidAt rest → t.ledger.frontier < rest.name.number
  above {rest} r = ⊎_elim
      (λ low. let at = v.frontier.stand rest.name.number rest.name.index r.entry low r.is in
      absurd (none-some at.0 (sym r.nowhere ∙ at.1))) (λ high. high) (at_most rest.name.number t.ledger.frontier)

  -- the last page of its key waits for the same read
  latest_waits : {rest : Rest} (r : LaidAt rest) → (name : Name) × (latest t.ledger r.entry.item.key ≡ Some name)
      × WaitsFor t.work.rests (awaited_read rest) name.number name.index
  latest_waits {rest} r = ⊎_elim found
      (λ k. absurd (k.1 _ rest.name.index page.group r.entry.item page.is page.item refl))
      (latest_cases r.entry.item.key t.ledger.greatest_seen t.ledger.groups (t.ledger.first_page r.entry.item.key))
    where
      low : t.ledger.greatest_seen < rest.name.number
      low = let up = above r in let base = v.frontier.above in omega (arith, up, base)

      page : IsNewPage t.ledger.groups (rest.name.number - t.ledger.greatest_seen - 1) rest.name.index r.entry
      page = page_new Old rest.name.number low r.is

      found : IsLastOf r.entry.item.key t.ledger.greatest_seen t.ledger.groups (latest t.ledger r.entry.item.key) →
          (name : Name) × (latest t.ledger r.entry.item.key ≡ Some name)
          × WaitsFor t.work.rests (awaited_read rest) name.number name.index
      found l = (
        l.name,
        l.is,
        r.later l.name.number l.name.index (record { item = l.item; size = length l.group })
            (let last = l.last _ rest.name.index page.group r.entry.item page.is page.item refl in
            let number = l.number in omega (arith, last, number, low))
            (last_page Old r.entry.item.key t.ledger.groups _ l l.there) l.key,
      )

  -- a slot with a rest gives that of a page that is had in part
  slot_found : (name read : Name) → WaitsFor t.work.rests read name.number name.index →
      (s : Rest) × Contains t.work.rests s × (s.name ≡ name) × (awaited_read s ≡ read)
      × (source_of t.work.rests (InSlot name) ≡ Some (FromSlot read))
  slot_found name read w =
      let f = rest_is_found name t.work.rests w.rest w.there (name_is w.rest.name name w.number w.index) in
      let s = found_in (is_rest_of name) t.work.rests f.0 f.1 in
      let there = in_contained t.work.rests s.0 in
      let same = name_told f.0.name name s.1 in
      let awaits = laid.one_read f.0 w.rest there w.there (same ∙ sym (name_is w.rest.name name w.number w.index))
      ∙ w.awaits in (
        f.0,
        there,
        same,
        awaits,
        ap (option_map (λ (r : Rest). FromSlot (awaited_read r))) f.1 ∙ ap (λ (n : Name). Some (FromSlot n)) awaits,
      )

  -- each page of the added group that has the key of a rest waits for the same read
  added_waits : {rest : Rest} (r : LaidAt rest) (n i : ℕ) (e : Entry) → IsAdded Old g n i e →
      e.item.key ≡ r.entry.item.key → WaitsFor Rests (awaited_read rest) n i
  added_waits {rest} r n i e a key = record {
    rest = record { name = record { number = next_number t.ledger; index = i }; source = FromSlot (awaited_read rest) };
    there = new_there _ (rest_found t g i e.item (FromSlot (awaited_read rest)) a.item
        (ap is_in_part key ∙ r.in_part) source);
    number = last_is ∙ sym a.last;
    index = refl;
    awaits = refl;
  }
    where
      l : (name : Name) × (latest t.ledger r.entry.item.key ≡ Some name)
          × WaitsFor t.work.rests (awaited_read rest) name.number name.index
      l = latest_waits r

      slot : look t.ledger r.entry.item.key ≡ InSlot l.0
      slot =
          let w = l.2 in
          let up = above (laid.each w.rest w.there) in
          let number = w.number in
          ap (looked_at t.ledger) l.1
          ∙ cond-true (nat_lt t.ledger.frontier l.0.number) (InSlot l.0)
          (looked_on l.0 (t.ledger.standing l.0.number l.0.index))
          (is_less t.ledger.frontier l.0.number (omega (arith, up, number)))

      source : source_of t.work.rests (look t.ledger e.item.key) ≡ Some (FromSlot (awaited_read rest))
      source =
          let f = slot_found l.0 (awaited_read rest) l.2 in
          ap (λ (k : Key). source_of t.work.rests (look t.ledger k)) key
          ∙ (ap (source_of t.work.rests) slot ∙ f.4)

  -- A rest that was there

  old_source : (name : Name) (k : Key) (source : Source) → name.number ≤ last_number Old →
      SourceLaid Old t.disk.cells t.work.rests name k source → SourceLaid New t.disk.cells Rests name k source
  old_source name k (FromPage place) l h = λ tag body e. let x = h tag body e in
      (x.0, x.1 ∙ ap (λ (c : Key → List ℕ). c k) (sym (below_grows Old g name.number (omega arith))))
  old_source name k (FromSlot other) l h = record {
    first = h.first;
    there = old_there h.first h.there;
    name_is = h.name_is;
    place = h.place;
    read = h.read;
    entry = h.entry;
    page = page_grows Old g other.number other.index h.entry h.page;
    key = h.key;
    older = h.older;
  }

  abbrev LaidNow : Rest → Type 0
  LaidNow rest = RestLaid New t.ledger.standing t.disk.flights t.work.step t.disk.cells Rests rest

  old_laid : {rest : Rest} → LaidAt rest → LaidNow rest
  old_laid {rest} r = record {
    entry = r.entry;
    is = page_grows Old g rest.name.number rest.name.index r.entry r.is;
    in_part = r.in_part;
    nowhere = r.nowhere;
    unflown = r.unflown;
    unstepped = r.unstepped;
    laid = old_source rest.name r.entry.item.key rest.source
        (page_within Old rest.name.number rest.name.index r.entry r.is) r.laid;
    later = λ n i e l page key. ⊎_elim
        (λ old. let w = r.later n i e l old key in
        record {
          rest = w.rest;
          there = old_there w.rest w.there;
          number = w.number;
          index = w.index;
          awaits = w.awaits;
        })
        (λ a. added_waits r n i e a key) (page_splits Old g n i e page);
  }

  -- A rest of the group

  module _ {rest : Rest} (r : IsRestOf t g rest) where
    abbrev entry : Entry
    entry = record { item = r.item; size = length g }

    number : rest.name.number ≡ suc (last_number Old)
    number = ap (λ (n : Name). n.number) r.name ∙ last_is

    index : rest.name.index ≡ r.index
    index = ap (λ (n : Name). n.index) r.name

    -- no page that was known has its name
    unknown : (i : ℕ) (e : Entry) → IsPageAt Old rest.name.number i e → ⊥
    unknown i e h = let l = page_within Old rest.name.number i e h in omega (arith, number, l)

    new_entry : IsAdded Old g rest.name.number rest.name.index entry
    new_entry = record { last = number; item = ap (slice_get g) index ∙ r.at; size = refl }

    has_key : HasKey Old r.item.key
    has_key = (group_may is).keys r.index r.item r.at

    shown : IsShown t.ledger r.item.key (look t.ledger r.item.key) (put_groups t.ledger.base t.ledger.groups r.item.key)
    shown = looked_has r.item.key (latest t.ledger r.item.key)
        (put_groups t.ledger.base t.ledger.groups r.item.key) v
        (latest_has v (mended_told t.work.mending mended) has_key)

    nowhere : t.ledger.standing rest.name.number rest.name.index ≡ None
    nowhere = by (t.ledger.standing rest.name.number rest.name.index) refl
      where
        by : (o : Option Place) → t.ledger.standing rest.name.number rest.name.index ≡ o → o ≡ None
        by None e = refl
        by (Some p) e = let k = v.frontier.known rest.name.number rest.name.index p e in
            absurd (unknown rest.name.index k.0 k.1)

    unflown : IsUnflown t.disk.flights rest.name
    unflown die p tag body e same =
        let x : Entry = record { item = record { key = key_of tag; body = body }; size = tag.size } in
        unknown tag.index x (subst (λ (n : ℕ). IsPageAt Old n tag.index x) (ap (λ (n : Name). n.number) same)
        (v.flights.known die p tag body e))

    unstepped : IsUnstepped t.work.step rest.name
    unstepped s e = by s.kind (v.step.kind s e)
      where
        other : (name : Name) (e : Entry) → IsPageAt Old name.number name.index e → same_name rest.name name ≡ false
        other name e page = ⊎_elim
            (λ k. absurd (unknown name.index e
            (subst (λ (n : ℕ). IsPageAt Old n name.index e) (sym (ap (λ (n : Name). n.number) k.1)) page)))
            (λ k. k.0) (name_cases rest.name name)

        by : (kind : StepKind) → StepKindRight Old t.ledger.marks t.disk.cells t.work.mending t.work.plan kind →
            is_kind_of rest.name kind ≡ false
        by (MarkStep last fence) h = refl
        by (CopyStep name from) h = other name h.1.0 h.1.1
        by (RepairStep name from) h = other name h.2.0 h.2.1

    -- it is laid over what is looked up
    on_page : (name : Name) (place : Place) →
        IsPageOf t.ledger r.item.key name (put_groups t.ledger.base t.ledger.groups r.item.key) →
        LookedOf t (OnPage name place) → SourceLaid New t.disk.cells Rests rest.name r.item.key (FromPage place)
    on_page name place of page tag body e =
        let known = v.pages.known place tag body e in
        let same_tag = (one_page page.tag tag page.body body (sym page.there ∙ e)).0 in
        let named : name_of tag ≡ name = ap name_of (sym same_tag) ∙ page.is in
        let entry_is = page_one Old name.number name.index
        (record { item = record { key = key_of tag; body = body }; size = tag.size }) of.entry
        (subst (λ (n : Name). IsPageAt Old n.number n.index
        (record { item = record { key = key_of tag; body = body }; size = tag.size })) named known) of.is in (
          ap (λ (x : Entry). x.item.key) entry_is ∙ of.key,
          ap (λ (x : Entry). x.item.body) entry_is
              ∙ (of.body_is ∙ ap (λ (c : Key → List ℕ). c r.item.key)
              (sym (below_last Old g rest.name.number number))),
        )

    in_slot : (name : Name) (s : Rest) → find (is_rest_of name) t.work.rests ≡ Some s →
        IsPageOf t.ledger r.item.key name (put_groups t.ledger.base t.ledger.groups r.item.key) →
        SourceLaid New t.disk.cells Rests rest.name r.item.key (FromSlot (awaited_read s))
    in_slot name s f of = by s.source refl l.laid
      where
        at : IsIn s t.work.rests × (is_rest_of name s ≡ true)
        at = found_in (is_rest_of name) t.work.rests s f

        there : Contains t.work.rests s
        there = in_contained t.work.rests at.0

        same : s.name ≡ name
        same = name_told s.name name at.1

        l : LaidAt s
        l = laid.each s there

        key : l.entry.item.key ≡ r.item.key
        key = ap (λ (x : Entry). x.item.key)
            (page_one Old name.number name.index l.entry of.entry
            (subst (λ (n : Name). IsPageAt Old n.number n.index l.entry) same l.is) of.is) ∙ of.key

        within : s.name.number ≤ last_number Old
        within = page_within Old s.name.number s.name.index l.entry l.is

        by : (source : Source) → s.source ≡ source →
            SourceLaid Old t.disk.cells t.work.rests s.name l.entry.item.key source →
            IsOfFirst New Rests rest.name (awaited_read s) r.item.key
        by (FromPage place) e h = subst (λ (n : Name). IsOfFirst New Rests rest.name n r.item.key)
            (sym (ap (read_from s.name) e))
            (record {
              first = s;
              there = old_there s there;
              name_is = refl;
              place = place;
              read = e;
              entry = l.entry;
              page = page_grows Old g s.name.number s.name.index l.entry l.is;
              key = key;
              older = omega (arith, within, number);
            })
        by (FromSlot other) e h = subst (λ (n : Name). IsOfFirst New Rests rest.name n r.item.key)
            (sym (ap (read_from s.name) e))
            (record {
              first = h.first;
              there = old_there h.first h.there;
              name_is = h.name_is;
              place = h.place;
              read = h.read;
              entry = h.entry;
              page = page_grows Old g other.number other.index h.entry h.page;
              key = h.key ∙ key;
              older = let o = h.older in omega (arith, within, number, o);
            })

    looked : (x : Looked) → look t.ledger r.item.key ≡ x → LookedOf t x →
        IsShown t.ledger r.item.key x (put_groups t.ledger.base t.ledger.groups r.item.key) →
        source_of t.work.rests x ≡ Some rest.source →
        SourceLaid New t.disk.cells Rests rest.name r.item.key rest.source
    looked Unwritten e right shows source = absurd (none-some rest.source source)
    looked (OnPage name place) e right shows source =
        subst (SourceLaid New t.disk.cells Rests rest.name r.item.key)
        (same_Some (FromPage place) rest.source source) (on_page name place shows right)
    looked (InSlot name) e right shows source = by (find (is_rest_of name) t.work.rests) refl source
      where
        by : (o : Option Rest) → find (is_rest_of name) t.work.rests ≡ o →
            option_map (λ (s : Rest). FromSlot (awaited_read s)) o ≡ Some rest.source →
            SourceLaid New t.disk.cells Rests rest.name r.item.key rest.source
        by None f k = absurd (none-some rest.source k)
        by (Some s) f k = subst (SourceLaid New t.disk.cells Rests rest.name r.item.key)
            (same_Some (FromSlot (awaited_read s)) rest.source k) (in_slot name s f shows)

    new_laid : Contains (rests_of t g) rest → LaidNow rest
    new_laid there = record {
      entry = entry;
      is = added_page Old g rest.name.number rest.name.index entry new_entry;
      in_part = r.in_part;
      nowhere = nowhere;
      unflown = unflown;
      unstepped = unstepped;
      laid = looked (look t.ledger r.item.key) refl (look_right r.item.key v has_key) shown r.source;
      later = λ n i e l page key. ⊎_elim
          (λ old. let w = page_within Old n i e old in absurd (omega (arith, w, l, number)))
          (λ (a : IsAdded Old g n i e).
          let last = a.last in
          record {
            rest = rest;
            there = new_there rest there;
            number = number ∙ sym last;
            index = index ∙ sym (is.differ i r.index e.item r.item a.item r.at key);
            awaits = refl;
          }) (page_splits Old g n i e page);
    }

  -- Rests of one name

  old_new : {a b : Rest} → LaidAt a → IsRestOf t g b → a.name ≡ b.name → ⊥
  old_new {a} {b} old new same =
      unknown new a.name.index old.entry
      (subst (λ (n : ℕ). IsPageAt Old n a.name.index old.entry) (ap (λ (n : Name). n.number) same) old.is)

  new_new : {a b : Rest} → IsRestOf t g a → IsRestOf t g b → a.name ≡ b.name → awaited_read a ≡ awaited_read b
  new_new {a} {b} x y same =
      let place : x.index ≡ y.index = ap (λ (n : Name). n.index) (sym x.name ∙ (same ∙ y.name)) in
      let item = same_Some x.item y.item (sym x.at ∙ (ap (slice_get g) place ∙ y.at)) in
      let source = same_Some a.source b.source
      (sym x.source ∙ (ap (λ (i : Item). source_of t.work.rests (look t.ledger i.key)) item ∙ y.source)) in
      ap (λ (n : Name). read_from n a.source) same ∙ ap (read_from b.name) source

  one_read : (a b : Rest) → Contains Rests a → Contains Rests b → a.name ≡ b.name → awaited_read a ≡ awaited_read b
  one_read a b first second same = ⊎_elim
      (λ x. ⊎_elim (λ y. laid.one_read a b x y same)
      (λ y. absurd (old_new (laid.each a x) (rests_told t g b y) same)) (either second))
      (λ x. ⊎_elim (λ y. absurd (old_new (laid.each b y) (rests_told t g a x) (sym same)))
      (λ y. new_new (rests_told t g a x) (rests_told t g b y) same) (either second)) (either first)

  group_laid : (claimed : ℕ) → RestsLaid (moved t (Accept claimed g))
  group_laid claimed = record {
    each = λ rest there. ⊎_elim (λ k. old_laid (laid.each rest k)) (λ k. new_laid (rests_told t g rest k) k)
        (either there);
    one_read = one_read;
    unmended = λ no. absurd (false≢true (sym no ∙ mended));
  }

pub laid_accepts : (t : Translation) (claimed : ℕ) (g : Group) → Valid t → RestsLaid t →
    IsAllowedMove t (Accept claimed g) → RestsLaid (moved t (Accept claimed g))
laid_accepts t claimed g v laid may = group_laid v laid may.0 may.4 claimed
