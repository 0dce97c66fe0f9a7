-- One page of a group of pages with keys of their own, as it is kept once the group is accepted.
use Rattle.ftl_core.proofs.Common.{All, Bool, Brought, Core, Describes, Group, IsKey, IsNumbered, IsPartBrought, Item}
use Rattle.ftl_core.proofs.Common.{Key, List, Name, None, Numbers, Option, OwedSource, PageKept, Pending, RestKept}
use Rattle.ftl_core.proofs.Common.{Some, Translation, added_page, ap, arith, book, claim_at, entry_of, false}
use Rattle.ftl_core.proofs.Common.{get_or_from_slice_get, greatest_number, grown, if◌then◌else◌, is_mended, is_sealable}
use Rattle.ftl_core.proofs.Common.{last_number, last_page, length, length-map, look, lt-ltb, map, name_at, nat_le}
use Rattle.ftl_core.proofs.Common.{nat_lt, new_page, next_number, none-some, option_and_then, option_map, own_name}
use Rattle.ftl_core.proofs.Common.{page_brought, part_of, refl, rest_kept, rest_of_name, same_Some, shape_of_numbers}
use Rattle.ftl_core.proofs.Common.{slice_get, slice_get-map, slice_get_within, source_kept, stored_of, subst, suc, sym}
use Rattle.ftl_core.proofs.Common.{true, with_part_of, ℕ, ◌&&◌, ◌∙◌, ◌≡◌, ◌≤◌}
use Rattle.std.proofs.Common.{le-leb}
use Rattle.ufs_spec.specs.Ledger as ledger
use Rattle.ufs_spec.specs.Ledger.{all_contents}
use Rattle.ufs_spec.specs.Moves.{IsGroup}
use Rattle.ufs_spec.specs.Pages.{group_bound}
use Rattle.ufs_spec.specs.Plain.{zero_block}
use Rattle.ufs_spec.specs.Translation.{Source, is_in_part, rest_at, rest_of_item, source_of}
use Rattle.power_loss.proofs.accepted_groups.AcceptedGroup.{group_may}
use Rattle.power_loss.proofs.laid_rests.BelowGroups.{below_last}
use Rattle.power_loss.proofs.pending_groups.PendingByFrontier.{beyond}
use Rattle.write_cache.specs.declared.rests.Part.{Part}
use Rattle.write_cache.specs.declared.rests.Rest as cache
use Rattle.write_cache.specs.declared.rests.RestSource.{RestSource}
use Rattle.write_cache.specs.declared.rests.RestSource.TheVariants as source
use Rattle.write_cache.specs.Rests.{base_in, body_brought, page_of, rest_by}
use Rattle.ftl_core.specs.Pinned.{look_of_source}
use Rattle.ftl_core.specs.Rests.{last_source, source_for}
use Rattle.ftl_core.specs.Tells.{IsGroupBrought, IsItemBrought}
use Rattle.ftl_core.proofs.job_taken.StepPages.{sealable}
use Rattle.ftl_core.proofs.look_and_accept.BroughtBodies.{part_back, part_length, whole_page, zeros_length}
use Rattle.ftl_core.proofs.look_and_accept.MoreGroups.{with_group}
use Rattle.ftl_core.proofs.look_and_accept.Numbers.{numbers_right}
use Rattle.ftl_core.proofs.look_and_accept.SourcesFound.{owed_base, owed_of, source_found}

-- what is brought for the slot that was claimed for an index
abbrev pub brought_at : Core → List Brought → ℕ → ℕ → Option Pending
brought_at c xs reader i =
    page_brought c.pages (next_number c) (map (new_page c) xs) (claim_at reader i zero_block)

-- the page that is made of it there
abbrev pub page_made : Core → List Brought → ℕ → ℕ → Brought → Pending
page_made c xs reader i x =
    page_of (next_number c) (length (map (new_page c) xs)) (claim_at reader i zero_block)
    (body_brought c.pages (new_page c x) zero_block) (new_page c x)

pub made_there : (c : Core) (xs : List Brought) (reader i : ℕ) (x : Brought) → slice_get xs i ≡ Some x →
    brought_at c xs reader i ≡ Some (page_made c xs reader i x)
made_there c xs reader i x at =
    ap (option_map (λ y. page_of (next_number c) (length (map (new_page c) xs)) (claim_at reader i zero_block)
    (body_brought c.pages y zero_block) y))
    (slice_get-map (new_page c) xs i ∙ ap (option_map (new_page c)) at)

-- Rests by their sources

-- the rest that a page keeps is of its name, and from what is owed
kept_source : (own : Name) (part : Part) (s : RestSource) → rest_of_name own (rest_by part s) ≡
    option_map (λ (from : Source). record { name = own; source = from }) (option_map source_kept (owed_of s))
kept_source own part source.Nothing = refl
kept_source own part (source.Slot name) = refl
kept_source own part (source.Page name place) = refl
kept_source own part (source.Owed name) = refl

none_by : (part : Part) (s : RestSource) → rest_by part s ≡ None → owed_of s ≡ None
none_by part source.Nothing e = refl
none_by part (source.Slot name) e = refl
none_by part (source.Page name place) e = absurd (none-some _ (sym e))
none_by part (source.Owed name) e = absurd (none-some _ (sym e))

some_by : (part : Part) (s : RestSource) (r : cache.Rest) → rest_by part s ≡ Some r →
    (owed_of s ≡ Some r.source) × (r.part ≡ part)
some_by part source.Nothing r e = absurd (none-some r e)
some_by part (source.Slot name) r e = absurd (none-some r e)
some_by part (source.Page name place) r e =
    let same = same_Some _ r e in
    (ap (λ (z : cache.Rest). Some z.source) same, ap (λ (z : cache.Rest). z.part) (sym same))
some_by part (source.Owed name) r e =
    let same = same_Some _ r e in
    (ap (λ (z : cache.Rest). Some z.source) same, ap (λ (z : cache.Rest). z.part) (sym same))

if_mapped : {A B : Type 0} (f : A → B) (b : Bool) (o : Option A) →
    (if b then option_map f o else None) ≡ option_map f (if b then o else None)
if_mapped f true o = refl
if_mapped f false o = refl

-- One page

-- what the page's source says: where nothing is owed the page has its item's content
record IsSource (c : Core) (t : Translation) (item : Item) (x : Brought) (s : RestSource) (from : Option Source) :
    Type 0 where
  pub owes : option_map source_kept (owed_of s) ≡ from
  pub whole : owed_of s ≡ None → with_part_of x.part x.bytes.now (base_in c.pages zero_block s) ≡ item.body
  pub numbered : (o : OwedSource) → owed_of s ≡ Some o → IsNumbered t.disk.cells (look_of_source o)

-- the page of an item of the group
pub record IsMade (c : Core) (t : Translation) (g : Group) (xs : List Brought) (reader i : ℕ) : Type 0 where
  pub page : Pending
  pub there : brought_at c xs reader i ≡ Some page
  pub kept : PageKept t.ledger.standing (entry_of (with_group t.ledger g)) page
      (name_at (ledger.next_number t.ledger) i)
  pub new : page.written ≡ None
  pub rest : rest_kept page ≡ rest_at t g i
  pub laid : (r : cache.Rest) → page.rest ≡ Some r → RestKept (grown (book t) g) t.disk.cells page r

module _ (c : Core) (t : Translation) (h : Describes c t) (mended : is_mended t.work.mending ≡ true)
    (few : length c.numbers.units.items ≤ 8) (g : Group) (is : IsGroup t g)
    (left : ledger.next_number t.ledger ≤ greatest_number) (xs : List Brought) (parts : All IsPartBrought xs)
    (short : length xs ≤ 3) (brought : IsGroupBrought t g xs) (reader : ℕ) where
  number : next_number c ≡ ledger.next_number t.ledger
  number = numbers_right c t h

  module _ (i : ℕ) (item : Item) (x : Brought) (at : slice_get g i ≡ Some item) (from : slice_get xs i ≡ Some x) where
    part : IsPartBrought x
    part = subst IsPartBrought (get_or_from_slice_get xs i x x from) (parts i x (slice_get_within xs i x from))

    this : IsItemBrought t item x
    this = brought.each i item x at from

    block : length item.body ≡ 4096
    block = ap (λ (y : Item). length y.body) (sym (get_or_from_slice_get g i item item at))
        ∙ (is.items i item (slice_get_within g i item at)).block.0

    key : IsKey (shape_of_numbers t.numbers) x.key
    key = subst (IsKey (shape_of_numbers t.numbers)) this.key ((group_may is).keys i item at)

    -- its source
    found : IsSource c t item x (source_for c x.key)
        (if is_in_part x.key then source_of t.work.rests (look t.ledger x.key) else None)
    found = by (is_in_part x.key) refl
      where
        by : (b : Bool) → is_in_part x.key ≡ b →
            IsSource c t item x
            (if b then last_source (last_page x.key c.pages) (stored_of c x.key) else source.Nothing)
            (if b then source_of t.work.rests (look t.ledger x.key) else None)
        by true e =
            let f = source_found c t h mended x.key key in
            record {
              owes = f.owes;
              whole = λ none. ap (with_part_of x.part x.bytes.now) (f.there none) ∙ sym this.body;
              numbered = f.numbered;
            }
        by false e = record {
          owes = refl;
          whole = λ none. whole_page x zero_block part (this.whole e) zeros ∙ sym mine;
          numbered = λ o none. absurd (none-some o none);
        }
          where
            mine : item.body ≡ x.bytes.now
            mine = this.body ∙ whole_page x (all_contents t.ledger x.key) part (this.whole e)
                (ap (λ (body : List ℕ). length body) (sym this.body) ∙ block)

            zeros : length (with_part_of x.part x.bytes.now zero_block) ≡ 4096
            zeros = part_length x zero_block part zeros_length

    abbrev page : Pending
    page = page_made c xs reader i x

    size : length g ≡ page.size
    size = brought.as_many ∙ sym (length-map xs (new_page c))

    item_is : item ≡ record { key = x.key; body = item.body }
    item_is = λ j. record { key = this.key j; body = item.body }

    entry : entry_of (with_group t.ledger g) (name_at (ledger.next_number t.ledger) i)
        ≡ Some (record { item = record { key = x.key; body = item.body }; size = page.size })
    entry = added_page (book t) g (ledger.next_number t.ledger) i
        (record { item = record { key = x.key; body = item.body }; size = page.size })
        (record { last = omega arith; item = at ∙ ap (λ (y : Item). Some y) item_is; size = sym size })

    sealed : is_sealable x.key ≡ true
    sealed = sealable (shape_of_numbers t.numbers) x.key
        (omega (
          arith,
          length-map t.numbers.units.items (λ u. u.blocks),
          ap (λ (n : Numbers). length n.units.items) h.kept.numbers,
          few,
        ))
        key

    kept : PageKept t.ledger.standing (entry_of (with_group t.ledger g)) page (name_at (ledger.next_number t.ledger) i)
    kept = record {
      number = number;
      index = refl;
      body = item.body;
      entry = entry;
      group_page = λ j. sealed j && one j && most j && index j && bound j;
      stands = beyond (ledger.next_number t.ledger) i h.valid.frontier (omega arith);
      whole = λ none. found.whole (none_by x.part (source_for c x.key) none);
    }
      where
        one : nat_le 1 (next_number c) ≡ true
        one = le-leb 1 (next_number c) (omega arith)

        most : nat_le (next_number c) greatest_number ≡ true
        most = le-leb (next_number c) greatest_number (omega (arith, number, left))

        index : nat_lt i page.size ≡ true
        index = lt-ltb i page.size (let w = slice_get_within g i item at in omega (arith, w, size))

        bound : nat_le page.size group_bound ≡ true
        bound = le-leb page.size group_bound (let e = brought.as_many in omega (arith, size, e, short))

    -- its rest is the one of the layer
    own : own_name page ≡ name_at (ledger.next_number t.ledger) i
    own = ap (λ (n : ℕ). name_at n i) number

    rest : rest_kept page ≡ rest_at t g i
    rest =
        kept_source (own_name page) x.part (source_for c x.key)
        ∙ ((λ j. option_map (λ (s : Source). record { name = own j; source = s }) (found.owes j))
        ∙ sym (ap (option_and_then (rest_of_item t (name_at (ledger.next_number t.ledger) i))) at
        ∙ ap (λ (k : Key). if is_in_part k
        then option_map (λ (s : Source). record { name = name_at (ledger.next_number t.ledger) i; source = s })
        (source_of t.work.rests (look t.ledger k))
        else None) this.key
        ∙ if_mapped (λ (s : Source). record { name = name_at (ledger.next_number t.ledger) i; source = s })
        (is_in_part x.key) (source_of t.work.rests (look t.ledger x.key))))

    -- and it is laid over what its key has
    laid : (r : cache.Rest) → page.rest ≡ Some r → RestKept (grown (book t) g) t.disk.cells page r
    laid r e = record {
      laid = record {
        entry = record { item = record { key = x.key; body = item.body }; size = page.size };
        is = subst (λ (n : ℕ). entry_of (with_group t.ledger g) (name_at n i)
            ≡ Some (record { item = record { key = x.key; body = item.body }; size = page.size })) (sym number) entry;
        key = refl;
        body = this.body
            ∙ (λ j. with_part_of (sym same.1 j) (sym back j)
            (sym (below_last (book t) g (next_number c) last) j x.key));
      };
      numbered = found.numbered r.source same.0;
    }
      where
        same : (owed_of (source_for c x.key) ≡ Some r.source) × (r.part ≡ x.part)
        same = some_by x.part (source_for c x.key) r e

        last : next_number c ≡ suc (last_number (book t))
        last = omega (arith, number)

        back : part_of r.part page.body ≡ x.bytes.now
        back =
            (λ j. part_of (same.1 j) (with_part_of x.part x.bytes.now
            (owed_base c.pages zero_block (source_for c x.key) r.source same.0 j)))
            ∙ part_back x zero_block part zeros_length

    pub made : IsMade c t g xs reader i
    made = record {
      page = page;
      there = made_there c xs reader i x from;
      kept = kept;
      new = refl;
      rest = rest;
      laid = laid;
    }
