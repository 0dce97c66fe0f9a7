-- What waits to be programmed is right: a page is known, and a mark is the one of the step under way.
use Rattle.ufs_spec.specs.Configs.{marked as as_marked}
use Rattle.power_loss.proofs.Common.{Bool, Cell, CopyStep, Entry, Fence, Group, GroupPage, IsPageAt, Key, Ledger, List}
use Rattle.power_loss.proofs.Common.{MarkPage, MarkStep, MarkStepRight, Mending, Name, Option, RepairStep, Some, Step}
use Rattle.power_loss.proofs.Common.{StepKind, StepKindRight, Translation, Unmarked, Valid, [], accepted_groups, ap}
use Rattle.power_loss.proofs.Common.{arith, before_accepted, below, book, cell_now, cell_of_entry, false, flies_mark}
use Rattle.power_loss.proofs.Common.{inl, inr, length, names_after, none-some, records_now, refl, slice_get}
use Rattle.power_loss.proofs.Common.{some_flight, step_cell, step_flies, subst, suc, sym, tag_of, true, true≢false}
use Rattle.power_loss.proofs.Common.{waiting_name, waiting_step, ℕ, ⊎_elim, ◌+◌, ◌-◌, ◌<◌, ◌∙◌, ◌∷◌, ◌≡◌, ◌⊎◌}
use Rattle.ufs_spec.proofs.Lists.{get_there}
use Rattle.ufs_spec.specs.Ledger.{entry_of}
use Rattle.ufs_spec.specs.Translation.{names_of}
use Rattle.power_loss.proofs.books.PagesByName.{new_page}
use Rattle.power_loss.proofs.books.FrontierClimbs.{get_drop}
use Rattle.power_loss.proofs.ordered_lists.ElementsAndOrders.{IsIn, below_in, in_either, map_in}
use Rattle.power_loss.proofs.jobs_owed.ProgramsAndErases.{name_owed, step_owed}
use Rattle.power_loss.proofs.books.LayerParts.{MendingOf}

-- Names of accepted groups

-- the name is of a group of the list, whose groups are numbered from the one behind n on
pub record IsNameOf (n : ℕ) (gs : List Group) (name : Name) : Type 0 where
  pub at : ℕ
  pub group : Group
  pub is : slice_get gs at ≡ Some group
  pub number : name.number ≡ n + suc at
  pub index : name.index < length group

pub name_of_group : (n : ℕ) (gs : List Group) (name : Name) → IsIn name (names_after n gs) → IsNameOf n gs name
name_of_group n [] name h = absurd h
name_of_group n (g ∷ gs) name h = ⊎_elim
    (λ k.
    let r = map_in (λ i. record { number = n + 1; index = i }) name (below (length g)) k in
    subst (IsNameOf n (g ∷ gs)) r.2
    (record { at = 0; group = g; is = refl; number = omega arith; index = below_in (length g) r.0 r.1 }))
    (λ k.
    let r = name_of_group (n + 1) gs name k in
    let e = r.number in
    record { at = suc r.at; group = r.group; is = r.is; number = omega arith; index = r.index })
    (in_either name (names_of (n + 1) g) (names_after (n + 1) gs) h)

-- a page of a group of this life has an entry
new_entry : (t : Translation) (name : Name) (j : ℕ) {g : Group} → name.number ≡ t.ledger.greatest_seen + suc j →
    slice_get t.ledger.groups j ≡ Some g → name.index < length g → (e : Entry) × (entry_of t.ledger name ≡ Some e)
new_entry t name j {g} e at in_g =
    let x = get_there g name.index in_g in
    let entry : Entry = record { item = x.0; size = length g } in
    let place : j ≡ name.number - t.ledger.greatest_seen - 1 = omega arith in (
      entry,
      new_page (book t) name.number name.index entry (omega arith)
          (record { group = g; is = ap (slice_get t.ledger.groups) (sym place) ∙ at; item = x.1; size = refl }),
    )

-- What waits

-- the page of a name, with its entry
pub record PageWaits (t : Translation) (cell : Cell) : Type 0 where
  pub name : Name
  pub entry : Entry
  pub is : IsPageAt (book t) name.number name.index entry
  pub cell_is : cell ≡ GroupPage (tag_of name entry t.ledger.frontier) entry.item.body
  pub marked : (fence : Option Fence) (lost : List Key) → t.work.mending ≡ Unmarked fence lost → ⊥

-- the mark of the step under way, while no other mark flies
pub record MarkWaits (t : Translation) (cell : Cell) : Type 0 where
  pub number : ℕ
  pub fence : Option Fence
  pub there : Bool
  pub step_is : t.work.step ≡ Some (record { kind = MarkStep number fence; there = there })
  pub alone : some_flight t flies_mark ≡ false
  pub cell_is : cell ≡ MarkPage (record {
    number = number;
    records = records_now t.ledger fence;
    fence = fence;
    numbers = as_marked t.numbers;
  })
  pub right : MarkStepRight t.ledger.marks t.disk.cells t.work.mending t.work.plan number fence

page_now : (l : Ledger) (name : Name) {e : Entry} {cell : Cell} → entry_of l name ≡ Some e → cell ≡ cell_now l name →
    cell ≡ GroupPage (tag_of name e l.frontier) e.item.body
page_now l name h k = k ∙ ap (λ z. cell_of_entry name z l.frontier) h

abbrev is_unmarked : Mending → Bool
is_unmarked (Unmarked fence lost) = true
is_unmarked w = false

not_unmarked : {w u : Mending} (fence : Option Fence) (lost : List Key) → is_unmarked u ≡ false → w ≡ u →
    w ≡ Unmarked fence lost → ⊥
not_unmarked fence lost other e f = true≢false (sym (ap is_unmarked (sym e ∙ f)) ∙ other)

step_waits : {t : Translation} {cell : Cell} {s : Step} (kind : StepKind) → t.work.step ≡ Some s → s.kind ≡ kind →
    step_flies t kind ≡ false → cell ≡ step_cell t kind →
    StepKindRight (book t) t.ledger.marks t.disk.cells t.work.mending t.work.plan kind → PageWaits t cell
    ⊎ MarkWaits t cell
step_waits {s = s} (MarkStep number fence) e k alone is r = inr record {
  number = number;
  fence = fence;
  there = s.there;
  step_is = e ∙ ap (λ z. Some (record { kind = z; there = s.there })) k;
  alone = alone;
  cell_is = is;
  right = r;
}
step_waits {t} {cell} (CopyStep name from) e k alone is r = inl record {
  name = name;
  entry = r.1.0;
  is = r.1.1;
  cell_is = page_now t.ledger name r.1.1 is;
  marked = λ fence lost. not_unmarked fence lost refl r.0;
}
step_waits {t} {cell} (RepairStep name from) e k alone is r = inl record {
  name = name;
  entry = r.2.0;
  is = r.2.1;
  cell_is = page_now t.ledger name r.2.1 is;
  marked = λ fence lost. not_unmarked fence lost refl r.1;
}

pub step_cell_waits : (t : Translation) (cell : Cell) → Valid t → waiting_step t t.work.step ≡ Some cell →
    PageWaits t cell ⊎ MarkWaits t cell
step_cell_waits t cell v h =
    let r = step_owed t t.work.step cell refl h in
    step_waits r.step.kind r.under_way refl r.flies (sym r.is) (v.step.kind r.step r.under_way)

-- the page of an accepted group

unmarked_none : {t : Translation} (fence : Option Fence) (lost : List Key) → Valid t →
    t.work.mending ≡ Unmarked fence lost → t.ledger.groups ≡ []
unmarked_none {t} fence lost v e = (subst (MendingOf t) e v.mending).none_new

pub name_cell_waits : {t : Translation} {cell : Cell} {name : Name} → Valid t → waiting_name t ≡ Some name →
    cell ≡ cell_now t.ledger name → PageWaits t cell
name_cell_waits {t} {cell} {name} v h is =
    let k = name_of_group (before_accepted t.ledger) (accepted_groups t.ledger) name (name_owed t name h).behind in
    let at = sym (get_drop t.ledger.groups t.ledger.repairs k.at) ∙ k.is in
    let n = k.number in
    let e = new_entry t name (t.ledger.repairs + k.at) (omega arith) at k.index in
    record {
      name = name;
      entry = e.0;
      is = e.1;
      cell_is = page_now t.ledger name e.1 is;
      marked = λ fence lost m.
          none-some k.group (sym (ap (λ z. slice_get z (t.ledger.repairs + k.at)) (unmarked_none fence lost v m)) ∙ at);
    }
