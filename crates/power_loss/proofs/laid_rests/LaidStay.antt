-- Rests stay laid over their page where other jobs, steps and pages come and go.
use Rattle.power_loss.proofs.Common.{Book, Bool, Cells, Contains, Flights, FromPage, FromSlot, Key, List, Name, Option}
use Rattle.power_loss.proofs.Common.{Place, Rest, Some, Source, Standing, Step, [], ap, at_name, at_name_cases, false}
use Rattle.power_loss.proofs.Common.{name_is, not, refl, same_name, subst, sym, true, ℕ, ⊎_elim, ◌∙◌, ◌≡◌, ◌≢◌}
use Rattle.ufs_spec.specs.Moves.{rests_without}
use Rattle.ufs_spec.specs.Translation.{awaited_read, read_from}
use Rattle.power_loss.specs.LaidRests.{IsUnflown, IsUnstepped, RestLaid, RestsLaidOf, SourceLaid, WaitsFor}
use Rattle.power_loss.proofs.ordered_lists.ElementsAndOrders.{IsIn, contained_in, filter_in, in_contained, kept_in}

-- Parts of what is known of a rest

-- no die programs a page of a rest that none programmed
abbrev pub StayUnflown : Flights → Flights → List Rest → Type 0
StayUnflown f g rests = (rest : Rest) → Contains rests rest → IsUnflown f rest.name → IsUnflown g rest.name

-- and the step under way copies and repairs none
abbrev pub StayUnstepped : Option Step → Option Step → List Rest → Type 0
StayUnstepped step next rests = (rest : Rest) → Contains rests rest → IsUnstepped step rest.name →
    IsUnstepped next rest.name

-- the pages that rests are read from are the same
abbrev pub PagesSame : Cells → Cells → List Rest → Type 0
PagesSame cells after rests = (rest : Rest) (place : Place) → Contains rests rest → rest.source ≡ FromPage place →
    after place ≡ cells place

source_same : (b : Book) (cells after : Cells) (rests : List Rest) (name : Name) (source : Source) (k : Key) →
    ((place : Place) → source ≡ FromPage place → after place ≡ cells place) → SourceLaid b cells rests name k source →
    SourceLaid b after rests name k source
source_same b cells after rests name (FromPage place) k same h = λ tag body e. h tag body (sym (same place refl) ∙ e)
source_same b cells after rests name (FromSlot other) k same h = h

pub laid_stays : {b : Book} {m n : Bool} {standing : Standing} {f g : Flights} {step next : Option Step}
    {cells after : Cells} {rests : List Rest} → (n ≡ false → m ≡ false) → StayUnflown f g rests →
    StayUnstepped step next rests → PagesSame cells after rests → RestsLaidOf b m standing f step cells rests →
    RestsLaidOf b n standing g next after rests
laid_stays {b} {m} {n} {standing} {f} {g} {step} {next} {cells} {after} {rests} mended fewer steps pages h = record {
  each = λ rest there. one rest there (h.each rest there);
  one_read = h.one_read;
  unmended = λ e. h.unmended (mended e);
}
  where
    one : (rest : Rest) → Contains rests rest → RestLaid b standing f step cells rests rest →
        RestLaid b standing g next after rests rest
    one rest there r = record {
      entry = r.entry;
      is = r.is;
      in_part = r.in_part;
      nowhere = r.nowhere;
      unflown = fewer rest there r.unflown;
      unstepped = steps rest there r.unstepped;
      laid = source_same b cells after rests rest.name rest.source r.entry.item.key
          (λ place e. pages rest place there e)
          r.laid;
      later = r.later;
    }

-- where there is none, they are laid so
pub none_laid : {b : Book} {m : Bool} {standing : Standing} {f : Flights} {step : Option Step} {cells : Cells}
    {rests : List Rest} → rests ≡ [] → RestsLaidOf b m standing f step cells rests
none_laid {b} {m} {standing} {f} {step} {cells} {rests} e = record {
  each = λ rest there. absurd (none rest there);
  one_read = λ r s there also same. absurd (none r there);
  unmended = λ no. e;
}
  where
    none : (rest : Rest) → Contains rests rest → ⊥
    none rest there = subst (λ (xs : List Rest). IsIn rest xs) e (contained_in rests there)

-- a page of another name stands from now on
pub laid_stands : {b : Book} {m : Bool} {standing : Standing} {f : Flights} {step : Option Step} {cells : Cells}
    {rests : List Rest} (name : Name) (p : Place) → ((rest : Rest) → Contains rests rest → rest.name ≢ name) →
    RestsLaidOf b m standing f step cells rests → RestsLaidOf b m (at_name standing name (Some p)) f step cells rests
laid_stands {b} {m} {standing} {f} {step} {cells} {rests} name p other h = record {
  each = λ rest there. one rest (other rest there) (h.each rest there);
  one_read = h.one_read;
  unmended = h.unmended;
}
  where
    one : (rest : Rest) → rest.name ≢ name → RestLaid b standing f step cells rests rest →
        RestLaid b (at_name standing name (Some p)) f step cells rests rest
    one rest apart r = record {
      entry = r.entry;
      is = r.is;
      in_part = r.in_part;
      nowhere = other_stands standing name p rest.name apart ∙ r.nowhere;
      unflown = r.unflown;
      unstepped = r.unstepped;
      laid = r.laid;
      later = r.later;
    }
      where
        other_stands : (s : Standing) (n : Name) (q : Place) (a : Name) → a ≢ n →
            at_name s n (Some q) a.number a.index ≡ s a.number a.index
        other_stands s n q a apart = ⊎_elim (λ k. absurd (apart (name_is a n k.0 k.1))) (λ k. k.1)
            (at_name_cases s n (Some q) a.number a.index)

-- the read of a name came, so that what waits for it is there
pub laid_read : {b : Book} {m : Bool} {standing : Standing} {f : Flights} {step : Option Step} {cells : Cells}
    {rests : List Rest} (name : Name) → RestsLaidOf b m standing f step cells rests →
    RestsLaidOf b m standing f step cells (rests_without name rests)
laid_read {b} {m} {standing} {f} {step} {cells} {rests} name h = record {
  each = λ rest there. let r = left rest there in one rest r.1 (h.each rest r.0);
  one_read = λ r s there also same. h.one_read r s (left r there).0 (left s also).0 same;
  unmended = λ e. ap (rests_without name) (h.unmended e);
}
  where
    test : Rest → Bool
    test rest = not (same_name (awaited_read rest) name)

    left : (rest : Rest) → Contains (rests_without name rests) rest → Contains rests rest × (test rest ≡ true)
    left rest there =
        let r = filter_in test rest rests (contained_in (rests_without name rests) there) in
        (in_contained rests r.0, r.1)

    stays : (rest : Rest) → Contains rests rest → test rest ≡ true → Contains (rests_without name rests) rest
    stays rest there is = in_contained (rests_without name rests)
        (kept_in test rest rests (contained_in rests there) is)

    waits : {n i : ℕ} (read : Name) → not (same_name read name) ≡ true → WaitsFor rests read n i →
        WaitsFor (rests_without name rests) read n i
    waits read other w = record {
      rest = w.rest;
      there = stays w.rest w.there (ap (λ (a : Name). not (same_name a name)) w.awaits ∙ other);
      number = w.number;
      index = w.index;
      awaits = w.awaits;
    }

    source : (rest : Rest) (s : Source) (k : Key) → rest.source ≡ s → test rest ≡ true →
        SourceLaid b cells rests rest.name k s → SourceLaid b cells (rests_without name rests) rest.name k s
    source rest (FromPage place) k e other l = l
    source rest (FromSlot first) k e other l = record {
      first = l.first;
      there = stays l.first l.there (same_test l.first first
          (awaited_page l.first l.read ∙ l.name_is) ∙ (sym (same_test rest first (awaited_slot rest e)) ∙ other));
      name_is = l.name_is;
      place = l.place;
      read = l.read;
      entry = l.entry;
      page = l.page;
      key = l.key;
      older = l.older;
    }
      where
        same_test : (x : Rest) (a : Name) → awaited_read x ≡ a → test x ≡ not (same_name a name)
        same_test x a e = ap (λ (z : Name). not (same_name z name)) e

        awaited_page : (x : Rest) {place : Place} → x.source ≡ FromPage place → awaited_read x ≡ x.name
        awaited_page x e = ap (read_from x.name) e

        awaited_slot : (x : Rest) {a : Name} → x.source ≡ FromSlot a → awaited_read x ≡ a
        awaited_slot x e = ap (read_from x.name) e

    one : (rest : Rest) → test rest ≡ true → RestLaid b standing f step cells rests rest →
        RestLaid b standing f step cells (rests_without name rests) rest
    one rest other r = record {
      entry = r.entry;
      is = r.is;
      in_part = r.in_part;
      nowhere = r.nowhere;
      unflown = r.unflown;
      unstepped = r.unstepped;
      laid = source rest rest.source r.entry.item.key refl other r.laid;
      later = λ n i e l page key. waits (awaited_read rest) other (r.later n i e l page key);
    }
