-- A group more, that is accepted behind all others: its pages are kept behind those that are, and what is known of the
-- ledger, of the mending and of pins stays.
use Rattle.ftl_core.proofs.Common.{Core, Describes, Entry, InSlot, IsLookOf, Key, Ledger, LedgerKept, List, Looked}
use Rattle.ftl_core.proofs.Common.{Name, None, OnPage, Option, PagesKept, Pending, Pin, PinsKept, Place, Some, Step}
use Rattle.ftl_core.proofs.Common.{StepKept, Translation, Unwritten, WorkKept, [], ap, append-nil, arith}
use Rattle.ftl_core.proofs.Common.{before_accepted, book, entry_of, is_mended, latest_durable, latest_in, length}
use Rattle.ftl_core.proofs.Common.{length-drop, names_after, names_of, names_pending, page_grows, pending, repairs_in}
use Rattle.ftl_core.proofs.Common.{stored_of, subst, suc, sym, true, true≢false, ℕ, ◌++◌, ◌+◌, ◌∙◌, ◌∷◌, ◌≡◌, ◌≤◌}
use Rattle.std.proofs.Common.{◌-◌}
use Rattle.std.proofs.lemmas.List.{take-append-le}
use Rattle.ufs_spec.specs.Keys as keys
use Rattle.ufs_spec.specs.Ledger.{next_number}
use Rattle.ufs_spec.specs.Translation as layer
use Rattle.ufs_spec.specs.Translation.{Rest, Work}
use Rattle.ufs_spec.proofs.Lists.{grown_length}
use Rattle.ftl_core.specs.declared.books.Mending.{Mending}
use Rattle.ftl_core.specs.declared.books.Step.TheVariants as steps
use Rattle.ftl_core.specs.Moves as core
use Rattle.ftl_core.proofs.look_and_accept.Numbers.{pending_mended}
use Rattle.ftl_core.proofs.pages.NamesBehind.{names_more}
use Rattle.ftl_core.proofs.pages.PagesNamed.{pages_known, pages_more}
use Rattle.ftl_core.proofs.pages.StoredNames.{AreAlike}

-- The ledger

abbrev pub with_group : Ledger → keys.Group → Ledger
with_group l g = record l { groups = l.groups ++ g ∷ [] }

-- at the frontier nothing changes
durable_same : (l : Ledger) (g : keys.Group) (k : Key) → l.frontier - l.greatest_seen ≤ length l.groups →
    latest_durable l k ≡ latest_durable (with_group l g) k
durable_same l g k w = ap (λ (gs : List keys.Group). latest_in k l.greatest_seen gs (l.first_page k))
    (sym (take-append-le (l.frontier - l.greatest_seen) l.groups (g ∷ []) w))

-- the names of the group come behind those that are pending
names_grow : (l : Ledger) (g : keys.Group) → l.greatest_seen ≤ l.frontier →
    l.frontier ≤ l.greatest_seen + length l.groups → before_accepted l ≤ l.frontier →
    pending (with_group l g) ≡ pending l ++ g ∷ [] →
    names_pending (with_group l g) ≡ names_pending l ++ names_of (next_number l) g
names_grow l g above within repaired pends =
    ap (names_after l.frontier) pends
    ∙ (names_more l.frontier (pending l) (g ∷ [])
    ∙ ap (λ (names : List Name). names_pending l ++ names)
    (append-nil (names_of (l.frontier + length (pending l) + 1) g) ∙ ap (λ (n : ℕ). names_of n g) number))
  where
    number : l.frontier + length (pending l) + 1 ≡ next_number l
    number =
        let long = length-drop (l.frontier - l.greatest_seen) l.groups in
        let same = ap (λ (gs : List keys.Group). length gs) (pending_mended l repaired) in
        omega (arith, long, same, above, within)

pub ledger_more : (c : Core) (t : Translation) (g : keys.Group) (ps : List Pending) → Describes c t →
    is_mended t.work.mending ≡ true → pending (with_group t.ledger g) ≡ pending t.ledger ++ g ∷ [] →
    PagesKept t.ledger.standing (entry_of (with_group t.ledger g)) ps (names_of (next_number t.ledger) g) →
    LedgerKept c.numbers c.places (c.pages ++ ps) c.frontier (core.next_number c) (with_group t.ledger g)
ledger_more c t g ps h mended pends new = record {
  frontier = h.kept.ledger_kept.frontier;
  last_given =
      let e = h.kept.ledger_kept.last_given in
      let long = grown_length t.ledger.groups g in
      omega (arith, e, long);
  pages = subst (PagesKept t.ledger.standing (entry_of (with_group t.ledger g)) (c.pages ++ ps))
      (sym (names_grow t.ledger g h.valid.frontier.above h.valid.frontier.within
      (h.kept.work.repaired mended) pends))
      (pages_more t.ledger.standing (entry_of (with_group t.ledger g)) c.pages ps (names_pending t.ledger)
      (names_of (next_number t.ledger) g)
      (pages_known t.ledger.standing (entry_of t.ledger) (entry_of (with_group t.ledger g)) c.pages
      (names_pending t.ledger)
      (λ (name : Name) (e : Entry) known. page_grows (book t) g name.number name.index e known)
      h.kept.ledger_kept.pages) new);
  keys = h.kept.ledger_kept.keys;
  places = λ j is. subst (AreAlike t.ledger.standing (stored_of c j))
      (durable_same t.ledger g j (let a = h.valid.frontier.above in let w = h.valid.frontier.within in omega arith))
      (h.kept.ledger_kept.places j is);
}

-- What is known of the mending

-- once the device is mended, a group more at the end leaves what is known of steps
pub work_more : (m : Mending) (left : List Key) (step : Option Step) (content : List ℕ) (next : ℕ) (w : Work)
    (l after : Ledger) → is_mended w.mending ≡ true → repairs_in step ≡ 0 → after.marks ≡ l.marks →
    before_accepted after ≤ after.frontier →
    ((name : Name) (e : Entry) → entry_of l name ≡ Some e → entry_of after name ≡ Some e) →
    ((name : Name) (p : Place) → l.standing name.number name.index ≡ Some p →
    (q : Place) × (after.standing name.number name.index ≡ Some q)) →
    WorkKept m left step content next w l → WorkKept m left step content next w after
work_more m left step content next w l after mended none marks repaired known stands k = record {
  mending_is = k.mending_is;
  step_is = step_same step w.step none k.step_is;
  to_repair = λ e. absurd (true≢false (sym mended ∙ e));
  next_mark = k.next_mark ∙ ap suc (sym marks);
  repaired = λ e. repaired;
}
  where
    step_same : (s : Option Step) (u : Option layer.Step) → repairs_in s ≡ 0 → StepKept l s content u →
        StepKept after s content u
    step_same None None e r = r
    step_same None (Some x) e r = absurd r
    step_same (Some (steps.Mark n fence)) None e r = absurd r
    step_same (Some (steps.Mark n fence)) (Some x) e r = r
    step_same (Some (steps.Repair n key from there)) u e r = cc
    step_same (Some (steps.Copy n key from read)) None e r = absurd r
    step_same (Some (steps.Copy n key from read)) (Some x) e r =
        let there = stands r.0 r.2.place r.2.stands in (
          r.0,
          r.1,
          record {
            number_is = r.2.number_is;
            place = there.0;
            stands = there.1;
            entry = r.2.entry;
            known = known r.0 r.2.entry r.2.known;
            key = r.2.key;
            copied = r.2.copied;
          },
        )

-- what is known of the other work does not depend on rests
pub rests_more : (m : Mending) (left : List Key) (step : Option Step) (content : List ℕ) (next : ℕ) (w : Work)
    (l : Ledger) (rests : List Rest) → WorkKept m left step content next w l →
    WorkKept m left step content next (record w { rests = rests }) l
rests_more m left step content next w l rests k = record {
  mending_is = k.mending_is;
  step_is = k.step_is;
  to_repair = k.to_repair;
  next_mark = k.next_mark;
  repaired = k.repaired;
}

-- Pins

-- what is of a key stays so
pub pins_kept_more : (t : Translation) (g : keys.Group) (ps : List Pin) (qs : List layer.Pin) →
    PinsKept t.ledger.frontier (entry_of t.ledger) ps qs →
    PinsKept t.ledger.frontier (entry_of (with_group t.ledger g)) ps qs
pins_kept_more t g [] [] r = tt
pins_kept_more t g [] (q ∷ qs) r = absurd r
pins_kept_more t g (p ∷ ps) [] r = absurd r
pins_kept_more t g (p ∷ ps) (q ∷ qs) r = (
  record {
    tag = r.0.tag;
    index = r.0.index;
    looked = r.0.looked;
    there = there_more p.key q.looked r.0.there;
    wanted = r.0.wanted;
  },
  pins_kept_more t g ps qs r.1,
)
  where
    there_more : (k : Key) (x : Looked) → IsLookOf t.ledger.frontier (entry_of t.ledger) k x →
        IsLookOf t.ledger.frontier (entry_of (with_group t.ledger g)) k x
    there_more k Unwritten r = tt
    there_more k (InSlot name) r = (r.0, (r.1.0, page_grows (book t) g name.number name.index r.1.0 r.1.1, r.1.2))
    there_more k (OnPage name p) r = (r.0, page_grows (book t) g name.number name.index r.0 r.1, r.2)
