-- What the layer looks up is what the ledger has.
use Rattle.ftl_core.proofs.Common.{Core, Describes, InSlot, IsKey, IsLastOf, Key, Ledger, Name, None, NoneOf, Numbers}
use Rattle.ftl_core.proofs.Common.{Option, Pending, Some, Stored, Translation, ap, arith, false, if_false, if_true}
use Rattle.ftl_core.proofs.Common.{if◌then◌else◌, is_mended, last_page, latest_cases, latest_durable, latest_in, le-ltb}
use Rattle.ftl_core.proofs.Common.{look, look_now, looked_on, lt-ltb, nat_lt, refl, shape_of_numbers, stored_of, subst}
use Rattle.ftl_core.proofs.Common.{sym, true, ⊎_elim, ◌<◌, ◌∙◌, ◌≡◌, ◌≤◌}
use Rattle.std.specs.Prelude.{Bool, List}
use Rattle.ufs_spec.specs.Ledger as ledger
use Rattle.power_loss.proofs.kept_pages.LookedUpPages.{durable_within as durable_below, latest_splits}
use Rattle.ftl_core.proofs.job_taken.Mended.{none_waiting}
use Rattle.ftl_core.specs.Moves.{look_of, looked_at}
use Rattle.ftl_core.proofs.look_and_accept.LastPages.{last_kept, none_kept}
use Rattle.ftl_core.proofs.look_and_accept.LookedPages.{durable_within}
use Rattle.ftl_core.proofs.look_and_accept.Numbers.{behind, kept_pages}
use Rattle.ftl_core.proofs.pages.NamesBehind.{name_is}
use Rattle.ftl_core.proofs.pages.StoredNames.{AreAlike, none_there, stored_there}

-- the last page of the key is looked at in its slot
in_slot : (l : Ledger) (name : Name) (o : Option Pending) (s : Option Stored) (p : Pending) → o ≡ Some p →
    l.frontier < name.number → p.number ≡ name.number → p.index ≡ name.index →
    looked_at o s ≡ ledger.looked_at l (Some name)
in_slot l name o s p e above number index =
    ap (λ (x : Option Pending). looked_at x s) e
    ∙ ap InSlot (sym (name_is name (sym number) (sym index)))
    ∙ sym (if_true (nat_lt l.frontier name.number) (InSlot name) (looked_on name (l.standing name.number name.index))
    (lt-ltb l.frontier name.number above))

-- and where there is none, the place that is stored
on_page : (l : Ledger) (s : Option Stored) (o : Option Name) → AreAlike l.standing s o →
    ((name : Name) → o ≡ Some name → name.number ≤ l.frontier) → looked_at None s ≡ ledger.looked_at l o
on_page l None o r within = ap (ledger.looked_at l) (sym (none_there l.standing o r))
on_page l (Some s) o r within =
    let t = stored_there l.standing s o r in
    sym (ap (ledger.looked_at l) t.0
    ∙ if_false (nat_lt l.frontier s.name.number) (InSlot s.name)
    (looked_on s.name (l.standing s.name.number s.name.index)) (le-ltb l.frontier s.name.number (within s.name t.0))
    ∙ ap (looked_on s.name) t.1)

module _ (c : Core) (t : Translation) (h : Describes c t) (mended : is_mended t.work.mending ≡ true) where
  -- the layer looks up what the ledger has
  pub looks : (k : Key) → IsKey (shape_of_numbers t.numbers) k → look_of c k ≡ look t.ledger k
  looks k is =
      subst (λ o. look_of c k ≡ ledger.looked_at t.ledger o)
      (sym (latest_splits t.ledger k h.valid.frontier.above h.valid.frontier.within))
      (⊎_elim pending stored (latest_cases k t.ledger.frontier (behind t.ledger) (latest_durable t.ledger k)))
    where
      pending : IsLastOf k t.ledger.frontier (behind t.ledger)
          (latest_in k t.ledger.frontier (behind t.ledger) (latest_durable t.ledger k)) →
          look_of c k ≡ ledger.looked_at t.ledger
          (latest_in k t.ledger.frontier (behind t.ledger) (latest_durable t.ledger k))
      pending l =
          let number = l.number in
          let r = last_kept t h.valid c.pages (kept_pages c t h mended) k
          (latest_in k t.ledger.frontier (behind t.ledger) (latest_durable t.ledger k)) l in
          subst (λ o. look_of c k ≡ ledger.looked_at t.ledger o) (sym l.is)
          (in_slot t.ledger l.name (last_page k c.pages) (stored_of c k) r.0 r.1 (omega arith) r.2 r.3)

      stored : (latest_in k t.ledger.frontier (behind t.ledger)
          (latest_durable t.ledger k) ≡ latest_durable t.ledger k)
          × NoneOf k (behind t.ledger) →
          look_of c k ≡ ledger.looked_at t.ledger
          (latest_in k t.ledger.frontier (behind t.ledger) (latest_durable t.ledger k))
      stored r =
          subst (λ o. look_of c k ≡ ledger.looked_at t.ledger o) (sym r.0)
          (subst (λ (o : Option Pending).
          looked_at o (stored_of c k) ≡ ledger.looked_at t.ledger (latest_durable t.ledger k))
          (sym (none_kept t h.valid c.pages (kept_pages c t h mended) k r.1))
          (on_page t.ledger (stored_of c k) (latest_durable t.ledger k)
          (h.kept.ledger_kept.places k (subst (λ (n : Numbers). IsKey (shape_of_numbers n) k) (sym h.kept.numbers) is))
          (λ name e. durable_within t k name h.valid mended is e)))

-- what a task finds of a key is looked up, whether the device is mended or not: until then no slot has a group
pub looks_now : (c : Core) (t : Translation) → Describes c t → (k : Key) → IsKey (shape_of_numbers t.numbers) k →
    look_of c k ≡ look_now t k
looks_now c t h k is = by (is_mended t.work.mending) refl
  where
    by : (b : Bool) → is_mended t.work.mending ≡ b →
        look_of c k ≡ (if b then look t.ledger k else ledger.looked_at t.ledger (latest_durable t.ledger k))
    by true e = looks c t h e k is
    by false e =
        ap (λ (ps : List Pending). looked_at (last_page k ps) (stored_of c k)) (none_waiting c t h e)
        ∙ on_page t.ledger (stored_of c k) (latest_durable t.ledger k)
        (h.kept.ledger_kept.places k (subst (λ (n : Numbers). IsKey (shape_of_numbers n) k) (sym h.kept.numbers) is))
        (λ name f. durable_below k name h.valid is f)
