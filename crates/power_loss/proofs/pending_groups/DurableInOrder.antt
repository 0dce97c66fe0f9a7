-- Accepted groups become durable in their order.
use Rattle.power_loss.proofs.Common.{◌≡◌, ℕ, suc, ◌+◌, ◌-◌, ◌<◌, ◌≤◌, is_some, Bool, true, false, List, [], ◌∷◌, ◌++◌}
use Rattle.power_loss.proofs.Common.{drop, length, take, Some, None, slice_get, refl, sym, ap, ◌∙◌, subst, ⊎_elim}
use Rattle.power_loss.proofs.Common.{arith, take-append-drop, not-false, none-some, same_Some, Cells, Spot, Contents}
use Rattle.power_loss.proofs.Common.{Group, put_groups, Ledger, Name, at_name, before_accepted, durable_contents}
use Rattle.power_loss.proofs.Common.{is_standing, page_stands, IsAllowedMove, Move, moved, IsOpenedTranslation}
use Rattle.power_loss.proofs.Common.{Translation, name_of, Numbers, Place, Tag, at_name_cases, book, Valid}
use Rattle.power_loss.proofs.MachineWords.{FrontierStops, PendingStays, accepted_by, brings_page}
use Rattle.ufs_spec.specs.Ledger.{all_contents, pending}
use Rattle.power_loss.proofs.books.FrontierClimbs.{climbs_up, get_drop}
use Rattle.power_loss.proofs.pending_groups.PendingByFrontier.{climb_stays, front_of, group_next, page_stops}
use Rattle.power_loss.proofs.pending_groups.PendingByFrontier.{put_accepted, put_more}
use Rattle.power_loss.proofs.stops.ImageContents.{after_none}
use Rattle.power_loss.proofs.pending_groups.PendingByMove.{effect}

abbrev pub Front : Ledger → Ledger → Type 0
Front before now = (k : ℕ) × (pending now ≡ drop k (pending before))
    × (durable_contents now ≡ put_groups (durable_contents before) (take k (pending before)))

-- a page of a group that is programmed makes a front of what is pending durable
page_front : {t : Translation} (tag : Tag) (p : Place) → Valid t → Front t.ledger (page_stands t.ledger (name_of tag) p)
page_front {t} tag p v =
    let l = page_stands t.ledger (name_of tag) p in
    front_of t.ledger.base t.ledger.groups t.ledger.repairs t.ledger.greatest_seen t.ledger.frontier l.frontier
    v.history.contents (climbs_up (book t) l.standing t.ledger.frontier)

-- a page that stood already moves no frontier
no_climb : (l : Ledger) (name : Name) (p : Place) → l.greatest_seen ≤ l.frontier → FrontierStops l →
    is_standing l name.number name.index ≡ true → (page_stands l name p).frontier ≡ l.frontier
no_climb l name p low stops there = climb_stays (λ n i. is_some (at_name l.standing name (Some p) n i))
    (drop (l.frontier - l.greatest_seen) l.groups)
    (λ g h.
    let zero : l.frontier - l.greatest_seen + 0 ≡ l.frontier - l.greatest_seen = omega arith in
    let next : l.frontier + 1 ≡ suc l.frontier = omega arith in
    let x = stops g (group_next l.greatest_seen l.frontier l.groups low ∙ sym (ap (slice_get l.groups) zero)
    ∙ sym (get_drop l.groups (l.frontier - l.greatest_seen) 0) ∙ h) in
    (x.0, x.1, ap (λ n. is_some (at_name l.standing name (Some p) n x.0)) (sym next) ∙ still x.0 x.2))
  where
    still : (i : ℕ) → l.standing (l.frontier + 1) i ≡ None →
        is_some (at_name l.standing name (Some p) (l.frontier + 1) i) ≡ false
    still i e = ⊎_elim (λ k. absurd (apart (sym there ∙ ap is_some ((λ j. l.standing (sym k.0 j) (sym k.1 j)) ∙ e))))
        (λ k. ap is_some (k.1 ∙ e)) (at_name_cases l.standing name (Some p) (l.frontier + 1) i)
      where
        apart : true ≡ false → ⊥
        apart z = cc

same_frontier : (l m : Ledger) → m.base ≡ l.base → m.greatest_seen ≡ l.greatest_seen → m.groups ≡ l.groups →
    m.repairs ≡ l.repairs → m.frontier ≡ l.frontier → PendingStays l m
same_frontier l m b t g r f =
    (λ i. drop (f i - (t i + r i)) (drop (r i) (g i)), λ i. put_groups (b i) (take (f i - t i) (g i)))

module _ (t : Translation) (move : Move) (v : Valid t) (may : IsAllowedMove t move) where
  pub accept : (g : Group) → accepted_by move ≡ Some g → (pending (moved t move).ledger ≡ pending t.ledger ++ g ∷ []) ×
      (durable_contents (moved t move).ledger ≡ durable_contents t.ledger)
  accept g is = ⊎_elim (λ x. absurd (none-some g (sym x.accepts ∙ is)))
      (⊎_elim
      (λ x. (
        x.pends ∙ ap (λ (h : Group). pending t.ledger ++ h ∷ []) (same_Some x.group g (sym x.accepts ∙ is)),
        x.durable,
      )) (λ x. absurd (none-some g (sym x.accepts ∙ is)))) (effect move v may)

  pub front : accepted_by move ≡ None → Front t.ledger (moved t move).ledger
  front is = ⊎_elim (λ x. (0, x.stays.0.0, x.stays.0.1))
      (⊎_elim (λ x. absurd (none-some x.group (sym is ∙ x.accepts)))
      (λ x. subst (Front t.ledger) (sym x.is) (page_front x.tag x.place v))) (effect move v may)

  pub others : FrontierStops t.ledger → accepted_by move ≡ None → brings_page t move ≡ false →
      PendingStays t.ledger (moved t move).ledger
  others stops is old = ⊎_elim (λ x. x.stays.0)
      (⊎_elim (λ x. absurd (none-some x.group (sym is ∙ x.accepts)))
      (λ x. subst (PendingStays t.ledger) (sym x.is)
      (same_frontier t.ledger (page_stands t.ledger (name_of x.tag) x.place) refl refl refl refl
      (no_climb t.ledger (name_of x.tag) x.place v.frontier.above stops
      (not-false (is_standing t.ledger x.tag.number x.tag.index) (sym x.new ∙ old)))))) (effect move v may)

  pub stops : FrontierStops t.ledger → FrontierStops (moved t move).ledger
  stops was = ⊎_elim (λ x. x.stays.1 was)
      (⊎_elim (λ x. x.stops was)
      (λ x. subst FrontierStops (sym x.is) (page_stops t.ledger (name_of x.tag) x.place v.frontier.above)))
      (effect move v may)

pub opened : (n : Numbers) (c : Cells) (bad : Spot → Bool) (t : Translation) → IsOpenedTranslation n c bad t →
    FrontierStops t.ledger
opened n c bad t o g h =
    absurd (none-some g (sym (ap (λ (gs : List Group). slice_get gs (t.ledger.frontier - t.ledger.greatest_seen))
    o.ledger.none_new)
    ∙ sym (group_next t.ledger.greatest_seen t.ledger.frontier t.ledger.groups (let e = o.ledger.frontier in
    omega arith)) ∙ h))

pub first : (t : Translation) (g : Group) → Valid t → FrontierStops t.ledger →
    before_accepted t.ledger ≤ t.ledger.frontier → slice_get (pending t.ledger) 0 ≡ Some g →
    (i : ℕ) × (i < length g) × (t.ledger.standing (t.ledger.frontier + 1) i ≡ None)
first t g v stops low h = stops g
    (group_next t.ledger.greatest_seen t.ledger.frontier t.ledger.groups v.frontier.above
    ∙ sym (get_drop (drop t.ledger.repairs t.ledger.groups)
    (t.ledger.frontier - (t.ledger.greatest_seen + t.ledger.repairs)) 0
    ∙ get_drop t.ledger.groups t.ledger.repairs (t.ledger.frontier - (t.ledger.greatest_seen + t.ledger.repairs) + 0)
    ∙ ap (slice_get t.ledger.groups) index) ∙ h)
  where
    index : t.ledger.repairs + (t.ledger.frontier - (t.ledger.greatest_seen + t.ledger.repairs) + 0) ≡ t.ledger.frontier
        - t.ledger.greatest_seen
    index = omega (arith, low)

pub all : (t : Translation) → Valid t → put_groups (durable_contents t.ledger) (pending t.ledger) ≡ all_contents
    t.ledger
all t v =
    ap (λ f. put_groups f (drop m later)) (put_accepted base groups repairs (t.ledger.frontier - t.ledger.greatest_seen)
    v.history.contents ∙ ap (λ n. put_groups base (take n later)) at)
    ∙ sym (put_more base (take m later) (drop m later)) ∙ ap (put_groups base) (take-append-drop m later)
    ∙ ap (λ f. put_groups f later) (sym (after_none groups repairs repairs v.history.contents (omega arith)))
    ∙ sym (put_more base (take repairs groups) later) ∙ ap (put_groups base) (take-append-drop repairs groups)
  where
    base : Contents
    base = t.ledger.base

    groups : List Group
    groups = t.ledger.groups

    repairs : ℕ
    repairs = t.ledger.repairs

    later : List Group
    later = drop t.ledger.repairs t.ledger.groups

    m : ℕ
    m = t.ledger.frontier - (t.ledger.greatest_seen + t.ledger.repairs)

    at : t.ledger.frontier - t.ledger.greatest_seen - t.ledger.repairs ≡ t.ledger.frontier -
        (t.ledger.greatest_seen + t.ledger.repairs)
    at = omega arith
