-- Whether a group is whole can be decided, and there is a kept number.
use Rattle.ufs_laws.proofs.Common.{AreWithin, Cell, Cells, GroupPage, IsKept, IsRecorded, IsWhole, List, Mark, MarkPage}
use Rattle.ufs_laws.proofs.Common.{Nothing, Numbers, Option, Place, Tag, ap, arith, at_most, inl, inr, refl, subst, suc}
use Rattle.ufs_laws.proofs.Common.{sym, zero, ℕ, ⊎_elim, ◌+◌, ◌<◌, ◌∙◌, ◌≡◌, ◌≢◌, ◌≤◌}
use Rattle.ufs_laws.proofs.array_cells.NewestFound.{recorded}
use Rattle.ufs_laws.proofs.deciding.SearchOverPlaces.{Decided, alike, both, greatest, is_number, not, some_below}
use Rattle.ufs_laws.proofs.deciding.SearchOverPlaces.{some_cell}
use Rattle.ufs_spec.specs.Kept.{HasPage}

-- Pages of a sort

-- a page of a group whose tag is of the sort
abbrev IsOf : (Tag → Type 0) → Cell → Type 0
IsOf P Nothing = ⊥
IsOf P (GroupPage t body) = P t
IsOf P (MarkPage m) = ⊥

is_of : (P : Tag → Type 0) → ((t : Tag) → Decided (P t)) → (x : Cell) → Decided (IsOf P x)
is_of P d (GroupPage t body) = d t
is_of P d cell = inr (λ h. h)

page_in : (P : Tag → Type 0) (x : Cell) → IsOf P x → (t : Tag) × (body : List ℕ) × (x ≡ GroupPage t body) × P t
page_in P (GroupPage t body) h = (t, body, refl, h)
page_in P cell h = absurd h

abbrev HasOf : Cells → (Tag → Type 0) → Type 0
HasOf c P = (p : Place) × (t : Tag) × (body : List ℕ) × (c p ≡ GroupPage t body) × P t

-- there is a page of the sort, or none
has_of : (n : Numbers) (c : Cells) → AreWithin n c → (P : Tag → Type 0) → ((t : Tag) → Decided (P t)) →
    Decided (HasOf c P)
has_of n c within P d =
    alike
    (λ (h : (p : Place) × IsOf P (c p)). let o = page_in P (c h.0) h.1 in (h.0, o.0, o.1, o.2, o.3))
    (λ h. (h.0, subst (IsOf P) (sym h.3) h.4))
    (some_cell n c within (IsOf P) (is_of P d) (λ h. h))

-- Whole groups

module _ (n : Numbers) (c : Cells) (within : AreWithin n c) (group : ℕ) where
  has_page : (i : ℕ) → Decided (HasPage c group i)
  has_page i =
      alike
      (λ (h : HasOf c (λ t. (t.number ≡ group) × (t.index ≡ i))). (h.0, h.1, h.2, h.3, h.4.0, h.4.1))
      (λ h. (h.0, h.1, h.2, h.3, (h.4, h.5)))
      (has_of n c within (λ t. (t.number ≡ group) × (t.index ≡ i))
      (λ t. both (is_number t.number group) (is_number t.index i)))

  -- a page of the group that says another size
  abbrev HasOther : ℕ → Type 0
  HasOther size = HasOf c (λ t. (t.number ≡ group) × (t.size ≢ size))

  has_other : (size : ℕ) → Decided (HasOther size)
  has_other size =
      has_of n c within (λ t. (t.number ≡ group) × (t.size ≢ size))
      (λ t. both (is_number t.number group) (not (is_number t.size size)))

  module _ (p : Place) (t : Tag) (body : List ℕ) (there : c p ≡ GroupPage t body) (number : t.number ≡ group) where
    full : (w : IsWhole c group) → t.size ≡ w.size
    full w = w.one_size p t body there number

    -- no page says another size, and each index has its page
    all_there : 0 < t.size → (HasOther t.size → ⊥) → ((i : ℕ) → i < t.size → (HasPage c group i → ⊥) → ⊥) →
        IsWhole c group
    all_there some none all = record {
      size = t.size;
      some = some;
      one_size =
          λ q u other e f. ⊎_elim (λ h. h) (λ h. absurd (none (q, u, other, e, (f, h)))) (is_number u.size t.size);
      each = λ i l. ⊎_elim (λ h. h) (λ h. absurd (all i l h)) (has_page i);
    }

    lacks : (i : ℕ) → i < t.size → (HasPage c group i → ⊥) → IsWhole c group → ⊥
    lacks i l none w = none (w.each i (let e = full w in omega arith))

    of_one_size : 0 < t.size → (HasOther t.size → ⊥) → Decided (IsWhole c group)
    of_one_size some none =
        ⊎_elim
        (λ (h : (i : ℕ) × (i < t.size) × (HasPage c group i → ⊥)). inr (lacks h.0 h.1 h.2))
        (λ all. inl (all_there some none all))
        (some_below (λ i. HasPage c group i → ⊥) (λ i. not (has_page i)) t.size)

    of_page : Decided (IsWhole c group)
    of_page =
        ⊎_elim
        (λ z. inr (λ w. let e = full w in let s = w.some in omega arith))
        (λ some. ⊎_elim
        (λ (o : HasOther t.size). inr (λ w. o.4.1 (w.one_size o.0 o.1 o.2 o.3 o.4.0 ∙ sym (full w))))
        (of_one_size some)
        (has_other t.size))
        (at_most t.size 0)

  pub is_whole : Decided (IsWhole c group)
  is_whole =
      ⊎_elim
      (λ (h : HasOf c (λ t. t.number ≡ group)). of_page h.0 h.1 h.2 h.3 h.4)
      (λ none. inr (λ w. let h = w.each 0 w.some in none (h.0, h.1, h.2, h.3, h.4)))
      (has_of n c within (λ t. t.number ≡ group) (λ t. is_number t.number group))

-- The kept number

-- no page has a number above this one
abbrev EndsAt : Cells → ℕ → Type 0
EndsAt c end = (p : Place) (t : Tag) (body : List ℕ) → c p ≡ GroupPage t body → t.number ≤ end

-- from a number on, up to which all groups above the recorded frontier are whole, there is the kept number
search_up : (n : Numbers) (c : Cells) → AreWithin n c → (m : Option Mark) (from : ℕ) → IsRecorded c m from →
    (fuel k : ℕ) → from ≤ k → ((i : ℕ) → from < i → i ≤ k → IsWhole c i) → EndsAt c (k + fuel) →
    (kept : ℕ) × IsKept c m kept
search_up n c within m from r zero k l whole end = (
  k,
  record {
    from = from;
    recorded = r;
    above = l;
    whole = whole;
    stops = λ w. let h = w.each 0 w.some in let t = end h.0 h.1 h.2 h.3 in let e = h.4 in omega arith;
  },
)
search_up n c within m from r (suc fuel) k l whole end =
    ⊎_elim
    (λ w. search_up n c within m from r fuel (suc k) (omega arith) (up_to w)
    (λ p t body e. let h = end p t body e in omega arith))
    (λ s. (k, record { from = from; recorded = r; above = l; whole = whole; stops = s }))
    (is_whole n c within (suc k))
  where
    up_to : IsWhole c (suc k) → (i : ℕ) → from < i → i ≤ suc k → IsWhole c i
    up_to w i low high = ⊎_elim (λ h. whole i low h) (λ h. subst (IsWhole c) (omega arith) w) (at_most i k)

abbrev group_weight : Cell → ℕ
group_weight Nothing = 0
group_weight (GroupPage t body) = t.number
group_weight (MarkPage m) = 0

pub kept : (n : Numbers) (c : Cells) → AreWithin n c → (m : Option Mark) → (k : ℕ) × IsKept c m k
kept n c within m =
    let r = recorded n c within m in
    let g = greatest n c within group_weight refl in
    search_up n c within m r.0 r.1 g.weight r.0 (omega arith) (λ i low high. absurd (omega arith))
    (λ p t body e. let a = g.above p in let b = ap group_weight e in omega arith)
