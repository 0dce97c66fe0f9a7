-- Sound cells that lose pages which may go by their newest mark are sound and have the same contents.
use Rattle.power_loss.proofs.Common.{◌≡◌, ℕ, suc, ◌<◌, ◌≤◌, ◌⊎◌, List, Option, Some, None, refl, sym, ◌∙◌, subst, inl}
use Rattle.power_loss.proofs.Common.{inr, ⊎_elim, arith, Cells, GroupPage, Mark, MarkPage, key_of, Counts, HasPage}
use Rattle.power_loss.proofs.Common.{Holds, IsFenced, IsKept, IsRecorded, IsWhole, CellsSound, CellsSuit, SamePage}
use Rattle.power_loss.proofs.Common.{Numbers, Fence, Key, Place, Tag, at_most}

-- the page is fenced, a copy of it is left, or a newer page of its key counts at or under what the mark records
abbrev pub MayGo : Cells → Cells → Mark → Tag → List ℕ → Type 0
MayGo c left m t body = IsFenced m.fence t.number
    ⊎ (((q : Place) × (u : Tag) × (left q ≡ GroupPage u body) × SamePage t body u body)
    ⊎ ((q : Place) × (u : Tag) × (other : List ℕ) × (c q ≡ GroupPage u other) × (IsFenced m.fence u.number → ⊥) ×
    (key_of u ≡ key_of t) × (t.number < u.number) × (u.number ≤ m.records)))

pub record Loss (c left : Cells) (m : Mark) : Type 0 where
  pub pages : (p : Place) (t : Tag) (body : List ℕ) → left p ≡ GroupPage t body → c p ≡ GroupPage t body
  pub marks : (p : Place) (other : Mark) → left p ≡ MarkPage other → c p ≡ MarkPage other
  pub may : (p : Place) (t : Tag) (body : List ℕ) → c p ≡ GroupPage t body → (left p ≡ GroupPage t body) ⊎
      MayGo c left m t body
  pub place : Place
  pub there : left place ≡ MarkPage m

module _ (c left : Cells) (m : Mark) (x : Loss c left m) (sound : CellsSound c (Some m)) where
  fenced_under : (o : Option Fence) (n : ℕ) → m.fence ≡ o → IsFenced o n → n ≤ m.records
  fenced_under None n e h = absurd h
  fenced_under (Some f) n e h = let r = sound.fence f e in let l = h.1 in omega arith

  counted : {p : Place} {t : Tag} {body : List ℕ} → Counts left (Some m) p t body → Counts c (Some m) p t body
  counted {p} {t} {body} k = record { there = x.pages p t body k.there; free = k.free }

  -- of a page above what the mark records a copy is left
  above_left : (p : Place) (t : Tag) (body : List ℕ) → c p ≡ GroupPage t body → m.records < t.number →
      (q : Place) × (u : Tag) × (left q ≡ GroupPage u body) × SamePage t body u body
  above_left p t body h up = ⊎_elim (λ e. (p, t, e, (refl, refl, refl, refl, refl))) gone (x.may p t body h)
    where
      gone : MayGo c left m t body → (q : Place) × (u : Tag) × (left q ≡ GroupPage u body) × SamePage t body u body
      gone (inl f) = absurd (let l = fenced_under m.fence t.number refl f in omega arith)
      gone (inr (inl k)) = k
      gone (inr (inr (q, u, other, there, free, key, newer, far))) = absurd (omega arith)

  page_left : (k i : ℕ) → m.records < k → HasPage c k i → HasPage left k i
  page_left k i up h =
      let n = h.4 in
      let r = above_left h.0 h.1 h.2 h.3 (omega arith) in
      (r.0, r.1, h.2, r.2, sym r.3.1 ∙ h.4, sym r.3.2 ∙ h.5)

  whole_less : {k : ℕ} → m.records < k → IsWhole c k → IsWhole left k
  whole_less {k} up w = record {
    size = w.size;
    some = w.some;
    one_size = λ p t body h n. w.one_size p t body (x.pages p t body h) n;
    each = λ i l. page_left k i up (w.each i l);
  }

  whole_more : {k : ℕ} → m.records < k → IsWhole left k → IsWhole c k
  whole_more up w = record {
    size = w.size;
    some = w.some;
    one_size = λ p t body h n.
        let r = above_left p t body h (omega arith) in
        r.3.3 ∙ w.one_size r.0 r.1 body r.2 (sym r.3.1 ∙ n);
    each = λ i l. let h = w.each i l in (h.0, h.1, h.2, x.pages h.0 h.1 h.2 h.3, h.4, h.5);
  }

  recorded_less : {r top : ℕ} → IsRecorded left (Some m) r → IsRecorded c (Some m) top → r ≤ top
  recorded_less {r} {top} h k = go h.reached
    where
      go : (r ≡ 0) ⊎ (((p : Place) × (t : Tag) × (body : List ℕ) × Counts left (Some m) p t body × (t.frontier ≡ r)) ⊎
          ((p : Place) × (other : Mark) × (left p ≡ MarkPage other) × (other.records ≡ r))) → r ≤ top
      go (inl e) = omega arith
      go (inr (inl (p, t, body, y, e))) = let z = k.pages p t body (counted y) in omega arith
      go (inr (inr (p, n, y, e))) = let z = k.marks p n (x.marks p n y) in omega arith

  pub holds_less : (bound : ℕ) (k : Key) (f : List ℕ) → ((j : ℕ) → (IsFenced m.fence j → ⊥) → j ≤ m.records →
      j < bound) → Holds c (Some m) bound k f → Holds left (Some m) bound k f
  holds_less bound k f within (inr h) = inr (λ p t body y. h.0 p t body (counted y), h.1)
  holds_less bound k f within (inl (p, t, new)) = ⊎_elim
      (λ e. inl (
        p,
        t,
        record {
          counts = record { there = e; free = new.counts.free };
          key = new.key;
          within = new.within;
          greatest = λ q u other y. new.greatest q u other (counted y);
        },
      )) gone (x.may p t f new.counts.there)
    where
      gone : MayGo c left m t f → Holds left (Some m) bound k f
      gone (inl y) = absurd (new.counts.free y)
      gone (inr (inl (q, u, there, same))) =
          let n = same.1 in
          let w = new.within in
          inl (
            q,
            u,
            record {
              counts = record { there = there; free = λ y. new.counts.free (subst (IsFenced m.fence) (sym same.1) y) };
              key = sym same.0 ∙ new.key;
              within = omega arith;
              greatest = λ r v other y e l. let z = new.greatest r v other (counted y) e l in omega arith;
            },
          )
      gone (inr (inr (q, u, other, there, free, key, newer, far))) =
          let z = new.greatest q u other (record { there = there; free = free }) (key ∙ new.key)
          (within u.number free far) in
          absurd (omega arith)

  fence_bound : {f : Fence} → m.fence ≡ Some f → (j : ℕ) → (IsFenced m.fence j → ⊥) → j ≤ m.records → j < f.first
  fence_bound {f} e j free far =
      let r = sound.fence f e in
      ⊎_elim (λ l. absurd (free (subst (λ o. IsFenced o j) (sym e) (l, omega arith)))) (λ l. l) (at_most f.first j)

  pub less_sound : {top : ℕ} → IsRecorded c (Some m) top → CellsSound left (Some m)
  less_sound {top} recorded = record {
    pages = λ p q t u body other h l n same. sound.pages p q t u body other (x.pages p t body h)
        (x.pages q u other l) n same;
    marks = λ p q a b h l n. sound.marks p q a b (x.marks p a h) (x.marks q b l) n;
    whole = λ r n is up far. let z = recorded_less is recorded in whole_less up (sound.whole top n recorded up
        (omega arith));
    fence = sound.fence;
    repairs = λ f e p t body y up. holds_less f.first (key_of t) body (fence_bound e) (sound.repairs f e p t body
        (counted y) up);
  }

  pub less_suits : {n : Numbers} → CellsSuit n c (Some m) → CellsSuit n left (Some m)
  less_suits s = record { config = s.config; keys = λ p t body h. s.keys p t body (x.pages p t body h) }

  pub kept_less : {k l : ℕ} → IsKept c (Some m) k → IsKept left (Some m) l → k ≡ l
  kept_less {k} {l} a b =
      let top = a.recorded.marks x.place m (x.marks x.place m x.there) in
      let low = b.recorded.marks x.place m x.there in
      let under = recorded_less b.recorded a.recorded in
      let far = a.above in
      let near = b.above in
      let up : k ≤ l = ⊎_elim (λ e. e)
      (λ e. absurd (b.stops (whole_less (omega arith)
      (⊎_elim (λ z. sound.whole a.from (suc l) a.recorded (omega arith) z)
      (λ z. a.whole (suc l) z (omega arith)) (at_most (suc l) a.from))))) (at_most k l) in
      let down : l ≤ k = ⊎_elim (λ e. e)
      (λ e. absurd (a.stops (whole_more (omega arith) (b.whole (suc k) (omega arith) (omega arith))))) (at_most l k) in
      omega arith
