-- What blocks record last, after one page or one mark more.
use Rattle.recovery.proofs.Common.{AreGreatest, FoundMark, FoundPage, List, PagesRecord, RecordsUpTo, Some, ap, arith}
use Rattle.recovery.proofs.Common.{block_of, cases_eq, cases_lt, inl, inr, length, refl, same_Some, slice_get, subst}
use Rattle.recovery.proofs.Common.{suc, sym, ℕ, ⊎_elim, ◌<◌, ◌∙◌, ◌≡◌, ◌≢◌, ◌≤◌, ◌⊎◌}
use Rattle.recovery.specs.Frees.{MarksRecord, block_number}

-- What the block records after one thing more

-- the list has one block's number raised to what is recorded
pub record IsRaised (old new : List ℕ) (block frontier : ℕ) : Type 0 where
  pub other : (k : ℕ) → (k ≡ block → ⊥) → slice_get new k ≡ slice_get old k
  pub here : (x : ℕ) → slice_get new block ≡ Some x →
      (y : ℕ) × (slice_get old block ≡ Some y) × (y ≤ x) × (frontier ≤ x) × ((x ≡ y) ⊎ (x ≡ frontier))

pub one_recorded : (Before After : ℕ → ℕ → Type 0) (old new : List ℕ) (block frontier : ℕ) →
    IsRaised old new block frontier → AreGreatest Before old → ((k x : ℕ) → Before k x → After k x) →
    After block frontier → ((k x : ℕ) → After k x → Before k x ⊎ ((k ≡ block) × (x ≡ frontier))) →
    AreGreatest After new
one_recorded Before After old new block frontier raised are keeps more splits = record {
  within = within;
  reached = reached;
}
  where
    within : (k x : ℕ) → slice_get new k ≡ Some x → (y : ℕ) → After k y → y ≤ x
    within k x h y r =
        ⊎_elim
        (λ (e : k ≡ block).
        let b = raised.here x (ap (slice_get new) (sym e) ∙ h) in
        let up = b.2 in
        let high = b.3 in
        ⊎_elim
        (λ (s : Before k y).
        let l = are.within block b.0 b.1 y (subst (λ (i : ℕ). Before i y) e s) in
        omega (arith, l, up))
        (λ (s : (k ≡ block) × (y ≡ frontier)). let f = s.1 in omega (arith, f, high))
        (splits k y r))
        (λ (n : k ≢ block).
        ⊎_elim (λ (s : Before k y). are.within k x (sym (raised.other k n) ∙ h) y s)
        (λ (s : (k ≡ block) × (y ≡ frontier)). absurd (n s.0)) (splits k y r))
        (cases_eq k block)

    reached : (k x : ℕ) → slice_get new k ≡ Some x → (x ≡ 0) ⊎ After k x
    reached k x h =
        ⊎_elim
        (λ (e : k ≡ block).
        let b = raised.here x (ap (slice_get new) (sym e) ∙ h) in
        ⊎_elim
        (λ (s : x ≡ b.0).
        ⊎_elim (λ (z : b.0 ≡ 0). inl (s ∙ z))
        (λ (r : Before block b.0).
        inr (keeps k x (subst (λ (i : ℕ). Before i x) (sym e) (subst (Before block) (sym s) r))))
        (are.reached block b.0 b.1))
        (λ (s : x ≡ frontier). inr (subst (λ (i : ℕ). After i x) (sym e) (subst (After block) (sym s) more)))
        b.4)
        (λ (n : k ≢ block).
        ⊎_elim (λ (z : x ≡ 0). inl z) (λ (r : Before k x). inr (keeps k x r))
        (are.reached k x (sym (raised.other k n) ∙ h)))
        (cases_eq k block)

-- Pages

-- what stands at the end of the first n + 1 is one of the first n, or the last of them
pub last_of : {X : Type 0} (xs : List X) (n i : ℕ) (e f : X) → i < suc n → slice_get xs n ≡ Some e →
    slice_get xs i ≡ Some f → (i < n) ⊎ (e ≡ f)
last_of xs n i e f l at there =
    ⊎_elim (λ (m : i < n). inl m)
    (λ (m : n ≤ i). let same : i ≡ n = omega (arith, l, m) in
    inr (same_Some e f (sym at ∙ sym (ap (slice_get xs) same) ∙ there)))
    (cases_lt i n)

pub page_recorded : (blocks : ℕ) (pages : List FoundPage) (n : ℕ) (e : FoundPage) (old new : List ℕ) →
    slice_get pages n ≡ Some e → IsRaised old new (block_of blocks e) e.tag.frontier →
    AreGreatest (PagesRecord blocks pages n) old → AreGreatest (PagesRecord blocks pages (suc n)) new
page_recorded blocks pages n e old new at raised are =
    one_recorded (PagesRecord blocks pages n) (PagesRecord blocks pages (suc n)) old new (block_of blocks e)
    e.tag.frontier raised are
    (λ k x r. let l = r.2 in (r.0, r.1, omega (arith, l), r.3, r.4, r.5))
    (n, e, omega arith, at, refl, refl)
    (λ k x r. ⊎_elim (λ (l : r.0 < n). inl (r.0, r.1, l, r.3, r.4, r.5))
    (λ (s : e ≡ r.1). inr (
      sym (ap (block_of blocks) s ∙ r.4),
      sym (ap (λ (f : FoundPage). f.tag.frontier) s ∙ r.5),
    ))
    (last_of pages n r.0 e r.1 r.2 at r.3))

-- Marks

pub no_mark_recorded : (blocks : ℕ) (pages : List FoundPage) (marks : List FoundMark) (latests : List ℕ) →
    AreGreatest (PagesRecord blocks pages (length pages)) latests →
    AreGreatest (RecordsUpTo blocks pages marks 0) latests
no_mark_recorded blocks pages marks latests are = record {
  within = λ k x h y r.
      ⊎_elim (λ s. are.within k x h y s)
      (λ (s : MarksRecord blocks marks 0 k y). let l = s.2 in absurd (omega (arith, l))) r;
  reached = λ k x h. ⊎_elim (λ z. inl z) (λ r. inr (inl r)) (are.reached k x h);
}

pub mark_recorded : (blocks : ℕ) (pages : List FoundPage) (marks : List FoundMark) (n : ℕ) (e : FoundMark)
    (old new : List ℕ) → slice_get marks n ≡ Some e → IsRaised old new (block_number blocks e.place) e.records →
    AreGreatest (RecordsUpTo blocks pages marks n) old → AreGreatest (RecordsUpTo blocks pages marks (suc n)) new
mark_recorded blocks pages marks n e old new at raised are =
    one_recorded (RecordsUpTo blocks pages marks n) (RecordsUpTo blocks pages marks (suc n)) old new
    (block_number blocks e.place) e.records raised are
    (λ k x r. ⊎_elim (λ s. inl s)
    (λ (s : MarksRecord blocks marks n k x). let l = s.2 in inr (s.0, s.1, omega (arith, l), s.3, s.4, s.5)) r)
    (inr (n, e, omega arith, at, refl, refl))
    (λ k x r. ⊎_elim (λ s. inl (inl s))
    (λ (s : MarksRecord blocks marks (suc n) k x).
    ⊎_elim (λ (l : s.0 < n). inl (inr (s.0, s.1, l, s.3, s.4, s.5)))
    (λ (f : e ≡ s.1). inr (
      sym (ap (λ (g : FoundMark). block_number blocks g.place) f ∙ s.4),
      sym (ap (λ (g : FoundMark). g.records) f ∙ s.5),
    ))
    (last_of marks n s.0 e s.1 s.2 at s.3)) r)

abbrev pub no_mark : FoundMark
no_mark = record { place = record { die = 0; block = 0; page = 0 }; number = 0; records = 0 }
