-- The rule at work: what the list says of the blocks up to one of them stays right when that one is answered.
use Rattle.recovery.proofs.Common.{Aged, AreByAge, Bool, FoundPage, HasOther, IsBefore, IsDecided, IsNeededIn, List}
use Rattle.recovery.proofs.Common.{None, Option, Some, ap, arith, block_of, cases_Bool, cases_eq, cases_lt, false}
use Rattle.recovery.proofs.Common.{false≢true, inl, inr, length, refl, same_Some, slice_get, slice_get_within}
use Rattle.recovery.proofs.Common.{slice_index_or, subst, sym, true, ℕ, ⊎_elim, ◌+◌, ◌<◌, ◌∙◌, ◌≡◌, ◌≢◌, ◌≤◌, ◌⊎◌}
use Rattle.std.specs.Prelude.{unwrap_or}
use Rattle.std.proofs.lemmas.Option.{unwrap_or-slice_get}
use Rattle.recovery.specs.Frees.{AreDecided, HasOtherThen}
use Rattle.recovery.proofs.frees.Answered.{IsAnswered}

-- What a list says of a block that may be missing

pub said : (xs : List Bool) (k : ℕ) → slice_index_or xs k false ≡ true → slice_get xs k ≡ Some true
said xs k h = by (slice_get xs k) refl
  where
    by : (o : Option Bool) → slice_get xs k ≡ o → slice_get xs k ≡ Some true
    by None e = absurd (false≢true (sym (ap (λ (o : Option Bool). unwrap_or o false) e)
        ∙ (unwrap_or-slice_get xs k false ∙ h)))
    by (Some b) e = e ∙ ap Some (sym (ap (λ (o : Option Bool). unwrap_or o false) e)
        ∙ (unwrap_or-slice_get xs k false ∙ h))

pub said_alike : (xs ys : List Bool) (k : ℕ) → slice_get xs k ≡ slice_get ys k →
    slice_index_or xs k false ≡ slice_index_or ys k false
said_alike xs ys k e =
    sym (unwrap_or-slice_get xs k false)
    ∙ (ap (λ (o : Option Bool). unwrap_or o false) e ∙ unwrap_or-slice_get ys k false)

-- the free ones were gone through
pub gone_now : (order : List Aged) (i : ℕ) (a : Aged) → slice_get order i ≡ Some a →
    (old new : List Bool) (given : Bool) → IsAnswered old new a.block given →
    ((k : ℕ) → slice_get old k ≡ Some true →
    (j : ℕ) × (b : Aged) × (j < i) × (slice_get order j ≡ Some b) × (b.block ≡ k)) →
    (k : ℕ) → slice_get new k ≡ Some true →
    (j : ℕ) × (b : Aged) × (j < i + 1) × (slice_get order j ≡ Some b) × (b.block ≡ k)
gone_now order i a at old new given answered gone k h =
    ⊎_elim (λ (e : k ≡ a.block). (i, a, omega arith, at, sym e))
    (λ (e : k ≢ a.block).
    let r = gone k (sym (answered.other k e) ∙ h) in let l = r.2 in (r.0, r.1, omega (arith, l), r.3, r.4))
    (cases_eq k a.block)

abbrev pub no_block : Aged
no_block = record { latest = 0; block = 0 }

module _ (blocks : ℕ) (latests : List ℕ) (held : List Bool) (pages : List FoundPage) (needed : List Bool)
    (named : List FoundPage) where
  -- a page that stays outside by one list does by another that says no older block free besides
  then_kept : (old new : List Bool) (k : ℕ) (e : FoundPage) → block_of blocks e ≡ k →
      ((m : ℕ) → slice_index_or new m false ≡ true → IsBefore latests m k → slice_index_or old m false ≡ true) →
      HasOtherThen blocks latests named old e → HasOtherThen blocks latests named new e
  then_kept old new k e is down h = (
    h.0,
    h.1,
    h.2,
    h.3,
    λ on before. h.4 (down (block_of blocks h.1) on (subst (IsBefore latests (block_of blocks h.1)) is before)) before,
  )

  decided_alike : (old new : List Bool) (k : ℕ) → slice_get new k ≡ slice_get old k →
      ((m : ℕ) → slice_index_or new m false ≡ true → IsBefore latests m k → slice_index_or old m false ≡ true) →
      ((m : ℕ) → slice_index_or old m false ≡ true → IsBefore latests m k → slice_index_or new m false ≡ true) →
      IsDecided blocks latests held pages needed named old k → IsDecided blocks latests held pages needed named new k
  decided_alike old new k same down up d = record {
    goes = λ h.
        let r = d.goes (sym same ∙ h) in
        (r.0, λ i e n. then_kept old new k e n.inside down (r.1 i e n));
    stays = λ h.
        ⊎_elim (λ l. inl l)
        (λ (r : (i : ℕ) × (e : FoundPage) × IsNeededIn blocks pages needed k i e
        × (HasOtherThen blocks latests named old e → ⊥)).
        inr (r.0, r.1, r.2, λ o. r.3 (then_kept new old k r.1 r.2.inside up o)))
        (d.stays (sym same ∙ h));
  }

  module _ (order : List Aged) (age : AreByAge latests order) (i : ℕ) (a : Aged) (at : slice_get order i ≡ Some a)
      (old new : List Bool) (given : Bool) (answered : IsAnswered old new a.block given)
      (gone : (k : ℕ) → slice_get old k ≡ Some true →
      (j : ℕ) × (b : Aged) × (j < i) × (slice_get order j ≡ Some b) × (b.block ≡ k)) where
    -- what is free so far is older
    older : (k : ℕ) → k ≢ a.block → slice_get old k ≡ Some true → IsBefore latests k a.block
    older k apart on =
        let r = gone k on in
        let l = r.2 in (
          r.1.latest,
          a.latest,
          subst (λ (m : ℕ). slice_get latests m ≡ Some r.1.latest) r.4 (age.each r.0 r.1 r.3),
          age.each i a at,
          ⊎_elim (λ m. inl m)
              (λ (m : (r.1.latest ≡ a.latest) × (r.1.block ≤ a.block)).
              ⊎_elim (λ (s : k < a.block). inr (m.0, s))
              (λ (s : a.block ≤ k). let e = r.4 in let low = m.1 in absurd (apart (omega (arith, e, low, s))))
              (cases_lt k a.block))
              (age.rising r.0 i r.1 a r.3 at (omega (arith, l))),
        )

    -- and it is not older than a block that was gone through before
    not_older : (j : ℕ) (b : Aged) → j < i → slice_get order j ≡ Some b → IsBefore latests a.block b.block → ⊥
    not_older j b l there before =
        let mine = same_Some before.0 a.latest (sym before.2 ∙ age.each i a at) in
        let other = same_Some before.1 b.latest (sym before.3 ∙ age.each j b there) in
        ⊎_elim
        (λ (m : b.latest < a.latest).
        ⊎_elim (λ (s : before.0 < before.1). omega (arith, m, s, mine, other))
        (λ (s : (before.0 ≡ before.1) × (a.block < b.block)). let e = s.0 in omega (arith, m, e, mine, other))
        before.4)
        (λ (m : (b.latest ≡ a.latest) × (b.block ≤ a.block)).
        let f = m.0 in let low = m.1 in
        ⊎_elim (λ (s : before.0 < before.1). omega (arith, f, s, mine, other))
        (λ (s : (before.0 ≡ before.1) × (a.block < b.block)). let e = s.1 in omega (arith, low, e))
        before.4)
        (age.rising j i b a there at (omega (arith, l)))

    -- another page that is not free so far stays outside
    stays_outside : (e : FoundPage) → block_of blocks e ≡ a.block → HasOther blocks named old e →
        HasOtherThen blocks latests named new e
    stays_outside e is h = (
      h.0,
      h.1,
      h.2,
      record { number = h.3; index = h.4.index; apart = h.4.apart },
      λ on before.
          false≢true (sym h.4.stays
          ∙ (sym (said_alike new old (block_of blocks h.1) (answered.other (block_of blocks h.1)
          (λ s. h.4.apart (s ∙ sym is)))) ∙ on)),
    )

    is_outside : (e : FoundPage) → block_of blocks e ≡ a.block → HasOtherThen blocks latests named new e →
        HasOther blocks named old e
    is_outside e is h = (
      h.0,
      h.1,
      h.2,
      h.3.number,
      record {
        index = h.3.index;
        apart = h.3.apart;
        stays =
            ⊎_elim
            (λ (on : slice_index_or old (block_of blocks h.1) false ≡ true).
            absurd (h.4
            (said_alike new old (block_of blocks h.1) (answered.other (block_of blocks h.1) apart) ∙ on)
            (subst (IsBefore latests (block_of blocks h.1)) (sym is)
            (older (block_of blocks h.1) apart (said old (block_of blocks h.1) on)))))
            (λ off. off)
            (cases_Bool (slice_index_or old (block_of blocks h.1) false));
      },
    )
      where
        apart : block_of blocks h.1 ≢ a.block
        apart s = h.3.apart (s ∙ sym is)

    module _ (goes : given ≡ true → (slice_get held a.block ≡ Some false)
        × ((j : ℕ) (e : FoundPage) → IsNeededIn blocks pages needed a.block j e → HasOther blocks named old e))
        (stays : given ≡ false → (slice_get held a.block ≡ Some true)
        ⊎ ((j : ℕ) × (e : FoundPage) × IsNeededIn blocks pages needed a.block j e
        × (HasOther blocks named old e → ⊥))) where
      here : IsDecided blocks latests held pages needed named new a.block
      here = record {
        goes = λ h.
            let r = goes (sym (answered.here true h)) in
            (r.0, λ j e n. stays_outside e n.inside (r.1 j e n));
        stays = λ h.
            ⊎_elim (λ l. inl l)
            (λ (r : (j : ℕ) × (e : FoundPage) × IsNeededIn blocks pages needed a.block j e
            × (HasOther blocks named old e → ⊥)).
            inr (r.0, r.1, r.2, λ o. r.3 (is_outside r.1 r.2.inside o)))
            (stays (sym (answered.here false h)));
      }

      -- the blocks up to this one
      pub one_decided : ((j : ℕ) (b : Aged) → j < i → slice_get order j ≡ Some b →
          IsDecided blocks latests held pages needed named old b.block) →
          (j : ℕ) (b : Aged) → j < i + 1 → slice_get order j ≡ Some b →
          IsDecided blocks latests held pages needed named new b.block
      one_decided before j b l there =
          ⊎_elim
          (λ (s : b.block ≡ a.block).
          subst (λ (k : ℕ). IsDecided blocks latests held pages needed named new k) (sym s) here)
          (λ (apart : b.block ≢ a.block).
          ⊎_elim
          (λ (m : j < i).
          decided_alike old new b.block (answered.other b.block apart)
          (λ k on is. same j b m there k new old
          (λ e. said_alike old new k (sym (answered.other k e))) on is)
          (λ k on is. same j b m there k old new (λ e. said_alike new old k (answered.other k e)) on is)
          (before j b m there))
          (λ (m : i ≤ j).
          let e : j ≡ i = omega (arith, l, m) in
          absurd (apart (ap (λ (d : Aged). d.block)
          (same_Some b a (sym there ∙ (ap (slice_get order) e ∙ at))))))
          (cases_lt j i))
          (cases_eq b.block a.block)
        where
          same : (j : ℕ) (b : Aged) → j < i → slice_get order j ≡ Some b → (k : ℕ) (xs ys : List Bool) →
              (k ≢ a.block → slice_index_or ys k false ≡ slice_index_or xs k false) →
              slice_index_or xs k false ≡ true → IsBefore latests k b.block → slice_index_or ys k false ≡ true
          same j b m there k xs ys alike on is =
              ⊎_elim
              (λ (e : k ≡ a.block).
              absurd (not_older j b m there (subst (λ (o : ℕ). IsBefore latests o b.block) e is)))
              (λ (e : k ≢ a.block). alike e ∙ on)
              (cases_eq k a.block)

  -- all blocks
  pub all_decided : (order : List Aged) (free : List Bool) → AreByAge latests order →
      ((j : ℕ) (b : Aged) → j < length order → slice_get order j ≡ Some b →
      IsDecided blocks latests held pages needed named free b.block) →
      AreDecided blocks latests held pages needed named free
  all_decided order free age each k x h =
      let r = age.all k x h in
      each r.0 (record { latest = x; block = k })
      (slice_get_within order r.0 (record { latest = x; block = k }) r.1) r.1
