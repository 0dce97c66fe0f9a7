-- The name of what stands on a page: that of a page of a pending group, or that of a durable content.
use Rattle.std.proofs.Common.{◌≡◌, ◌∙◌, ℕ, zero, suc, ◌<◌, Bool, true, false, cond, List, [], ◌∷◌, Option, Some, None}
use Rattle.std.proofs.Common.{ap, arith, length, refl, subst, sym, inl, inr}
use Rattle.std.specs.Prelude.{Contains, IfSome, slice_index_or}
use Rattle.std.specs.List.{find}
use Rattle.std.specs.Option.{UnwrapsOrElse}
use Rattle.ufs_spec.proofs.Equalities.{place_self, place_told}
use Rattle.ufs_spec.proofs.Facts.{false≢true, none-some, same_Some, true≢false}
use Rattle.ufs_spec.specs.declared.flash.Key.{Key}
use Rattle.ufs_spec.specs.declared.flash.Place.{Place}
use Rattle.unit_map.specs.Places.{UnitMap, stored_in}
use Rattle.unit_map.specs.declared.KeyedName.{KeyedName}
use Rattle.unit_map.specs.declared.Stored.{Stored}
use Rattle.write_cache.specs.Slots.{is_at, is_there}
use Rattle.write_cache.specs.declared.slots.Pending.{Pending}
use Rattle.collector.specs.Plans.{IsNamed}

-- Searches

-- what a search finds is in the list and passes the test
found_in : {X : Type 0} (p : X → Bool) (xs : List X) (x : X) → find p xs ≡ Some x → Contains xs x × (p x ≡ true)
found_in p [] x e = absurd (none-some x e)
found_in {X} p (y ∷ ys) x e = by (p y) refl e (found_in p ys x)
  where
    by : (b : Bool) → p y ≡ b → cond b (Some y) (find p ys) ≡ Some x →
        (find p ys ≡ Some x → Contains ys x × (p x ≡ true)) → Contains (y ∷ ys) x × (p x ≡ true)
    by true t h later = let same = same_Some y x h in ((0, omega arith, same), ap p (sym same) ∙ t)
    by false t h later = let r = later h in let lt = r.0.1 in ((suc r.0.0, omega (arith, lt), r.0.2), r.1)

-- where it finds none, none passes
none_in : {X : Type 0} (p : X → Bool) (xs : List X) → find p xs ≡ None → (x : X) → Contains xs x → p x ≡ true → ⊥
none_in p [] e x at t = let lt = at.1 in absurd (omega (arith, lt))
none_in {X} p (y ∷ ys) e x at t = by (p y) refl e (λ h. none_in p ys h x) at.0 at.1 at.2
  where
    by : (b : Bool) → p y ≡ b → cond b (Some y) (find p ys) ≡ None →
        (find p ys ≡ None → Contains ys x → p x ≡ true → ⊥) →
        (k : ℕ) → k < suc (length ys) → slice_index_or (y ∷ ys) k x ≡ x → ⊥
    by true f h later k lt is = none-some y (sym h)
    by false f h later zero lt is = true≢false (sym t ∙ ap p (sym is) ∙ f)
    by false f h later (suc k) lt is = later h (k, omega (arith, lt), is) t

-- Pages that are written

written_there : (p : Place) (q : Pending) → is_there p q ≡ true → q.written ≡ Some p
written_there p q t = by q.written t
  where
    by : (w : Option Place) → is_at p w ≡ true → w ≡ Some p
    by None h = absurd (false≢true h)
    by (Some w) h = ap (λ (z : Place). Some z) (place_told w p h)

there_written : (p : Place) (q : Pending) → q.written ≡ Some p → is_there p q ≡ true
there_written p q e = ap (is_at p) e ∙ place_self p

-- Names

module _ (m : UnitMap) (ps : List Pending) (p : Place) where
  -- the page of a pending group that is written there gives the name
  pub pending_named : (q : Pending) → find (is_there p) ps ≡ Some q →
      IsNamed m ps (record { from = p; key = q.key; number = q.number })
  pending_named q e =
      let r = found_in (is_there p) ps q e in inl (inr (q, r.0, written_there p q r.1, refl, refl))

  -- where there is none, the durable content does; and without either nothing stands there
  pub durable_named : find (is_there p) ps ≡ None → (o : Option KeyedName) →
      IfSome o (λ n. stored_in m.numbers m.places n.key ≡ Some (record { name = n.name; place = p })) →
      (o ≡ None → (k : Key) (s : Stored) → stored_in m.numbers m.places k ≡ Some s → s.place ≡ p → ⊥) →
      (Default : KeyedName → Type 0) (n : KeyedName) → UnwrapsOrElse o Default n →
      IsNamed m ps (record { from = p; key = n.key; number = n.name.number })
  durable_named none (Some found) is bare Default n same =
      inl (inl (
        record { name = n.name; place = p },
        subst (λ (z : KeyedName). stored_in m.numbers m.places z.key ≡ Some (record { name = z.name; place = p }))
            (sym same) is,
        refl,
        refl,
      ))
  durable_named none None is bare Default n same =
      inr (record {
        durable = bare refl;
        pending = λ q within w. none_in (is_there p) ps none q within (there_written p q w);
      })
