-- What the entries of a journal may make of a base, and that each command among them could come.
use Rattle.heard_laws.proofs.Common.{List, None, Some, [], ap, arith, inl, inr, length, none-some, refl, same_Some}
use Rattle.heard_laws.proofs.Common.{subst, sym, ℕ, ◌∷◌, ◌≡◌, ◌≤◌}
use Rattle.std.proofs.Common.{map, replicate, slice_index_or, slice_set, suc, take, zero, ⊎_elim, ◌<◌}
use Rattle.ufs_spec.specs.Commands.{Command, RpmbWrite, SetBoot, SetKey, SetPermanent, Write, Zero}
use Rattle.ufs_spec.specs.Keys.{CanApplyAll}
use Rattle.ufs_spec.specs.Plain.{CanApply, FindsCounter, LiesWithin, Plain, Region, Shape, after, apply, changed_by}
use Rattle.ufs_spec.specs.Plain.{counter_end, empty_region, shape_of, with_part, zero_block}
use Rattle.journal.specs.Entries.{Accepted, CanFollow, Doubted, IsAfter, Leads, Noted, Refused, setting_command}
use Rattle.journal.specs.declared.entries.Setting.{Setting}
use Rattle.journal.specs.declared.entries.Setting.TheVariants as setting
use Rattle.heard_laws.proofs.rolls.Rolls.{Roll, count, somes}
use Rattle.heard_laws.proofs.rolls.StandingRolls.{Stand, Stands}

-- ## What they may make

leads_on : (p : Plain) (e : Noted) (c : Command) → Stands e (Some c) → Leads p e (apply p c)
leads_on p (Accepted d) c h = ap (apply p) (same_Some c d h)
leads_on p (Doubted s) c h =
    ⊎_elim (λ (e : Some c ≡ None). absurd (none-some c (sym e)))
    (λ (e : Some c ≡ Some (setting_command s)). inr (ap (apply p) (same_Some c (setting_command s) e))) h
leads_on p Refused c h = absurd (none-some c (sym h))

stays : (p : Plain) (e : Noted) → Stands e None → Leads p e p
stays p (Accepted d) h = absurd (none-some d h)
stays p (Doubted s) h = inl refl
stays p Refused h = refl

pub may_make : (p : Plain) (es : List Noted) (os : Roll) → Stand es os → IsAfter p es (after p (somes os))
may_make p [] [] h = refl
may_make p (e ∷ es) (None ∷ os) h = (p, stays p e h.0, may_make p es os h.1)
may_make p (e ∷ es) (Some c ∷ os) h = (apply p c, leads_on p e c h.0, may_make (apply p c) es os h.1)
may_make p [] (o ∷ os) h = absurd h
may_make p (e ∷ es) [] h = absurd h

-- ## How many of them

-- so many entries, no fewer than these, have the first k commands
pub record HasFirst (roll : Roll) (least k : ℕ) : Type 0 where
  pub entries : ℕ
  pub enough : least ≤ entries
  pub inside : entries ≤ length roll
  pub same : somes (take entries roll) ≡ take k (somes roll)

pub first_of : (roll : Roll) (least k : ℕ) → count least roll ≤ k → k ≤ length (somes roll) → least ≤ length roll →
    HasFirst roll least k
first_of [] least zero few most inside = record { entries = 0; enough = inside; inside = omega arith; same = refl }
first_of [] least (suc k) few most inside = absurd (omega (arith, most))
first_of (None ∷ os) zero zero few most inside =
    record { entries = 0; enough = omega arith; inside = omega arith; same = refl }
first_of (Some c ∷ os) zero zero few most inside =
    record { entries = 0; enough = omega arith; inside = omega arith; same = refl }
first_of (None ∷ os) zero (suc k) few most inside =
    let r = first_of os zero (suc k) (omega arith) most (omega arith) in
    let i = r.inside in
    record { entries = suc r.entries; enough = omega arith; inside = omega (arith, i); same = r.same }
first_of (Some c ∷ os) zero (suc k) few most inside =
    let r = first_of os zero k (omega arith) (omega (arith, most)) (omega arith) in
    let i = r.inside in
    record {
      entries = suc r.entries;
      enough = omega arith;
      inside = omega (arith, i);
      same = ap (λ (cs : List Command). c ∷ cs) r.same;
    }
first_of (None ∷ os) (suc least) k few most inside =
    let r = first_of os least k few most (omega (arith, inside)) in
    let i = r.inside in
    let e = r.enough in
    record { entries = suc r.entries; enough = omega (arith, e); inside = omega (arith, i); same = r.same }
first_of (Some c ∷ os) (suc least) zero few most inside = absurd (omega (arith, few))
first_of (Some c ∷ os) (suc least) (suc k) few most inside =
    let r = first_of os least k (omega (arith, few)) (omega (arith, most)) (omega (arith, inside)) in
    let i = r.inside in
    let e = r.enough in
    record {
      entries = suc r.entries;
      enough = omega (arith, e);
      inside = omega (arith, i);
      same = ap (λ (cs : List Command). c ∷ cs) r.same;
    }

-- ## That each could come

-- two plain states that differ in settings alone
pub record Alike (p q : Plain) : Type 0 where
  pub units : p.units ≡ q.units
  pub regions : p.regions ≡ q.regions

can_too : (p q : Plain) (c : Command) → Alike p q → CanApply q c → CanApply p c
can_too p q c a can = (subst (λ (s : Shape). LiesWithin s c) same can.0, finds c can.1)
  where
    same : shape_of q ≡ shape_of p
    same = λ i. record {
      blocks = map length (sym a.units i);
      areas = map (λ (r : Region). length r.area) (sym a.regions i);
    }

    finds : (d : Command) → FindsCounter q d → FindsCounter p d
    finds (RpmbWrite region address bytes) h =
        subst (λ (rs : List Region). (slice_index_or rs region empty_region).counter < counter_end) (sym a.regions) h
    finds (Write unit address blocks) h = tt
    finds (Zero unit address n) h = tt
    finds (SetKey region key) h = tt
    finds (SetBoot boot) h = tt
    finds SetPermanent h = tt

alike_after : (p q : Plain) (c : Command) → Alike p q → Alike (apply p c) (apply q c)
alike_after p q (Write unit address blocks) a = record {
  units = ap (λ (us : List (List (List ℕ))).
      slice_set us unit (with_part address blocks (slice_index_or us unit []))) a.units;
  regions = a.regions;
}
alike_after p q (Zero unit address n) a = record {
  units = ap (λ (us : List (List (List ℕ))).
      slice_set us unit (with_part address (replicate n zero_block) (slice_index_or us unit []))) a.units;
  regions = a.regions;
}
alike_after p q (SetKey region key) a = record {
  units = a.units;
  regions = ap (λ (rs : List Region).
      slice_set rs region (changed_by (slice_index_or rs region empty_region) (SetKey region key))) a.regions;
}
alike_after p q (RpmbWrite region address bytes) a = record {
  units = a.units;
  regions = ap (λ (rs : List Region).
      slice_set rs region (changed_by (slice_index_or rs region empty_region) (RpmbWrite region address bytes)))
      a.regions;
}
alike_after p q (SetBoot boot) a = record { units = a.units; regions = a.regions }
alike_after p q SetPermanent a = record { units = a.units; regions = a.regions }

alike_setting : (p q : Plain) (s : Setting) → Alike p q → Alike p (apply q (setting_command s))
alike_setting p q (setting.Boot boot) a = record { units = a.units; regions = a.regions }
alike_setting p q setting.Permanent a = record { units = a.units; regions = a.regions }

pub could_come : (p q : Plain) (es : List Noted) (os : Roll) → Alike p q → Stand es os → CanApplyAll q (somes os) →
    CanFollow p es
could_come p q [] [] a h can = tt
could_come p q (Accepted d ∷ es) (None ∷ os) a h can = absurd (none-some d h.0)
could_come p q (Accepted d ∷ es) (Some c ∷ os) a h can =
    let same = same_Some c d h.0 in (
      subst (CanApply p) same (can_too p q c a can.1),
      could_come (apply p d) (apply q c) es os
          (subst (λ (x : Command). Alike (apply p x) (apply q c)) same (alike_after p q c a)) h.1 can.2,
    )
could_come p q (Doubted s ∷ es) (None ∷ os) a h can = (tt, could_come p q es os a h.1 can)
could_come p q (Doubted s ∷ es) (Some c ∷ os) a h can =
    ⊎_elim (λ (e : Some c ≡ None). absurd (none-some c (sym e)))
    (λ (e : Some c ≡ Some (setting_command s)). (
      tt,
      could_come p (apply q c) es os
          (subst (λ (x : Command). Alike p (apply q x)) (sym (same_Some c (setting_command s) e))
          (alike_setting p q s a))
          h.1 can.2,
    )) h.0
could_come p q (Refused ∷ es) (None ∷ os) a h can = (tt, could_come p q es os a h.1 can)
could_come p q (Refused ∷ es) (Some c ∷ os) a h can = absurd (none-some c (sym h.0))
could_come p q [] (o ∷ os) a h can = absurd h
could_come p q (e ∷ es) [] a h can = absurd h
