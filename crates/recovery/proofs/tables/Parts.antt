-- Some dies and the dies behind them, each read by a worker, are read.
use Rattle.recovery.proofs.Common.{AreWithin, Cells, DieState, IfErr-weaker, IfOk, IfOk-weaker, IsJoined, IsOfSize}
use Rattle.recovery.proofs.Common.{IsTableOf, List, NoLower, Numbers, OpenFault, ShowsDies, Table, [], ap, arith}
use Rattle.recovery.proofs.Common.{get_or, length, length-append, length-map, map, subst, suc, sym, zero, ℕ, ⊎_elim}
use Rattle.recovery.proofs.Common.{◌++◌, ◌+◌, ◌<◌, ◌∙◌, ◌∷◌, ◌≡◌, ◌⊎◌}
use Rattle.std.proofs.Common.{Err, Ok, Result}
use Rattle.std.proofs.lemmas.List.{get_or-append-add, get_or_append_left, map-append}
use Rattle.std.specs.List.{All}
use Rattle.std.specs.Prelude.{IfErr}
use Rattle.ufs_spec.specs.declared.faults.OpenFault.TheVariants as fault
use Rattle.recovery.specs.Reading.{IsFaultOf}
use Rattle.recovery.specs.Scanned.{CanRead, HasRead}
use Rattle.recovery.proofs.tables.Joined.{dies_joined}
use Rattle.recovery.proofs.tables.Shown.{back_shown, front_shown}

-- ## What each may read

front_all : {A : Type 0} (P : A → Type 0) (xs ys : List A) → All P (xs ++ ys) → All P xs
front_all P xs ys all k d inside =
    subst P (get_or_append_left xs ys d k inside) (all k d (omega (arith, inside, length-append xs ys)))

back_all : {A : Type 0} (P : A → Type 0) (xs ys : List A) → All P (xs ++ ys) → All P ys
back_all P xs ys all k d inside =
    subst P (get_or-append-add xs ys k d) (all (length xs + k) d (omega (arith, inside, length-append xs ys)))

module _ {D : Type 0} (state : D → DieState) (n : Numbers) (first middle end : ℕ) (dies low high : List D)
    (cut : dies ≡ low ++ high) (ends : middle ≡ first + length low) (can : CanRead n first end (map state dies)) where
  in_parts : map state dies ≡ map state low ++ map state high
  in_parts = ap (map state) cut ∙ map-append state low high

  parts : CanRead n first end (map state low ++ map state high)
  parts = subst (CanRead n first end) in_parts can

  pub can_low : CanRead n first middle (map state low)
  can_low = (
    front_all (IsOfSize n.blocks n.pages) (map state low) (map state high) parts.0,
    omega (arith, ends, length-map low state),
  )

  pub can_high : CanRead n middle end (map state high)
  can_high = (
    back_all (IsOfSize n.blocks n.pages) (map state low) (map state high) parts.0,
    omega (arith, ends, parts.1, length-map low state, length-append (map state low) (map state high)),
  )

-- ## What both did

no_lower_both : (a b d e : List ℕ) → length b ≡ length a → NoLower a b → NoLower d e → NoLower (a ++ d) (b ++ e)
no_lower_both [] [] d e long h k die = k die
no_lower_both [] (y ∷ b) d e long h k die = absurd (omega (arith, long))
no_lower_both (x ∷ a) [] d e long h k die = absurd (omega (arith, long))
no_lower_both (x ∷ a) (y ∷ b) d e long h k zero = h zero
no_lower_both (x ∷ a) (y ∷ b) d e long h k (suc die) =
    no_lower_both a b d e (omega (arith, long)) (λ i. h (suc i)) k die

front_rose : (a b d e : List ℕ) (i : ℕ) → length b ≡ length a → get_or a i 0 < get_or b i 0
    → get_or (a ++ d) i 0 < get_or (b ++ e) i 0
front_rose [] [] d e i long up = absurd (omega (arith, up))
front_rose [] (y ∷ b) d e i long up = absurd (omega (arith, long))
front_rose (x ∷ a) [] d e i long up = absurd (omega (arith, long))
front_rose (x ∷ a) (y ∷ b) d e zero long up = up
front_rose (x ∷ a) (y ∷ b) d e (suc i) long up = front_rose a b d e i (omega (arith, long)) up

back_rose : (a b d e : List ℕ) (i : ℕ) → length b ≡ length a → get_or d i 0 < get_or e i 0
    → get_or (a ++ d) (length a + i) 0 < get_or (b ++ e) (length a + i) 0
back_rose a b d e i long up =
    let one = get_or-append-add a d i 0 in
    let other : get_or (b ++ e) (length a + i) 0 ≡ get_or e i 0 =
    ap (λ (k : ℕ). get_or (b ++ e) (k + i) 0) (sym long) ∙ get_or-append-add b e i 0 in
    omega (arith, one, other, up)

front_fault : (first : ℕ) (a b d e : List ℕ) (f : OpenFault) → length b ≡ length a → IsFaultOf first a b f
    → IsFaultOf first (a ++ d) (b ++ e) f
front_fault first a b d e fault.NoMemory long h = tt
front_fault first a b d e (fault.ReadFault p) long h = (h.0, h.1, front_rose a b d e h.0 long h.2)
front_fault first a b d e fault.OtherConfig long h = h

back_fault : (first middle : ℕ) (a b d e : List ℕ) (f : OpenFault) → length b ≡ length a → middle ≡ first + length a
    → IsFaultOf middle d e f → IsFaultOf first (a ++ d) (b ++ e) f
back_fault first middle a b d e fault.NoMemory long ends h = tt
back_fault first middle a b d e (fault.ReadFault p) long ends h =
    let at = h.1 in (length a + h.0, omega (arith, ends, at), back_rose a b d e h.0 long h.2)
back_fault first middle a b d e fault.OtherConfig long ends h = h

-- both tables joined, or the fault of one
pub record AreJoined (one rest both : Result Table OpenFault) : Type 0 where
  pub ok : IfOk both (λ t. (x : Table) × (y : Table) × (one ≡ Ok x) × (rest ≡ Ok y) × IsJoined x y t)
  pub err : IfErr both (λ e. (e ≡ fault.NoMemory) ⊎ ((one ≡ Err e) ⊎ (rest ≡ Err e)))

both_read : (n : Numbers) (first middle : ℕ) (xs ys us vs : List DieState) (a b d e : List ℕ)
    (one rest both : Result Table OpenFault) → length a ≡ length xs → length b ≡ length a
    → middle ≡ first + length xs → HasRead n first xs ys a b one → HasRead n middle us vs d e rest
    → AreJoined one rest both → HasRead n first (xs ++ us) (ys ++ vs) (a ++ d) (b ++ e) both
both_read n first middle xs ys us vs a b d e one rest both counts long ends h k joined = record {
  same = λ i. h.same i ++ k.same i;
  counted = no_lower_both a b d e long h.counted k.counted;
  read = IfOk-weaker both _ _
      (λ t j cells within shown.
      let behind : ShowsDies middle us cells =
      subst (λ (m : ℕ). ShowsDies m us cells) (sym ends) (back_shown first xs us cells shown) in
      let low : IsTableOf n first (length xs) cells j.0 =
      told one j.0 (λ u. (c : Cells) → AreWithin n c → ShowsDies first xs c → IsTableOf n first (length xs) c u) j.2
      h.read cells within (front_shown first xs us cells shown) in
      let high : IsTableOf n middle (length us) cells j.1 =
      told rest j.1 (λ u. (c : Cells) → AreWithin n c → ShowsDies middle us c → IsTableOf n middle (length us) c u)
      j.3 k.read cells within behind in
      subst (λ (m : ℕ). IsTableOf n first m cells t) (sym (length-append xs us))
      (dies_joined n cells first (length xs) (length us) j.0 j.1 t low
      (subst (λ (m : ℕ). IsTableOf n m (length us) cells j.1) ends high) j.4))
      joined.ok;
  fault = IfErr-weaker both _ _
      (λ f o. ⊎_elim
      (λ (none : f ≡ fault.NoMemory). subst (IsFaultOf first (a ++ d) (b ++ e)) (sym none) tt)
      (λ (s : (one ≡ Err f) ⊎ (rest ≡ Err f)). ⊎_elim
      (λ (l : one ≡ Err f). front_fault first a b d e f long (failed one f (IsFaultOf first a b) l h.fault))
      (λ (r : rest ≡ Err f).
      back_fault first middle a b d e f long (omega (arith, ends, counts))
      (failed rest f (IsFaultOf middle d e) r k.fault)) s) o)
      joined.err;
}
  where
    told : (r : Result Table OpenFault) (u : Table) (P : Table → Type 0) → r ≡ Ok u → IfOk r P → P u
    told r u P e p = subst (λ (s : Result Table OpenFault). IfOk s P) e p

    failed : (r : Result Table OpenFault) (f : OpenFault) (P : OpenFault → Type 0) → r ≡ Err f → IfErr r P → P f
    failed r f P e p = subst (λ (s : Result Table OpenFault). IfErr s P) e p

module _ {D : Type 0} (state : D → DieState) (failed : D → ℕ) (n : Numbers) (first middle : ℕ)
    (dies low high low_now high_now : List D) (one rest both : Result Table OpenFault) (cut : dies ≡ low ++ high)
    (ends : middle ≡ first + length low)
    (h : HasRead n first (map state low) (map state low_now) (map failed low) (map failed low_now) one)
    (k : HasRead n middle (map state high) (map state high_now) (map failed high) (map failed high_now) rest)
    (joined : AreJoined one rest both) where
  as_many : length low_now ≡ length low
  as_many = sym (length-map low_now state) ∙ (ap length h.same ∙ length-map low state)

  whole : HasRead n first (map state low ++ map state high) (map state low_now ++ map state high_now)
      (map failed low ++ map failed high) (map failed low_now ++ map failed high_now) both
  whole = both_read n first middle (map state low) (map state low_now) (map state high) (map state high_now)
      (map failed low) (map failed low_now) (map failed high) (map failed high_now) one rest both
      (length-map low failed ∙ sym (length-map low state))
      (length-map low_now failed ∙ (as_many ∙ sym (length-map low failed)))
      (ends ∙ ap (λ (m : ℕ). first + m) (sym (length-map low state))) h k joined

  pub parts_read : HasRead n first (map state dies) (map state (low_now ++ high_now)) (map failed dies)
      (map failed (low_now ++ high_now)) both
  parts_read =
      subst
      (λ (t : List DieState × List DieState × List ℕ × List ℕ). HasRead n first t.0 t.1 t.2 t.3 both)
      (λ i. (
        sym (ap (map state) cut ∙ map-append state low high) i,
        sym (map-append state low_now high_now) i,
        sym (ap (map failed) cut ∙ map-append failed low high) i,
        sym (map-append failed low_now high_now) i,
      )) whole
