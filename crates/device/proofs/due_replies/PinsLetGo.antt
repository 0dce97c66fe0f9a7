-- What is kept for a tag whose pins are let go: the one that was handed out, or all of them.
use Rattle.device.proofs.Common.{Bool, Erasing, Flight, ForNobody, ForRest, ForStep, ForTask, LetGo, LetGoAll, List}
use Rattle.device.proofs.Common.{None, Option, Pin, Programming, Reader, Reading, Some, Translation, WantPage, []}
use Rattle.device.proofs.Common.{and_parts, ap, arith, cond, eqb-true, false, filter, if◌then◌else◌, is_pin_of, map}
use Rattle.device.proofs.Common.{moved, nat_tests, not, option_map, refl, sym, true, wanted_kept, with_wanted, ℕ, ◌&&◌}
use Rattle.device.proofs.Common.{◌+◌, ◌==◌, ◌∙◌, ◌∷◌, ◌≡◌}
use Rattle.ufs_spec.specs.Moves.{is_for, is_for_task, without_reader}
use Rattle.device.proofs.open_tasks.ReadProgress.{want_other_index, want_other_tag, want_set, wanted_gone, wanted_left}

not_next : (n : ℕ) → (n == (n + 1)) ≡ false
not_next n = grind (arith, nat_tests)

not_before : (n : ℕ) → ((n + 1) == n) ≡ false
not_before n = grind (arith, nat_tests)

-- those of a reader
pub gone_pins : (one index : ℕ) (pins : List Pin) →
    wanted_kept (filter (λ pin. not (pin.tag == one)) pins) one index ≡ None
gone_pins one index pins =
    wanted_gone (λ pin. not (pin.tag == one)) pins one index (λ pin e. ap not (and_parts _ _ e).0)

pub other_pins : (one tag index : ℕ) (pins : List Pin) → (tag == one) ≡ false →
    wanted_kept (filter (λ pin. not (pin.tag == one)) pins) tag index ≡ wanted_kept pins tag index
other_pins one tag index pins other =
    wanted_left (λ pin. not (pin.tag == one)) pins tag index
    (λ pin e. ap not (ap (λ (n : ℕ). n == one) (eqb-true pin.tag tag (and_parts _ _ e).0) ∙ other))

-- what is left of the pins of a reader whose block of an index was handed out: the one behind it is wanted
abbrev left : ℕ → ℕ → List Pin → List Pin
left one sent pins = filter (λ pin. not (is_pin_of one sent pin)) pins

abbrev pub with_next : ℕ → ℕ → List Pin → List Pin
with_next one sent pins = map (with_wanted one (sent + 1) true) (left one sent pins)

-- a pin of another index is another
else_index : (one tag index i : ℕ) → (index == i) ≡ false → (pin : Pin) → is_pin_of tag index pin ≡ true →
    is_pin_of one i pin ≡ false
else_index one tag index i other pin e =
    ap (λ (b : Bool). (pin.tag == one) && b)
    (ap (λ (n : ℕ). n == i) (eqb-true pin.index index (and_parts _ _ e).1) ∙ other)
    ∙ right (pin.tag == one)
  where
    right : (b : Bool) → (b && false) ≡ false
    right true = refl
    right false = refl

index_left : (one sent index : ℕ) (pins : List Pin) → (index == sent) ≡ false →
    wanted_kept (left one sent pins) one index ≡ wanted_kept pins one index
index_left one sent index pins other =
    wanted_left (λ pin. not (is_pin_of one sent pin)) pins one index
    (λ pin e. ap not (else_index one one index sent other pin e))

pub next_of_others : (one sent tag index : ℕ) (pins : List Pin) → (tag == one) ≡ false →
    wanted_kept (with_next one sent pins) tag index ≡ wanted_kept pins tag index
next_of_others one sent tag index pins other =
    want_other_tag one (sent + 1) true tag index (left one sent pins) other
    ∙ wanted_left (λ pin. not (is_pin_of one sent pin)) pins tag index
    (λ pin e. ap not (ap (λ (b : Bool). b && (pin.index == sent))
    (ap (λ (n : ℕ). n == one) (eqb-true pin.tag tag (and_parts _ _ e).0) ∙ other)))

pub next_elsewhere : (one sent index : ℕ) (pins : List Pin) → (index == sent) ≡ false →
    (index == (sent + 1)) ≡ false → wanted_kept (with_next one sent pins) one index ≡ wanted_kept pins one index
next_elsewhere one sent index pins first second =
    want_other_index one (sent + 1) true one index (left one sent pins) second ∙ index_left one sent index pins first

-- the one that was handed out is gone
pub next_gone : (one sent : ℕ) (pins : List Pin) → wanted_kept (with_next one sent pins) one sent ≡ None
next_gone one sent pins =
    want_other_index one (sent + 1) true one sent (left one sent pins) (not_next sent)
    ∙ wanted_gone (λ pin. not (is_pin_of one sent pin)) pins one sent (λ pin e. ap not e)

-- the one behind it is wanted, if it is there
pub next_is_wanted : (one sent : ℕ) (pins : List Pin) →
    wanted_kept (with_next one sent pins) one (sent + 1)
    ≡ option_map (λ (b : Bool). true) (wanted_kept pins one (sent + 1))
next_is_wanted one sent pins =
    want_set one (sent + 1) true (left one sent pins)
    ∙ ap (option_map (λ (b : Bool). true)) (index_left one sent (sent + 1) pins (not_before sent))

-- to let go of all after one of them is to let go of all
pub gone_again : (t : Translation) (one sent : ℕ) →
    moved (moved (moved t (LetGo one sent)) (WantPage one (sent + 1))) (LetGoAll one) ≡ moved t (LetGoAll one)
gone_again t one sent i = record t {
  disk = record t.disk { flights = λ die. flight (t.disk.flights die) i };
  pins = pins t.pins i;
}
  where
    reader : (who : Reader) (place : _) →
        without_reader (is_for_task one) (Some (Reading (if is_for one sent who then ForNobody else who) place)) ≡
        without_reader (is_for_task one) (Some (Reading who place))
    reader (ForTask other index) place = by (other == one) (index == sent) refl
      where
        by : (a b : Bool) → (other == one) ≡ a →
            without_reader (is_for_task one) (Some (Reading (if a && b then ForNobody else ForTask other index) place))
            ≡ without_reader (is_for_task one) (Some (Reading (ForTask other index) place))
        by true true e = sym (ap (λ x. Some (Reading (if x then ForNobody else ForTask other index) place)) e)
        by true false e = refl
        by false b e = refl
    reader ForStep place = refl
    reader (ForRest number index) place = refl
    reader ForNobody place = refl

    flight : (o : Option Flight) →
        without_reader (is_for_task one) (without_reader (is_for one sent) o) ≡ without_reader (is_for_task one) o
    flight (Some (Reading who place)) = reader who place
    flight (Some (Programming place cell)) = refl
    flight (Some (Erasing spot)) = refl
    flight None = refl

    pins : (qs : List Pin) →
        filter (λ pin. not (pin.tag == one))
        (map (with_wanted one (sent + 1) true) (filter (λ pin. not (is_pin_of one sent pin)) qs)) ≡ filter
        (λ pin. not (pin.tag == one)) qs
    pins [] = refl
    pins (q ∷ qs) = by (q.tag == one) (q.index == sent) refl (pins qs)
      where
        rest : List Pin
        rest = filter (λ pin. not (is_pin_of one sent pin)) qs

        kept : (b : Bool) (x : Bool) → (q.tag == one) ≡ x →
            filter (λ pin. not (pin.tag == one)) ((if b then record q { wanted = true } else q) ∷ map
            (with_wanted one (sent + 1) true) rest)
            ≡ cond (not x) ((if b then record q { wanted = true } else q) ∷ filter (λ pin. not (pin.tag == one))
            (map (with_wanted one (sent + 1) true) rest))
            (filter (λ pin. not (pin.tag == one)) (map (with_wanted one (sent + 1) true) rest))
        kept true x e = ap (λ z. cond (not z) (record q { wanted = true } ∷ filter (λ pin. not (pin.tag == one))
            (map (with_wanted one (sent + 1) true) rest))
            (filter (λ pin. not (pin.tag == one)) (map (with_wanted one (sent + 1) true) rest))) e
        kept false x e = ap (λ z.
            cond (not z) (q ∷ filter (λ pin. not (pin.tag == one)) (map (with_wanted one (sent + 1) true) rest))
            (filter (λ pin. not (pin.tag == one)) (map (with_wanted one (sent + 1) true) rest))) e

        by : (x y : Bool) → (q.tag == one) ≡ x →
            filter (λ pin. not (pin.tag == one)) (map (with_wanted one (sent + 1) true) rest) ≡ filter
            (λ pin. not (pin.tag == one)) qs →
            filter (λ pin. not (pin.tag == one))
            (map (with_wanted one (sent + 1) true) (cond (not (x && y)) (q ∷ rest) rest))
            ≡ cond (not x) (q ∷ filter (λ pin. not (pin.tag == one)) qs) (filter (λ pin. not (pin.tag == one)) qs)
        by true true e same = same
        by true false e same = kept ((q.tag == one) && (q.index == (sent + 1))) true e ∙ same
        by false y e same =
            kept ((q.tag == one) && (q.index == (sent + 1))) false e
            ∙ (λ i. (if e i && (q.index == (sent + 1)) then record q { wanted = true } else q) ∷ same i)
