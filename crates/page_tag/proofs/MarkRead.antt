-- The body of a mark is read, written again and compared.
use Rattle.std.proofs.Common.{◌≡◌, ◌∙◌, ℕ, ◌+◌, ◌*◌, ◌<◌, ◌≤◌, List, [], ◌∷◌, ◌++◌, All, length, Option, None}
use Rattle.std.proofs.Common.{◌==◌, ◌⊎◌, inl, inr, true, false, length-append, subst, Some, refl, sym, ap, arith, drop}
use Rattle.std.proofs.Common.{take, get_or, get_or-drop, slice_index}
use Rattle.std.proofs.lemmas.List.{drop-drop, get_or_append_left, get_or_push, take_more}
use Rattle.byteorder.specs.Endian.{big_number}
use Rattle.arrayvec.specs.ArrayVec.{ArrayVec}
use Rattle.ufs_spec.specs.Cells.{IsMarkBody, UnitFits}
use Rattle.ufs_bytes.specs.Fields.{field_at}
use Rattle.ufs_spec.specs.Messages.{AreBytes}
use Rattle.ufs_spec.specs.Pages.{mark_bytes, zero_filled}
use Rattle.ufs_spec.specs.declared.configs.Numbers.{Numbers}
use Rattle.ufs_spec.specs.declared.configs.UnitSpec.{UnitSpec}
use Rattle.ufs_spec.specs.declared.flash.Fence.{Fence}
use Rattle.ufs_spec.proofs.Facts.{at_most, cond-true, cond-false, eq-eqb, false_from_ne_true, eqb-true}
use Rattle.ufs_bytes.proofs.FieldRanges.{field_fits}
use Rattle.ufs_laws.proofs.pages.ByteLists.{bytes-drop}
use Rattle.ufs_laws.proofs.pages.MarkBodies.{fence_of_mark, numbers_in, numbers_of_mark, unit_in, unit_of_mark}

-- Fences

-- the fence with the ends that the body says
abbrev fence_said : List ℕ → Fence
fence_said body = record { first = big_number 8 body; last = field_at 8 8 body }

pub no_fence : (fence : Option Fence) (n : Numbers) (body : List ℕ) → IsMarkBody fence n body
    → field_at 8 8 body ≡ 0 → None ≡ fence
no_fence fence n body h zero =
    let none : (field_at 8 8 body == 0) ≡ true = eq-eqb (field_at 8 8 body) 0 zero in
    sym (cond-true (field_at 8 8 body == 0) None (Some (fence_said body)) none) ∙ fence_of_mark fence n body h

pub some_fence : (fence : Option Fence) (n : Numbers) (body : List ℕ) → IsMarkBody fence n body
    → (field_at 8 8 body ≡ 0 → ⊥) → Some (fence_said body) ≡ fence
some_fence fence n body h some =
    let one : (field_at 8 8 body == 0) ≡ false =
    false_from_ne_true (field_at 8 8 body == 0) (λ e. some (eqb-true (field_at 8 8 body) 0 e)) in
    sym (cond-false (field_at 8 8 body == 0) None (Some (fence_said body)) one) ∙ fence_of_mark fence n body h

-- Units

-- how many units a mark says
count_said : (fence : Option Fence) (n : Numbers) (body : List ℕ) → body ≡ mark_bytes n fence
    → slice_index body 17 ≡ length n.units.items
unfolding zero_filled
count_said None n body e = ap (λ (b : List ℕ). slice_index b 17) e
count_said (Some fence) n body e = ap (λ (b : List ℕ). slice_index b 17) e

pub count_read : (fence : Option Fence) (n : Numbers) (body : List ℕ) → IsMarkBody fence n body
    → slice_index body 17 ≡ length n.units.items
count_read fence n body h = count_said fence n body h.bytes

-- the unit whose entry begins there
abbrev pub unit_at : ℕ → List ℕ → UnitSpec
unit_at start body =
    record {
      blocks = field_at 4 start body;
      boot = slice_index body (start + 4);
      protect = slice_index body (start + 5);
    }

unit_there : (body : List ℕ) (start : ℕ) → unit_at start body ≡ unit_in (drop start body)
unit_there body start = λ i. record {
  blocks = field_at 4 start body;
  boot = sym (get_or-drop start body 4 0) i;
  protect = sym (get_or-drop start body 5 0) i;
}

-- one more of them
pub unit_read : (fence : Option Fence) (n : Numbers) (body : List ℕ) (k : ℕ) (units : List UnitSpec) (unit : UnitSpec)
    → IsMarkBody fence n body → k < length n.units.items → units ≡ take k n.units.items
    → unit ≡ unit_at (32 + 8 * k) body
    → units ++ unit ∷ [] ≡ take (k + 1) n.units.items
unit_read fence n body k units unit h inside so_far read =
    let next : unit ≡ get_or n.units.items k unit =
    read ∙ unit_there body (32 + 8 * k) ∙ unit_of_mark fence n body k unit h inside in
    ap (λ (us : List UnitSpec). us ++ unit ∷ []) so_far
    ∙ ap (λ (u : UnitSpec). take k n.units.items ++ u ∷ []) next
    ∙ sym (take_more n.units.items k unit inside)

-- the units that were read fit, and so does one more
pub units_fit : (units : List UnitSpec) (unit : UnitSpec) → All UnitFits units → UnitFits unit
    → All UnitFits (units ++ unit ∷ [])
units_fit units unit fit last k d inside = told (at_most (length units) k)
  where
    told : (length units ≤ k) ⊎ (k < length units) → UnitFits (get_or (units ++ unit ∷ []) k d)
    told (inl here) =
        let at : length units ≡ k = omega (arith, here, inside, length-append units (unit ∷ [])) in
        subst UnitFits (sym (get_or_push units unit d k at)) last
    told (inr before) = subst UnitFits (sym (get_or_append_left units (unit ∷ []) d k before)) (fit k d before)

pub unit_fits : (body : List ℕ) (start : ℕ) (unit : UnitSpec) → AreBytes body → unit ≡ unit_at start body
    → UnitFits unit
unit_fits body start unit are e =
    let there : AreBytes (drop start body) = bytes-drop start body are in
    let blocks = field_fits 4 0 (drop start body) there in
    subst UnitFits (sym (e ∙ unit_there body start))
    record { blocks = omega (arith, blocks); boot = omega (arith, there 4); protect = omega (arith, there 5) }

-- Numbers

module _ (body : List ℕ) (units : ArrayVec UnitSpec) where
  -- the numbers in a body, with these units
  abbrev numbers_with : Numbers
  numbers_with =
      record {
        dies = slice_index body 16;
        blocks = field_at 2 18 body;
        pages = field_at 2 20 body;
        units = units;
        rpmb = slice_index body 22 ∷ slice_index body 28 ∷ slice_index body 29 ∷ slice_index body 30 ∷ [];
        slots = field_at 2 24 body;
        spare = field_at 2 26 body;
        profile = 0;
        serial = 1;
      }

  -- are those that the mark has
  pub numbers_read : (fence : Option Fence) (n : Numbers) → IsMarkBody fence n body → units ≡ n.units → numbers_with ≡ n
  numbers_read fence n h same =
      λ i. record {
        dies = byte 0 (λ m. m.dies) refl i;
        blocks = field 2 (λ m. m.blocks) refl i;
        pages = field 4 (λ m. m.pages) refl i;
        units = same i;
        rpmb = four i;
        slots = field 8 (λ m. m.slots) refl i;
        spare = field 10 (λ m. m.spare) refl i;
        profile = sym h.numbers_fit.profile i;
        serial = sym h.numbers_fit.serial i;
      }
    where
      all : numbers_in body ≡ n
      all = numbers_of_mark fence n body h

      byte_at : (k : ℕ) → slice_index body (16 + k) ≡ slice_index (drop 16 body) k
      byte_at k = sym (get_or-drop 16 body k 0)

      byte : (k : ℕ) (f : Numbers → ℕ) → f (numbers_in body) ≡ slice_index (drop 16 body) k
          → slice_index body (16 + k) ≡ f n
      byte k f e = byte_at k ∙ sym e ∙ ap f all

      four : slice_index body 22 ∷ slice_index body 28 ∷ slice_index body 29 ∷ slice_index body 30 ∷ [] ≡ n.rpmb
      four =
          (λ i. byte_at 6 i ∷ byte_at 12 i ∷ byte_at 13 i ∷ byte_at 14 i ∷ []) ∙ ap (λ (m : Numbers). m.rpmb) all

      field : (k : ℕ) (f : Numbers → ℕ) → f (numbers_in body) ≡ field_at 2 k (drop 16 body)
          → field_at 2 (16 + k) body ≡ f n
      field k f e = sym (ap (big_number 2) (drop-drop k 16 body)) ∙ sym e ∙ ap f all
