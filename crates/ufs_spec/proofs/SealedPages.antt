-- A page that is sealed with a tag and a block tells both, has the right check, and is sealed with no others.
use Rattle.std.proofs.Common.{List, [], ap, arith, drop, inl, inr, length, refl, sym, take, ℕ, ◌*◌, ◌++◌, ◌∙◌, ◌∷◌, ◌≡◌}
use Rattle.std.proofs.lemmas.List.{take-append-drop}
use Rattle.std.specs.List.{flat_map}
use Rattle.byteorder.specs.Endian.{big_number}
use Rattle.byteorder.specs.Numbers.{big_number-reads_back}
use Rattle.ufs_spec.specs.Cells.{Cell, GroupPage, IsCell, MarkPage, Nothing, Opens, mark_tag}
use Rattle.ufs_spec.specs.Pages.{IsCheckRight, IsFrontOf, IsSealedAs, IsTag, old_front, seal_page, spare_front}
use Rattle.ufs_spec.specs.Pages.{tag_in, unit_bytes}
use Rattle.ufs_spec.specs.declared.configs.UnitSpec.{UnitSpec}
use Rattle.ufs_spec.specs.declared.flash.Page.{Page}
use Rattle.ufs_spec.specs.declared.flash.Tag.{Tag}

-- a tag within its ranges is read back from its spare bytes, as they are written
tag_in-new : (t : Tag) (rest : List ℕ) → IsTag t → tag_in (spare_front t ++ rest) ≡ t
tag_in-new t rest h =
    let address : big_number 4 (drop 8 (spare_front t ++ rest)) ≡ t.address =
    big_number-reads_back 4 t.address [] (omega (arith, h.address_fits)) in
    let number : big_number 8 (drop 12 (spare_front t ++ rest)) ≡ t.number =
    big_number-reads_back 8 t.number [] (omega (arith, h.number_given)) in
    let index : big_number 2 (drop 20 (spare_front t ++ rest)) ≡ t.index =
    big_number-reads_back 2 t.index [] (omega (arith, h.index_in_group, h.group_not_long)) in
    let size : big_number 2 (drop 22 (spare_front t ++ rest)) ≡ t.size =
    big_number-reads_back 2 t.size [] (omega (arith, h.group_not_long)) in
    let frontier : big_number 8 (drop 24 (spare_front t ++ rest)) ≡ t.frontier =
    big_number-reads_back 8 t.frontier [] (omega (arith, h.frontier_fits)) in
    rw (address, number, index, size, frontier) refl

-- and as version 1 has them
tag_in-old : (t : Tag) (rest : List ℕ) → IsTag t → tag_in (old_front t ++ rest) ≡ t
tag_in-old t rest h =
    let address : big_number 4 (drop 8 (old_front t ++ rest)) ≡ t.address =
    big_number-reads_back 4 t.address [] (omega (arith, h.address_fits)) in
    let number : big_number 8 (drop 12 (old_front t ++ rest)) ≡ t.number =
    big_number-reads_back 8 t.number [] (omega (arith, h.number_given)) in
    let frontier : big_number 8 (drop 24 (old_front t ++ rest)) ≡ t.frontier =
    big_number-reads_back 8 t.frontier [] (omega (arith, h.frontier_fits)) in
    rw (address, number, frontier) refl

-- in either version
tag_in-front : (t : Tag) (front rest : List ℕ) → IsTag t → IsFrontOf t front → tag_in (front ++ rest) ≡ t
tag_in-front t front rest h (inl new) = ap (λ (f : List ℕ). tag_in (f ++ rest)) new ∙ tag_in-new t rest h
tag_in-front t front rest h (inr old) = ap (λ (f : List ℕ). tag_in (f ++ rest)) old.1 ∙ tag_in-old t rest h

-- spare bytes whose first 64 are those of a tag name this tag
pub tag_of_front : (spare : List ℕ) (t : Tag) → IsTag t → IsFrontOf t (take 64 spare) → tag_in spare ≡ t
tag_of_front spare t h front =
    ap tag_in (sym (take-append-drop 64 spare)) ∙ tag_in-front t (take 64 spare) (drop 64 spare) h front

-- Sealed pages

-- the page that is programmed is sealed
pub seals : (t : Tag) (body : List ℕ) → IsSealedAs (seal_page t body) t body
seals t body = record { front = inl refl; check = refl; holds = refl }

-- a page is sealed with one tag and one block
pub sealed_tag : (p : Page) (t u : Tag) (b d : List ℕ) → IsTag t → IsTag u → IsSealedAs p t b → IsSealedAs p u d → t ≡ u
sealed_tag p t u b d h k e f = sym (tag_of_front p.spare t h e.front) ∙ tag_of_front p.spare u k f.front

pub sealed_body : (p : Page) (t u : Tag) (b d : List ℕ) → IsSealedAs p t b → IsSealedAs p u d → b ≡ d
sealed_body p t u b d e f = sym e.holds ∙ f.holds

-- Pages that open

pub opened_check : (page : Page) (t : Tag) (body : List ℕ) → Opens page t body → IsCheckRight page
opened_check page t body h = h.sealed.check

pub tag_opened : (page : Page) (t : Tag) (body : List ℕ) → Opens page t body → tag_in page.spare ≡ t
tag_opened page t body h = tag_of_front page.spare t h.tag_right h.sealed.front

pub body_opened : (page : Page) (t : Tag) (body : List ℕ) → Opens page t body → page.body ≡ body
body_opened page t body h = h.sealed.holds

-- a page opens to one tag and one block
pub one_tag : (page : Page) (t u : Tag) (b d : List ℕ) → Opens page t b → Opens page u d → t ≡ u
one_tag page t u b d h k = sym (tag_opened page t b h) ∙ tag_opened page u d k

pub one_body : (page : Page) (t u : Tag) (b d : List ℕ) → Opens page t b → Opens page u d → b ≡ d
one_body page t u b d h k = sym (body_opened page t b h) ∙ body_opened page u d k

-- a page whose check fails is nothing
pub torn_is_nothing : (page : Page) (x : Cell) → (IsCheckRight page → ⊥) → IsCell page x → x ≡ Nothing
torn_is_nothing page Nothing wrong h = refl
torn_is_nothing page (GroupPage t body) wrong h = absurd (wrong (opened_check page t body h.0))
torn_is_nothing page (MarkPage m) wrong h = absurd (wrong (opened_check page (mark_tag m) h.0 h.1))

-- Marks

pub units_length : (units : List UnitSpec) → length (flat_map unit_bytes units) ≡ 8 * length units
units_length [] = refl
units_length (u ∷ units) = omega (arith, units_length units)
