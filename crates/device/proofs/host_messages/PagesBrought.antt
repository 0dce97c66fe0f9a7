-- The pages that a key or a write brings are those of its group.
use Rattle.device.proofs.Common.{Accept, AreClaimed, AreClaimedBy, Claims, Core, Group, HasPut, IsAllowedMove, Item}
use Rattle.device.proofs.Common.{Key, List, Some, Translation, [], all_contents, ap, area_key, arith, false}
use Rattle.device.proofs.Common.{if◌then◌else◌, le-leb, length, moved, next_number, none-some, refl, settings_key}
use Rattle.device.proofs.Common.{slice_get, subst, suc, sym, take, true, with_claimed, with_part, write_group, zero, ℕ}
use Rattle.device.proofs.Common.{◌%◌, ◌*◌, ◌<◌, ◌∙◌, ◌∷◌, ◌≡◌, ◌≤◌}
use Rattle.std.specs.Prelude.{Bool, drop, replicate, ◌++◌, ◌+◌, ◌/◌}
use Rattle.std.proofs.lemmas.Bool.{lt-leb, true≢false}
use Rattle.ufs_spec.specs.Plain.{zero_block}
use Rattle.ufs_spec.specs.Translation.{is_in_part}
use Rattle.ftl_core.specs.Public.{Describes, IsGroupBrought, IsItemBrought}
use Rattle.ftl_core.specs.declared.books.Brought.{Brought}
use Rattle.device.specs.Groups.{IsBrought, area_item, laid_item, room_from, settings_item}
use Rattle.std.proofs.lemmas.Option.{same_Some}

-- a page that is brought is its item; one that no command has in part is whole
pub item_brought : (t : Translation) (k : Key) (first : ℕ) (bytes : List ℕ) (x : Brought) → IsBrought k first bytes x →
    (is_in_part k ≡ false → length bytes ≡ 4096) → IsItemBrought t (laid_item t k first bytes) x
item_brought t k first bytes x is whole = record {
  key = sym is.key_is;
  body = λ i. with_part (256 * sym is.first_is i) (sym is.bytes_are i) (all_contents t.ledger (sym is.key_is i));
  whole = λ apart.
      (let long = whole (ap is_in_part (sym is.key_is) ∙ apart) in let many = is.many in omega arith);
}

-- the groups of one, two and three pages
pub one_brought : (t : Translation) (a : Item) (x : Brought) → IsItemBrought t a x →
    IsGroupBrought t (a ∷ []) (x ∷ [])
one_brought t a x is = record { as_many = refl; each = each }
  where
    each : (i : ℕ) (item : Item) (y : Brought) → slice_get (a ∷ []) i ≡ Some item → slice_get (x ∷ []) i ≡ Some y →
        IsItemBrought t item y
    each zero item y here there =
        subst (IsItemBrought t item) (same_Some x y there)
        (subst (λ (i : Item). IsItemBrought t i x) (same_Some a item here) is)
    each (suc i) item y here there = absurd (none-some item here)

pub two_brought : (t : Translation) (a b : Item) (x y : Brought) → IsItemBrought t a x → IsItemBrought t b y →
    IsGroupBrought t (a ∷ b ∷ []) (x ∷ y ∷ [])
two_brought t a b x y is more = record { as_many = refl; each = each }
  where
    each : (i : ℕ) (item : Item) (z : Brought) → slice_get (a ∷ b ∷ []) i ≡ Some item →
        slice_get (x ∷ y ∷ []) i ≡ Some z → IsItemBrought t item z
    each zero item z here there =
        subst (IsItemBrought t item) (same_Some x z there)
        (subst (λ (i : Item). IsItemBrought t i x) (same_Some a item here) is)
    each (suc i) item z here there = (one_brought t b y more).each i item z here there

pub three_brought : (t : Translation) (a b c : Item) (x y z : Brought) → IsItemBrought t a x → IsItemBrought t b y →
    IsItemBrought t c z → IsGroupBrought t (a ∷ b ∷ c ∷ []) (x ∷ y ∷ z ∷ [])
three_brought t a b c x y z is more last = record { as_many = refl; each = each }
  where
    each : (i : ℕ) (item : Item) (w : Brought) → slice_get (a ∷ b ∷ c ∷ []) i ≡ Some item →
        slice_get (x ∷ y ∷ z ∷ []) i ≡ Some w → IsItemBrought t item w
    each zero item w here there =
        subst (IsItemBrought t item) (same_Some x w there)
        (subst (λ (i : Item). IsItemBrought t i x) (same_Some a item here) is)
    each (suc i) item w here there = (two_brought t b c y z more last).each i item w here there

-- a group is put by a call that brings its pages
pub has_put : (before after : Core) (tag : ℕ) (group : Translation → Group) (number : ℕ) (xs : List Brought) →
    ((t : Translation) → Describes before t → number ≡ next_number t.ledger) →
    ((t : Translation) (g : Group) (claimed : ℕ) → Describes before t →
    AreClaimedBy before tag (replicate claimed zero_block) → IsGroupBrought t g xs →
    IsAllowedMove t (Accept claimed g) → Describes after (moved t (Accept claimed g))) →
    ((claims : Claims) → AreClaimed before claims → AreClaimed after (with_claimed claims tag [])) →
    ((t : Translation) → IsGroupBrought t (group t) xs) → HasPut before after tag group number
has_put before after tag group number xs numbered described claimed brought = record {
  number_is = numbered;
  layer =
      λ t claims n its slots allowed. (
        described t (group t) n its.0 (subst (AreClaimedBy before tag) slots (its.1 tag)) (brought t) allowed,
        claimed claims its.1,
      );
}

-- What a write brings, by whether it fits into one page

module _ (before after : Core) (tag region : ℕ) (address number : ℕ) (bytes page : List ℕ) (long : length page ≡ 4096)
    (numbered : (t : Translation) → Describes before t → number ≡ next_number t.ledger)
    (claimed : (claims : Claims) → AreClaimed before claims → AreClaimed after (with_claimed claims tag [])) where
  -- what the call says of these pages
  abbrev Puts : List Brought → Type 0
  Puts xs =
      (t : Translation) (g : Group) (n : ℕ) → Describes before t → AreClaimedBy before tag (replicate n zero_block) →
      IsGroupBrought t g xs → IsAllowedMove t (Accept n g) → Describes after (moved t (Accept n g))

  abbrev room : ℕ
  room = room_from (address % 16)

  -- the group, by whether all fits into its first page
  abbrev grouped : Bool → Translation → Group
  grouped b t =
      (if b then area_item t region (address / 16) (address % 16) bytes ∷ []
      else area_item t region (address / 16) (address % 16) (take room bytes)
      ∷ area_item t region (address / 16 + 1) 0 (drop room bytes) ∷ []) ++ settings_item t page ∷ []

  settings_there : (t : Translation) (z : Brought) → IsBrought settings_key 0 page z →
      IsItemBrought t (settings_item t page) z
  settings_there t z is = item_brought t settings_key 0 page z is (λ apart. long)

  area_there : (t : Translation) (q first : ℕ) (bs : List ℕ) (x : Brought) →
      IsBrought (area_key region q) first bs x → IsItemBrought t (area_item t region q first bs) x
  area_there t q first bs x is = item_brought t (area_key region q) first bs x is (λ apart. absurd (true≢false apart))

  pub one_put : length bytes ≤ room → (x z : Brought) → IsBrought (area_key region (address / 16)) (address % 16) bytes x →
      IsBrought settings_key 0 page z → Puts (x ∷ z ∷ []) →
      HasPut before after tag (write_group region address bytes page) number
  one_put low x z its last puts =
      subst (λ (b : Bool). HasPut before after tag (grouped b) number) (sym (le-leb (length bytes) room low))
      (has_put before after tag (grouped true) number (x ∷ z ∷ []) numbered puts claimed
      (λ t. two_brought t _ _ x z (area_there t (address / 16) (address % 16) bytes x its) (settings_there t z last)))

  pub two_put : room < length bytes → (x y z : Brought) →
      IsBrought (area_key region (address / 16)) (address % 16) (take room bytes) x →
      IsBrought (area_key region (address / 16 + 1)) 0 (drop room bytes) y → IsBrought settings_key 0 page z →
      Puts (x ∷ y ∷ z ∷ []) → HasPut before after tag (write_group region address bytes page) number
  two_put high x y z its more last puts =
      subst (λ (b : Bool). HasPut before after tag (grouped b) number) (sym (lt-leb (length bytes) room high))
      (has_put before after tag (grouped false) number (x ∷ y ∷ z ∷ []) numbered puts claimed
      (λ t. three_brought t _ _ _ x y z (area_there t (address / 16) (address % 16) (take room bytes) x its)
      (area_there t (address / 16 + 1) 0 (drop room bytes) y more) (settings_there t z last)))
