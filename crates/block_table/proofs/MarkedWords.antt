-- The search for a victim by the second level of its bucket.
use Rattle.block_table.proofs.Common.{AreCounted, Blocks, Bool, Buckets, IsLowest, List, Lives, ap, arith, bit}
use Rattle.block_table.proofs.Common.{blocks_in, cases_lt, false, false≢true, has, inl, inr, is_victim_at, le-leb}
use Rattle.block_table.proofs.Common.{length, nat_le, subst, sym, true, ℕ, ◌%◌, ◌&&◌, ◌*◌, ◌+◌, ◌-◌, ◌/◌, ◌<◌, ◌∙◌, ◌≡◌}
use Rattle.block_table.proofs.Common.{◌≤◌, ◌⊎◌}
use Rattle.block_table.specs.Buckets.{AreMarks, IsMark}
use Rattle.block_table.proofs.Unpinned.{AreUnpinned}
use Rattle.block_table.proofs.VictimBuckets.{empty_none}

-- Words that are passed over

-- the words between one and the next with a mark have none
pub next_mark : (marks left from mark : ℕ) →
    ((j : ℕ) → j < 64 → bit left j ≡ (nat_le from j && bit marks j)) → IsLowest (bit left) mark → mark < 64 →
    (j : ℕ) → from ≤ j → j < mark → bit marks j ≡ false
next_mark marks left from mark is low l j m n =
    sym (ap (λ (b : Bool). b && bit marks j) (le-leb from j m)) ∙ sym (is j (omega arith)) ∙ low.below j n

pub no_mark : (marks left from : ℕ) → ((j : ℕ) → j < 64 → bit left j ≡ (nat_le from j && bit marks j)) →
    ((j : ℕ) → bit left j ≡ false) → (j : ℕ) → from ≤ j → j < 64 → bit marks j ≡ false
no_mark marks left from is off j m l =
    sym (ap (λ (b : Bool). b && bit marks j) (le-leb from j m)) ∙ sym (is j l) ∙ off j

-- no block of a word without a mark may be collected
pub unmarked_none : (l : Lives) (t : Blocks) (scarce : Bool) (counts : List ℕ) (b : Buckets) (count group marks j : ℕ) →
    count ≤ l.sizes.pages → length l.pins ≡ blocks_in l.sizes → AreCounted l counts →
    AreUnpinned b l.sizes.pages counts l.pins → AreMarks (has b count) group marks → j < 64 → bit marks j ≡ false →
    (i : ℕ) → i < 64 → is_victim_at l t scarce count (64 * (64 * group + j) + i) ≡ false
unmarked_none l t scarce counts b count group marks j few whole kept old is m off i n =
    empty_none l t scarce counts b count few whole kept old (64 * (64 * group + j) + i)
    (off_is (bit marks j) off (is j m) i n)
  where
    off_is : (c : Bool) → c ≡ false → IsMark (has b count) (64 * group + j) c → (i : ℕ) → i < 64 →
        has b count (64 * (64 * group + j) + i) ≡ false
    off_is true e h = absurd (false≢true (sym e))
    off_is false e h = h

-- so the words without a mark are passed over
pub passed_over : (test : ℕ → Bool) (group from to : ℕ) → ((p : ℕ) → p < 64 * (64 * group + from) → test p ≡ false) →
    ((j : ℕ) → from ≤ j → j < to → (i : ℕ) → i < 64 → test (64 * (64 * group + j) + i) ≡ false) →
    (p : ℕ) → p < 64 * (64 * group + to) → test p ≡ false
passed_over test group from to before none p l = by (cases_lt p (64 * (64 * group + from)))
  where
    j : ℕ
    j = p / 64 - 64 * group

    place : (p group from to : ℕ) → 64 * (64 * group + from) ≤ p → p < 64 * (64 * group + to) →
        (from ≤ p / 64 - 64 * group) × ((p / 64 - 64 * group < to)
        × (p ≡ 64 * (64 * group + (p / 64 - 64 * group)) + p % 64))
    place p group from to m l = (omega arith, (omega arith, omega arith))

    by : (p < 64 * (64 * group + from)) ⊎ (64 * (64 * group + from) ≤ p) → test p ≡ false
    by (inl m) = before p m
    by (inr m) = let u = place p group from to m l in ap test u.1.1 ∙ none j u.0 u.1.0 (p % 64) (rest p)
      where
        rest : (p : ℕ) → p % 64 < 64
        rest p = omega arith

-- what a word of the second level tells of its 64 words
pub record Tells (l : Lives) (t : Blocks) (scarce : Bool) (count group marks : ℕ) : Type 0 where
  pub none : (j : ℕ) → j < 64 → bit marks j ≡ false → (i : ℕ) → i < 64 →
      is_victim_at l t scarce count (64 * (64 * group + j) + i) ≡ false

pub tells : (l now : Lives) (t : Blocks) (scarce : Bool) (counts : List ℕ) (b : Buckets) (count group marks : ℕ) →
    l ≡ now →
    count ≤ now.sizes.pages → length l.pins ≡ blocks_in l.sizes → AreCounted l counts →
    AreUnpinned b l.sizes.pages counts l.pins → AreMarks (has b count) group marks →
    Tells now t scarce count group marks
tells l now t scarce counts b count group marks same few whole kept old is =
    subst (λ (n : Lives). Tells n t scarce count group marks) same (record {
      none = λ j m off. unmarked_none l t scarce counts b count group marks j within whole kept old is m off;
    })
  where
    within : count ≤ l.sizes.pages
    within = subst (λ (n : Lives). count ≤ n.sizes.pages) (sym same) few

-- up to the next mark none may be collected
pub none_to_mark : {l : Lives} {t : Blocks} {scarce : Bool} {count group marks from mark : ℕ} →
    Tells l t scarce count group marks →
    ((j : ℕ) → from ≤ j → j < mark → bit marks j ≡ false) → mark < 64 →
    ((p : ℕ) → p < 64 * (64 * group + from) → is_victim_at l t scarce count p ≡ false) →
    (p : ℕ) → p < 64 * (64 * group + mark) → is_victim_at l t scarce count p ≡ false
none_to_mark {l} {t} {scarce} {count} {group} {marks} {from} {mark} k off m before =
    passed_over (is_victim_at l t scarce count) group from mark before
    (λ j a b. k.none j (omega arith) (off j a b))

-- and without one none of the 64 words has any
pub none_to_end : {l : Lives} {t : Blocks} {scarce : Bool} {count group marks from : ℕ} →
    Tells l t scarce count group marks →
    ((j : ℕ) → from ≤ j → j < 64 → bit marks j ≡ false) →
    ((p : ℕ) → p < 64 * (64 * group + from) → is_victim_at l t scarce count p ≡ false) →
    (p : ℕ) → p < 64 * (64 * (group + 1)) → is_victim_at l t scarce count p ≡ false
none_to_end {l} {t} {scarce} {count} {group} {marks} {from} k off before p m =
    passed_over (is_victim_at l t scarce count) group from 64 before (λ j a b. k.none j b (off j a b)) p (omega arith)
