-- No block of a reader is kept twice, whatever becomes of the pins.
use Rattle.ftl_core.proofs.Common.{Bool, Entry, List, Name, Option, Pin, PinsKept, [], ap, false, filter, is_pin_of}
use Rattle.ftl_core.proofs.Common.{list_any, list_any-append, map, or_parts, refl, true, ℕ, ◌&&◌, ◌++◌, ◌||◌, ◌∙◌, ◌∷◌}
use Rattle.ftl_core.proofs.Common.{◌≡◌}
use Rattle.std.proofs.Common.{◌==◌}
use Rattle.std.specs.Prelude.{cond}
use Rattle.ufs_spec.proofs.Facts.{or_from}
use Rattle.ufs_spec.specs.Moves as move
use Rattle.ufs_spec.specs.Translation as layer
use Rattle.power_loss.proofs.open_tasks.TaggedLists.{any_fewer, any_map, other_way}
use Rattle.ftl_core.specs.Describes.{ReadersDiffer}
use Rattle.ftl_core.specs.Tells.{PinsDiffer}
use Rattle.ftl_core.proofs.pins.FoundPins.{same_test}

-- each stays of its reader and its index
pub differ_mapped : (f : Pin → Pin) → ((p : Pin) → (f p).reader ≡ p.reader) → ((p : Pin) → (f p).index ≡ p.index) →
    (ps : List Pin) → ReadersDiffer ps → ReadersDiffer (map f ps)
differ_mapped f reader index [] h = tt
differ_mapped f reader index (p ∷ ps) h = (
  any_map (is_pin_of (f p).reader (f p).index) (is_pin_of p.reader p.index) f
      (λ q i. (reader q i == reader p i) && (index q i == index p i)) ps ∙ h.0,
  differ_mapped f reader index ps h.1,
)

-- some of them are kept
pub differ_kept : (kept : Pin → Bool) (ps : List Pin) → ReadersDiffer ps → ReadersDiffer (filter kept ps)
differ_kept kept [] h = tt
differ_kept kept (p ∷ ps) h =
    by (kept p) (any_fewer (is_pin_of p.reader p.index) kept ps h.0) (differ_kept kept ps h.1)
  where
    by : (b : Bool) → list_any (is_pin_of p.reader p.index) (filter kept ps) ≡ false →
        ReadersDiffer (filter kept ps) → ReadersDiffer (cond b (p ∷ filter kept ps) (filter kept ps))
    by true first rest = (first, rest)
    by false first rest = rest

-- one pin more, of a block that was not kept
pub differ_more : (ps : List Pin) (p : Pin) → list_any (is_pin_of p.reader p.index) ps ≡ false → ReadersDiffer ps →
    ReadersDiffer (ps ++ p ∷ [])
differ_more [] p new h = (refl, tt)
differ_more (x ∷ ps) p new h =
    let r = or_parts (is_pin_of p.reader p.index x) (list_any (is_pin_of p.reader p.index) ps) new in (
      list_any-append (is_pin_of x.reader x.index) ps (p ∷ [])
          ∙ or_from _ _ h.0 (or_from (is_pin_of x.reader x.index p) false
          (apart p.reader x.reader p.index x.index r.0) refl),
      differ_more ps p r.1 h.1,
    )
  where
    both : (a b c d : Bool) → (a ≡ false → c ≡ false) → (b ≡ false → d ≡ false) → (a && b) ≡ false → (c && d) ≡ false
    both false b c d f g h = ap (λ (z : Bool). z && d) (f refl)
    both true false true d f g h = g refl
    both true false false d f g h = refl
    both true true c d f g h = cc

    apart : (a b i j : ℕ) → ((b == a) && (j == i)) ≡ false → ((a == b) && (i == j)) ≡ false
    apart a b i j = both (b == a) (j == i) (a == b) (i == j) (other_way b a) (other_way j i)

-- so it is of what tasks keep
any_same : (frontier : ℕ) (entries : Name → Option Entry) (reader index : ℕ) (ps : List Pin) (qs : List layer.Pin) →
    PinsKept frontier entries ps qs → list_any (move.is_pin_of reader index) qs ≡ list_any (is_pin_of reader index) ps
any_same frontier entries reader index [] [] h = refl
any_same frontier entries reader index [] (q ∷ qs) h = absurd h
any_same frontier entries reader index (p ∷ ps) [] h = absurd h
any_same frontier entries reader index (p ∷ ps) (q ∷ qs) h =
    let here = same_test frontier entries reader index p q h.0 in
    let behind = any_same frontier entries reader index ps qs h.1 in
    λ i. here i || behind i

pub tasks_differ : (frontier : ℕ) (entries : Name → Option Entry) (ps : List Pin) (qs : List layer.Pin) →
    PinsKept frontier entries ps qs → ReadersDiffer ps → PinsDiffer qs
tasks_differ frontier entries [] [] h differ = tt
tasks_differ frontier entries [] (q ∷ qs) h differ = absurd h
tasks_differ frontier entries (p ∷ ps) [] h differ = absurd h
tasks_differ frontier entries (p ∷ ps) (q ∷ qs) h differ = (
  (λ i. list_any (move.is_pin_of (h.0.tag i) (h.0.index i)) qs)
      ∙ any_same frontier entries p.reader p.index ps qs h.1 ∙ differ.0,
  tasks_differ frontier entries ps qs h.1 differ.1,
)
