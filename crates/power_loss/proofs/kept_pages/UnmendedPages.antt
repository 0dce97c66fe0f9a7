-- Until the device is mended the page with a key's content stands where it is not erased.
use Rattle.power_loss.proofs.Common.{◌≡◌, ℕ, ◌<◌, ◌≤◌, false, List, Option, Some, None, sym, ap, ◌∙◌, ⊎_elim, arith}
use Rattle.power_loss.proofs.Common.{Cells, Mark, MarkPage, Group, IsNewestMark, recorded_in, Name, latest_in, Mended}
use Rattle.power_loss.proofs.Common.{Mending, Repairing, Translation, Unmarked, is_mended, Key, Place, true≢false}
use Rattle.power_loss.proofs.Common.{same_Some, HasKey, book, Valid}
use Rattle.power_loss.proofs.books.LastOfEachKey.{IsLastOf, NoneOf, latest_cases}
use Rattle.power_loss.proofs.books.LayerParts.{MendingOf, SecureOf}

recorded_under : {c : Cells} {top : ℕ} (newest : Option Mark) → IsNewestMark c newest →
    ((p : Place) (m : Mark) → c p ≡ MarkPage m → m.records ≤ top) → recorded_in newest ≤ top
recorded_under None is under = omega arith
recorded_under (Some m) is under = under is.0.0 m is.0.1

unmended_by : (t : Translation) (w : Mending) → is_mended w ≡ false → MendingOf t w →
    recorded_in t.ledger.newest ≤ t.ledger.greatest_seen
unmended_by t (Unmarked fence lost) un r = recorded_under t.ledger.newest r.opened.is_newest r.opened.marks
unmended_by t (Repairing left) un r = let e = ap recorded_in r.is in let z = r.more.fence.records in omega arith
unmended_by t Mended un r = absurd (true≢false un)

-- what the newest finished mark records was seen when the life began
pub unmended_recorded : {t : Translation} → Valid t → is_mended t.work.mending ≡ false →
    recorded_in t.ledger.newest ≤ t.ledger.greatest_seen
unmended_recorded {t} v un = unmended_by t t.work.mending un v.mending

-- a page of this life stands securely
pub new_secure : {t : Translation} (n i : ℕ) {p : Place} → Valid t → is_mended t.work.mending ≡ false →
    t.ledger.greatest_seen < n → t.ledger.standing n i ≡ Some p → SecureOf t n i
new_secure {t} n i {p} v un new h =
    let k = v.frontier.known n i p h in
    ⊎_elim (λ s. s)
    (λ o.
    let newer = o.by.newer in
    let within = o.by.within in
    let r = unmended_recorded v un in
    absurd (omega arith)) (v.safe.safe n i k.0 p k.1 h (λ l. let z = l.to in omega arith))

-- and so does the page with the key's content after any groups of this life
pub unmended_secure : {t : Translation} (k : Key) (gs : List Group) (o : Option Name) (name : Name) {p : Place} →
    Valid t → is_mended t.work.mending ≡ false → HasKey (book t) k →
    latest_in k t.ledger.greatest_seen gs (t.ledger.first_page k) ≡ o → o ≡ Some name →
    t.ledger.standing name.number name.index ≡ Some p → SecureOf t name.number name.index
unmended_secure {t} k gs o name {p} v un has is e h = ⊎_elim
    (λ (l : IsLastOf k t.ledger.greatest_seen gs (latest_in k t.ledger.greatest_seen gs (t.ledger.first_page k))).
    let same = ap (λ (x : Name). x.number) (same_Some l.name name (sym l.is ∙ is ∙ e)) in
    let n = l.number in
    new_secure name.number name.index v un (omega arith) h)
    (λ (r : (latest_in k t.ledger.greatest_seen gs (t.ledger.first_page k) ≡ t.ledger.first_page k) × NoneOf k gs).
    v.unmended.stand un k name p has (sym r.0 ∙ is ∙ e) h)
    (latest_cases k t.ledger.greatest_seen gs (t.ledger.first_page k))
