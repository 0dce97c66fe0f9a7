-- A read that a die is given, and one that a die does, is of a group's page.
use Rattle.power_loss.proofs.Common.{◌≡◌, ◌≢◌, ℕ, List, Option, Some, sym, ap, ◌∙◌, subst, refl, ⊎_elim, none-some}
use Rattle.power_loss.proofs.Common.{Cells, GroupPage, IsCell, Opens, key_of, Erasing, Flight, Reader, Reading, Spot}
use Rattle.power_loss.proofs.Common.{spot_of, Name, ReadRight, ReadWrong, MayTake, Pin, Rest, Translation, Want}
use Rattle.power_loss.proofs.Common.{want_at, wants_of_step, Page, Place, Tag, Valid}
use Rattle.ufs_spec.specs.Moves.{IsAnother, IsEndingOf}
use Rattle.ufs_spec.specs.declared.flash.Outcome.TheVariants as outcome
use Rattle.power_loss.proofs.ordered_lists.ElementsAndOrders.{all_in}
use Rattle.power_loss.proofs.jobs_owed.OneDieForEachJob.{read_owed}
use Rattle.power_loss.proofs.jobs_owed.ProgramsAndErases.{erase_owed}
use Rattle.power_loss.proofs.books.LayerParts.{NeededOf, PageOf, LookedOf, SourceOf}

pub read_page : {t : Translation} (die : ℕ) (reader : Reader) {place : Place} → Valid t →
    MayTake t die (Some (Reading reader place)) → (name : Name) × PageOf t name place
read_page {t} die reader {place} v may = ⊎_elim
    (λ h. (h.2.0, subst (LookedOf t) h.2.1 (all_in (λ (pin : Pin). LookedOf t pin.looked) h.0 t.pins v.pins.each h.1)))
    (⊎_elim
    (λ h.
    let needed = all_in (λ (w : Want). NeededOf t w.place)
    (want_at reader place) (wants_of_step t.work.step) v.to_read.wanted h in
    (needed.name, needed.page))
    (λ h. subst (SourceOf t) h.2.0
    (all_in (λ (rest : Rest). SourceOf t rest.source) h.0 t.work.rests
    v.rests.each h.1))) (read_owed t die reader place may).0

abbrev pub IsPageThere : Cells → Place → Type 0
IsPageThere cells place = (page : Tag) × (body : List ℕ) × (cells place ≡ GroupPage page body)

pub read_there : {t : Translation} (die : ℕ) (reader : Reader) (place : Place) → Valid t →
    MayTake t die (Some (Reading reader place)) → IsPageThere t.disk.cells place
read_there {t} die reader place v may =
    let r = read_page die reader v may in
    (r.1.tag, r.1.body, r.1.there)

-- in flight

pub flying_there : (t : Translation) (die : ℕ) (reader : Reader) (place : Place) → Valid t →
    t.disk.flights die ≡ Some (Reading reader place) → IsPageThere t.disk.cells place
flying_there t die reader place v flies =
    let r = v.reads.page die reader place flies in
    (r.1.tag, r.1.body, r.1.there)

-- a page that is none of the group's ends the read
pub another_ends : (t : Translation) (die : ℕ) (reader : Reader) (place : Place) (page : Page) → Valid t →
    t.disk.flights die ≡ Some (Reading reader place) →
    ((tag other : Tag) (body bytes : List ℕ) → t.disk.cells place ≡ GroupPage tag body → Opens page other bytes →
    key_of other ≡ key_of tag → other.number ≡ tag.number → ⊥) →
    IsEndingOf t.disk.cells (t.disk.flights die) (outcome.Read page) ReadWrong
another_ends t die reader place page v flies none =
    let r = flying_there t die reader place v flies in
    subst (λ (f : Option Flight). IsEndingOf t.disk.cells f (outcome.Read page) ReadWrong) (sym flies) (
      refl,
      subst (IsAnother page) (sym r.2) (λ other bytes opens key number. none r.0 other r.1 bytes r.2 opens key number),
    )

-- the page itself ends it too, and so does a failure
pub wanted_ends : (t : Translation) (die : ℕ) (reader : Reader) (place : Place) (page : Page) →
    t.disk.flights die ≡ Some (Reading reader place) → IsCell page (t.disk.cells place) →
    IsEndingOf t.disk.cells (t.disk.flights die) (outcome.Read page) ReadRight
wanted_ends t die reader place page flies is =
    subst (λ (f : Option Flight). IsEndingOf t.disk.cells f (outcome.Read page) ReadRight) (sym flies) (refl, is)

pub failed_ends : (t : Translation) (die : ℕ) (reader : Reader) (place : Place) →
    t.disk.flights die ≡ Some (Reading reader place) →
    IsEndingOf t.disk.cells (t.disk.flights die) outcome.ReadFailed ReadWrong
failed_ends t die reader place flies =
    subst (λ (f : Option Flight). IsEndingOf t.disk.cells f outcome.ReadFailed ReadWrong) (sym flies) (refl, tt)

pub flying_home : (t : Translation) (die : ℕ) (reader : Reader) (place : Place) → Valid t →
    t.disk.flights die ≡ Some (Reading reader place) → place.die ≡ die
flying_home t die reader place v flies = v.reads.at_home die reader place flies

-- no erase begins in the block of a page that a die reads
pub flying_not_erased : (t : Translation) (die other : ℕ) (reader : Reader) (place : Place) (s : Spot) → Valid t →
    t.disk.flights die ≡ Some (Reading reader place) → MayTake t other (Some (Erasing s)) → spot_of place ≢ s
flying_not_erased t die other reader place s v flies may same =
    let o = erase_owed t other s may in
    let here : die ≡ other = sym (v.reads.at_home die reader place flies) ∙ ap (λ (x : Spot). x.die) same
    ∙ o.inside.at_home in
    none-some (Reading reader place) (sym o.idle ∙ ap t.disk.flights (sym here) ∙ flies)
