-- Outside dies that fit the configuration all is blank; and a device may be opened over new dies.
use Rattle.power_loss.proofs.Common.{◌≡◌, ℕ, suc, ◌<◌, ◌≤◌, List, [], length, ap, ◌∙◌, ⊎_elim, arith, All-weaker}
use Rattle.power_loss.proofs.Common.{slice_index_or, IsPlace, Numbers, Page, Place}
use Rattle.power_loss.proofs.MachineWords.{DieState, blank_page, Fit, array_of, IsArrayOf, MayBeOpened}
use Rattle.std.proofs.lemmas.List.{get_or_past}
use Rattle.std.proofs.lemmas.List.Elements.{All-get_or}
use Rattle.ufs_laws.proofs.deciding.SearchOverPlaces.{split}
use Rattle.ufs_laws.proofs.array_cells.StandsForSomething.{new_sound, new_suits}
use Rattle.ufs_spec.specs.DieLaws.{new_die_blank, new_die_size, pages_in}
use Rattle.ufs_spec.specs.Dies.{IsOfSize, new_die, page_at, pages_of}
use Rattle.power_loss.specs.Runs.{AreNewDies, IsNewDie}

no_pages : (d : DieState) (block page : ℕ) → length d.blocks ≤ block → page_at d block page ≡ blank_page
no_pages d block page l = ap (λ (pages : List Page). slice_index_or pages page blank_page)
    (get_or_past d.blocks block [] l) ∙ get_or_past [] page blank_page (omega arith)

on_die : {n : Numbers} (d : DieState) {p : Place} → IsOfSize n.blocks n.pages d → p.die < n.dies → (IsPlace n p → ⊥) →
    page_at d p.block p.page ≡ blank_page
on_die {n} d {p} size die out = ⊎_elim
    (λ (block : suc p.block ≤ n.blocks). ⊎_elim
    (λ (page : suc p.page ≤ n.pages). absurd (out record { die = die; block = block; page = page }))
    (λ (page : n.pages < suc p.page).
    let long = pages_in d p.block n.blocks n.pages block size in
    get_or_past (pages_of d p.block) p.page blank_page (omega arith)) (split (suc p.page) n.pages))
    (λ (block : n.blocks < suc p.block). let long = size.0 in no_pages d p.block p.page (omega arith))
    (split (suc p.block) n.blocks)

pub fit_inside : (n : Numbers) (dies : List DieState) → Fit n dies → IsArrayOf n (array_of dies)
fit_inside n dies fit p out = ⊎_elim
    (λ (die : suc p.die ≤ length dies).
    let many = fit.0 in
    on_die (slice_index_or dies p.die (new_die 0 0))
    (All-get_or (IsOfSize n.blocks n.pages) dies p.die (new_die 0 0) die fit.1) (omega arith) out)
    (λ (die : length dies < suc p.die).
    ap (λ (d : DieState). page_at d p.block p.page) (get_or_past dies p.die (new_die 0 0) (omega arith))
    ∙ new_die_blank 0 0 p.block p.page) (split (suc p.die) (length dies))

-- New dies

pub new_die_is : (n : Numbers) → IsNewDie n (new_die n.blocks n.pages)
new_die_is n = (new_die_size n.blocks n.pages, new_die_blank n.blocks n.pages)

pub new_fit : (n : Numbers) (dies : List DieState) → AreNewDies n dies → Fit n dies
new_fit n dies h = (h.0, All-weaker (IsNewDie n) (IsOfSize n.blocks n.pages) (λ d k. k.0) dies h.1)

pub new_blank : (n : Numbers) (dies : List DieState) → AreNewDies n dies → (p : Place) → array_of dies p ≡ blank_page
new_blank n dies h p = ⊎_elim
    (λ (die : suc p.die ≤ length dies). (All-get_or (IsNewDie n) dies p.die (new_die 0 0) die h.1).1 p.block p.page)
    (λ (die : length dies < suc p.die).
    ap (λ (d : DieState). page_at d p.block p.page) (get_or_past dies p.die (new_die 0 0) (omega arith))
    ∙ new_die_blank 0 0 p.block p.page) (split (suc p.die) (length dies))

pub new_opens : (n : Numbers) (dies : List DieState) → AreNewDies n dies → MayBeOpened n (array_of dies)
new_opens n dies h = record {
  inside = λ p out. new_blank n dies h p;
  sound = new_sound (array_of dies) (new_blank n dies h);
  suits = new_suits n (array_of dies) (new_blank n dies h);
}
