-- What a stop leaves of a valid state, and what a device that is opened over it has.
use Rattle.power_loss.proofs.Common.{◌≡◌, ℕ, zero, suc, ◌≤◌, List, [], ◌∷◌, Bool, Option, Some, None, length, take}
use Rattle.power_loss.proofs.Common.{refl, sym, ap, ◌∙◌, subst, ⊎_elim, arith, All-contains, slice_get_within, Array}
use Rattle.power_loss.proofs.Common.{Cell, Cells, IsPlace, Shows, CellCrash, Erasing, Flight, Programming, Reading}
use Rattle.power_loss.proofs.Common.{Spot, spot_of, CanApplyAll, IsKey, content, group_of, groups_of, put_groups}
use Rattle.power_loss.proofs.Common.{CellsStandFor, Holds, accepted_groups, Plain, after, apply, shape_of}
use Rattle.power_loss.proofs.Common.{shape_of_numbers, Sound, Suits, Numbers, Key, Page, Place, shape_after}
use Rattle.power_loss.proofs.MachineWords.{Command, IsLeft, IsLeftoverOf, IsOpened, Stops, die_of, held, page_left}
use Rattle.power_loss.proofs.MachineWords.{durable, State, numbers_of, Leftover, IsArrayOf, IsSpot, ValidState}
use Rattle.std.specs.List.{Contains}
use Rattle.ufs_laws.proofs.plain_contents.CommandsKeepPlain.{all_kept_plain}
use Rattle.ufs_laws.proofs.plain_contents.GroupsOfCommands.{many_commands, length-groups}
use Rattle.ufs_laws.proofs.plain_contents.GroupsOfCommands.{put_groups-same as put_groups_same}
use Rattle.ufs_laws.proofs.array_cells.NewestFound.{newest_mark}
use Rattle.ufs_laws.proofs.array_cells.StandsForOne.{content_one}
use Rattle.ufs_laws.proofs.pages.PageIsSomeCell.{some_cell}
use Rattle.ufs_laws.proofs.plain_contents.PlainFromContents.{same_contents}
use Rattle.power_loss.proofs.stops.LeftPages.{cell_crash, left_holds}
use Rattle.power_loss.proofs.stops.LeftIsSound.{prefix as stop_prefix, sound as stop_sound, suits as stop_suits}
use Rattle.power_loss.proofs.stops.LeftCells.{within as stop_within}
use Rattle.ufs_spec.specs.declared.events.Leftover.TheVariants as leftover

-- The first commands

groups_taken : (k : ℕ) (p : Plain) (cs : List Command) → take k (groups_of p cs) ≡ groups_of p (take k cs)
groups_taken zero p cs = refl
groups_taken (suc k) p [] = refl
groups_taken (suc k) p (c ∷ cs) = ap (λ gs. group_of p c ∷ gs) (groups_taken k (apply p c) cs)

taken_apply : (k : ℕ) (p : Plain) (cs : List Command) → CanApplyAll p cs → CanApplyAll p (take k cs)
taken_apply zero p cs can = tt
taken_apply (suc k) p [] can = tt
taken_apply (suc k) p (c ∷ cs) can = (can.0, can.1, taken_apply k (apply p c) cs can.2)

-- the first groups have the contents after the first commands
content_taken : {s : State} → ValidState s → (count : ℕ) {k : Key} → IsKey (shape_of_numbers (numbers_of s)) k →
    put_groups s.translation.ledger.base (take count (accepted_groups s.translation.ledger)) k ≡ content
    (after s.base (take count s.accepted)) k
content_taken {s} v count {k} key = ap (λ gs. put_groups s.translation.ledger.base (take count gs) k) v.tied.groups
    ∙ ap (λ gs. put_groups s.translation.ledger.base gs k) (groups_taken count s.base s.accepted)
    ∙ put_groups_same s.translation.ledger.base (content s.base) (groups_of s.base (take count s.accepted)) k
    (v.tied.contents k key)
    ∙ sym (many_commands s.base (take count s.accepted) (taken_apply count s.base s.accepted v.tied.commands) k
    (subst (λ shape. IsKey shape k) (sym v.tied.base.1) key))

-- What is left

module _ (s : State) (v : ValidState s) (lefts : List Leftover) (left : Array) (stops : Stops s lefts left) where
  module _ (c : Cells) (shows : Shows left c) where
    crash : CellCrash s.translation.disk.cells s.translation.disk.flights c
    crash = cell_crash s.array s.translation.disk.cells s.translation.disk.flights left v.tied.shown v.tied.flights
        stops.crash c shows

    sound_shown : Sound left
    sound_shown =
        let m = newest_mark (numbers_of s) c (stop_within s.translation c v.tied.valid crash) in
        record {
          cells = c;
          shown = shows;
          newest = m.0;
          is_newest = m.1;
          sound = stop_sound s.translation c m.0 v.tied.valid crash m.1;
          hold = left_holds s.array s.translation.disk.cells s.translation.disk.flights left v.tied.shown v.tied.flights
              stops.crash v.hold;
        }

    suits_shown : Suits (numbers_of s) left
    suits_shown =
        let m = newest_mark (numbers_of s) c (stop_within s.translation c v.tied.valid crash) in
        record {
          cells = c;
          shown = shows;
          newest = m.0;
          is_newest = m.1;
          suit = stop_suits s.translation c m.0 v.tied.valid crash m.1;
        }

    prefix_shown : (p : Plain) → CellsStandFor (numbers_of s) c p → (k : ℕ) × (held s ≤ k) × (durable s ≤ k) ×
        (k ≤ length s.accepted) × (p ≡ after s.base (take k s.accepted))
    prefix_shown p h =
        let pre = stop_prefix s.translation c h.newest h.kept v.tied.valid crash h.is_newest h.is_kept in
        let sound = stop_sound s.translation c h.newest v.tied.valid crash h.is_newest in
        let can : CanApplyAll s.base (take pre.count s.accepted) =
        taken_apply pre.count s.base s.accepted v.tied.commands in
        let shape : shape_of p ≡ shape_of (after s.base (take pre.count s.accepted)) =
        h.shape ∙ sym (shape_after s.base (take pre.count s.accepted) can ∙ v.tied.base.1) in
        let long : length (accepted_groups s.translation.ledger) ≡ length s.accepted = ap length v.tied.groups ∙
        length-groups s.base s.accepted in (
          pre.count,
          pre.held,
          let far = pre.durable in omega arith,
          subst (λ n. pre.count ≤ n) long pre.within,
          same_contents p (after s.base (take pre.count s.accepted)) h.plain
              (all_kept_plain s.base (take pre.count s.accepted) v.tied.base.0 can) shape
              (λ k key.
              (let is : IsKey (shape_of_numbers (numbers_of s)) k = subst (λ x. IsKey x k) h.shape key in
              content_one c h.newest (suc h.kept) k (content p k) (content (after s.base (take pre.count s.accepted)) k)
              sound (h.holds k is)
              (subst (Holds c h.newest (suc h.kept) k) (content_taken v pre.count is) (pre.holds k is)))),
        )

  pub sound_left : Sound left
  sound_left = sound_shown (λ p. (some_cell (left p)).0) (λ p. (some_cell (left p)).1)

  pub suits_left : Suits (numbers_of s) left
  suits_left = suits_shown (λ p. (some_cell (left p)).0) (λ p. (some_cell (left p)).1)

  pub prefix_left : {t : State} {bad : Spot → Bool} → IsOpened (numbers_of s) left bad t →
      (k : ℕ) × (held s ≤ k) × (durable s ≤ k) × (k ≤ length s.accepted) × (t.base ≡ after s.base (take k s.accepted))
  prefix_left {t} opened = prefix_shown opened.stands.0 opened.stands.1 t.base opened.stands.2

-- Outside the dies

-- the job is one within the dies
abbrev pub IsInside : Numbers → Option Flight → Type 0
IsInside n (Some (Programming p cell)) = IsPlace n p
IsInside n (Some (Erasing spot)) = IsSpot n spot
IsInside n other = Unit {0}

-- a leftover of it names pages within the dies
pub named_inside : {n : Numbers} (f : Option Flight) (l : Leftover) {p : Place} (page : Page) → IsInside n f →
    IsLeftoverOf n f l → page_left l p page → IsPlace n p
named_inside {n} (Some (Programming q cell)) (leftover.Page r x) page h fit named = subst (IsPlace n)
    (sym fit ∙ named.0) h
named_inside (Some (Programming q cell)) (leftover.Block die block pages) page h fit named = absurd fit
named_inside (Some (Erasing spot)) (leftover.Page r x) page h fit named = absurd fit
named_inside {n} (Some (Erasing spot)) (leftover.Block die block pages) {p} page h fit named =
    let is : IsSpot n (spot_of p) = subst (IsSpot n) (fit.0 ∙ sym named.0) h in
    let short = slice_get_within pages.items p.page page named.1 in
    let long = fit.1 in
    record { die = is.die; block = is.block; page = omega arith }
named_inside (Some (Reading reader q)) (leftover.Page r x) page h fit named = absurd fit
named_inside (Some (Reading reader q)) (leftover.Block die block pages) page h fit named = absurd fit
named_inside None (leftover.Page r x) page h fit named = absurd fit
named_inside None (leftover.Block die block pages) page h fit named = absurd fit

-- leftovers that name pages within the dies leave all others blank
pub left_inside : {n : Numbers} (array : Array) (lefts : List Leftover) (left : Array) →
    ((l : Leftover) → Contains lefts l → (p : Place) (page : Page) → page_left l p page → IsPlace n p) →
    IsArrayOf n array → IsLeft array lefts left → IsArrayOf n left
left_inside array lefts left inside blank is p out = ⊎_elim (λ x. absurd (out (inside x.0 x.1 p (left p) x.2)))
    (λ x. x.1 ∙ blank p out) (is p)

inside_of : {n : Numbers} (f : Option Flight) → ((p : Place) (cell : Cell) → f ≡ Some (Programming p cell) →
    IsPlace n p) → ((spot : Spot) → f ≡ Some (Erasing spot) → IsSpot n spot) → IsInside n f
inside_of (Some (Programming p cell)) programs erases = programs p cell refl
inside_of (Some (Erasing spot)) programs erases = erases spot refl
inside_of f programs erases = tt

-- each job of a valid state is one within the dies
pub flight_inside : {s : State} → ValidState s → (die : ℕ) → IsInside (numbers_of s) (s.translation.disk.flights die)
flight_inside {s} v die =
    inside_of (s.translation.disk.flights die) (λ p cell e. (v.tied.valid.flights.programs die p cell e).place)
    (λ spot e. v.erases die spot e)

pub within_left : {s : State} → ValidState s → {lefts : List Leftover} {left : Array} → Stops s lefts left →
    IsArrayOf (numbers_of s) s.array → IsArrayOf (numbers_of s) left
within_left {s} v {lefts} {left} stops blank = left_inside s.array lefts left
    (λ l there p page named. named_inside (s.translation.disk.flights (die_of l)) l page (flight_inside v (die_of l))
    (All-contains (λ x. IsLeftoverOf (numbers_of s) (s.translation.disk.flights (die_of x)) x) lefts l
    stops.fit.0 there) named) blank stops.is_left
