-- Over any number of lives whose failures are borne, from new dies on, each opening finds room for its mending, and no
-- life is locked out.
use Rattle.many_stops.proofs.Common.{AreAllowedMoves, AreWithin, Bool, CellCrash, Cells, CellsSound, FindsRoom, Free}
use Rattle.many_stops.proofs.Common.{HasSpareBlocks, IsOpenedTranslation, List, Move, Nothing, Numbers, Opened, Place}
use Rattle.many_stops.proofs.Common.{Spot, Translation, Valid, [], ap, arith, below, cond, count_blocks, count_by}
use Rattle.many_stops.proofs.Common.{div_ceil, false, free_is, inl, inr, is_bad, is_free, least_room, length}
use Rattle.many_stops.proofs.Common.{may_go_bad, mending_blocks, moved_by, mul-le-mul_left, refl, spots, subst}
use Rattle.many_stops.proofs.Common.{sum_by-cons, sym, true, true≢false, ℕ, ⊎_elim, ◌*◌, ◌+◌, ◌-◌, ◌<◌, ◌∙◌, ◌∷◌, ◌≡◌}
use Rattle.many_stops.proofs.Common.{◌≤◌}
use Rattle.std.proofs.Common.{map}
use Rattle.std.proofs.Math.Nat.{lt_of_mul-lt-mul_right}
use Rattle.std.proofs.lemmas.Grind.{div_ceil_times}
use Rattle.std.proofs.lemmas.List.{length-map}
use Rattle.std.proofs.lemmas.List.Concat.{length-flat_map}
use Rattle.std.proofs.lemmas.List.Elements.{All-cons, All-head, All-nil, All-tail}
use Rattle.std.specs.List.{All, sum_by}
use Rattle.ufs_laws.proofs.new_dies.FirstLife.{none_there}
use Rattle.ufs_spec.proofs.ConfigFacts.{config_tests, ranges}
use Rattle.ufs_spec.proofs.Facts.{ltb-false}
use Rattle.ufs_spec.proofs.Lists.{length-below}
use Rattle.ufs_spec.specs.Cells.{Array}
use Rattle.ufs_spec.specs.Configs.{IsConfig, blocks_left, blocks_needed, pages_kept}
use Rattle.ufs_spec.specs.Dies.{DieState}
use Rattle.ufs_spec.specs.Lives.{IsOpened, Life, Lived, Lives, Runs, Stops, array_of, bad_in, bad_of}
use Rattle.ufs_spec.specs.Refusals.{State, mended, numbers_of}
use Rattle.ufs_spec.specs.Sound.{Sound}
use Rattle.ufs_spec.specs.declared.events.Event.{Event}
use Rattle.ufs_spec.specs.declared.events.Leftover.{Leftover}
use Rattle.ufs_spec.specs.declared.events.Output.{Output}
use Rattle.power_loss.proofs.die_pages.BlankOutsideDies.{new_blank, new_opens}
use Rattle.power_loss.proofs.lives.ChainedLives.{Left, end_of_life, left_of, life_continues}
use Rattle.power_loss.proofs.lives.EachEventKeeps.{many_events}
use Rattle.power_loss.proofs.lives.LivesOfRuns.{lives_of}
use Rattle.power_loss.proofs.mending_steps.TurnsOfALife.{life_takes}
use Rattle.power_loss.proofs.openings.OpenedByName.{opened}
use Rattle.power_loss.proofs.openings.OpenedIsValid.{opening_valid}
use Rattle.power_loss.proofs.openings.OpenedStates.{cells_shown, is_opened, opened_state, valid_is}
use Rattle.power_loss.proofs.repaired_keys.LivesMendSoon.{few_keys, listed, new_few, stopped_few}
use Rattle.power_loss.proofs.repaired_keys.RepairsStayFew.{all_few}
use Rattle.power_loss.proofs.room_to_mend.DevicesWithRoom.{device_goes_on}
use Rattle.power_loss.proofs.stops.LeftPages.{cell_crash}
use Rattle.power_loss.specs.Book.{CellsRight}
use Rattle.power_loss.specs.Exchange.{IsArrayOf, ValidState}
use Rattle.power_loss.specs.FewRepairs.{ArrayHasFewLost, HasFewLost, still_lost}
use Rattle.power_loss.specs.MendingRoom.{MayGoOn, makes_bad}
use Rattle.power_loss.specs.Runs.{AreNewDies}
use Rattle.many_stops.proofs.finding_room.RoomForAMending.{blocks_hold, least_room_twice}
use Rattle.many_stops.proofs.finding_room.LivesWithFailures.{life_holds, moves_hold}
use Rattle.many_stops.proofs.finding_room.MendingLives.{LivesFrom, lives_begin, lives_on, stop_leaves}
use Rattle.many_stops.proofs.finding_room.StopsOfAMending.{opened_bad, were_unfilled}
use Rattle.many_stops.specs.BorneFailures.{AreBorne, AreBorneMoves, IsBorneLife}
use Rattle.many_stops.specs.RoomOverStops.{IsNeverLockedOut, OpensWithRoom, more_bad}

-- Configurations

has_die : (n : Numbers) → IsConfig n → 1 ≤ n.dies
has_die n config = (ranges n (config_tests n config).0).has_die

has_pages : (n : Numbers) → IsConfig n → 2 ≤ n.pages
has_pages n config = let r = (ranges n (config_tests n config).0).has_pages in omega (arith, r)

pub blocks_of_a_mending : (n : Numbers) → IsConfig n →
    (n.slots + 2 ≤ n.pages * mending_blocks n) × (least_room n ≡ n.dies + 2 * mending_blocks n)
blocks_of_a_mending n config = (blocks_hold n (has_pages n config), least_room_twice n)

-- New dies

few_rows : (pages slots kept filled needed : ℕ) → 1 ≤ pages → kept + 4 * slots ≤ needed * pages →
    filled * pages < slots + pages → 2 * filled ≤ needed + 1
few_rows pages slots kept filled needed some hold less =
    let l : 2 * filled * pages < (needed + 2) * pages = omega (arith, some, hold, less) in
    let r = lt_of_mul-lt-mul_right pages l in
    omega (arith, r)

enough_blocks : (filled needed dies left : ℕ) → 2 * filled ≤ needed + 1 → needed + 4 * dies + 8 ≤ left →
    2 * (filled + 1) ≤ left
enough_blocks filled needed dies left few hold = omega (arith, few, hold)

-- a configuration has as many blocks as two mendings need, also if all spare ones are bad
config_blocks : (n : Numbers) → IsConfig n → 2 * mending_blocks n ≤ blocks_left n
config_blocks n config =
    let tests = config_tests n config in
    let pages = has_pages n config in
    let some : 1 ≤ n.pages = omega (arith, pages) in
    let fits = ltb-false (blocks_left n) (blocks_needed n) tests.1 in
    let kept = (div_ceil_times (pages_kept n + 4 * n.slots) n.pages some).0 in
    let less = (div_ceil_times n.slots n.pages some).1 in
    enough_blocks (div_ceil n.slots n.pages) (div_ceil (pages_kept n + 4 * n.slots) n.pages) n.dies (blocks_left n)
    (few_rows n.pages n.slots (pages_kept n) (div_ceil n.slots n.pages)
    (div_ceil (pages_kept n + 4 * n.slots) n.pages) some kept less) fits

sum_same : {A : Type 0} (f : A → ℕ) (m : ℕ) (xs : List A) → ((x : A) → f x ≡ m) → sum_by f xs ≡ length xs * m
sum_same f m [] each = omega arith
sum_same f m (x ∷ xs) each =
    let a = sum_by-cons f x xs in
    let e = each x in
    let r = sum_same f m xs each in
    omega (arith, a, e, r)

-- each element passes the one test or the other
one_passes : {A : Type 0} (test other : A → Bool) (xs : List A) → ((x : A) → other x ≡ false → test x ≡ true) →
    length xs ≤ count_by test xs + count_by other xs
one_passes test other [] each = omega arith
one_passes {A} test other (x ∷ xs) each =
    let a = sum_by-cons (λ (y : A). cond (test y) 1 0) x xs in
    let b = sum_by-cons (λ (y : A). cond (other y) 1 0) x xs in
    let l = passes (test x) (other x) (each x) in
    let r = one_passes test other xs each in
    omega (arith, a, b, l, r)
  where
    passes : (b c : Bool) → (c ≡ false → b ≡ true) → 1 ≤ cond b 1 0 + cond c 1 0
    passes b true h = omega arith
    passes b false h = let e = ap {B = ℕ} (λ (z : Bool). cond z 1 0) (h refl) in omega (arith, e)

abbrev block_at : ℕ → ℕ → Spot
block_at die block = record { die = die; block = block }

length_spots : (n : Numbers) → length (spots n) ≡ n.dies * n.blocks
length_spots n =
    length-flat_map (λ die. map (λ block. block_at die block) (below n.blocks)) (below n.dies)
    ∙ sum_same (λ die. length (map (λ block. block_at die block) (below n.blocks))) n.blocks (below n.dies)
    (λ die. length-map (below n.blocks) (λ block. block_at die block) ∙ length-below n.blocks)
    ∙ ap (λ k. k * n.blocks) (length-below n.dies)

left_over : (needed blocks spare bad free : ℕ) → 1 ≤ needed → needed ≤ blocks - spare → bad ≤ spare →
    blocks ≤ free + bad → needed + (spare - bad) ≤ free
left_over needed blocks spare bad free some enough few all = omega (arith, some, enough, few, all)

-- where all blocks are free that are not bad, and no more are bad than spare ones, there is room for any mending
all_free_spare : (t : Translation) (bad : Spot → Bool) → IsConfig t.numbers →
    count_by bad (spots t.numbers) ≤ t.numbers.spare → ((s : Spot) → bad s ≡ false → t.disk.blocks s ≡ Free) →
    ((s : Spot) → is_bad (t.disk.blocks s) ≡ bad s) → HasSpareBlocks t
all_free_spare t bad config few free same = record {
  free = omega (arith, two);
  spare = λ s. is_free (t.disk.blocks s);
  each = λ s h. inl (free_is (t.disk.blocks s) h);
  many = two;
}
  where
    as_many : may_go_bad t.numbers (count_by (λ s. is_bad (t.disk.blocks s)) (spots t.numbers))
        ≡ t.numbers.spare - count_by bad (spots t.numbers)
    as_many = λ i. t.numbers.spare - count_by (λ s. same s i) (spots t.numbers)

    two : 2 * mending_blocks t.numbers
        + may_go_bad t.numbers (count_by (λ s. is_bad (t.disk.blocks s)) (spots t.numbers))
        ≤ count_by (λ s. is_free (t.disk.blocks s)) (spots t.numbers)
    two =
        let k = as_many in
        let l = one_passes (λ s. is_free (t.disk.blocks s)) bad (spots t.numbers) (λ s e. ap is_free (free s e)) in
        let e = length_spots t.numbers in
        let enough = left_over (2 * mending_blocks t.numbers) (t.numbers.dies * t.numbers.blocks) t.numbers.spare
        (count_by bad (spots t.numbers)) (count_by (λ s. is_free (t.disk.blocks s)) (spots t.numbers))
        (omega arith) (config_blocks t.numbers config) few (omega (arith, l, e)) in
        omega (arith, k, enough)

pub new_find_room : (n : Numbers) (c : Cells) (bad : Spot → Bool) (t : Translation) → IsConfig n →
    ((p : Place) → c p ≡ Nothing) → count_by bad (spots n) ≤ n.spare → IsOpenedTranslation n c bad t → FindsRoom t
new_find_room n c bad t config blank few o =
    inr (all_free_spare t bad (subst IsConfig (sym o.numbers) config)
    (subst (λ k. count_by bad (spots k) ≤ k.spare) (sym o.numbers) few)
    (λ s good. ⊎_elim (λ e. e)
    (λ e. (let k = o.disk.blocks.oldest_first s e in absurd (k.2 (blank k.0))))
    (o.disk.blocks.were_good s good)) (opened_bad bad t.disk.blocks o.disk.blocks))

-- A life of the layer

pub layer_finds_room : (n : Numbers) (c left : Cells) (bad : Spot → Bool) (t next : Translation) (moves : List Move) →
    IsConfig n → CellsRight c → AreWithin n c → CellsSound c t.ledger.newest → HasFewLost n c t.ledger.newest →
    IsOpenedTranslation n c bad t → FindsRoom t → AreAllowedMoves t moves → AreBorneMoves t moves →
    CellCrash (moved_by t moves).disk.cells (moved_by t moves).disk.flights left →
    IsOpenedTranslation n left (λ s. is_bad ((moved_by t moves).disk.blocks s)) next → FindsRoom next
layer_finds_room n c left bad t next moves config right within sound few o room may borne crash start =
    stop_leaves bad t (moved_by t moves) left next opens
    (subst (λ k. 1 ≤ k.dies) (sym numbers) (has_die n config)) (all_few t moves v first.few may).valid last crash
    (subst (λ k. IsOpenedTranslation k left (λ s. is_bad ((moved_by t moves).disk.blocks s)) next) (sym numbers) start)
  where
    pages : 2 ≤ n.pages
    pages = has_pages n config

    opens : Opened bad t
    opens = opened bad (omega (arith, pages)) right within sound o

    v : Valid t
    v = opening_valid n c bad t (omega (arith, pages)) right within sound o

    first : LivesFrom t t
    first = lives_begin bad t opens v
        (subst (λ k. 2 ≤ k.pages) (sym o.numbers) pages)
        (subst (λ k. HasFewLost k t.disk.cells t.ledger.newest) (sym o.numbers)
        (subst (λ z. HasFewLost n z t.ledger.newest) (sym o.disk.cells) few)) room

    last : LivesFrom t (moved_by t moves)
    last = moves_hold (LivesFrom t) (lives_on t (were_unfilled t bad opens)) t moves v may borne first

    numbers : (moved_by t moves).numbers ≡ n
    numbers = (all_few t moves v first.few may).numbers ∙ o.numbers

-- A life of a device

module _ (n : Numbers) (array : Array) (bad : Spot → Bool) (s : State) (config : IsConfig n) (blank : IsArrayOf n array)
    (sound : Sound array) (few : ArrayHasFewLost n array)
    (o : IsOpened n array bad s) (room : FindsRoom s.translation) where
  valid : ValidState s
  valid = opened_state n array bad s config blank sound o

  opens : Opened bad s.translation
  opens = is_opened n array bad s config blank sound o

  begun : LivesFrom s.translation s.translation
  begun = lives_begin bad s.translation opens (valid_is n array bad s config blank sound o)
      (subst (λ k. 2 ≤ k.pages) (sym o.translation.numbers) (has_pages n config))
      (subst (λ k. HasFewLost k s.translation.disk.cells s.translation.ledger.newest) (sym o.translation.numbers)
      (few s.translation.disk.cells s.translation.ledger.newest (cells_shown n array bad s config blank sound o)
      opens.start.ledger.newest)) room

  lives_at : (t : State) (es : List Event) (os : List Output) → Life s es os t → AreBorne s es os →
      LivesFrom s.translation t.translation
  lives_at t es os life borne =
      life_holds (LivesFrom s.translation)
      (lives_on s.translation (were_unfilled s.translation bad opens)) t es os valid life borne begun

  numbers_at : (t : State) (es : List Event) (os : List Output) → Life s es os t → numbers_of t ≡ n
  numbers_at t es os life =
      let e = o.translation.numbers in
      (life_continues t es os valid
      (subst (λ x. IsArrayOf x s.array) (sym e) (subst (IsArrayOf n) (sym o.array_now) blank)) life).0 ∙ e

  -- what a stop leaves of it is opened with room
  pub next_finds_room : (t next : State) (es : List Event) (os : List Output) (lefts : List Leftover) (left : Array) →
      Life s es os t → AreBorne s es os → Stops t lefts left →
      IsOpened n left (bad_in t) next → FindsRoom next.translation
  next_finds_room t next es os lefts left life borne stops p =
      let w = many_events s t es os valid life in
      stop_leaves bad s.translation t.translation p.cells next.translation opens
      (subst (λ k. 1 ≤ k.dies) (sym (numbers_at t es os life)) (has_die n config)) w.tied.valid
      (lives_at t es os life borne)
      (cell_crash t.array t.translation.disk.cells t.translation.disk.flights left w.tied.shown w.tied.flights
      stops.crash p.cells p.shown)
      (subst (λ k. IsOpenedTranslation k p.cells (bad_in t) next.translation) (sym (numbers_at t es os life))
      p.translation)

  -- and until it is mended it may go on
  pub goes_on : (t : State) (es : List Event) (os : List Output) → Life s es os t →
      count_by makes_bad es ≤ more_bad s.translation → mended t ≡ false → MayGoOn t.translation
  goes_on t es os life fails un = by room
    where
      enough : (pages lost slots blocks more free bad : ℕ) → lost ≤ slots → slots + 2 ≤ pages * blocks →
          blocks + more ≤ free → bad ≤ more → lost + 2 + bad * pages ≤ pages * free
      enough pages lost slots blocks more free bad few hold l within =
          let sum : blocks + bad ≤ free = omega (arith, l, within) in
          let k = mul-le-mul_left pages sum in
          omega (arith, few, hold, k)

      by : FindsRoom s.translation → MayGoOn t.translation
      by (inl done) = absurd (true≢false (sym done ∙ (life_takes t es os valid life un).0))
      by (inr r) = device_goes_on n array bad s t es os (still_lost s.translation.work.mending) config blank sound o
          (listed n s.translation.ledger.newest s.translation.work.mending o.translation.mending)
          (enough n.pages (length (still_lost s.translation.work.mending)) n.slots (mending_blocks n)
          (more_bad s.translation) (count_blocks s.translation is_free) (count_by makes_bad es) (few_keys n array bad s few o)
          (blocks_hold n (has_pages n config))
          (subst (λ k. mending_blocks k + more_bad s.translation ≤ count_blocks s.translation is_free)
          o.translation.numbers r.free) fails) life un

-- Lives

pub never_locked_out : (n : Numbers) (array : Array) (bad : Spot → Bool) (l : Lived) → IsConfig n → IsArrayOf n array →
    Sound array → ArrayHasFewLost n array → IsOpened n array bad l.start → FindsRoom l.start.translation →
    IsNeverLockedOut l
never_locked_out n array bad l config blank sound few o room es os middle life fails un =
    goes_on n array bad l.start config blank sound few o room middle es os life fails un

head_opened : {n : Numbers} {array : Array} {bad : Spot → Bool} (l : Lived) (later : List Lived) (es : List Event)
    (os : List Output) → Lives n array bad l later es os → IsOpened n array bad l.start
head_opened l [] es os h = h.0.0
head_opened l (m ∷ ls) es os h = h.0.0

-- a life that begins with room is never locked out, and neither is any behind it
pub lives_find_room : (n : Numbers) (array : Array) (bad : Spot → Bool) (first : Lived) (later : List Lived)
    (es : List Event) (os : List Output) → IsConfig n → IsArrayOf n array → Sound array → ArrayHasFewLost n array →
    FindsRoom first.start.translation → Lives n array bad first later es os → All IsBorneLife (first ∷ later) →
    All OpensWithRoom (first ∷ later)
lives_find_room n array bad l [] es os config blank sound few room h borne =
    All-cons OpensWithRoom l []
    (room, never_locked_out n array bad l config blank sound few h.0.0 room) (All-nil OpensWithRoom)
lives_find_room n array bad l (m ∷ ls) es os config blank sound few room h borne =
    let left : Array = h.1.3 in
    let behind : Left n l left = left_of (end_of_life bad config blank sound h.0) h.1.6 in
    let opened : IsOpened n left (bad_in l.finish) m.start = head_opened m ls h.1.1 h.1.2 h.1.7 in
    All-cons OpensWithRoom l (m ∷ ls)
    (room, never_locked_out n array bad l config blank sound few h.0.0 room)
    (lives_find_room n left (bad_in l.finish) m ls h.1.1 h.1.2 config behind.inside behind.sound
    (stopped_few n array bad l.start config blank sound few h.0.0 l.finish l.events l.outputs h.1.0.items left h.0.1
    h.1.6)
    (next_finds_room n array bad l.start config blank sound few h.0.0 room l.finish m.start l.events l.outputs
    h.1.0.items left h.0.1 (All-head IsBorneLife l (m ∷ ls) borne) h.1.6 opened) h.1.7
    (All-tail IsBorneLife l (m ∷ ls) borne))

pub runs_find_room : (n : Numbers) (dies : List DieState) (s t : State) (es : List Event) (os : List Output) →
    IsConfig n → AreNewDies n dies → count_by (bad_of dies) (spots n) ≤ n.spare →
    IsOpened n (array_of dies) (bad_of dies) s → Runs n s es os t →
    (first : Lived) × (later : List Lived) × Lives n (array_of dies) (bad_of dies) first later es os
    × (All IsBorneLife (first ∷ later) → All OpensWithRoom (first ∷ later))
runs_find_room n dies s t es os config new few opened runs =
    let r = lives_of opened runs in
    let may = new_opens n dies new in
    let o = head_opened r.first r.later es os r.lives in (
      r.first,
      r.later,
      r.lives,
      lives_find_room n (array_of dies) (bad_of dies) r.first r.later es os config may.inside may.sound
          (new_few n (array_of dies) (new_blank n dies new))
          (new_find_room n o.cells (bad_of dies) r.first.start.translation config
          (none_there n (array_of dies) (bad_of dies) r.first.start (new_blank n dies new) o) few o.translation)
          r.lives,
    )
