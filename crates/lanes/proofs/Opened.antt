-- A device as its opening gave it: there is a state that it is opened in, and it fits each such state.
use Rattle.lanes.proofs.Common.{All, DeviceCore, DieState, Fits, IsOpening, IsStart, List, Numbers, Opening, State}
use Rattle.lanes.proofs.Common.{Undealt, Vec, [], ap, arith, array_of, length, length-replicate, map, new_die, refl}
use Rattle.lanes.proofs.Common.{subst, suc, sym, zero, ℕ, ◌∙◌, ◌∷◌, ◌≡◌, ◌≤◌}
use Rattle.std.specs.Prelude.{None, Option, Some, replicate}
use Rattle.std.specs.Vec.{with_items}
use Rattle.std.proofs.lemmas.List.{with_items_is}
use Rattle.ufs_spec.specs.Lives.{Fit, IsOpened, bad_of}
use Rattle.power_loss.proofs.die_pages.BlankOutsideDies.{fit_inside, new_die_is, new_fit, new_opens}
use Rattle.power_loss.proofs.openings.EachSoundArrayOpens.{any_opens}
use Rattle.power_loss.proofs.stops.SealedCells.{ranges_of}
use Rattle.ufs_spec.specs.Configs.{IsConfig}
use Rattle.power_loss.specs.Runs.{AreNewDies, IsNewDie}
use Rattle.device.proofs.dies_of_world.OpenedWorld.{IsOpenedOver, opened_fits}
use Rattle.lanes.specs.Callers.{IsOpenedWith}
use Rattle.lanes.specs.Rule.{IsOpeningOf, IsStartOver, opened_world, world_over}

all_same : {A : Type 0} (P : A → Type 0) (count : ℕ) (x : A) → P x → All P (replicate count x)
all_same P zero x h k d less = absurd (omega (less, arith))
all_same P (suc n) x h zero d less = h
all_same P (suc n) x h (suc k) d less = all_same P n x h k d (omega (less, arith))

-- dies as `MemDie::new` makes them are new dies of a device of their sizes
pub are_new : (n : Numbers) (dies : List DieState) → dies ≡ replicate n.dies (new_die n.blocks n.pages) →
    AreNewDies n dies
are_new n dies is =
    subst (AreNewDies n) (sym is) (
      length-replicate n.dies (new_die n.blocks n.pages),
      all_same (IsNewDie n) n.dies (new_die n.blocks n.pages)
          (new_die_is n),
    )

module _ {D : Type 0} (state : D → DieState) where
  -- a device that was opened over new dies may be shared
  pub new_dies_opened : (core : DeviceCore) (dies : List D) (config : Numbers) → AreNewDies config (map state dies) →
      IsOpenedOver config (map state dies) core → IsOpeningOf state core dies
  new_dies_opened core dies config new opened =
      let opens = new_opens config (map state dies) new in
      record {
        config = config;
        fit = new_fit config (map state dies) new;
        sound = opens.sound;
        suits = opens.suits;
        described = λ start is. opened start opens.sound is;
      }

  pub length_kept : (xs : List D) → length (map state xs) ≡ length xs
  length_kept [] = refl
  length_kept (x ∷ xs) = ap suc (length_kept xs)

  -- so may one whose opening was lent the dies of a vector, over what it left of them
  pub lent_dies_opened : (n : Numbers) (v : Vec D) (lent left : List D) (core : DeviceCore) → lent ≡ v.items →
      map state v.items ≡ replicate n.dies (new_die n.blocks n.pages) → map state left ≡ map state lent →
      IsOpenedOver n (map state lent) core → IsOpeningOf state core (with_items v left).items
  lent_dies_opened n v lent left core is new same opened =
      let kept : map state left ≡ map state v.items = same ∙ ap (map state) is in
      let long : length left ≡ length v.items =
      sym (length_kept left) ∙ ap length kept ∙ length_kept v.items in
      subst (IsOpeningOf state core) (sym (with_items_is v left (long ∙ sym v.ok.0)))
      (new_dies_opened core left n (are_new n (map state left) (kept ∙ new))
      (subst (λ (ds : List DieState). IsOpenedOver n ds core) (sym same) opened))

  module _ (core : DeviceCore) (dies : List D) (is : IsOpeningOf state core dies) where
    abbrev ds : List DieState
    ds = map state dies

    abbrev Starts : Numbers → State → Type 0
    Starts n start = IsOpened n (array_of ds) (bad_of ds) start

    first_start : (start : State) × Starts is.config start
    first_start = any_opens is.config (array_of ds) (bad_of ds) (fit_inside is.config ds is.fit) is.sound is.suits

    -- the numbers of the device are those of its configuration
    pub same_numbers : core.ftl.numbers ≡ is.config
    same_numbers =
        (is.described first_start.0 first_start.1).kept.layer_kept.kept.numbers ∙ first_start.1.translation.numbers

    pub is_config : IsConfig core.ftl.numbers
    is_config =
        subst IsConfig (first_start.1.translation.numbers ∙ sym same_numbers)
        (is.described first_start.0 first_start.1).tied.config

    pub fit_of : Fit core.ftl.numbers ds
    fit_of = subst (λ (n : Numbers). Fit n ds) (sym same_numbers) is.fit

    -- a device has eight dies at most
    pub few_dies : length dies ≤ 8
    few_dies =
        let bound = (ranges_of core.ftl.numbers is_config).dies_bound in
        let many = fit_of.0 in
        let same = length_kept dies in omega arith

    pub begins_over : (start : State) × IsStartOver state core dies start
    begins_over = (first_start.0, subst (λ (n : Numbers). Starts n first_start.0) (sym same_numbers) first_start.1)

    pub fits_over : (start : State) → IsStartOver state core dies start → Fits (world_over state core dies) start
    fits_over start opened =
        opened_fits (world_over state core dies) core.ftl.numbers ds start fit_of refl refl refl
        (λ s sound o. is.described s (subst (λ (n : Numbers). Starts n s) same_numbers o)) is.sound opened

  pub begins : (opening : Opening D) → IsOpening state opening → (start : State) × IsStart state opening start
  begins opening is = begins_over opening.device.value opening.dies.value.items is

  pub fits_first : (opening : Opening D) → IsOpening state opening → (start : State) → IsStart state opening start →
      Fits (opened_world state opening) start
  fits_first opening is start opened = fits_over opening.device.value opening.dies.value.items is start opened

-- The same of dies in memory

map_same : (xs : List DieState) → map (λ (d : DieState). d) xs ≡ xs
map_same [] = refl
map_same (x ∷ xs) = ap (λ (l : List DieState). x ∷ l) (map_same xs)

pub memory_dies_opened : (n : Numbers) (v : Vec DieState) (lent left : List DieState) (core : DeviceCore) →
    lent ≡ v.items → v.items ≡ replicate n.dies (new_die n.blocks n.pages) →
    map (λ (d : DieState). d) left ≡ map (λ (d : DieState). d) lent →
    IsOpenedOver n (map (λ (d : DieState). d) lent) core → IsOpeningOf (λ d. d) core (with_items v left).items
memory_dies_opened n v lent left core is new same opened =
    lent_dies_opened (λ d. d) n v lent left core is (map_same v.items ∙ new) same opened

pub memory_dies_fit : (n : Numbers) (v : Vec DieState) (lent : List DieState) → lent ≡ v.items →
    v.items ≡ replicate n.dies (new_die n.blocks n.pages) → Fit n (map (λ (d : DieState). d) lent)
memory_dies_fit n v lent is new =
    let same = map_same lent in new_fit n (map (λ (d : DieState). d) lent)
    (are_new n (map (λ (d : DieState). d) lent) (same ∙ is ∙ new))

-- with what the table was opened, no die is dealt yet
pub undealt_opened : {D : Type 0} (opening : Option (Opening D)) (core : DeviceCore) (dies : List D) →
    IsOpenedWith opening core dies → Undealt opening dies
undealt_opened None core dies is = is
undealt_opened (Some opening) core dies is = is.1
