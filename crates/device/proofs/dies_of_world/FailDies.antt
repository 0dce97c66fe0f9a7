-- A die whose job failed holds what the job leaves, and the block of the job is bad.
use Rattle.device.proofs.Common.{Bad, BlockState, BlocksFit, Bool, DieState, Fit, IsInside, IsLeft, IsOfSize, Leftover}
use Rattle.device.proofs.Common.{List, None, Numbers, Option, Spot, Vacancy, [], ap, arith, array_of, at_spot}
use Rattle.device.proofs.Common.{at_spot_here, at_spot_other, die_at, die_of, dies_failed, false, is_bad, length}
use Rattle.device.proofs.Common.{next_of, none-some, refl, slice_index_or, sym, ℕ, ◌<◌, ◌∙◌, ◌∷◌, ◌≡◌}
use Rattle.ufs_spec.specs.DieLaws.{with_bad_bad, with_bad_elsewhere, with_bad_next_elsewhere, with_bad_size}
use Rattle.ufs_spec.specs.Dies.{with_bad}
use Rattle.device.specs.Worlds.{block_of, die_left}
use Rattle.device.proofs.dies_of_world.DieParts.{die_size, put_blocks}
use Rattle.device.proofs.dies_of_world.LeftDies.{in_a_block, is_of_dies, left_keeps_bad, left_keeps_ready, left_size}
use Rattle.device.proofs.dies_of_world.LeftDies.{one_is_left, put_fit, spot_left}

module _ (n : Numbers) (dies : List DieState) (l : Leftover) (fit : Fit n dies) (on : IsInside n l) where
  abbrev d : DieState
  d = die_left (die_at dies (die_of l)) l

  abbrev wrong : DieState
  wrong = with_bad d (block_of l)

  there : die_of l < length dies
  there = is_of_dies n dies l fit on

  size : IsOfSize n.blocks n.pages d
  size = left_size n (die_at dies (die_of l)) l on (die_size n dies (die_of l) fit there)

  pub failed_fits : Fit n (dies_failed dies (die_of l) l)
  failed_fits = put_fit n dies (die_of l) wrong fit (with_bad_size d (block_of l) n.blocks n.pages size)

  pub failed_left : IsLeft (array_of dies) (l ∷ []) (array_of (dies_failed dies (die_of l) l))
  failed_left = one_is_left n dies l fit on wrong (λ c i. refl)

  pub failed_blocks : (blocks : Spot → BlockState) (vacancies : Spot → Vacancy) → BlocksFit n dies blocks vacancies →
      BlocksFit n (dies_failed dies (die_of l) l) (at_spot blocks (spot_left l) Bad) vacancies
  failed_blocks blocks vacancies h =
      let less = in_a_block n l on in
      let long : length d.bad ≡ n.blocks = size.3 in
      let new = at_spot blocks (spot_left l) Bad in
      let is : new (spot_left l) ≡ Bad = at_spot_here blocks (spot_left l) Bad (spot_left l) refl in
      put_blocks n dies blocks new vacancies vacancies (spot_left l) wrong there
      (with_bad_bad d (block_of l) (omega arith) ∙ sym (ap is_bad is))
      (λ c differ.
      with_bad_elsewhere d (block_of l) c differ
      ∙ ap (λ (bad : List Bool). slice_index_or bad c false) (left_keeps_bad (die_at dies (die_of l)) l))
      (λ next e.
      absurd (none-some next (sym (ap (λ (s : BlockState). next_of s (vacancies (spot_left l))) is) ∙ e)))
      (λ c differ.
      with_bad_next_elsewhere d (block_of l) c differ
      ∙ ap (λ (ready : List (Option ℕ)). slice_index_or ready c None)
      (left_keeps_ready (die_at dies (die_of l)) l))
      (λ other differ. at_spot_other blocks (spot_left l) Bad other differ) (λ other differ. refl) h
