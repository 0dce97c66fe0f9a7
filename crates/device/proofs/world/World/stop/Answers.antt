use Rattle.device.proofs.Common.{AreLeftovers, Fit, Fits, IsInside, State, WorldState, length, subst, sym, ◌∙◌, ◌≡◌}
use Rattle.std.specs.Prelude.{All}
use Rattle.device.proofs.dies_of_world.LeftoversChecked.{all_inside}
use Rattle.device.proofs.dies_of_world.StoppedWorld.{AreApart, AreLawful, AreOfDies, MayAllBeLeft, are_lawful}
use Rattle.device.proofs.dies_of_world.StoppedWorld.{are_leftovers, are_of_dies, may_all, stop_dies, stop_shown}
use Rattle.device.proofs.dies_of_world.StoppedWorld.{stopped, stopped_by}
use Rattle.device.proofs.world.World.stop.Goals as goal
use Rattle.device.proofs.world.World.stop.Goals.{then-not-are_left-via-else-not-are_left+then-not-are_apart}
use Rattle.device.proofs.world.World.stop.Goals.{then-not-are_left-via-then-not-are_left}

pub returns-then-not-are_left-clause-went : goal.returns-then-not-are_left-clause-went
returns-then-not-are_left-clause-went c =
    λ s h are.
    elim c.then-not-are_left.branch [
      | then-not-are_left-via-then-not-are_left w ↦
          c.are_left.ensures.not_all w.if-not-are_left.true
          (subst (AreOfDies c.args.self.now) (sym c.as_slice.ensures.value)
          (are_of_dies c.args.self.now s c.args.lefts.now.items h are))
      | then-not-are_left-via-else-not-are_left+then-not-are_apart w ↦
          w.are_apart.ensures.twice w.if-not-are_apart.true
          (subst AreApart (sym w.as_slice-else-not-are_left.ensures.value) are.1)
    ]

pub may_all_be_left-requires : goal.may_all_be_left-requires
may_all_be_left-requires c =
    subst (AreOfDies c.args.self.now) (c.as_slice.ensures.value ∙ sym c.as_slice-2.ensures.value)
    (c.are_left.ensures.all c.if-not-are_left.false)

pub returns-then-not-may_all_be_left-clause-went : goal.returns-then-not-may_all_be_left-clause-went
returns-then-not-may_all_be_left-clause-went c =
    λ s h.
    let items = c.args.lefts.now.items in
    let all : AreOfDies c.args.self.now items =
    subst (AreOfDies c.args.self.now) c.as_slice.ensures.value (c.are_left.ensures.all c.if-not-are_left.false) in
    let apart : AreApart items =
    subst AreApart c.as_slice-else-not-are_left.ensures.value (c.are_apart.ensures.apart c.if-not-are_apart.false) in (
      are_leftovers c.args.self.now s items h all apart,
      λ lawful.
          c.may_all_be_left.ensures.not_all c.if-not-may_all_be_left.true
          (subst (MayAllBeLeft c.args.self.now) (sym c.as_slice-2.ensures.value)
          (may_all c.args.self.now s items h all lawful)),
    )

pub leave_all-requires : goal.leave_all-requires
leave_all-requires c =
    let now = c.args.self.now in
    let even : length now.jobs ≡ length now.dies =
    subst (λ (w : WorldState). length w.jobs ≡ length w.dies) c.self.view_is c.self.invariant.jobs in
    let fit : Fit now.config now.dies =
    subst (λ (w : WorldState). Fit w.config w.dies) c.self.view_is c.self.invariant.fit in
    let all : AreOfDies now c.args.lefts.now.items =
    subst (AreOfDies now) c.as_slice.ensures.value (c.are_left.ensures.all c.if-not-are_left.false) in
    subst (All (IsInside now.config)) (sym c.as_slice-3.ensures.value)
    (all_inside now c.args.lefts.now.items even fit all)

-- what the checks of the leftovers told, once all have passed
all_of : (c : goal.After-reopen) → AreOfDies c.args.self.now c.args.lefts.now.items
all_of c = subst (AreOfDies c.args.self.now) c.as_slice.ensures.value (c.are_left.ensures.all c.if-not-are_left.false)

are_of : (c : goal.After-reopen) (s : State) → Fits c.args.self.now s → AreLeftovers s c.args.lefts.now.items
are_of c s h =
    are_leftovers c.args.self.now s c.args.lefts.now.items h (all_of c)
    (subst AreApart c.as_slice-else-not-are_left.ensures.value (c.are_apart.ensures.apart c.if-not-are_apart.false))

lawful_of : (c : goal.After-reopen) (s : State) → Fits c.args.self.now s → AreLawful s c.args.lefts.now.items
lawful_of c s h =
    are_lawful c.args.self.now s c.args.lefts.now.items h (all_of c)
    (subst (MayAllBeLeft c.args.self.now) c.as_slice-2.ensures.value
    (c.may_all_be_left.ensures.all c.if-not-may_all_be_left.false))

-- the world before its dies were opened again
off_of : (c : goal.After-reopen) → c.power_off.new.self ≡ stopped c.args.self.now c.args.lefts.now.items
off_of c =
    stopped_by c.args.self.now c.leave_all.new.self c.power_off.new.self c.as_slice-3.result.now c.args.lefts.now.items
    c.as_slice-3.ensures.value c.leave_all.ensures c.power_off.ensures

pub returns-clause-went : goal.returns-clause-went
returns-clause-went c =
    λ s h.
    stop_shown c.args.self.now s c.args.lefts.now h (are_of c s h) (lawful_of c s h) c.power_off.new.self
    c.reopen.new.self (off_of c) c.reopen.ensures.same c.reopen.result c.reopen.ensures.shown c.reopen.ensures.described
    c.reopen.ensures.refused

pub returns-clause-dies : goal.returns-clause-dies
returns-clause-dies c =
    λ s h.
    stop_dies c.args.self.now s c.args.lefts.now h (are_of c s h) (lawful_of c s h) c.power_off.new.self
    c.reopen.new.self (off_of c) c.reopen.ensures.same c.reopen.result c.reopen.ensures.refused
