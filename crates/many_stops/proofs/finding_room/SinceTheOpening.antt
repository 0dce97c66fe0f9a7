-- What a device that mends has made of the cells and blocks of its opening, whatever failed meanwhile: closed blocks
-- are as they were, and the pages of the blocks that it opened, and that did not go bad, are marks, or have numbers
-- from the first lost one on.
use Rattle.many_stops.proofs.Common.{Bad, BlockState, Bool, Cell, Cells, Closed, Fence, Filling, Free, GroupPage, List}
use Rattle.many_stops.proofs.Common.{Mark, MarkPage, MarkStep, Mended, Mending, Name, None, Nothing, Numbers, Option}
use Rattle.many_stops.proofs.Common.{Place, RepairStep, Repairing, Some, Spot, Step, StepKind, Tag, Translation}
use Rattle.many_stops.proofs.Common.{Unmarked, [], ap, arith, false, if◌then◌else◌, is_kind_of, is_marked}
use Rattle.many_stops.proofs.Common.{mending_after, none-some, number_of, same_Some, spot_of, step_after, step_there}
use Rattle.many_stops.proofs.Common.{suc, sym, true, true≢false, ℕ, ◌+◌, ◌<◌, ◌∙◌, ◌≡◌, ◌≢◌, ◌≤◌, ◌⊎◌}

-- the cell is what it was, or is gone, or a mark is there that is newer than the given one
abbrev pub IsLessOrNewMark : Option Mark → Cell → Cell → Type 0
IsLessOrNewMark newest was now =
    (now ≡ was) ⊎ ((now ≡ Nothing) ⊎ ((m : Mark) × (now ≡ MarkPage m) × (number_of newest < m.number)))

-- a step of this kind is under way, with its content there or not
abbrev pub step_of : StepKind → Bool → Option Step
step_of kind there = Some (record { kind = kind; there = there })

-- the step under way, if there is one, is no repair
abbrev pub RepairsNone : Option Step → Type 0
RepairsNone step = (name : Name) (from : Option Place) (there : Bool) → step ≡ step_of (RepairStep name from) there → ⊥

pub record Since (o : Translation) (numbers : Numbers) (cells : Cells) (blocks : Spot → BlockState)
    (first_lost greatest_seen : ℕ) (newest : Option Mark) (mending : Mending) (step : Option Step) : Type 0 where
  pub numbers_are : numbers ≡ o.numbers
  pub lost : first_lost ≡ o.ledger.first_lost
  pub seen : greatest_seen ≡ o.ledger.greatest_seen
  -- what was not free is as it was
  pub still : (s : Spot) → o.disk.blocks s ≢ Free → blocks s ≡ o.disk.blocks s
  pub unchanged : (p : Place) → o.disk.blocks (spot_of p) ≢ Free → cells p ≡ o.disk.cells p
  -- a block that was opened since, and did not go bad, holds nothing older than the first lost number
  pub new : (p : Place) (tag : Tag) (body : List ℕ) → o.disk.blocks (spot_of p) ≡ Free → blocks (spot_of p) ≢ Free →
      blocks (spot_of p) ≢ Bad → cells p ≡ GroupPage tag body → first_lost ≤ tag.number
  pub named : (name : Name) (from : Option Place) (there : Bool) →
      step ≡ step_of (RepairStep name from) there → first_lost ≤ name.number
  -- until the first mark is finished the newest is that of the opening. A block that was opened since, and did not go
  -- bad, is blank; and of the cells of the opening free blocks alone lost some, or got a mark whose program failed
  pub same : is_marked mending ≡ false → newest ≡ o.ledger.newest
  pub blank : is_marked mending ≡ false → (p : Place) → o.disk.blocks (spot_of p) ≡ Free →
      blocks (spot_of p) ≢ Free → blocks (spot_of p) ≢ Bad → cells p ≡ Nothing
  pub fewer : is_marked mending ≡ false → (p : Place) → o.disk.blocks (spot_of p) ≡ Free →
      IsLessOrNewMark o.ledger.newest (o.disk.cells p) (cells p)
  -- and then there is a newer one. Where a mark behind it failed, all was repaired before
  pub newer : is_marked mending ≡ true → (m : Mark) → newest ≡ Some m → number_of o.ledger.newest < m.number
  pub late : is_marked mending ≡ true → (p : Place) (m : Mark) → cells p ≡ MarkPage m → number_of newest < m.number →
      (mending ≡ Repairing []) × RepairsNone step

abbrev pub SinceOpening : Translation → Translation → Type 0
SinceOpening o t = Since o t.numbers t.disk.cells t.disk.blocks t.ledger.first_lost t.ledger.greatest_seen
    t.ledger.newest t.work.mending t.work.step

-- each block was free, closed or bad at the opening: none was being filled
abbrev pub WereUnfilled : Translation → Type 0
WereUnfilled o = (s : Spot) → (o.disk.blocks s ≡ Free) ⊎ ((o.disk.blocks s ≡ Closed) ⊎ (o.disk.blocks s ≡ Bad))

-- Steps

pub after_is : (name : Name) (s : Option Step) (x : Step) → step_after name s ≡ Some x → s ≡ Some x
after_is name None x h = absurd (none-some x h)
after_is name (Some step) x h = by (is_kind_of name step.kind) h
  where
    by : (b : Bool) → (if b then None else Some step) ≡ Some x → Some step ≡ Some x
    by true k = absurd (none-some x k)
    by false k = k

pub there_is : (s : Option Step) (kind : StepKind) (there : Bool) →
    step_there s ≡ step_of kind there →
    (before : Bool) × (s ≡ step_of kind before)
there_is None kind there h = absurd (none-some _ h)
there_is (Some step) kind there h =
    let e = ap (λ (x : Step). x.kind)
    (same_Some (record step { there = true }) (record { kind = kind; there = there }) h) in
    (step.there, ap (λ k. Some (record { kind = k; there = step.there })) e)

pub kind_of_step : {a b : StepKind} {x y : Bool} → step_of a x ≡ step_of b y → a ≡ b
kind_of_step {a} {b} {x} {y} e =
    ap (λ (z : Step). z.kind) (same_Some (record { kind = a; there = x }) (record { kind = b; there = y }) e)

kinds_apart : {number : ℕ} {fence : Option Fence} {name : Name} {from : Option Place} →
    MarkStep number fence ≡ RepairStep name from → ⊥
kinds_apart e = cc

pub mark_no_repair : {number : ℕ} {fence : Option Fence} {a b : Bool} {name : Name} {from : Option Place} →
    step_of (MarkStep number fence) a ≡ step_of (RepairStep name from) b → ⊥
mark_no_repair e = kinds_apart (kind_of_step e)

pub next_low : (low seen long number : ℕ) → low ≤ suc seen → seen + long + 1 ≡ number → low ≤ number
next_low low seen long number l e = omega (arith, l, e)

abbrev pub name_number : (k : StepKind) → ℕ
name_number (RepairStep name from) = name.number
name_number k = 0

pub behind_marked : (w : Mending) → is_marked (mending_after w) ≡ false → ⊥
behind_marked (Unmarked None lost) h = true≢false h
behind_marked (Unmarked (Some fence) lost) h = true≢false h
behind_marked (Repairing left) h = true≢false h
behind_marked Mended h = true≢false h

pub closed_apart : {next : ℕ} → Closed ≡ Filling next → ⊥
closed_apart e = cc

pub bad_apart : {next : ℕ} → Bad ≡ Filling next → ⊥
bad_apart e = cc

pub filling_not_free : {x : BlockState} {next : ℕ} → x ≡ Filling next → x ≢ Free
filling_not_free {x} {next} e h = let no : Filling next ≡ Free = sym e ∙ h in cc
