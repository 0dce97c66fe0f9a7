use Rattle.std.proofs.Common.{◌-◌, ◌+◌, ◌∙◌, Some, ap, arith, ℕ}
use Rattle.word_set.specs.Flags.{is_set}
use Rattle.word_set.proofs.Flags.{first_told}
use Rattle.word_set.proofs.Places.{NoneInFront, front_past, none_behind, none_in_front, other_behind, slots_of}
use Rattle.word_set.proofs.Places.{some_behind, some_in_front}
use Rattle.word_set.proofs.queue.QueueSet.first_from.Goals as goal
use Rattle.word_set.proofs.queue.QueueSet.first_from.Goals.{then-at-front+in_default, else-at-front}

pub overflow_sub-result : goal.overflow_sub-result
overflow_sub-result c =
    let f = c.self.inside in
    let found = (first_told is_set f.slots (f.first + c.args.at) (Some c.in-Some.slot) c.in-Some.ensures.what).behind in
    omega arith

pub returns-in-Some-clause-what : goal.returns-in-Some-clause-what
returns-in-Some-clause-what c =
    let f = c.self.inside in
    let size = c.size.ensures in
    some_in_front f.first c.args.at c.in-Some.slot f.slots c.args.self.now c.self.invariant.inside c.self.view_is
    (omega (arith, c.if-at-front.true)) c.in-Some.ensures.what c.in-Some.ensures.less

pub returns-in_err-slot-clause-what : goal.returns-in_err-slot-clause-what
returns-in_err-slot-clause-what c =
    let f = c.self.inside in
    let size = c.size.ensures in
    let sizes = ap (λ (n : ℕ). n - f.first) size in
    let from = c.saturating_sub.ensures in
    let front : NoneInFront (slots_of f.slots) f.first c.args.at = elim c.if-at-front.branch [
      | then-at-front+in_default w ↦ none_in_front f.first c.args.at f.slots w.in_default.ensures.what
      | else-at-front w ↦ front_past (slots_of f.slots) f.first c.args.at (omega (arith, w.if-at-front.false))
    ] in
    c.from_residual.ensures
    ∙ none_behind f.first c.args.at c.saturating_sub.result f.slots c.args.self.now c.self.invariant.inside
    c.self.view_is front (from ∙ ap (λ (n : ℕ). c.args.at - n) sizes) c.in_err-slot.ensures.what

pub returns-then-slot-self-clause-what : goal.returns-then-slot-self-clause-what
returns-then-slot-self-clause-what c =
    let f = c.self.inside in
    let size = c.size.ensures in
    let sizes = ap (λ (n : ℕ). n - f.first) size in
    let from = c.saturating_sub.ensures in
    let front : NoneInFront (slots_of f.slots) f.first c.args.at = elim c.if-at-front.branch [
      | then-at-front+in_default w ↦ none_in_front f.first c.args.at f.slots w.in_default.ensures.what
      | else-at-front w ↦ front_past (slots_of f.slots) f.first c.args.at (omega (arith, w.if-at-front.false))
    ] in
    ap (λ (n : ℕ). Some (c.in_ok-slot.slot + n)) sizes
    ∙ some_behind f.first c.args.at c.saturating_sub.result c.in_ok-slot.slot f.slots c.args.self.now
    c.self.invariant.inside c.self.view_is front (from ∙ ap (λ (n : ℕ). c.args.at - n) sizes)
    c.in_ok-slot.ensures.what c.if-slot-self.true

pub returns-else-slot-self-clause-what : goal.returns-else-slot-self-clause-what
returns-else-slot-self-clause-what c =
    let f = c.self.inside in
    let size = c.size.ensures in
    let sizes = ap (λ (n : ℕ). n - f.first) size in
    let from = c.saturating_sub.ensures in
    let front : NoneInFront (slots_of f.slots) f.first c.args.at = elim c.if-at-front.branch [
      | then-at-front+in_default w ↦ none_in_front f.first c.args.at f.slots w.in_default.ensures.what
      | else-at-front w ↦ front_past (slots_of f.slots) f.first c.args.at (omega (arith, w.if-at-front.false))
    ] in
    other_behind f.first c.args.at c.saturating_sub.result c.in_ok-slot.slot f.slots c.args.self.now
    c.self.invariant.inside c.self.view_is front (from ∙ ap (λ (n : ℕ). c.args.at - n) sizes)
    c.in_ok-slot.ensures.what c.if-slot-self.false
