use Rattle.std.proofs.Common.{rules, ◌≡◌, ◌∙◌, List, ℕ, [], ap, arith, inl, inr, slice_index}
use Rattle.std.proofs.lemmas.Bool.{cases_lt}
use Rattle.std.proofs.lemmas.List.{get_or-set_other, get_or-set_same}
use Rattle.sha256_lanes.proofs.schedule.first_words.Goals as goal

pub words-preserved : goal.words-preserved
words-preserved c = (
  search rules,
  λ k lt j h.
      let row = λ (r : List ℕ). slice_index r j in
      elim (cases_lt k c.words.i) [
        | inl a ↦
            ap row (get_or-set_other c.words.window c.words.i k c.words_at.result [] (omega arith))
            ∙ c.words.invariant.1 k a j h
        | inr b ↦
            let e : c.words.i ≡ k = omega arith in
            rw (← e)
            (ap row (get_or-set_same c.words.window c.words.i c.words_at.result [] (omega arith))
            ∙ c.words_at.ensures j h)
      ],
)
