use Rattle.std.proofs.Common.{◌≡◌, List, ℕ, ◌++◌, ◌-◌, ◌+◌, take, drop, length, sym, ap, ◌∙◌, subst}
use Rattle.std.proofs.lemmas.Slice.Eq.{starts_is}
use Rattle.std.proofs.lemmas.Bool.{false≢true}
use Rattle.std.proofs.lemmas.Bool.Decides.{Decides-eqb}
use Rattle.std.proofs.lemmas.List.{take_rest}
use Rattle.ufs_spec.specs.Messages.{zeros, segment_length}
use Rattle.upiu.proofs.reading.surround.Goals as goal

pub returns-then-starts_with : goal.returns-then-starts_with
returns-then-starts_with c =
    let bytes : List ℕ = c.args.bytes.now in
    let behind : List ℕ = drop (32 + segment_length bytes) bytes in
    let IsPadded : List ℕ → Type 0 = λ (xs : List ℕ). xs ≡ zeros (length xs) in
    let part : take (length bytes - (32 + c.stated_length.result)) (drop (32 + c.stated_length.result) bytes) ≡ behind =
    take_rest bytes (32 + c.stated_length.result) ∙ ap (λ (n : ℕ). drop (32 + n) bytes) c.stated_length.ensures in
    let starts = starts_is Decides-eqb bytes c.args.header.now c.starts_with.result c.starts_with.ensures.value in
    let begins = starts.0 c.if-starts_with.true in (
      λ yes. (
        begins ∙ ap (λ (n : ℕ). c.args.header.now ++ drop n bytes) c.told-header,
        subst IsPadded part (c.are_zeros.ensures.0 yes),
      ),
      λ around. c.are_zeros.ensures.1 (subst IsPadded (sym part) around.1),
    )

pub returns-else-starts_with : goal.returns-else-starts_with
returns-else-starts_with c =
    let starts = starts_is Decides-eqb c.args.bytes.now c.args.header.now c.starts_with.result
    c.starts_with.ensures.value in (
      λ yes. absurd (false≢true (sym c.if-starts_with.false ∙ yes)),
      λ around. starts.1 (drop 32 c.args.bytes.now) around.0,
    )
