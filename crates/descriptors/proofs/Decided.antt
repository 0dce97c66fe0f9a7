-- An answer decides what the query makes of the state.
use Rattle.std.proofs.Common.{Bool, ap, cond, false, length, not, sym, true, ℕ, ◌&&◌, ◌==◌, ◌∙◌, ◌≡◌}
use Rattle.ufs_spec.specs.Changes.{with_short}
use Rattle.ufs_spec.specs.Exchanges.{short_reply}
use Rattle.ufs_spec.specs.Queries.{Query, descriptor_told, setting_of}
use Rattle.ufs_spec.specs.QueryAnswers.{query_answered, query_failed, query_passed}
use Rattle.ufs_spec.specs.Refusals.{State, mended, numbers_of, plain_now}
use Rattle.ufs_spec.specs.declared.messages.Message.TheVariants as message
use Rattle.ufs_spec.specs.declared.volatile.Volatile.{Volatile}
use Rattle.descriptors.specs.Answers.{IsTold, Says, code_of, succeeds}
use Rattle.descriptors.specs.States.{answered_by}
use Rattle.descriptors.specs.declared.answers.QueryAnswer.{QueryAnswer}
use Rattle.descriptors.specs.declared.answers.QueryAnswer.TheVariants as answer
use Rattle.descriptors.specs.declared.answers.Told.{Told}

-- which of the two ways a query goes
chosen : {X : Type 0} (b d : Bool) (x y : X) → b ≡ d → cond d x y ≡ cond b x y
chosen b d x y e = ap (λ c. cond c x y) (sym e)

-- what is told makes this of the state
abbrev telling : State → ℕ → Query → ℕ → Volatile → State
telling s tag q value now =
    with_short (record s { volatile = now })
    (short_reply tag
    (message.QueryResponse tag q.function 0x00 q.asked (length (descriptor_told (numbers_of s) q)) value
    (record { items = descriptor_told (numbers_of s) q })))

told_now : (s : State) (tag : ℕ) (q : Query) (told : Told) →
    IsTold (plain_now s) (numbers_of s) (mended s) s.volatile q told →
    query_passed s tag q (setting_of q) ≡ answered_by s tag q (answer.Told told)
told_now s tag q told is =
    ap (query_passed s tag q) is.no_setting
    ∙ sym (λ i. telling s tag q (is.value i) (is.volatile i))

pub decided : (s : State) (tag code : ℕ) (q : Query) (a : QueryAnswer) → code_of a ≡ code →
    succeeds a ≡ (code == 0x00) && not (q.asked.opcode == 0) →
    Says (plain_now s) (numbers_of s) (mended s) s.volatile q a → query_answered s tag q code ≡ answered_by s tag q a
decided s tag code q (answer.Code why) e f says =
    chosen false ((code == 0x00) && not (q.asked.opcode == 0)) _ _ f
    ∙ ap (λ k. with_short s (short_reply tag (query_failed tag q k))) (sym e)
decided s tag code q (answer.Told told) e f says =
    chosen true ((code == 0x00) && not (q.asked.opcode == 0)) _ _ f ∙ told_now s tag q told says
decided s tag code q (answer.Setting setting) e f says =
    chosen true ((code == 0x00) && not (q.asked.opcode == 0)) _ _ f ∙ ap (query_passed s tag q) says
