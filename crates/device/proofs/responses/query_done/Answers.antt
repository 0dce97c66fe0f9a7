use Rattle.device.proofs.Common.{Bool, List, Numbers, Queried, Query, [], ap, arith, cond, eqb-true, false, inl, inr}
use Rattle.device.proofs.Common.{length, query_with, refl, rules, true, ℕ, ◌==◌, ◌∙◌, ◌≡◌, ◌⊎◌}
use Rattle.std.proofs.Common.{take}
use Rattle.ufs_spec.specs.Descriptors.{descriptor}
use Rattle.ufs_spec.specs.Queries.{descriptor_told}
use Rattle.ufs_spec.specs.declared.messages.Message.TheVariants as message
use Rattle.device.specs.Replies.{function_of, query_answer}
use Rattle.device.proofs.responses.query_done.Goals as goal

done_is : (n : Numbers) (tag value function size : ℕ) (query : Queried) (told items : List ℕ) →
    function ≡ function_of query.writing → told ≡ descriptor_told n (query_with query 0) → size ≡ length told →
    items ≡ told →
    message.QueryResponse tag function 0 query.asked size value (record { items = items })
    ≡ query_answer n tag (query_with query 0) value
done_is n tag value function size query told items function_is told_is size_is items_is =
    λ i.
    message.QueryResponse tag (function_is i) 0 query.asked ((size_is ∙ ap length told_is) i) value
    (record { items = (items_is ∙ told_is) i })

-- data go with the answer to a query that reads a descriptor, and with no other
data_or_none : (n : Numbers) (q : Query) (items : List ℕ) → items ≡ descriptor_told n q →
    ((q.asked.opcode ≡ 1) × (◌≡◌ {A = ℕ} 0 0)) ⊎ (items ≡ [])
data_or_none n q items is = by (q.asked.opcode == 1) refl
  where
    by : (b : Bool) → (q.asked.opcode == 1) ≡ b → ((q.asked.opcode ≡ 1) × (◌≡◌ {A = ℕ} 0 0)) ⊎ (items ≡ [])
    by true e = inl (eqb-true q.asked.opcode 1 e, refl)
    by false e = inr (is ∙ ap (λ (b : Bool). cond b (take q.length (descriptor n q.asked)) []) e)

pub returns-clause-what : goal.returns-clause-what
returns-clause-what c =
    done_is c.args.numbers.now c.args.tag c.args.value c.query_function.result c.len.result c.args.query
    c.descriptor_told-told.result.items c.data_of.result.items c.query_function.ensures.what
    (c.descriptor_told-told.ensures (query_with c.args.query 0) refl refl) c.len.ensures.value
    (c.data_of.ensures.items ∙ c.as_slice.ensures.value)

pub returns-clause-message : goal.returns-clause-message
returns-clause-message c =
    let items_is = c.data_of.ensures.items ∙ c.as_slice.ensures.value in
    let told_is = c.descriptor_told-told.ensures (query_with c.args.query 0) refl refl in
    let few = c.as_slice.ensures.fits in
    let size = c.len.ensures.value in
    let slice = ap length c.as_slice.ensures.value in
    let long = ap length items_is in (
      c.ranges.tag.fits,
      c.query_function.ensures.known,
      search rules,
      search rules,
      omega arith,
      c.data_of.ensures.are_bytes,
      data_or_none c.args.numbers.now (query_with c.args.query 0) c.data_of.result.items (items_is ∙ told_is),
    )
