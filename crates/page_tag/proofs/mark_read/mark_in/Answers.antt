use Rattle.std.proofs.Common.{◌≡◌, ◌∙◌, true, sym}
use Rattle.std.specs.Str.{bytes_eq}
use Rattle.std.proofs.lemmas.Slice.Eq.{bytes_eq-Decides}
use Rattle.ufs_spec.specs.Pages.{mark_bytes}
use Rattle.ufs_spec.proofs.Facts.{none-some, same_Some}
use Rattle.page_tag.proofs.mark_read.mark_in.Goals as goal
use Rattle.page_tag.proofs.mark_read.mark_in.Goals.{then-not-is_fence-via-then-not-is_fence}
use Rattle.page_tag.proofs.mark_read.mark_in.Goals.{then-not-is_fence-via-else-not-is_fence+then-ne}

pub returns-in_err-numbers-clause-none : goal.returns-in_err-numbers-clause-none
returns-in_err-numbers-clause-none c = λ _ fence n h. none-some n (c.in_err-numbers.ensures.read fence n h)

pub returns-then-not-is_fence-clause-none : goal.returns-then-not-is_fence-clause-none
returns-then-not-is_fence-clause-none c = λ _ fence n h.
    let read = c.fence_in-fence.ensures fence n h in
    let same = same_Some c.in_ok-numbers.numbers n (c.in_ok-numbers.ensures.read fence n h) in
    let right : c.is_fence.result ≡ true = c.is_fence.ensures.1 (λ f e. h.fence_right f (sym read ∙ e)) in
    elim c.then-not-is_fence.branch [
      | then-not-is_fence-via-then-not-is_fence w ↦ let fails = w.if-not-is_fence.true in cc
      | then-not-is_fence-via-else-not-is_fence+then-ne w ↦
          let written : w.mark_body.result ≡ c.args.opened.now.body =
          w.mark_body.ensures ∙ (λ i. mark_bytes (same i) (read i)) ∙ sym h.bytes in
          let equal : bytes_eq w.mark_body.result c.args.opened.now.body ≡ true = (bytes_eq-Decides _ _).1 written in
          let fails = w.if-ne.true in
          let differs = w.ne.ensures in
          cc
    ]
