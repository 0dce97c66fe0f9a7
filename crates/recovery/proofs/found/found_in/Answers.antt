use Rattle.recovery.proofs.Common.{AreListed, AreMarksListed, Bool, Fence, FoundPage, List, Numbers, Option, Some, ap}
use Rattle.recovery.proofs.Common.{arith, block_by, false, filter, found_block, get_or, is_free_in, is_outside, length}
use Rattle.recovery.proofs.Common.{length-map, newest_in, refl, slice_get-get_or, slice_get_within, spots, subst, sym}
use Rattle.recovery.proofs.Common.{true, ℕ, ◌∙◌, ◌≡◌}
use Rattle.std.proofs.Common.{slice_get}
use Rattle.ufs_spec.specs.Openings.{lost_from}
use Rattle.recovery.specs.KeysInOrder.{state_of_found}
use Rattle.recovery.specs.Listed as lists
use Rattle.recovery.proofs.bad_listed.BadBlocks.{bad_at}
use Rattle.recovery.proofs.bad_listed.FreeLists.{free_at, outside_listed, spot_at}
use Rattle.recovery.proofs.frees.Vacancies.{vacancy_found}
use Rattle.recovery.proofs.found.found_in.Goals as goal

-- what a block was found to be is what it is by the two answers
state_is : (bad free opens : Bool) → state_of_found (found_block free opens bad) ≡ block_by bad free
state_is true free opens = refl
state_is false true true = refl
state_is false true false = refl
state_is false false opens = refl

pub returns : goal.returns
returns c = λ cells is_bad table in_range within suits bads.
    let n : Numbers = c.args.numbers.now in
    let m = newest_in c.args.table in
    let fence = sym c.fence_of-fence.ensures in
    let pages : List FoundPage = c.as_slice-pages.result.now in
    let listed : AreListed cells pages =
    subst (AreListed cells) (sym c.as_slice-pages.ensures.value) table.pages in
    let marks : AreMarksListed cells c.as_slice-marks.result.now =
    subst (AreMarksListed cells) (sym c.as_slice-marks.ensures.value) table.marks in
    let items : List Bool = c.in_ok-free.free.items in
    let free = is_free_in n is_bad items in
    let long : length items ≡ length (spots n) =
    c.in_ok-free.ensures.as_many ∙ ap length bads ∙ length-map (spots n) is_bad in
    let opening : List Bool = c.in_ok-opening.opening.items in
    let as_many : length opening ≡ length (spots n) =
    c.in_ok-opening.ensures.as_many ∙ ap length bads ∙ length-map (spots n) is_bad in
    let recorded = c.recorded_frontier-recorded.ensures.recorded cells m listed fence table.recorded in
    let top = c.greatest_seen-greatest_seen.ensures.top cells m listed fence table.recorded in
    record {
      basis = record {
        within = within;
        newest = table.newest;
        kept = c.in_ok-kept.ensures.kept cells m listed recorded;
        free = free;
        free_right = c.in_ok-free.ensures.free cells is_bad listed marks table.newest within suits bads;
      };
      suits = suits;
      in_range = in_range;
      greatest_seen = top;
      first_lost = c.first_lost-first_lost.ensures
          ∙ ap (λ (f : Option Fence). lost_from f c.in_ok-kept.kept) (sym fence);
      contents = c.in_ok-contents.ensures.content (lists.outside free cells) m
          (subst (AreListed (lists.outside free cells))
          (sym (c.as_slice-2.ensures.value ∙ c.in_ok-outside.ensures
          ∙ ap (λ (xs : List Bool). filter (is_outside n.blocks xs) pages) c.as_slice.ensures.value))
          (outside_listed n is_bad items cells within pages listed)) fence;
      lost = c.in_ok-lost.ensures cells c.greatest_seen-greatest_seen.result listed top.0.numbers suits.keys;
      as_many = c.in_ok-blocks.ensures.each_block ∙ ap length bads ∙ length-map (spots n) is_bad;
      blocks = λ i s at.
          let spot = spot_at n i s at in
          let inside = slice_get_within (spots n) i s at in
          let opens = get_or opening i false in
          let there : slice_get opening i ≡ Some opens = slice_get-get_or opening i false (omega (arith, inside, as_many)) in (
            found_block (free s) opens (is_bad s),
            c.in_ok-blocks.ensures.states i (free s) opens (is_bad s)
                (ap (λ (xs : List Bool). slice_get xs i) c.as_slice-3.ensures.value
                ∙ free_at n is_bad items i s long at)
                (ap (λ (xs : List Bool). slice_get xs i) c.as_slice-4.ensures.value ∙ there)
                (bad_at n is_bad c.args.bad.now i s bads at),
            state_is (is_bad s) (free s) opens,
            vacancy_found n cells within pages c.as_slice-marks.result.now listed marks opening
                c.in_ok-opening.ensures.opening s spot.1 (free s) opens (is_bad s)
                (subst (λ (k : ℕ). slice_get opening k ≡ Some opens) spot.0 there),
          );
    }
