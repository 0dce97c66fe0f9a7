use Rattle.std.proofs.Common.{◌≡◌, ◌∙◌, List, ℕ, [], ap, arith}
use borrow.Rule.Slice.PartMut.{mid_of}
use Rattle.std.specs.Prelude.{slice_index_or}
use Rattle.byteorder.specs.Endian.{big_number}
use Rattle.byteorder.specs.Numbers.{big_number-reads_back}
use Rattle.ufstool.proofs.images.sizes_in.Goals as goal

pub returns : goal.returns
returns c = λ s in_range is.
    let dies = ap (λ (h : List ℕ). slice_index_or h 8 0) is in
    let blocks : c.read_u16.result ≡ s.blocks =
    c.read_u16.ensures ∙ ap (λ (h : List ℕ). big_number 2 (mid_of 10 2 h)) is
    ∙ big_number-reads_back 2 s.blocks [] (omega (arith, in_range.few_blocks)) in
    let pages : c.read_u16-2.result ≡ s.pages =
    c.read_u16-2.ensures ∙ ap (λ (h : List ℕ). big_number 2 (mid_of 12 2 h)) is
    ∙ big_number-reads_back 2 s.pages [] (omega (arith, in_range.few_pages)) in
    λ i. record { dies = dies i; blocks = blocks i; pages = pages i }
