-- A DATA OUT of equal bytes.
use Rattle.std.proofs.Common.{◌≡◌, ◌∙◌, ℕ, List, ◌++◌, ap, length, replicate}
use Rattle.std.proofs.lemmas.List.{length-replicate}
use Rattle.ufs_spec.specs.Codes.{data_out_code}
use Rattle.ufs_spec.specs.Messages.{header, padding, transfer, zeros}

-- its bytes are so many, and each is the same
pub of_fill : (unit task offset count fill : ℕ) (bytes spelled : List ℕ) → bytes ≡ replicate count fill
    → spelled ≡ header data_out_code 0 unit task 0 0 0 (length bytes) (transfer offset (length bytes))
    ++ bytes ++ zeros (padding (length bytes))
    → spelled ≡ header data_out_code 0 unit task 0 0 0 count (transfer offset count)
    ++ replicate count fill ++ zeros (padding count)
of_fill unit task offset count fill bytes spelled same is =
    let long : length bytes ≡ count = ap length same ∙ length-replicate count fill in
    is ∙ (λ i. header data_out_code 0 unit task 0 0 0 (long i) (transfer offset (long i))
    ++ same i ++ zeros (padding (long i)))
