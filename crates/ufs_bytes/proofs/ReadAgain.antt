-- The number that was written into a field is read again, and the bytes before and after the field stay.
use Rattle.std.proofs.Common.{◌≡◌, ◌∙◌, ℕ, ◌+◌, ◌<◌, ◌≤◌, ◌^◌, List, ◌++◌, length, take, drop, sym, ap, arith}
use Rattle.std.proofs.Common.{length-append, length-take, length-drop}
use Rattle.std.proofs.lemmas.List.{drop-drop, drop_at, take_at}
use Rattle.byteorder.specs.Endian.{big_bytes, big_number}
use Rattle.byteorder.specs.Numbers.{big_number-reads_back, length-bytes_high_first}
use Rattle.ufs_bytes.specs.Fields.{field_at, with_field}

module _ (n offset number : ℕ) (bytes : List ℕ) (within : offset + n ≤ length bytes) where
  -- as many bytes stand before the field
  before : length (take offset bytes) ≡ offset
  before = let l = length-take offset bytes in omega (arith, l, within)

  -- what stands from the field on
  from_field : drop offset (with_field n offset number bytes) ≡ big_bytes n number ++ drop n (drop offset bytes)
  from_field = drop_at (take offset bytes) (big_bytes n number ++ drop n (drop offset bytes)) offset before

  pub field_again : number < 256 ^ n → field_at n offset (with_field n offset number bytes) ≡ number
  field_again fits =
      ap (big_number n) from_field ∙ big_number-reads_back n number (drop n (drop offset bytes)) fits

  pub front_stays : take offset (with_field n offset number bytes) ≡ take offset bytes
  front_stays = take_at (take offset bytes) (big_bytes n number ++ drop n (drop offset bytes)) offset before

  pub rest_stays : drop (offset + n) (with_field n offset number bytes) ≡ drop (offset + n) bytes
  rest_stays =
      sym (drop-drop n offset (with_field n offset number bytes)) ∙ ap (drop n) from_field
      ∙ drop_at (big_bytes n number) (drop n (drop offset bytes)) n (length-bytes_high_first n number)
      ∙ drop-drop n offset bytes

  pub length_stays : length (with_field n offset number bytes) ≡ length bytes
  length_stays =
      let a = length-append (take offset bytes) (big_bytes n number ++ drop n (drop offset bytes)) in
      let b = length-append (big_bytes n number) (drop n (drop offset bytes)) in
      let c = length-bytes_high_first n number in
      let d = length-drop n (drop offset bytes) in
      let e = length-drop offset bytes in
      omega (arith, a, b, c, d, e, before, within)
