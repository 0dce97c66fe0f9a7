use Rattle.std.proofs.Common.{◌-◌, ◌*◌, ◌/◌, ◌∙◌, length, refl}
use Rattle.std.proofs.lemmas.List.{take_rest}
use Rattle.sha256_lanes.proofs.Tails.{tail_is}
use Rattle.sha256_lanes.proofs.tail.tail.Goals as goal

pub returns : goal.returns
returns c = λ n same is_total.
    let m = c.args.part.now in
    let end = c.tail_len-end.result in
    tail_is m c.copy_from_slice.new.self c.copy_from_slice-2.new.self n c.args.total (length m - length m / 64 * 64) end
    (end - (end - 8)) same is_total refl c.tail_len-end.ensures
    (c.copy_from_slice.ensures.after ∙ take_rest m (length m / 64 * 64))
    (c.copy_from_slice-2.ensures.after ∙ c.to_be_bytes.ensures)
