use Rattle.std.proofs.Common.{◌-◌, ◌∙◌, arith, refl}
use Rattle.sha256_lanes.proofs.Tails.{padded_end}
use Rattle.sha256_lanes.proofs.one.ending.Goals as goal

pub returns : goal.returns
returns c = λ n same is_total.
    let rest = c.args.rest.now in
    let end = c.ending_len-end.result in
    rw (← c.ending_len-end.ensures) (rw c.copy_from_slice.ensures.after
    (padded_end rest c.copy_from_slice-2.new.self 512 n c.args.total _ end (end - (end - 8)) is_total refl
    (omega arith) (omega arith) (c.copy_from_slice-2.ensures.after ∙ c.to_be_bytes.ensures)))
