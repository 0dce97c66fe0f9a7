use Rattle.std.proofs.Common.{◌≡◌, ◌<◌, ◌∙◌, ℕ, List, [], ap, arith, get_or, length, length-take, map, refl, subst, sym, take}
use Rattle.std.proofs.lemmas.List.{length-map, map_more}
use Rattle.ufs_spec.specs.Frames.{Frame, frame_bytes}
use Rattle.ufstool.specs.Requests.{Gathers, block_request}
use Rattle.ufstool.proofs.requests.signed_frames.Goals as goal

pub loop-block-preserved : goal.loop-block-preserved
loop-block-preserved c =
    let sent : List ℕ → Frame = block_request c.args.counter c.args.address (length c.args.blocks.now) in
    let front : List (List ℕ) = c.in-Some.front.now in
    let i : ℕ = c.loop-block.block-index in
    let before : List Frame = map sent (take i front) in
    let one : Frame = sent (get_or front i []) in
    let many = length-map (take i front) sent in
    let taken = length-take i front in
    let long = c.in-Some.ensures.cases.1 in
    let most = c.if-count-gt-MOST_BLOCKS.false in
    let room : length before < 8 = omega (arith, many, taken, long, most, c.loop-block-test.true) in
    let bytes : c.bytes_of.result ≡ frame_bytes one = c.bytes_of.ensures.bytes ∙ ap frame_bytes c.write_frame.ensures in
    subst (Gathers c.add.new.self c.args.key.now) (sym (map_more sent front i [] c.loop-block-test.true))
    (c.add.ensures c.args.key.now before one c.loop-block.invariant (refl, refl) bytes room)
