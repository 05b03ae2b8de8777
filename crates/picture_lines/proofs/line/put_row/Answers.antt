use Rattle.std.proofs.Common.{◌≡◌, ◌≤◌, ◌+◌, ◌-◌, length, arith}
use Rattle.std.proofs.lemmas.Simd.{put_chunk_is}
use Rattle.picture_lines.proofs.line.put_row.Goals as goal

pub returns : goal.returns
returns c =
    let eight : c.args.at + 8 - c.args.at ≡ 8 = omega arith in
    let long : length c.args.colours ≡ 8 = omega arith in
    let room : c.args.at + length c.args.colours ≤ length c.args.buffer.now = omega arith in
    rw (eight, c.copy_from_slice.ensures.after, put_chunk_is c.args.at c.args.buffer.now c.args.colours room, long)
