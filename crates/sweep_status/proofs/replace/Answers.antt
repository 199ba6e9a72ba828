use Rattle.std.proofs.Common.{◌≡◌, ◌≤◌, ◌+◌, ◌-◌, length, ap, arith}
use Rattle.sweep_status.proofs.Replaced.{above_fits, at_end}
use Rattle.sweep_status.proofs.replace.Goals as goal

pub write_over-requires : goal.write_over-requires
write_over-requires c =
    let is_end : c.len-end.result ≡ length c.args.status.now.items = omega (arith, c.len-end.ensures, c.args.status.now.ok.0) in
    let enough : length c.args.run.now ≤ c.args.high - c.args.low + length c.split_at.result.1.now = omega (arith, c.min.ensures, c.split_at.ensures.back_len) in
    let a = ap length c.deref_mut.ensures.value in
    let b = above_fits c.args.status.now.items c.args.run.now c.split_at.result.1.now c.args.low c.args.high c.len-end.result is_end c.requires.in_turn c.requires.in_bounds enough
    c.extend_from_slice.new.self.items c.in_ok-extend_from_slice.ensures.items c.move_above.new.status.items c.move_above.ensures in
    omega (arith, a, b)

pub returns-clause-ok : goal.returns-clause-ok
returns-clause-ok c =
    let is_end : c.len-end.result ≡ length c.args.status.now.items = omega (arith, c.len-end.ensures, c.args.status.now.ok.0) in
    let enough : length c.args.run.now ≤ c.args.high - c.args.low + length c.split_at.result.1.now = omega (arith, c.min.ensures, c.split_at.ensures.back_len) in
    let above = c.move_above.new.status in
    let whole : above.len ≡ length above.items = omega (arith, above.ok.0) in
    at_end c.args.status.now.items c.args.run.now c.split_at.result.1.now c.args.low c.args.high c.len-end.result is_end c.requires.in_turn c.requires.in_bounds enough
    c.extend_from_slice.new.self.items c.in_ok-extend_from_slice.ensures.items above.items c.move_above.ensures
    c.deref_mut.result.now c.write_over.new.status above.len whole c.deref_mut.ensures.value c.write_over.ensures
