use Rattle.std.proofs.Common.{◌≡◌, ◌++◌, rules}
use Rattle.std.specs.Prelude.{OnOk}
use Rattle.std.specs.Fmt.{signed_decimal}
use Rattle.slab_laws.specs.Text.{word}
use Rattle.arr_text.proofs.Joined.{triple_put}
use Rattle.arr_text.proofs.put.put_point.Goals as goal

pub returns : goal.returns
returns c =
    let p = c.args.point.now in
    let x : c.put_number.new.out.items ≡ c.args.out.now.items ++ word (signed_decimal p.x) = search rules in
    let y : c.put_number-2.new.out.items ≡ c.put_number.new.out.items ++ word (signed_decimal p.y) = search rules in
    let w : OnOk c.put_number-3.result (c.put_number-3.new.out.items ≡ c.put_number-2.new.out.items ++ word (signed_decimal p.w)) = search rules in
    triple_put c.put_number-3.result p c.args.out.now.items c.put_number.new.out.items c.put_number-2.new.out.items c.put_number-3.new.out.items x y w
