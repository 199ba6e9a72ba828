use Rattle.std.proofs.Common.{◌++◌, ap₂, List, ℕ}
use Rattle.slab_laws.specs.Text.{number}
use Rattle.arr_text.proofs.Joined.{joined}
use Rattle.arr_text.proofs.words.ColouredWords.put_labels.Goals as goal

pub returns : goal.returns
unfolding number
returns g c =
    let red : List ℕ = number c.red_of-red.result in
    let blue : List ℕ = number c.blue_of-blue.result in
    joined c.put_number-2.result c.args.out.now.items c.put_number.new.out.items c.put_number-2.new.out.items red blue _ c.in_ok-put_number.ensures c.put_number-2.ensures
    (ap₂ (λ (x y : ℕ). number x ++ number y) c.red_of-red.ensures c.blue_of-blue.ensures)
