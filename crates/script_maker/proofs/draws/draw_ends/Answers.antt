use Rattle.std.proofs.Common.{◌≡◌, ◌/◌, ◌%◌, pos, ◌+ℤ◌, ◌-ℤ◌, ap, ◌∙◌, rules, to_z, of_z, w32}
use Rattle.script_maker.specs.Script.{draw, next_state, state_after}
use Rattle.script_maker.proofs.Parts.{ends_of-drawn, same_ends}
use Rattle.script_maker.proofs.draws.draw_ends.Goals as goal

pub returns-clause-moved : goal.returns-clause-moved
unfolding state_after
returns-clause-moved c = cc

pub returns-clause-drawn : goal.returns-clause-drawn
unfolding state_after
returns-clause-drawn c =
    let seed = c.args.state.now in
    let one : c.draw.new.state ≡ state_after seed 1 = c.draw.ensures.moved in
    let two : c.draw-2.new.state ≡ state_after seed 2 = c.draw-2.ensures.moved ∙ ap next_state one in
    let three : c.draw-3.new.state ≡ state_after seed 3 = c.draw-3.ensures.moved ∙ ap next_state two in
    let four : c.draw-4.new.state ≡ state_after seed 4 = c.draw-4.ensures.moved ∙ ap next_state three in
    let x2 : c.coordinate_beside-x2.result ≡ (c.coordinate-x1.result +ℤ pos (c.draw-3.result % 2048)) -ℤ pos 1024 = search rules in
    let y2 : c.coordinate_beside-y2.result ≡ (c.coordinate-y1.result +ℤ pos (c.draw-4.result % 2048)) -ℤ pos 1024 = search rules in
    let read_x1 : to_z w32 (of_z w32 c.coordinate-x1.result) ≡ c.coordinate-x1.result = search rules in
    let read_y1 : to_z w32 (of_z w32 c.coordinate-y1.result) ≡ c.coordinate-y1.result = search rules in
    let read_x2 : to_z w32 (of_z w32 c.coordinate_beside-x2.result) ≡ c.coordinate_beside-x2.result = search rules in
    let read_y2 : to_z w32 (of_z w32 c.coordinate_beside-y2.result) ≡ c.coordinate_beside-y2.result = search rules in
    same_ends _ _ _ _ _ _ _ _ read_x1 read_y1 read_x2 read_y2
    ∙ ends_of-drawn c.coordinate-x1.result c.coordinate-y1.result c.coordinate_beside-x2.result c.coordinate_beside-y2.result
    c.draw.result c.draw-2.result c.draw-3.result c.draw-4.result (draw seed 1) (draw seed 2) (draw seed 3) (draw seed 4)
    c.coordinate-x1.ensures.is c.coordinate-y1.ensures.is x2 y2
    (c.draw.ensures.drawn ∙ ap (λ n. n / 65536) one) (c.draw-2.ensures.drawn ∙ ap (λ n. n / 65536) two)
    (c.draw-3.ensures.drawn ∙ ap (λ n. n / 65536) three) (c.draw-4.ensures.drawn ∙ ap (λ n. n / 65536) four)
