use Rattle.std.proofs.Common.{◌+◌, sym, ap, ◌∙◌}
use Rattle.face_ranks.specs.Ranks.{place_from_one}
use Rattle.face_ranks.proofs.order.rank_among.Goals as goal

pub returns-in-None : goal.returns-in-None
returns-in-None c = ap (place_from_one c.args.keys.now) (sym c.in-None.is ∙ c.key_of_face.ensures)

pub returns-in-Some : goal.returns-in-Some
returns-in-Some c = ap (λ n. 1 + n) c.count_before.ensures.count ∙ ap (place_from_one c.args.keys.now) (sym c.in-Some.is ∙ c.key_of_face.ensures)
