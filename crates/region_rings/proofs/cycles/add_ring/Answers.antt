use Rattle.std.proofs.Common.{rules, ◌≡◌, ◌++◌, ◌∷◌, [], length, ◌∙◌}
use Rattle.region_rings.proofs.RingsCut.{walked_more}
use Rattle.region_rings.proofs.cycles.add_ring.Goals as goal

pub returns : goal.returns
returns c =
    let new = c.walk_ring.new.order.items in
    let ends = c.args.cycles.now.ends.items in
    let size : c.len.result ≡ length new = search rules in
    walked_more c.args.nexts.now c.args.first c.args.places.now.items c.walk_ring.new.places.items c.args.cycles.now.order.items new ends c.push.new.self.items c.requires.walked c.in_ok-walk_ring.ensures
    (c.in_ok-push.ensures.items ∙ (λ i. ends ++ (size i ∷ []))) c.requires.first
