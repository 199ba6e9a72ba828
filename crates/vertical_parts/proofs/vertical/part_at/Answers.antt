use Rattle.std.proofs.Common.{sym, subst}
use Rattle.slab_laws.specs.View.{point_in}
use Rattle.slab_laws.specs.Sound.{skeleton_of}
use Rattle.sound_changes.proofs.KnownNames.{points_ascend, points_proper}
use Rattle.vertical_laws.specs.Vertical.{above_vertex, below_vertex}
use Rattle.vertical_parts.specs.declared.vertical.Next.{Next}
use Rattle.vertical_parts.specs.Coming.{first_points}
use Rattle.vertical_parts.specs.VerticalParts.{IsNamed}
use Rattle.vertical_parts.proofs.PartsNamed.{known_key, below_told, above_told}
use Rattle.vertical_parts.proofs.VerticesPassed.{vertex_there, cut_there}
use Rattle.vertical_parts.proofs.vertical.part_at.Goals as goal

pub returns-clause-part : goal.returns-clause-part
returns-clause-part c = λ v s is f e.
    let ks = c.args.vertices.now in
    let k = c.args.vertex.now in
    let i = c.args.index in
    let es = c.args.front.now.edges in
    let up = points_ascend v in
    let proper = points_proper v s in
    let round = c.around-around.ensures (skeleton_of v) (first_points v i) f.front (vertex_there v s up proper ks is i k e) (cut_there v s up proper ks is i k e) in
    record {
      has = (known_key v s ks is i k e es f.named i k e).0;
      above_it = subst (λ (x : Next). IsNamed v x (above_vertex (skeleton_of v) (point_in v k.name))) (sym c.next_above.ensures) (above_told v s ks is i k e es f.named f.front.edges c.around-around.result round c.wall_after.result c.wall_after.ensures);
      below_it = subst (λ (x : Next). IsNamed v x (below_vertex (skeleton_of v) (point_in v k.name))) (sym c.next_below.ensures) (below_told v s ks is i k e es f.named f.front.edges c.around-around.result round c.wall_before.result c.wall_before.ensures);
    }
