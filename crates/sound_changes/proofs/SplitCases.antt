-- Names that are one or differ, and darts by two points in order.
use Rattle.std.proofs.Common.{◌≡◌, Bool, true, sym, ap, ◌∙◌, subst}
use Rattle.std.specs.Prelude.{if◌then◌else◌}
use Rattle.exact_plane.specs.Point.{Point}
use Rattle.plane_graphs.specs.Line.{precedes}
use Rattle.plane_graphs.specs.Graph.{Edge}
use Rattle.plane_graphs.proofs.Order.{lt_out, lt_never}
use Rattle.slab_laws.specs.Darts.{ahead, back}
use Rattle.slab_laws.specs.Rotation.{twin}
use Rattle.sound_views.proofs.NamedDarts.{by_points, twin_by}

abbrev pub edge_of_ends : Point → Point → Edge
edge_of_ends p q = record { low = p; high = q }

-- the dart from the lesser point to the greater, and back
pub ahead_by : (p q : Point) → precedes p q ≡ true → by_points p q ≡ ahead (edge_of_ends p q)
ahead_by p q l = ap (λ (b : Bool). record { edge = if b then record { low = p; high = q } else record { low = q; high = p }; forward = b }) l

pub back_by : (p q : Point) → precedes p q ≡ true → by_points q p ≡ back (edge_of_ends p q)
back_by p q l = twin_by p q (λ e. lt_never (lt_out p p (subst (λ z. precedes p z ≡ true) (sym e) l))) ∙ ap twin (ahead_by p q l)
