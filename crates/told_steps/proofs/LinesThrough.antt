-- What tests of names, lines and points tell.
use Rattle.std.proofs.Common.{◌≡◌, ◌≢◌, Bool, true, false, not, ◌&&◌, ◌==◌, eq-eqb, refl, sym, ap, ap₂, ◌∙◌}
use Rattle.std.proofs.lemmas.Bool.{eqb-true}
use Rattle.exact_plane.specs.Line.{Line}
use Rattle.exact_plane.specs.MeetOf.{same_line}
use Rattle.exact_plane.specs.Point.{Point}
use Rattle.exact_plane.proofs.Meetings.{same_line-is}
use Rattle.integers.proofs.Decisions.{eq_in}
use Rattle.plane_graphs.specs.Line.{precedes}
use Rattle.plane_graphs.proofs.Lists.{clash}
use Rattle.slab_laws.specs.declared.names.DartId.{DartId}
use Rattle.slab_laws.specs.declared.names.VertexId.{VertexId}
use Rattle.slab_laws.specs.View.{View, IsOutOf, dart_id, point_in, target_in}
use Rattle.arr_notes.specs.Curves.{is_forward}

-- a test for a difference that fails tells that both are one
not_other : (a b : Bool) → b ≡ not a → b ≡ false → a ≡ true
not_other true b e f = refl
not_other false b e f = clash e f

other : (a b : Bool) → b ≡ not a → b ≡ true → a ≡ false
other true b e t = clash t e
other false b e t = refl

pub one_name : (d e : DartId) (b : Bool) → b ≡ not (d.0 == e.0) → b ≡ false → d ≡ e
one_name d e b i f = ap dart_id (eqb-true d.0 e.0 (not_other (d.0 == e.0) b i f))

pub two_names : (d e : DartId) (b : Bool) → b ≡ not (d.0 == e.0) → b ≡ true → d ≢ e
two_names d e b i t q = clash (eq-eqb d.0 e.0 (ap (λ (z : DartId). z.0) q)) (other (d.0 == e.0) b i t)

pub one_line : (l m : Line) (b : Bool) → b ≡ not (same_line l m) → b ≡ false → l ≡ m
one_line l m b i f = same_line-is l m (not_other (same_line l m) b i f)

pub two_lines : (l m : Line) (b : Bool) → b ≡ not (same_line l m) → b ≡ true → l ≢ m
two_lines l m b i t q =
    clash (ap₂ ◌&&◌ (eq_in l.a m.a (ap (λ (n : Line). n.a) q)) (ap₂ ◌&&◌ (eq_in l.b m.b (ap (λ (n : Line). n.b) q)) (eq_in l.c m.c (ap (λ (n : Line). n.c) q))))
    (other (same_line l m) b i t)

-- a dart out of a vertex goes forward where the vertex comes before its far end
pub goes : (v : View) (w : VertexId) (x : DartId) (here there : Point) (to : VertexId) (b : Bool) → IsOutOf v w x → here ≡ point_in v w → there ≡ point_in v to → to ≡ target_in v x → b ≡ precedes here there → is_forward v x ≡ b
goes v w x here there to b o h t e i = ap₂ precedes (ap (point_in v) o.1 ∙ sym h) (ap (point_in v) (sym e) ∙ sym t) ∙ sym i
