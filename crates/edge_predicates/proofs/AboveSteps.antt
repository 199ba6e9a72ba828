-- What `is_above` computes of two spans is what it says of their edges.
use Rattle.std.proofs.Common.{◌≡◌, Bool, true, false, sym, ap, ◌∙◌}
use Rattle.exact_plane.specs.Point.{Point}
use Rattle.plane_graphs.specs.Graph.{Edge}
use Rattle.slab_laws.specs.Skeleton.{over, under, precedes}
use Rattle.edge_predicates.specs.Above.{is_above}
use Rattle.edge_predicates.proofs.Uprights.{above_later, above_earlier, above_fan}

pub is_later : (e f : Edge) (lo st : Point) (b r : Bool) → lo ≡ e.low → st ≡ f.low → b ≡ precedes st lo → b ≡ true → r ≡ under f lo → r ≡ is_above e f
is_later e f lo st b r x y z t u = u ∙ ap (under f) x ∙ sym (above_later e f ((λ i. precedes (sym y i) (sym x i)) ∙ sym z ∙ t))

pub is_earlier : (e f : Edge) (lo st : Point) (b d r : Bool) → lo ≡ e.low → st ≡ f.low → b ≡ precedes st lo → b ≡ false → d ≡ precedes lo st → d ≡ true → r ≡ over e st → r ≡ is_above e f
is_earlier e f lo st b d r x y z t v w u = u ∙ ap (over e) y ∙ sym (above_earlier e f ((λ i. precedes (sym y i) (sym x i)) ∙ sym z ∙ t) ((λ i. precedes (sym x i) (sym y i)) ∙ sym v ∙ w))

pub is_fan : (e f : Edge) (lo st hi : Point) (b d r : Bool) → lo ≡ e.low → st ≡ f.low → hi ≡ e.high → b ≡ precedes st lo → b ≡ false → d ≡ precedes lo st → d ≡ false → r ≡ under f hi → r ≡ is_above e f
is_fan e f lo st hi b d r x y h z t v w u = u ∙ ap (under f) h ∙ sym (above_fan e f ((λ i. precedes (sym y i) (sym x i)) ∙ sym z ∙ t) ((λ i. precedes (sym x i) (sym y i)) ∙ sym v ∙ w))
