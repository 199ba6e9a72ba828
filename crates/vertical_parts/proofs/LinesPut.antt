-- The lines of a text, part by part.
use Rattle.std.proofs.Common.{◌≡◌, ℕ, true, List, [], ◌∷◌, ◌++◌, map, length, Result, Ok, Err, refl, sym, ap, ap₂, ◌∙◌, subst, append_assoc}
use Rattle.std.specs.Prelude.{OnOk, Option, Some, flat_map, codes}
use Rattle.std.proofs.lemmas.List.{length-map}
use Rattle.std.proofs.lemmas.List.Folds.{flat_map-map}
use Rattle.exact_plane.specs.Point.{Point}
use Rattle.plane_graphs.proofs.Lists.{then_appended}
use Rattle.slab_laws.specs.declared.names.DartId.{DartId}
use Rattle.slab_laws.specs.declared.names.VertexId.{VertexId}
use Rattle.slab_laws.specs.Skeleton.{Skeleton}
use Rattle.slab_laws.specs.Sound.{skeleton_of, edge_in, IsGraphSound}
use Rattle.slab_laws.specs.Text.{ended, number, triple}
use Rattle.slab_laws.specs.View.{View, HasVertex, vertex_id, point_in, source_in, target_in}
use Rattle.arr_notes.specs.Curves.{IsForward, is_forward}
use Rattle.sound_views.proofs.GraphDrawn.{between_forward}
use Rattle.sound_views.proofs.NamesOrdered.{points_in_order}
use Rattle.arr_text.proofs.Joined.{joined}
use Rattle.vertical_laws.specs.Vertical.{Stop, vertex, edge, above_vertex, below_vertex}
use Rattle.vertical_laws.specs.VerticalText.{stop_text, stops_line, vertical_text}
use Rattle.vertical_parts.specs.declared.vertical.Next.{Next}
use Rattle.vertical_parts.specs.declared.vertical.Next.TheVariants as next
use Rattle.vertical_parts.specs.declared.vertical.Part.{Part}
use Rattle.vertical_parts.specs.VerticalParts.{IsNamed, IsPartOf, ArePartsOf}

-- ---- the first line
pub title_put : {T E : Type 0} (r : Result T E) (n : ℕ) (s a b z : List ℕ) → a ≡ s ++ codes "vertical" → b ≡ a ++ number n → OnOk r (z ≡ b ++ codes "\n") → OnOk r (z ≡ s ++ ended (codes "vertical" ++ number n))
unfolding ended
title_put r n s a b z e f g = joined r s b z (codes "vertical" ++ number n) (codes "\n") ((codes "vertical" ++ number n) ++ 10 ∷ []) (then_appended s a b (codes "vertical") (number n) e f) g refl

-- ---- what is next on a wall
pub vertex_put : {T E : Type 0} (r : Result T E) (p : Point) (s a z : List ℕ) → a ≡ s ++ codes " vertex" → OnOk r (z ≡ a ++ triple p) → OnOk r (z ≡ s ++ stop_text (Some (vertex p)))
unfolding stop_text
vertex_put r p s a z e f = joined r s a z (codes " vertex") (triple p) (codes " vertex" ++ triple p) e f refl

pub edge_put : {T E : Type 0} (r : Result T E) (p q : Point) (s a b z : List ℕ) → a ≡ s ++ codes " edge" → b ≡ a ++ triple p → OnOk r (z ≡ b ++ triple q) → OnOk r (z ≡ s ++ stop_text (Some (edge (record { low = p; high = q }))))
unfolding stop_text
edge_put r p q s a b z e f g = joined r s b z (codes " edge" ++ triple p) (triple q) (codes " edge" ++ (triple p ++ triple q)) (then_appended s a b (codes " edge") (triple p) e f) g (append_assoc (codes " edge") (triple p) (triple q))

-- a vertex that is named is there, and an edge is named by its forward dart
pub vertex_has : (v : View) (n : Next) (u : VertexId) → n ≡ next.Vertex u → ((o : Option Stop) × IsNamed v n o) → HasVertex v u
vertex_has v n u e h = (subst (λ (m : Next). IsNamed v m h.0) e h.1).0

pub dart_forward : (v : View) (n : Next) (d : DartId) → n ≡ next.Edge d → ((o : Option Stop) × IsNamed v n o) → IsForward v d
dart_forward v n d e h = (subst (λ (m : Next). IsNamed v m h.0) e h.1).0

-- which goes from the lower to the upper end
pub ends_are : (v : View) (d : DartId) (p q : Point) → is_forward v d ≡ true → p ≡ point_in v (source_in v d) → q ≡ point_in v (target_in v d) → edge_in v d ≡ record { low = p; high = q }
ends_are v d p q ahead e f = between_forward (point_in v (source_in v d)) (point_in v (target_in v d)) ahead ∙ (λ i. record { low = sym e i; high = sym f i })

-- the text of one stop is that of what is named, since nothing else is
pub stop_put : {T E : Type 0} (r : Result T E) (v : View) (n : Next) (t : Option Stop) (s z : List ℕ) → ((o : Option Stop) → IsNamed v n o → o ≡ t) → OnOk r (z ≡ s ++ stop_text t) → OnOk r ((o : Option Stop) → IsNamed v n o → z ≡ s ++ stop_text o)
stop_put (Ok x) v n t s z only e = λ o h. e ∙ ap (λ (u : Option Stop). s ++ stop_text u) (sym (only o h))
stop_put (Err x) v n t s z only e = e

-- ---- the line of a vertex
-- a part names what is above it, and what is below it
pub names_above : (v : View) (p : Part) → IsPartOf v p → (o : Option Stop) × IsNamed v p.above o
names_above v p h = (above_vertex (skeleton_of v) (point_in v p.vertex), h.above_it)

pub names_below : (v : View) (p : Part) → IsPartOf v p → (o : Option Stop) × IsNamed v p.below o
names_below v p h = (below_vertex (skeleton_of v) (point_in v p.vertex), h.below_it)

six : (k p u x w y : List ℕ) → ((((k ++ p) ++ u) ++ x) ++ w) ++ y ≡ k ++ (p ++ (u ++ (x ++ (w ++ y))))
six k p u x w y = simp append_assoc

pub line_put : {T E : Type 0} (r : Result T E) (g : Skeleton) (p : Point) (s a b c d e f z : List ℕ) → a ≡ s ++ codes "v" → b ≡ a ++ triple p → c ≡ b ++ codes " above" → d ≡ c ++ stop_text (above_vertex g p) → e ≡ d ++ codes " below" → f ≡ e ++ stop_text (below_vertex g p) → OnOk r (z ≡ f ++ codes "\n") → OnOk r (z ≡ s ++ stops_line g p)
unfolding stops_line ended
line_put r g p s a b c d e f z h i j k l m n =
    let head : List ℕ = codes "v" in
    let t : List ℕ = triple p in
    let u : List ℕ = codes " above" in
    let x : List ℕ = stop_text (above_vertex g p) in
    let w : List ℕ = codes " below" in
    let y : List ℕ = stop_text (below_vertex g p) in
    let two = then_appended s a b head t h i in
    let three = then_appended s b c (head ++ t) u two j in
    let four = then_appended s c d ((head ++ t) ++ u) x three k in
    let five = then_appended s d e (((head ++ t) ++ u) ++ x) w four l in
    let all = then_appended s e f ((((head ++ t) ++ u) ++ x) ++ w) y five m in
    joined r s f z (((((head ++ t) ++ u) ++ x) ++ w) ++ y) (codes "\n") ((head ++ (t ++ (u ++ (x ++ (w ++ y))))) ++ 10 ∷ []) all n (ap (λ (q : List ℕ). q ++ 10 ∷ []) (six head t u x w y))

-- ---- through all vertices
-- what stands where no part does
abbrev pub no_part : Part
no_part = record { vertex = vertex_id 0; above = next.Vertex (vertex_id 0); below = next.Vertex (vertex_id 0) }

module _ (v : View) (s : IsGraphSound v) (ps : List Part) (are : ArePartsOf v ps) where
  abbrev vertex_of : Part → VertexId
  vertex_of p = p.vertex

  points_are : map (point_in v) (map vertex_of ps) ≡ (skeleton_of v).vertices
  points_are = ap (map (point_in v)) are.vertices ∙ points_in_order v s

  pub parts_counted : length ps ≡ length (skeleton_of v).vertices
  parts_counted = sym (length-map (map vertex_of ps) (point_in v) ∙ length-map ps vertex_of) ∙ ap (λ (us : List Point). length us) points_are

  pub lines_are : (write : Point → List ℕ) → flat_map (λ (p : Part). write (point_in v p.vertex)) ps ≡ flat_map write (skeleton_of v).vertices
  lines_are write = sym (flat_map-map write (point_in v) (map vertex_of ps) ∙ flat_map-map (λ (u : VertexId). write (point_in v u)) vertex_of ps) ∙ ap (flat_map write) points_are

-- ---- the whole text
pub text_put : (g : Skeleton) (n : ℕ) (s a b z : List ℕ) → s ≡ [] → n ≡ length g.vertices → a ≡ s ++ ended (codes "vertical" ++ number n) → b ≡ a ++ flat_map (stops_line g) g.vertices → z ≡ b ++ codes "end\n" → z ≡ vertical_text g
unfolding vertical_text ended
text_put g n s a b z e c f h i =
    let first : List ℕ = (codes "vertical" ++ number (length g.vertices)) ++ 10 ∷ [] in
    let lines : List ℕ = flat_map (stops_line g) g.vertices in
    let start : a ≡ first = f ∙ ap₂ (λ (t : List ℕ) (m : ℕ). t ++ ((codes "vertical" ++ number m) ++ 10 ∷ [])) e c in
    i ∙ ap (λ (t : List ℕ). t ++ codes "end\n") (h ∙ ap (λ (t : List ℕ). t ++ lines) start) ∙ append_assoc first lines (codes "end\n")
