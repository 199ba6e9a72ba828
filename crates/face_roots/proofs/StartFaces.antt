-- Where something starts at a vertex, its first dart, or the vertex alone, is in the face of what is below.
use Rattle.std.proofs.Common.{◌≡◌, ◌+◌, Bool, true, false, arith, refl, sym, ap, subst}
use Rattle.std.specs.Prelude.{not, ◌≢◌, Option}
use Rattle.std.specs.List.{Contains}
use Rattle.std.proofs.lemmas.Bool.{and_parts, and_from}
use Rattle.exact_plane.specs.Point.{Point}
use Rattle.plane_graphs.specs.Graph.{Edge}
use Rattle.slab_laws.specs.Skeleton.{Skeleton, IsPlaneSkeleton, left_of}
use Rattle.slab_laws.specs.Slabs.{reaches_right, place, slab_right, right_count, left_top, right_bottom, left_cell}
use Rattle.slab_laws.specs.Darts.{Dart, IsOut, ahead, start, class, kind, cell_of, cell_by, by_class, on_right}
use Rattle.slab_laws.specs.Meets.{SameFace, here}
use Rattle.slab_laws.specs.Cycles.{left_of_dart}
use Rattle.slab_laws.specs.Rotation.{earlier}
use Rattle.slab_faces.proofs.Walls.{left_of-irrefl, side-lower}
use Rattle.slab_faces.proofs.Turns.{face_trans, face_sym, on_own_wall, level_at}
use Rattle.slab_faces.proofs.Next.{level_at_lower}
use Rattle.slab_faces.proofs.Corners.{IsAt, right_fan, top_place}
use Rattle.slab_faces.proofs.Round.{left_empty, top_open, bottom_open}
use Rattle.slab_faces.proofs.RotationLemmas.{earlier_in}
use Rattle.edge_predicates.specs.FaceLaws.{cell_over}
use Rattle.edge_predicates.specs.Highest.{IsHighestBelow}
use Rattle.face_roots.specs.CycleLinks.{IsStart, IsBare, IsFirstOut}
use Rattle.face_roots.proofs.BelowVertices.{corner_face}

module _ (g : Skeleton) (plane : IsPlaneSkeleton g) where
  -- the cell on the left of the first edge out of its lower end is the one at the upper left of that end
  top_of : (e : Edge) → Contains g.edges e → ((c : Dart) → IsOut g e.low c.edge c.forward → earlier c (ahead e) ≢ true) → SameFace g (cell_of g e true) (left_top g e.low)
  top_of e E first = go (left_of e.low e.high) refl
    where
      in_vertices : Contains g.vertices e.low
      in_vertices = plane.lower_in e E

      go : (l : Bool) → left_of e.low e.high ≡ l → SameFace g (cell_by g e l true) (left_top g e.low)
      go false q = here _
      go true q =
          let free = top_open g e.low plane in_vertices (λ f F a u.
          let k : class f true ≡ 1 = ap (λ l. kind l true) (subst (λ z. left_of z f.high ≡ false) (sym a) u.upper_2) in
          let n : class e true ≡ 2 = ap (λ l. kind l true) q in
          first (ahead f) (record { in' = F; at = a }) (earlier_in (ahead f) (ahead e) (by_class (omega arith)))) in
          let at : IsAt g e.low (λ x. reaches_right x e.low) e = record { in' = E; reaches = and_from _ _ (ap not (left_of-irrefl e.low)) q; on = side-lower e } in
          let p : right_count g e.low ≡ place g (slab_right g e.low) e + 1 = top_place g e.low (slab_right g e.low) _ (λ x. reaches_right x e.low) e (right_fan g e.low plane (on_own_wall g e.low plane in_vertices)) at (λ f t b.
          let a = level_at_lower g f e.low plane t.in' in_vertices t.reaches t.on in
          let r = and_parts (not (left_of e.low f.low)) (left_of e.low f.high) t.reaches in
          let k : class f true ≡ 2 = ap (λ l. kind l true) (subst (λ z. left_of z f.high ≡ true) (sym a) r.1) in
          let n : class e true ≡ 2 = ap (λ l. kind l true) q in
          first (ahead f) (record { in' = t.in'; at = a }) (earlier_in (ahead f) (ahead e) (on_right k n b))) in
          face_sym g _ _ (subst (λ n. SameFace g (left_top g e.low) (record { slab = slab_right g e.low; place = n })) p free)

  -- a dart out of a vertex at which nothing ends goes forward
  pub goes_forward : (v : Point) (x : Dart) → IsStart g v → IsOut g v x.edge x.forward → x.forward ≡ true
  goes_forward v x s o = go x.forward refl
    where
      go : (b : Bool) → x.forward ≡ b → b ≡ true
      go true q = refl
      go false q = absurd (s.none_ends x.edge o.in' (subst (λ f. start x.edge f ≡ v) q o.at))

  -- at its left, and around below
  left_open : (v : Point) → IsStart g v → SameFace g (left_top g v) (right_bottom g v)
  left_open v s =
      let a = left_empty g v plane s.vertex (λ f t. s.none_ends f t.in' (level_at g f v plane t.in' s.vertex t.reaches t.on)) in
      let b = bottom_open g v plane s.vertex (λ f F e u. s.none_ends f F e) in
      face_trans g _ _ _ (face_sym g _ _ a) b

  pub start_face : (v : Point) (x : Dart) (o : Option Edge) → IsStart g v → IsFirstOut g v x → IsHighestBelow (Contains g.edges) v o → SameFace g (left_of_dart g x) (cell_over g o)
  start_face v x o s f b =
      let w = goes_forward v x s f.out in
      let at : x.edge.low ≡ v = subst (λ k. start x.edge k ≡ v) w f.out.at in
      let first : (c : Dart) → IsOut g v c.edge c.forward → earlier c (ahead x.edge) ≢ true = λ c C. subst (λ k. earlier c (record { edge = x.edge; forward = k }) ≢ true) w (f.first c C) in
      let t = top_of x.edge f.out.in' (subst (λ u. (c : Dart) → IsOut g u c.edge c.forward → earlier c (ahead x.edge) ≢ true) (sym at) first) in
      let t' : SameFace g (cell_of g x.edge x.forward) (left_top g v) = subst (λ k. SameFace g (cell_of g x.edge k) (left_top g v)) (sym w) (subst (λ u. SameFace g (cell_of g x.edge true) (left_top g u)) at t) in
      face_trans g _ _ _ t' (face_trans g _ _ _ (left_open v s) (corner_face g v o plane s.vertex b))

  pub bare_face : (v : Point) (o : Option Edge) → IsBare g v → IsHighestBelow (Contains g.edges) v o → SameFace g (left_cell g v) (cell_over g o)
  bare_face v o s b = face_trans g _ _ _ (left_open v s.start) (corner_face g v o plane s.start.vertex b)
