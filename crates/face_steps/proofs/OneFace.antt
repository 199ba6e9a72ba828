-- Where an edge has one cycle on both sides, names tell faces with it exactly where they do without it.
use Rattle.std.proofs.Common.{◌≡◌, ◌≢◌, ◌↔◌, refl, sym, ap, ◌∙◌, subst, inl, inr}
use Rattle.exact_plane.specs.Line.{Line}
use Rattle.plane_graphs.specs.Graph.{Edge}
use Rattle.slab_laws.specs.declared.names.DartId.{DartId}
use Rattle.slab_laws.specs.declared.names.VertexId.{VertexId}
use Rattle.slab_laws.specs.declared.slab_cell.SlabCell.{SlabCell}
use Rattle.slab_laws.specs.Changes.{merged, IsCell}
use Rattle.slab_laws.specs.Cycles.{left_of_dart}
use Rattle.slab_laws.specs.Darts.{Dart}
use Rattle.slab_laws.specs.FacesSound.{lead_in, IsCycled}
use Rattle.slab_laws.specs.Meets.{SameFace}
use Rattle.slab_laws.specs.Slabs.{left_cell}
use Rattle.slab_laws.specs.Sound.{skeleton_of, dart_in}
use Rattle.slab_laws.specs.View.{View, Faces, HasVertex, HasDart, point_in, face_in, source_in, next_in}
use Rattle.slab_faces.proofs.Turns.{face_at, face_trans, face_sym}
use Rattle.arr_notes.proofs.Names.{cases_vertex}
use Rattle.rotation_order.specs.VertexRings.{IsBare}
use Rattle.sound_changes.proofs.RingsKept.{source_old}
use Rattle.face_changes.specs.OneMoreEdge.{LiesIn}
use Rattle.face_changes.specs.FacesByPairs.{Item, outside, beside, round, HasItem, first_or, AreFacesTold}
use Rattle.face_changes.proofs.OneMoreEdge.{one_kind_each, sides_of_one_more_edge}
use Rattle.face_changes.proofs.CycleNames.{lead_step}
use Rattle.face_steps.specs.EdgePairs.{IsEdgeApart}
use Rattle.face_steps.specs.OneFace.{AreFacesKept, OneFaceOnBothSides}
use Rattle.face_steps.proofs.Alike.{IsLike, faces_follow, faces_followed}
use Rattle.face_steps.proofs.EdgePairs.{turned_round, up, sorted, twins, vertex_above, vertex_below, bare_below, has_start, is_more, start_cases, old_lies, vertex_lies, first_lies, real_first, bare_start, lead_second}

-- ---- a new dart and what it is beside: e is the edge of x
module _ (v w : View) (f s : Faces) (x y : DartId) (p q : VertexId) (l : Line) (m : IsEdgeApart v w x y p q l) (cy : IsCycled w s) (k : AreFacesKept v w f s x y p q) (e : Edge) (at : (dart_in w x).edge ≡ e) (law : (c d : SlabCell) → IsCell (skeleton_of v) e c → IsCell (skeleton_of v) e d → SameFace (skeleton_of w) c d ↔ SameFace (skeleton_of v) (merged (skeleton_of v) e c) (merged (skeleton_of v) e d)) where
  abbrev Like : Item → Item → Type 0
  Like i j = IsLike v w f s (merged (skeleton_of v) e) (IsCell (skeleton_of v) e) i j

  lies_dart : (a : DartId) → HasDart v a → LiesIn (skeleton_of v) (skeleton_of w) e (left_of_dart (skeleton_of w) (dart_in w a)) (left_of_dart (skeleton_of v) (dart_in v a))
  lies_dart a o = subst (λ e. LiesIn (skeleton_of v) (skeleton_of w) e (left_of_dart (skeleton_of w) (dart_in w a)) (left_of_dart (skeleton_of v) (dart_in v a))) at (old_lies v w x y p q l m a o)

  lies_vertex : (u : VertexId) → HasVertex v u → LiesIn (skeleton_of v) (skeleton_of w) e (left_cell (skeleton_of w) (point_in w u)) (left_cell (skeleton_of v) (point_in v u))
  lies_vertex u o = subst (λ e. LiesIn (skeleton_of v) (skeleton_of w) e (left_cell (skeleton_of w) (point_in w u)) (left_cell (skeleton_of v) (point_in v u))) at (vertex_lies v w x y p q l m u o)

  real_new : IsCell (skeleton_of v) e (left_of_dart (skeleton_of w) (dart_in w x))
  real_new = subst (λ e. IsCell (skeleton_of v) e (left_of_dart (skeleton_of w) (dart_in w x))) at (real_first v w x y p q l m)

  -- x beside the vertex that it leaves, where this was bare
  at_bare : IsBare v p → Like (round p) (beside x)
  at_bare none =
      let P = has_start v w x y p q l m in
      let z = lies_vertex p P in
      record {
        has = (P, none);
        has_more = m.more.first;
        real = real_new;
        same = face_sym _ _ _ (face_trans _ _ _ _ ((law _ _ real_new z.real).0 (bare_start v w x y p q l m none)) (face_at _ _ _ z.in'));
        name = sym (k.start none);
      }

  -- x beside the dart that it comes after
  at_place : (a : DartId) → HasDart v a → next_in w a ≡ x → Like (beside a) (beside x)
  at_place a o n =
      let A = up v w x y p q l m a o in
      let z = lies_dart a o in
      let t : lead_in w a ≡ lead_in w x = lead_step w m.sound_more a A ∙ ap (lead_in w) n in
      let one = one_kind_each.face (skeleton_of w) (dart_in w a) (dart_in w x) m.sound_more.plane t in
      record {
        has = o;
        has_more = m.more.first;
        real = real_new;
        same = face_trans _ _ _ _ (face_sym _ _ _ (face_at _ _ _ z.in')) ((law _ _ z.real real_new).0 one);
        name = sym (k.beside a o) ∙ ap (face_in s) ((cy.orbits a x A m.more.first).1 t);
      }

  new_like : (i : Item) × Like i (beside x)
  new_like = elim (start_cases v w x y p q l m) [
    | inl none ↦ (round p, at_bare none)
    | inr a ↦ (beside a.0, at_place a.0 a.1 a.2)
  ]

  old_dart : (a : DartId) → HasDart v a → Like (beside a) (beside a)
  old_dart a o =
      let z = lies_dart a o in
      record { has = o; has_more = up v w x y p q l m a o; real = z.real; same = face_sym _ _ _ (face_at _ _ _ z.in'); name = sym (k.beside a o) }

  old_vertex : (u : VertexId) → HasVertex v u → IsBare w u → Like (round u) (round u)
  old_vertex u o none =
      let z = lies_vertex u o in
      let U = vertex_above v w x y p q l m u o in
      record { has = (o, bare_below v w x y p q l m u none); has_more = (U, none); real = z.real; same = face_sym _ _ _ (face_at _ _ _ z.in'); name = sym (k.round u U none) }

-- the same, seen from the other end
turned_kept : (v w : View) (f s : Faces) (x y : DartId) (p q : VertexId) → AreFacesKept v w f s x y p q → AreFacesKept v w f s y x q p
turned_kept v w f s x y p q k = record { faces = k.faces; beside = k.beside; round = k.round; start = k.end; end = k.start }

module _ (v w : View) (f s : Faces) (x y : DartId) (p q : VertexId) (l : Line) (m : IsEdgeApart v w x y p q l) (one : lead_in w x ≡ lead_in w y) (cy : IsCycled w s) (k : AreFacesKept v w f s x y p q) where
  abbrev e : Edge
  e = (dart_in w x).edge

  abbrev Alike : Item → Item → Type 0
  Alike i j = IsLike v w f s (merged (skeleton_of v) (dart_in w x).edge) (IsCell (skeleton_of v) (dart_in w x).edge) i j

  law : (c d : SlabCell) → IsCell (skeleton_of v) (dart_in w x).edge c → IsCell (skeleton_of v) (dart_in w x).edge d → SameFace (skeleton_of w) c d ↔ SameFace (skeleton_of v) (merged (skeleton_of v) (dart_in w x).edge c) (merged (skeleton_of v) (dart_in w x).edge d)
  law c d C D = sides_of_one_more_edge.one (skeleton_of v) (skeleton_of w) (dart_in w x) c d _ _ (is_more v w x y p q l m) (one ∙ lead_second v w x y p q l m) (record { real = C; in' = refl }) (record { real = D; in' = refl })

  back : IsEdgeApart v w y x q p l
  back = turned_round v w x y p q l m

  at_back : (dart_in w y).edge ≡ (dart_in w x).edge
  at_back = ap (λ (z : Dart). z.edge) (twins v w x y p q l m)

  kept_back : AreFacesKept v w f s y x q p
  kept_back = turned_kept v w f s x y p q k

  to : (j : Item) → HasItem w j → (i : Item) × Alike i j
  to outside t =
      let z = first_lies v w x y p q l m in
      (outside, record { has = tt; has_more = tt; real = z.real; same = face_sym _ _ _ (face_at _ _ _ z.in'); name = ap first_or (sym k.faces) })
  to (beside a) t = elim (sorted v w x y p q l m a t) [
    | inl o ↦ (beside a, old_dart v w f s x y p q l m cy k e refl law a o)
    | inr n ↦ elim n [
      | inl z ↦ subst (λ b. (i : Item) × Alike i (beside b)) (sym z) (new_like v w f s x y p q l m cy k e refl law)
      | inr z ↦ subst (λ b. (i : Item) × Alike i (beside b)) (sym z) (new_like v w f s y x q p l back cy kept_back e at_back law)
    ]
  ]
  to (round u) t = (round u, old_vertex v w f s x y p q l m cy k e refl law u (vertex_below v w x y p q l m u t.0) t.1)

  from : (i : Item) → HasItem v i → (j : Item) × Alike i j
  unfolding to
  from outside t = (outside, (to outside tt).1)
  from (beside a) o = (beside a, old_dart v w f s x y p q l m cy k e refl law a o)
  from (round u) t = elim (cases_vertex u p) [
    | inl z ↦ (beside x, subst (λ b. Alike (round b) (beside x)) (sym z) (at_bare v w f s x y p q l m cy k e refl law (subst (IsBare v) z t.1)))
    | inr n ↦ elim (cases_vertex u q) [
      | inl z ↦ (beside y, subst (λ b. Alike (round b) (beside y)) (sym z) (at_bare v w f s y x q p l back cy kept_back e at_back law (subst (IsBare v) z t.1)))
      | inr n' ↦ (round u, old_vertex v w f s x y p q l m cy k e refl law u t.0 (still u t.1 n n'))
    ]
  ]
    where
      still : (u : VertexId) → IsBare v u → u ≢ p → u ≢ q → IsBare w u
      still u none n n' a o = elim (sorted v w x y p q l m a o.0) [
        | inl z ↦ none a (z, sym (source_old v w x y p q l m.more a z) ∙ o.1)
        | inr r ↦ elim r [
          | inl z ↦ n (sym o.1 ∙ ap (λ b. source_in w b) z ∙ m.more.source_first)
          | inr z ↦ n' (sym o.1 ∙ ap (λ b. source_in w b) z ∙ m.more.source_second)
        ]
      ]

  told : AreFacesTold v f ↔ AreFacesTold w s
  told = (
    faces_follow v w f s (merged (skeleton_of v) (dart_in w x).edge) (IsCell (skeleton_of v) (dart_in w x).edge) law k.faces to from,
    faces_followed v w f s (merged (skeleton_of v) (dart_in w x).edge) (IsCell (skeleton_of v) (dart_in w x).edge) law k.faces to from,
  )

pub one_face_on_both_sides : OneFaceOnBothSides
one_face_on_both_sides v w f s x y p q l m one cy k = told v w f s x y p q l m one cy k
