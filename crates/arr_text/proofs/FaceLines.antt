-- The bodies of faces by rank are what the text has of each face.
use Rattle.std.proofs.Common.{◌≡◌, ℕ, ◌<◌, Bool, true, false, cond, not, refl, sym, ap, ap₂, ◌∙◌, subst, ◌+◌, List, [], ◌++◌, map, length, get_or, replicate, append_assoc, arith}
use Rattle.std.specs.Prelude.{Some, slice_get, filter, flat_map, ◌==◌, codes}
use Rattle.std.specs.List.{position_or_len}
use Rattle.std.proofs.lemmas.List.{ext_get_or, length-map, length-replicate, get_or-replicate, get_or-map}
use Rattle.plane_graphs.specs.Ascending.{Member}
use Rattle.plane_graphs.proofs.Lists.{not_out}
use Rattle.exact_plane.specs.Point.{Point}
use Rattle.slab_laws.specs.declared.names.FaceId.{FaceId}
use Rattle.slab_laws.specs.declared.slab_cell.SlabCell.{SlabCell}
use Rattle.slab_laws.specs.Faces.{face_labels, face_of, same_cell}
use Rattle.slab_laws.specs.Kinds.{is_outer}
use Rattle.slab_laws.specs.Slabs.{left_cell}
use Rattle.slab_laws.specs.Sound.{skeleton_of}
use Rattle.slab_laws.specs.Subdivision.{Cycle, Bare, Subdivision, subdivision, rank, has_dart, first_cell}
use Rattle.slab_laws.specs.Text.{cycle_line, ended, face_lines, index, number, numbered}
use Rattle.slab_laws.specs.View.{View, Faces, HasBareFace, face_id, point_in, bare_face_in}
use Rattle.slab_laws.specs.FacesSound.{IsSound}
use Rattle.sound_views.specs.Orders.{vertex_order}
use Rattle.sound_views.proofs.IsolatedVertices.{bare_is_bare}
use Rattle.sound_views.proofs.NamesOrdered.{vertices_in_order}
use Rattle.record_orders.specs.declared.vertices.VertexKey.{VertexKey}
use Rattle.record_orders.specs.Keys.{vertex_key, vertex_keys}
use Rattle.record_orders.specs.declared.cycles.CycleKey.{CycleKey}
use Rattle.record_orders.specs.CycleKeys.{same_face, ranked_faces}
use Rattle.slab_faces.proofs.FacesLemmas.{cells_exact}
use Rattle.sound_views.proofs.ListedPlaces.{place_at}
use Rattle.sound_views.proofs.RankedFaces.{faces_apart}
use Rattle.arr_text.specs.Reading.{labels_by}
use Rattle.arr_text.proofs.FaceBodies.{gain, filtered_twice, filtered_between, numbered_bodies}
use Rattle.arr_text.proofs.FaceNames.{keys, model, map_map, cycles_named, outer_same, cycle_rank, bare_rank, vertex_at, faces_counted}

-- ---- what the text has under the line of a face
abbrev some_cycles : Subdivision → Bool → List ℕ → SlabCell → List ℕ
some_cycles s outer letter c = flat_map (cycle_line s.graph letter) (filter (λ x. cond outer x.outer (not x.outer)) (filter (λ x. same_cell x.face c) s.cycles))

abbrev some_bare : Subdivision → SlabCell → List ℕ
some_bare s c = flat_map (λ b. ended (codes "p" ++ number (index s.graph b.point))) (filter (λ b. same_cell b.face c) s.bare)

abbrev under : Subdivision → SlabCell → List ℕ
under s c = some_cycles s true (codes "o") c ++ (some_cycles s false (codes "h") c ++ some_bare s c)

-- the first line of a face
abbrev head : (ℕ → List ℕ) → ℕ → List ℕ
head labels k = ended (codes "f" ++ (number k ++ labels k))

lines_are : (s : Subdivision) (more : SlabCell → List ℕ) (k : ℕ) (c : SlabCell) → face_lines s more (k, c) ≡ ended (codes "f" ++ (number k ++ more c)) ++ under s c
unfolding face_lines
lines_are s more k c = refl

-- three gains, one after the other
three : (x a b c y z w : List ℕ) → x ≡ [] → y ≡ x ++ a → z ≡ y ++ b → w ≡ z ++ c → w ≡ a ++ (b ++ c)
three x a b c y z w e f h k =
    k ∙ ap (λ (t : List ℕ). t ++ c) (h ∙ ap (λ (t : List ℕ). t ++ b) (f ∙ ap (λ (t : List ℕ). t ++ a) e)) ∙ append_assoc a b c

module _ (v : View) (f : Faces) (s : IsSound v f) where
  abbrev sub : Subdivision
  sub = subdivision (skeleton_of v)

  -- the face of a rank
  abbrev face_at : ℕ → SlabCell
  face_at k = get_or sub.faces k first_cell

  abbrev rank_in : List FaceId → FaceId → ℕ
  rank_in ranks a = position_or_len (same_face a) ranks

  -- ---- cycles
  abbrev cycle_gain : Bool → List ℕ → List FaceId → ℕ → List CycleKey → List ℕ
  cycle_gain outer letter ranks k cs = gain (λ (c : CycleKey). cond outer (is_outer c.kind) (not (is_outer c.kind))) (λ (c : CycleKey). rank_in ranks c.face) (λ (c : CycleKey). cycle_line (skeleton_of v) letter (model v f s c)) k cs

  cycles_gain : (outer : Bool) (letter : List ℕ) (cs : List CycleKey) (ranks : List FaceId) (k : ℕ) → cs ≡ keys v f s → ranks ≡ ranked_faces f cs → k < length sub.faces → cycle_gain outer letter ranks k cs ≡ some_cycles sub outer letter (face_at k)
  unfolding subdivision
  cycles_gain outer letter cs ranks k e r l =
      ap₂ (λ (xs : List CycleKey) (fs : List FaceId). cycle_gain outer letter fs k xs) e (r ∙ ap (ranked_faces f) e)
      ∙ sym (filtered_twice (model v f s) (cycle_line (skeleton_of v) letter) (λ x. cond outer x.outer (not x.outer)) (λ x. same_cell x.face (face_at k)) (λ (c : CycleKey). cond outer (is_outer c.kind) (not (is_outer c.kind))) (λ (c : CycleKey). rank_in (ranked_faces f (keys v f s)) c.face == k) (keys v f s)
      (λ c m. ap (λ (b : Bool). cond outer b (not b)) (outer_same v f s c m))
      (λ c m. cycle_rank v f s s.faced.0 s.faced.1 c m k first_cell l))
      ∙ ap (λ (xs : List Cycle). flat_map (cycle_line (skeleton_of v) letter) (filter (λ x. cond outer x.outer (not x.outer)) (filter (λ x. same_cell x.face (face_at k)) xs))) (cycles_named v f s)

  -- ---- vertices without darts
  abbrev bare_line : Point → List ℕ
  bare_line p = ended (codes "p" ++ number (index (skeleton_of v) p))

  abbrev bare_gain : List FaceId → ℕ → List VertexKey → List ℕ
  bare_gain ranks k us = gain (λ (u : VertexKey). not (has_dart (skeleton_of v) u.point)) (λ (u : VertexKey). rank_in ranks (bare_face_in f u.name)) (λ (u : VertexKey). bare_line u.point) k us

  abbrev bare_of : Point → Bare
  bare_of p = record { point = p; face = face_of (face_labels (skeleton_of v)) (left_cell (skeleton_of v) p) }

  points_are : map (λ (u : VertexKey). u.point) (vertex_keys v) ≡ (skeleton_of v).vertices
  points_are = map_map (vertex_key v) (λ (u : VertexKey). u.point) (vertex_order v) ∙ vertices_in_order v s.graph

  bare_ranked : (k : ℕ) → k < length sub.faces → (u : VertexKey) → Member u (vertex_keys v) → not (has_dart (skeleton_of v) u.point) ≡ true → same_cell (bare_of u.point).face (face_at k) ≡ (rank_in (ranked_faces f (keys v f s)) (bare_face_in f u.name) == k)
  bare_ranked k l u m e =
      let at = vertex_at v s.graph (vertex_keys v) u refl m in
      let none : has_dart (skeleton_of v) (point_in v u.name) ≡ false = ap (has_dart (skeleton_of v)) (sym at.1) ∙ not_out (has_dart (skeleton_of v) u.point) e in
      let has : HasBareFace f u.name = (s.complete.bare u.name at.0).1 ((bare_is_bare v u.name s.graph at.0).0 none) in
      ap (λ p. same_cell (bare_of p).face (face_at k)) at.1 ∙ bare_rank v f s s.faced.0 s.faced.1 u.name has k first_cell l

  bares_gain : (us : List VertexKey) (ranks : List FaceId) (k : ℕ) → us ≡ vertex_keys v → ranks ≡ ranked_faces f (keys v f s) → k < length sub.faces → bare_gain ranks k us ≡ some_bare sub (face_at k)
  unfolding subdivision
  bares_gain us ranks k e r l =
      ap₂ (λ (xs : List VertexKey) (fs : List FaceId). bare_gain fs k xs) e r
      ∙ sym (filtered_between (λ (u : VertexKey). u.point) bare_of (λ (b : Bare). bare_line b.point) (λ (p : Point). not (has_dart (skeleton_of v) p)) (λ (b : Bare). same_cell b.face (face_at k)) (λ (u : VertexKey). rank_in (ranked_faces f (keys v f s)) (bare_face_in f u.name) == k) (vertex_keys v) (bare_ranked k l))
      ∙ ap (λ (ps : List Point). flat_map (λ (b : Bare). bare_line b.point) (filter (λ (b : Bare). same_cell b.face (face_at k)) (map bare_of (filter (λ (p : Point). not (has_dart (skeleton_of v) p)) ps)))) points_are

  -- ---- all bodies
  module _ (cs : List CycleKey) (ranks : List FaceId) (us : List VertexKey) (e : cs ≡ keys v f s) (r : ranks ≡ ranked_faces f cs) (h : us ≡ vertex_keys v) where
    as_many : length ranks ≡ length sub.faces
    as_many = ap length (r ∙ ap (ranked_faces f) e) ∙ faces_counted v f s

    -- each body is what the text has under its face
    bodies_are : (none some more all : List (List ℕ)) → none ≡ replicate (length ranks) [] → length some ≡ length none → length more ≡ length some → length all ≡ length more
        → ((k : ℕ) → k < length none → get_or some k [] ≡ get_or none k [] ++ cycle_gain true (codes "o") ranks k cs)
        → ((k : ℕ) → k < length some → get_or more k [] ≡ get_or some k [] ++ cycle_gain false (codes "h") ranks k cs)
        → ((k : ℕ) → k < length more → get_or all k [] ≡ get_or more k [] ++ bare_gain ranks k us) → all ≡ map (under sub) sub.faces
    bodies_are none some more all z l m n p q w =
        let count = ap length z ∙ length-replicate (length ranks) (let x : List ℕ = [] in x) in
        let many = as_many in
        let made = length-map sub.faces (under sub) in
        ext_get_or [] all (map (under sub) sub.faces) (omega arith) (λ k b.
        let here : k < length sub.faces = omega arith in
        three (get_or none k []) (cycle_gain true (codes "o") ranks k cs) (cycle_gain false (codes "h") ranks k cs) (bare_gain ranks k us) (get_or some k []) (get_or more k []) (get_or all k [])
        (ap (λ (ts : List (List ℕ)). get_or ts k []) z ∙ get_or-replicate (length ranks) k [] [] (omega arith)) (p k (omega arith)) (q k (omega arith)) (w k (omega arith))
        ∙ ap₂ (λ (x y : List ℕ). x ++ y) (cycles_gain true (codes "o") cs ranks k e r here) (ap₂ (λ (x y : List ℕ). x ++ y) (cycles_gain false (codes "h") cs ranks k e r here) (bares_gain us ranks k h (r ∙ ap (ranked_faces f) e) here))
        ∙ sym (get_or-map (under sub) sub.faces k first_cell [] here))

    module _ (labels : FaceId → List ℕ) (faces : List FaceId) (q : faces ≡ ranks) where
      -- what follows the rank of the face at a place
      abbrev label_at : ℕ → List ℕ
      label_at k = labels (get_or faces k (face_id 0))

      face_ranked : (k : ℕ) (c : SlabCell) → slice_get sub.faces k ≡ Some c → labels_by v f labels c ≡ label_at k
      unfolding rank
      face_ranked k c t =
          ap (λ (j : ℕ). labels (get_or (ranked_faces f (keys v f s)) j (face_id 0))) (place_at same_cell cells_exact sub.faces k c (faces_apart (skeleton_of v)) t)
          ∙ ap (λ (fs : List FaceId). labels (get_or fs k (face_id 0))) (sym (q ∙ r ∙ ap (ranked_faces f) e))

      head_is : (n k : ℕ) (c : SlabCell) → 0 + k ≡ n → slice_get sub.faces k ≡ Some c → face_lines sub (labels_by v f labels) (n, c) ≡ head label_at n ++ under sub c
      head_is n k c i t =
          let at : slice_get sub.faces n ≡ Some c = subst (λ (j : ℕ). slice_get sub.faces j ≡ Some c) (let z : k ≡ n = omega (arith, i) in z) t in
          lines_are sub (labels_by v f labels) n c ∙ ap (λ (l : List ℕ). ended (codes "f" ++ (number n ++ l)) ++ under sub c) (face_ranked n c at)

      pub face_lines_put : (none some more all : List (List ℕ)) → none ≡ replicate (length ranks) [] → length some ≡ length none → length more ≡ length some → length all ≡ length more
          → ((k : ℕ) → k < length none → get_or some k [] ≡ get_or none k [] ++ cycle_gain true (codes "o") ranks k cs)
          → ((k : ℕ) → k < length some → get_or more k [] ≡ get_or some k [] ++ cycle_gain false (codes "h") ranks k cs)
          → ((k : ℕ) → k < length more → get_or all k [] ≡ get_or more k [] ++ bare_gain ranks k us)
          → flat_map (λ b. ended (codes "f" ++ (number b.0 ++ labels (get_or faces b.0 (face_id 0)))) ++ b.1) (numbered 0 all) ≡ flat_map (face_lines sub (labels_by v f labels)) (numbered 0 sub.faces)
      face_lines_put none some more all z l m n p g w =
          ap (λ (ts : List (List ℕ)). flat_map (λ b. head label_at b.0 ++ b.1) (numbered 0 ts)) (bodies_are none some more all z l m n p g w)
          ∙ numbered_bodies (head label_at) (face_lines sub (labels_by v f labels)) (under sub) 0 sub.faces head_is
