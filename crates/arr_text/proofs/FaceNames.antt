-- Cycles and faces by name are those of the plane graph, place by place.
use Rattle.std.proofs.Common.{◌≡◌, ℕ, suc, ◌+◌, ◌<◌, Bool, true, false, cond, not, refl, sym, ap, ap₂, ◌∙◌, subst, inl, inr, List, [], ◌∷◌, ◌++◌, map, length, get_or, Some, None, Option, is_some, arith}
use Rattle.std.specs.Prelude.{filter, ◌==◌, Contains, slice_get, IfSome, IfNone}
use Rattle.std.specs.List.{position_or_len, flat_map, range_with_len}
use Rattle.std.specs.Option.{option_map}
use Rattle.std.proofs.lemmas.Bool.{eqb-true, eq-eqb, false≢true, true_from_ne_false}
use Rattle.std.proofs.lemmas.List.{length-map}
use Rattle.std.proofs.lemmas.List.Elements.{Contains-get_or}
use Rattle.std.proofs.lemmas.Option.{slice_get-get_or}
use Rattle.plane_graphs.specs.Ascending.{Member}
use Rattle.plane_graphs.proofs.Ascending.{to_member, from_member, All-member}
use Rattle.plane_graphs.proofs.Lists.{both_ways, in_map, of_map, of_filter, in_left}
use Rattle.slab_laws.specs.declared.names.CycleKind.{CycleKind}
use Rattle.slab_laws.specs.declared.names.CycleKind.TheVariants.{Outer, Inner}
use Rattle.slab_laws.specs.declared.names.DartId.{DartId}
use Rattle.slab_laws.specs.declared.names.FaceId.{FaceId}
use Rattle.slab_laws.specs.declared.names.VertexId.{VertexId}
use Rattle.slab_laws.specs.declared.slab_cell.SlabCell.{SlabCell}
use Rattle.slab_laws.specs.Cycles.{trail, dart_labels, odd, left_of_dart}
use Rattle.slab_laws.specs.Darts.{Dart, darts, source}
use Rattle.slab_laws.specs.Faces.{face_labels, face_of, same_cell, cells, slab_cells}
use Rattle.slab_laws.specs.Kinds.{is_outer}
use Rattle.slab_laws.specs.Listed.{distinct}
use Rattle.slab_laws.specs.Rows.{lead_list}
use Rattle.slab_laws.specs.Skeleton.{Skeleton, IsPlaneSkeleton}
use Rattle.slab_laws.specs.Rotation.{same_dart}
use Rattle.slab_laws.specs.Slabs.{width}
use Rattle.slab_laws.specs.Sound.{skeleton_of, dart_in, IsGraphSound}
use Rattle.slab_laws.specs.FacesSound.{lead_in, face_round, IsSound, IsFaced}
use Rattle.slab_laws.specs.Subdivision.{Cycle, cycle, subdivision, first_cell, has_dart}
use Rattle.slab_laws.specs.Tables.{NamesAscend, name_after}
use Rattle.slab_laws.specs.Text.{cycle_line, ended, index, number}
use Rattle.slab_laws.specs.View.{View, Faces, HasVertex, HasDart, HasFace, HasBareFace, IsOutOf, face_id, point_in, cycle_in, kind_in, bare_face_in, face_after_in}
use Rattle.slab_faces.proofs.FacesLemmas.{cells_exact}
use Rattle.slab_faces.proofs.NextLemmas.{darts_exact}
use Rattle.slab_faces.proofs.Member.{Member as In, in_member}
use Rattle.sound_views.proofs.ListedDarts.{listed_lead}
use Rattle.sound_views.proofs.ListedPlaces.{at_place, place_at, place_within, from_in}
use Rattle.sound_views.proofs.RankedFaces.{cycle_of, cycles_are, outer_is, face_is, faces_apart, dart_face, vertex_face}
use Rattle.sound_views.specs.Orders.{vertex_order, dart_order}
use Rattle.sound_views.proofs.IsolatedVertices.{bare_is_bare}
use Rattle.sound_views.proofs.NamedDarts.{names_are_darts}
use Rattle.sound_views.proofs.NamesOrdered.{vertices_in_order, vertices_are_ordered, darts_in_order, ordered_dart}
use Rattle.sound_views.specs.FaceOrderLaws.{same_cycle as on_one_cycle}
use Rattle.sound_views.proofs.CycleDartOrder.{all_are_listed}
use Rattle.sound_views.proofs.FirstDarts.{of_distinct}
use Rattle.sound_views.proofs.CycleLeads.{leads_are_first}
use Rattle.sound_views.proofs.OuterFaces.{faces_are_ranked}
use Rattle.record_orders.specs.declared.vertices.VertexKey.{VertexKey}
use Rattle.record_orders.specs.Keys.{vertex_key, vertex_keys}
use Rattle.record_orders.specs.declared.cycles.CycleKey.{CycleKey}
use Rattle.record_orders.specs.CycleKeys.{same_cycle, cycle_key, cycle_keys, same_face, first_faces, ranked_faces}

-- ---- lists of what is made of the elements
module _ {X Y : Type 0} (make : X → Y) where
  mapped_filter : (p : X → Bool) (q : Y → Bool) (xs : List X) → ((x : X) → Member x xs → p x ≡ q (make x)) → map make (filter p xs) ≡ filter q (map make xs)
  mapped_filter p q [] h = refl
  mapped_filter p q (x ∷ xs) h = step (p x) (h x (inl refl)) (mapped_filter p q xs (λ y m. h y (inr m)))
    where
      step : (b : Bool) → b ≡ q (make x) → map make (filter p xs) ≡ filter q (map make xs) → map make (cond b (x ∷ filter p xs) (filter p xs)) ≡ cond (q (make x)) (make x ∷ filter q (map make xs)) (filter q (map make xs))
      step true e r = rw (sym e) (ap (λ (ys : List Y). make x ∷ ys) r)
      step false e r = rw (sym e) r

  -- the first of each kind, where kinds are told apart alike
  pub mapped_distinct : (s : X → X → Bool) (t : Y → Y → Bool) (xs : List X) → ((x y : X) → Member x xs → Member y xs → s x y ≡ t (make x) (make y)) → map make (distinct s xs) ≡ distinct t (map make xs)
  unfolding distinct
  mapped_distinct s t [] h = refl
  mapped_distinct s t (x ∷ xs) h =
      ap (λ (ys : List Y). make x ∷ ys)
      (mapped_filter (λ y. not (s x y)) (λ z. not (t (make x) z)) (distinct s xs) (λ y m. ap not (h x y (inl refl) (inr (of_distinct s y xs m))))
      ∙ ap (filter (λ z. not (t (make x) z))) (mapped_distinct s t xs (λ y z m n. h y z (inr m) (inr n))))

  pub map_map : {Z : Type 0} (then : Y → Z) (xs : List X) → map then (map make xs) ≡ map (λ x. then (make x)) xs
  map_map then [] = refl
  map_map {Z} then (x ∷ xs) = ap (λ (zs : List Z). then (make x) ∷ zs) (map_map then xs)

  mapped_place : (p : X → Bool) (q : Y → Bool) (xs : List X) → ((x : X) → Member x xs → p x ≡ q (make x)) → position_or_len p xs ≡ position_or_len q (map make xs)
  mapped_place p q [] h = refl
  mapped_place p q (x ∷ xs) h = ap₂ (λ (b : Bool) (n : ℕ). cond (not b) (1 + n) 0) (h x (inl refl)) (mapped_place p q xs (λ y m. h y (inr m)))

-- what the kept elements have, by their makes
kept_values : {X Y Z W : Type 0} (make : X → Y) (p : X → Bool) (q : Y → Bool) (value : X → Z) (of : Y → W) (cell : Z → W) (xs : List X) → ((x : X) → Member x xs → p x ≡ q (make x)) → ((x : X) → Member x xs → cell (value x) ≡ of (make x))
    → map cell (map value (filter p xs)) ≡ map of (filter q (map make xs))
kept_values make p q value of cell [] h k = refl
kept_values {X} {Y} {Z} {W} make p q value of cell (x ∷ xs) h k = step (p x) (h x (inl refl)) (k x (inl refl)) (kept_values make p q value of cell xs (λ y m. h y (inr m)) (λ y m. k y (inr m)))
  where
    step : (b : Bool) → b ≡ q (make x) → cell (value x) ≡ of (make x) → map cell (map value (filter p xs)) ≡ map of (filter q (map make xs))
        → map cell (map value (cond b (x ∷ filter p xs) (filter p xs))) ≡ map of (cond (q (make x)) (make x ∷ filter q (map make xs)) (filter q (map make xs)))
    step true e f r = rw (sym e) (ap₂ (λ (w : W) (ws : List W). w ∷ ws) f r)
    step false e f r = rw (sym e) r

-- ---- the first face
-- of names that ascend the first is the least
least_name : (ns : List ℕ) → NamesAscend ns → (n : ℕ) → Member n ns → (a : FaceId) × (option_map face_id (name_after ns None) ≡ Some a) × Contains ns a.0 × ((b : FaceId) → Contains ns b.0 → b.0 < a.0 → ⊥)
unfolding name_after
least_name [] h n m = absurd m
least_name (n ∷ ns) h k m = (face_id n, refl, from_member (n ∷ ns) n (inl refl), λ b c l. none b.0 (to_member (n ∷ ns) b.0 c) l)
  where
    none : (b : ℕ) → Member b (n ∷ ns) → b < n → ⊥
    none b (inl e) l = absurd (omega arith)
    none b (inr i) l = let more : n < b = All-member (λ m. n < m) b ns h.0 i in absurd (omega arith)

-- the first cell is a cell
first_there : (g : Skeleton) → Contains (cells g) first_cell
unfolding cells slab_cells
first_there g = from_member (cells g) first_cell (in_left first_cell (slab_cells g 0) _ (in_map (λ (j : ℕ). record { slab = 0; place = j }) 0 (range_with_len 0 (suc (width g 0))) (inl refl)))

-- ---- cycles
module _ (v : View) (f : Faces) (s : IsSound v f) where
  abbrev plane : IsPlaneSkeleton (skeleton_of v)
  plane = s.graph.plane

  -- the cycle with its least dart
  abbrev pub model : CycleKey → Cycle
  model c = cycle_of (skeleton_of v) (dart_in v c.lead)

  -- the cycles by their least darts
  abbrev pub keys : List CycleKey
  keys = cycle_keys f (dart_order v)

  by_number : (d e : DartId) → (cycle_in f d).0 ≡ (cycle_in f e).0 → cycle_in f d ≡ cycle_in f e
  by_number d e h = λ i. record { 0 = h i }

  -- names are on one cycle exactly where their darts are
  same_cycles : (d e : DartId) → HasDart v d → HasDart v e → same_cycle f d e ≡ on_one_cycle (skeleton_of v) (dart_in v d) (dart_in v e)
  same_cycles d e hd he =
      both_ways (same_cycle f d e) (on_one_cycle (skeleton_of v) (dart_in v d) (dart_in v e))
      (λ t. subst (λ (h : Dart). same_dart (lead_in v d) h ≡ true) ((s.cycled.orbits d e hd he).0 (by_number d e (eqb-true (cycle_in f d).0 (cycle_in f e).0 t))) (darts_exact.itself (lead_in v d)))
      (λ t. eq-eqb (cycle_in f d).0 (cycle_in f e).0 (ap (λ c. c.0) ((s.cycled.orbits d e hd he).1 (darts_exact.path (lead_in v d) (lead_in v e) t))))

  abbrev first_darts : List DartId
  first_darts = distinct (same_cycle f) (dart_order v)

  leads_named : map (dart_in v) first_darts ≡ lead_list (skeleton_of v)
  leads_named =
      mapped_distinct (dart_in v) (same_cycle f) (on_one_cycle (skeleton_of v)) (dart_order v) (λ d e m n. same_cycles d e (ordered_dart v s.graph d m) (ordered_dart v s.graph e n))
      ∙ ap (distinct (on_one_cycle (skeleton_of v))) (darts_in_order v s.graph)
      ∙ leads_are_first (skeleton_of v) plane

  pub cycles_named : map model keys ≡ (subdivision (skeleton_of v)).cycles
  cycles_named =
      map_map (cycle_key f) model first_darts
      ∙ sym (map_map (dart_in v) (cycle_of (skeleton_of v)) first_darts)
      ∙ ap (map (cycle_of (skeleton_of v))) leads_named
      ∙ sym (cycles_are (skeleton_of v))

  -- what a key is
  key_of : (c : CycleKey) → Member c keys → (d : DartId) × HasDart v d × (lead_in v d ≡ dart_in v d) × (c ≡ cycle_key f d)
  key_of c m =
      let r = of_map (cycle_key f) c first_darts m in
      let l = subst (λ hs. Member (dart_in v r.0) hs) leads_named (in_map (dart_in v) r.0 first_darts r.1) in
      (r.0, ordered_dart v s.graph r.0 (of_distinct (same_cycle f) r.0 (dart_order v) r.1), (listed_lead (skeleton_of v) plane (dart_in v r.0) (from_in (lead_list (skeleton_of v)) (dart_in v r.0) l)).1, r.2)

  pub key_has : (c : CycleKey) → Member c keys → HasDart v c.lead
  key_has c m = let k = key_of c m in subst (λ (x : CycleKey). HasDart v x.lead) (sym k.3) k.1

  pub key_at : (cs : List CycleKey) (i : ℕ) (d : CycleKey) → cs ≡ keys → i < length cs → Member (get_or cs i d) keys
  key_at cs i d e l = subst (Member (get_or cs i d)) e (to_member cs (get_or cs i d) (Contains-get_or cs i d l))

  outer_kind : (k : CycleKind) → (is_outer k ≡ true → k ≡ Outer) × (k ≡ Outer → is_outer k ≡ true)
  outer_kind Outer = (λ e. refl, λ e. refl)
  outer_kind Inner = (λ e. absurd (false≢true e), λ e. ap is_outer e)

  pub outer_same : (c : CycleKey) → Member c keys → (model c).outer ≡ is_outer c.kind
  outer_same c m = let k = key_of c m in subst (λ (x : CycleKey). (model x).outer ≡ is_outer x.kind) (sym k.3) (at k.0 k.1 k.2)
    where
      at : (d : DartId) → HasDart v d → lead_in v d ≡ dart_in v d → (cycle_of (skeleton_of v) (dart_in v d)).outer ≡ is_outer (kind_in f (cycle_in f d))
      at d has own =
          let parity = λ (h : Dart). odd (skeleton_of v) (dart_labels (darts (skeleton_of v))) h (left_of_dart (skeleton_of v) h) in
          let kind = s.cycled.kind d has in
          outer_is (skeleton_of v) (dart_in v d)
          ∙ both_ways (parity (dart_in v d)) (is_outer (kind_in f (cycle_in f d)))
          (λ t. (outer_kind (kind_in f (cycle_in f d))).1 (kind.1 (ap parity own ∙ t)))
          (λ t. ap parity (sym own) ∙ kind.0 ((outer_kind (kind_in f (cycle_in f d))).0 t))

  -- ---- faces
  module _ (cell : FaceId → SlabCell) (by : IsFaced v f cell) where
    pub face_same : (c : CycleKey) → Member c keys → cell c.face ≡ (model c).face
    face_same c m =
        let k = key_of c m in
        subst (λ (x : CycleKey). cell x.face ≡ (model x).face) (sym k.3) (by.darts k.0 k.1 ∙ sym (face_is (skeleton_of v) (dart_in v k.0)))

    pub key_face : (c : CycleKey) → Member c keys → HasFace f c.face
    key_face c m = let k = key_of c m in subst (λ (x : CycleKey). HasFace f x.face) (sym k.3) (s.complete.face_has (cycle_in f k.0) (s.complete.cycle_has k.0 k.1))

    -- the faces before repeats go
    abbrev met : List FaceId
    met = first_faces (face_after_in f None) ++ map (λ c. c.face) (filter (λ c. is_outer c.kind) keys)

    pub first_face : (a : FaceId) × (face_after_in f None ≡ Some a) × HasFace f a × (cell a ≡ face_of (face_labels (skeleton_of v)) first_cell)
    first_face =
        let some = by.all first_cell (first_there (skeleton_of v)) in
        let least = least_name f.faces s.complete.faces_ascend some.0.0 (to_member f.faces some.0.0 some.1) in
        (least.0, least.1, least.2, (by.unbounded least.0 least.2 least.3).0)

    firsts : first_faces (face_after_in f None) ≡ first_face.0 ∷ []
    firsts = ap first_faces first_face.1

    met_has : (a : FaceId) → Member a met → HasFace f a
    met_has a m = at (subst (λ fs. Member a (fs ++ map (λ c. c.face) (filter (λ c. is_outer c.kind) keys))) firsts m)
      where
        at : Member a (first_face.0 ∷ map (λ c. c.face) (filter (λ c. is_outer c.kind) keys)) → HasFace f a
        at (inl e) = subst (HasFace f) (sym e) first_face.2
        at (inr n) =
            let r = of_map (λ (c : CycleKey). c.face) a (filter (λ c. is_outer c.kind) keys) n in
            subst (HasFace f) (sym r.2) (key_face r.0 (of_filter (λ (c : CycleKey). is_outer c.kind) r.0 keys r.1).0)

    pub ranked_face : (a : FaceId) → Member a (ranked_faces f keys) → HasFace f a
    ranked_face a m = met_has a (of_distinct same_face a met m)

    pub ranked_has : (ranks : List FaceId) → ranks ≡ ranked_faces f keys → (k : ℕ) (d : FaceId) → k < length ranks → HasFace f (get_or ranks k d)
    ranked_has ranks r k d l = ranked_face (get_or ranks k d) (subst (Member (get_or ranks k d)) r (to_member ranks (get_or ranks k d) (Contains-get_or ranks k d l)))

    cells_met : map cell met ≡ face_of (face_labels (skeleton_of v)) first_cell ∷ map (λ c. c.face) (filter (λ c. c.outer) (subdivision (skeleton_of v)).cycles)
    cells_met =
        ap (λ fs. map cell (fs ++ map (λ c. c.face) (filter (λ c. is_outer c.kind) keys))) firsts
        ∙ ap₂ (λ (x : SlabCell) (xs : List SlabCell). x ∷ xs) first_face.3
        (kept_values model (λ (c : CycleKey). is_outer c.kind) (λ (c : Cycle). c.outer) (λ (c : CycleKey). c.face) (λ (c : Cycle). c.face) cell keys (λ c m. sym (outer_same c m)) face_same
        ∙ ap (λ cs. map (λ (c : Cycle). c.face) (filter (λ c. c.outer) cs)) cycles_named)

    face_by_number : (a b : FaceId) → a.0 ≡ b.0 → a ≡ b
    face_by_number a b h = λ i. record { 0 = h i }

    -- names are one face's exactly where their cells are
    pub same_faces : (a b : FaceId) → HasFace f a → HasFace f b → same_face a b ≡ same_cell (cell a) (cell b)
    same_faces a b ha hb =
        both_ways (same_face a b) (same_cell (cell a) (cell b))
        (λ t. subst (λ x. same_cell (cell a) (cell x) ≡ true) (face_by_number a b (eqb-true a.0 b.0 t)) (cells_exact.itself (cell a)))
        (λ t. eq-eqb a.0 b.0 (ap (λ (x : FaceId). x.0) (by.differ a b ha hb (cells_exact.path (cell a) (cell b) t))))

    pub faces_named : map cell (ranked_faces f keys) ≡ (subdivision (skeleton_of v)).faces
    faces_named =
        mapped_distinct cell same_face same_cell met (λ a b m n. same_faces a b (met_has a m) (met_has b n))
        ∙ ap (distinct same_cell) cells_met
        ∙ sym (faces_are_ranked (skeleton_of v) plane)

    -- ---- ranks
    place_named : (a : FaceId) → HasFace f a → position_or_len (same_face a) (ranked_faces f keys) ≡ position_or_len (same_cell (cell a)) (subdivision (skeleton_of v)).faces
    place_named a has =
        mapped_place cell (same_face a) (same_cell (cell a)) (ranked_faces f keys) (λ b m. same_faces a b has (met_has b (of_distinct same_face b met m)))
        ∙ ap (position_or_len (same_cell (cell a))) faces_named

    -- a face that is met has the rank of its cell
    ranked_there : (a : FaceId) → HasFace f a → In (subdivision (skeleton_of v)).faces (cell a) → position_or_len (same_face a) (ranked_faces f keys) < length (ranked_faces f keys)
    ranked_there a has m =
        let l = place_within same_cell cells_exact (subdivision (skeleton_of v)).faces (cell a) m in
        let p = place_named a has in
        let n = ap length faces_named in
        let t = length-map (ranked_faces f keys) cell in
        omega arith

    rank_is : (a : FaceId) → HasFace f a → In (subdivision (skeleton_of v)).faces (cell a) → (k : ℕ) (d : SlabCell) → k < length (subdivision (skeleton_of v)).faces
        → same_cell (cell a) (get_or (subdivision (skeleton_of v)).faces k d) ≡ (position_or_len (same_face a) (ranked_faces f keys) == k)
    rank_is a has m k d l =
        let fs = (subdivision (skeleton_of v)).faces in
        let at = slice_get-get_or fs k d l in
        both_ways (same_cell (cell a) (get_or fs k d)) (position_or_len (same_face a) (ranked_faces f keys) == k)
        (λ t. eq-eqb (position_or_len (same_face a) (ranked_faces f keys)) k
        (place_named a has ∙ place_at same_cell cells_exact fs k (cell a) (faces_apart (skeleton_of v)) (at ∙ ap Some (sym (cells_exact.path (cell a) (get_or fs k d) t)))))
        (λ t.
        let here : position_or_len (same_cell (cell a)) fs ≡ k = sym (place_named a has) ∙ eqb-true (position_or_len (same_face a) (ranked_faces f keys)) k t in
        let there : Some (cell a) ≡ Some (get_or fs k d) = sym (at_place same_cell cells_exact fs (cell a) m) ∙ ap (slice_get fs) here ∙ at in
        let one : cell a ≡ get_or fs k d = cc in
        subst (λ x. same_cell (cell a) x ≡ true) one (cells_exact.itself (cell a)))

    key_there : (c : CycleKey) → Member c keys → In (subdivision (skeleton_of v)).faces (cell c.face)
    key_there c m =
        let k = key_of c m in
        subst (λ (x : CycleKey). In (subdivision (skeleton_of v)).faces (cell x.face)) (sym k.3)
        (subst (In (subdivision (skeleton_of v)).faces) (sym (by.darts k.0 k.1)) (dart_face (skeleton_of v) plane (dart_in v k.0) (in_member (darts (skeleton_of v)) (dart_in v k.0) (names_are_darts.known v k.0 s.graph k.1))))

    bare_there : (w : VertexId) → HasBareFace f w → In (subdivision (skeleton_of v)).faces (cell (bare_face_in f w))
    bare_there w has =
        subst (In (subdivision (skeleton_of v)).faces) (sym (by.bare w has))
        (vertex_face (skeleton_of v) plane (point_in v w) (from_in (skeleton_of v).vertices (point_in v w)
        (subst (Member (point_in v w)) (vertices_in_order v s.graph) (in_map (point_in v) w (vertex_order v) (to_member (vertex_order v) w ((vertices_are_ordered v w s.graph).0 (s.complete.bare_vertex w has)))))))

    pub cycle_within : (c : CycleKey) → Member c keys → position_or_len (same_face c.face) (ranked_faces f keys) < length (ranked_faces f keys)
    cycle_within c m = ranked_there c.face (key_face c m) (key_there c m)

    pub bare_within : (w : VertexId) → HasBareFace f w → position_or_len (same_face (bare_face_in f w)) (ranked_faces f keys) < length (ranked_faces f keys)
    bare_within w has = ranked_there (bare_face_in f w) (s.complete.bare_has w has) (bare_there w has)

    pub cycle_rank : (c : CycleKey) → Member c keys → (k : ℕ) (d : SlabCell) → k < length (subdivision (skeleton_of v)).faces → same_cell (model c).face (get_or (subdivision (skeleton_of v)).faces k d) ≡ (position_or_len (same_face c.face) (ranked_faces f keys) == k)
    cycle_rank c m k d l = ap (λ x. same_cell x (get_or (subdivision (skeleton_of v)).faces k d)) (sym (face_same c m)) ∙ rank_is c.face (key_face c m) (key_there c m) k d l

    pub bare_rank : (w : VertexId) → HasBareFace f w → (k : ℕ) (d : SlabCell) → k < length (subdivision (skeleton_of v)).faces → same_cell (face_round v w) (get_or (subdivision (skeleton_of v)).faces k d) ≡ (position_or_len (same_face (bare_face_in f w)) (ranked_faces f keys) == k)
    bare_rank w has k d l = ap (λ x. same_cell x (get_or (subdivision (skeleton_of v)).faces k d)) (sym (by.bare w has)) ∙ rank_is (bare_face_in f w) (s.complete.bare_has w has) (bare_there w has) k d l

-- as many faces by name as there are
pub faces_counted : (v : View) (f : Faces) → IsSound v f → length (ranked_faces f (cycle_keys f (dart_order v))) ≡ length (subdivision (skeleton_of v)).faces
faces_counted v f s =
    let n = ap length (faces_named v f s s.faced.0 s.faced.1) in
    let t = length-map (ranked_faces f (cycle_keys f (dart_order v))) s.faced.0 in
    omega arith

-- as many darts by name as there are
pub darts_counted : (v : View) → IsGraphSound v → length (dart_order v) ≡ length (darts (skeleton_of v))
darts_counted v s =
    let a = length-map (dart_order v) (dart_in v) in
    let b = ap length (darts_in_order v s) in
    let c = all_are_listed (skeleton_of v) s.plane in
    omega arith

-- the line of a cycle, by the trail of one of its darts
pub trail_line : (v : View) → IsGraphSound v → (d : DartId) (n : ℕ) (letter : List ℕ) → n ≡ length (dart_order v)
    → ended (letter ++ flat_map (λ h. number (index (skeleton_of v) (source h))) (trail (darts (skeleton_of v)) n (dart_in v d) (dart_in v d))) ≡ cycle_line (skeleton_of v) letter (cycle_of (skeleton_of v) (dart_in v d))
unfolding cycle_line cycle
trail_line v s d n letter e = ap (λ (m : ℕ). ended (letter ++ flat_map (λ h. number (index (skeleton_of v) (source h))) (trail (darts (skeleton_of v)) m (dart_in v d) (dart_in v d)))) (e ∙ darts_counted v s)

-- ---- the places of bodies
-- a rank is one
within : (ranks all : List FaceId) (a : FaceId) (bodies old : List (List ℕ)) (n : ℕ) → n ≡ position_or_len (same_face a) ranks → ranks ≡ all → position_or_len (same_face a) all < length all → length bodies ≡ length old → length old ≡ length ranks → n < length bodies
within ranks all a bodies old n e r l m k =
    let l : position_or_len (same_face a) ranks < length ranks = subst (λ (fs : List FaceId). position_or_len (same_face a) fs < length fs) (sym r) l in
    omega arith

pub key_within : (v : View) (f : Faces) (s : IsSound v f) (cs : List CycleKey) (ranks : List FaceId) (i : ℕ) (d : CycleKey) → cs ≡ keys v f s → ranks ≡ ranked_faces f cs → i < length cs
    → (bodies old : List (List ℕ)) (n : ℕ) → n ≡ position_or_len (same_face (get_or cs i d).face) ranks → length bodies ≡ length old → length old ≡ length ranks → n < length bodies
key_within v f s cs ranks i d e r l bodies old n p m k =
    within ranks (ranked_faces f (keys v f s)) (get_or cs i d).face bodies old n p (r ∙ ap (ranked_faces f) e) (cycle_within v f s s.faced.0 s.faced.1 (get_or cs i d) (key_at v f s cs i d e l)) m k

pub bare_place : (v : View) (f : Faces) (s : IsSound v f) (ranks : List FaceId) (w : VertexId) → HasBareFace f w → ranks ≡ ranked_faces f (keys v f s)
    → (bodies old : List (List ℕ)) (n : ℕ) → n ≡ position_or_len (same_face (bare_face_in f w)) ranks → length bodies ≡ length old → length old ≡ length ranks → n < length bodies
bare_place v f s ranks w has r bodies old n p m k = within ranks (ranked_faces f (keys v f s)) (bare_face_in f w) bodies old n p r (bare_within v f s s.faced.0 s.faced.1 w has) m k

-- ---- vertices
-- what a vertex key is
pub vertex_at : (v : View) → IsGraphSound v → (us : List VertexKey) (u : VertexKey) → us ≡ vertex_keys v → Member u us → HasVertex v u.name × (u.point ≡ point_in v u.name)
vertex_at v s us u e m =
    let r = of_map (vertex_key v) u (vertex_order v) (subst (Member u) e m) in
    let has : HasVertex v r.0 = (vertices_are_ordered v r.0 s).1 (from_member (vertex_order v) r.0 r.1) in
    (subst (λ (x : VertexKey). HasVertex v x.name) (sym r.2) has, subst (λ (x : VertexKey). x.point ≡ point_in v x.name) (sym r.2) refl)

pub vertex_here : (v : View) → IsGraphSound v → (us : List VertexKey) (i : ℕ) (u : VertexKey) → us ≡ vertex_keys v → i < length us → u ≡ get_or us i u → HasVertex v u.name × (u.point ≡ point_in v u.name)
vertex_here v s us i u e l is = vertex_at v s us u e (subst (λ (x : VertexKey). Member x us) (sym is) (to_member us (get_or us i u) (Contains-get_or us i u l)))

-- the vertex is bare exactly where no dart out of it was found
pub vertex_bare : (v : View) → IsGraphSound v → (u : VertexKey) → HasVertex v u.name → u.point ≡ point_in v u.name → (o : Option DartId) → IfSome o (IsOutOf v u.name) → IfNone o ((d : DartId) → ¬ IsOutOf v u.name d) → not (has_dart (skeleton_of v) u.point) ≡ not (is_some o)
vertex_bare v s u has at (Some d) some none = ap not (ap (has_dart (skeleton_of v)) at ∙ true_from_ne_false (has_dart (skeleton_of v) (point_in v u.name)) (λ h. (bare_is_bare v u.name s has).0 h d some))
vertex_bare v s u has at None some none = ap not (ap (has_dart (skeleton_of v)) at ∙ (bare_is_bare v u.name s has).1 none)

none_out : (P : Type 0) (o : Option DartId) → IfNone o P → is_some o ≡ false → P
none_out P (Some d) h e = absurd (false≢true (sym e))
none_out P None h e = h

pub bare_has : (v : View) (f : Faces) (s : IsSound v f) (w : VertexId) → HasVertex v w → (o : Option DartId) → IfNone o ((d : DartId) → ¬ IsOutOf v w d) → is_some o ≡ false → HasBareFace f w
bare_has v f s w has o none e = (s.complete.bare w has).1 (none_out ((d : DartId) → ¬ IsOutOf v w d) o none e)
