-- The vertices that are found, with the edges on their right, are the outline.
use Rattle.std.proofs.Common.{◌≡◌, ℕ, zero, suc, ◌+◌, ◌<◌, ◌≤◌, Bool, true, false, cond, arith, refl, sym, ap, ap₂, subst, ◌∙◌, inl, inr, List, [], ◌∷◌, ◌++◌, length, map, get_or, take}
use Rattle.std.specs.Prelude.{pos, ◌-◌, not, ◌&&◌, ◌||◌, ◌==◌, filter, slice_index_or, Option, Some, None}
use Rattle.std.specs.List.{Contains, count_by}
use Rattle.std.specs.Option.{option_map}
use Rattle.std.proofs.lemmas.Bool.{cases_Bool}
use Rattle.std.proofs.lemmas.List.{get_or-map, length-map, map-append, take_all}
use Rattle.exact_plane.specs.Point.{Point}
use Rattle.exact_plane.specs.PointOrder.{point_cmp}
use Rattle.exact_plane.specs.PointOrderLaws.{point_cmp_total}
use Rattle.exact_plane.specs.Span.{Span}
use Rattle.plane_graphs.specs.Ascending.{Member}
use Rattle.plane_graphs.proofs.Ascending.{to_member, from_member, ascending_unique}
use Rattle.plane_graphs.proofs.Lists.{map_map, map_same, filter_of_map, in_map, of_map, in_filter, of_filter, IsAscending-filter}
use Rattle.plane_graphs.proofs.Sorting.{member_at, any_default}
use Rattle.slab_laws.specs.declared.names.DartId.{DartId}
use Rattle.slab_laws.specs.Skeleton.{left_of, on_wall}
use Rattle.slab_laws.specs.FacesSound.{IsSound}
use Rattle.slab_laws.specs.Sound.{skeleton_of, edge_in}
use Rattle.slab_laws.specs.SpansDrawn.{edge_of}
use Rattle.slab_laws.specs.View.{View, Faces, HasVertex, dart_id, vertex_id, point_in}
use Rattle.arr_notes.specs.Curves.{IsForward}
use Rattle.sound_changes.proofs.KnownNames.{points_ascend}
use Rattle.record_orders.specs.declared.vertices.VertexKey.{VertexKey}
use Rattle.envelope_laws.specs.declared.which.Which.{Which}
use Rattle.envelope_laws.specs.declared.which.Which.TheVariants.{Lower, Upper}
use Rattle.envelope_laws.specs.Envelopes.{is_extreme, outermost, between_all, outline}
use Rattle.envelope_laws.specs.Outermost.{hides}
use Rattle.envelope_laws.proofs.Outer.{outermost_is_told}
use Rattle.lower_envelope.specs.declared.corner.Corner.{Corner}
use Rattle.lower_envelope.specs.declared.corner.Envelope.{Envelope}
use Rattle.lower_envelope.specs.declared.slab_edges.SlabEdges.{SlabEdges}
use Rattle.lower_envelope.specs.declared.slabs.Stretch.{Stretch}
use Rattle.lower_envelope.specs.Slabs.{further_at, covers, AreSlanted, AreWithin, AreInTurn, IsBest, ArePlaces}
use Rattle.lower_envelope.specs.Edges.{point_at, AreOffered, IsInOrder, stretch_at, stretches_upto}
use Rattle.lower_envelope.specs.Corners.{AreOuterEnds, edge_at, dart_at, key_at, is_outer, stands_right, corner_of, all_but_last, AreSlabsOf, AreFitted, AreSlabEdgesOf, is_seen, corner_at, one_or_none, corners_upto, IsEnvelopeOf}
use Rattle.lower_envelope.proofs.Recorded.{key_out, are_ends, ends_in_order, extreme_listed, along, forward_at, counted, edges_recorded}
use Rattle.lower_envelope.proofs.Tied.{AreEdgesOf, within, turns, slabs_told}
use Rattle.lower_envelope.proofs.OuterEnds.{point_of, is_outer_point, seen_is}

module _ {X : Type 0} (p : X → Bool) where
  kept_one : (x : X) (xs : List X) → p x ≡ true → filter p (x ∷ xs) ≡ x ∷ filter p xs
  kept_one x xs e = rw e refl

  lost_one : (x : X) (xs : List X) → p x ≡ false → filter p (x ∷ xs) ≡ filter p xs
  lost_one x xs e = rw e refl

  filter_snoc : (xs : List X) (i : ℕ) (d : X) → i < length xs → filter p (take (i + 1) xs) ≡ filter p (take i xs) ++ cond (p (get_or xs i d)) (get_or xs i d ∷ []) []
  filter_snoc [] i d l = absurd (omega (arith, l))
  filter_snoc (x ∷ xs) zero d l = elim (cases_Bool (p x)) [ inl e ↦ rw e refl | inr e ↦ rw e refl ]
  filter_snoc (x ∷ xs) (suc i) d l =
      let q : suc i + 1 ≡ suc (i + 1) = omega arith in
      ap (λ n. filter p (take n (x ∷ xs))) q ∙ (elim (cases_Bool (p x)) [
        | inl e ↦ kept_one x (take (i + 1) xs) e ∙ ap (λ ys. x ∷ ys) (filter_snoc xs i d (omega arith)) ∙ ap (λ ys. ys ++ cond (p (get_or xs i d)) (get_or xs i d ∷ []) []) (sym (kept_one x (take i xs) e))
        | inr e ↦ lost_one x (take (i + 1) xs) e ∙ filter_snoc xs i d (omega arith) ∙ ap (λ ys. ys ++ cond (p (get_or xs i d)) (get_or xs i d ∷ []) []) (sym (lost_one x (take i xs) e))
      ])

  filter_kept : (xs : List X) (i : ℕ) (d : X) (old new : List X) → i < length xs → p (get_or xs i d) ≡ true → old ≡ filter p (take i xs) → new ≡ old ++ get_or xs i d ∷ [] → new ≡ filter p (take (i + 1) xs)
  filter_kept xs i d old new l t h e = e ∙ ap (λ ys. ys ++ get_or xs i d ∷ []) h ∙ sym (filter_snoc xs i d l ∙ ap (λ ys. filter p (take i xs) ++ ys) (taken (p (get_or xs i d)) t))
    where
      taken : (b : Bool) → b ≡ true → cond b (get_or xs i d ∷ []) [] ≡ get_or xs i d ∷ []
      taken b q = rw q refl

  filter_left : (xs : List X) (i : ℕ) (d : X) (old new : List X) → i < length xs → p (get_or xs i d) ≡ false → old ≡ filter p (take i xs) → new ≡ old → new ≡ filter p (take (i + 1) xs)
  filter_left xs i d old new l t h e = e ∙ h ∙ sym (filter_snoc xs i d l ∙ ap (λ ys. filter p (take i xs) ++ ys) (dropped (p (get_or xs i d)) t) ∙ none (filter p (take i xs)))
    where
      dropped : (b : Bool) → b ≡ false → cond b (get_or xs i d ∷ []) [] ≡ []
      dropped b q = rw q refl

      none : (ys : List X) → ys ++ [] ≡ ys
      none [] = refl
      none (y ∷ ys) = ap (λ r. y ∷ r) (none ys)

-- the same of a list that is made of another one
module _ {X : Type 0} (p : X → Bool) (f : X → X) (names : List X) (i : ℕ) (d y : X) (l : i < length names) (is : y ≡ f (get_or names i d)) where
  within_made : i < length (map f names)
  within_made = subst (λ n. i < n) (sym (length-map names f)) l

  made : get_or (map f names) i (f d) ≡ y
  made = get_or-map f names i d (f d) l ∙ sym is

  pub mapped_kept : (old new : List X) → p y ≡ true → old ≡ filter p (take i (map f names)) → new ≡ old ++ y ∷ [] → new ≡ filter p (take (i + 1) (map f names))
  mapped_kept old new t h e = filter_kept p (map f names) i (f d) old new within_made (ap p made ∙ t) h (e ∙ ap (λ x. old ++ x ∷ []) (sym made))

  pub mapped_left : (old new : List X) → p y ≡ false → old ≡ filter p (take i (map f names)) → new ≡ old → new ≡ filter p (take (i + 1) (map f names))
  mapped_left old new t h e = filter_left p (map f names) i (f d) old new within_made (ap p made ∙ t) h e

pub mapped_all : {X : Type 0} (p : X → Bool) (f : X → X) (names : List X) (i : ℕ) → length names ≤ i → filter p (take i (map f names)) ≡ filter p (map f names)
mapped_all p f names i l = ap (filter p) (take_all i (map f names) (subst (λ n. n ≤ i) (sym (length-map names f)) l))

point_same : (ks : List VertexKey) (k : ℕ) → (key_at ks k).point ≡ point_of (map (λ x. x.point) ks) k
point_same [] k = refl
point_same (x ∷ ks) zero = refl
point_same (x ∷ ks) (suc k) = point_same ks k

outer_same : (w : Which) (ks : List VertexKey) (k : ℕ) → k < length ks → is_outer w ks k ≡ is_outer_point w (map (λ x. x.point) ks) k
outer_same Lower ks k l = ap₂ (λ p q. (k == 0) || not (on_wall p q)) (point_same ks (k - 1)) (point_same ks k)
outer_same Upper ks k l = ap₂ (λ a b. a || b) (ap (λ n. k + 1 == n) (sym (length-map ks (λ x. x.point)))) (ap₂ (λ p q. not (on_wall p q)) (point_same ks k) (point_same ks (k + 1)))

-- ---- names in the order of their points, those that pass, each with the edge on its right
module _ (w : Which) (v : View) (f : Faces) (S : IsSound v f) (ks : List VertexKey) (h : AreOuterEnds v f ks) where
  -- the points of those that are on the envelope are the outline's vertices
  extremes : filter (is_extreme w (skeleton_of v)) (map (λ k. k.point) ks) ≡ filter (is_extreme w (skeleton_of v)) (skeleton_of v).vertices
  extremes =
      let g = skeleton_of v in
      let p = is_extreme w g in
      let ps = map (λ (k : VertexKey). k.point) ks in
      let ends = are_ends v S.graph f S ks h in
      ascending_unique point_cmp point_cmp_total (filter p ps) (filter p g.vertices)
      (IsAscending-filter point_cmp p ps ends.ascends)
      (IsAscending-filter point_cmp p g.vertices (points_ascend v))
      (λ q m. let r = of_filter p q ps m in in_filter p q g.vertices (to_member g.vertices q (ends.are q r.0).0) r.1)
      (λ q m. let r = of_filter p q g.vertices m in in_filter p q ps (extreme_listed v S.graph f S ks h w q (from_member g.vertices q r.0) r.1) r.1)

  module _ (ds : List DartId) (es : List Span) (on : AreOffered w v f ds) (e_is : map edge_of es ≡ map (edge_in v) ds) (ps : List Point) (slabs : List (Option ℕ)) (a : AreSlabsOf w (skeleton_of v) ps es slabs) where
    -- what the code asks is whether the vertex is in the outline
    pub listed_is : ps ≡ map (λ k. k.point) ks → (k : ℕ) → k < length ks → is_seen w ks ps es slabs k ≡ is_extreme w (skeleton_of v) (key_at ks k).point
    listed_is p_is k l =
        let qs = map (λ (x : VertexKey). x.point) ks in
        let ends = are_ends v S.graph f S ks h in
        let len : k < length qs = subst (λ n. k < n) (sym (length-map ks (λ x. x.point))) l in
        let P = (ends.are (point_of qs k) (member_at qs k (record { x = pos 0; y = pos 0; w = pos 0 }) len)).0 in
        let o = edge_at es (stands_right ps slabs (point_of qs k)) in
        let r = seen_is w (skeleton_of v) qs ends (extreme_listed v S.graph f S ks h w) k len o (a.outermost (point_of qs k) P) in
        ap (λ b. b && not (hides w (edge_at es (stands_right ps slabs (key_at ks k).point)) (key_at ks k).point)) (outer_same w ks k l)
        ∙ ap (λ q. is_outer_point w qs k && not (hides w (edge_at es (stands_right ps slabs q)) q)) (point_same ks k)
        ∙ r
        ∙ ap (is_extreme w (skeleton_of v)) (sym (point_same ks k))

    dart_along : (o : Option ℕ) → ((a : ℕ) → o ≡ Some a → a < length es) → option_map (edge_in v) (dart_at ds o) ≡ edge_at es o
    dart_along None few = refl
    dart_along (Some a) few = ap Some (sym (along v S.graph w f ds es on e_is a (few a refl)))

    edge_told : (k : VertexKey) → Contains (skeleton_of v).vertices k.point → option_map (edge_in v) (corner_of ps ds slabs k).edge ≡ outermost w (skeleton_of v) k.point
    edge_told k V =
        let o = stands_right ps slabs k.point in
        dart_along o (λ b e. a.places (count_by (λ u. not (left_of k.point u)) ps) b e)
        ∙ sym ((outermost_is_told w (skeleton_of v) k.point (edge_at es o) S.graph.plane V).1 (a.outermost k.point V))

    between_are : (cs : List Corner) → ((c : Corner) → Member c cs → option_map (edge_in v) c.edge ≡ outermost w (skeleton_of v) (point_in v c.vertex)) → map (λ c. option_map (edge_in v) c.edge) (all_but_last cs) ≡ between_all w (skeleton_of v) (map (λ c. point_in v c.vertex) cs)
    unfolding all_but_last between_all
    between_are [] f = refl
    between_are (c ∷ []) f = refl
    between_are (c ∷ d ∷ cs) f = ap₂ (λ x xs. x ∷ xs) (f c (inl refl)) (between_are (d ∷ cs) (λ x m. f x (inr m)))

    last_out : (cs : List Corner) (c : Corner) → Member c (all_but_last cs) → Member c cs
    unfolding all_but_last
    last_out [] c m = m
    last_out (x ∷ []) c m = absurd m
    last_out (x ∷ y ∷ ys) c (inl e) = inl e
    last_out (x ∷ y ∷ ys) c (inr m) = inr (last_out (y ∷ ys) c m)

    corner_out : (c : Corner) → Member c (map (corner_of ps ds slabs) (filter (λ k. is_extreme w (skeleton_of v) k.point) ks)) → (k : VertexKey) × Member k ks × (c ≡ corner_of ps ds slabs k)
    corner_out c m =
        let r = of_map (corner_of ps ds slabs) c (filter (λ k. is_extreme w (skeleton_of v) k.point) ks) m in
        (r.0, (of_filter (λ k. is_extreme w (skeleton_of v) k.point) r.0 ks r.1).0, r.2)

    forward_dart : (o : Option ℕ) (d : DartId) → ((a : ℕ) → o ≡ Some a → a < length es) → dart_at ds o ≡ Some d → IsForward v d
    forward_dart None d few e = absurd cc
    forward_dart (Some a) d few e = let q : get_or ds a (dart_id 0) ≡ d = cc in subst (IsForward v) q (forward_at v S.graph w f ds es on e_is a (few a refl))

    -- the names of those that pass have their points
    vertices_are : map (λ c. point_in v c.vertex) (map (corner_of ps ds slabs) (filter (λ k. is_extreme w (skeleton_of v) k.point) ks)) ≡ filter (is_extreme w (skeleton_of v)) (skeleton_of v).vertices
    vertices_are =
        let p = is_extreme w (skeleton_of v) in
        let kept = filter (λ (k : VertexKey). p k.point) ks in
        map_map (corner_of ps ds slabs) (λ c. point_in v c.vertex) kept
        ∙ map_same (λ k. point_in v k.name) (λ k. k.point) kept (λ k m. sym (key_out v S.graph f S ks h k (of_filter (λ k. p k.point) k ks m).0).1)
        ∙ sym (filter_of_map (λ k. k.point) p ks)
        ∙ extremes

    told : (e : Envelope) (cs : List Corner) → cs ≡ map (corner_of ps ds slabs) (filter (λ k. is_extreme w (skeleton_of v) k.point) ks) → e.vertices ≡ map (λ c. c.vertex) cs → e.between ≡ map (λ c. c.edge) (all_but_last cs) → IsEnvelopeOf w v e
    unfolding outline
    told e cs c_is x y =
        let all : map (λ c. point_in v c.vertex) cs ≡ filter (is_extreme w (skeleton_of v)) (skeleton_of v).vertices = ap (map (λ c. point_in v c.vertex)) c_is ∙ vertices_are in
        let of_corner : (c : Corner) → Member c cs → option_map (edge_in v) c.edge ≡ outermost w (skeleton_of v) (point_in v c.vertex) =
        λ c m. let r = corner_out c (subst (Member c) c_is m) in
        let q = key_out v S.graph f S ks h r.0 r.1 in
        let V = ((are_ends v S.graph f S ks h).are r.0.point (in_map (λ k. k.point) r.0 ks r.1)).0 in
        ap (λ x. option_map (edge_in v) x.edge) r.2 ∙ edge_told r.0 V ∙ ap (outermost w (skeleton_of v)) (q.1 ∙ ap (point_in v) (sym (ap (λ x. x.vertex) r.2))) in
        record {
          have = λ u m.
              let r = of_map (λ c. c.vertex) u cs (subst (Member u) x m) in
              let t = corner_out r.0 (subst (Member r.0) c_is r.1) in
              subst (HasVertex v) (sym (r.2 ∙ ap (λ x. x.vertex) t.2)) (key_out v S.graph f S ks h t.0 t.1).0;
          vertices = ap (map (point_in v)) x ∙ map_map (λ c. c.vertex) (point_in v) cs ∙ all;
          forward = λ d m.
              let r = of_map (λ c. c.edge) (Some d) (all_but_last cs) (subst (Member (Some d)) y m) in
              let t = corner_out r.0 (subst (Member r.0) c_is (last_out cs r.0 r.1)) in
              forward_dart (stands_right ps slabs t.0.point) d (λ b i. a.places (count_by (λ u. not (left_of t.0.point u)) ps) b i) (sym (r.2 ∙ ap (λ x. x.edge) t.2));
          between = ap (map (option_map (edge_in v))) y ∙ map_map (λ c. c.edge) (option_map (edge_in v)) (all_but_last cs) ∙ between_are cs of_corner ∙ ap (between_all w (skeleton_of v)) all;
        }

-- ---- as the code comes to it
pub but_last : {X : Type 0} (xs : List X) (n : ℕ) → length xs ≤ suc n → (1 ≤ length xs → suc n ≤ length xs) → take n xs ≡ all_but_last xs
unfolding all_but_last
but_last [] zero a b = refl
but_last [] (suc n) a b = refl
but_last (x ∷ []) zero a b = refl
but_last (x ∷ []) (suc n) a b = (let k = b (omega arith) in absurd (omega (arith, k)))
but_last (x ∷ y ∷ ys) zero a b = absurd (omega (arith, a))
but_last (x ∷ y ∷ ys) (suc n) a b = ap (λ r. x ∷ r) (but_last (y ∷ ys) n (omega (arith, a)) (λ k. let l = b (omega arith) in omega (arith, l)))

pub but_last_at : {X : Type 0} (xs : List X) (n : ℕ) → 1 ≤ n → length xs ≤ n → (1 ≤ length xs → n ≤ length xs) → take (n - 1) xs ≡ all_but_last xs
but_last_at xs zero h a b = absurd (omega arith)
but_last_at xs (suc n) h a b = let e : suc n - 1 ≡ n = omega arith in rw e (but_last xs n a b)

-- where each place tells whether an element passes, and what is made of it
kept_upto : (p : VertexKey → Bool) (g : VertexKey → Corner) (f : ℕ → Option Corner) (ks : List VertexKey) → ((k : ℕ) → k < length ks → f k ≡ cond (p (key_at ks k)) (Some (g (key_at ks k))) None) → (n : ℕ) → n ≤ length ks → corners_upto f n ≡ map g (filter p (take n ks))
unfolding corners_upto
kept_upto p g f ks h zero l = refl
kept_upto p g f ks h (suc n) l =
    let d : VertexKey = record { point = record { x = pos 0; y = pos 0; w = pos 0 }; name = vertex_id 0 } in
    let q : n + 1 ≡ suc n = omega arith in
    ap₂ (λ xs o. xs ++ one_or_none o) (kept_upto p g f ks h n (omega arith)) (h n (omega arith))
    ∙ ap (λ ys. map g (filter p (take n ks)) ++ ys) (one (p (key_at ks n)) (key_at ks n))
    ∙ sym (map-append g (filter p (take n ks)) (cond (p (key_at ks n)) (key_at ks n ∷ []) []))
    ∙ ap (map g) (sym (filter_snoc p ks n d (omega arith)))
    ∙ ap (λ m. map g (filter p (take m ks))) q
  where
    one : (b : Bool) (x : VertexKey) → one_or_none (cond b (Some (g x)) None) ≡ map g (cond b (x ∷ []) [])
    one true x = refl
    one false x = refl

-- the corners that are found are those of the ends that are on the envelope
pub corners_are : (w : Which) (v : View) (f : Faces) (S : IsSound v f) (ks : List VertexKey) → AreOuterEnds v f ks → (e : SlabEdges) → AreSlabEdgesOf w v f ks e → corners_upto (corner_at w ks e) (length ks) ≡ map (corner_of e.points.items e.darts.items e.outermost.items) (filter (λ k. is_extreme w (skeleton_of v) k.point) ks)
corners_are w v f S ks k_is e h =
    let p = λ (k : VertexKey). is_extreme w (skeleton_of v) k.point in
    let g = corner_of e.points.items e.darts.items e.outermost.items in
    kept_upto p g (corner_at w ks e) ks (λ k l.
    ap (λ b. cond b (Some (g (key_at ks k))) None) (listed_is w v f S ks k_is e.darts.items e.edges.items h.darts h.edges e.points.items e.outermost.items h.slabs h.points k l)) (length ks) (omega arith)
    ∙ ap (λ xs. map g (filter p xs)) (take_all (length ks) ks (omega arith))

-- the point of an end, as the slabs are told by it
pub point_is : (ps : List Point) (ks : List VertexKey) (k : ℕ) → ps ≡ map (λ x. x.point) ks → point_at ps k ≡ (key_at ks k).point
point_is ps ks k e = ap (λ qs. point_at qs k) e ∙ sym (point_same ks k)

pub place_fits : (ps : List Point) (ks : List VertexKey) (k : ℕ) → ps ≡ map (λ x. x.point) ks → k < length ks → k < length ps
place_fits ps ks k e l = subst (λ n. k < n) (sym (ap length e ∙ length-map ks (λ x. x.point))) l

-- the vertex that is looked at
pub at_key : (ks : List VertexKey) (k : ℕ) (u : VertexKey) → k < length ks → u ≡ get_or ks k u → u ≡ key_at ks k
at_key ks k u l e = e ∙ any_default ks k u (record { point = record { x = pos 0; y = pos 0; w = pos 0 }; name = vertex_id 0 }) l

-- one place more
pub none_upto : (f : ℕ → Option Corner) → corners_upto f 0 ≡ []
unfolding corners_upto
none_upto f = refl

one_upto : (f : ℕ → Option Corner) (k : ℕ) → corners_upto f (k + 1) ≡ corners_upto f k ++ one_or_none (f k)
unfolding corners_upto
one_upto f k = let e : k + 1 ≡ suc k = omega arith in rw e refl

pub corner_more : (f : ℕ → Option Corner) (k : ℕ) (o : Option Corner) (c : Corner) (old new : List Corner) → o ≡ f k → o ≡ Some c → old ≡ corners_upto f k → new ≡ old ++ c ∷ [] → new ≡ corners_upto f (k + 1)
corner_more f k o c old new f_is is h e = e ∙ ap₂ (λ xs q. xs ++ one_or_none q) h (sym is ∙ f_is) ∙ sym (one_upto f k)

pub corner_missing : (f : ℕ → Option Corner) (k : ℕ) (o : Option Corner) (old new : List Corner) → o ≡ f k → o ≡ None → old ≡ corners_upto f k → new ≡ old → new ≡ corners_upto f (k + 1)
corner_missing f k o old new f_is is h e = e ∙ h ∙ sym (none (corners_upto f k)) ∙ ap (λ q. corners_upto f k ++ one_or_none q) (sym is ∙ f_is) ∙ sym (one_upto f k)
  where
    none : (ys : List Corner) → ys ++ [] ≡ ys
    none [] = refl
    none (y ∷ ys) = ap (λ r. y ∷ r) (none ys)

-- what stands for a slab is the place of an edge
pub right_place : (s : SlabEdges) → AreFitted s → (p : Point) (o : Option ℕ) → o ≡ stands_right s.points.items s.outermost.items p → (a : ℕ) → o ≡ Some a → a < length s.edges.items
right_place s h p o e a k = h.places (count_by (λ x. not (left_of p x)) s.points.items) a (sym e ∙ k)

-- ---- what is offered
module _ (w : Which) (v : View) (f : Faces) (S : IsSound v f) where
  pub are_fitted : (ks : List VertexKey) → AreOuterEnds v f ks → (e : SlabEdges) → AreSlabEdgesOf w v f ks e → AreFitted e
  are_fitted ks k e h = record {
    order = subst IsInOrder (sym h.points) (ends_in_order v S.graph f S ks k);
    paired = counted v S.graph w f e.darts.items e.edges.items h.darts h.edges;
    places = h.slabs.places;
  }

  -- the ranges of the edges on offer
  module _ (ks : List VertexKey) (ends : AreOuterEnds v f ks) (ps : List Point) (ds : List DartId) (es : List Span) (p_is : ps ≡ map (λ k. k.point) ks) (on : AreOffered w v f ds) (e_is : map edge_of es ≡ map (edge_in v) ds) where
    recorded : AreEdgesOf w (skeleton_of v) ps es
    recorded = subst (λ qs. AreEdgesOf w (skeleton_of v) qs es) (sym p_is) (edges_recorded v S.graph w f ds es on e_is S ks ends)

    -- of lists that are these
    module _ (es1 : List Span) (e_same : es1 ≡ es) where
      pub slanted_at : AreSlanted es1
      slanted_at = subst AreSlanted (sym e_same) recorded.slanted

      module _ (ss : List Stretch) (s_same : ss ≡ stretches_upto (stretch_at ps es) (length es)) where
        pub within_at : (n : ℕ) → n ≡ length ps → AreWithin es1 n ss
        within_at n n_is = subst (λ e. AreWithin e n ss) (sym e_same) (subst (λ m. AreWithin es m ss) (sym n_is) (subst (AreWithin es (length ps)) (sym s_same) (within w (skeleton_of v) ps es recorded)))

        pub turns_at : AreInTurn (further_at w es1) ss
        turns_at = subst (λ e. AreInTurn (further_at w e) ss) (sym e_same) (subst (AreInTurn (further_at w es)) (sym s_same) (turns w (skeleton_of v) ps es recorded))

        pub slab_edges_at : (os : List (Option ℕ)) → ((i : ℕ) → IsBest (further_at w es1) (λ s. covers s i) ss (slice_index_or os i None)) → ArePlaces es1 os → AreSlabsOf w (skeleton_of v) ps es os
        slab_edges_at os best places =
            slabs_told w (skeleton_of v) ps es recorded os
            (λ i. subst (λ t. IsBest (further_at w es) (λ s. covers s i) t (slice_index_or os i None)) s_same (subst (λ e. IsBest (further_at w e) (λ s. covers s i) ss (slice_index_or os i None)) e_same (best i)))
            (subst (λ e. ArePlaces e os) e_same places)

-- ---- the whole
pub all_told : (w : Which) (v : View) (f : Faces) (S : IsSound v f) (ks : List VertexKey) → AreOuterEnds v f ks → (s : SlabEdges) (cs : List Corner) (e : Envelope) → AreSlabEdgesOf w v f ks s → cs ≡ corners_upto (corner_at w ks s) (length ks) → e.vertices ≡ map (λ c. c.vertex) cs → e.between ≡ map (λ c. c.edge) (all_but_last cs) → IsEnvelopeOf w v e
all_told w v f S ks k s cs e h q x y =
    told w v f S ks k s.darts.items s.edges.items h.darts h.edges s.points.items s.outermost.items h.slabs e cs
    (q ∙ corners_are w v f S ks k s h) x y
