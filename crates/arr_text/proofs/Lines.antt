-- The lines of vertices and edges.
use Rattle.std.proofs.Common.{◌≡◌, ℕ, ◌+◌, ◌<◌, ◌≤◌, Bool, length, get_or, take, add-one, true, false, cond, List, [], ◌∷◌, ◌++◌, map, Result, refl, sym, ap, ap₂, ◌∙◌, subst, append_assoc, inl, inr}
use Rattle.std.specs.Prelude.{OnOk, nat_lt, codes, flat_map, filter, zip}
use Rattle.std.specs.List.{list_any}
use Rattle.exact_plane.specs.Point.{Point}
use Rattle.std.proofs.lemmas.Grind.{flat_map-append}
use Rattle.std.proofs.lemmas.List.{append-nil, take_all}
use Rattle.std.proofs.Math.Seq.{take-suc}
use Rattle.std.proofs.lemmas.List.Elements.{Contains-get_or}
use Rattle.plane_graphs.specs.Ascending.{Member}
use Rattle.plane_graphs.specs.Graph.{Edge}
use Rattle.plane_graphs.proofs.Ascending.{to_member}
use Rattle.plane_graphs.proofs.Lists.{in_map, of_map, in_filter, of_filter, any_in, any_out, both_ways, then_appended}
use Rattle.slab_laws.specs.declared.names.DartId.{DartId}
use Rattle.slab_laws.specs.declared.names.VertexId.{VertexId}
use Rattle.slab_laws.specs.Skeleton.{same_point}
use Rattle.slab_laws.specs.Darts.{target, darts}
use Rattle.slab_laws.specs.Rotation.{rotation}
use Rattle.slab_laws.specs.Sound.{skeleton_of, dart_in, IsGraphSound}
use Rattle.slab_laws.specs.Text.{number, index, triple, ended, vertex_line, edge_line, word}
use Rattle.slab_laws.specs.View.{View, HasVertex, HasDart, point_in, pinned_in, source_in, target_in}
use Rattle.sound_views.specs.Orders.{vertex_order, dart_order}
use Rattle.sound_views.proofs.NamesOrdered.{vertex_ordered, ordered_vertex, ordered_dart, points_in_order, edges_in_order_of}
use Rattle.arr_text.specs.Reading.{pins_in, vertex_place, edge_ends, forward_darts}
use Rattle.record_orders.specs.declared.vertices.VertexKey.{VertexKey}
use Rattle.record_orders.specs.Keys.{vertex_key, vertex_keys}
use Rattle.arr_text.specs.declared.darts.NumberedDart.{NumberedDart}
use Rattle.arr_text.specs.Numbers.{numbered_dart, numbered_darts}
use Rattle.arr_text.proofs.NumberedDarts.{goes_forward}
use Rattle.arr_text.proofs.Joined.{four_appended, joined}
use Rattle.slab_faces.proofs.Parity.{same_point_is, same_point_refl}

-- a vertex is pinned exactly where its point is one of the pins
pub pin_told : (v : View) (s : IsGraphSound v) (u : VertexId) → HasVertex v u → pinned_in v u ≡ list_any (same_point (point_in v u)) (pins_in v)
pin_told v s u has = both_ways (pinned_in v u) (list_any (same_point (point_in v u)) (pins_in v)) there back
  where
    pinned : List VertexId
    pinned = filter (pinned_in v) (vertex_order v)

    there : pinned_in v u ≡ true → list_any (same_point (point_in v u)) (map (point_in v) (filter (pinned_in v) (vertex_order v))) ≡ true
    there h = any_in (same_point (point_in v u)) (point_in v u) (pins_in v) (in_map (point_in v) u (filter (pinned_in v) (vertex_order v)) (in_filter (pinned_in v) u (vertex_order v) (vertex_ordered v s u has) h)) (same_point_refl (point_in v u))

    back : list_any (same_point (point_in v u)) (map (point_in v) (filter (pinned_in v) (vertex_order v))) ≡ true → pinned_in v u ≡ true
    back h =
        let q = any_out (same_point (point_in v u)) (pins_in v) h in
        let w = of_map (point_in v) q.0 (filter (pinned_in v) (vertex_order v)) q.1 in
        let k = of_filter (pinned_in v) w.0 (vertex_order v) w.1 in
        let same : u ≡ w.0 = s.drawn.points u w.0 has (ordered_vertex v s w.0 k.0) (same_point_is (point_in v u) q.0 q.2 ∙ w.2) in
        ap (pinned_in v) same ∙ k.1

-- the parts of a vertex's line, one after the other
pub vertex_put : {T E : Type 0} (r : Result T E) (v : View) (m : ℕ) (p : Point) (pinned : Bool) (pins : List Point) (s a b c d z : List ℕ) → m ≡ index (skeleton_of v) p → pinned ≡ list_any (same_point p) pins
    → a ≡ s ++ vertex_place m p → b ≡ a ++ cond pinned (codes " pin") [] → c ≡ b ++ codes " :" → d ≡ c ++ flat_map (λ h. number (index (skeleton_of v) (target h))) (rotation (darts (skeleton_of v)) p)
    → OnOk r (z ≡ d ++ 10 ∷ []) → OnOk r (z ≡ s ++ vertex_line (skeleton_of v) (darts (skeleton_of v)) pins p)
unfolding vertex_line ended vertex_place
vertex_put r v m p pinned pins s a b c d z e t f g h i j =
    let n : List ℕ = number (index (skeleton_of v) p) in
    let x : List ℕ = triple p in
    let y : List ℕ = cond (list_any (same_point p) pins) (codes " pin") [] in
    let w : List ℕ = flat_map (λ h. number (index (skeleton_of v) (target h))) (rotation (darts (skeleton_of v)) p) in
    let place : a ≡ s ++ (codes "v" ++ (n ++ x)) = f ∙ ap (λ (k : ℕ). s ++ (codes "v" ++ (number k ++ x))) e in
    let pin : b ≡ a ++ y = g ∙ ap (λ (q : Bool). a ++ cond q (codes " pin") []) t in
    let two = then_appended s a b (codes "v" ++ (n ++ x)) y place pin in
    let three = then_appended s b c ((codes "v" ++ (n ++ x)) ++ y) (codes " :") two h in
    let four = then_appended s c d (((codes "v" ++ (n ++ x)) ++ y) ++ codes " :") w three i in
    joined r s d z ((((codes "v" ++ (n ++ x)) ++ y) ++ codes " :") ++ w) (10 ∷ []) ((codes "v" ++ (n ++ (x ++ (y ++ (codes " :" ++ w))))) ++ 10 ∷ []) four j
    (ap (λ (t : List ℕ). t ++ 10 ∷ []) (five (codes "v") n x y (codes " :") w))
  where
    five : (k n x y q w : List ℕ) → (((k ++ (n ++ x)) ++ y) ++ q) ++ w ≡ k ++ (n ++ (x ++ (y ++ (q ++ w))))
    five k n x y q w = simp append_assoc

-- ---- through all vertices
module _ (v : View) where
  pub vertex_item : IsGraphSound v → (ks : List VertexKey) (i : ℕ) (k : VertexKey) → ks ≡ vertex_keys v → i < length ks → k ≡ get_or ks i k → HasVertex v k.name × (k.point ≡ point_in v k.name)
  vertex_item s ks i k e l h =
      let m : Member k ks = subst (λ (x : VertexKey). Member x ks) (sym h) (to_member ks (get_or ks i k) (Contains-get_or ks i k l)) in
      let w = of_map (vertex_key v) k (vertex_order v) (subst (λ (xs : List VertexKey). Member k xs) e m) in
      (subst (λ (x : VertexKey). HasVertex v x.name) (sym w.2) (ordered_vertex v s w.0 w.1), subst (λ (x : VertexKey). x.point ≡ point_in v x.name) (sym w.2) refl)

  by_points : (write : Point → List ℕ) (us : List VertexId) → flat_map (λ (k : VertexKey). write k.point) (map (vertex_key v) us) ≡ flat_map write (map (point_in v) us)
  by_points write [] = refl
  by_points write (u ∷ us) = ap (λ (rest : List ℕ). write (point_in v u) ++ rest) (by_points write us)

  pub all_vertices : IsGraphSound v → (write : Point → List ℕ) (ks : List VertexKey) (n : ℕ) (s z : List ℕ) → ks ≡ vertex_keys v → length ks ≤ n → z ≡ s ++ flat_map (λ (k : VertexKey). write k.point) (take n ks) → z ≡ s ++ flat_map write (skeleton_of v).vertices
  all_vertices sound write ks n s z e l i =
      i ∙ ap (λ (xs : List VertexKey). s ++ flat_map (λ (k : VertexKey). write k.point) xs) (take_all n ks l ∙ e)
      ∙ ap (λ (t : List ℕ). s ++ t) (by_points write (vertex_order v) ∙ ap (flat_map write) (points_in_order v sound))

-- ---- edges
-- the line of an edge is put at its dart from the lesser end
module _ (v : View) (words : DartId → List (List ℕ)) where
  abbrev pub edge_of_dart : DartId → List ℕ
  edge_of_dart d = edge_line (skeleton_of v) ((dart_in v d).edge, words d)

  abbrev pub edge_part : NumberedDart → List ℕ
  edge_part k = cond (nat_lt k.source k.target) (edge_of_dart k.name) []

  one_by : (d : DartId) (b : Bool) (rest : List ℕ) (es : List Edge) (ws : List (List (List ℕ))) → rest ≡ flat_map (edge_line (skeleton_of v)) (zip es ws)
      → cond b (edge_of_dart d) [] ++ rest ≡ flat_map (edge_line (skeleton_of v)) (zip (cond b ((dart_in v d).edge ∷ es) es) (cond b (words d ∷ ws) ws))
  one_by d true rest es ws e = ap (λ (t : List ℕ). edge_of_dart d ++ t) e
  one_by d false rest es ws e = e

  mapped : {X Y : Type 0} (f : X → Y) (b : Bool) (x : X) (xs : List X) → map f (cond b (x ∷ xs) xs) ≡ cond b (f x ∷ map f xs) (map f xs)
  mapped f true x xs = refl
  mapped f false x xs = refl

  abbrev forward : DartId → Bool
  forward d = (dart_in v d).forward

  by_edges : IsGraphSound v → (ds : List DartId) → ((d : DartId) → Member d ds → HasDart v d) → flat_map edge_part (map (numbered_dart v) ds) ≡ flat_map (edge_line (skeleton_of v)) (zip (map (λ d. (dart_in v d).edge) (filter forward ds)) (map words (filter forward ds)))
  by_edges s [] h = refl
  by_edges s (d ∷ ds) h =
      rw (goes_forward v s d (h d (inl refl)), mapped (λ e. (dart_in v e).edge) (forward d) d (filter forward ds), mapped words (forward d) d (filter forward ds))
      (one_by d (forward d) (flat_map edge_part (map (numbered_dart v) ds)) (map (λ e. (dart_in v e).edge) (filter forward ds)) (map words (filter forward ds)) (by_edges s ds (λ e m. h e (inr m))))

  pub all_edges : IsGraphSound v → (ks : List NumberedDart) (n : ℕ) (s z : List ℕ) → ks ≡ numbered_darts v → length ks ≤ n → z ≡ s ++ flat_map edge_part (take n ks) → z ≡ s ++ flat_map (edge_line (skeleton_of v)) (zip (skeleton_of v).edges (map words (forward_darts v)))
  all_edges sound ks n s z e l i =
      i ∙ ap (λ (xs : List NumberedDart). s ++ flat_map edge_part xs) (take_all n ks l ∙ e)
      ∙ ap (λ (t : List ℕ). s ++ t) (by_edges sound (dart_order v) (λ d m. ordered_dart v sound d m) ∙ ap (λ (es : List Edge). flat_map (edge_line (skeleton_of v)) (zip es (map words (forward_darts v)))) (edges_in_order_of v sound))

  pub dart_item : IsGraphSound v → (ks : List NumberedDart) (i : ℕ) (k : NumberedDart) → ks ≡ numbered_darts v → i < length ks → k ≡ get_or ks i k → HasDart v k.name × (k ≡ numbered_dart v k.name)
  dart_item s ks i k e l h =
      let m : Member k ks = subst (λ (x : NumberedDart). Member x ks) (sym h) (to_member ks (get_or ks i k) (Contains-get_or ks i k l)) in
      let w = of_map (numbered_dart v) k (dart_order v) (subst (λ (xs : List NumberedDart). Member k xs) e m) in
      (subst (λ (x : NumberedDart). HasDart v x.name) (sym w.2) (ordered_dart v s w.0 w.1), subst (λ (x : NumberedDart). x ≡ numbered_dart v x.name) (sym w.2) refl)

-- ---- one more
pub one_more : {X : Type 0} (f : X → List ℕ) (ks : List X) (i : ℕ) (k : X) (s a z : List ℕ) → i < length ks → k ≡ get_or ks i k → a ≡ s ++ flat_map f (take i ks) → z ≡ a ++ f k → z ≡ s ++ flat_map f (take (i + 1) ks)
one_more f ks i k s a z l e g h =
    let taken : take (i + 1) ks ≡ take i ks ++ (k ∷ []) = rw add-one (take-suc ks i k l ∙ ap (λ x. take i ks ++ (x ∷ [])) (sym e)) in
    let last : flat_map f (take (i + 1) ks) ≡ flat_map f (take i ks) ++ f k = ap (flat_map f) taken ∙ flat_map-append f (take i ks) (k ∷ []) ∙ ap (λ t. flat_map f (take i ks) ++ t) (append-nil (f k)) in
    h ∙ ap (λ t. t ++ f k) g ∙ append_assoc s (flat_map f (take i ks)) (f k) ∙ ap (λ t. s ++ t) (sym last)

-- ---- the line of an edge
pub ends_put : {T E : Type 0} (r : Result T E) (n m : ℕ) (s a b c z : List ℕ) → a ≡ s ++ codes "e" → b ≡ a ++ number n → c ≡ b ++ number m → OnOk r (z ≡ c ++ codes " :") → OnOk r (z ≡ s ++ edge_ends n m)
unfolding edge_ends
ends_put r n m s a b c z e f g h =
    let i : List ℕ = number n in
    let j : List ℕ = number m in
    let two = then_appended s a b (codes "e") i e f in
    let three = then_appended s b c (codes "e" ++ i) j two g in
    joined r s c z ((codes "e" ++ i) ++ j) (codes " :") (codes "e" ++ (i ++ (j ++ codes " :"))) three h (four_appended (codes "e") i j (codes " :"))

abbrev from_to : Point → Point → Edge
from_to p q = record { low = p; high = q }

low_of : (p q : Point) (b : Bool) → b ≡ true → cond b (from_to p q) (from_to q p) ≡ from_to p q
low_of p q true e = refl
low_of p q false e = absurd cc

pub edge_put : {T E : Type 0} (r : Result T E) (v : View) (sound : IsGraphSound v) (k : NumberedDart) (ws : List (List ℕ)) (s a b z : List ℕ) → HasDart v k.name → k ≡ numbered_dart v k.name → nat_lt k.source k.target ≡ true
    → a ≡ s ++ edge_ends k.source k.target → b ≡ a ++ flat_map word ws → OnOk r (z ≡ b ++ 10 ∷ []) → OnOk r (z ≡ s ++ edge_line (skeleton_of v) ((dart_in v k.name).edge, ws))
unfolding edge_line edge_ends ended
edge_put r v sound k ws s a b z has key forward f g h =
    let d : DartId = k.name in
    let up : (dart_in v d).forward ≡ true = sym (goes_forward v sound d has) ∙ subst (λ (x : NumberedDart). nat_lt x.source x.target ≡ true) key forward in
    let here : (dart_in v d).edge ≡ from_to (point_in v (source_in v d)) (point_in v (target_in v d)) = low_of _ _ _ up in
    let n : Point → List ℕ = λ p. number (index (skeleton_of v) p) in
    let w : List ℕ = flat_map word ws in
    let low : number k.source ≡ n (dart_in v d).edge.low = ap (λ (x : NumberedDart). number x.source) key ∙ ap (λ (x : Edge). n x.low) (sym here) in
    let high : number k.target ≡ n (dart_in v d).edge.high = ap (λ (x : NumberedDart). number x.target) key ∙ ap (λ (x : Edge). n x.high) (sym here) in
    let ends : List ℕ = codes "e" ++ (number k.source ++ (number k.target ++ codes " :")) in
    let both = then_appended s a b ends w f g in
    joined r s b z (ends ++ w) (10 ∷ []) ((codes "e" ++ (n (dart_in v d).edge.low ++ (n (dart_in v d).edge.high ++ (codes " :" ++ w)))) ++ 10 ∷ []) both h
    (ap (λ (t : List ℕ). t ++ 10 ∷ []) (four (codes "e") (number k.source) (number k.target) (codes " :") w ∙ ap₂ (λ (x y : List ℕ). codes "e" ++ (x ++ (y ++ (codes " :" ++ w)))) low high))
  where
    four : (k n x y t : List ℕ) → (k ++ (n ++ (x ++ y))) ++ t ≡ k ++ (n ++ (x ++ (y ++ t)))
    four k n x y t = simp append_assoc

pub part_there : (v : View) (words : DartId → List (List ℕ)) (k : NumberedDart) (b : Bool) (a z : List ℕ) → b ≡ nat_lt k.source k.target → b ≡ true → z ≡ a ++ edge_of_dart v words k.name → z ≡ a ++ edge_part v words k
part_there v words k b a z e t h = h ∙ ap (λ (c : Bool). a ++ cond c (edge_of_dart v words k.name) []) (sym t ∙ e)

pub part_none : (v : View) (words : DartId → List (List ℕ)) (k : NumberedDart) (b : Bool) (a z : List ℕ) → b ≡ nat_lt k.source k.target → b ≡ false → z ≡ a → z ≡ a ++ edge_part v words k
part_none v words k b a z e t h = h ∙ sym (append-nil a) ∙ ap (λ (c : Bool). a ++ cond c (edge_of_dart v words k.name) []) (sym t ∙ e)
