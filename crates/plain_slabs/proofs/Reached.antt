-- The tables of edges and places against the model.
use Rattle.std.proofs.Common.{◌≡◌, ℕ, ◌+◌, ◌-◌, ◌<◌, ◌≤◌, Bool, true, false, cond, arith, refl, sym, ap, subst, ◌∙◌, inl, inr, List, [], ◌∷◌, ◌++◌, map, length, take, slice_index_or, replicate}
use Rattle.std.specs.Prelude.{◌&&◌, not, filter}
use Rattle.std.specs.List.{count_by, Contains}
use Rattle.std.proofs.lemmas.Bool.{and_parts, cases_Bool, leb-true, ltb-true, le-ltb}
use Rattle.std.proofs.lemmas.List.{length-map, get_or-map, map_more, take_all}
use Rattle.std.proofs.lemmas.List.Sums.{count_by-le-length, length-filter}
use lib.Dec.{ltb, leb}
use Rattle.exact_plane.specs.Point.{Point}
use Rattle.exact_plane.specs.Span.{Span}
use Rattle.plane_graphs.specs.Graph.{Edge}
use Rattle.slab_laws.specs.SpansDrawn.{edge_of, drawn}
use Rattle.slab_laws.specs.Skeleton.{Skeleton, IsPlaneSkeleton, left_of, below}
use Rattle.slab_laws.specs.Slabs.{spans, place, width}
use Rattle.slab_faces.proofs.Cells.{right_few}
use Rattle.slab_faces.proofs.PointLemmas.{and_none}
use Rattle.slab_faces.proofs.Shift.{sum_by-map}
use Rattle.slab_faces.proofs.Member.{Member, member_in, in_member, map_in, map_out, filter_out}
use Rattle.plain_slabs.specs.declared.reaches.Reach.{Reach}
use Rattle.plain_slabs.specs.PlaceTables.{reach_in, table, is_across, is_new, IsSlanted, HasNoVertical, HasNoVerticalAcross, count_below, place_in, places_in}
use Rattle.plain_slabs.proofs.ChosenCounts.{count_filtered, moved, room}

-- ---- the places after a move
pub place_moved : (rs : List Reach) (i j : ℕ) (r : Reach) (came gone : List Reach) (p c d : ℕ) → is_across i r ≡ true → is_across j r ≡ true → came ≡ filter (is_new i j) rs → gone ≡ filter (is_new j i) rs → p ≡ place_in rs i r → c ≡ count_below came (edge_of r.edge) → d ≡ count_below gone (edge_of r.edge) → (d ≤ p + c) × ((p + c) - d ≡ place_in rs j r)
unfolding place_in count_below
place_moved rs i j r came gone p c d a b x y e f h =
    let E : Edge = edge_of r.edge in
    let t : Reach → Bool = λ q. below (edge_of q.edge) E in
    let e' : p ≡ count_by t (filter (is_across i) rs) = e ∙ ap (λ z. cond z (count_by t (filter (is_across i) rs)) 0) a in
    let f' : c ≡ count_by t (filter (is_new i j) rs) = f ∙ ap (count_by t) x in
    let h' : d ≡ count_by t (filter (is_new j i) rs) = h ∙ ap (count_by t) y in
    let m = moved t (is_across i) (is_across j) rs in
    let g : count_by t (filter (is_across j) rs) ≡ cond (is_across j r) (count_by t (filter (is_across j) rs)) 0 = ap (λ z. cond z (count_by t (filter (is_across j) rs)) 0) (sym b) in
    let u : count_by t (filter (is_across j) rs) + d ≡ p + c = rw (e', f', h') m in
    let w : (p + c) - d ≡ count_by t (filter (is_across j) rs) = omega arith in
    (omega arith, w ∙ g)

pub place_room : (rs : List Reach) (i j : ℕ) (r : Reach) (came : List Reach) (p c : ℕ) → is_across i r ≡ true → came ≡ filter (is_new i j) rs → p ≡ place_in rs i r → c ≡ count_below came (edge_of r.edge) → p + c ≤ length rs
unfolding place_in count_below
place_room rs i j r came p c a x e f =
    let t : Reach → Bool = λ q. below (edge_of q.edge) (edge_of r.edge) in
    let e' : p ≡ count_by t (filter (is_across i) rs) = e ∙ ap (λ z. cond z (count_by t (filter (is_across i) rs)) 0) a in
    let f' : c ≡ count_by t (filter (is_new i j) rs) = f ∙ ap (count_by t) x in
    rw (e', f') (room t (is_across i) (is_across j) rs)

pub place_few : (rs : List Reach) (i : ℕ) (r : Reach) → place_in rs i r ≤ length rs
unfolding place_in count_below
place_few rs i r =
    let t : Reach → Bool = λ q. below (edge_of q.edge) (edge_of r.edge) in
    let n = count_by t (filter (is_across i) rs) in
    let a : n ≤ length rs = omega (arith, count_by-le-length t (filter (is_across i) rs), length-filter (is_across i) rs, count_by-le-length (is_across i) rs) in
    either (is_across i r) n (length rs) a
  where
    either : (b : Bool) (n m : ℕ) → n ≤ m → cond b n 0 ≤ m
    either true n m h = h
    either false n m h = omega arith

pub place_new : (rs : List Reach) (j : ℕ) (r : Reach) (present : List Reach) (c : ℕ) → is_across j r ≡ true → present ≡ filter (is_across j) rs → c ≡ count_below present (edge_of r.edge) → c ≡ place_in rs j r
unfolding place_in
place_new rs j r present c b x f = f ∙ ap (λ z. count_below z (edge_of r.edge)) x ∙ ap (λ z. cond z (count_below (filter (is_across j) rs) (edge_of r.edge)) 0) (sym b)

pub place_none : (rs : List Reach) (j : ℕ) (r : Reach) → is_across j r ≡ false → 0 ≡ place_in rs j r
unfolding place_in
place_none rs j r b = ap (λ z. cond z (count_below (filter (is_across j) rs) (edge_of r.edge)) 0) (sym b)

pub length_places : (rs : List Reach) (i : ℕ) (ps : List ℕ) → ps ≡ places_in rs i → length ps ≡ length rs
unfolding places_in
length_places rs i ps e = ap length e ∙ length-map rs (place_in rs i)

pub place_at : (rs : List Reach) (i k d : ℕ) (r : Reach) (ps : List ℕ) → ps ≡ places_in rs i → k < length rs → r ≡ slice_index_or rs k r → slice_index_or ps k d ≡ place_in rs i r
unfolding places_in
place_at rs i k d r ps e h q = ap (λ xs. slice_index_or xs k d) e ∙ get_or-map (place_in rs i) rs k r d h ∙ ap (place_in rs i) (sym q)

pub place_added : (rs : List Reach) (i k : ℕ) (r : Reach) (p : ℕ) (old new : List ℕ) → k < length rs → r ≡ slice_index_or rs k r → old ≡ map (place_in rs i) (take k rs) → p ≡ place_in rs i r → new ≡ old ++ p ∷ [] → new ≡ map (place_in rs i) (take (k + 1) rs)
place_added rs i k r p old new h q e f g =
    g ∙ (λ j. e j ++ (f ∙ ap (place_in rs i) q) j ∷ []) ∙ sym (map_more (place_in rs i) rs k r h)

pub places_done : (rs : List Reach) (i k : ℕ) (ps : List ℕ) → length rs ≤ k → ps ≡ map (place_in rs i) (take k rs) → ps ≡ places_in rs i
unfolding places_in
places_done rs i k ps h e = e ∙ ap (map (place_in rs i)) (take_all k rs h)

pub same_places : (rs ts : List Reach) (i j : ℕ) (ps : List ℕ) → ps ≡ places_in rs i → rs ≡ ts → j ≡ i → ps ≡ places_in ts j
same_places rs ts i j ps e f h = e ∙ (λ k. places_in (f k) (sym h k))

-- ---- no vertical edges
pub none_among : (rs : List Reach) (i : ℕ) (p : Reach → Bool) (qs : List Reach) → HasNoVerticalAcross rs → ((r : Reach) → p r ≡ true → is_across i r ≡ true) → qs ≡ filter p rs → HasNoVertical qs
none_among rs i p qs v h e = record {
  slanted = λ r q.
      let m = filter_out p rs r (in_member _ r (subst (λ l. Contains l r) e q)) in
      v.slanted i r (member_in rs r m.0) (h r m.1);
}

pub new_across : (i j : ℕ) (r : Reach) → is_new i j r ≡ true → is_across j r ≡ true
new_across i j r h = (and_parts (is_across j r) (not (is_across i r)) h).0

slanting : (g : Skeleton) (i : ℕ) (e : Edge) → IsPlaneSkeleton g → Contains g.edges e → spans g i e ≡ true → left_of e.low e.high ≡ true
slanting g i e plane E h =
    let q = plane.proper_edge e E in
    elim (cases_Bool (left_of e.low e.high)) [
      | inl a ↦ a
      | inr a ↦ absurd (apart _ _ i (right_few g e.high e.low plane q.1 q.0 a) h)
    ]
  where
    apart : (m n i : ℕ) → n ≤ m → (leb m i && ltb i n) ≡ true → ⊥
    apart m n i h k =
        let a = and_parts (leb m i) (ltb i n) k in
        let b = leb-true m i a.0 in
        let c = ltb-true i n a.1 in
        omega arith

pub none_vertical : (vs : List Point) (ss : List Span) (rs : List Reach) → IsPlaneSkeleton (drawn vs ss) → rs ≡ table vs ss → HasNoVerticalAcross rs
none_vertical vs ss rs plane e = record {
  slanted = λ i r q a.
      let m = map_out (reach_in vs) ss r (in_member _ r (subst (λ l. Contains l r) e q)) in
      let E : Contains (map edge_of ss) (edge_of m.0) = member_in _ _ (map_in edge_of ss m.0 m.1) in
      subst (λ s. IsSlanted s.edge) m.2 (slanting (drawn vs ss) i (edge_of m.0) plane E (ap (is_across i) m.2 ∙ a));
}

-- ---- the model's words
pub width_is : (vs : List Point) (ss : List Span) (rs : List Reach) (i : ℕ) → rs ≡ table vs ss → count_by (is_across i) rs ≡ width (drawn vs ss) i
unfolding width
width_is vs ss rs i e =
    ap (count_by (is_across i)) e
    ∙ sum_by-map (λ r. cond (is_across i r) 1 0) (reach_in vs) ss
    ∙ sym (sum_by-map (λ f. cond (spans (drawn vs ss) i f) 1 0) edge_of ss)

pub place_is : (vs : List Point) (ss : List Span) (i : ℕ) (s : Span) → spans (drawn vs ss) i (edge_of s) ≡ true → place_in (table vs ss) i (reach_in vs s) ≡ place (drawn vs ss) i (edge_of s)
unfolding place_in count_below
place_is vs ss i s h =
    let g : Skeleton = drawn vs ss in
    let t : Reach → Bool = λ q. below (edge_of q.edge) (edge_of s) in
    ap (λ z. cond z (count_by t (filter (is_across i) (map (reach_in vs) ss))) 0) h
    ∙ count_filtered t (is_across i) (map (reach_in vs) ss)
    ∙ sum_by-map (λ r. cond (is_across i r && t r) 1 0) (reach_in vs) ss
    ∙ sym (sum_by-map (λ f. cond (spans g i f && below f (edge_of s)) 1 0) edge_of ss)

-- ---- before all moves
zero_at : (rs : List Reach) (n : ℕ) (r : Reach) → r.end ≤ n → 0 ≡ place_in rs n r
zero_at rs n r h = place_none rs n r (and_none (leb r.first n) (ltb n r.end) (le-ltb n r.end h))

all_zero : (rs qs : List Reach) (n : ℕ) → ((r : Reach) → Member qs r → r.end ≤ n) → replicate (length qs) 0 ≡ map (place_in rs n) qs
all_zero rs [] n h = refl
all_zero rs (q ∷ qs) n h = λ k. zero_at rs n q (h q (inl refl)) k ∷ all_zero rs qs n (λ r m. h r (inr m)) k

pub none_there : (vs : List Point) (ss : List Span) (rs : List Reach) (n : ℕ) → rs ≡ table vs ss → length vs ≡ n → (ps : List ℕ) → ps ≡ replicate (length rs) 0 → ps ≡ places_in rs n
unfolding places_in
none_there vs ss rs n e h ps q =
    q ∙ all_zero rs rs n (λ r m.
    let k = map_out (reach_in vs) ss r (subst (λ l. Member l r) e m) in
    let a : (reach_in vs k.0).end ≤ n = omega (arith, count_by-le-length (λ v. not (left_of k.0.upper v)) vs) in
    subst (λ r. r.end ≤ n) k.2 a)
