-- A cycle is inner exactly where it has the first dart clockwise out of its least vertex.
use Rattle.std.proofs.Common.{◌≡◌, ◌≢◌, ℕ, ◌<◌, Bool, true, false, not, arith, refl, sym, ap, ◌∙◌, subst, inl, inr, List, length, get_or, Contains}
use Rattle.std.specs.Prelude.{◌==◌}
use Rattle.std.proofs.lemmas.Bool.{false≢true, false_from_ne_true, cases_Bool, eqb-true, eq-eqb}
use Rattle.std.proofs.lemmas.List.{get_or-map, length-map}
use Rattle.exact_plane.specs.Point.{Point}
use Rattle.plane_graphs.specs.Graph.{Edge}
use Rattle.plane_graphs.proofs.Order.{Lt, lt_never}
use Rattle.plane_graphs.proofs.Lists.{both_ways, not_out}
use Rattle.slab_laws.specs.Darts.{Dart, source, darts, start, kind, ahead, back, by_class, on_left, on_right}
use Rattle.slab_laws.specs.Rotation.{turn, earlier, next, OutOf}
use Rattle.slab_laws.specs.Rows.{dart_list, no_dart, dart_at, dart_place, least_dart_of, lead_places}
use Rattle.slab_laws.specs.Skeleton.{Skeleton, IsPlaneSkeleton, left_of}
use Rattle.slab_faces.proofs.Next.{kind_few}
use Rattle.slab_faces.proofs.RotationLemmas.{Early, earlier_out, earlier_in, round_at}
use Rattle.slab_faces.proofs.NextLemmas.{dart_in, next_follows, start_in, next_from}
use Rattle.slab_faces.proofs.CyclesLemmas.{one_cycle}
use Rattle.dart_orbits.specs.Turns.{comes_first}
use Rattle.dart_orbits.proofs.Listed.{dart_there, dart_within, dart_at_place, source_in}
use Rattle.dart_orbits.proofs.DartCells.{edge_there, lead_there, dart_there as listed_there}
use Rattle.dart_orbits.proofs.Neighbours.{by_first}
use Rattle.dart_orbits.proofs.Rounds.{first_follows}
use Rattle.face_changes.specs.Kinds.{is_outer}
use Rattle.face_roots.specs.CycleLinks.{IsStart, IsFirstOut, StartsAtLeast}
use Rattle.face_roots.proofs.FaceLinks.{links_tell_faces, lead_before}
use Rattle.face_roots.proofs.InnerCycles.{rises}
use Rattle.face_roots.proofs.PointOrder.{before}
use Rattle.dart_orbits.specs.Around.{IsFirstAround}

pub leads_length : (g : Skeleton) (leads : List ℕ) → leads ≡ lead_places g → length leads ≡ length (dart_list g)
unfolding lead_places
leads_length g leads e = ap length e ∙ length-map (dart_list g) (λ d. dart_place g (least_dart_of g d))

module _ (g : Skeleton) (plane : IsPlaneSkeleton g) where
  edge_rises : (e : Edge) → Contains g.edges e → Lt e.low e.high
  edge_rises e E = let w = plane.proper_edge e E in before e.low e.high w.0 w.1 (rises g plane e E)

  one_lead : (d : Dart) → Contains g.edges d.edge → least_dart_of g (next (darts g) d) ≡ least_dart_of g d
  one_lead d E = sym (one_cycle g d (dart_in g d.edge d.forward E))

  module _ (v : Point) (V : Contains g.vertices v) (x : Dart) (out : OutOf g v x) (first : (c : Dart) → OutOf g v c → earlier c x ≡ false) (s : source (least_dart_of g x) ≡ v) where
    -- a dart that comes from before v is on another cycle
    from_before : (d : Dart) → Lt (source d) v → least_dart_of g d ≡ least_dart_of g x → ⊥
    from_before d l same = lt_never (subst (λ p. Lt p v) (ap source same ∙ s) (lead_before g d v l))

    -- the first dart doesn't go back, where its cycle begins at v
    goes_on : (f : Bool) → x.forward ≡ f → x.forward ≡ true
    goes_on true q = q
    goes_on false q =
        let n = next_from g x plane out.in' in
        let a : source (next (darts g) x) ≡ x.edge.low = n.at ∙ ap (λ b. start x.edge (not b)) q in
        let b : x.edge.high ≡ v = sym (ap (start x.edge) q) ∙ out.at in
        absurd (from_before (next (darts g) x) (subst (λ p. Lt p v) (sym a) (subst (Lt x.edge.low) b (edge_rises x.edge out.in'))) (one_lead x out.in'))

    -- no dart comes after one that goes straight down
    none_after : (z c : Dart) → turn z ≡ 3 → earlier z c ≡ false
    none_after z c t = false_from_ne_true (earlier z c) (λ h. go (earlier_out z c h))
      where
        go : Early z c → ⊥
        go (by_class k) = let f = kind_few (left_of c.edge.low c.edge.high) c.forward in absurd (omega arith)
        go (on_left a b h) = absurd (omega arith)
        go (on_right a b h) = absurd (omega arith)

    comes_up : (e : Edge) → Contains g.edges e → e.high ≡ v → turn (back e) ≡ 3 → x ≡ next (darts g) (ahead e)
    unfolding comes_first
    comes_up e E h t =
        first_follows g e.high plane (start_in g e false plane E) (back e) (next (darts g) (ahead e)) x (next_follows g (ahead e) plane E) (record { in' = out.in'; at = out.at ∙ sym h })
        (λ c C. by_first (earlier (back e) c) (earlier (back e) x) (earlier c x) (none_after (back e) c t) (none_after (back e) x t) (first c (record { in' = C.in'; at = C.at ∙ h })))

    ends_nowhere : (e : Edge) → Contains g.edges e → e.high ≢ v
    ends_nowhere e E h = elim (cases_Bool (left_of e.low e.high)) [
      | inl t ↦
          let a : turn (back e) ≡ 0 = ap (λ b. kind b false) t in
          let b : turn x ≡ kind (left_of x.edge.low x.edge.high) true = ap (kind (left_of x.edge.low x.edge.high)) (goes_on x.forward refl) in
          let c = ahead_later (left_of x.edge.low x.edge.high) in
          false≢true (sym (first (back e) (record { in' = E; at = h })) ∙ earlier_in (back e) x (by_class (omega arith)))
      | inr n ↦ from_before (ahead e) (subst (Lt e.low) h (edge_rises e E)) (sym (one_lead (ahead e) E) ∙ ap (least_dart_of g) (sym (comes_up e E h (ap (λ b. kind b false) n))))
    ]
      where
        ahead_later : (b : Bool) → 0 < kind b true
        ahead_later true = omega arith
        ahead_later false = omega arith

    starts : IsStart g v
    starts = record { vertex = V; none_ends = ends_nowhere }

  -- ---- by places
  module _ (leads : List ℕ) (told : leads ≡ lead_places g) (k r : ℕ) (l : k < length (dart_list g)) (own : get_or leads k 0 ≡ k) (f : IsFirstAround g k r) where
    lead_place : (j : ℕ) → j < length (dart_list g) → get_or leads j 0 ≡ dart_place g (least_dart_of g (dart_at g j))
    unfolding lead_places
    lead_place j m = ap (λ xs. get_or xs j 0) told ∙ get_or-map (λ d. dart_place g (least_dart_of g d)) (dart_list g) j no_dart 0 m

    lead_is : (j : ℕ) → j < length (dart_list g) → dart_at g (get_or leads j 0) ≡ least_dart_of g (dart_at g j)
    lead_is j m =
        ap (dart_at g) (lead_place j m) ∙ dart_at_place g plane (least_dart_of g (dart_at g j)) (edge_there g plane _ (lead_there g plane (dart_at g j) (listed_there g plane j m)))

    least : dart_at g k ≡ least_dart_of g (dart_at g k)
    least = sym (ap (dart_at g) own) ∙ lead_is k l

    first : (c : Dart) → OutOf g (source (dart_at g k)) c → earlier c (dart_at g r) ≡ false
    first c C =
        let p = dart_at_place g plane c C.in' in
        subst (λ d. earlier d (dart_at g r) ≡ false) p (f.first (dart_place g c) (dart_within g plane c C.in') (ap source p ∙ C.at))

    leaves : OutOf g (source (dart_at g k)) (dart_at g r)
    leaves = record { in' = dart_there g plane r f.within; at = f.same }

    at_source : Contains g.vertices (source (dart_at g k))
    at_source = source_in g plane (dart_at g k) (dart_there g plane k l)

    inner_if : get_or leads r 0 ≡ k → is_outer g (dart_at g k) ≡ false
    inner_if h =
        let same : least_dart_of g (dart_at g r) ≡ dart_at g k = sym (lead_is r f.within) ∙ ap (dart_at g) h in
        (links_tell_faces.inner g (dart_at g k) plane (dart_there g plane k l)).1 (record {
          start = subst (λ d. IsStart g (source d)) least (starts (source (dart_at g k)) at_source (dart_at g r) leaves first (ap source same));
          dart = dart_at g r;
          first = subst (λ d. IsFirstOut g (source d) (dart_at g r)) least (record { out = leaves; first = λ c C h. false≢true (sym (first c C) ∙ h) });
          same = same ∙ least;
        })

    if_inner : is_outer g (dart_at g k) ≡ false → get_or leads r 0 ≡ k
    if_inner h =
        let s : StartsAtLeast g (dart_at g k) = (links_tell_faces.inner g (dart_at g k) plane (dart_there g plane k l)).0 h in
        let q : IsFirstOut g (source (dart_at g k)) s.dart = subst (λ d. IsFirstOut g (source d) s.dart) (sym least) s.first in
        let o = round_at g (source (dart_at g k)) plane at_source in
        let one : s.dart ≡ dart_at g r = o.total s.dart (dart_at g r) q.out leaves (first s.dart q.out) (false_from_ne_true _ (q.first (dart_at g r) leaves)) in
        lead_place r f.within ∙ ap (λ d. dart_place g (least_dart_of g d)) (sym one) ∙ ap (dart_place g) s.same ∙ sym (lead_place k l) ∙ own

    pub kind_told : (b : Bool) → b ≡ (get_or leads r 0 == k) → b ≡ not (is_outer g (dart_at g k))
    kind_told b e = both_ways b (not (is_outer g (dart_at g k)))
        (λ t. ap not (inner_if (eqb-true (get_or leads r 0) k (sym e ∙ t))))
        (λ t. e ∙ eq-eqb (get_or leads r 0) k (if_inner (not_out (is_outer g (dart_at g k)) t)))
