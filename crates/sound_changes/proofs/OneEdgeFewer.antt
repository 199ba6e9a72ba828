-- The rings of a view with one edge fewer.
use Rattle.std.proofs.Common.{◌≡◌, ◌≢◌, inl, inr, ℕ, ◌==◌, List, sym, ap, ◌∙◌, subst}
use Rattle.std.specs.List.{filter}
use Rattle.std.proofs.lemmas.Bool.{cases_eq, eq-eqb, eqb-true}
use Rattle.exact_plane.specs.Line.{Line}
use Rattle.plane_graphs.proofs.Ascending.{to_member, from_member}
use Rattle.plane_graphs.proofs.Lists.{in_filter, of_filter}
use Rattle.rotation_order.specs.RingOrder.{IsStrictOn, IsRoundOn, sooner_by}
use Rattle.rotation_order.specs.Ring.{Out, IsListOut, IsApart, IsAfter, IsRemove}
use Rattle.rotation_order.proofs.RingEdits.{apart_of, removed}
use Rattle.rotation_order.proofs.RingOrders.{round_by}
use Rattle.rotation_order.proofs.Rings.{one_after, alone, some_before}
use Rattle.slab_laws.specs.declared.names.DartId.{DartId}
use Rattle.slab_laws.specs.declared.names.VertexId.{VertexId}
use Rattle.slab_laws.specs.Rotation.{earlier, OutOf}
use Rattle.slab_laws.specs.Skeleton.{IsPlaneSkeleton}
use Rattle.slab_laws.specs.Sound.{skeleton_of, IsTwinned, IsGraphSound}
use Rattle.slab_laws.specs.Tables.{names}
use Rattle.slab_laws.specs.View.{View, HasVertex, HasDart, vertex_id, dart_id, point_in, source_in, twin_in}
use Rattle.arr_notes.specs.AfterAround.{after_in}
use Rattle.sound_views.proofs.NameTables.{has_name, name_has}
use Rattle.rotation_order.specs.VertexRings.{turns_in, RingOf}
use Rattle.rotation_order.proofs.RingNames.{out_of}
use Rattle.rotation_order.proofs.SoundRings.{sound_views_have_rings}
use Rattle.sound_changes.specs.EdgePlaces.{IsEdgeMore}
use Rattle.sound_changes.proofs.RingsKept.{swapped, not_first, vertex_up, twinned_down}
use Rattle.sound_changes.proofs.EdgeSides.{strict_of, first_out, into, from_start, way, ring_down}

-- ---- the darts out of a vertex, as a list of names
module _ (v : View) (w : VertexId) where
  abbrev names_out : List ℕ
  names_out = filter (λ n. (source_in v (dart_id n)).0 == w.0) (names v.darts)

  pub listed_out : IsListOut (turns_in v) w.0 names_out
  listed_out n = (
    λ k. let f = of_filter (λ n. (source_in v (dart_id n)).0 == w.0) n (names v.darts) (to_member names_out n k) in (name_has v.darts n f.0, eqb-true (source_in v (dart_id n)).0 w.0 f.1),
    λ o. from_member names_out n (in_filter (λ n. (source_in v (dart_id n)).0 == w.0) n (names v.darts) (has_name v.darts n o.0) (eq-eqb (source_in v (dart_id n)).0 w.0 o.1)),
  )

-- ---- who follows whom once d and its twin m have gone
pub record IsShrunk (g h : View) (d m : DartId) : Type 0 where
  pub first : (k : DartId) → HasDart g k → after_in h k ≡ d → after_in g k ≡ after_in h d
  pub second : (k : DartId) → HasDart g k → after_in h k ≡ m → after_in g k ≡ after_in h m
  pub others : (k : DartId) → HasDart g k → after_in h k ≢ d → after_in h k ≢ m → after_in g k ≡ after_in h k

pub turned_round : (g h : View) (d m : DartId) → IsShrunk g h d m → IsShrunk g h m d
turned_round g h d m r = record { first = r.second; second = r.first; others = λ k o a b. r.others k o b a }

module _ (g h : View) (d m : DartId) (u w : VertexId) (l : Line) (p : IsEdgeMore g h d m u w l) (s : IsGraphSound h) (r : IsShrunk g h d m) (plane : IsPlaneSkeleton (skeleton_of g)) where
  twinned : IsTwinned g
  twinned = twinned_down g h d m u w l p s.twinned

  out : Out (turns_in h) u.0 d.0
  out = first_out g h d m u w l p

  -- what comes after a dart leaves the same vertex
  after_out : (x : VertexId) (n : ℕ) → Out (turns_in h) x.0 n → source_in h (after_in h (dart_id n)) ≡ x
  after_out x n o = s.linked.joins (twin_in h (dart_id n)) (s.twinned.has (dart_id n) o.0) ∙ ap (λ z. source_in h z) (s.twinned.back (dart_id n) o.0) ∙ ap vertex_id o.1

  -- so it isn't a dart out of another vertex
  after_not : (x y : VertexId) (n : ℕ) (e : DartId) → Out (turns_in h) x.0 n → source_in h e ≡ y → x ≢ y → after_in h (dart_id n) ≢ e
  after_not x y n e o q ne k = ne (sym (after_out x n o) ∙ ap (λ z. source_in h z) k ∙ q)

  one_before : (a b : ℕ) → Out (turns_in h) u.0 a → Out (turns_in h) u.0 b → after_in h (dart_id a) ≡ after_in h (dart_id b) → a ≡ b
  one_before a b oa ob q =
      let t = s.linked.once (twin_in h (dart_id a)) (twin_in h (dart_id b)) (s.twinned.has (dart_id a) oa.0) (s.twinned.has (dart_id b) ob.0) q in
      ap (λ z. z.0) (sym (s.twinned.back (dart_id a) oa.0) ∙ ap (λ z. twin_in h z) t ∙ s.twinned.back (dart_id b) ob.0)

  ring : RingOf h u
  ring = sound_views_have_rings h u s (subst (λ z. HasVertex h z) p.source_first (s.linked.source d p.first))

  strict : IsStrictOn earlier (OutOf (skeleton_of h) (point_in h u))
  strict = strict_of h s.twinned s.plane u d.0 out

  round : IsRoundOn (sooner_by earlier) (OutOf (skeleton_of h) (point_in h u))
  round = round_by earlier (OutOf (skeleton_of h) (point_in h u)) strict

  apart : IsApart (OutOf (skeleton_of h) (point_in h u)) (turns_in h) u.0
  apart = apart_of earlier (OutOf (skeleton_of h) (point_in h u)) (turns_in h) u.0 ring

  -- the dart before d in the ring of u
  before : (c : ℕ) × Out (turns_in h) u.0 c × (after_in h (dart_id c) ≡ d)
  before =
      let b = some_before (sooner_by earlier) (OutOf (skeleton_of h) (point_in h u)) round (turns_in h) u.0 apart (names_out h u) (listed_out h u) d.0 out in
      (b.0, b.1, ap dart_id (one_after (sooner_by earlier) (OutOf (skeleton_of h) (point_in h u)) round (turns_in h) u.0 apart b.0 (after_in h (dart_id b.0)).0 d.0 b.1 (ring.follows b.0 b.1) b.2))

  -- d was alone, and no dart is left
  none_left : after_in h d ≡ d → (n : ℕ) → Out (turns_in g) u.0 n → ⊥
  none_left q n o =
      let f = subst (λ z. IsAfter (sooner_by earlier) (turns_in h) u.0 d.0 z.0) q (ring.follows d.0 out) in
      not_first g h d m u w l p (dart_id n) o.0 (ap dart_id (alone (sooner_by earlier) (OutOf (skeleton_of h) (point_in h u)) round (turns_in h) u.0 apart d.0 n (into g h d m u w l p u n o) f))

  empty_ring : ((n : ℕ) → Out (turns_in g) u.0 n → ⊥) → RingOf g u
  empty_ring none = record { inside = λ c o. absurd (none c o); follows = λ c o. absurd (none c o); differ = λ c e o. absurd (none c o) }

  gone : (c : ℕ) → Out (turns_in h) u.0 c → after_in h (dart_id c) ≡ d → c ≢ d.0 → IsRemove (OutOf (skeleton_of g) (point_in g u)) (turns_in h) (turns_in g) u.0 d.0 c
  gone c oc q ne = record {
    from = λ n o. (into g h d m u w l p u n o, λ e. not_first g h d m u w l p (dart_id n) o.0 (ap dart_id e));
    into = from_start g h d m u w l p;
    x_out = out;
    a_out = oc;
    other = ne;
    before = ap (λ z. z.0) q;
    inside = out_of g twinned plane u;
    way = λ n o nd. sym (way g h d m u w l p twinned u n (from_start g h d m u w l p n o nd));
    after_a = ap (λ z. z.0) (r.first (dart_id c) (from_start g h d m u w l p c oc ne).0 q);
    after = λ n o nd na. ap (λ z. z.0) (r.others (dart_id n) (from_start g h d m u w l p n o nd).0
        (λ e. na (one_before n c o oc (e ∙ sym q))) (after_not u w n m o p.source_second p.two_ends));
  }

  pub ring_left : RingOf g u
  ring_left =
      elim (cases_eq before.0 d.0) [
        | inl q ↦ empty_ring (none_left (ap (λ z. after_in h (dart_id z)) (sym q) ∙ before.2))
        | inr ne ↦
            removed earlier (turns_in h) (turns_in g) u.0 (OutOf (skeleton_of h) (point_in h u)) (OutOf (skeleton_of g) (point_in g u)) strict d.0 before.0
            (gone before.0 before.1 before.2 ne) ring
      ]

  pub ring_elsewhere : (x : VertexId) → HasVertex g x → x ≢ u → x ≢ w → RingOf g x
  ring_elsewhere x has nu nw =
      ring_down g h d m u w l p twinned plane x nu nw
      (λ n o. let k = into g h d m u w l p x n o in sym (r.others (dart_id n) o.0 (after_not x u n d k p.source_first nu) (after_not x w n m k p.source_second nw)))
      (sound_views_have_rings h x s (vertex_up g h d m u w l p x has))

pub rings_shrink : (g h : View) (d m : DartId) (u w : VertexId) (l : Line) (p : IsEdgeMore g h d m u w l) → IsGraphSound h → IsShrunk g h d m → IsPlaneSkeleton (skeleton_of g) → (x : VertexId) → HasVertex g x → RingOf g x
rings_shrink g h d m u w l p s r plane x has =
    elim (cases_eq x.0 u.0) [
      | inl q ↦ subst (λ z. RingOf g z) (sym (ap vertex_id q)) (ring_left g h d m u w l p s r plane)
      | inr nu ↦ elim (cases_eq x.0 w.0) [
        | inl q ↦ subst (λ z. RingOf g z) (sym (ap vertex_id q)) (ring_left g h m d w u l (swapped g h d m u w l p) s (turned_round g h d m r) plane)
        | inr nw ↦ ring_elsewhere g h d m u w l p s r plane x has (λ q. nu (ap (λ z. z.0) q)) (λ q. nw (ap (λ z. z.0) q))
      ]
    ]
