-- What a look keeps: the highest edge so far rises, and what was clear stays clear.
use Rattle.std.specs.Option.{is_some}
use Rattle.std.proofs.Common.{◌≡◌, ◌<◌, ◌≤◌, true, false, cond, arith, refl, sym, ap, ◌∙◌, inl, inr, subst}
use Rattle.std.specs.Prelude.{◌⊎◌, ◌||◌, Option, Some, None, IsSome}
use Rattle.std.proofs.lemmas.Bool.{cases_Bool, eqb-true, false≢true}
use Rattle.std.proofs.lemmas.Int.{ints}
use Rattle.exact_plane.specs.Point.{Point}
use Rattle.plane_graphs.specs.Graph.{Edge as PlaneEdge}
use Rattle.plane_graphs.specs.Line.{IsProper}
use Rattle.slab_laws.specs.declared.names.DartId.{DartId}
use Rattle.slab_laws.specs.declared.names.FaceId.{FaceId}
use Rattle.slab_laws.specs.Sound.{skeleton_of, edge_in, IsGraphSound}
use Rattle.slab_laws.specs.SpansDrawn.{edge_of}
use Rattle.slab_laws.specs.View.{View, Faces, dart_id}
use Rattle.slab_faces.proofs.OverUnder.{under_out}
use Rattle.counted_looks.specs.declared.boundary_part.BoundaryPart.{BoundaryPart}
use Rattle.counted_looks.specs.declared.boundary_part.BoundaryPart.TheVariants.{Dart, Isolated}
use Rattle.dcel_records.specs.RecordsView.{tables_of}
use Rattle.dcel_records.specs.declared.spot.Spot.{Spot}
use Rattle.edge_predicates.specs.Above.{is_above}
use Rattle.edge_predicates.specs.Levels.{level}
use Rattle.edge_predicates.proofs.Levels.{levels_tell_highest}
use Rattle.walk_laws.specs.Walks.{height}
use Rattle.locate_walk.specs.Finds.{IsFound}
use Rattle.locate_walk.specs.Looks.{dart_of, is_best, higher_edge, IsBelowOrNone, IsRaised, is_settled, taken, HasLooked, IsPartClear, MayLook, HasSeen}
use Rattle.locate_walk.specs.declared.found.EdgeBelow.{EdgeBelow}
use Rattle.locate_walk.specs.declared.found.Found.{Found}
use Rattle.locate_walk.specs.declared.found.Found.TheVariants.{At, Below, Past}
use Rattle.locate_walk.specs.declared.highest.Highest.{Highest}
use Rattle.locate_walk.proofs.Finds.{spanning_off, aside_outside}

module _ (v : View) (q : Point) where
  pub raised_from : {o p : Option DartId} → IsRaised v q o p → height v q o ≤ height v q p
  raised_from {o} {p} (inl e) = subst (λ x. height v q o ≤ height v q x) (sym e) (omega arith)
  raised_from (inr l) = omega arith

  raised_trans : {o p r : Option DartId} → IsRaised v q o p → IsRaised v q p r → IsRaised v q o r
  raised_trans {o} {p} {r} a (inl e) = subst (IsRaised v q o) (sym e) a
  raised_trans {o} {p} {r} a (inr l) = let k = raised_from a in inr (omega arith)

  -- ---- the higher of the highest so far and one more
  -- it is one that the point sees, and is as high as both
  record IsHigher (o : Option EdgeBelow) (e r : EdgeBelow) : Type 0 where
    below : IsBelowOrNone v q (Some r)
    raised : IsRaised v q (dart_of o) (Some r.dart)
    covers : level (skeleton_of v) q (edge_in v e.dart) < height v q (Some r.dart)

  is_higher : IsGraphSound v → IsProper q → (o : Option EdgeBelow) (e : EdgeBelow) → IsBelowOrNone v q o → IsBelowOrNone v q (Some e) → IsHigher o e (higher_edge o e)
  is_higher s Q None e p k = record { below = k; raised = inr (omega arith); covers = omega arith }
  is_higher s Q (Some b) e p k =
      let same : is_above (edge_of e.edge) (edge_of b.edge) ≡ is_above (edge_in v e.dart) (edge_in v b.dart) = λ i. is_above (k.1 i) (p.1 i) in
      elim (cases_Bool (is_above (edge_of e.edge) (edge_of b.edge))) [
        | inl a ↦
            let l = levels_tell_highest.above (skeleton_of v) q (edge_in v e.dart) (edge_in v b.dart) s.plane Q.positive k.0.1 p.0.1 (sym same ∙ a) in
            subst (IsHigher (Some b) e) (sym (ap (λ x. cond x e b) a)) (record { below = k; raised = inr (omega arith); covers = omega arith })
        | inr a ↦
            let l = levels_tell_highest.not_above (skeleton_of v) q (edge_in v e.dart) (edge_in v b.dart) s.plane Q.positive k.0.1 p.0.1 (sym same ∙ a) in
            subst (IsHigher (Some b) e) (sym (ap (λ x. cond x e b) a)) (record { below = p; raised = inl refl; covers = omega arith })
      ]

  -- ---- what is clear
  clear_still : (f : Faces) (a : FaceId) (o p : Option DartId) (t : BoundaryPart) → IsRaised v q o p → IsPartClear v f q a o t → IsPartClear v f q a p t
  clear_still f a o p (Dart d) r c = λ n. let e = c n in record { off_source = e.off_source; off_target = e.off_target; off_edge = e.off_edge; no_higher = λ y. let l = e.no_higher y in let k = raised_from r in omega arith }
  clear_still f a o p (Isolated w) r c = c

  past_clear : (f : Faces) (a : FaceId) (o : Option DartId) (t : BoundaryPart) → IsFound v f q a t Past → IsPartClear v f q a o t
  past_clear f a o (Dart d) c = λ n. let e = c n in record { off_source = e.0.off_source; off_target = e.0.off_target; off_edge = e.1.outside; no_higher = λ y. absurd (e.1.unseen y) }
  past_clear f a o (Isolated w) c = c

  below_seen : (f : Faces) (a : FaceId) (t : BoundaryPart) (b : EdgeBelow) → IsFound v f q a t (Below b) → IsBelowOrNone v q (Some b)
  below_seen f a (Dart d) b c = (c.1.seen, c.2)
  below_seen f a (Isolated w) b c = absurd c

  below_clear : (f : Faces) (a : FaceId) (p : Option DartId) (t : BoundaryPart) (b : EdgeBelow) → IsFound v f q a t (Below b) → level (skeleton_of v) q (edge_in v b.dart) < height v q p → IsPartClear v f q a p t
  below_clear f a p (Dart d) b c l = λ n. record {
    off_source = c.0.off_source;
    off_target = c.0.off_target;
    off_edge = c.1.outside;
    no_higher = λ y. subst (λ (e : PlaneEdge). level (skeleton_of v) q e < height v q p) c.1.along l;
  }
  below_clear f a p (Isolated w) b c l = absurd c

-- ---- one look
module _ (k h : Highest) (t : BoundaryPart) (m : MayLook h.glance.now.graph k h) where
  abbrev v : View
  v = h.glance.now.graph

  abbrev f : Faces
  f = tables_of h.glance.now

  up : (b : EdgeBelow) → IsFound v f h.point h.face t (Below b) → IsHigher v h.point h.best b (higher_edge h.best b)
  up b c = is_higher v h.point m.map.sound.graph m.proper h.best b m.best (below_seen v h.point f h.face t b c)

  may : (r : Found) → IsFound v f h.point h.face t r → MayLook v k (taken h r)
  may (At s) c = record { graph = m.graph; map = m.map; glance = m.glance; face = m.face; point = m.point; proper = m.proper; best = m.best; hit = c; raised = m.raised }
  may (Below b) c = record {
    graph = m.graph;
    map = m.map;
    glance = m.glance;
    face = m.face;
    point = m.point;
    proper = m.proper;
    best = (up b c).below;
    hit = m.hit;
    raised = raised_trans v h.point m.raised (up b c).raised;
  }
  may Past c = m

  seen : (r : Found) → IsFound v f h.point h.face t r → HasSeen v (taken h r) t
  seen (At s) c = λ e. absurd cc
  seen (Below b) c = λ e. below_clear v h.point f h.face (Some (higher_edge h.best b).dart) t b c (up b c).covers
  seen Past c = λ e. past_clear v h.point f h.face (dart_of h.best) t c

  still : (r : Found) → IsFound v f h.point h.face t r → (x : BoundaryPart) → HasSeen v h x → HasSeen v (taken h r) x
  still (At s) c x y = λ e. absurd cc
  still (Below b) c x y = λ e. clear_still v h.point f h.face (dart_of h.best) (Some (higher_edge h.best b).dart) x (up b c).raised (y e)
  still Past c x y = y

-- the same for the graph that is walked on, and for what stands after the look
module _ (v : View) (h l : Highest) (t : BoundaryPart) (r : Found) (found : IsFound h.glance.now.graph (tables_of h.glance.now) h.point h.face t r) (e : l ≡ taken h r) where
  look_may : (k : Highest) → MayLook v k h → MayLook v k l
  look_may k m = subst (MayLook v k) (sym e) (subst (λ (w : View). MayLook w k h → MayLook w k (taken h r)) m.graph (λ n. may k h t n r found) m)

  look_seen : (k : Highest) → MayLook v k h → HasSeen v l t
  look_seen k m = subst (λ (x : Highest). HasSeen v x t) (sym e) (subst (λ (w : View). MayLook w k h → HasSeen w (taken h r) t) m.graph (λ n. seen k h t n r found) m)

  look_still : (k : Highest) → MayLook v k h → (x : BoundaryPart) → HasSeen v h x → HasSeen v l x
  look_still k m x y =
      subst (λ (z : Highest). HasSeen v z x) (sym e)
      (subst (λ (w : View). MayLook w k h → HasSeen w h x → HasSeen w (taken h r) x) m.graph (λ n z. still k h t n r found x z) m y)

-- ---- a look that is none once the point was met
met_or_not : (o : Option Spot) → IsSome o ⊎ (o ≡ None)
met_or_not None = inr refl
met_or_not (Some s) = inl refl

module _ (v : View) (h l : Highest) (t : BoundaryPart) (c : HasLooked h t l) where
  pub looked_may : (k : Highest) → MayLook v k h → MayLook v k l
  looked_may k m = elim (met_or_not h.hit) [
    | inl s ↦ subst (MayLook v k) (sym (c.met s)) m
    | inr n ↦ let f = c.found n in look_may v h l t f.0 f.1 f.2 k m
  ]

  pub looked_seen : (k : Highest) → MayLook v k h → HasSeen v l t
  looked_seen k m = elim (met_or_not h.hit) [
    | inl s ↦ λ n. let there = subst IsSome (sym (ap (λ (z : Highest). z.hit) (c.met s)) ∙ n) s in absurd (false≢true there)
    | inr n ↦ let f = c.found n in look_seen v h l t f.0 f.1 f.2 k m
  ]

  pub looked_still : (k : Highest) → MayLook v k h → (x : BoundaryPart) → HasSeen v h x → HasSeen v l x
  looked_still k m x y = elim (met_or_not h.hit) [
    | inl s ↦ subst (λ (z : Highest). HasSeen v z x) (sym (c.met s)) y
    | inr n ↦ let f = c.found n in look_still v h l t f.0 f.1 f.2 k m x y
  ]

-- ---- a dart of which nothing more is to be found
-- the higher of an edge and itself is that edge
higher_itself : (b : EdgeBelow) → higher_edge (Some b) b ≡ b
higher_itself b = elim (cases_Bool (is_above (edge_of b.edge) (edge_of b.edge))) [ inl h ↦ ap (λ x. cond x b b) h | inr h ↦ ap (λ x. cond x b b) h ]

-- so the highest edge so far is found again at its dart, and kept
found_again : (v : View) (f : Faces) (s : IsGraphSound v) (q : Point) (Q : IsProper q) (a : FaceId) (o : Option EdgeBelow) (d : DartId) → IsBelowOrNone v q o → is_best o d ≡ true → (b : EdgeBelow) × IsFound v f q a (Dart d) (Below b) × (o ≡ Some (higher_edge o b))
found_again v f s q Q a None d p e = absurd (false≢true e)
found_again v f s q Q a (Some b) d p e =
    let k = p.0.1 in
    let off = aside_outside (edge_in v b.dart) q (λ y z. let u = under_out (edge_in v b.dart) q k.lies_under in absurd (omega (arith, ints))) in
    let there : IsFound v f q a (Dart b.dart) (Below b) = (spanning_off v s q Q b.dart p.0.0.0 k.spanning, record { outside = off; along = refl; seen = p.0 }, p.1) in
    (b, subst (λ (x : DartId). IsFound v f q a (Dart x) (Below b)) (ap dart_id (eqb-true b.dart.0 d.0 e)) there, ap Some (sym (higher_itself b)))

module _ (h : Highest) (d : DartId) where
  pub settled_looked : IsGraphSound h.glance.now.graph → IsProper h.point → IsBelowOrNone h.glance.now.graph h.point h.best → is_settled h d ≡ true → HasLooked h (Dart d) h
  settled_looked s Q p e = record {
    met = λ m. refl;
    found = λ n.
        let k = found_again h.glance.now.graph (tables_of h.glance.now) s h.point Q h.face h.best d p (ap (λ (o : Option Spot). is_some o || is_best h.best d) (sym n) ∙ e) in
        (Below k.0, k.1, ap (λ (o : Option EdgeBelow). record h { best = o }) k.2);
  }

  -- of another one, what was found is kept
  pub found_looked : (l : Highest) (r : Found) → is_settled h d ≡ false → IsFound h.glance.now.graph (tables_of h.glance.now) h.point h.face (Dart d) r → l ≡ taken h r → HasLooked h (Dart d) l
  found_looked l r e c t = record {
    met = λ s. absurd (false≢true (sym e ∙ ap (λ b. b || is_best h.best d) s));
    found = λ n. (r, c, t);
  }
