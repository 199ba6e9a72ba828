use Rattle.std.proofs.Common.{◌≡◌, ◌≤◌, ◌+◌, ℕ, List, get_or, refl, sym, subst, arith}
use Rattle.counted_looks.specs.Looks.{vertex_looks}
use Rattle.slab_laws.specs.declared.names.FaceId.{FaceId}
use Rattle.dcel_records.specs.RecordsView.{tables_of}
use Rattle.dcel_records.specs.declared.spot.Spot.{Spot}
use Rattle.face_location.specs.Spots.{IsSpotOf}
use Rattle.locate_landmarks.specs.Grid.{landmark_at}
use Rattle.locate_landmarks.specs.Ways.{way_size, IsFaceAt, IsWay}
use Rattle.locate_landmarks.specs.declared.course.Course.{Course}
use Rattle.locate_landmarks.proofs.landmarks.Landmarks.locate.Goals as goal

-- the question for the vertex goes before the walk
counted_after : (w o v s n : ℕ) → s ≡ o + v → w ≤ s + n → w ≤ o + (v + n)
counted_after w o v s n e h = omega arith

pub returns-in-Some-clause-spot : goal.returns-in-Some-clause-spot
returns-in-Some-clause-spot g c = record { met = c.in-Some.ensures.vertex; face = tt }

pub returns-in-Some-clause-looks : goal.returns-in-Some-clause-looks
returns-in-Some-clause-looks g c = λ free. absurd (free c.in-Some.vertex c.in-Some.ensures.vertex.0 c.in-Some.ensures.vertex.1)

pub returns-clause-spot : goal.returns-clause-spot
returns-clause-spot g c = subst (λ (x : Course). IsSpotOf c.args.glance.now.graph (tables_of c.args.glance.now) x.point c.walk_from.result) c.to.ensures c.walk_from.ensures.spot

-- no vertex is there
pub returns-clause-asked : goal.returns-clause-asked
returns-clause-asked g c = λ v e.
    let h = c.args.glance.now in
    let s = subst (λ (x : Course). IsSpotOf h.graph (tables_of h) x.point c.walk_from.result) c.to.ensures c.walk_from.ensures.spot in
    let t = subst (λ (r : Spot). IsSpotOf h.graph (tables_of h) c.args.p.now r) e s in
    absurd (c.in_default.ensures.vertex v t.met.0 t.met.1)

pub returns-clause-looks : goal.returns-clause-looks
returns-clause-looks g c = λ free.
    let h = c.args.glance.now in
    let k = c.landmark_index-index.result in
    let spot = c.index.result.now in
    let y = c.walk_from.ensures.looks in
    let listed = subst (λ (xs : List Spot). IsSpotOf h.graph (tables_of h) (landmark_at k) (get_or xs k spot)) (sym c.self.view_is) (c.requires.built.there k spot c.landmark_index-index.ensures.within) in (
      way_size h c.args.p.now y.0,
      (
        k,
        y.0,
        record {
          landmark = c.landmark_index-index.ensures.nearest;
          start = (
            spot,
            subst (IsSpotOf h.graph (tables_of h) (landmark_at k)) (sym c.index.ensures) listed,
            subst (λ (a : FaceId). IsFaceAt h.graph (tables_of h) spot a) (sym y.1) c.face_at-face.ensures.at,
          );
          way = subst (λ (x : Course). IsWay h x y.0) c.to.ensures y.2;
        },
        refl,
      ),
      counted_after c.walk_from.new.steps c.args.steps.now (vertex_looks h) c.vertex_at.new.steps (way_size h c.args.p.now y.0) c.vertex_at.ensures.looks (subst (λ (x : Course). c.walk_from.new.steps ≤ c.vertex_at.new.steps + way_size h x.point y.0) c.to.ensures y.3),
    )
