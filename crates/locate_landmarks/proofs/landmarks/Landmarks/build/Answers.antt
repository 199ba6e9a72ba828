use Rattle.std.proofs.Common.{◌≡◌, ℕ, ◌+◌, arith, sym, subst, List}
use Rattle.exact_plane.specs.Point.{Point}
use Rattle.dcel_records.specs.RecordsView.{RecordsView, tables_of}
use Rattle.dcel_records.specs.declared.spot.Spot.{Spot}
use Rattle.face_location.specs.Spots.{IsSpotOf}
use Rattle.locate_walk.specs.Looks.{IsBelowOrNone}
use Rattle.locate_landmarks.specs.Built.{IsColumnBelow}
use Rattle.locate_landmarks.specs.Grid.{landmark_at}
use Rattle.locate_landmarks.proofs.Filled.{IsFilled, filled_on}
use Rattle.locate_landmarks.proofs.landmarks.Landmarks.build.Goals as goal

pub loop-index-preserved : goal.loop-index-preserved
loop-index-preserved c =
    let h = c.args.records.now in
    let n = c.loop-index.index in
    let i = c.loop-index.invariant in
    let r = c.spot_of-spot.result in
    let s = subst (λ (p : Point). IsSpotOf h.graph (tables_of h) p r.0) c.landmark_at.ensures
    (subst (λ (x : RecordsView). IsSpotOf x.graph (tables_of x) c.landmark_at.result r.0) i.1 c.spot_of-spot.ensures.spot) in
    let b = subst (λ (p : Point). IsBelowOrNone h.graph p r.1) c.landmark_at.ensures
    (subst (λ (x : RecordsView). IsBelowOrNone x.graph c.landmark_at.result r.1) i.1 c.spot_of-spot.ensures.last) in (
      subst (λ (xs : List Spot). IsFilled xs h.graph (tables_of h) (n + 1)) (sym c.push_reserved.ensures.items) (filled_on h.graph (tables_of h) c.loop-index.self-inside.spots.items n r.0 i.0 s),
      i.1,
      omega (arith, i.2, c.push_reserved.ensures.len, c.push_reserved.ensures.capacity, c.loop-index-test.true),
      λ k e m. let same : n ≡ k = omega (arith, e) in subst (λ (j : ℕ). IsBelowOrNone h.graph (landmark_at j) r.1) same b,
    )

pub first_below-first-requires-clause-last : goal.first_below-first-requires-clause-last
first_below-first-requires-clause-last c = subst (λ (x : RecordsView). IsColumnBelow x.graph c.loop-index.index c.loop-index.last) (sym c.loop-index.invariant.1) c.loop-index.invariant.3
