-- What is known after a round of a face's boundary for a query.
use Rattle.std.proofs.Common.{◌≡◌, refl, sym, ◌∙◌, inl, subst}
use Rattle.std.specs.Prelude.{Option, None, IfSome}
use Rattle.exact_plane.specs.Point.{Point}
use Rattle.plane_graphs.specs.Line.{IsProper}
use Rattle.slab_laws.specs.declared.names.FaceId.{FaceId}
use Rattle.slab_laws.specs.FacesSound.{IsSound}
use Rattle.slab_laws.specs.View.{View, Faces}
use Rattle.dcel_records.specs.RecordsView.{tables_of}
use Rattle.dcel_records.specs.SoundMaps.{IsSoundMap}
use Rattle.dcel_records.specs.declared.spot.Spot.{Spot}
use Rattle.dcel_records.specs.declared.spot.Spot.TheVariants.{Face}
use Rattle.face_location.specs.Spots.{IsSpotOf}
use Rattle.walk_laws.specs.Walks.{face_above, IsBoundaryPassed}
use Rattle.walk_laws.proofs.Named.{walk_ends_in_face}
use Rattle.locate_walk.specs.Looks.{dart_of, IsBelowOrNone}
use Rattle.locate_walk.specs.Rounds.{IsHighestRound}
use Rattle.locate_walk.specs.declared.found.EdgeBelow.{EdgeBelow}
use Rattle.locate_walk.proofs.Rounds.{seen_or_none}
use Rattle.locate_landmarks.specs.Lowest.{IsAbove, IsEntry}
use Rattle.locate_landmarks.specs.Surveys.{MaySurvey}
use Rattle.locate_landmarks.specs.declared.survey.Survey.{Survey}

-- a survey that has found nothing
pub begun : (k : Survey) → IsSoundMap k.highest.glance.now → IsProper k.highest.point → k.highest.best ≡ None → k.highest.hit ≡ None → IsAbove k.highest.glance.now.graph k.highest.point k.descent.lowest → IsEntry k.highest.glance.now.graph k.highest.point k.descent.entry → MaySurvey k.highest.glance.now.graph k k
begun k map proper best hit lowest entry =
    let v = k.highest.glance.now.graph in
    record {
      highest = record {
        graph = refl;
        map = map;
        glance = refl;
        face = refl;
        point = refl;
        proper = proper;
        best = subst (λ (o : Option EdgeBelow). IsBelowOrNone v k.highest.point o) (sym best) tt;
        hit = subst (λ (o : Option Spot). IfSome o (IsSpotOf v (tables_of k.highest.glance.now) k.highest.point)) (sym hit) tt;
        raised = inl refl;
      };
      lowest = lowest;
      lowered = inl refl;
      entry = entry;
      downward = refl;
    }

-- the point is in the face that is the one over the highest edge
pub settled_here : (v : View) (f : Faces) (q : Point) (a over : FaceId) (best : Option EdgeBelow) → IsSound v f → IsProper q → IsHighestRound v f q a None best → over ≡ face_above f (dart_of best) → over ≡ a → IsSpotOf v f q (Face a)
settled_here v f q a over best s Q r is e =
    let there : a ≡ face_above f (dart_of best) = sym e ∙ is in
    subst (λ (x : FaceId). IsSpotOf v f q (Face x)) (sym there)
    (walk_ends_in_face v f q (dart_of best) s Q (seen_or_none v q best r.below) (subst (IsBoundaryPassed v f q (dart_of best)) there r.passed))
