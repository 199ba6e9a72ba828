-- An edge with a face on either side: what parts a face where it comes, and unites two where it goes.
-- f stands beside the view v without the edge, s beside w with it; x comes after the dart a, and y, its twin, after b.
use Rattle.std.specs.Prelude.{◌≡◌, ◌≢◌, ◌↔◌}
use Rattle.exact_plane.specs.Line.{Line}
use Rattle.slab_laws.specs.declared.names.CycleId.{CycleId}
use Rattle.slab_laws.specs.declared.names.CycleKind.TheVariants.{Outer}
use Rattle.slab_laws.specs.declared.names.DartId.{DartId}
use Rattle.slab_laws.specs.declared.names.FaceId.{FaceId}
use Rattle.slab_laws.specs.declared.names.VertexId.{VertexId}
use Rattle.slab_laws.specs.FacesSound.{lead_in, IsCycled}
use Rattle.slab_laws.specs.View.{View, Faces, HasDart, HasFace, cycle_in, kind_in, face_in, bare_face_in, next_in}
use Rattle.face_changes.specs.FacesByPairs.{round, HasItem, first_or, AreFacesTold}
use Rattle.face_changes.specs.RecordsAfterSplits.{IsLinkedWithin}
use Rattle.face_steps.specs.EdgePairs.{IsEdgeApart}

-- x is on the outer cycle gone, y on kept; without the edge the darts of gone are on kept, and what has gone's face has kept's (CGAL manual, `remove_edge`)
pub record IsUniteApart (v : View) (f s : Faces) (x y : DartId) (kept gone : CycleId) (gone_face : FaceId) : Type 0 where
  pub first : cycle_in s x ≡ gone
  pub second : cycle_in s y ≡ kept
  pub outer : kind_in s gone ≡ Outer
  pub face_gone : face_in s gone ≡ gone_face
  pub faces : (b : FaceId) → HasFace f b ↔ (HasFace s b × (b ≢ gone_face))
  pub first_stays : first_or f.faces ≡ first_or s.faces
  pub moved : (k : DartId) → HasDart v k → cycle_in s k ≡ gone → cycle_in f k ≡ kept
  pub others : (k : DartId) → HasDart v k → cycle_in s k ≢ gone → cycle_in f k ≡ cycle_in s k
  pub kinds : (k : DartId) → HasDart v k → cycle_in s k ≢ gone → kind_in f (cycle_in s k) ≡ kind_in s (cycle_in s k)
  pub face_kept : face_in f kept ≡ face_in s kept
  pub face_moved : (k : DartId) → HasDart v k → cycle_in s k ≢ gone → face_in s (cycle_in s k) ≡ gone_face → face_in f (cycle_in s k) ≡ face_in s kept
  pub face_off : (k : DartId) → HasDart v k → cycle_in s k ≢ gone → face_in s (cycle_in s k) ≢ gone_face → face_in f (cycle_in s k) ≡ face_in s (cycle_in s k)
  pub bare_moved : (u : VertexId) → HasItem v (round u) → bare_face_in s u ≡ gone_face → bare_face_in f u ≡ face_in s kept
  pub bare_off : (u : VertexId) → HasItem v (round u) → bare_face_in s u ≢ gone_face → bare_face_in f u ≡ bare_face_in s u

-- two faces become one where the edge goes; what parts one where it comes is face_changes' law of records after splits (this project)
pub record TwoFacesApart : Type 0 where
  -- two places of one cycle without the edge, and two cycles with it, are one case
  pub within : (v w : View) (x y : DartId) (p q : VertexId) (l : Line) (a b : DartId) → IsEdgeApart v w x y p q l → HasDart v a → HasDart v b → next_in w a ≡ x → next_in w b ≡ y → (lead_in v a ≡ lead_in v b) ↔ (lead_in w x ≢ lead_in w y)
  pub linked : (v w : View) (x y : DartId) (p q : VertexId) (l : Line) (a b : DartId) → IsEdgeApart v w x y p q l → HasDart v a → HasDart v b → next_in w a ≡ x → next_in w b ≡ y → lead_in v a ≡ lead_in v b → IsLinkedWithin v w x y a
  pub united_cycles : (v w : View) (f s : Faces) (x y : DartId) (p q : VertexId) (l : Line) (a b : DartId) (kept gone : CycleId) (gone_face : FaceId) → IsEdgeApart v w x y p q l → HasDart v a → HasDart v b → next_in w a ≡ x → next_in w b ≡ y → lead_in w x ≢ lead_in w y → IsUniteApart v f s x y kept gone gone_face → IsCycled w s → IsCycled v f
  pub united_faces : (v w : View) (f s : Faces) (x y : DartId) (p q : VertexId) (l : Line) (a b : DartId) (kept gone : CycleId) (gone_face : FaceId) → IsEdgeApart v w x y p q l → HasDart v a → HasDart v b → next_in w a ≡ x → next_in w b ≡ y → lead_in w x ≢ lead_in w y → IsUniteApart v f s x y kept gone gone_face → IsCycled w s → AreFacesTold w s → AreFacesTold v f
