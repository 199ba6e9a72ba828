-- The kind of a cycle and its least dart as they were read.
use Rattle.std.proofs.Common.{◌≡◌, refl, sym, ap, ◌∙◌, subst}
use denote.Enum.Bare.{sameb}
use Rattle.slab_laws.specs.contracts.names.CycleKind.{the_type}
use Rattle.slab_laws.specs.declared.names.CycleId.{CycleId}
use Rattle.slab_laws.specs.declared.names.CycleKind.{CycleKind}
use Rattle.slab_laws.specs.declared.names.CycleKind.TheVariants.{Outer, Inner}
use Rattle.slab_laws.specs.declared.names.DartId.{DartId}
use Rattle.slab_laws.specs.declared.names.FaceId.{FaceId}
use Rattle.slab_laws.specs.FacesSound.{lead_in, IsSound, IsOuterOf}
use Rattle.slab_laws.specs.Kinds.{is_outer}
use Rattle.slab_laws.specs.Rows.{least_dart_of}
use Rattle.slab_laws.specs.Sound.{skeleton_of, dart_in}
use Rattle.slab_laws.specs.View.{View, Faces, HasDart, cycle_in}
use Rattle.slab_faces.proofs.DartOrder.{lead_lead}
use Rattle.face_ranks.proofs.RankedOuter.{IsLeadOf}

pub outer_told : (k : CycleKind) → sameb the_type k Outer ≡ is_outer k
outer_told Outer = refl
outer_told Inner = refl

module _ (v : View) (f : Faces) (s : IsSound v f) where
  -- the least dart of a dart on an outer cycle
  pub lead_read : (a : FaceId) (c : CycleId) → IsOuterOf f a c → (x : DartId) → HasDart v x → cycle_in f x ≡ c → (d : DartId) → HasDart v d → dart_in v d ≡ lead_in v x → IsLeadOf v f a d
  lead_read a c o x X on d D e =
      let one : lead_in v d ≡ lead_in v x = ap (least_dart_of (skeleton_of v)) e ∙ lead_lead (skeleton_of v) (dart_in v x) in
      record { has = D; outer = subst (IsOuterOf f a) (sym ((s.cycled.orbits d x D X).1 one ∙ on)) o; least = e ∙ sym one }
