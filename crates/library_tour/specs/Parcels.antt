-- Which parcels have land in which faces, and what becomes of that where faces are split and united.
use Rattle.std.specs.Prelude.{◌≡◌, ◌≢◌, ◌⊎◌, ◌↔◌, ◌==◌, ℕ, Bool, List, [], Option, Some, None, cond, map, filter}
use Rattle.std.specs.BTreeMap.{BTreeMap, get}
use Rattle.std.specs.Ordering.{nat_cmp}
use Rattle.plane_graphs.specs.Ascending.{Member, ascending}
use Rattle.slab_laws.specs.declared.names.CycleId.{CycleId}
use Rattle.slab_laws.specs.declared.names.FaceId.{FaceId}
use Rattle.arr_notes.specs.declared.change.Change.{Change}
use Rattle.arr_notes.specs.declared.change.Change.TheVariants.{AddEdge, RemoveEdge, Clear}
use Rattle.arr_notes.specs.declared.faces.Linked.{Linked}
use Rattle.arr_notes.specs.declared.faces.Linked.TheVariants.{Splits}
use Rattle.arr_notes.specs.declared.faces.Unlinked.{Unlinked}
use Rattle.arr_notes.specs.declared.faces.Unlinked.TheVariants.{Unites}
use Rattle.library_tour.specs.declared.parcels.Land.{Land}
use Rattle.library_tour.specs.declared.parcels.ParcelId.{ParcelId}

abbrev pub land : FaceId → ParcelId → Land
land f n = record { face = f; parcel = n }

abbrev pub is_in : FaceId → Land → Bool
is_in f l = l.face.0 == f.0

-- the numbers of the parcels that have land in the face, ascending, each once
abbrev pub parcels_in : FaceId → List Land → List ℕ
parcels_in f ls = ascending nat_cmp (map (λ l. l.parcel.0) (filter (is_in f) ls))

-- a part of the face `from` is now the face `fresh`: each parcel that had land in it has land in both
abbrev pub IsShared : FaceId → FaceId → List Land → List Land → Type 0
IsShared from fresh old new = (f : FaceId) (n : ParcelId) → Member (land f n) new ↔ (Member (land f n) old ⊎ ((f ≡ fresh) × Member (land from n) old))

-- the face `gone` is now a part of the face `kept`, and so is the land in it
abbrev pub IsUnited : FaceId → FaceId → List Land → List Land → Type 0
IsUnited gone kept old new = (f : FaceId) (n : ParcelId) → Member (land f n) new ↔ ((Member (land f n) old × (f ≢ gone)) ⊎ ((f ≡ kept) × Member (land gone n) old))

-- where the face is known that is split
abbrev pub IsSharedWhere : Option FaceId → FaceId → List Land → List Land → Type 0
IsSharedWhere None fresh old new = new ≡ old
IsSharedWhere (Some from) fresh old new = IsShared from fresh old new

-- where the face is known with which one is united
abbrev pub IsUnitedWhere : Option FaceId → FaceId → List Land → List Land → Type 0
IsUnitedWhere None gone old new = new ≡ old
IsUnitedWhere (Some kept) gone old new = IsUnited gone kept old new

-- the face that a boundary bounds by the table
abbrev pub face_of : BTreeMap ℕ FaceId → CycleId → Option FaceId
face_of m c = get nat_cmp m c.0

-- the land of one face once more, as land of another
abbrev pub copied : FaceId → FaceId → List Land → List Land
copied from to ls = map (λ l. land to l.parcel) (filter (is_in from) ls)

-- land, which is in the face `to` where it was in `from`
abbrev pub moved_one : FaceId → FaceId → Land → Land
moved_one from to l = land (cond (is_in from l) to l.face) l.parcel

abbrev pub owners : FaceId → List Land → List ParcelId
owners f ls = map (λ l. l.parcel) (filter (is_in f) ls)

-- what an edge that comes does to the land
abbrev pub IsLandLinked : (CycleId → Option FaceId) → Linked → List Land → List Land → Type 0
IsLandLinked at (Splits kept fresh d face moved) old new = IsSharedWhere (at kept) face old new
IsLandLinked at other old new = new ≡ old

-- what an edge that goes does to it
abbrev pub IsLandUnlinked : (CycleId → Option FaceId) → Unlinked → List Land → List Land → Type 0
IsLandUnlinked at (Unites kept gone face moved) old new = IsUnitedWhere (at kept) face old new
IsLandUnlinked at other old new = new ≡ old

-- the land after a change, by the face that each boundary bounded before it
abbrev pub IsLandAfter : (CycleId → Option FaceId) → Change → List Land → List Land → Type 0
IsLandAfter at (AddEdge d m u w at_u at_w line curve faces) old new = IsLandLinked at faces old new
IsLandAfter at (RemoveEdge d m faces) old new = IsLandUnlinked at faces old new
IsLandAfter at (Clear face) old new = new ≡ []
IsLandAfter at other old new = new ≡ old
