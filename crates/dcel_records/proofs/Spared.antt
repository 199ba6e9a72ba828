-- Room of cycles and faces that is left as it was.
use Rattle.std.proofs.Common.{◌≡◌, refl, ap, ◌∙◌, arith}
use Rattle.slab_laws.specs.View.{Faces}
use Rattle.dcel_records.specs.RecordsView.{FacesView, IsSpareFaces}

pub none_spent : (f : FacesView) → IsSpareFaces f f 0 0
none_spent f = record { of_cycles = omega arith; of_faces = omega arith; capacity_of_cycles = refl; capacity_of_faces = refl }

pub spare_then : {f g h : FacesView} → IsSpareFaces f g 0 0 → IsSpareFaces g h 0 0 → IsSpareFaces f h 0 0
spare_then a b =
    let i = a.of_cycles in
    let j = b.of_cycles in
    let m = a.of_faces in
    let n = b.of_faces in
    record { of_cycles = omega (arith, i, j); of_faces = omega (arith, m, n); capacity_of_cycles = b.capacity_of_cycles ∙ a.capacity_of_cycles; capacity_of_faces = b.capacity_of_faces ∙ a.capacity_of_faces }

-- other tables alone spend no room
pub same_spare : (f g : FacesView) (t : Faces) → g ≡ record f { tables = t } → IsSpareFaces f g 0 0
same_spare f g t e =
    let a = ap (λ (x : FacesView). x.spare_cycles) e in
    let b = ap (λ (x : FacesView). x.spare_faces) e in
    record { of_cycles = omega (arith, a); of_faces = omega (arith, b); capacity_of_cycles = ap (λ x. x.capacity_of_cycles) e; capacity_of_faces = ap (λ x. x.capacity_of_faces) e }
