-- Land that is shared between two parts of a face, and land that is moved to another face.
use Rattle.std.proofs.Common.{◌≡◌, ◌≢◌, ◌⊎◌, ◌==◌, Bool, true, false, cond, List, ◌++◌, map, inl, inr, ⊎_elim, refl, sym, ap, ◌∙◌, subst}
use Rattle.std.specs.List.{filter}
use Rattle.std.proofs.lemmas.Bool.{false≢true, eqb-true, eq-eqb}
use Rattle.integers.proofs.Tests.{other_number, same_number}
use Rattle.plane_graphs.specs.Ascending.{Member}
use Rattle.plane_graphs.proofs.Lists.{decide, in_either, in_filter, in_left, in_map, in_right, of_filter, of_map}
use Rattle.slab_laws.specs.declared.names.FaceId.{FaceId}
use Rattle.slab_laws.specs.View.{face_id}
use Rattle.library_tour.specs.Parcels.{copied, is_in, land, moved_one, IsShared, IsUnited}
use Rattle.library_tour.specs.declared.parcels.Land.{Land}
use Rattle.library_tour.specs.declared.parcels.ParcelId.{ParcelId}

in_it : (f : FaceId) (l : Land) → is_in f l ≡ true → l.face ≡ f
in_it f l e = ap face_id (eqb-true l.face.0 f.0 e)

out_of_it : (f : FaceId) (l : Land) → is_in f l ≡ false → l.face ≢ f
out_of_it f l e q = false≢true (sym e ∙ eq-eqb l.face.0 f.0 (ap (λ (x : FaceId). x.0) q))

-- what a list has of land, by its face and its parcel
has : (ls : List Land) (l : Land) (f : FaceId) (n : ParcelId) → l.face ≡ f → n ≡ l.parcel → Member l ls → Member (land f n) ls
has ls l f n e p m = subst (λ (k : Land). Member k ls) (λ i. land (e i) (sym p i)) m

-- ---- shared
module _ (from fresh : FaceId) (ls : List Land) where
  was_shared : (f : FaceId) (n : ParcelId) → Member (land f n) (ls ++ copied from fresh ls) → Member (land f n) ls ⊎ ((f ≡ fresh) × Member (land from n) ls)
  was_shared f n m = ⊎_elim (λ i. inl i) (λ c. inr (copy c)) (in_either (land f n) ls (copied from fresh ls) m)
    where
      copy : Member (land f n) (copied from fresh ls) → (f ≡ fresh) × Member (land from n) ls
      copy c =
          let w = of_map (λ (l : Land). land fresh l.parcel) (land f n) (filter (is_in from) ls) c in
          let k = of_filter (is_in from) w.0 ls w.1 in
          (ap (λ (l : Land). l.face) w.2, has ls w.0 from n (in_it from w.0 k.1) (ap (λ (l : Land). l.parcel) w.2) k.0)

  is_shared : (f : FaceId) (n : ParcelId) → Member (land f n) ls ⊎ ((f ≡ fresh) × Member (land from n) ls) → Member (land f n) (ls ++ copied from fresh ls)
  is_shared f n (inl i) = in_left (land f n) ls (copied from fresh ls) i
  is_shared f n (inr (e, i)) =
      subst (λ (g : FaceId). Member (land g n) (ls ++ copied from fresh ls)) (sym e)
      (in_right (land fresh n) ls (copied from fresh ls)
      (in_map (λ (l : Land). land fresh l.parcel) (land from n) (filter (is_in from) ls) (in_filter (is_in from) (land from n) ls i (same_number from.0))))

  pub shared : (new : List Land) → new ≡ ls ++ copied from fresh ls → IsShared from fresh ls new
  shared new e = subst (IsShared from fresh ls) (sym e) (λ f n. (was_shared f n, is_shared f n))

-- ---- united
module _ (gone kept : FaceId) (ls : List Land) where
  was_united : (f : FaceId) (n : ParcelId) → Member (land f n) (map (moved_one gone kept) ls) → (Member (land f n) ls × (f ≢ gone)) ⊎ ((f ≡ kept) × Member (land gone n) ls)
  was_united f n m = by (decide (is_in gone l))
    where
      l : Land
      l = (of_map (moved_one gone kept) (land f n) ls m).0

      there : Member l ls
      there = (of_map (moved_one gone kept) (land f n) ls m).1

      face : f ≡ cond (is_in gone l) kept l.face
      face = ap (λ (k : Land). k.face) (of_map (moved_one gone kept) (land f n) ls m).2

      parcel : n ≡ l.parcel
      parcel = ap (λ (k : Land). k.parcel) (of_map (moved_one gone kept) (land f n) ls m).2

      by : (is_in gone l ≡ true) ⊎ (is_in gone l ≡ false) → (Member (land f n) ls × (f ≢ gone)) ⊎ ((f ≡ kept) × Member (land gone n) ls)
      by (inl t) = inr (face ∙ ap (λ b. cond b kept l.face) t, has ls l gone n (in_it gone l t) parcel there)
      by (inr t) =
          let e : f ≡ l.face = face ∙ ap (λ b. cond b kept l.face) t in
          inl (has ls l f n (sym e) parcel there, λ q. out_of_it gone l t (sym e ∙ q))

  is_united : (f : FaceId) (n : ParcelId) → (Member (land f n) ls × (f ≢ gone)) ⊎ ((f ≡ kept) × Member (land gone n) ls) → Member (land f n) (map (moved_one gone kept) ls)
  is_united f n (inl (i, ne)) =
      let k : moved_one gone kept (land f n) ≡ land f n = ap (λ b. land (cond b kept f) n) (other_number f.0 gone.0 (λ q. ne (ap face_id q))) in
      subst (λ (l : Land). Member l (map (moved_one gone kept) ls)) k (in_map (moved_one gone kept) (land f n) ls i)
  is_united f n (inr (e, i)) =
      let k : moved_one gone kept (land gone n) ≡ land f n = ap (λ b. land (cond b kept gone) n) (same_number gone.0) ∙ ap (λ (g : FaceId). land g n) (sym e) in
      subst (λ (l : Land). Member l (map (moved_one gone kept) ls)) k (in_map (moved_one gone kept) (land gone n) ls i)

  pub united : (new : List Land) → new ≡ map (moved_one gone kept) ls → IsUnited gone kept ls new
  united new e = subst (IsUnited gone kept ls) (sym e) (λ f n. (was_united f n, is_united f n))
