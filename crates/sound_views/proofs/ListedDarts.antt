-- The darts of a plane skeleton in their order, and the least darts of their cycles.
use Rattle.std.proofs.Common.{◌≡◌, Bool, true, refl, sym, ◌∙◌, subst}
use Rattle.std.specs.Prelude.{filter}
use Rattle.plane_graphs.specs.Ascending.{IsAscending}
use Rattle.plane_graphs.proofs.Ascending.{IsAscending-ascending, ascending-Member, Member-ascending}
use Rattle.slab_laws.specs.Skeleton.{Skeleton, IsPlaneSkeleton}
use Rattle.slab_laws.specs.Darts.{Dart, darts}
use Rattle.slab_laws.specs.Rotation.{dart_cmp, same_dart, next}
use Rattle.slab_laws.specs.Classes.{class_of}
use Rattle.slab_laws.specs.Cycles.{dart_labels, leads, left_of_dart}
use Rattle.slab_laws.specs.Faces.{face_labels, face_of}
use Rattle.slab_laws.specs.Rows.{dart_list, least_dart_of, lead_list}
use Rattle.slab_faces.proofs.Member.{Member, filter_in, filter_out}
use Rattle.slab_faces.proofs.ClassesLemmas.{IsEquivalence}
use Rattle.slab_faces.proofs.FacesLemmas.{one_label}
use Rattle.slab_faces.proofs.NextLemmas.{darts_exact, dart_out, dart_in, next_from, next_keeps_face}
use Rattle.slab_faces.proofs.DartOrder.{dart_cmp_total, tied_edges, listed_in, listed_out, along, lead_lead}
use Rattle.sound_views.proofs.ListedPlaces.{to_in, from_in}

module _ (g : Skeleton) (plane : IsPlaneSkeleton g) where
  -- ---- the list of darts
  pub dart_listed : (h : Dart) → Member (darts g) h → Member (dart_list g) h
  dart_listed h m = from_in (dart_list g) h (listed_in g plane h (to_in (darts g) h m))

  pub listed_dart : (h : Dart) → Member (dart_list g) h → Member (darts g) h
  listed_dart h m = from_in (darts g) h (listed_out g plane h (to_in (dart_list g) h m))

  pub next_dart : (h : Dart) → Member (darts g) h → Member (darts g) (next (darts g) h)
  next_dart h m = dart_in g (next (darts g) h).edge (next (darts g) h).forward (next_from g h plane (dart_out g h m)).in'

  -- ---- the least dart of a cycle
  -- both are darts or neither is, and if so they have one face
  record Stays (x y : Dart) : Type 0 where
    there : Member (darts g) x → Member (darts g) y
    back : Member (darts g) y → Member (darts g) x
    face : Member (darts g) x → face_of (face_labels g) (left_of_dart g x) ≡ face_of (face_labels g) (left_of_dart g y)

  stays : IsEquivalence Stays
  stays = record {
    itself = λ x. record { there = λ k. k; back = λ k. k; face = λ k. refl };
    back = λ x y k. record { there = k.back; back = k.there; face = λ m. sym (k.face (k.back m)) };
    on = λ x y z k l. record { there = λ m. l.there (k.there m); back = λ m. k.back (l.back m); face = λ m. k.face m ∙ l.face (k.there m) };
  }

  to_lead : (d : Dart) → Stays d (least_dart_of g d)
  to_lead d = along g Stays stays (λ x h. record { there = λ _. next_dart x h; back = λ _. h; face = λ _. one_label g _ _ plane (next_keeps_face g x plane (dart_out g x h)) }) d

  pub lead_dart : (d : Dart) → Member (darts g) d → Member (darts g) (least_dart_of g d)
  lead_dart d h = (to_lead d).there h

  pub lead_face : (d : Dart) → Member (darts g) d → face_of (face_labels g) (left_of_dart g (least_dart_of g d)) ≡ face_of (face_labels g) (left_of_dart g d)
  lead_face d h = sym ((to_lead d).face h)

  -- ---- the list of least darts
  abbrev is_lead : Dart → Bool
  is_lead d = same_dart d (class_of same_dart (dart_labels (darts g)) d)

  pub leads_ascend : IsAscending dart_cmp (lead_list g)
  unfolding leads
  leads_ascend = IsAscending-ascending dart_cmp dart_cmp_total (filter is_lead (darts g))

  pub lead_listed : (d : Dart) → Member (darts g) d → Member (lead_list g) (least_dart_of g d)
  unfolding leads
  lead_listed d h =
      let kept : Member (filter is_lead (darts g)) (least_dart_of g d) = filter_in is_lead (darts g) (least_dart_of g d) (lead_dart d h) (subst (λ z. same_dart (least_dart_of g d) z ≡ true) (sym (lead_lead g d)) (darts_exact.itself (least_dart_of g d))) in
      from_in (lead_list g) (least_dart_of g d) (ascending-Member dart_cmp dart_cmp_total (least_dart_of g d) (filter is_lead (darts g))
      (λ x y a b e. tied_edges g plane x y (dart_out g x (filter_out is_lead (darts g) x (from_in (filter is_lead (darts g)) x a)).0) (dart_out g y (filter_out is_lead (darts g) y (from_in (filter is_lead (darts g)) y b)).0) e)
      (to_in (filter is_lead (darts g)) (least_dart_of g d) kept))

  pub listed_lead : (l : Dart) → Member (lead_list g) l → Member (darts g) l × (least_dart_of g l ≡ l)
  unfolding leads
  listed_lead l h =
      let m = Member-ascending dart_cmp dart_cmp_total l (filter is_lead (darts g)) (to_in (lead_list g) l h) in
      let k = filter_out is_lead (darts g) l (from_in (filter is_lead (darts g)) l m) in
      (k.0, sym (darts_exact.path l (least_dart_of g l) k.1))
