-- The rows of cycles, by the places of their least darts.
use Rattle.std.proofs.Common.{◌≡◌, ℕ, ◌<◌, refl, sym, ap, subst, ◌∙◌, inl, inr, List, [], ◌∷◌, map, length, get_or}
use Rattle.std.specs.Prelude.{◌||◌}
use Rattle.std.specs.List.{All, list_any}
use Rattle.std.proofs.lemmas.List.{length-map}
use Rattle.std.proofs.lemmas.Option.{get_or_from_slice_get}
use Rattle.exact_plane.specs.Point.{Point}
use Rattle.exact_plane.specs.Span.{Span}
use Rattle.slab_laws.specs.Cycles.{dart_labels, odd, left_of_dart}
use Rattle.slab_laws.specs.Darts.{Dart, darts}
use Rattle.slab_laws.specs.SpansDrawn.{edge_of, drawn}
use Rattle.slab_laws.specs.Faces.{face_labels, face_of}
use Rattle.slab_laws.specs.Rotation.{same_dart}
use Rattle.slab_laws.specs.Kinds.{kind_by}
use Rattle.slab_laws.specs.Rows.{no_dart, dart_at, dart_list, dart_place, dart_row, dart_rows, lead_list, cycle_row, cycle_rows}
use Rattle.slab_laws.specs.Skeleton.{Skeleton, IsPlaneSkeleton, same_point}
use Rattle.slab_laws.specs.Subdivision.{cycle, has_dart}
use Rattle.slab_laws.specs.declared.rows.ListedDart.{ListedDart}
use Rattle.slab_faces.proofs.Member.{Member, map_out}
use Rattle.slab_faces.proofs.NextLemmas.{darts_exact}
use Rattle.sound_views.proofs.ListedPlaces.{at_place, place_within, from_in}
use Rattle.sound_views.proofs.ListedDarts.{dart_listed, listed_lead}
use Rattle.sound_views.proofs.RankedFaces.{cycle_of, cycles_are}
use Rattle.plane_graphs.proofs.Loops.{read_in}
use Rattle.plane_graphs.proofs.Sorting.{any_default}
use Rattle.plain_slabs.specs.Faces.{lead_row}

module _ (g : Skeleton) (plane : IsPlaneSkeleton g) where
  lead_there : (l : Dart) → Member (lead_list g) l → Member (dart_list g) l
  lead_there l h = dart_listed g plane l (listed_lead g plane l h).0

  at_lead : (l : Dart) → Member (lead_list g) l → dart_at g (dart_place g l) ≡ l
  at_lead l h = get_or_from_slice_get (dart_list g) (dart_place g l) l no_dart (at_place same_dart darts_exact (dart_list g) l (lead_there l h))

  lead_is : (l : Dart) → Member (lead_list g) l → lead_row g (dart_place g l) ≡ cycle_row g (cycle_of g l)
  unfolding cycle
  lead_is l h =
      let e = at_lead l h in
      λ i. record { lead = dart_place g l; kind = kind_by (odd g (dart_labels (darts g)) (e i) (left_of_dart g (e i))); face = face_of (face_labels g) (left_of_dart g (e i)) }

  rows_of : (ls : List Dart) → ((l : Dart) → Member ls l → Member (lead_list g) l) → map (lead_row g) (map (dart_place g) ls) ≡ map (cycle_row g) (map (cycle_of g) ls)
  rows_of [] f = refl
  rows_of (l ∷ ls) f = λ i. lead_is l (f l (inl refl)) i ∷ rows_of ls (λ m h. f m (inr h)) i

  pub lead_rows : map (lead_row g) (map (dart_place g) (lead_list g)) ≡ cycle_rows g
  unfolding cycle_rows
  lead_rows = rows_of (lead_list g) (λ l h. h) ∙ ap (map (cycle_row g)) (sym (cycles_are g))

  pub leads_within : (ds : List ListedDart) (ps : List ℕ) → ds ≡ dart_rows g → ps ≡ map (dart_place g) (lead_list g) → All (λ k. k < length ds) ps
  unfolding dart_rows
  leads_within ds ps e f = λ k d h. subst (λ n. get_or ps k d < n) (sym (ap length e ∙ length-map (dart_list g) (dart_row g))) (below (get_or ps k d) (subst (λ xs. Member xs (get_or ps k d)) f (from_in ps (get_or ps k d) (read_in ps k (get_or ps k d) h (default ps k d h)))))
    where
      default : (xs : List ℕ) (k d : ℕ) → k < length xs → get_or xs k d ≡ get_or xs k (get_or xs k d)
      default xs k d h = any_default xs k d (get_or xs k d) h

      below : (k : ℕ) → Member (map (dart_place g) (lead_list g)) k → k < length (dart_list g)
      below k h = let w = map_out (dart_place g) (lead_list g) k h in subst (λ n. n < length (dart_list g)) w.2 (place_within same_dart darts_exact (dart_list g) w.0 (lead_there w.0 w.1))

-- ---- whether a vertex has darts
any_of_spans : (ss : List Span) (p : Point) → list_any (λ (s : Span). same_point s.lower p || same_point s.upper p) ss ≡ list_any (λ e. same_point e.low p || same_point e.high p) (map edge_of ss)
any_of_spans [] p = refl
any_of_spans (s ∷ ss) p = ap (λ b. (same_point s.lower p || same_point s.upper p) || b) (any_of_spans ss p)

pub dart_told : (vs : List Point) (ss : List Span) (p : Point) → list_any (λ (s : Span). same_point s.lower p || same_point s.upper p) ss ≡ has_dart (drawn vs ss) p
unfolding has_dart
dart_told vs ss p = any_of_spans ss p
