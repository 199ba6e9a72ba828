-- Two darts have one cycle exactly where they are in one orbit, and the cycle's kind is the orbit's parity.
use Rattle.std.proofs.Common.{◌≡◌, Bool, true, false, refl, sym, ap, ap₂, ◌∙◌}
use Rattle.std.specs.Prelude.{slice_get}
use Rattle.std.specs.List.{position_or_len}
use Rattle.plane_graphs.specs.Plane.{IsPlane}
use Rattle.slab_laws.specs.declared.names.CycleKind.TheVariants.{Outer}
use Rattle.slab_laws.specs.declared.names.DartId.{DartId}
use Rattle.slab_laws.specs.Kinds.{kind_by}
use Rattle.slab_laws.specs.Skeleton.{Skeleton}
use Rattle.slab_laws.specs.Darts.{Dart, darts}
use Rattle.slab_laws.specs.Rotation.{same_dart}
use Rattle.slab_laws.specs.Cycles.{dart_labels, odd, left_of_dart}
use Rattle.slab_laws.specs.Rows.{least_dart_of, lead_list}
use Rattle.slab_laws.specs.Sound.{skeleton_of}
use Rattle.slab_laws.specs.View.{cycle_id, cycle_in, kind_in}
use Rattle.slab_laws.specs.FacesSound.{lead_in, IsCycled}
use Rattle.subdivision_rows.specs.Listed.{Drawing, skeleton_in, view_of, faces_of}
use Rattle.subdivision_rows.proofs.ListedRecords.{IsDart, dart_of, dart_is}
use Rattle.subdivision_rows.proofs.ListsDrawn.{view_draws}
use Rattle.subdivision_rows.proofs.ListedFaces.{cycle_is, kind_is, cycle_of_dart}
use Rattle.subdivision_rows.proofs.ListsGraphSound.{some_path}

outer_true : (b : Bool) → kind_by b ≡ Outer → b ≡ true
outer_true true e = refl
outer_true false e = absurd (cc)

-- the parity of a least dart's orbit at its own left cell
abbrev is_odd : Skeleton → Dart → Bool
is_odd g l = odd g (dart_labels (darts g)) l (left_of_dart g l)

module _ (d : Drawing) (pl : IsPlane d.graph) where
  pub lead_is : (e : DartId) (h : Dart) → IsDart d e h → lead_in (view_of d) e ≡ least_dart_of (skeleton_in d) h
  lead_is e h i = ap₂ least_dart_of (view_draws d pl) (dart_is d pl e h i)

  -- two darts of one cycle have one least dart
  one_lead : (e f : DartId) (h k : Dart) → IsDart d e h → IsDart d f k → cycle_in (faces_of d) e ≡ cycle_in (faces_of d) f → least_dart_of (skeleton_in d) h ≡ least_dart_of (skeleton_in d) k
  one_lead e f h k i j same =
      some_path (least_dart_of (skeleton_in d) h) (least_dart_of (skeleton_in d) k)
      (sym (cycle_of_dart d pl e h i) ∙ ap (λ c. slice_get (lead_list (skeleton_in d)) c.0) same ∙ cycle_of_dart d pl f k j)

  one_cycle : (e f : DartId) (h k : Dart) → IsDart d e h → IsDart d f k → least_dart_of (skeleton_in d) h ≡ least_dart_of (skeleton_in d) k → cycle_in (faces_of d) e ≡ cycle_in (faces_of d) f
  one_cycle e f h k i j same = cycle_is d e h i ∙ ap (λ l. cycle_id (position_or_len (same_dart l) (lead_list (skeleton_in d)))) same ∙ sym (cycle_is d f k j)

  pub cycled : IsCycled (view_of d) (faces_of d)
  cycled = record {
    orbits = λ e f has has'.
        let h = dart_of d e has in
        let k = dart_of d f has' in (
          λ same. lead_is e h.0 h.1 ∙ one_lead e f h.0 k.0 h.1 k.1 same ∙ sym (lead_is f k.0 k.1),
          λ same. one_cycle e f h.0 k.0 h.1 k.1 (sym (lead_is e h.0 h.1) ∙ same ∙ lead_is f k.0 k.1),
        );
    kind = λ e has.
        let h = dart_of d e has in
        let l : Dart = least_dart_of (skeleton_in d) h.0 in
        let k : kind_in (faces_of d) (cycle_in (faces_of d) e) ≡ kind_by (is_odd (skeleton_in d) l) = kind_is d (cycle_in (faces_of d) e) l (cycle_of_dart d pl e h.0 h.1) in
        let o : is_odd (skeleton_of (view_of d)) (lead_in (view_of d) e) ≡ is_odd (skeleton_in d) l = ap₂ is_odd (view_draws d pl) (lead_is e h.0 h.1) in
        (λ outer. o ∙ outer_true (is_odd (skeleton_in d) l) (sym k ∙ outer), λ b. k ∙ ap kind_by (sym o ∙ b));
  }
