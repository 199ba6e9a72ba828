-- What is taken from a face is listed just as a split or a union of faces asks: nothing else, and each name once.
use Rattle.std.proofs.Common.{◌≡◌, ◌≢◌, Bool, true, false, cond, List, Option, Some, IsSome, option_map, refl, sym, ap, ◌∙◌, subst}
use Rattle.plane_graphs.specs.Ascending.{Member}
use Rattle.slab_laws.specs.declared.names.CycleId.{CycleId}
use Rattle.slab_laws.specs.declared.names.CycleKind.TheVariants.{Outer}
use Rattle.slab_laws.specs.declared.names.DartId.{DartId}
use Rattle.slab_laws.specs.declared.names.FaceId.{FaceId}
use Rattle.slab_laws.specs.declared.names.VertexId.{VertexId}
use Rattle.slab_laws.specs.FaceLists.{Lists, AreFacesListed}
use Rattle.sound_views.proofs.OnceFiltered.{filtered_once}
use Rattle.slab_laws.specs.FacesSound.{IsSound, IsOuterOf}
use Rattle.slab_laws.specs.Tables.{row_at}
use Rattle.slab_laws.specs.View.{View, Faces, CycleRecord, HasCycle, HasFace, HasBareFace, kind_or, face_or, kind_in, face_in}
use Rattle.arr_notes.specs.FaceSteps.{step_faces, splits}
use Rattle.arr_notes.specs.FaceWriters.{lists_cycle}
use Rattle.sound_views.proofs.ListedRows.{is_some_by}
use Rattle.face_steps.specs.MovedLists.{ListsRest, ListsWithin}
use Rattle.face_steps.specs.StepPremises.{FitsSplitting}
use Rattle.face_steps.specs.Tabled.{AreTabled}
use Rattle.face_steps.proofs.FaceRows.{map_some}
use Rattle.face_steps.proofs.StepHoles.{kinds_are_two}
use Rattle.face_steps.proofs.StepSplits.{cycle_row_new, cycle_row_old, in_face, map_face, map_kind}
use Rattle.cycle_writers.specs.declared.moves.Which.{Which}
use Rattle.cycle_writers.specs.declared.moves.Which.TheVariants.{All}
use Rattle.cycle_writers.specs.Taken.{cycles_taken, takes_cycle, takes_vertex, vertices_taken}
use Rattle.cycle_writers.proofs.Listed.{listed_bare, listed_taken, lists_bare, lists_member}

-- no face has two outer cycles
only_outer : (v : View) (f : Faces) (a : FaceId) (c e : CycleId) → IsSound v f → IsOuterOf f a c → IsOuterOf f a e → ¬ (e ≢ c)
only_outer v f a c e h o p n =
    let there : HasFace f a = subst (HasFace f) o.1 (h.complete.face_has c o.0) in
    (h.faced.1.unbounded a there (λ b b_there less. let r = h.faced.1.bounded a b there b_there less in n (r.2 e p ∙ sym (r.2 c o)))).1 c o

-- ---- a split: w is the view with the edge, and S the tables after it; d and m are the edge's darts
module _ (v w : View) (f : Faces) (l : Lists) (x a b d m : DartId) (which : Which) (kept fresh : CycleId) (face : FaceId) (h : AreTabled v f) (ls : AreFacesListed f l) where
  abbrev cs : List CycleId
  cs = cycles_taken w which kept l (face_in f kept)

  abbrev us : List VertexId
  us = vertices_taken w which l (face_in f kept)

  abbrev S : Faces
  S = step_faces w f (splits d m kept fresh x face cs us)

  cycle_there : (e : CycleId) → Member e cs → HasCycle f e
  cycle_there e i = ((ls.cycles (face_in f kept) e).0 ((listed_taken w which kept l (face_in f kept) e).0 ((lists_member cs e).1 i)).0).0

  bare_there : (u : VertexId) → Member u us → HasBareFace f u
  bare_there u i = ((ls.bare (face_in f kept) u).0 ((listed_bare w which l (face_in f kept) u).0 ((lists_bare us u).1 i)).0).0

  module _ (t : FitsSplitting v w f x a b kept fresh face cs us) (s : IsSound w S) where
    not_fresh : (e : CycleId) → Member e cs → e ≢ fresh
    not_fresh e i z = t.new_cycle (subst (HasCycle f) z (cycle_there e i))

    row : (e : CycleId) → Member e cs → row_at S.cycles e.0 ≡ option_map (in_face cs e.0 face) (row_at f.cycles e.0)
    row e i = cycle_row_old w f d m kept fresh x face cs us e (not_fresh e i)

    abbrev written : Option CycleRecord
    written = Some (record { kind = Outer; face = face })

    row_fresh : row_at S.cycles fresh.0 ≡ option_map (in_face cs fresh.0 face) written
    row_fresh = cycle_row_new w f d m kept fresh x face cs us

    outer_fresh : IsOuterOf S face fresh
    outer_fresh = (is_some_by _ _ row_fresh, ap face_or row_fresh ∙ map_face cs fresh.0 face written refl ∙ either (lists_cycle cs fresh.0), ap kind_or row_fresh ∙ map_kind cs fresh.0 face written)
      where
        either : (z : Bool) → cond z face face ≡ face
        either true = refl
        either false = refl

    -- what is listed is in the fresh face afterwards, and its outer cycle is the fresh one
    outer_listed : (e : CycleId) → Member e cs → kind_in f e ≡ Outer → IsOuterOf S face e
    outer_listed e i o = (
      subst IsSome (sym (row e i)) ((map_some (in_face cs e.0 face) (row_at f.cycles e.0)).0 (cycle_there e i)),
      ap face_or (row e i) ∙ map_face cs e.0 face (row_at f.cycles e.0) (cycle_there e i) ∙ ap (λ z. cond z face (face_in f e)) ((lists_member cs e).1 i),
      ap kind_or (row e i) ∙ map_kind cs e.0 face (row_at f.cycles e.0) ∙ o,
    )

    pub taken_within_listed : ListsWithin v w f x kept cs us
    taken_within_listed = record {
      cycles = λ e. (
        λ i.
            let has = cycle_there e i in
            let z = (lists_member cs e).1 i in
            let r = t.cycles e has z in
            (has, r.0, r.1, λ k k_there on. (t.within k k_there (λ q. r.0 (sym on ∙ q)) (ap (face_in f) on ∙ r.1)).0 (subst (λ (c : CycleId). lists_cycle cs c.0 ≡ true) (sym on) z)),
        λ r.
            let k = h.complete.dart_has e r.0 in
            (lists_member cs e).0 (subst (λ (c : CycleId). lists_cycle cs c.0 ≡ true) k.2 ((t.within k.0 k.1 (λ q. r.1 (sym k.2 ∙ q)) (ap (face_in f) k.2 ∙ r.2)).1 (r.3 k.0 k.1 k.2))),
      );
      vertices = λ u. (
        λ i.
            let has = bare_there u i in
            let z = (lists_bare us u).1 i in
            let e = t.vertices u has z in
            (has, e, (t.within_bare u has e).0 z),
        λ r. (lists_bare us u).0 ((t.within_bare u r.0 r.1).1 r.2),
      );
      inner = λ e i. kinds_are_two (kind_in f e) (λ o. only_outer w S face fresh e s outer_fresh (outer_listed e i o) (not_fresh e i));
      cycles_once = filtered_once (takes_cycle w which kept l) _ (ls.cycles_once (face_in f kept));
      vertices_once = filtered_once (takes_vertex w which) _ (ls.bare_once (face_in f kept));
    }

-- ---- a union: s are the tables with the edge
module _ (v : View) (s : Faces) (l : Lists) (kept gone : CycleId) (h : IsSound v s) (ls : AreFacesListed s l) (has : HasCycle s gone) (outer : kind_in s gone ≡ Outer) (two : face_in s kept ≢ face_in s gone) where
  taken_of : (e : CycleId) → Member e (cycles_taken v All gone l (face_in s gone)) → HasCycle s e × (e ≢ gone) × (face_in s e ≡ face_in s gone)
  taken_of e i =
      let r = (listed_taken v All gone l (face_in s gone) e).0 ((lists_member _ e).1 i) in
      let q = (ls.cycles (face_in s gone) e).0 r.0 in
      (q.0, r.1, q.1)

  pub taken_rest_listed : ListsRest s kept gone (face_in s gone) (cycles_taken v All gone l (face_in s gone)) (vertices_taken v All l (face_in s gone))
  taken_rest_listed = record {
    cycles = λ e. (taken_of e, λ r. (lists_member _ e).0 ((listed_taken v All gone l (face_in s gone) e).1 ((ls.cycles (face_in s gone) e).1 (r.0, r.2), r.1, refl)));
    vertices = λ u. (
      λ i. (ls.bare (face_in s gone) u).0 ((listed_bare v All l (face_in s gone) u).0 ((lists_bare _ u).1 i)).0,
      λ r. (lists_bare _ u).0 ((listed_bare v All l (face_in s gone) u).1 ((ls.bare (face_in s gone) u).1 r, refl)),
    );
    inner = λ e i. let q = taken_of e i in kinds_are_two (kind_in s e) (λ o. only_outer v s (face_in s gone) gone e h (has, refl, outer) (q.0, q.2, o) q.1);
    stays = two;
    cycles_once = filtered_once (takes_cycle v All gone l) _ (ls.cycles_once (face_in s gone));
    vertices_once = filtered_once (takes_vertex v All) _ (ls.bare_once (face_in s gone));
  }
