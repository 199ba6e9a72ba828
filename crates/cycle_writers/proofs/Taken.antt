-- What is taken from a face is what a split or a union of faces asks for.
use Rattle.std.proofs.Common.{◌≡◌, ◌≢◌, ◌↔◌, ◌<◌, true, refl, sym, ap, ◌∙◌}
use Rattle.slab_laws.specs.declared.names.CycleId.{CycleId}
use Rattle.slab_laws.specs.declared.names.DartId.{DartId}
use Rattle.slab_laws.specs.declared.names.FaceId.{FaceId}
use Rattle.slab_laws.specs.declared.names.VertexId.{VertexId}
use Rattle.slab_laws.specs.FaceLists.{Lists, AreLists}
use Rattle.slab_laws.specs.Sound.{skeleton_of, dart_in}
use Rattle.slab_laws.specs.View.{View, Faces, HasDart, HasCycle, HasFace, HasBareFace, cycle_in, face_in, bare_face_in}
use Rattle.arr_notes.specs.FaceWriters.{lists_cycle, lists_vertex}
use Rattle.face_changes.specs.FacesByPairs.{beside, round, HasItem, first_or}
use Rattle.face_changes.specs.Kinds.{is_outer}
use Rattle.face_changes.specs.RecordsAfterSplits.{IsWithin}
use Rattle.face_steps.specs.StepPremises.{IsBetween, FitsSplitting}
use Rattle.face_steps.specs.Tabled.{AreTabled}
use Rattle.face_steps.proofs.Within.{within_by_either}
use Rattle.cycle_writers.specs.declared.moves.Which.{Which}
use Rattle.cycle_writers.specs.declared.moves.Which.TheVariants.{All}
use Rattle.cycle_writers.specs.Taken.{takes, cycles_taken, vertices_taken}
use Rattle.cycle_writers.specs.TakenLaws.{IsSideOf, TakenFits}
use Rattle.cycle_writers.proofs.Listed.{listed_taken, listed_bare}
use Rattle.cycle_writers.proofs.MovedBoth.{moved_both}
use Rattle.cycle_writers.proofs.TakenLists.{taken_rest_listed, taken_within_listed}
use Rattle.cycle_writers.proofs.TakenWithin.{taken_within, within_together}

-- ---- a split
module _ (v w : View) (f : Faces) (l : Lists) (x y : DartId) (p q : VertexId) (a b : DartId) (which : Which) (kept : CycleId) (i : IsBetween v w x y p q a b) (h : AreTabled v f) (ls : AreLists v f l) (at_a : cycle_in f a ≡ kept) (at_b : cycle_in f b ≡ kept) (out : is_outer (skeleton_of w) (dart_in w x) ≡ true) (side : IsSideOf w x y which) where
  together : cycle_in f a ≡ cycle_in f b
  together = at_a ∙ sym at_b

  at_dart : (k : DartId) → HasDart v k → face_in f (cycle_in f k) ≡ face_in f kept → (takes w which (beside k) ≡ true) ↔ IsWithin w x (beside k)
  at_dart k K e = taken_within w x y which (beside k) side (within_by_either.darts v w f x y p q a b k i h together out K (e ∙ ap (face_in f) (sym at_a)))

  cycles_fit : (k : DartId) → HasDart v k → cycle_in f k ≢ kept → face_in f (cycle_in f k) ≡ face_in f kept → (lists_cycle (cycles_taken w which kept l (face_in f kept)) (cycle_in f k).0 ≡ true) ↔ IsWithin w x (beside k)
  cycles_fit k K n e =
      let c = cycle_in f k in
      let C = h.complete.cycle_has k K in
      let D = ls.darts c C in
      let m = l.dart_on c in
      let t = listed_taken w which kept l (face_in f kept) c in
      let s = at_dart m D.0 (ap (face_in f) D.1 ∙ e) in (
        λ z. within_together v w f x y p q a b m k i h together D.0 K D.1 (λ o. n (sym D.1 ∙ o ∙ at_a)) (s.0 (t.0 z).2),
        λ z. t.1 ((ls.listed.cycles (face_in f kept) c).1 (C, e), n, s.1 (within_together v w f x y p q a b k m i h together K D.0 (sym D.1) (λ o. n (o ∙ at_a)) z)),
      )

  vertices_fit : (u : VertexId) → HasBareFace f u → bare_face_in f u ≡ face_in f kept → (lists_vertex (vertices_taken w which l (face_in f kept)) u.0 ≡ true) ↔ IsWithin w x (round u)
  vertices_fit u U e =
      let V = h.complete.bare_vertex u U in
      let o : HasItem v (round u) = (V, (h.complete.bare u V).0 U) in
      let t = listed_bare w which l (face_in f kept) u in
      let s = taken_within w x y which (round u) side (within_by_either.vertices v w f x y p q a b u i h together out o (e ∙ ap (face_in f) (sym at_a))) in
      (λ z. s.0 (t.0 z).1, λ z. t.1 ((ls.listed.bare (face_in f kept) u).1 (U, e), s.1 z))

  split_fits : (fresh : CycleId) (fresh_face : FaceId) → ¬ HasCycle f fresh → ¬ HasFace f fresh_face → (first_or f.faces).0 < fresh_face.0 → FitsSplitting v w f x a b kept fresh fresh_face (cycles_taken w which kept l (face_in f kept)) (vertices_taken w which l (face_in f kept))
  split_fits fresh fresh_face new new_face later = record {
    first = at_a;
    second = at_b;
    new_cycle = new;
    new_face = new_face;
    later = later;
    outer = out;
    cycles = λ e E z. let r = (listed_taken w which kept l (face_in f kept) e).0 z in (r.1, ((ls.listed.cycles (face_in f kept) e).0 r.0).1);
    within = cycles_fit;
    vertices = λ u U z. ((ls.listed.bare (face_in f kept) u).0 ((listed_bare w which l (face_in f kept) u).0 z).0).1;
    within_bare = vertices_fit;
  }

pub taken_is_fit : TakenFits
taken_is_fit = record {
  split = λ v w f l x y p q a b which kept fresh fresh_face i h ls at_a at_b new new_face later out side. split_fits v w f l x y p q a b which kept i h ls at_a at_b out side fresh fresh_face new new_face later;
  unite = λ w s l x y kept gone ls at_x at_y two outer. record {
    first = at_x;
    second = at_y;
    two = two;
    outer = outer;
    face = refl;
    cycles = λ e E n. let t = listed_taken w All gone l (face_in s gone) e in let m = ls.cycles (face_in s gone) e in (λ z. (m.0 (t.0 z).0).1, λ z. t.1 (m.1 (E, z), n, refl));
    vertices = λ u U. let t = listed_bare w All l (face_in s gone) u in let m = ls.bare (face_in s gone) u in (λ z. (m.0 (t.0 z).0).1, λ z. t.1 (m.1 (U, z), refl));
  };
  split_lists = λ v w f l x a b d m which kept fresh face h ls t s. taken_within_listed v w f l x a b d m which kept fresh face h ls t s;
  unite_lists = λ w s l kept gone h ls has outer two. taken_rest_listed w s l kept gone h ls has outer two;
  both = λ cs us a f. moved_both cs us a f;
}
