-- What is free to choose where a cycle is parted or two are joined, and what the kinds in the tables decide (this project).
-- f stands beside the view v without the edge, s beside w with it; a and b are the darts that d and its twin m come after.
use Rattle.std.specs.Prelude.{◌≡◌, ◌≢◌, true, false, not}
use Rattle.slab_laws.specs.declared.names.CycleKind.TheVariants.{Inner, Outer}
use Rattle.slab_laws.specs.declared.names.DartId.{DartId}
use Rattle.slab_laws.specs.declared.names.VertexId.{VertexId}
use Rattle.slab_laws.specs.Sound.{skeleton_of, dart_in}
use Rattle.slab_laws.specs.View.{View, Faces, cycle_in, kind_in}
use Rattle.face_changes.specs.Kinds.{is_outer}
use Rattle.face_steps.specs.StepPremises.{IsBetween}
use Rattle.face_steps.specs.Tabled.{AreTabled}

pub record ChoicesOfKinds : Type 0 where
  -- of an outer cycle both halves are outer, so either may be the fresh one; of an inner one just one is
  pub split_outer : (v w : View) (f : Faces) (d m : DartId) (p q : VertexId) (a b : DartId) → IsBetween v w d m p q a b → AreTabled v f → cycle_in f a ≡ cycle_in f b → kind_in f (cycle_in f a) ≡ Outer → (is_outer (skeleton_of w) (dart_in w d) ≡ true) × (is_outer (skeleton_of w) (dart_in w m) ≡ true)
  pub split_inner : (v w : View) (f : Faces) (d m : DartId) (p q : VertexId) (a b : DartId) → IsBetween v w d m p q a b → AreTabled v f → cycle_in f a ≡ cycle_in f b → kind_in f (cycle_in f a) ≡ Inner → is_outer (skeleton_of w) (dart_in w m) ≡ not (is_outer (skeleton_of w) (dart_in w d))
  -- two cycles of one face aren't both outer, so where one is it is kept
  pub join : (v w : View) (f : Faces) (d m : DartId) (p q : VertexId) (a b : DartId) → IsBetween v w d m p q a b → AreTabled v f → cycle_in f a ≢ cycle_in f b → kind_in f (cycle_in f a) ≡ Outer → kind_in f (cycle_in f b) ≡ Inner
  -- of an inner cycle neither part is outer, so either may be the fresh one; of an outer one just one is, and the other is fresh
  pub break_inner : (v w : View) (s : Faces) (d m : DartId) (p q : VertexId) (a b : DartId) → IsBetween v w d m p q a b → AreTabled w s → cycle_in s d ≡ cycle_in s m → kind_in s (cycle_in s d) ≡ Inner → (is_outer (skeleton_of v) (dart_in v a) ≡ false) × (is_outer (skeleton_of v) (dart_in v b) ≡ false)
  pub break_outer : (v w : View) (s : Faces) (d m : DartId) (p q : VertexId) (a b : DartId) → IsBetween v w d m p q a b → AreTabled w s → cycle_in s d ≡ cycle_in s m → kind_in s (cycle_in s d) ≡ Outer → is_outer (skeleton_of v) (dart_in v b) ≡ not (is_outer (skeleton_of v) (dart_in v a))
  -- one of the two cycles on the sides of an edge between two faces is outer, so where one isn't the other is the one that goes
  pub unite : (v w : View) (s : Faces) (d m : DartId) (p q : VertexId) (a b : DartId) → IsBetween v w d m p q a b → AreTabled w s → cycle_in s d ≢ cycle_in s m → kind_in s (cycle_in s d) ≡ Inner → kind_in s (cycle_in s m) ≡ Outer
