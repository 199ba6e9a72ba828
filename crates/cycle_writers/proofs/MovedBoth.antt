-- What moves in two goes is what moves in one.
use Rattle.std.proofs.Common.{◌≡◌, ℕ, List, [], ◌∷◌, cond, refl, ap}
use Rattle.slab_laws.specs.declared.names.CycleId.{CycleId}
use Rattle.slab_laws.specs.declared.names.FaceId.{FaceId}
use Rattle.slab_laws.specs.declared.names.VertexId.{VertexId}
use Rattle.slab_laws.specs.View.{Faces}
use Rattle.arr_notes.specs.FaceWriters.{moved_to, lists_cycle, lists_vertex}
use Rattle.arr_notes.specs.NamedRows.{each}

-- rows that stay as they are
pub each_still : {X : Type 0} (rs : List (ℕ × X)) → each (λ n x. x) rs ≡ rs
unfolding each
each_still [] = refl
each_still (r ∷ rs) = ap (λ zs. r ∷ zs) (each_still rs)

pub nothing_moves : (a : FaceId) (f : Faces) → moved_to [] [] a f ≡ f
nothing_moves a f = λ i. record { cycle_of = f.cycle_of; bare = each_still f.bare i; cycles = each_still f.cycles i; faces = f.faces }

pub moved_both : (cs : List CycleId) (us : List VertexId) (a : FaceId) (f : Faces) → moved_to [] us a (moved_to cs [] a f) ≡ moved_to cs us a f
moved_both cs us a f = λ i. record {
  cycle_of = f.cycle_of;
  bare = each (λ n b. cond (lists_vertex us n) a b) (each_still f.bare i);
  cycles = each_still (each (λ n r. cond (lists_cycle cs n) (record { kind = r.kind; face = a }) r) f.cycles) i;
  faces = f.faces;
}
