-- Names of cycles and of vertices in lists.
use Rattle.std.proofs.Common.{◌≡◌, ◌≢◌, ◌↔◌, ◌==◌, Bool, true, List, sym, ap, ◌∙◌, subst}
use Rattle.std.specs.Prelude.{not, ◌&&◌}
use Rattle.std.specs.List.{filter}
use Rattle.std.proofs.lemmas.Bool.{eqb-true}
use Rattle.integers.proofs.Decisions.{both}
use Rattle.integers.proofs.Tests.{other_number, same_number}
use Rattle.plane_graphs.specs.Ascending.{Member}
use Rattle.plane_graphs.proofs.Lists.{any_in, any_out, in_filter, of_filter}
use Rattle.slab_laws.specs.declared.names.CycleId.{CycleId}
use Rattle.slab_laws.specs.declared.names.FaceId.{FaceId}
use Rattle.slab_laws.specs.declared.names.VertexId.{VertexId}
use Rattle.slab_laws.specs.FaceLists.{Lists}
use Rattle.slab_laws.specs.View.{View}
use Rattle.arr_notes.specs.FaceWriters.{lists_cycle, lists_vertex}
use Rattle.face_changes.specs.FacesByPairs.{beside, round}
use Rattle.cycle_writers.specs.declared.moves.Which.{Which}
use Rattle.cycle_writers.specs.Taken.{takes, cycles_taken, vertices_taken}

pub lists_member : (cs : List CycleId) (e : CycleId) → (lists_cycle cs e.0 ≡ true) ↔ Member e cs
lists_member cs e = (
  λ h. let r = any_out (λ (c : CycleId). c.0 == e.0) cs h in subst (λ z. Member z cs) (λ i. record { 0 = eqb-true r.0.0 e.0 r.2 i }) r.1,
  λ m. any_in (λ (c : CycleId). c.0 == e.0) e cs m (same_number e.0),
)

pub lists_bare : (us : List VertexId) (u : VertexId) → (lists_vertex us u.0 ≡ true) ↔ Member u us
lists_bare us u = (
  λ h. let r = any_out (λ (c : VertexId). c.0 == u.0) us h in subst (λ z. Member z us) (λ i. record { 0 = eqb-true r.0.0 u.0 r.2 i }) r.1,
  λ m. any_in (λ (c : VertexId). c.0 == u.0) u us m (same_number u.0),
)

pub filter_member : {X : Type 0} (p : X → Bool) (x : X) (xs : List X) → Member x (filter p xs) ↔ (Member x xs × (p x ≡ true))
filter_member p x xs = (λ m. of_filter p x xs m, λ m. in_filter p x xs m.0 m.1)

pub another : (c but : CycleId) → not (c.0 == but.0) ≡ true → c ≢ but
another c but n e = let z = sym (ap not (ap (λ (z : CycleId). z.0 == but.0) e ∙ same_number but.0)) ∙ n in absurd (cc)

-- a cycle of another name that passes
pub but_true : (c but : CycleId) (b : Bool) → (not (c.0 == but.0) && b) ≡ true ↔ ((c ≢ but) × (b ≡ true))
but_true c but b = (
  λ h. let r = both (not (c.0 == but.0)) b h in (another c but r.0, r.1),
  λ h. ap (λ z. not z && b) (other_number c.0 but.0 (λ e. h.0 (λ i. record { 0 = e i }))) ∙ h.1,
)

-- ---- what is taken of a face
pub listed_taken : (v : View) (which : Which) (but : CycleId) (l : Lists) (a : FaceId) (e : CycleId) → (lists_cycle (cycles_taken v which but l a) e.0 ≡ true) ↔ (Member e (l.cycles a) × (e ≢ but) × (takes v which (beside (l.dart_on e)) ≡ true))
listed_taken v which but l a e =
    let m = lists_member (cycles_taken v which but l a) e in
    let t = filter_member _ e (l.cycles a) in
    let b = but_true e but (takes v which (beside (l.dart_on e))) in (
      λ h. let r = t.0 (m.0 h) in let s = b.0 r.1 in (r.0, s.0, s.1),
      λ h. m.1 (t.1 (h.0, b.1 (h.1, h.2))),
    )

pub listed_bare : (v : View) (which : Which) (l : Lists) (a : FaceId) (u : VertexId) → (lists_vertex (vertices_taken v which l a) u.0 ≡ true) ↔ (Member u (l.bare a) × (takes v which (round u) ≡ true))
listed_bare v which l a u =
    let m = lists_bare (vertices_taken v which l a) u in
    let t = filter_member _ u (l.bare a) in
    (λ h. t.0 (m.0 h), λ h. m.1 (t.1 h))
