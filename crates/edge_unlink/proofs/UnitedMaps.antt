-- Two faces become one where the edge between them goes: v and f are the view and the tables with the edge of d and its twin; x is the edge's dart on the cycle that goes, y the other one.
use Rattle.std.proofs.Common.{◌≡◌, ◌≢◌, ◌⊎◌, ◌==◌, cond, List, inl, inr, refl, sym, ap, ◌∙◌, subst, arith}
use Rattle.slab_laws.specs.declared.names.CycleId.{CycleId}
use Rattle.slab_laws.specs.declared.names.CycleKind.TheVariants.{Inner, Outer}
use Rattle.slab_laws.specs.declared.names.DartId.{DartId}
use Rattle.slab_laws.specs.declared.names.FaceId.{FaceId}
use Rattle.slab_laws.specs.declared.names.VertexId.{VertexId}
use Rattle.slab_laws.specs.FaceLists.{Lists, MovedView, AreDartsOn, AreFacesListed}
use Rattle.slab_laws.specs.FacesSound.{lead_in, IsSound}
use Rattle.slab_laws.specs.Tables.{row_at}
use Rattle.slab_laws.specs.View.{View, Faces, HasVertex, HasDart, HasCycle, HasBareFace, source_in, target_in, twin_in, next_in, cycle_or, cycle_in, kind_in, face_in, face_id, dart_id}
use Rattle.arr_notes.specs.FaceWriters.{off_cycles, recycled, moved_to, without_cycle, without_face}
use Rattle.arr_notes.specs.Step.{remove_edge}
use Rattle.arr_notes.specs.declared.faces.Unlinked.TheVariants.{Unites}
use Rattle.arr_notes.proofs.RowLaws.{row_at-each}
use Rattle.dcel_records.specs.ListChanges.{dart_listed, cycle_unlisted}
use Rattle.integers.proofs.Tests.{other_number, same_number}
use Rattle.face_steps.specs.LinkLaws.{FitsUnlinked}
use Rattle.face_steps.specs.MovedLists.{ListsRest}
use Rattle.face_steps.specs.RowsWritten.{AreDartRows, all_on}
use Rattle.face_steps.specs.StepPremises.{IsBetween, FitsUnite}
use Rattle.face_steps.specs.Tabled.{AreTabled}
use Rattle.face_steps.proofs.Choices.{tables_are_sound, choices_of_kinds}
use Rattle.face_steps.proofs.CyclesApart.{cycle_cases}
use Rattle.face_steps.proofs.EdgePairs.{vertex_below}
use Rattle.face_steps.proofs.FaceRows.{map_cycle, cycle_number, swap_miss}
use Rattle.face_steps.proofs.StepUnites.{two_sides}
use Rattle.face_steps.proofs.UnlinkedFaces.{IsBefore, no_follow, place_first, place_second, between}
use Rattle.cycle_writers.specs.declared.moves.Which.TheVariants.{All}
use Rattle.cycle_writers.specs.Runs.{IsRun}
use Rattle.cycle_writers.specs.Taken.{cycles_taken, vertices_taken}
use Rattle.cycle_writers.proofs.FollowsMore.{turned}
use Rattle.cycle_writers.proofs.Recycled.{none_left}
use Rattle.cycle_writers.proofs.RunSteps.{rows_of, runs_are_steps}
use Rattle.cycle_writers.proofs.RunsUnited.{runs_are_cycles}
use Rattle.cycle_writers.proofs.Taken.{taken_is_fit}
use Rattle.edge_unlink.proofs.Emptied.{not_gone, was_there}
use Rattle.edge_unlink.proofs.UnlinkedMaps.{follower_on, cycle_stays, still_on}

-- x and y are d and its twin, or its twin and d
abbrev pub AreSides : View → DartId → DartId → DartId → Type 0
AreSides v d x y = ((x ≡ d) × (y ≡ twin_in v d)) ⊎ ((y ≡ d) × (x ≡ twin_in v d))

by_sides : (v : View) (d x y : DartId) (P : DartId → DartId → Type 0) → AreSides v d x y → P d (twin_in v d) → P (twin_in v d) d → P x y
by_sides v d x y P (inl e) here there = subst (λ (z : DartId × DartId). P z.0 z.1) (λ i. (sym e.0 i, sym e.1 i)) here
by_sides v d x y P (inr e) here there = subst (λ (z : DartId × DartId). P z.0 z.1) (λ i. (sym e.1 i, sym e.0 i)) there

-- an outer cycle isn't in the unbounded face, whose name is 0
pub not_unbounded : (v : View) (f : Faces) (c : CycleId) → IsSound v f → HasCycle f c → kind_in f c ≡ Outer → face_in f c ≢ face_id 0
not_unbounded v f c h has outer e =
    (h.faced.1.unbounded (face_in f c) (h.complete.face_has c has) (λ b o less. let z : (face_in f c).0 ≡ 0 = ap (λ (a : FaceId). a.0) e in absurd (omega arith))).1 c (has, refl, outer)

module _ (v : View) (f : Faces) (d x y : DartId) (gone kept : CycleId) (h : IsSound v f) (has : HasDart v d) (sides : AreSides v d x y) (two : cycle_in f x ≢ cycle_in f y) (on_gone : gone ≡ cycle_in f x) (on_kept : kept ≡ cycle_in f y) where
  abbrev less : View
  less = remove_edge v d (twin_in v d)

  abbrev off : Faces
  off = off_cycles (twin_in v d) (off_cycles d f)

  told : AreTabled v f
  told = (tables_are_sound v f h.graph).1 h

  two_by_d : cycle_in f d ≢ cycle_in f (twin_in v d)
  two_by_d e = by_sides v d x y (λ a b. (cycle_in f a ≡ cycle_in f b → ⊥) → ⊥) sides (λ n. n e) (λ n. n (sym e)) two

  first : IsBefore v f d h.graph has told d
  first = place_first v f d h.graph has told (no_follow v f d h.graph has told two_by_d).0

  second : IsBefore v f d h.graph has told (twin_in v d)
  second = place_second v f d h.graph has told (no_follow v f d h.graph has told two_by_d).1

  edge_by_d : IsBetween (remove_edge v d (twin_in v d)) v d (twin_in v d) (source_in v d) (target_in v d) first.0 second.0
  edge_by_d = between v f d h.graph has told first second

  abbrev IsEdge : DartId → DartId → Type 0
  IsEdge a b = (p : VertexId) × (q : VertexId) × (i : DartId) × (j : DartId) × IsBetween less v a b p q i j

  edge : IsEdge x y
  edge =
      by_sides v d x y IsEdge sides (source_in v d, target_in v d, first.0, second.0, edge_by_d)
      (target_in v d, source_in v d, second.0, first.0, turned less v d (twin_in v d) (source_in v d) (target_in v d) first.0 second.0 edge_by_d)

  pub has_gone : HasDart v x
  has_gone = edge.4.edge.more.first

  pub has_kept : HasDart v y
  has_kept = edge.4.edge.more.second

  -- where one of both cycles isn't outer, the other one is
  pub other_outer : kind_in f (cycle_in f x) ≡ Inner → kind_in f (cycle_in f y) ≡ Outer
  other_outer k = choices_of_kinds.unite less v f x y edge.0 edge.1 edge.2 edge.3 edge.4 told two k

  -- ---- the darts
  pub ends : HasDart (remove_edge v d (twin_in v d)) (next_in v x) × HasDart (remove_edge v d (twin_in v d)) (next_in v y) × (lead_in (remove_edge v d (twin_in v d)) (next_in v x) ≡ lead_in (remove_edge v d (twin_in v d)) (next_in v y))
  ends = runs_are_cycles.apart less v f x y edge.0 edge.1 edge.2 edge.3 edge.4 told two

  -- a run that is written is what the step writes
  united : (ds : List DartId) → IsRun (remove_edge v d (twin_in v d)) (next_in v x) (next_in v y) ds → all_on ds kept (off_cycles (twin_in v d) (off_cycles d f)) ≡ recycled gone kept (off_cycles (twin_in v d) (off_cycles d f))
  united ds run =
      ap (λ k. all_on ds k off) on_kept
      ∙ by_sides v d x y (λ a b. IsRun less (next_in v a) (next_in v b) ds → all_on ds (cycle_in f b) off ≡ recycled (cycle_in f a) (cycle_in f b) off) sides
      (λ r. runs_are_steps.first_united less v f d (twin_in v d) (source_in v d) (target_in v d) first.0 second.0 (cycle_in f (twin_in v d)) ds edge_by_d told two_by_d r)
      (λ r. runs_are_steps.second_united less v f d (twin_in v d) (source_in v d) (target_in v d) first.0 second.0 (cycle_in f d) ds edge_by_d told two_by_d r)
      run
      ∙ (λ i. recycled (sym on_gone i) (sym on_kept i) off)

  -- what is written once the edge is gone: k is the cycle, m the twin's name, from and to are where the run begins and ends
  pub written : (w : View) (s : Faces) (m from to : DartId) (k : CycleId) (ds : List DartId) → w ≡ remove_edge v d m → m ≡ twin_in v d → from ≡ next_in v x → to ≡ next_in v y → k ≡ kept → s ≡ all_on ds k (off_cycles m (off_cycles d f)) → IsRun w from to ds → s ≡ recycled gone kept (off_cycles m (off_cycles d f))
  written w s m from to k ds graph is_twin is_from is_to is_kept e run =
      let removed : w ≡ less = graph ∙ ap (remove_edge v d) is_twin in
      e
      ∙ (λ i. all_on ds (is_kept i) (off_cycles (is_twin i) (off_cycles d f)))
      ∙ united ds (subst (λ (z : View × DartId × DartId). IsRun z.0 z.1 z.2 ds) (λ i. (removed i, is_from i, is_to i)) run)
      ∙ ap (λ z. recycled gone kept (off_cycles z (off_cycles d f))) (sym is_twin)

  -- ---- the faces
  pub cycle_gone : HasCycle f gone
  cycle_gone = subst (HasCycle f) (sym on_gone) (h.complete.cycle_has x has_gone)

  pub cycle_kept : HasCycle f kept
  cycle_kept = subst (HasCycle f) (sym on_kept) (h.complete.cycle_has y has_kept)

  pub two_cycles : kept ≢ gone
  two_cycles e = two (sym on_gone ∙ sym e ∙ on_kept)

  pub two_faces : face_in f gone ≢ face_in f kept
  two_faces e = two_sides less v x y edge.0 edge.1 edge.4.line edge.4.edge f told two (ap (face_in f) (sym on_gone) ∙ e ∙ ap (face_in f) on_kept)

  -- ---- what stays
  pub vertices_stay : (u : VertexId) → HasBareFace f u → HasVertex (remove_edge v d (twin_in v d)) u
  vertices_stay u o = vertex_below less v x y edge.0 edge.1 edge.4.line edge.4.edge u (h.complete.bare_vertex u o)

  to_stays : cycle_in off (next_in v y) ≡ kept
  to_stays =
      cycle_stays v less f d (twin_in v d) h has refl refl (next_in v y) (λ e. edge_by_d.edge.more.first_new (subst (HasDart less) e ends.1)) (λ e. edge_by_d.edge.more.second_new (subst (HasDart less) e ends.1))
      ∙ follower_on v f y h has_kept
      ∙ sym on_kept

  rows_off : AreDartRows less off
  rows_off = runs_are_steps.rows_unlinked less v f d (twin_in v d) (source_in v d) (target_in v d) edge_by_d.line edge_by_d.edge (rows_of v f told)

  -- no dart is on the cycle that goes
  pub none_on : (w : View) (s : Faces) → w ≡ remove_edge v d (twin_in v d) → s ≡ recycled gone kept (off_cycles (twin_in v d) (off_cycles d f)) → (k : DartId) → HasDart w k → cycle_in s k ≢ gone
  none_on w s removed put k o e = none_left off gone kept two_cycles less rows_off k (subst (λ g. HasDart g k) removed o) (ap (λ t. cycle_in t k) (sym put) ∙ e)

  module _ (l : Lists) (on : AreDartsOn v f l) where
    -- each cycle but the one that goes keeps a dart that stays
    pub darts_stay : (c : CycleId) → HasCycle f c → c ≢ gone → HasDart (remove_edge v d (twin_in v d)) ((dart_listed kept (next_in v y) l).dart_on c) × (cycle_in (off_cycles (twin_in v d) (off_cycles d f)) ((dart_listed kept (next_in v y) l).dart_on c) ≡ c)
    darts_stay c o n = elim (cycle_cases c kept) [
      | inl z ↦
          subst (λ k. HasDart less k × (cycle_in off k ≡ c)) (sym (ap (λ (u : CycleId). cond (u.0 == kept.0) (next_in v y) (l.dart_on c)) z ∙ ap (λ b. cond b (next_in v y) (l.dart_on c)) (same_number kept.0)))
          (ends.1, to_stays ∙ sym z)
      | inr i ↦
          subst (λ k. HasDart less k × (cycle_in off k ≡ c)) (sym (ap (λ b. cond b (next_in v y) (l.dart_on c)) (other_number c.0 kept.0 (cycle_number c kept i))))
          (by_sides v d x y (λ a b. c ≢ cycle_in f a → c ≢ cycle_in f b → HasDart less (l.dart_on c) × (cycle_in off (l.dart_on c) ≡ c)) sides
          (λ j k. still_on v less f d (twin_in v d) h has refl refl l on c o j k)
          (λ j k. still_on v less f d (twin_in v d) h has refl refl l on c o k j)
          (λ e. n (e ∙ sym on_gone)) (λ e. i (e ∙ sym on_kept)))
    ]

    -- so it is on its cycle when all is done
    pub darts_on : (cs : List CycleId) (us : List VertexId) (a b : FaceId) (k : Lists) → k.dart_on ≡ (cycle_unlisted gone (dart_listed kept (next_in v y) l)).dart_on → AreDartsOn (remove_edge v d (twin_in v d)) (without_face b (without_cycle gone (moved_to cs us a (recycled gone kept (off_cycles (twin_in v d) (off_cycles d f)))))) k
    darts_on cs us a b k e c o =
        let n = not_gone f gone a cs us h.complete.cycles_ascend c o in
        let stays = darts_stay c (was_there f gone a cs us h.complete.cycles_ascend c o) n in
        let j : DartId = (dart_listed kept (next_in v y) l).dart_on c in
        let reads : cycle_in (recycled gone kept off) j ≡ c =
        ap cycle_or (row_at-each (λ m z. cond (z.0 == gone.0) kept z) off.cycle_of j.0)
        ∙ map_cycle (λ z. cond (z.0 == gone.0) kept z) (row_at off.cycle_of j.0) ((rows_off.cycle_rows j).0 stays.0)
        ∙ swap_miss gone kept (cycle_in off j) (λ q. n (sym stays.1 ∙ q))
        ∙ stays.1
        in
        subst (λ z. HasDart less z × (cycle_in (recycled gone kept off) z ≡ c)) (sym (ap (λ (g : CycleId → DartId). g c) e ∙ ap (λ t. cond t (dart_id 0) j) (other_number c.0 gone.0 (cycle_number c gone n)))) (stays.0, reads)

  -- ---- what is told fits
  pub fits : (l : Lists) (b : FaceId) (moved : MovedView) → AreFacesListed f l → kind_in f gone ≡ Outer → b ≡ face_in f gone → moved.cycles ≡ cycles_taken v All gone l b → moved.vertices ≡ vertices_taken v All l b → FitsUnlinked v f d (Unites kept gone b moved)
  fits l b moved listed outer at cycles vertices =
      let u : FitsUnite f x y kept gone (face_in f gone) (cycles_taken v All gone l (face_in f gone)) (vertices_taken v All l (face_in f gone)) = taken_is_fit.unite v f l x y kept gone listed (sym on_gone) (sym on_kept) two_cycles outer in
      let here : FitsUnite f x y kept gone b (cycles_taken v All gone l b) (vertices_taken v All l b) = subst (λ a. FitsUnite f x y kept gone a (cycles_taken v All gone l a) (vertices_taken v All l a)) (sym at) u in
      by_sides v d x y (λ a c. FitsUnite f a c kept gone b moved.cycles moved.vertices → FitsUnlinked v f d (Unites kept gone b moved)) sides (λ z. inl z) (λ z. inr z)
      (subst (λ (z : List CycleId × List VertexId). FitsUnite f x y kept gone b z.0 z.1) (λ i. (sym cycles i, sym vertices i)) here)

  -- and lists just what moves
  pub lists_rest : (l : Lists) (b : FaceId) (moved : MovedView) → AreFacesListed f l → kind_in f gone ≡ Outer → b ≡ face_in f gone → moved.cycles ≡ cycles_taken v All gone l b → moved.vertices ≡ vertices_taken v All l b → ListsRest f kept gone b moved.cycles moved.vertices
  lists_rest l b moved listed outer at cycles vertices =
      subst (λ (z : List CycleId × List VertexId). ListsRest f kept gone b z.0 z.1) (λ i. (sym cycles i, sym vertices i))
      (subst (λ a. ListsRest f kept gone a (cycles_taken v All gone l a) (vertices_taken v All l a)) (sym at)
      (taken_is_fit.unite_lists v f l kept gone h listed cycle_gone outer (λ e. two_faces (sym e))))
