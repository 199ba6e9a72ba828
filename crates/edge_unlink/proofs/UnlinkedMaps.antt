-- The records without an edge are a sound map again: v and f are the view and the tables with the edge of d and its twin m, w the view without it.
use Rattle.std.proofs.Common.{◌≡◌, ◌≢◌, ◌==◌, ◌≤◌, ◌+◌, cond, ℕ, List, IsSome, inl, inr, sym, ap, ◌∙◌, subst, refl}
use Rattle.std.specs.List.{Contains}
use Rattle.slab_laws.specs.declared.names.CycleId.{CycleId}
use Rattle.slab_laws.specs.declared.names.DartId.{DartId}
use Rattle.slab_laws.specs.declared.names.FaceId.{FaceId}
use Rattle.slab_laws.specs.declared.names.VertexId.{VertexId}
use Rattle.slab_laws.specs.FaceLists.{Lists, AreDartsOn}
use Rattle.slab_laws.specs.FacesSound.{IsSound}
use Rattle.slab_laws.specs.Sound.{IsGraphSound}
use Rattle.slab_laws.specs.Tables.{row_at, names, NamesAscend}
use Rattle.slab_laws.specs.View.{View, CycleRecord, Faces, HasVertex, HasDart, HasCycle, HasFace, HasBareFace, source_in, target_in, twin_in, next_in, line_in, cycle_or, cycle_in, face_in, dart_id}
use Rattle.arr_notes.specs.FaceSteps.{step_faces}
use Rattle.arr_notes.specs.FaceWriters.{off_cycles, without_cycle}
use Rattle.arr_notes.specs.FacesTold.{unlinked_faces}
use Rattle.arr_notes.specs.NamedRows.{put, del}
use Rattle.arr_notes.specs.Step.{remove_edge}
use Rattle.arr_notes.specs.declared.faces.Unlinked.{Unlinked}
use Rattle.arr_notes.proofs.Reading.{dart_number, vertex_number, none_there}
use Rattle.arr_notes.proofs.RowLaws.{ascend-del}
use Rattle.arr_notes.proofs.VertexReads.{del_hit, del_miss, put_miss}
use Rattle.dcel_records.specs.ListChanges.{dart_listed, cycle_unlisted}
use Rattle.dcel_records.specs.RecordsView.{RecordsView, GraphView, FacesView, IsSpare, graph_part, lists_of, tables_of}
use Rattle.dcel_records.specs.SoundMaps.{IsSoundMap}
use Rattle.face_changes.proofs.CycleNames.{lead_step}
use Rattle.face_steps.specs.EdgePairs.{IsEdgeApart}
use Rattle.face_steps.specs.LinkLaws.{FitsUnlinked}
use Rattle.face_steps.specs.MovedLists.{UnlinkListsMoved}
use Rattle.face_steps.specs.Tabled.{AreTabled}
use Rattle.face_steps.proofs.Choices.{tables_are_sound}
use Rattle.face_steps.proofs.CyclesApart.{cycle_cases}
use Rattle.face_steps.proofs.EdgePairs.{sorted, has_end}
use Rattle.face_steps.proofs.FaceRows.{cycle_number}
use Rattle.face_steps.proofs.RecordsApart.{edge_removed}
use Rattle.face_steps.proofs.UnlinkedFaces.{unlinks_keep_tables}
use Rattle.sound_changes.proofs.EdgeRemoved.{fewer}
use Rattle.edge_unlink.specs.FacedUnlinks.{IsUnlinkMade, IsCarried}
use Rattle.integers.proofs.Tests.{other_number, same_number}

-- with the tables that the step makes of what is told, the graph without the edge is a sound view
pub unlinked_is_sound : (v w : View) (f s : Faces) (d m : DartId) (told : Unlinked) → IsSound v f → HasDart v d → m ≡ twin_in v d → w ≡ remove_edge v d m → IsGraphSound w → s ≡ step_faces w f (unlinked_faces v d told) → FitsUnlinked v f d told → IsSound w s
unlinked_is_sound v w f s d m told h has is_twin graph g tables fits =
    let removed : w ≡ remove_edge v d (twin_in v d) = graph ∙ ap (remove_edge v d) is_twin in
    let kept : AreTabled w (step_faces w f (unlinked_faces v d told)) =
    subst (λ z. AreTabled z (step_faces z f (unlinked_faces v d told))) (sym removed) (unlinks_keep_tables v f d told h.graph has ((tables_are_sound v f h.graph).1 h) fits)
    in
    (tables_are_sound w s g).0 (subst (AreTabled w) (sym tables) kept)

-- no dart is on a cycle that the step takes away
pub none_on : (w : View) (s : Faces) (c : CycleId) (cycles : List (ℕ × CycleRecord)) → IsSound w s → s.cycles ≡ del c.0 cycles → NamesAscend (names cycles) → (k : DartId) → HasDart w k → cycle_in s k ≢ c
none_on w s c cycles h q ascend k o e = none_there _ (ap (λ rs. row_at rs c.0) q ∙ del_hit c.0 cycles ascend) (subst (HasCycle s) e (h.complete.cycle_has k o))

-- ---- the cycle of a dart, and its face
pub has_cycle : (v : View) (f : Faces) (d : DartId) (c : CycleId) → IsSound v f → HasDart v d → c ≡ cycle_in f d → HasCycle f c
has_cycle v f d c h has e = subst (HasCycle f) (sym e) (h.complete.cycle_has d has)

pub has_face : (v : View) (f : Faces) (d : DartId) (c : CycleId) (a : FaceId) (faces : List ℕ) → IsSound v f → HasDart v d → c ≡ cycle_in f d → a ≡ face_in f c → faces ≡ f.faces → Contains faces a.0
has_face v f d c a faces h has e at q = subst (λ ns. Contains ns a.0) (sym q) (subst (HasFace f) (sym at) (h.complete.face_has c (has_cycle v f d c h has e)))

-- no dart follows itself, for it would end where it begins
pub not_after_itself : (v : View) (k : DartId) → IsGraphSound v → HasDart v k → next_in v k ≢ k
not_after_itself v k s o e = (fewer v k s o).two_ends (ap (source_in v) (sym e) ∙ s.linked.joins k o)

-- a dart is on the cycle of the one that it follows
pub follower_on : (v : View) (f : Faces) (k : DartId) → IsSound v f → HasDart v k → cycle_in f (next_in v k) ≡ cycle_in f k
follower_on v f k h o = (h.cycled.orbits (next_in v k) k (h.graph.linked.has k o) o).1 (sym (lead_step v h.graph k o))

-- ---- an end of an edge isn't isolated: no table of the isolated vertices has it
pub not_isolated : (v : View) (f : Faces) (k : DartId) (rows : List (ℕ × FaceId)) (u : VertexId) → IsSound v f → HasDart v k → rows ≡ f.bare → u ≡ source_in v k → IsSome (row_at rows u.0) → ⊥
not_isolated v f k rows u h has e at o =
    let b : HasBareFace f (source_in v k) = subst (λ (z : VertexId). IsSome (row_at f.bare z.0)) at (subst (λ rs. IsSome (row_at rs u.0)) e o) in
    (h.complete.bare (source_in v k) (h.complete.bare_vertex (source_in v k) b)).0 b k (has, refl)

-- nor once the other end is
pub other_not_isolated : (v : View) (f : Faces) (k : DartId) (rows : List (ℕ × FaceId)) (u z : VertexId) (face : FaceId) → IsSound v f → HasDart v k → rows ≡ put z.0 face f.bare → u ≡ source_in v k → u ≢ z → IsSome (row_at rows u.0) → ⊥
other_not_isolated v f k rows u z face h has e at n o =
    not_isolated v f k f.bare u h has refl at (subst IsSome (put_miss z.0 face f.bare u.0 (vertex_number u z n)) (subst (λ rs. IsSome (row_at rs u.0)) e o))

module _ (v w : View) (f : Faces) (d m : DartId) (h : IsSound v f) (has : HasDart v d) (is_twin : m ≡ twin_in v d) (removed : w ≡ remove_edge v d m) where
  pub apart : IsEdgeApart w v d m (source_in v d) (target_in v d) (line_in v d)
  apart =
      subst (λ z. IsEdgeApart w v d z (source_in v d) (target_in v d) (line_in v d)) (sym is_twin)
      (subst (λ z. IsEdgeApart z v d (twin_in v d) (source_in v d) (target_in v d) (line_in v d)) (sym (removed ∙ ap (remove_edge v d) is_twin)) (edge_removed v d h.graph has))

  -- ---- what is there
  pub dart_stays : (k : DartId) → HasDart v k → k ≢ d → k ≢ m → HasDart w k
  dart_stays k o i j = elim (sorted w v d m (source_in v d) (target_in v d) (line_in v d) apart k o) [
    | inl z ↦ z
    | inr z ↦ elim z [ inl e ↦ absurd (i e) | inr e ↦ absurd (j e) ]
  ]

  pub has_target : HasVertex w (target_in v d)
  has_target = has_end w v d m (source_in v d) (target_in v d) (line_in v d) apart

  -- ---- what is read
  abbrev pub off : Faces
  off = off_cycles m (off_cycles d f)

  row_stays : (k : DartId) → k ≢ d → k ≢ m → row_at off.cycle_of k.0 ≡ row_at f.cycle_of k.0
  row_stays k i j = del_miss m.0 _ k.0 (ascend-del d.0 f.cycle_of h.complete.cycle_of_ascend) (dart_number k m j) ∙ del_miss d.0 f.cycle_of k.0 h.complete.cycle_of_ascend (dart_number k d i)

  pub cycle_stays : (k : DartId) → k ≢ d → k ≢ m → cycle_in off k ≡ cycle_in f k
  cycle_stays k i j = ap cycle_or (row_stays k i j)

  -- the dart that was kept for a cycle which the edge wasn't on is on it
  pub still_on : (l : Lists) → AreDartsOn v f l → (c : CycleId) → HasCycle f c → c ≢ cycle_in f d → c ≢ cycle_in f m → HasDart w (l.dart_on c) × (cycle_in off (l.dart_on c) ≡ c)
  still_on l on c o i j =
      let k = on c o in
      let n : l.dart_on c ≢ d = λ e. i (sym k.1 ∙ ap (cycle_in f) e) in
      let n' : l.dart_on c ≢ m = λ e. j (sym k.1 ∙ ap (cycle_in f) e) in
      (dart_stays (l.dart_on c) k.0 n n', cycle_stays (l.dart_on c) n n' ∙ k.1)

  module _ (l : Lists) (on : AreDartsOn v f l) (c : CycleId) (first : cycle_in f d ≡ c) (second : cycle_in f m ≡ c) where
    -- the cycle is gone
    pub darts_on_others : AreDartsOn w (without_cycle c off) (cycle_unlisted c l)
    darts_on_others e o =
        let n : e ≢ c = λ q. none_there _ (ap (λ (z : CycleId). row_at (without_cycle c f).cycles z.0) q ∙ del_hit c.0 f.cycles h.complete.cycles_ascend) o in
        let had : HasCycle f e = subst IsSome (del_miss c.0 f.cycles e.0 h.complete.cycles_ascend (cycle_number e c n)) o in
        subst (λ k. HasDart w k × (cycle_in off k ≡ e)) (sym (ap (λ b. cond b (dart_id 0) (l.dart_on e)) (other_number e.0 c.0 (cycle_number e c n))))
        (still_on l on e had (λ q. n (q ∙ first)) (λ q. n (q ∙ second)))

    -- the cycle keeps a dart that stays
    pub darts_on_all : (k : DartId) → HasDart v k → cycle_in f k ≡ c → k ≢ d → k ≢ m → AreDartsOn w off (dart_listed c k l)
    darts_on_all k o q i j e has_e = elim (cycle_cases e c) [
      | inl z ↦
          subst (λ x. HasDart w x × (cycle_in off x ≡ e)) (sym (ap (λ (y : CycleId). cond (y.0 == c.0) k (l.dart_on e)) z ∙ ap (λ b. cond b k (l.dart_on e)) (same_number c.0)))
          (dart_stays k o i j, cycle_stays k i j ∙ q ∙ sym z)
      | inr n ↦
          subst (λ x. HasDart w x × (cycle_in off x ≡ e)) (sym (ap (λ b. cond b k (l.dart_on e)) (other_number e.0 c.0 (cycle_number e c n))))
          (still_on l on e has_e (λ p. n (p ∙ first)) (λ p. n (p ∙ second)))
    ]

-- ---- room
-- who writes cycles and faces alone leaves that of darts
spare_kept : (old mid new : RecordsView) → IsSpare old mid 0 2 → graph_part new ≡ graph_part mid → IsSpare old new 0 2
spare_kept old mid new s e = record {
  of_vertices = ap (λ (g : GraphView). g.spare_vertices) e ∙ s.of_vertices;
  of_darts = ap (λ (g : GraphView). g.spare_darts) e ∙ s.of_darts;
  capacity_of_vertices = ap (λ (g : GraphView). g.capacity_of_vertices) e ∙ s.capacity_of_vertices;
  capacity_of_darts = ap (λ (g : GraphView). g.capacity_of_darts) e ∙ s.capacity_of_darts;
}

-- no more than the room of one cycle is taken
pub record IsRoomLeft (old new : FacesView) : Type 0 where
  pub spare_cycles : old.spare_cycles ≤ new.spare_cycles + 1
  pub spare_faces : old.spare_faces ≤ new.spare_faces
  pub capacity_of_cycles : new.capacity_of_cycles ≡ old.capacity_of_cycles
  pub capacity_of_faces : new.capacity_of_faces ≡ old.capacity_of_faces

-- ---- all of it: mid are the records once the edge is gone, new those once cycles and faces are written too
pub unlink_made : (old mid new : RecordsView) (d m : DartId) (told : Unlinked) (s : Faces) (l : Lists) → IsSoundMap old → HasDart old.graph d → m ≡ twin_in old.graph d → mid.graph ≡ remove_edge old.graph d m → IsGraphSound mid.graph → IsSpare old mid 0 2 → graph_part new ≡ graph_part mid → tables_of new ≡ s → s ≡ step_faces new.graph (tables_of old) (unlinked_faces old.graph d told) → FitsUnlinked old.graph (tables_of old) d told → lists_of new ≡ l → (new.graph ≡ remove_edge old.graph d m → AreDartsOn new.graph s l) → IsRoomLeft old.faces new.faces → IsCarried new told → UnlinkListsMoved (tables_of old) told → IsUnlinkMade old new d m told
unlink_made old mid new d m told s l map has is_twin gone sound spare part written tables fits lists on room carried listed =
    let to_mid : new.graph ≡ mid.graph = ap (λ (g : GraphView). g.graph) part in
    let graph : new.graph ≡ remove_edge old.graph d m = to_mid ∙ gone in
    let sound_new : IsGraphSound new.graph = subst IsGraphSound (sym to_mid) sound in
    record {
      twin = is_twin;
      graph = graph;
      tables = written ∙ tables;
      fits = fits;
      lists = listed;
      map = record {
        sound = unlinked_is_sound old.graph new.graph (tables_of old) (tables_of new) d m told map.sound has is_twin graph sound_new (written ∙ tables) fits;
        darts = subst (λ z. AreDartsOn new.graph z (lists_of new)) (sym written) (subst (AreDartsOn new.graph s) (sym lists) (on graph));
      };
      spare = spare_kept old mid new spare part;
      spare_cycles = room.spare_cycles;
      spare_faces = room.spare_faces;
      capacity_of_cycles = room.capacity_of_cycles;
      capacity_of_faces = room.capacity_of_faces;
      carried = carried;
    }
