-- Unites: the tables that the step makes stand.
use Rattle.std.proofs.Common.{◌≡◌, ◌≢◌, ◌↔◌, ◌==◌, Bool, true, false, cond, List, None, IsSome, option_map, refl, sym, ap, ◌∙◌, subst, ◌⊎◌, inl, inr}
use Rattle.std.specs.Prelude.{not}
use Rattle.std.proofs.lemmas.Bool.{cases_Bool, false≢true, true≢false, false_from_ne_true}
use Rattle.std.specs.List.{Contains}
use Rattle.exact_plane.specs.Line.{Line}
use Rattle.slab_laws.specs.declared.names.CycleId.{CycleId}
use Rattle.slab_laws.specs.declared.names.DartId.{DartId}
use Rattle.slab_laws.specs.declared.names.FaceId.{FaceId}
use Rattle.slab_laws.specs.declared.names.VertexId.{VertexId}
use Rattle.slab_laws.specs.Cycles.{left_of_dart}
use Rattle.slab_laws.specs.FacesSound.{lead_in, IsComplete}
use Rattle.slab_laws.specs.Sound.{skeleton_of, dart_in}
use Rattle.slab_laws.specs.Tables.{row_at, names, NamesAscend}
use Rattle.slab_laws.specs.View.{View, Faces, HasDart, HasCycle, HasFace, HasBareFace, next_in, cycle_or, kind_or, face_or, bare_or, cycle_in, kind_in, face_in, bare_face_in}
use Rattle.slab_faces.proofs.Turns.{face_sym}
use Rattle.arr_notes.specs.FaceSteps.{step_faces, unites}
use Rattle.arr_notes.specs.FaceWriters.{del_name, lists_cycle, lists_vertex}
use Rattle.arr_notes.proofs.Names.{cases_dart}
use Rattle.arr_notes.proofs.RowLaws.{row_at-each, ascend-each, ascend-del}
use Rattle.arr_notes.proofs.Reading.{dart_number, none_there}
use Rattle.arr_notes.proofs.VertexReads.{del_hit, del_miss}
use Rattle.sound_views.proofs.NamedDarts.{names_are_darts}
use Rattle.face_changes.specs.FacesByPairs.{outside, beside, round, HasItem, first_or}
use Rattle.face_changes.specs.Kinds.{odd_at}
use Rattle.face_changes.proofs.OneMoreEdge.{one_outer_cycle, faces_with_one_more_edge, sides_of_one_more_edge}
use Rattle.face_changes.proofs.LinkedCycles.{there_dart}
use Rattle.face_changes.proofs.CycleNames.{lead_step}
use Rattle.face_steps.specs.EdgePairs.{IsEdgeApart}
use Rattle.face_steps.specs.StepPremises.{FitsUnite}
use Rattle.face_steps.specs.Tabled.{AreTabled}
use Rattle.face_steps.specs.TwoFaces.{IsUniteApart}
use Rattle.face_steps.proofs.Alike.{kind_at}
use Rattle.face_steps.proofs.CyclesApart.{cycle_cases}
use Rattle.face_steps.proofs.EdgePairs.{turned_round, up, sorted, bare_below, vertex_above, vertex_below, is_more, twins, lead_second, real_first, real_second}
use Rattle.face_steps.proofs.FaceRows.{map_some, map_cycle, cycle_number, face_number, swap_hit, swap_miss, del_name_has, del_name_ascends, first_left}
use Rattle.face_steps.proofs.StepJoins.{bare_up}
use Rattle.face_steps.proofs.StepSplits.{in_face, map_kind, map_face, map_bare}
use Rattle.face_steps.proofs.TwoFaces.{two_faces_apart}

pub record AreUniteRows (f s : Faces) (x y : DartId) (kept gone : CycleId) (gone_face : FaceId) (cs : List CycleId) (us : List VertexId) : Type 0 where
  pub old : (k : DartId) → k ≢ x → k ≢ y → row_at f.cycle_of k.0 ≡ option_map (λ c. cond (c.0 == gone.0) kept c) (row_at s.cycle_of k.0)
  pub first : row_at f.cycle_of x.0 ≡ None
  pub second : row_at f.cycle_of y.0 ≡ None
  pub cycle_gone : row_at f.cycles gone.0 ≡ None
  pub cycle_old : (e : CycleId) → e ≢ gone → row_at f.cycles e.0 ≡ option_map (in_face cs e.0 (face_in s kept)) (row_at s.cycles e.0)
  pub bare : (u : VertexId) → row_at f.bare u.0 ≡ option_map (λ b. cond (lists_vertex us u.0) (face_in s kept) b) (row_at s.bare u.0)
  pub faces : f.faces ≡ del_name gone_face.0 s.faces
  pub cycles_ascend : NamesAscend (names f.cycles)
  pub cycle_of_ascend : NamesAscend (names f.cycle_of)
  pub bare_ascend : NamesAscend (names f.bare)

-- the sides of an edge on two cycles are two faces
module _ (v w : View) (x y : DartId) (p q : VertexId) (l : Line) (m : IsEdgeApart v w x y p q l) (s : Faces) (h : AreTabled w s) where
  pub two_sides : cycle_in s x ≢ cycle_in s y → face_in s (cycle_in s x) ≢ face_in s (cycle_in s y)
  two_sides n e =
      let same = (h.told.same (beside x) (beside y) m.more.first m.more.second).0 e in
      let two : lead_in w x ≢ lead_in w y = λ z. n ((h.cycled.orbits x y m.more.first m.more.second).1 z) in
      let law = faces_with_one_more_edge (skeleton_of v) (skeleton_of w) (dart_in w x) (left_of_dart (skeleton_of w) (dart_in w x)) (left_of_dart (skeleton_of w) (dart_in w y)) _ _ (is_more v w x y p q l m)
      (record { real = real_first v w x y p q l m; in' = refl }) (record { real = real_second v w x y p q l m; in' = refl }) in
      let side = sides_of_one_more_edge.two (skeleton_of v) (skeleton_of w) (dart_in w x) (is_more v w x y p q l m) (λ z. two (z ∙ sym (lead_second v w x y p q l m))) in
      clash (odd_at (skeleton_of w) (dart_in w x) (left_of_dart (skeleton_of w) (dart_in w x)))
      (side ∙ ap not (ap (λ z. odd_at (skeleton_of w) (dart_in w x) (left_of_dart (skeleton_of w) z)) (sym (twins v w x y p q l m)) ∙ sym (law.0 same).1))
    where
      clash : (c : Bool) → c ≡ not c → ⊥
      clash true k = true≢false k
      clash false k = false≢true k

module _ (v w : View) (x y : DartId) (p q : VertexId) (l : Line) (m : IsEdgeApart v w x y p q l) (a b : DartId) (A : HasDart v a) (B : HasDart v b) (na : next_in w a ≡ x) (nb : next_in w b ≡ y) (f s : Faces) (kept gone : CycleId) (gone_face : FaceId) (cs : List CycleId) (us : List VertexId) (t : FitsUnite s x y kept gone gone_face cs us) (r : AreUniteRows f s x y kept gone gone_face cs us) (h : AreTabled w s) where
  abbrev to_face : FaceId
  to_face = face_in s kept

  two : lead_in w x ≢ lead_in w y
  two e = t.two (sym t.second ∙ sym ((h.cycled.orbits x y m.more.first m.more.second).1 e) ∙ t.first)

  has_kept : HasCycle s kept
  has_kept = subst (HasCycle s) t.second (h.complete.cycle_has y m.more.second)

  has_gone : HasCycle s gone
  has_gone = subst (HasCycle s) t.first (h.complete.cycle_has x m.more.first)

  other_face : face_in s kept ≢ gone_face
  other_face e = two_sides v w x y p q l m s h (λ z. t.two (sym t.second ∙ sym z ∙ t.first)) (ap (face_in s) t.first ∙ t.face ∙ sym e ∙ ap (face_in s) (sym t.second))

  not_x : (k : DartId) → HasDart v k → k ≢ x
  not_x k o e = m.more.first_new (subst (HasDart v) e o)

  not_y : (k : DartId) → HasDart v k → k ≢ y
  not_y k o e = m.more.second_new (subst (HasDart v) e o)

  has_up : (k : DartId) → HasDart v k → HasDart w k
  has_up k o = up v w x y p q l m k o

  reads : (k : DartId) → HasDart v k → cycle_in f k ≡ cond ((cycle_in s k).0 == gone.0) kept (cycle_in s k)
  reads k o = ap cycle_or (r.old k (not_x k o) (not_y k o)) ∙ map_cycle (λ c. cond (c.0 == gone.0) kept c) (row_at s.cycle_of k.0) ((h.complete.cycle_rows k).0 (has_up k o))

  moved : (k : DartId) → HasDart v k → cycle_in s k ≡ gone → cycle_in f k ≡ kept
  moved k o e = reads k o ∙ swap_hit gone kept (cycle_in s k) e

  others : (k : DartId) → HasDart v k → cycle_in s k ≢ gone → cycle_in f k ≡ cycle_in s k
  others k o n = reads k o ∙ swap_miss gone kept (cycle_in s k) n

  kind_still : (e : CycleId) → e ≢ gone → kind_in f e ≡ kind_in s e
  kind_still e n = ap kind_or (r.cycle_old e n) ∙ map_kind cs e.0 to_face (row_at s.cycles e.0)

  face_reads : (e : CycleId) → e ≢ gone → HasCycle s e → face_in f e ≡ cond (lists_cycle cs e.0) to_face (face_in s e)
  face_reads e n o = ap face_or (r.cycle_old e n) ∙ map_face cs e.0 to_face (row_at s.cycles e.0) o

  face_hit : (e : CycleId) → e ≢ gone → HasCycle s e → face_in s e ≡ gone_face → face_in f e ≡ to_face
  face_hit e n o z = face_reads e n o ∙ ap (λ b. cond b to_face (face_in s e)) ((t.cycles e o n).1 z)

  face_miss : (e : CycleId) → e ≢ gone → HasCycle s e → face_in s e ≢ gone_face → face_in f e ≡ face_in s e
  face_miss e n o z = face_reads e n o ∙ ap (λ b. cond b to_face (face_in s e)) (false_from_ne_true _ (λ g. z ((t.cycles e o n).0 g)))

  bare_reads : (u : VertexId) → HasBareFace s u → bare_face_in f u ≡ cond (lists_vertex us u.0) to_face (bare_face_in s u)
  bare_reads u o = ap bare_or (r.bare u) ∙ map_bare (lists_vertex us u.0) to_face (row_at s.bare u.0) o

  bare_hit : (u : VertexId) → HasBareFace s u → bare_face_in s u ≡ gone_face → bare_face_in f u ≡ to_face
  bare_hit u o z = bare_reads u o ∙ ap (λ b. cond b to_face (bare_face_in s u)) ((t.vertices u o).1 z)

  bare_miss : (u : VertexId) → HasBareFace s u → bare_face_in s u ≢ gone_face → bare_face_in f u ≡ bare_face_in s u
  bare_miss u o z = bare_reads u o ∙ ap (λ b. cond b to_face (bare_face_in s u)) (false_from_ne_true _ (λ g. z ((t.vertices u o).0 g)))

  row_of : (u : VertexId) → HasItem v (round u) → HasBareFace s u
  row_of u i = (h.complete.bare u (vertex_above v w x y p q l m u i.0)).1 (bare_up v w x y p q l m a b A B na nb u i.1)

  has_faces : (c : FaceId) → HasFace f c ↔ (HasFace s c × (c ≢ gone_face))
  has_faces c =
      let z = del_name_has gone_face.0 s.faces c.0 h.complete.faces_ascend in (
        λ o. let k = z.0 (subst (λ ns. Contains ns c.0) r.faces o) in (k.0, λ e. k.1 (ap (λ (y : FaceId). y.0) e)),
        λ o. subst (λ ns. Contains ns c.0) (sym r.faces) (z.1 (o.0, face_number c gone_face o.1)),
      )

  -- the first face isn't that of an outer cycle
  pub not_far : first_or s.faces ≢ gone_face
  not_far e =
      let k = (h.told.same outside (beside x) tt m.more.first).0 (e ∙ sym t.face ∙ ap (face_in s) (sym t.first)) in
      let out = (kind_at w s x m.sound_more h.cycled m.more.first).0 (ap (kind_in s) t.first ∙ t.outer) in
      let z = one_outer_cycle.unbounded (skeleton_of w) (dart_in w x) m.sound_more.plane (there_dart (skeleton_of w) (dart_in w x) (names_are_darts.known w x m.sound_more m.more.first)) (face_sym _ _ _ k) in
      true≢false (sym out ∙ z)

  unite : IsUniteApart v f s x y kept gone gone_face
  unite = record {
    first = t.first;
    second = t.second;
    outer = t.outer;
    face_gone = t.face;
    faces = has_faces;
    first_stays = ap first_or r.faces ∙ first_left gone_face.0 s.faces h.told.there (face_number (first_or s.faces) gone_face not_far);
    moved = moved;
    others = others;
    kinds = λ k o n. kind_still (cycle_in s k) n;
    face_kept = face_miss kept t.two has_kept other_face;
    face_moved = λ k o n e. face_hit (cycle_in s k) n (h.complete.cycle_has k (has_up k o)) e;
    face_off = λ k o n e. face_miss (cycle_in s k) n (h.complete.cycle_has k (has_up k o)) e;
    bare_moved = λ u i e. bare_hit u (row_of u i) e;
    bare_off = λ u i e. bare_miss u (row_of u i) e;
  }

  -- ---- every row is there
  still : (e : CycleId) → e ≢ gone → HasCycle s e → HasCycle f e
  still e n o = subst IsSome (sym (r.cycle_old e n)) ((map_some (in_face cs e.0 to_face) (row_at s.cycles e.0)).0 o)

  had : (e : CycleId) → HasCycle f e → (e ≢ gone) × HasCycle s e
  had e o =
      let n : e ≢ gone = λ z. none_there (row_at f.cycles e.0) (ap (λ c. row_at f.cycles c.0) z ∙ r.cycle_gone) o in
      (n, (map_some (in_face cs e.0 to_face) (row_at s.cycles e.0)).1 (subst IsSome (r.cycle_old e n) o))

  has_to_face : HasFace f (face_in s kept)
  has_to_face = (has_faces (face_in s kept)).1 (h.complete.face_has kept has_kept, other_face)

  cycle_b : cycle_in s b ≡ kept
  cycle_b = (h.cycled.orbits b y (has_up b B) m.more.second).1 (lead_step w m.sound_more b (has_up b B) ∙ ap (lead_in w) nb) ∙ t.second

  rows : (k : DartId) → HasDart v k ↔ IsSome (row_at f.cycle_of k.0)
  rows k = (
    λ o. subst IsSome (sym (r.old k (not_x k o) (not_y k o))) ((map_some (λ c. cond (c.0 == gone.0) kept c) (row_at s.cycle_of k.0)).0 ((h.complete.cycle_rows k).0 (has_up k o))),
    λ o. elim (cases_dart k x) [
      | inl e ↦ absurd (none_there _ (ap (λ j. row_at f.cycle_of j.0) e ∙ r.first) o)
      | inr n ↦ elim (cases_dart k y) [
        | inl e ↦ absurd (none_there _ (ap (λ j. row_at f.cycle_of j.0) e ∙ r.second) o)
        | inr n' ↦ elim (sorted v w x y p q l m k ((h.complete.cycle_rows k).1 ((map_some (λ c. cond (c.0 == gone.0) kept c) (row_at s.cycle_of k.0)).1 (subst IsSome (r.old k n n') o)))) [
          | inl z ↦ z
          | inr z ↦ elim z [ inl e ↦ absurd (n e) | inr e ↦ absurd (n' e) ]
        ]
      ]
    ],
  )

  dart_there : (e : CycleId) → HasCycle f e → (d : DartId) × HasDart v d × (cycle_in f d ≡ e)
  dart_there e o = elim (cycle_cases e kept) [
    | inl z ↦ (b, B, others b B (λ g. t.two (sym cycle_b ∙ g)) ∙ cycle_b ∙ sym z)
    | inr n ↦
        let k = had e o in
        let d = h.complete.dart_has e k.1 in
        elim (sorted v w x y p q l m d.0 d.1) [
          | inl z ↦ (d.0, z, others d.0 z (λ g. k.0 (sym d.2 ∙ g)) ∙ d.2)
          | inr z ↦ absurd (elim z [ inl i ↦ k.0 (sym d.2 ∙ ap (cycle_in s) i ∙ t.first) | inr i ↦ n (sym d.2 ∙ ap (cycle_in s) i ∙ t.second) ])
        ]
  ]

  bare_row : (u : VertexId) → HasBareFace f u ↔ HasBareFace s u
  bare_row u = let z = map_some (λ b. cond (lists_vertex us u.0) to_face b) (row_at s.bare u.0) in (λ o. z.1 (subst IsSome (r.bare u) o), λ o. subst IsSome (sym (r.bare u)) (z.0 o))

  complete : IsComplete v f
  complete = record {
    cycles_ascend = r.cycles_ascend;
    faces_ascend = subst NamesAscend (sym r.faces) (del_name_ascends gone_face.0 s.faces h.complete.faces_ascend);
    cycle_of_ascend = r.cycle_of_ascend;
    bare_ascend = r.bare_ascend;
    cycle_rows = rows;
    cycle_has = λ k o. elim (cycle_cases (cycle_in s k) gone) [
      | inl e ↦ subst (HasCycle f) (sym (moved k o e)) (still kept t.two has_kept)
      | inr n ↦ subst (HasCycle f) (sym (others k o n)) (still (cycle_in s k) n (h.complete.cycle_has k (has_up k o)))
    ];
    dart_has = dart_there;
    face_has = λ e o.
        let k = had e o in
        elim (cases_Bool (lists_cycle cs e.0)) [
          | inl g ↦ subst (HasFace f) (sym (face_hit e k.0 k.1 ((t.cycles e k.1 k.0).0 g))) has_to_face
          | inr g ↦
              let n : face_in s e ≢ gone_face = λ z. true≢false (sym ((t.cycles e k.1 k.0).1 z) ∙ g) in
              subst (HasFace f) (sym (face_miss e k.0 k.1 n)) ((has_faces (face_in s e)).1 (h.complete.face_has e k.1, n))
        ];
    bare = λ u o.
        let z = h.complete.bare u (vertex_above v w x y p q l m u o) in
        (λ k. bare_below v w x y p q l m u (z.0 ((bare_row u).0 k)), λ k. (bare_row u).1 (z.1 (bare_up v w x y p q l m a b A B na nb u k)));
    bare_vertex = λ u o. vertex_below v w x y p q l m u (h.complete.bare_vertex u ((bare_row u).0 o));
    bare_has = λ u o.
        let k = (bare_row u).0 o in
        elim (cases_Bool (lists_vertex us u.0)) [
          | inl g ↦ subst (HasFace f) (sym (bare_hit u k ((t.vertices u k).0 g))) has_to_face
          | inr g ↦
              let n : bare_face_in s u ≢ gone_face = λ z. true≢false (sym ((t.vertices u k).1 z) ∙ g) in
              subst (HasFace f) (sym (bare_miss u k n)) ((has_faces (bare_face_in s u)).1 (h.complete.bare_has u k, n))
        ];
  }

  pub unite_rows : AreTabled v f
  unite_rows = record {
    complete = complete;
    cycled = two_faces_apart.united_cycles v w f s x y p q l a b kept gone gone_face m A B na nb two unite h.cycled;
    told = two_faces_apart.united_faces v w f s x y p q l a b kept gone gone_face m A B na nb two unite h.cycled h.told;
  }

-- ---- the rows that the step makes
rows_of : (v : View) (s : Faces) (x y : DartId) (two : x ≢ y) (kept gone : CycleId) (gone_face : FaceId) (cs : List CycleId) (us : List VertexId) → NamesAscend (names s.cycle_of) → NamesAscend (names s.cycles) → NamesAscend (names s.bare) → AreUniteRows (step_faces v s (unites x y kept gone gone_face cs us)) s x y kept gone gone_face cs us
rows_of v s x y two kept gone gone_face cs us up cycles_up bare_ups = record {
  old = λ k i j. row_at-each (λ n c. cond (c.0 == gone.0) kept c) _ k.0 ∙ ap (option_map (λ c. cond (c.0 == gone.0) kept c)) (del_miss y.0 _ k.0 (ascend-del x.0 s.cycle_of up) (dart_number k y j) ∙ del_miss x.0 s.cycle_of k.0 up (dart_number k x i));
  first = row_at-each (λ n c. cond (c.0 == gone.0) kept c) _ x.0 ∙ ap (option_map (λ c. cond (c.0 == gone.0) kept c)) (del_miss y.0 _ x.0 (ascend-del x.0 s.cycle_of up) (dart_number x y two) ∙ del_hit x.0 s.cycle_of up);
  second = row_at-each (λ n c. cond (c.0 == gone.0) kept c) _ y.0 ∙ ap (option_map (λ c. cond (c.0 == gone.0) kept c)) (del_hit y.0 _ (ascend-del x.0 s.cycle_of up));
  cycle_gone = del_hit gone.0 _ (ascend-each _ s.cycles cycles_up);
  cycle_old = λ e n. del_miss gone.0 _ e.0 (ascend-each _ s.cycles cycles_up) (cycle_number e gone n) ∙ row_at-each (λ n r. in_face cs n (face_in s kept) r) s.cycles e.0;
  bare = λ u. row_at-each (λ n b. cond (lists_vertex us n) (face_in s kept) b) s.bare u.0;
  faces = refl;
  cycles_ascend = ascend-del gone.0 _ (ascend-each _ s.cycles cycles_up);
  cycle_of_ascend = ascend-each _ _ (ascend-del y.0 _ (ascend-del x.0 s.cycle_of up));
  bare_ascend = ascend-each _ s.bare bare_ups;
}

turned_rows : (f s : Faces) (x y : DartId) (kept gone : CycleId) (gone_face : FaceId) (cs : List CycleId) (us : List VertexId) → AreUniteRows f s x y kept gone gone_face cs us → AreUniteRows f s y x kept gone gone_face cs us
turned_rows f s x y kept gone gone_face cs us r = record {
  old = λ k i j. r.old k j i;
  first = r.second;
  second = r.first;
  cycle_gone = r.cycle_gone;
  cycle_old = r.cycle_old;
  bare = r.bare;
  faces = r.faces;
  cycles_ascend = r.cycles_ascend;
  cycle_of_ascend = r.cycle_of_ascend;
  bare_ascend = r.bare_ascend;
}

-- the first of the pair is on the cycle that goes, or the second
pub unite_first : (v w : View) (x y : DartId) (p q : VertexId) (l : Line) (m : IsEdgeApart v w x y p q l) (a b : DartId) (A : HasDart v a) (B : HasDart v b) (na : next_in w a ≡ x) (nb : next_in w b ≡ y) (s : Faces) (kept gone : CycleId) (gone_face : FaceId) (cs : List CycleId) (us : List VertexId) → FitsUnite s x y kept gone gone_face cs us → AreTabled w s → AreTabled v (step_faces v s (unites x y kept gone gone_face cs us))
unite_first v w x y p q l m a b A B na nb s kept gone gone_face cs us t h =
    unite_rows v w x y p q l m a b A B na nb (step_faces v s (unites x y kept gone gone_face cs us)) s kept gone gone_face cs us t
    (rows_of v s x y m.more.two_names kept gone gone_face cs us h.complete.cycle_of_ascend h.complete.cycles_ascend h.complete.bare_ascend) h

pub unite_second : (v w : View) (x y : DartId) (p q : VertexId) (l : Line) (m : IsEdgeApart v w x y p q l) (a b : DartId) (A : HasDart v a) (B : HasDart v b) (na : next_in w a ≡ x) (nb : next_in w b ≡ y) (s : Faces) (kept gone : CycleId) (gone_face : FaceId) (cs : List CycleId) (us : List VertexId) → FitsUnite s y x kept gone gone_face cs us → AreTabled w s → AreTabled v (step_faces v s (unites x y kept gone gone_face cs us))
unite_second v w x y p q l m a b A B na nb s kept gone gone_face cs us t h =
    unite_rows v w y x q p l (turned_round v w x y p q l m) b a B A nb na (step_faces v s (unites x y kept gone gone_face cs us)) s kept gone gone_face cs us t
    (turned_rows _ s x y kept gone gone_face cs us (rows_of v s x y m.more.two_names kept gone gone_face cs us h.complete.cycle_of_ascend h.complete.cycles_ascend h.complete.bare_ascend)) h

pub unite_keeps_first : (v w : View) (x y : DartId) (p q : VertexId) (l : Line) (m : IsEdgeApart v w x y p q l) (a b : DartId) (A : HasDart v a) (B : HasDart v b) (na : next_in w a ≡ x) (nb : next_in w b ≡ y) (s : Faces) (kept gone : CycleId) (gone_face : FaceId) (cs : List CycleId) (us : List VertexId) → FitsUnite s x y kept gone gone_face cs us ⊎ FitsUnite s y x kept gone gone_face cs us → AreTabled w s → first_or (step_faces v s (unites x y kept gone gone_face cs us)).faces ≡ first_or s.faces
unite_keeps_first v w x y p q l m a b A B na nb s kept gone gone_face cs us t h = first_left gone_face.0 s.faces h.told.there (face_number (first_or s.faces) gone_face far)
  where
    r : AreUniteRows (step_faces v s (unites x y kept gone gone_face cs us)) s x y kept gone gone_face cs us
    r = rows_of v s x y m.more.two_names kept gone gone_face cs us h.complete.cycle_of_ascend h.complete.cycles_ascend h.complete.bare_ascend

    far : first_or s.faces ≢ gone_face
    far = elim t [
      | inl k ↦ not_far v w x y p q l m a b A B na nb (step_faces v s (unites x y kept gone gone_face cs us)) s kept gone gone_face cs us k r h
      | inr k ↦ not_far v w y x q p l (turned_round v w x y p q l m) b a B A nb na (step_faces v s (unites x y kept gone gone_face cs us)) s kept gone gone_face cs us k (turned_rows _ s x y kept gone gone_face cs us r) h
    ]
