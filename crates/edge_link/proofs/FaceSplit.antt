-- A face that is split: the edge is linked on the cycle that both its places are on, a half of that cycle is parted off, and what lies within it is carried off.
use Rattle.std.proofs.Common.{◌≡◌, ◌≢◌, Bool, List, Some, refl, sym, ap, subst, ◌∙◌, arith, ◌⊎◌, inl, inr}
use Rattle.exact_plane.specs.Line.{Line}
use Rattle.plane_graphs.specs.Ascending.{Member}
use Rattle.slab_laws.specs.declared.names.CycleId.{CycleId}
use Rattle.slab_laws.specs.declared.names.CycleKind.TheVariants.{Outer}
use Rattle.slab_laws.specs.declared.names.DartId.{DartId}
use Rattle.slab_laws.specs.declared.names.FaceId.{FaceId}
use Rattle.slab_laws.specs.declared.names.VertexId.{VertexId}
use Rattle.slab_laws.specs.FaceLists.{Lists, MovedView, AreFacesListed, AreDartsOn}
use Rattle.slab_laws.specs.FacesSound.{IsSound}
use Rattle.slab_laws.specs.Kinds.{is_outer as bounds_from_outside}
use Rattle.slab_laws.specs.Sound.{IsGraphSound}
use Rattle.slab_laws.specs.View.{View, Faces, HasVertex, HasDart, HasCycle, HasFace, face_id, twin_in, cycle_or, cycle_in, kind_in, face_in}
use Rattle.arr_notes.specs.FaceSteps.{step_faces, splits}
use Rattle.arr_notes.specs.FaceWriters.{on_cycle, orbit_on, with_cycle, with_face, moved_to}
use Rattle.arr_notes.specs.FacesTold.{linked_faces}
use Rattle.arr_notes.specs.Step.{add_edge}
use Rattle.arr_notes.specs.declared.faces.Linked.{Linked}
use Rattle.arr_notes.specs.declared.faces.Linked.TheVariants.{Splits}
use Rattle.dcel_records.specs.ListChanges.{cycle_listed, dart_listed}
use Rattle.dcel_records.specs.RecordsView.{RecordsView, IsSpare, IsSpareFaces, graph_part, lists_of, lists_in_view, tables_of}
use Rattle.dcel_records.specs.SoundMaps.{IsSoundMap, IsCarriedOff}
use Rattle.face_steps.specs.EdgePairs.{IsEdgeApart}
use Rattle.face_steps.specs.LinkLaws.{FitsLinked}
use Rattle.face_steps.specs.MovedLists.{ListsWithin}
use Rattle.face_steps.specs.RowsWritten.{AreDartRows}
use Rattle.face_steps.specs.StepPremises.{IsBetween, FitsSplitting}
use Rattle.face_steps.specs.Tabled.{AreTabled}
use Rattle.face_steps.proofs.Choices.{tables_are_sound}
use Rattle.face_steps.proofs.EdgePairs.{up, vertex_above}
use Rattle.face_steps.proofs.FaceRows.{put_name_has}
use Rattle.face_steps.proofs.Within.{within_by_either}
use Rattle.cycle_writers.specs.declared.moves.Which.{Which}
use Rattle.cycle_writers.specs.Taken.{cycles_taken, vertices_taken}
use Rattle.cycle_writers.proofs.RunSteps.{runs_are_steps}
use Rattle.cycle_writers.proofs.Taken.{taken_is_fit}
use Rattle.edge_link.specs.declared.links.LinkNames.{LinkNames}
use Rattle.edge_link.specs.FacedLinks.{IsLinkMade}
use Rattle.edge_link.specs.Halves.{IsHalfAsked}
use Rattle.edge_link.specs.Links.{AreNewDarts, CanLink}
use Rattle.edge_link.proofs.LinkedMaps.{edge_linked, linked_between, linked_map}
use Rattle.edge_link.proofs.LinkParts.{same_spare, first_row, second_row, old_cycle}
use Rattle.edge_link.proofs.SplitMaps.{fresh_comes_later, still_listed, still_taken, still_kept, half_told, darts_parted}

-- the records, with an edge between two places on one cycle, whose darts are put on it
pub record IsLinkedOn (old linked : RecordsView) (n : LinkNames) (u w : VertexId) (at_u at_w : DartId) (l : Line) (kept : CycleId) (face : FaceId) : Type 0 where
  pub map : IsSoundMap old
  pub listed : AreFacesListed (tables_of old) (lists_of old)
  pub unbounded : HasFace (tables_of old) (face_id 0)
  pub can : CanLink old.graph u w (Some at_u) (Some at_w) l
  pub one : cycle_in (tables_of old) (twin_in old.graph at_u) ≡ cycle_in (tables_of old) (twin_in old.graph at_w)
  pub is_kept : kept ≡ cycle_in (tables_of old) (twin_in old.graph at_u)
  pub is_face : face ≡ face_in (tables_of old) kept
  pub new_darts : AreNewDarts old.graph n.d n.m
  pub graph : linked.graph ≡ add_edge old.graph n.d n.m u w (Some at_u) (Some at_w) l
  pub sound : IsGraphSound linked.graph
  pub spare : IsSpare linked old 0 2
  pub faces : linked.faces ≡ record old.faces { tables = on_cycle n.m kept (on_cycle n.d kept old.faces.tables) }

-- the orbit of x is a fresh cycle in a fresh face, and y is kept for the rest
pub record IsPartedOff (linked parted : RecordsView) (kept : CycleId) (x y : DartId) (fresh : CycleId) (fresh_face : FaceId) : Type 0 where
  pub cycle : ¬ HasCycle linked.faces.tables fresh
  pub face : ¬ HasFace linked.faces.tables fresh_face
  pub tables : parted.faces.tables ≡ with_cycle fresh Outer fresh_face (with_face fresh_face (orbit_on linked.graph x fresh linked.faces.tables))
  pub lists : lists_of parted ≡ dart_listed kept y (cycle_listed fresh fresh_face x (lists_of linked))
  pub spare : IsSpareFaces parted.faces linked.faces 1 1
  pub graph : graph_part parted ≡ graph_part linked

-- what is taken of the face is in the fresh one
pub record HasCarriedOff (parted new : RecordsView) (which : Which) (kept : CycleId) (face fresh_face : FaceId) (moved : MovedView) : Type 0 where
  pub cycles : moved.cycles ≡ cycles_taken parted.graph which kept (lists_of parted) face
  pub vertices : moved.vertices ≡ vertices_taken parted.graph which (lists_of parted) face
  pub tables : new.faces.tables ≡ moved_to moved.cycles moved.vertices fresh_face parted.faces.tables
  pub darts : (lists_of new).dart_on ≡ (lists_of parted).dart_on
  pub spare : IsSpareFaces parted.faces new.faces 0 0
  pub carried : IsCarriedOff new moved
  pub graph : graph_part new ≡ graph_part parted

-- x and y are d and m, in either order
abbrev pub AreEnds : LinkNames → DartId → DartId → Type 0
AreEnds n x y = ((x ≡ n.d) × (y ≡ n.m)) ⊎ ((x ≡ n.m) × (y ≡ n.d))

module _ (old linked : RecordsView) (n : LinkNames) (u w : VertexId) (at_u at_w : DartId) (l : Line) (kept : CycleId) (face : FaceId) (t : IsLinkedOn old linked n u w at_u at_w l kept face) where
  abbrev v : View
  v = old.graph

  abbrev G : View
  G = linked.graph

  abbrev f : Faces
  f = old.faces.tables

  abbrev s : Faces
  s = on_cycle n.m kept (on_cycle n.d kept f)

  abbrev A : DartId
  A = twin_in old.graph at_u

  abbrev B : DartId
  B = twin_in old.graph at_w

  apart : IsEdgeApart v G n.d n.m u w l
  apart = edge_linked v G n.d n.m u w (Some at_u) (Some at_w) l t.map.sound.graph t.can t.new_darts t.graph t.sound

  between : IsBetween v G n.d n.m u w A B
  between = linked_between v G n.d n.m u w (Some at_u) (Some at_w) l t.map.sound.graph t.can t.new_darts t.graph t.sound at_u at_w refl refl

  tabled : AreTabled v f
  tabled = (tables_are_sound v f t.map.sound.graph).1 t.map.sound

  first_on : cycle_in f A ≡ kept
  first_on = sym t.is_kept

  second_on : cycle_in f B ≡ kept
  second_on = sym t.one ∙ first_on

  written : linked.faces.tables ≡ s
  written = ap (λ h. h.tables) t.faces

  old_lists : lists_of linked ≡ lists_of old
  old_lists = ap lists_in_view t.faces

  has_kept : HasCycle f kept
  has_kept = subst (HasCycle f) first_on (tabled.complete.cycle_has A between.first)

  has_face : HasFace f face
  has_face = subst (HasFace f) (sym t.is_face) (tabled.complete.face_has kept has_kept)

  pub first_there : HasDart linked.graph n.d
  first_there = apart.more.first

  pub second_there : HasDart linked.graph n.m
  second_there = apart.more.second

  rows : AreDartRows G s
  rows = runs_are_steps.rows_linked v G f n.d n.m u w l kept apart (record { cycle_of_ascend = tabled.complete.cycle_of_ascend; cycle_rows = tabled.complete.cycle_rows })

  pub rows_there : AreDartRows linked.graph linked.faces.tables
  rows_there = subst (AreDartRows G) (sym written) rows

  pub kept_there : HasCycle linked.faces.tables kept
  kept_there = subst (λ h. HasCycle h kept) (sym written) has_kept

  pub end_there : (x y : DartId) → AreEnds n x y → HasDart linked.graph x
  end_there x y ends = elim ends [ inl e ↦ subst (HasDart G) (sym e.0) first_there | inr e ↦ subst (HasDart G) (sym e.0) second_there ]

  module _ (parted : RecordsView) (x y : DartId) (fresh : CycleId) (fresh_face : FaceId) (r : IsPartedOff linked parted kept x y fresh fresh_face) where
    abbrev L : Lists
    L = dart_listed kept y (cycle_listed fresh fresh_face x (lists_of old))

    new_cycle : ¬ HasCycle f fresh
    new_cycle o = r.cycle (subst (λ h. HasCycle h fresh) (sym written) o)

    new_face : ¬ HasFace f fresh_face
    new_face o = r.face (subst (λ h. HasFace h fresh_face) (sym written) o)

    parted_lists : lists_of parted ≡ L
    parted_lists = r.lists ∙ ap (λ h. dart_listed kept y (cycle_listed fresh fresh_face x h)) old_lists

    parted_faces : parted.faces.tables ≡ with_cycle fresh Outer fresh_face (with_face fresh_face (orbit_on G x fresh s))
    parted_faces = r.tables ∙ ap (λ h. with_cycle fresh Outer fresh_face (with_face fresh_face (orbit_on G x fresh h))) written

    same_graph : parted.graph ≡ G
    same_graph = ap (λ h. h.graph) r.graph

    pub two_faces : face ≢ fresh_face
    two_faces e = new_face (subst (HasFace f) e has_face)

    pub face_there : HasFace parted.faces.tables face
    face_there = subst (λ h. HasFace h face) (sym parted_faces) ((put_name_has fresh_face.0 f.faces face.0).1 (inl has_face))

    pub fresh_there : HasFace parted.faces.tables fresh_face
    fresh_there = subst (λ h. HasFace h fresh_face) (sym parted_faces) ((put_name_has fresh_face.0 f.faces fresh_face.0).1 (inr refl))

    listed_there : (c : CycleId) → Member c ((lists_of old).cycles face) → c ≢ fresh
    listed_there c m e = new_cycle (subst (HasCycle f) e ((t.listed.cycles face c).0 m).0)

    pub darts_there : (c : CycleId) → Member c ((lists_of parted).cycles face) → c ≢ kept → HasDart parted.graph ((lists_of parted).dart_on c)
    darts_there c m o =
        let m' = subst (Member c) (ap (λ h. h.cycles face) parted_lists ∙ still_listed kept fresh fresh_face face x y (lists_of old) two_faces) m in
        let d = t.map.darts c ((t.listed.cycles face c).0 m').0 in
        let same = ap (λ h. h.dart_on c) parted_lists ∙ still_kept kept fresh fresh_face face x y (lists_of old) c o (listed_there c m') in
        subst (λ g. HasDart g ((lists_of parted).dart_on c)) (sym same_graph) (subst (HasDart G) (sym same) (up v G n.d n.m u w l apart _ d.0))

    pub vertices_there : (z : VertexId) → Member z ((lists_of parted).bare face) → HasVertex parted.graph z
    vertices_there z m =
        let o = (t.listed.bare face z).0 (subst (Member z) (ap (λ h. h.bare face) parted_lists) m) in
        subst (λ g. HasVertex g z) (sym same_graph) (vertex_above v G n.d n.m u w l apart z (tabled.complete.bare_vertex z o.0))

    module _ (both : Bool) (which : Which) (is_kind : both ≡ bounds_from_outside (kind_in f kept)) (ends : AreEnds n x y) (asked : IsHalfAsked G both x y which) (new : RecordsView) (moved : MovedView) (c : HasCarriedOff parted new which kept face fresh_face moved) where
      abbrev S : Faces
      S = moved_to moved.cycles moved.vertices fresh_face (with_cycle fresh Outer fresh_face (with_face fresh_face (orbit_on G x fresh s)))

      abbrev told : Linked
      told = Splits kept fresh x fresh_face moved

      cycles_moved : cycles_taken G which kept (lists_of old) (face_in f kept) ≡ moved.cycles
      cycles_moved =
          ap (cycles_taken G which kept (lists_of old)) (sym t.is_face)
          ∙ sym (still_taken kept fresh fresh_face face x y (lists_of old) G which two_faces listed_there)
          ∙ sym (c.cycles ∙ (λ j. cycles_taken (same_graph j) which kept (parted_lists j) face))

      vertices_moved : vertices_taken G which (lists_of old) (face_in f kept) ≡ moved.vertices
      vertices_moved = ap (vertices_taken G which (lists_of old)) (sym t.is_face) ∙ sym (c.vertices ∙ (λ j. vertices_taken (same_graph j) which (parted_lists j) face))

      at_y : cycle_in s y ≡ kept
      at_y = elim ends [
        | inl e ↦ ap (cycle_in s) e.1 ∙ ap cycle_or (second_row v G n.d n.m u w l apart f kept)
        | inr e ↦ ap (cycle_in s) e.1 ∙ ap cycle_or (first_row v G n.d n.m u w l apart f kept)
      ]

      -- where the tables after the split are those of a sound view, listed is just what lies within the half of x
      abbrev IsListed : List CycleId → List VertexId → Type 0
      IsListed cs us = IsSound G (step_faces G f (splits n.d n.m kept fresh x fresh_face cs us)) → ListsWithin v G f x kept cs us

      -- x comes after a, and y after b
      halves : (p q : VertexId) (a b : DartId) → IsBetween v G x y p q a b → cycle_in f a ≡ kept → cycle_in f b ≡ kept → FitsSplitting v G f x a b kept fresh fresh_face moved.cycles moved.vertices × AreDartsOn G S L × IsListed moved.cycles moved.vertices
      halves p q a b i at_a at_b =
          let side = half_told v G f x y p q a b kept i tabled at_a at_b both is_kind which asked in
          let later = fresh_comes_later f fresh_face tabled.complete.faces_ascend t.unbounded new_face in
          let fits = taken_is_fit.split v G f (lists_of old) x y p q a b which kept fresh fresh_face i tabled (record { listed = t.listed; darts = t.map.darts }) at_a at_b new_cycle new_face later side.0 side.1 in
          let listed : IsListed (cycles_taken G which kept (lists_of old) (face_in f kept)) (vertices_taken G which (lists_of old) (face_in f kept)) = taken_is_fit.split_lists v G f (lists_of old) x a b n.d n.m which kept fresh fresh_face tabled t.listed fits in (
            subst (λ cs. FitsSplitting v G f x a b kept fresh fresh_face cs moved.vertices) cycles_moved (subst (FitsSplitting v G f x a b kept fresh fresh_face (cycles_taken G which kept (lists_of old) (face_in f kept))) vertices_moved fits),
            darts_parted v G f x y p q a b kept i tabled at_a at_b n.d n.m fresh fresh_face moved.cycles moved.vertices rows at_y (old_cycle v G n.d n.m u w l apart f kept) (lists_of old) t.map.darts,
            subst (λ cs. IsListed cs moved.vertices) cycles_moved (subst (IsListed (cycles_taken G which kept (lists_of old) (face_in f kept))) vertices_moved listed),
          )

      named : (d m : DartId) (p q : VertexId) (a b : DartId) → x ≡ d → y ≡ m → IsBetween v G d m p q a b → IsBetween v G x y p q a b
      named d m p q a b e g i = subst (λ z. IsBetween v G z y p q a b) (sym e) (subst (λ z. IsBetween v G d z p q a b) (sym g) i)

      turned : IsBetween v G n.m n.d w u B A
      turned = within_by_either.turned v G n.d n.m u w A B between

      both_halves : FitsLinked v G f n.d n.m u (Some at_u) (Some at_w) told × AreDartsOn G S L × IsListed moved.cycles moved.vertices
      both_halves = elim ends [
        | inl e ↦ let z = halves u w A B (named n.d n.m u w A B e.0 e.1 between) first_on second_on in (inl (e.0, subst (λ k. FitsSplitting v G f k A B kept fresh fresh_face moved.cycles moved.vertices) e.0 z.0), z.1, z.2)
        | inr e ↦ let z = halves w u B A (named n.m n.d w u B A e.0 e.1 turned) second_on first_on in (inr (e.0, subst (λ k. FitsSplitting v G f k B A kept fresh fresh_face moved.cycles moved.vertices) e.0 z.0), z.1, z.2)
      ]

      last_graph : graph_part new ≡ graph_part linked
      last_graph = c.graph ∙ r.graph

      back : G ≡ new.graph
      back = sym (ap (λ h. h.graph) last_graph)

      made : new.graph ≡ add_edge v n.d n.m u w (Some at_u) (Some at_w) l
      made = sym back ∙ t.graph

      is_S : new.faces.tables ≡ S
      is_S = c.tables ∙ ap (moved_to moved.cycles moved.vertices fresh_face) parted_faces

      stepped : new.faces.tables ≡ step_faces new.graph f (linked_faces n.d n.m u w (Some at_u) told)
      stepped = is_S ∙ ap (λ g. moved_to moved.cycles moved.vertices fresh_face (with_cycle fresh Outer fresh_face (with_face fresh_face (orbit_on g x fresh s)))) back

      fits : FitsLinked v new.graph f n.d n.m u (Some at_u) (Some at_w) told
      fits = subst (λ g. FitsLinked v g f n.d n.m u (Some at_u) (Some at_w) told) back both_halves.0

      darts : AreDartsOn new.graph new.faces.tables (lists_of new)
      darts e o =
          let z = both_halves.1 e (subst (λ h. HasCycle h e) is_S o) in
          let same : (lists_of new).dart_on e ≡ L.dart_on e = ap (λ h. h e) c.darts ∙ ap (λ h. h.dart_on e) parted_lists in (
            subst (HasDart new.graph) (sym same) (subst (λ g. HasDart g (L.dart_on e)) back z.0),
            ap (λ h. cycle_in h ((lists_of new).dart_on e)) is_S ∙ ap (cycle_in S) same ∙ z.1,
          )

      pub face_split : IsLinkMade old new n u w (Some at_u) (Some at_w) l (Splits kept fresh x fresh_face moved)
      face_split =
          let sound = linked_map v new.graph n.d n.m u w (Some at_u) (Some at_w) l t.map.sound.graph t.can t.new_darts made (subst IsGraphSound back t.sound) f new.faces.tables told t.map.sound stepped fits in
          let c0 : linked.faces.spare_cycles ≡ old.faces.spare_cycles = ap (λ h. h.spare_cycles) t.faces in
          let f0 : linked.faces.spare_faces ≡ old.faces.spare_faces = ap (λ h. h.spare_faces) t.faces in
          let c1 = r.spare.of_cycles in
          let f1 = r.spare.of_faces in
          let c2 = c.spare.of_cycles in
          let f2 = c.spare.of_faces in
          record {
            new_darts = t.new_darts;
            graph = made;
            tables = stepped;
            fits = fits;
            lists = subst (λ g. ListsWithin v g f x kept moved.cycles moved.vertices) back (both_halves.2 (subst (IsSound G) is_S (subst (λ g. IsSound g new.faces.tables) (sym back) sound)));
            map = record { sound = sound; darts = darts };
            spare = same_spare old old linked new n.d n.m u w (Some at_u) (Some at_w) l refl last_graph t.spare;
            spare_cycles = omega (arith, c0, c1, c2);
            spare_faces = omega (arith, f0, f1, f2);
            capacity_of_cycles = c.spare.capacity_of_cycles ∙ sym r.spare.capacity_of_cycles ∙ ap (λ h. h.capacity_of_cycles) t.faces;
            capacity_of_faces = c.spare.capacity_of_faces ∙ sym r.spare.capacity_of_faces ∙ ap (λ h. h.capacity_of_faces) t.faces;
            carried = c.carried;
          }
