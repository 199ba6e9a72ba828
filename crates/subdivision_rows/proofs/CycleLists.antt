-- What the lists of cycles and faces say of a name that has a record.
use Rattle.std.proofs.Common.{◌≡◌, ℕ, ◌<◌, cond, sym, ap, subst, ◌∙◌, List, map, length, Some, get_or}
use Rattle.std.specs.Prelude.{slice_get}
use Rattle.std.specs.Option.{option_map}
use Rattle.std.proofs.lemmas.Option.{slice_get-map}
use Rattle.plane_graphs.proofs.Lists.{map_map}
use Rattle.slab_laws.specs.Faces.{face_labels, face_of}
use Rattle.slab_laws.specs.Darts.{Dart}
use Rattle.slab_laws.specs.Slabs.{left_cell}
use Rattle.slab_laws.specs.Subdivision.{Cycle, rank}
use Rattle.slab_laws.specs.Kinds.{kind_by}
use Rattle.slab_laws.specs.Rows.{dart_list, lead_list, cycle_place, cycle_places, cycle_row, cycle_rows}
use Rattle.slab_laws.specs.declared.rows.CycleRow.{CycleRow}
use Rattle.slab_laws.specs.declared.names.CycleKind.{CycleKind}
use Rattle.slab_laws.specs.declared.names.CycleId.{CycleId}
use Rattle.slab_laws.specs.declared.names.DartId.{DartId}
use Rattle.slab_laws.specs.declared.names.VertexId.{VertexId}
use Rattle.slab_laws.specs.View.{HasDart, HasCycle, HasBareFace, cycle_id, face_id, cycle_in, kind_in, face_in, bare_face_in}
use Rattle.subdivision_rows.specs.Listed.{Drawing, skeleton_in, subdivision_in, view_of, faces_of}
use Rattle.subdivision_rows.proofs.ListedRecords.{dart_of}
use Rattle.sound_views.proofs.RankedFaces.{cycle_of, cycles_are, outer_is, face_is}
use Rattle.subdivision_rows.proofs.ListedFaces.{IsCycle, cycle_is, cycle_by, kind_is, cycle_face, bare_out}
use Rattle.subdivision_rows.specs.declared.lists.RowLists.{RowLists}
use Rattle.subdivision_rows.specs.RowsInMemory.{drawing_of, bare_rank, AreSoundRows}
use Rattle.subdivision_rows.proofs.Items.{within, item_is}

module _ (a : RowLists) (k : AreSoundRows a) where
  abbrev D : Drawing
  D = drawing_of a

  in_cycles_are : a.in_cycles.items ≡ map (cycle_place (skeleton_in D)) (dart_list (skeleton_in D))
  unfolding cycle_places
  in_cycles_are = k.in_cycles

  kinds_are : a.kinds.items ≡ map (λ c. kind_by c.outer) (subdivision_in D).cycles
  unfolding cycle_rows
  kinds_are = k.kinds ∙ map_map (cycle_row (skeleton_in D)) (λ (c : CycleRow). c.kind) (subdivision_in D).cycles

  in_cycle_below : (h : DartId) → HasDart (view_of D) h → h.0 < length a.in_cycles.items
  in_cycle_below h H = let x = dart_of D h H in within (cycle_place (skeleton_in D)) (dart_list (skeleton_in D)) a.in_cycles.items in_cycles_are h.0 x.0 x.1

  cycle_there : (h : DartId) (n : ℕ) → HasDart (view_of D) h → n ≡ get_or a.in_cycles.items h.0 n → cycle_id n ≡ cycle_in (faces_of D) h
  cycle_there h n H e = let x = dart_of D h H in ap cycle_id (item_is (cycle_place (skeleton_in D)) (dart_list (skeleton_in D)) a.in_cycles.items in_cycles_are h.0 x.0 x.1 n n e) ∙ sym (cycle_is D h x.0 x.1)

  -- the cycle at a name's place
  cycle_at : (c : CycleId) (l : Dart) → IsCycle D c l → slice_get (subdivision_in D).cycles c.0 ≡ Some (cycle_of (skeleton_in D) l)
  cycle_at c l i = ap (λ (cs : List Cycle). slice_get cs c.0) (cycles_are (skeleton_in D)) ∙ slice_get-map (cycle_of (skeleton_in D)) (lead_list (skeleton_in D)) c.0 ∙ ap (option_map (cycle_of (skeleton_in D))) i

  kind_below : (c : CycleId) → HasCycle (faces_of D) c → c.0 < length a.kinds.items
  kind_below c H = let x = cycle_by D c H in within (λ c. kind_by c.outer) (subdivision_in D).cycles a.kinds.items kinds_are c.0 (cycle_of (skeleton_in D) x.0) (cycle_at c x.0 x.1)

  rank_below : (c : CycleId) → HasCycle (faces_of D) c → c.0 < length a.cycle_ranks.items
  rank_below c H = let x = cycle_by D c H in within (λ c. rank (subdivision_in D) c.face) (subdivision_in D).cycles a.cycle_ranks.items k.cycle_ranks c.0 (cycle_of (skeleton_in D) x.0) (cycle_at c x.0 x.1)

  kind_there : (c : CycleId) (r : CycleKind) → HasCycle (faces_of D) c → r ≡ get_or a.kinds.items c.0 r → r ≡ kind_in (faces_of D) c
  kind_there c r H e =
      let x = cycle_by D c H in
      item_is (λ c. kind_by c.outer) (subdivision_in D).cycles a.kinds.items kinds_are c.0 (cycle_of (skeleton_in D) x.0) (cycle_at c x.0 x.1) r r e
      ∙ ap kind_by (outer_is (skeleton_in D) x.0)
      ∙ sym (kind_is D c x.0 x.1)

  face_there : (c : CycleId) (n : ℕ) → HasCycle (faces_of D) c → n ≡ get_or a.cycle_ranks.items c.0 n → face_id n ≡ face_in (faces_of D) c
  face_there c n H e =
      let x = cycle_by D c H in
      ap face_id (item_is (λ c. rank (subdivision_in D) c.face) (subdivision_in D).cycles a.cycle_ranks.items k.cycle_ranks c.0 (cycle_of (skeleton_in D) x.0) (cycle_at c x.0 x.1) n n e)
      ∙ ap (λ f. face_id (rank (subdivision_in D) f)) (face_is (skeleton_in D) x.0)
      ∙ sym (cycle_face D c x.0 x.1)

  bare_below : (w : VertexId) → HasBareFace (faces_of D) w → w.0 < length a.bare_ranks.items
  bare_below w H = let x = bare_out D k.plane w H in within (bare_rank D) a.points.items a.bare_ranks.items k.bare_ranks w.0 x.0 x.1.vertex

  bare_there : (w : VertexId) (n : ℕ) → HasBareFace (faces_of D) w → n ≡ get_or a.bare_ranks.items w.0 n → face_id n ≡ bare_face_in (faces_of D) w
  bare_there w n H e =
      let x = bare_out D k.plane w H in
      ap face_id (item_is (bare_rank D) a.points.items a.bare_ranks.items k.bare_ranks w.0 x.0 x.1.vertex n n e ∙ ap (λ b. cond b 0 (rank (subdivision_in D) (face_of (face_labels (skeleton_in D)) (left_cell (skeleton_in D) x.0)))) x.1.alone)
      ∙ sym x.1.face

-- ---- the same of the value that is seen
module _ (a : RowLists) (d : Drawing) (k : AreSoundRows a) (is : drawing_of a ≡ d) where
  before : (h : DartId) → HasDart (view_of d) h → HasDart (view_of (drawing_of a)) h
  before h H = subst (λ (d : Drawing). HasDart (view_of d) h) (sym is) H

  before_cycle : (c : CycleId) → HasCycle (faces_of d) c → HasCycle (faces_of (drawing_of a)) c
  before_cycle c H = subst (λ (d : Drawing). HasCycle (faces_of d) c) (sym is) H

  before_bare : (w : VertexId) → HasBareFace (faces_of d) w → HasBareFace (faces_of (drawing_of a)) w
  before_bare w H = subst (λ (d : Drawing). HasBareFace (faces_of d) w) (sym is) H

  pub kinds_here : a.kinds.items ≡ map (λ c. kind_by c.outer) (subdivision_in d).cycles
  kinds_here = subst (λ (d : Drawing). a.kinds.items ≡ map (λ c. kind_by c.outer) (subdivision_in d).cycles) is (kinds_are a k)

  pub in_cycle_within : (h : DartId) → HasDart (view_of d) h → h.0 < length a.in_cycles.items
  in_cycle_within h H = in_cycle_below a k h (before h H)

  pub cycle_reads : (h : DartId) (n : ℕ) → HasDart (view_of d) h → n ≡ get_or a.in_cycles.items h.0 n → cycle_id n ≡ cycle_in (faces_of d) h
  cycle_reads h n H e = subst (λ (d : Drawing). cycle_id n ≡ cycle_in (faces_of d) h) is (cycle_there a k h n (before h H) e)

  pub kind_within : (c : CycleId) → HasCycle (faces_of d) c → c.0 < length a.kinds.items
  kind_within c H = kind_below a k c (before_cycle c H)

  pub rank_within : (c : CycleId) → HasCycle (faces_of d) c → c.0 < length a.cycle_ranks.items
  rank_within c H = rank_below a k c (before_cycle c H)

  pub kind_reads : (c : CycleId) (r : CycleKind) → HasCycle (faces_of d) c → r ≡ get_or a.kinds.items c.0 r → r ≡ kind_in (faces_of d) c
  kind_reads c r H e = subst (λ (d : Drawing). r ≡ kind_in (faces_of d) c) is (kind_there a k c r (before_cycle c H) e)

  pub face_reads : (c : CycleId) (n : ℕ) → HasCycle (faces_of d) c → n ≡ get_or a.cycle_ranks.items c.0 n → face_id n ≡ face_in (faces_of d) c
  face_reads c n H e = subst (λ (d : Drawing). face_id n ≡ face_in (faces_of d) c) is (face_there a k c n (before_cycle c H) e)

  pub bare_within : (w : VertexId) → HasBareFace (faces_of d) w → w.0 < length a.bare_ranks.items
  bare_within w H = bare_below a k w (before_bare w H)

  pub bare_reads : (w : VertexId) (n : ℕ) → HasBareFace (faces_of d) w → n ≡ get_or a.bare_ranks.items w.0 n → face_id n ≡ bare_face_in (faces_of d) w
  bare_reads w n H e = subst (λ (d : Drawing). face_id n ≡ bare_face_in (faces_of d) w) is (bare_there a k w n (before_bare w H) e)
