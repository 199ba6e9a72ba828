-- What observers see of records and a history: only the curves of forward darts count.
use Rattle.std.proofs.Common.{◌≡◌, All, Bool, List, map, subst, sym, ◌∙◌}
use Rattle.slab_laws.specs.declared.names.CurveId.{CurveId}
use Rattle.slab_laws.specs.declared.names.DartId.{DartId}
use Rattle.slab_laws.specs.FacesSound.{IsSound}
use Rattle.slab_laws.specs.Sound.{IsGraphSound}
use Rattle.slab_laws.specs.View.{View, curve_id}
use Rattle.arr_notes.specs.Curves.{Curves, AreCurvesOf}
use Rattle.arr_notes.specs.CurvedView.{AreListsOf, CurvedView, IsSoundView, curve_rows, view_by}
use Rattle.arr_notes.proofs.CurveRows.{curve_row, ascend_curve_rows, read_views_are_sound}
use Rattle.arr_notes.proofs.Names.{numbers_of}
use Rattle.arr_notes.proofs.RowLaws.{one_table}
use Rattle.arr_notes.specs.MapView.{MapView}
use Rattle.arr_notes.specs.declared.note.Note.{Note}
use Rattle.dcel_records.specs.RecordsView.{RecordsView, tables_of}
use Rattle.dcel_records.specs.SoundMaps.{map_of}
use Rattle.observer_bus.specs.Rounds.{IsRoundOf}
use Rattle.observer_bus.specs.Seats.{SeatRow, Holds, Leads}
use Rattle.observer_bus.specs.declared.went.Went.{Went}
use Rattle.curve_history.specs.DrawnRecords.{IsTold, curves_in}
use Rattle.curve_history.specs.Past.{Past, curves_on}
use Rattle.curve_history.proofs.Facing.{lists_read}
use Rattle.sound_views.proofs.GraphDrawn.{twins_are_directed}
use Rattle.told_steps.specs.ToldRuns.{seen}

module _ (m : MapView) (h : Curves) (s : IsGraphSound m.graph) (a : AreCurvesOf m.graph h) where
  abbrev v : View
  v = m.graph

  pub seen_lists : (k : DartId → List CurveId) → AreListsOf m.graph h k → view_by m.graph m.faces k ≡ seen m h
  seen_lists k lists =
      let own : AreListsOf v h (λ d. map curve_id (h d)) = λ d f. numbers_of (h d) in
      let rows : curve_rows v k ≡ curve_rows v (λ d. map curve_id (h d)) =
      one_table _ _ (ascend_curve_rows v h k a lists s.named.darts) (ascend_curve_rows v h _ a own s.named.darts)
      (λ n. curve_row v h k a lists n ∙ sym (curve_row v h _ a own n)) in
      λ i. record { graph = v; faces = m.faces; curves = rows i }

module _ (m : MapView) (p : Past) (s : IsSound m.graph m.faces) (a : AreCurvesOf m.graph (curves_on p)) where
  pub sound_read : IsSoundView (view_by m.graph m.faces (curves_in m.graph p))
  sound_read = read_views_are_sound m.graph m.faces (curves_on p) (curves_in m.graph p) s a (lists_read m.graph p)

module _ (v : View) (p : Past) (s : IsGraphSound v) (a : AreCurvesOf v (curves_on p)) where
  pub told_records : IsTold v p
  told_records = record { curves = a; directed = twins_are_directed v s }

-- as they are drawn together
module _ (r : RecordsView) (p : Past) (s : IsSound r.graph (tables_of r)) (a : AreCurvesOf r.graph (curves_on p)) (d : RecordsView) (q : Past) (e : d ≡ r) (f : q ≡ p) where
  one_view : view_by d.graph (tables_of d) (curves_in d.graph q) ≡ view_by r.graph (tables_of r) (curves_in r.graph p)
  one_view i = view_by (e i).graph (tables_of (e i)) (curves_in (e i).graph (f i))

  pub drawn_sound : IsSoundView (view_by d.graph (tables_of d) (curves_in d.graph q))
  drawn_sound = subst IsSoundView (sym one_view) (sound_read (map_of r) p s a)

  pub drawn_seen : view_by d.graph (tables_of d) (curves_in d.graph q) ≡ seen (map_of r) (curves_on p)
  drawn_seen = one_view ∙ seen_lists (map_of r) (curves_on p) s.graph a (curves_in r.graph p) (lists_read r.graph p)

  pub round_seen : (n : Note) {ss ts : List SeatRow} {g h : Went} {x y : Bool} →
      IsRoundOf n (view_by d.graph (tables_of d) (curves_in d.graph q)) ss g ts h × (y ≡ x) → IsRoundOf n (seen (map_of r) (curves_on p)) ss g ts h × (y ≡ x)
  round_seen n {ss} {ts} {g} {h} {x} {y} o = (subst (λ z. IsRoundOf n z ss g ts h) drawn_seen o.0, o.1)

  pub held_seen : (ss : List SeatRow) → All (Holds (view_by d.graph (tables_of d) (curves_in d.graph q))) ss → All (Holds (seen (map_of r) (curves_on p))) ss
  held_seen ss o = subst (λ z. All (Holds z) ss) drawn_seen o

-- a note leads to one view as it does to the same one
pub leads_by : (v : CurvedView) (n : Note) {w x : CurvedView} → w ≡ x → Leads v n x → Leads v n w
leads_by v n e l = subst (Leads v n) (sym e) l
