-- What observers that hold the view of a layer go on holding, and what they report.
use Rattle.std.proofs.Common.{◌≡◌, ℕ, Bool, true, false, cond, List, [], ◌∷◌, ◌++◌, map, Option, Some, None, All, refl, sym, ap, ◌∙◌, subst, Result, Ok, Err}
use Rattle.std.specs.Prelude.{IfOk, OnOk, OnErr}
use Rattle.std.specs.List.{AllByRecursion}
use Rattle.std.proofs.lemmas.List.Elements.{recursion_from_All, All-from_recursion}
use Rattle.slab_laws.specs.FacesSound.{IsSound}
use Rattle.slab_laws.specs.Text.{present_text, graph_text}
use Rattle.slab_laws.specs.View.{curve_id}
use Rattle.arr_notes.specs.Curves.{Curves}
use Rattle.arr_notes.specs.CurvedView.{CurvedView, AreListsOf, IsSoundView, curves_or, curves_seen, view_text}
use Rattle.arr_notes.specs.MapView.{MapView}
use Rattle.arr_notes.specs.RecordGraph.{drawn_graph}
use Rattle.arr_notes.proofs.CurveRows.{curve_row, curves_of_row, read_views_are_sound}
use Rattle.arr_notes.proofs.Names.{numbers_of}
use Rattle.curve_history.specs.Past.{Past, curves_on}
use Rattle.told_steps.specs.RecordLayers.{IsLayer, layer_of}
use Rattle.observer_bus.specs.Calls.{IsAttached, IsHeldSound, IsPlaced, IsReport, is_seat_of, seat_of, seats_left, with_leave, with_seats}
use Rattle.observer_bus.specs.Rounds.{BusRow}
use Rattle.observer_bus.specs.Seats.{SeatRow, Holds}
use Rattle.observer_bus.proofs.Seating.{no_plan}
use Rattle.told_steps.specs.ToldRuns.{seen}
use Rattle.arrangement.specs.Arranged.{Arranged, IsWatched, map_in}
use Rattle.arrangement.specs.Questions.{IsReportOf}

-- ---- the view of a layer
module _ (m : MapView) (p : Past) (l : IsLayer m.graph p) where
  own_lists : AreListsOf m.graph (curves_on p) (λ d. map curve_id (curves_on p d))
  own_lists = λ d f. numbers_of (curves_on p d)

  pub seen_sound : IsSound m.graph m.faces → IsSoundView (seen m (curves_on p))
  seen_sound s = read_views_are_sound m.graph m.faces (curves_on p) _ s l.curves own_lists

  same_curves : curves_seen (seen m (curves_on p)) ≡ curves_on p
  same_curves = λ i d. (ap curves_or (curve_row m.graph (curves_on p) _ l.curves own_lists d.0) ∙ curves_of_row (curves_on p d)) i

  pub seen_text : view_text (seen m (curves_on p)) ≡ present_text (layer_of m.graph p).present
  unfolding present_text
  seen_text = ap (λ (h : Curves). graph_text (drawn_graph m.graph h)) same_curves ∙ ap graph_text l.stands

-- ---- attach
placed_holds : (j : Option ℕ) (w : CurvedView) (s t : SeatRow) → s.join ≡ j → IsPlaced j w s t → Holds w t
placed_holds None w s t e h = λ i u. h.held (rw h.tells at u)
placed_holds (Some k) w s t e h = λ i u. let n : Some k ≡ None = sym e ∙ sym (ap (λ r. r.join) h) ∙ i in absurd cc

one_more : (P : SeatRow → Type 0) (ss : List SeatRow) (s : SeatRow) → AllByRecursion P ss → P s → AllByRecursion P (ss ++ s ∷ [])
one_more P [] s h x = (x, tt)
one_more P (r ∷ ss) s h x = (h.0, one_more P ss s h.1 x)

-- the view that the newcomer was handed is that of the records
pub attached_seen : {T E : Type 0} (r : Result T E) (u w : CurvedView) (s : SeatRow) (old new : BusRow) → u ≡ w → OnOk r (IsAttached u s old new) → OnOk r (IsAttached w s old new)
attached_seen r u w s old new e h = subst (λ v. OnOk r (IsAttached v s old new)) e h

pub attached_watched : {T E : Type 0} (r : Result T E) (w : CurvedView) (s : SeatRow) (old new : BusRow) → OnErr r (new ≡ old) → OnOk r (IsAttached w s old new) → All (Holds w) old.seats → All (Holds w) new.seats
attached_watched (Err e) w s old new same o h = subst (λ (b : BusRow). All (Holds w) b.seats) (sym same) h
attached_watched (Ok x) w s old new same o h =
    subst (All (Holds w)) (sym o.last)
    (All-from_recursion (Holds w) _ (one_more (Holds w) old.seats o.seated (recursion_from_All (Holds w) old.seats h) (placed_holds s.join w s o.seated refl o.placed)))

-- ---- leave
module _ (w : CurvedView) (k : ℕ) where
  left_step : (b : Bool) (when : Option ℕ) (s : SeatRow) (ss : List SeatRow) → Holds w s → AllByRecursion (Holds w) ss → AllByRecursion (Holds w) (seats_left k when ss) →
      AllByRecursion (Holds w) (cond b (with_leave when s ss) (s ∷ seats_left k when ss))
  left_step true None s ss h all rest = all
  left_step true (Some n) s ss h all rest = (h, all)
  left_step false when s ss h all rest = (h, rest)

  left_hold : (when : Option ℕ) (ss : List SeatRow) → AllByRecursion (Holds w) ss → AllByRecursion (Holds w) (seats_left k when ss)
  left_hold when [] h = tt
  left_hold when (s ∷ ss) h = left_step (is_seat_of k s) when s ss h.0 h.1 (left_hold when ss h.1)

  pub left_watched : {T E : Type 0} (r : Result T E) (when : Option ℕ) (old new : BusRow) → OnErr r (new ≡ old) → OnOk r (new ≡ with_seats (seats_left k when old.seats) old) → All (Holds w) old.seats → All (Holds w) new.seats
  left_watched (Err e) when old new same o h = subst (λ (b : BusRow). All (Holds w) b.seats) (sym same) h
  left_watched (Ok x) when old new same o h =
      subst (λ (b : BusRow). All (Holds w) b.seats) (sym o) (All-from_recursion (Holds w) _ (left_hold when old.seats (recursion_from_All (Holds w) old.seats h)))

-- ---- report
same_view : (w u : CurvedView) → Some w ≡ Some u → w ≡ u
same_view w u e = cc

pub held_sound : (w : CurvedView) (ss : List SeatRow) → IsSoundView w → All (Holds w) ss → All IsHeldSound ss
held_sound w ss sound h = λ k d lt j t u held. subst IsSoundView (same_view w u (sym (h k d lt j t) ∙ held)) sound

module _ (a : Arranged) (l : IsLayer a.graph a.past) (k : ℕ) (bytes : List ℕ) where
  abbrev view : CurvedView
  view = seen (map_in a) (curves_on a.past)

  report_step : (b : Bool) (s : SeatRow) (ss : List SeatRow) → is_seat_of k s ≡ b → Holds view s → (IsReport bytes (seat_of k ss) → IsReportOf a (seat_of k ss) bytes) →
      IsReport bytes (cond b (Some s) (seat_of k ss)) → IsReportOf a (cond b (Some s) (seat_of k ss)) bytes
  report_step true s ss e h rest r = λ t. r t view (h (no_plan s.join _ e) t) ∙ seen_text (map_in a) a.past l
  report_step false s ss e h rest r = rest r

  pub report_by : (ss : List SeatRow) → AllByRecursion (Holds view) ss → IsReport bytes (seat_of k ss) → IsReportOf a (seat_of k ss) bytes
  report_by [] h r = r
  report_by (s ∷ ss) h r = report_step (is_seat_of k s) s ss refl h.0 (report_by ss h.1) r

pub reported : {T E : Type 0} (r : Result T E) (items : T → List ℕ) (a : Arranged) (k : ℕ) → IsLayer a.graph a.past → IsWatched a → IfOk r (λ b. IsReport (items b) (seat_of k a.bus.seats)) → IfOk r (λ b. IsReportOf a (seat_of k a.bus.seats) (items b))
reported (Ok b) items a k l h r = report_by a l k (items b) a.bus.seats (recursion_from_All (Holds (seen (map_in a) (curves_on a.past))) a.bus.seats h) r
reported (Err e) items a k l h r = tt
