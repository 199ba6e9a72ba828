-- Runs that are written are what the steps write: the rows of darts with an edge more and without it, and the darts of the run are those of the cycle that goes.
use Rattle.std.proofs.Common.{◌≡◌, ◌≢◌, ◌↔◌, Some, None, IsSome, sym, ap, ◌∙◌, subst, inl, inr, List}
use Rattle.std.specs.List.{Contains}
use Rattle.exact_plane.specs.Line.{Line}
use Rattle.slab_laws.specs.declared.names.CycleId.{CycleId}
use Rattle.slab_laws.specs.declared.names.DartId.{DartId}
use Rattle.slab_laws.specs.declared.names.VertexId.{VertexId}
use Rattle.slab_laws.specs.Tables.{row_at}
use Rattle.slab_laws.specs.View.{View, Faces, HasDart, cycle_or, cycle_in}
use Rattle.arr_notes.specs.FaceWriters.{on_cycle, off_cycles, recycled}
use Rattle.arr_notes.proofs.Names.{cases_dart}
use Rattle.arr_notes.proofs.Reading.{dart_number, none_there}
use Rattle.arr_notes.proofs.RowLaws.{ascend-put, ascend-del}
use Rattle.arr_notes.proofs.VertexReads.{put_hit, put_miss, del_hit, del_miss}
use Rattle.sound_views.proofs.ListedRows.{is_some_by}
use Rattle.face_steps.specs.EdgePairs.{IsEdgeApart}
use Rattle.face_steps.specs.RowsWritten.{AreDartRows, all_on}
use Rattle.face_steps.specs.Tabled.{AreTabled}
use Rattle.face_steps.proofs.EdgePairs.{up, sorted}
use Rattle.face_steps.proofs.RowsWritten.{rows_written}
use Rattle.cycle_writers.specs.RunSteps.{RunsAreSteps}
use Rattle.cycle_writers.proofs.FollowsMore.{turned}
use Rattle.cycle_writers.proofs.RunsJoined.{joined}
use Rattle.cycle_writers.proofs.RunsUnited.{united}

pub rows_of : (v : View) (f : Faces) → AreTabled v f → AreDartRows v f
rows_of v f h = record { cycle_of_ascend = h.complete.cycle_of_ascend; cycle_rows = h.complete.cycle_rows }

module _ (v w : View) (x y : DartId) (p q : VertexId) (l : Line) (m : IsEdgeApart v w x y p q l) where
  not_x : (k : DartId) → HasDart v k → k ≢ x
  not_x k o e = m.more.first_new (subst (HasDart v) e o)

  not_y : (k : DartId) → HasDart v k → k ≢ y
  not_y k o e = m.more.second_new (subst (HasDart v) e o)

  -- ---- with the edge
  module _ (f : Faces) (c : CycleId) (full : AreDartRows v f) where
    abbrev with_both : Faces
    with_both = on_cycle y c (on_cycle x c f)

    row_first : row_at with_both.cycle_of x.0 ≡ Some c
    row_first = put_miss y.0 c _ x.0 (dart_number x y m.more.two_names) ∙ put_hit x.0 c f.cycle_of

    row_second : row_at with_both.cycle_of y.0 ≡ Some c
    row_second = put_hit y.0 c _

    row_old : (k : DartId) → k ≢ x → k ≢ y → row_at with_both.cycle_of k.0 ≡ row_at f.cycle_of k.0
    row_old k i j = put_miss y.0 c _ k.0 (dart_number k y j) ∙ put_miss x.0 c f.cycle_of k.0 (dart_number k x i)

    has_up : (k : DartId) → HasDart w k → IsSome (row_at with_both.cycle_of k.0)
    has_up k o = elim (sorted v w x y p q l m k o) [
      | inl z ↦ subst IsSome (sym (row_old k (not_x k z) (not_y k z))) ((full.cycle_rows k).0 z)
      | inr z ↦ elim z [ inl e ↦ is_some_by _ c (ap (λ (j : DartId). row_at with_both.cycle_of j.0) e ∙ row_first) | inr e ↦ is_some_by _ c (ap (λ (j : DartId). row_at with_both.cycle_of j.0) e ∙ row_second) ]
    ]

    had_up : (k : DartId) → IsSome (row_at with_both.cycle_of k.0) → HasDart w k
    had_up k o = elim (cases_dart k x) [
      | inl e ↦ subst (HasDart w) (sym e) m.more.first
      | inr i ↦ elim (cases_dart k y) [
        | inl e ↦ subst (HasDart w) (sym e) m.more.second
        | inr j ↦ up v w x y p q l m k ((full.cycle_rows k).1 (subst IsSome (row_old k i j) o))
      ]
    ]

    pub rows_linked : AreDartRows w (on_cycle y c (on_cycle x c f))
    rows_linked = record { cycle_of_ascend = ascend-put y.0 c _ (ascend-put x.0 c f.cycle_of full.cycle_of_ascend); cycle_rows = λ k. (has_up k, had_up k) }

    -- a run with just the darts of a cycle that the edge's darts aren't on
    pub written_linked : (gone : CycleId) → c ≢ gone → (ds : List DartId) → ((k : DartId) → Contains ds k ↔ (HasDart v k × (cycle_in f k ≡ gone))) → all_on ds c with_both ≡ recycled gone c with_both
    written_linked gone two ds met = rows_written.cycle w with_both gone c ds rows_linked (λ k. (
      λ z.
          let o = (met k).0 z in
          (up v w x y p q l m k o.0, ap cycle_or (row_old k (not_x k o.0) (not_y k o.0)) ∙ o.1),
      λ o. elim (sorted v w x y p q l m k o.0) [
        | inl z ↦ (met k).1 (z, sym (ap cycle_or (row_old k (not_x k z) (not_y k z))) ∙ o.1)
        | inr z ↦ absurd (two (sym (elim z [ inl e ↦ ap (cycle_in with_both) e ∙ ap cycle_or row_first | inr e ↦ ap (cycle_in with_both) e ∙ ap cycle_or row_second ]) ∙ o.1))
      ],
    ))

  -- ---- without it
  module _ (s : Faces) (full : AreDartRows w s) where
    abbrev without_both : Faces
    without_both = off_cycles y (off_cycles x s)

    row_left : (k : DartId) → k ≢ x → k ≢ y → row_at without_both.cycle_of k.0 ≡ row_at s.cycle_of k.0
    row_left k i j = del_miss y.0 _ k.0 (ascend-del x.0 s.cycle_of full.cycle_of_ascend) (dart_number k y j) ∙ del_miss x.0 s.cycle_of k.0 full.cycle_of_ascend (dart_number k x i)

    gone_second : row_at without_both.cycle_of y.0 ≡ None
    gone_second = del_hit y.0 _ (ascend-del x.0 s.cycle_of full.cycle_of_ascend)

    gone_first : row_at without_both.cycle_of x.0 ≡ None
    gone_first = del_miss y.0 _ x.0 (ascend-del x.0 s.cycle_of full.cycle_of_ascend) (dart_number x y m.more.two_names) ∙ del_hit x.0 s.cycle_of full.cycle_of_ascend

    had_down : (k : DartId) → IsSome (row_at without_both.cycle_of k.0) → HasDart v k
    had_down k o =
        let i : k ≢ x = λ e. none_there _ (ap (λ (j : DartId). row_at without_both.cycle_of j.0) e ∙ gone_first) o in
        let j : k ≢ y = λ e. none_there _ (ap (λ (j : DartId). row_at without_both.cycle_of j.0) e ∙ gone_second) o in
        elim (sorted v w x y p q l m k ((full.cycle_rows k).1 (subst IsSome (row_left k i j) o))) [
          | inl z ↦ z
          | inr z ↦ elim z [ inl e ↦ absurd (i e) | inr e ↦ absurd (j e) ]
        ]

    pub rows_unlinked : AreDartRows v (off_cycles y (off_cycles x s))
    rows_unlinked = record {
      cycle_of_ascend = ascend-del y.0 _ (ascend-del x.0 s.cycle_of full.cycle_of_ascend);
      cycle_rows = λ k. (λ o. subst IsSome (sym (row_left k (not_x k o) (not_y k o))) ((full.cycle_rows k).0 (up v w x y p q l m k o)), had_down k);
    }

    pub written_unlinked : (gone kept : CycleId) (ds : List DartId) → ((k : DartId) → Contains ds k ↔ (HasDart v k × (cycle_in s k ≡ gone))) → all_on ds kept without_both ≡ recycled gone kept without_both
    written_unlinked gone kept ds met = rows_written.cycle v without_both gone kept ds rows_unlinked (λ k. (
      λ z.
          let o = (met k).0 z in
          (o.0, ap cycle_or (row_left k (not_x k o.0) (not_y k o.0)) ∙ o.1),
      λ o. (met k).1 (o.0, sym (ap cycle_or (row_left k (not_x k o.0) (not_y k o.0))) ∙ o.1),
    ))

pub runs_are_steps : RunsAreSteps
runs_are_steps = record {
  rows_linked = λ v w f d m p q l c e full. rows_linked v w d m p q l e f c full;
  rows_unlinked = λ v w s d m p q l e full. rows_unlinked v w d m p q l e s full;
  second_goes = λ v w f d m p q a b ds t h two r. written_linked v w d m p q t.line t.edge f (cycle_in f a) (rows_of v f h) (cycle_in f b) two ds (joined v w f d m p q a b t h two ds r);
  first_goes = λ v w f d m p q a b ds t h two r.
      let two' : cycle_in f b ≢ cycle_in f a = λ e. two (sym e) in
      written_linked v w d m p q t.line t.edge f (cycle_in f b) (rows_of v f h) (cycle_in f a) two' ds (joined v w f m d q p b a (turned v w d m p q a b t) h two' ds r);
  first_united = λ v w s d m p q a b kept ds t h two r. written_unlinked v w d m p q t.line t.edge s (rows_of w s h) (cycle_in s d) kept ds (united v w s d m p q a b t h two ds r);
  second_united = λ v w s d m p q a b kept ds t h two r.
      let two' : cycle_in s m ≢ cycle_in s d = λ e. two (sym e) in
      written_unlinked v w d m p q t.line t.edge s (rows_of w s h) (cycle_in s m) kept ds (united v w s m d q p b a (turned v w d m p q a b t) h two' ds r);
}
