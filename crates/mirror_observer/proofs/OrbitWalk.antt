-- A walk along an orbit that puts each dart on a cycle, and what it has written at its end.
use Rattle.std.proofs.Common.{◌≡◌, ◌≢◌, ℕ, ◌<◌, ◌==◌, Bool, true, false, cond, List, is_some, refl, sym, ap, ◌∙◌, subst, inl, inr}
use Rattle.std.proofs.lemmas.Bool.{false≢true, cases_Bool}
use Rattle.slab_laws.specs.declared.names.CycleId.{CycleId}
use Rattle.slab_laws.specs.declared.names.DartId.{DartId}
use Rattle.slab_laws.specs.FacesSound.{lead_in}
use Rattle.slab_laws.specs.Rotation.{same_dart}
use Rattle.slab_laws.specs.Sound.{IsGraphSound}
use Rattle.slab_laws.specs.Tables.{row_at}
use Rattle.slab_laws.specs.View.{View, HasDart, dart_id, next_in}
use Rattle.slab_faces.proofs.NextLemmas.{darts_exact}
use Rattle.arr_notes.specs.CycleNames.{cycle_label}
use Rattle.arr_notes.specs.NamedRows.{each, edit}
use Rattle.arr_notes.proofs.Reading.{dart_number}
use Rattle.face_changes.proofs.CycleNames.{names_tell_cycles}
use Rattle.boundary_cycles.specs.Counted.{is_on_cycle}
use Rattle.boundary_cycles.proofs.NamedWalks.{ways, more, IsWalked, label_agrees, begins, smaller, ends}
use Rattle.boundary_cycles.proofs.NamedWalks.{goes_on as walk_goes_on}
use Rattle.integers.proofs.Tests.{other_number, same_number}
use Rattle.mirror_observer.specs.declared.tables.DartEntry.{DartEntry}
use Rattle.mirror_observer.specs.declared.tables.VertexEntry.{VertexEntry}
use Rattle.mirror_observer.specs.Tables.{graph_of, darts_of}
use Rattle.mirror_observer.specs.FaceTables.{orbit_rows, AreDartsSound, AreRowsOfDarts}
use Rattle.mirror_observer.proofs.EachRow.{each_known, each_still, one_after}

-- what was met is on the cycle; the walk from d stands before the dart `at`
pub record IsPutting (ds : List (ℕ × DartEntry)) (d at : DartId) (c : CycleId) (old now : List (ℕ × CycleId)) : Type 0 where
  pub vertices : List (ℕ × VertexEntry)
  pub sound : IsGraphSound (graph_of vertices ds)
  pub dart : HasDart (graph_of vertices ds) d
  pub seen : DartId → Bool
  pub walked : IsWalked (graph_of vertices ds) d at seen
  pub written : now ≡ each (λ n b. cond (seen (dart_id n)) c b) old

module _ (ds : List (ℕ × DartEntry)) (d : DartId) (c : CycleId) where
  -- the darts alone
  abbrev pub g : View
  g = darts_of ds

  same_label : (vs : List (ℕ × VertexEntry)) (x : DartId) → cycle_label (graph_of vs ds) x ≡ cycle_label g x
  unfolding cycle_label
  same_label vs x = refl

  same_ways : (vs : List (ℕ × VertexEntry)) (x : DartId) → ways (graph_of vs ds) d x ≡ ways g d x
  unfolding ways
  same_ways vs x = refl

  -- ---- the walk
  pub starts : AreDartsSound ds → HasDart g d → (old : List (ℕ × CycleId)) → IsPutting ds d d c old old
  starts s h old = record {
    vertices = s.0;
    sound = s.1;
    dart = h;
    seen = λ x. false;
    walked = begins (graph_of s.0 ds) s.1 d h;
    written = sym (each_still (λ n b. b) (λ n b. refl) old);
  }

  module _ (at : DartId) (old now new : List (ℕ × CycleId)) (w : IsPutting ds d at c old now) (e : new ≡ edit at.0 (λ b. c) now) where
    one_put : new ≡ each (λ n b. cond (more at w.seen (dart_id n)) c b) old
    one_put = e ∙ ap (edit at.0 (λ b. c)) w.written ∙ one_after (λ b. c) (λ b. refl) at.0 (λ n. w.seen (dart_id n)) old

    pub goes_on : next_in g at ≢ d → IsPutting ds d (next_in g at) c old new
    goes_on ne = record {
      vertices = w.vertices;
      sound = w.sound;
      dart = w.dart;
      seen = more at w.seen;
      walked = walk_goes_on (graph_of w.vertices ds) w.sound d w.dart at w.seen w.walked ne;
      written = one_put;
    }

    pub shorter : next_in g at ≢ d → ways g d (next_in g (next_in g at)) < ways g d (next_in g at)
    shorter ne =
        subst (λ m. m < ways g d (next_in g at)) (same_ways w.vertices (next_in g (next_in g at)))
        (subst (λ m. ways (graph_of w.vertices ds) d (next_in g (next_in g at)) < m) (same_ways w.vertices (next_in g at))
        (smaller (graph_of w.vertices ds) w.sound d w.dart at w.seen w.walked ne))

    -- the test of the orbit by labels is that by what was met
    met : next_in g at ≡ d → (x : DartId) → HasDart g x → more at w.seen x ≡ ((cycle_label g x).0 == (cycle_label g d).0)
    met q x h =
        let v : View = graph_of w.vertices ds in
        let a = ends v w.sound d w.dart at w.seen w.walked q x h in
        let k = names_tell_cycles v x d w.sound h w.dart in
        let l : cycle_label v x ≡ cycle_label v d → cycle_label g x ≡ cycle_label g d = λ r. sym (same_label w.vertices x) ∙ r ∙ same_label w.vertices d in
        let m : cycle_label g x ≡ cycle_label g d → cycle_label v x ≡ cycle_label v d = λ r. same_label w.vertices x ∙ r ∙ sym (same_label w.vertices d) in
        elim (cases_Bool (is_on_cycle v d x)) [
          | inl t ↦ a ∙ t ∙ sym (ap (λ (y : DartId). y.0 == (cycle_label g d).0) (l (k.1 (darts_exact.path (lead_in v x) (lead_in v d) t))) ∙ same_number (cycle_label g d).0)
          | inr f ↦ a ∙ f ∙ sym (other_number (cycle_label g x).0 (cycle_label g d).0 (dart_number (cycle_label g x) (cycle_label g d)
              (λ r. false≢true (sym f ∙ subst (λ z. same_dart z (lead_in v d) ≡ true) (sym (k.0 (m r))) (darts_exact.itself (lead_in v d))))))
        ]

    pub finishes : next_in g at ≡ d → AreRowsOfDarts ds old → new ≡ orbit_rows g d c old
    finishes q rows =
        one_put ∙ each_known (λ n b. cond (more at w.seen (dart_id n)) c b) (λ n b. cond ((cycle_label g (dart_id n)).0 == (cycle_label g d).0) c b) old
        (λ n b h. ap (λ t. cond t c b) (met q (dart_id n) (rows (dart_id n) h)))

  -- ---- a name without an entry
  pub no_orbit : AreDartsSound ds → ¬ HasDart g d → (old : List (ℕ × CycleId)) → AreRowsOfDarts ds old → old ≡ orbit_rows g d c old
  no_orbit s n old rows =
      let v : View = graph_of s.0 ds in
      let p : DartId → Bool = λ x. is_some (row_at v.darts x.0) in
      let told : (x : DartId) → p x ≡ is_some (row_at v.darts (cycle_label g x).0) = λ x. label_agrees v s.1 p (λ y h. h ∙ sym (s.1.linked.has y h)) x ∙ ap p (same_label s.0 x) in
      let apart : (x : DartId) → HasDart g x → (cycle_label g x).0 ≢ (cycle_label g d).0 = λ x h r. n (told d ∙ ap (λ k. is_some (row_at v.darts k)) (sym r) ∙ sym (told x) ∙ h) in
      sym (each_known (λ n b. cond ((cycle_label g (dart_id n)).0 == (cycle_label g d).0) c b) (λ n b. b) old
      (λ n b h. ap (λ t. cond t c b) (other_number (cycle_label g (dart_id n)).0 (cycle_label g d).0 (apart (dart_id n) (rows (dart_id n) h)))) ∙ each_still (λ n b. b) (λ n b. refl) old)
