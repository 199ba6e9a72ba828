-- An edge in two, and two edges in one, with their cycles: the records are a sound map again.
use Rattle.std.proofs.Common.{◌≡◌, ◌≢◌, None, Bool, true, false, cond, ◌==◌, refl, sym, ap, subst, ◌∙◌}
use Rattle.std.proofs.lemmas.Bool.{eqb-true, eq-eqb, false≢true}
use Rattle.exact_plane.specs.Point.{Point}
use Rattle.slab_laws.specs.declared.names.CycleId.{CycleId}
use Rattle.slab_laws.specs.declared.names.DartId.{DartId}
use Rattle.slab_laws.specs.declared.names.VertexId.{VertexId}
use Rattle.slab_laws.specs.FaceLists.{Lists, AreDartsOn}
use Rattle.slab_laws.specs.FacesSound.{IsSound}
use Rattle.slab_laws.specs.Sound.{IsGraphSound}
use Rattle.slab_laws.specs.Tables.{row_at}
use Rattle.slab_laws.specs.View.{View, Faces, HasDart, HasCycle, cycle_in, cycle_or, twin_in, point_in}
use Rattle.arr_notes.specs.FaceSteps.{step_faces, in_one}
use Rattle.arr_notes.specs.FaceWriters.{on_cycle, off_cycles, not_bare}
use Rattle.arr_notes.specs.Step.{merge_edge}
use Rattle.arr_notes.proofs.RowLaws.{del_absent}
use Rattle.arr_notes.proofs.VertexReads.{put_miss}
use Rattle.dcel_records.specs.ListChanges.{dart_listed, vertex_unlisted}
use Rattle.dcel_records.specs.RecordsView.{RecordsView, lists_of, tables_of}
use Rattle.dcel_records.specs.SoundMaps.{IsSoundMap}
use Rattle.sound_changes.specs.ChangeFits.{FitsMerge}
use Rattle.face_steps.specs.SplitSteps.{IsSplitApart}
use Rattle.face_steps.specs.Tabled.{AreTabled}
use Rattle.face_steps.proofs.Choices.{tables_are_sound}
use Rattle.face_steps.proofs.MergesApart.{records_apart}
use Rattle.face_steps.proofs.RowsWritten.{none_of}
use Rattle.face_steps.proofs.StepLaws.{steps_keep_tables}
use Rattle.face_steps.proofs.StepHalves.{left_reads, cycle_n, cycle_m}

-- a dart that isn't written keeps its cycle
pub other_on : (f : Faces) (d k : DartId) (c : CycleId) → k ≢ d → cycle_in (on_cycle d c f) k ≡ cycle_in f k
other_on f d k c ne = ap cycle_or (put_miss d.0 c f.cycle_of k.0 (λ e. ne (λ i. record { 0 = e i })))

-- both new darts aside, each dart that is kept is on its cycle still
module _ (v w : View) (f : Faces) (l : Lists) (kept : AreDartsOn v f l) (n m : DartId) (new_n : ¬ HasDart v n) (new_m : ¬ HasDart v m) (old : (k : DartId) → HasDart v k → HasDart w k) where
  pub darts_on : (a b : CycleId) → AreDartsOn w (on_cycle m b (on_cycle n a f)) l
  darts_on a b c o =
      let r = kept c o in
      let apart_m : l.dart_on c ≢ m = λ e. new_m (subst (HasDart v) e r.0) in
      let apart_n : l.dart_on c ≢ n = λ e. new_n (subst (HasDart v) e r.0) in
      (old (l.dart_on c) r.0, other_on (on_cycle n a f) m (l.dart_on c) b apart_m ∙ other_on f n (l.dart_on c) a apart_n ∙ r.1)

same_cycle : (a c : CycleId) → (c.0 == a.0) ≡ true → a ≡ c
same_cycle a c e = let q = sym (eqb-true c.0 a.0 e) in λ i. record { 0 = q i }

-- ---- two edges in one: g is the view without the parts, v the one with them, which f stands beside
module _ (g v : View) (d t n m : DartId) (u : VertexId) (p : Point) (apart : IsSplitApart g v d t n m u p) (f : Faces) (h : AreTabled v f) (l : Lists) (kept : AreDartsOn v f l) where
  abbrev s : Faces
  s = step_faces g f (in_one n m)

  reads : (k : DartId) → HasDart g k → cycle_in s k ≡ cycle_in f k
  reads k o = left_reads g v d t n m u p apart f h k o

  on : (c : CycleId) (a b : Bool) → HasCycle f c → (c.0 == (cycle_in s t).0) ≡ a → (c.0 == (cycle_in s d).0) ≡ b → let k = cond a t (cond b d (l.dart_on c)) in HasDart g k × (cycle_in s k ≡ c)
  on c true b o i j = (apart.halves.has_t, same_cycle (cycle_in s t) c i)
  on c false true o i j = (apart.halves.has_d, same_cycle (cycle_in s d) c j)
  on c false false o i j =
      let k = l.dart_on c in
      let r = kept c o in
      let not_n : k ≢ n = λ e. false≢true (sym j ∙ eq-eqb c.0 (cycle_in s d).0 (ap (λ (x : CycleId). x.0) (sym r.1 ∙ ap (cycle_in f) e ∙ cycle_n g v d t n m u p apart f h ∙ sym (reads d apart.halves.has_d)))) in
      let not_m : k ≢ m = λ e. false≢true (sym i ∙ eq-eqb c.0 (cycle_in s t).0 (ap (λ (x : CycleId). x.0) (sym r.1 ∙ ap (cycle_in f) e ∙ cycle_m g v d t n m u p apart f h ∙ sym (reads t apart.halves.has_t)))) in
      let K = apart.halves.had k r.0 not_n not_m in
      (K, reads k K ∙ r.1)

  -- the cycles on both sides keep darts of the edge that stays
  pub merged_darts : (z : VertexId) → AreDartsOn g s (dart_listed (cycle_in s t) t (dart_listed (cycle_in s d) d (vertex_unlisted z l)))
  merged_darts z c o = on c (c.0 == (cycle_in s t).0) (c.0 == (cycle_in s d).0) o refl refl

-- ---- the records once the edges are one, and once their cycles keep darts that are there
module _ (old mid : RecordsView) (z : VertexId) (d n : DartId) (map : IsSoundMap old) (met : FitsMerge old.graph z d n) (graph : mid.graph ≡ merge_edge old.graph z d n) (sound : IsGraphSound mid.graph) (tables : tables_of mid ≡ not_bare z (off_cycles (twin_in old.graph n) (off_cycles n (tables_of old)))) where
  abbrev t : DartId
  t = twin_in old.graph d

  abbrev pub merged : Faces
  merged = step_faces mid.graph (tables_of old) (in_one n (twin_in old.graph n))

  merge_apart : IsSplitApart (merge_edge old.graph z d n) old.graph d t n (twin_in old.graph n) z (point_in old.graph z)
  merge_apart = records_apart.merged old.graph z d n map.sound.graph met

  not_isolated : row_at (tables_of old).bare z.0 ≡ None
  not_isolated = none_of _ (λ b. (map.sound.complete.bare z (map.sound.complete.bare_vertex z b)).0 b n (met.second, met.leaves))

  pub tables_merged : tables_of mid ≡ merged
  tables_merged = tables ∙ (λ i. record { cycle_of = merged.cycle_of; bare = del_absent z.0 (tables_of old).bare not_isolated i; cycles = merged.cycles; faces = merged.faces })

  pub merged_sound : IsSound mid.graph merged
  merged_sound =
      let tabled = steps_keep_tables old.graph (merge_edge old.graph z d n) (tables_of old) (in_one n (twin_in old.graph n)) ((tables_are_sound old.graph (tables_of old) map.sound.graph).1 map.sound) (d, t, z, point_in old.graph z, merge_apart) in
      (tables_are_sound mid.graph merged sound).0 (subst (λ (g : View). AreTabled g merged) (sym graph) tabled)

  pub stays : HasDart mid.graph d
  stays = subst (λ (g : View). HasDart g d) (sym graph) merge_apart.halves.has_d

  pub twin_stays : HasDart mid.graph t
  twin_stays = subst (λ (g : View). HasDart g t) (sym graph) merge_apart.halves.has_t

  pub twin_is : twin_in mid.graph d ≡ t
  twin_is = ap (λ g. twin_in g d) graph ∙ merge_apart.halves.twin_d

  pub kept_on : AreDartsOn mid.graph merged (dart_listed (cycle_in merged t) t (dart_listed (cycle_in merged d) d (vertex_unlisted z (lists_of old))))
  kept_on = subst (λ (g : View). AreDartsOn g merged (dart_listed (cycle_in merged t) t (dart_listed (cycle_in merged d) d (vertex_unlisted z (lists_of old))))) (sym graph)
      (merged_darts (merge_edge old.graph z d n) old.graph d t n (twin_in old.graph n) z (point_in old.graph z) merge_apart (tables_of old) ((tables_are_sound old.graph (tables_of old) map.sound.graph).1 map.sound) (lists_of old) map.darts z)
