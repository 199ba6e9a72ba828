-- Merging two edges of the records gives what the laws of tables ask of the views; and all of these together.
use Rattle.std.proofs.Common.{◌≡◌, ◌≢◌, Some, true, refl, sym, ap, ◌∙◌, subst, inl, inr}
use Rattle.plane_graphs.specs.Graph.{Edge}
use Rattle.slab_laws.specs.declared.names.DartId.{DartId}
use Rattle.slab_laws.specs.declared.names.VertexId.{VertexId}
use Rattle.slab_laws.specs.Darts.{Dart}
use Rattle.slab_laws.specs.Skeleton.{inside}
use Rattle.slab_laws.specs.Sound.{edge_in, IsGraphSound}
use Rattle.slab_laws.specs.View.{View, HasDart, point_in, source_in, twin_in, next_in}
use Rattle.arr_notes.specs.Step.{merge_edge}
use Rattle.arr_notes.proofs.Names.{cases_dart}
use Rattle.sound_changes.specs.ChangeFits.{FitsMerge}
use Rattle.sound_changes.specs.SplitHalves.{IsHalved}
use Rattle.sound_changes.proofs.Merges.{halved as merged_halves, rejoined, before_g, behind_g, between, whole_is, straight, merge_sound}
use Rattle.sound_changes.proofs.MergedRing.{after_n, after_t}
use Rattle.sound_changes.proofs.SplitDirections as ways
use Rattle.face_steps.specs.RecordsApart.{RecordsApart}
use Rattle.face_steps.specs.SplitSteps.{whole_name, IsSplitApart}
use Rattle.face_steps.proofs.RecordsApart.{edge_added, first_place, second_place, edge_removed, before_it, vertex_added, vertex_removed, same_but_pin}
use Rattle.face_steps.proofs.EdgePairs.{turned_round}
use Rattle.face_steps.proofs.HalvesApart.{split_apart}
use Rattle.face_steps.proofs.SplitSteps.{of_first, of_second, of_other}

module _ (v : View) (u : VertexId) (d n : DartId) (s : IsGraphSound v) (c : FitsMerge v u d n) where
  abbrev t : DartId
  t = twin_in v d

  abbrev m : DartId
  m = twin_in v n

  abbrev g : View
  g = merge_edge v u d n

  sound_g : IsGraphSound (merge_edge v u d n)
  sound_g = merge_sound v u d n s c

  i : IsHalved (merge_edge v u d n) v d (twin_in v d) n (twin_in v n) u
  i = merged_halves v u d n s c

  abbrev name : DartId → DartId
  name = whole_name d (twin_in v d) n (twin_in v n)

  old_name : (k : DartId) → HasDart g k → name k ≡ k
  old_name k o = of_other d t n m k (λ e. i.n_new (subst (HasDart g) e o)) (λ e. i.m_new (subst (HasDart g) e o))

  onward : next_in v d ≡ n
  onward = ap (next_in v) (sym (s.twinned.back d c.first)) ∙ after_t v u s d n c

  backward : next_in v (twin_in v n) ≡ twin_in v d
  backward = after_n v u s d n c

  -- n and m are followed by old darts, or by m and t
  not_n : (k : DartId) → HasDart v k → k ≢ d → next_in v k ≢ n
  not_n k o nd e = nd (s.linked.once k d o c.first (e ∙ sym onward))

  after : (k : DartId) → HasDart v k → k ≢ d → k ≢ m → name (next_in v k) ≡ next_in g (name k)
  after k o nd nm = elim (cases_dart k n) [
    | inl e ↦
        let b : next_in g (name k) ≡ next_in g d = ap (next_in g) (ap name e ∙ of_first d t n m) in
        elim (cases_dart (next_in v n) m) [
          | inl z ↦ ap (λ j. name (next_in v j)) e ∙ ap name z ∙ of_second d t n m i.n_m ∙ sym ((rejoined v u d n s c).alone z) ∙ sym b
          | inr z ↦
              let a = (rejoined v u d n s c).after_t z in
              ap (λ j. name (next_in v j)) e ∙ ap name (sym a) ∙ old_name (next_in g d) (sound_g.linked.has d i.has_d) ∙ sym b
        ]
    | inr nn ↦
        let K = i.had k o nn nm in
        let b = ap (next_in g) (old_name k K) in
        elim (cases_dart (next_in v k) m) [
          | inl z ↦ ap name z ∙ of_second d t n m i.n_m ∙ sym ((rejoined v u d n s c).to k K nd z) ∙ sym b
          | inr z ↦
              let a = (rejoined v u d n s c).same k K nd z in
              ap name (sym a) ∙ old_name (next_in g k) (sound_g.linked.has k K) ∙ sym b
        ]
  ]

  inside_whole : inside (edge_in (merge_edge v u d n) d) (point_in v u) ≡ true
  inside_whole =
      let whole : edge_in g d ≡ record { low = point_in g (source_in g d); high = point_in g (source_in g t) } = ap (λ (z : Dart). z.edge) (ways.whole_ahead g v d t n m u i sound_g.twinned sound_g.linked.source (point_in v u) refl (before_g v u d n s c) (behind_g v u d n s c)) in
      subst (λ (e : Edge). inside e (point_in v u) ≡ true) (sym (straight v u d n s c) ∙ whole_is v u d n s c ∙ sym whole) (between v u d n s c)

  merge_apart : IsSplitApart (merge_edge v u d n) v d (twin_in v d) n (twin_in v n) u (point_in v u)
  merge_apart = record {
    sound = sound_g;
    sound_more = s;
    halves = i;
    point = refl;
    before = before_g v u d n s c;
    behind = behind_g v u d n s c;
    inside_it = inside_whole;
    onward = onward;
    backward = backward;
    follows = after;
  }

pub records_apart : RecordsApart
records_apart = record {
  added = λ v d m u w at_u at_w l s f plane. edge_added v d m u w at_u at_w l s f plane;
  after_first = λ v d m u w a at_w l s f plane. first_place v d m u w (Some a) at_w l s f plane a refl;
  after_second = λ v d m u w at_u b l s f plane. second_place v d m u w at_u (Some b) l s f plane b refl;
  removed = λ v d s has. edge_removed v d s has;
  before_first = before_it;
  before_second = λ v w x y p q l k m K n. before_it v w y x q p l k (turned_round v w x y p q l m) K n;
  vertex_added = vertex_added;
  vertex_removed = vertex_removed;
  pinned = same_but_pin;
  split = λ v d u p n m s c. split_apart v d u p n m s c;
  merged = λ v u d n s c. merge_apart v u d n s c;
}
