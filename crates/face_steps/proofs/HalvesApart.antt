-- Splitting an edge of the records, and merging two, give what the laws of tables ask of the views.
use Rattle.std.proofs.Common.{◌≡◌, ◌≢◌, sym, ap, ◌∙◌, subst, inl, inr}
use Rattle.exact_plane.specs.Point.{Point}
use Rattle.slab_laws.specs.declared.names.DartId.{DartId}
use Rattle.slab_laws.specs.declared.names.VertexId.{VertexId}
use Rattle.slab_laws.specs.Sound.{IsGraphSound}
use Rattle.slab_laws.specs.View.{View, HasDart, twin_in, next_in}
use Rattle.arr_notes.specs.Step.{split_edge}
use Rattle.arr_notes.proofs.Names.{cases_dart}
use Rattle.sound_changes.specs.ChangeFits.{FitsSplit}
use Rattle.sound_changes.specs.SplitHalves.{IsHalved}
use Rattle.sound_changes.proofs.SplitEdge.{IsFollowed, IsCut}
use Rattle.sound_changes.proofs.Splits.{halved, followed, at_w, cut, split_sound}
use Rattle.face_steps.specs.SplitSteps.{whole_name, IsSplitApart}
use Rattle.face_steps.proofs.SplitSteps.{of_first, of_second, of_other}

module _ (v : View) (d : DartId) (u : VertexId) (p : Point) (n m : DartId) (s : IsGraphSound v) (c : FitsSplit v d u p n m) where
  abbrev t : DartId
  t = twin_in v d

  abbrev h : View
  h = split_edge v d u p n m

  i : IsHalved v (split_edge v d u p n m) d (twin_in v d) n m u
  i = halved v d u p n m s c

  f : IsFollowed v (split_edge v d u p n m) d (twin_in v d) n m
  f = followed v d u p n m s c

  q : IsCut v d (twin_in v d) p
  q = cut v d u p n m s c

  abbrev name : DartId → DartId
  name = whole_name d (twin_in v d) n m

  old_name : (k : DartId) → HasDart v k → name k ≡ k
  old_name k o = of_other d t n m k (λ e. i.n_new (subst (HasDart v) e o)) (λ e. i.m_new (subst (HasDart v) e o))

  after : (k : DartId) → HasDart h k → k ≢ d → k ≢ m → name (next_in h k) ≡ next_in v (name k)
  after k o nd nm = elim (cases_dart k n) [
    | inl e ↦
        let b : next_in v (name k) ≡ next_in v d = ap (next_in v) (ap name e ∙ of_first d t n m) in
        elim (cases_dart (next_in v d) t) [
          | inl z ↦ ap (λ j. name (next_in h j)) e ∙ ap name (f.alone z) ∙ of_second d t n m i.n_m ∙ sym z ∙ sym b
          | inr z ↦ ap (λ j. name (next_in h j)) e ∙ ap name (f.after_m z) ∙ old_name (next_in v d) (s.linked.has d i.has_d) ∙ sym b
        ]
    | inr nn ↦
        let K = i.had k o nn nm in
        let b = ap (next_in v) (old_name k K) in
        elim (cases_dart (next_in v k) t) [
          | inl z ↦ ap name (f.to k K nd z) ∙ of_second d t n m i.n_m ∙ sym z ∙ sym b
          | inr z ↦ ap name (f.same k K nd z) ∙ old_name (next_in v k) (s.linked.has k K) ∙ sym b
        ]
  ]

  pub split_apart : IsSplitApart v (split_edge v d u p n m) d (twin_in v d) n m u p
  split_apart = record {
    sound = s;
    sound_more = split_sound v d u p n m s c;
    halves = i;
    point = at_w v d u p n m s c;
    before = q.before;
    behind = q.behind;
    inside_it = c.inside_edge;
    onward = f.after_t;
    backward = f.after_n;
    follows = after;
  }
