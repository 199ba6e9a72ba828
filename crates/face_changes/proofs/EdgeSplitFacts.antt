-- An edge that is split at a point inside it: what the proofs about it take of that.
-- g has the edge e, h its two parts at v; hv and hs are the vertices and edges of h, `rest` the edges of both.
use Rattle.std.proofs.Common.{◌≡◌, Bool, true, false, arith, refl, sym, ◌∙◌, inl, inr, List}
use Rattle.std.specs.Prelude.{◌&&◌, ℤ, pos, ◌-ℤ◌, ◌*ℤ◌}
use Rattle.std.specs.List.{Contains}
use Rattle.std.proofs.lemmas.Bool.{and_parts}
use Rattle.exact_plane.specs.Point.{Point}
use Rattle.plane_graphs.specs.Graph.{Edge}
use Rattle.slab_laws.specs.Skeleton.{run, precedes, Skeleton, HasWeight, left_of}
use Rattle.slab_faces.proofs.Points.{before_weak}
use Rattle.slab_faces.proofs.Walls.{left_of-before, left_of-after}
use Rattle.face_changes.proofs.NewWall.{HasNewVertex, V as at_v, W as weight_v}
use Rattle.face_changes.specs.EdgeSplit.{HasEdgeSplit}
use Rattle.std.proofs.lemmas.Int.{ints}
use lib.Signed.{lt_z}
use Rattle.rotation_order.specs.EdgeParts.{lower_part, upper_part}
use Rattle.rotation_order.proofs.Factors.{same_above}
use Rattle.sound_changes.proofs.PointInside.{MeanOf, mean_of, inside_out}
use Rattle.face_changes.proofs.EdgeParts.{lower_run, upper_run}

-- what the proofs about a split take of it
pub record SplitFacts (g : Skeleton) (hv : List Point) (hs : List Edge) (e : Edge) (v : Point) (rest : List Edge) : Type 0 where
  pub new : HasNewVertex g (record { vertices = hv; edges = hs }) v
  pub mean : MeanOf e v
  pub there : Contains hv v
  pub weight : HasWeight v
  pub low_weight : HasWeight e.low
  pub high_weight : HasWeight e.high
  pub after_low : left_of v e.low ≡ false
  pub before_high : left_of e.high v ≡ false
  pub low_left : (t : Point) → HasWeight t → left_of v t ≡ true → left_of e.low t ≡ true
  pub right_high : (t : Point) → HasWeight t → left_of t v ≡ true → left_of t e.high ≡ true
  pub edge_in : Contains g.edges e
  pub lower_in : Contains hs (lower_part e v)
  pub upper_in : Contains hs (upper_part e v)
  pub old_edge : (z : Edge) → Contains rest z → Contains g.edges z
  pub kept_edge : (z : Edge) → Contains rest z → Contains hs z
  pub low_slant : left_of e.low v ≡ left_of e.low e.high
  pub high_slant : left_of v e.high ≡ left_of e.low e.high

difference : (a b : ℤ) → lt_z a b ≡ lt_z (pos 0) (b -ℤ a)
difference a b = go (lt_z a b) (lt_z (pos 0) (b -ℤ a)) refl refl
  where
    go : (x y : Bool) → lt_z a b ≡ x → lt_z (pos 0) (b -ℤ a) ≡ y → x ≡ y
    go true true p q = refl
    go false false p q = refl
    go true false p q = absurd (omega (arith, ints))
    go false true p q = absurd (omega (arith, ints))

by_run : (q : Edge) → left_of q.low q.high ≡ lt_z (pos 0) (run q)
unfolding left_of run
by_run q = difference (q.low.x *ℤ q.high.w) (q.high.x *ℤ q.low.w)

module _ (g : Skeleton) (hv : List Point) (hs : List Edge) (e : Edge) (v : Point) (rest : List Edge) (m : HasEdgeSplit g (record { vertices = hv; edges = hs }) e v rest) where
  new : HasNewVertex g (record { vertices = hv; edges = hs }) v
  new = record { plane = m.plane; plane_more = m.plane_more; vertices = m.vertices; counts = m.counts }

  abbrev V : Contains hv v
  V = at_v g (record { vertices = hv; edges = hs }) v new

  abbrev W : HasWeight v
  W = weight_v g (record { vertices = hv; edges = hs }) v new

  mean : MeanOf e v
  mean = mean_of e v m.proper_low m.proper_high m.proper (inside_out e v m.proper_low m.proper_high m.proper m.inside_it)

  in_parts : (precedes e.low v ≡ true) × (precedes v e.high ≡ true)
  in_parts = let a = and_parts (precedes e.low v && precedes v e.high) _ m.inside_it in and_parts (precedes e.low v) (precedes v e.high) a.0

  after_low : left_of v e.low ≡ false
  after_low = before_weak e.low v in_parts.0

  before_high : left_of e.high v ≡ false
  before_high = before_weak v e.high in_parts.1

  Lw : HasWeight e.low
  Lw = m.proper_low.positive

  Hw : HasWeight e.high
  Hw = m.proper_high.positive

  low_left : (t : Point) → HasWeight t → left_of v t ≡ true → left_of e.low t ≡ true
  low_left t T k = left_of-after e.low v t Lw W T after_low k

  right_high : (t : Point) → HasWeight t → left_of t v ≡ true → left_of t e.high ≡ true
  right_high t T k = left_of-before t v e.high T W Hw k before_high

  low_slant : left_of e.low v ≡ left_of e.low e.high
  low_slant = by_run (lower_part e v) ∙ same_above mean.k (run (lower_part e v)) mean.t (run e) mean.k_pos mean.t_pos (lower_run e v mean) ∙ sym (by_run e)

  high_slant : left_of v e.high ≡ left_of e.low e.high
  high_slant = by_run (upper_part e v) ∙ same_above mean.k (run (upper_part e v)) mean.s (run e) mean.k_pos mean.s_pos (upper_run e v mean) ∙ sym (by_run e)

  pub split_facts : SplitFacts g hv hs e v rest
  split_facts = record {
    new = new;
    mean = mean;
    there = V;
    weight = W;
    low_weight = Lw;
    high_weight = Hw;
    after_low = after_low;
    before_high = before_high;
    low_left = low_left;
    right_high = right_high;
    edge_in = (m.edges e).1 (inr refl);
    lower_in = (m.edges_more (lower_part e v)).1 (inr (inl refl));
    upper_in = (m.edges_more (upper_part e v)).1 (inr (inr refl));
    old_edge = λ z Z. (m.edges z).1 (inl Z);
    kept_edge = λ z Z. (m.edges_more z).1 (inl Z);
    low_slant = low_slant;
    high_slant = high_slant;
  }
