-- An edge that is split: darts of the one graph as darts of the other.
-- g has the edge e, h its two parts at v; hv and hs are the vertices and edges of h, `rest` the edges of both.
use Rattle.std.proofs.Common.{◌≡◌, ℕ, Bool, true, false, cond, arith, refl, sym, subst, inl, inr, List}
use Rattle.std.specs.List.{count_by, Contains}
use Rattle.std.proofs.lemmas.Bool.{false_from_ne_true, cases_Bool}
use Rattle.exact_plane.specs.Point.{Point}
use Rattle.plane_graphs.specs.Graph.{Edge}
use Rattle.slab_laws.specs.Skeleton.{same_edge, Skeleton}
use Rattle.slab_laws.specs.Darts.{Dart}
use Rattle.slab_faces.proofs.Slabs.{same_edge_is, same_edge_refl}
use Rattle.slab_faces.proofs.EveryFace.{passing}
use Rattle.face_changes.specs.EdgeSplit.{HasEdgeSplit, whole_dart}
use Rattle.rotation_order.specs.EdgeParts.{lower_part, upper_part}
use Rattle.face_changes.proofs.EdgeSplitFacts.{SplitFacts, split_facts}

-- the dart of the lower part for one of e
pub part_dart : Edge → Point → Dart → Dart
part_dart e v d = cond (same_edge d.edge e) (record { edge = lower_part e v; forward = d.forward }) d

-- how darts of h go to those of g, and back
pub record SplitDarts (e : Edge) (v : Point) (rest : List Edge) : Type 0 where
  pub two_parts : same_edge (lower_part e v) (upper_part e v) ≡ false
  pub not_low : (z : Edge) → Contains rest z → same_edge z (lower_part e v) ≡ false
  pub not_high : (z : Edge) → Contains rest z → same_edge z (upper_part e v) ≡ false
  pub whole_low : (fw : Bool) → whole_dart e v (record { edge = lower_part e v; forward = fw }) ≡ (record { edge = e; forward = fw })
  pub whole_high : (fw : Bool) → whole_dart e v (record { edge = upper_part e v; forward = fw }) ≡ (record { edge = e; forward = fw })
  pub whole_rest : (d : Dart) → Contains rest d.edge → whole_dart e v d ≡ d
  pub part_whole : (fw : Bool) → part_dart e v (record { edge = e; forward = fw }) ≡ (record { edge = lower_part e v; forward = fw })
  pub part_rest : (d : Dart) → Contains rest d.edge → part_dart e v d ≡ d

module _ (g : Skeleton) (hv : List Point) (hs : List Edge) (e : Edge) (v : Point) (rest : List Edge) (m : HasEdgeSplit g (record { vertices = hv; edges = hs }) e v rest) where
  abbrev facts : SplitFacts g hv hs e v rest
  facts = split_facts g hv hs e v rest m

  -- ---- which edges there are
  low_once : count_by (same_edge (lower_part e v)) rest ≡ 0
  low_once =
      let a = m.sums_more (λ z. cond (same_edge (lower_part e v) z) 1 0) in
      let b = m.plane_more.edge_once (lower_part e v) facts.lower_in in
      let c : cond {A = ℕ} (same_edge (lower_part e v) (lower_part e v)) 1 0 ≡ 1 = rw (same_edge_refl (lower_part e v)) refl in
      omega arith

  two_parts : same_edge (lower_part e v) (upper_part e v) ≡ false
  two_parts = false_from_ne_true _ (λ k.
      let a = m.sums_more (λ z. cond (same_edge (lower_part e v) z) 1 0) in
      let b = m.plane_more.edge_once (lower_part e v) facts.lower_in in
      let c : cond {A = ℕ} (same_edge (lower_part e v) (lower_part e v)) 1 0 ≡ 1 = rw (same_edge_refl (lower_part e v)) refl in
      let d : cond {A = ℕ} (same_edge (lower_part e v) (upper_part e v)) 1 0 ≡ 1 = rw k refl in
      absurd (omega arith))

  high_once : count_by (same_edge (upper_part e v)) rest ≡ 0
  high_once =
      let a = m.sums_more (λ z. cond (same_edge (upper_part e v) z) 1 0) in
      let b = m.plane_more.edge_once (upper_part e v) facts.upper_in in
      let c : cond {A = ℕ} (same_edge (upper_part e v) (upper_part e v)) 1 0 ≡ 1 = rw (same_edge_refl (upper_part e v)) refl in
      omega arith

  whole_once : count_by (same_edge e) rest ≡ 0
  whole_once =
      let a = m.sums (λ z. cond (same_edge e z) 1 0) in
      let b = m.plane.edge_once e facts.edge_in in
      let c : cond {A = ℕ} (same_edge e e) 1 0 ≡ 1 = rw (same_edge_refl e) refl in
      omega arith

  not_listed : (q : Edge) → count_by (same_edge q) rest ≡ 0 → (z : Edge) → Contains rest z → same_edge z q ≡ false
  not_listed q n z Z = false_from_ne_true _ (λ k.
      let b = passing (same_edge q) rest z Z (subst (λ y. same_edge q y ≡ true) (sym (same_edge_is z q k)) (same_edge_refl q)) in
      absurd (omega arith))

  -- ---- darts of h as darts of g
  whole_low : (fw : Bool) → whole_dart e v (record { edge = lower_part e v; forward = fw }) ≡ (record { edge = e; forward = fw })
  unfolding whole_dart
  whole_low fw = rw (same_edge_refl (lower_part e v)) refl

  whole_high : (fw : Bool) → whole_dart e v (record { edge = upper_part e v; forward = fw }) ≡ (record { edge = e; forward = fw })
  unfolding whole_dart
  whole_high fw = elim (cases_Bool (same_edge (upper_part e v) (lower_part e v))) [ inl k ↦ rw k refl | inr k ↦ rw (k, same_edge_refl (upper_part e v)) refl ]

  whole_rest : (d : Dart) → Contains rest d.edge → whole_dart e v d ≡ d
  unfolding whole_dart
  whole_rest d D = rw (not_listed (lower_part e v) low_once d.edge D, not_listed (upper_part e v) high_once d.edge D) refl

  part_whole : (fw : Bool) → part_dart e v (record { edge = e; forward = fw }) ≡ (record { edge = lower_part e v; forward = fw })
  unfolding part_dart
  part_whole fw = rw (same_edge_refl e) refl

  part_rest : (d : Dart) → Contains rest d.edge → part_dart e v d ≡ d
  unfolding part_dart
  part_rest d D = rw (not_listed e whole_once d.edge D) refl

  pub split_darts : SplitDarts e v rest
  split_darts = record {
    two_parts = two_parts;
    not_low = not_listed (lower_part e v) low_once;
    not_high = not_listed (upper_part e v) high_once;
    whole_low = whole_low;
    whole_high = whole_high;
    whole_rest = whole_rest;
    part_whole = part_whole;
    part_rest = part_rest;
  }
