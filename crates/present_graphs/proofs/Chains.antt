-- The points on a piece, one by one, and the marks between them.
use Rattle.std.proofs.Common.{◌≡◌, ℕ, ◌+◌, ◌<◌, ◌≤◌, List, [], ◌∷◌, ◌++◌, map, length, drop, get_or, true, false, cond, Option, None, Some, refl, sym, ap, ap₂, ◌∙◌, subst, append_assoc, inl, ⊎_elim}
use Rattle.std.specs.List.{filter, flat_map}
use Rattle.std.proofs.lemmas.List.{at_drop_more, drop_all, map_push}
use Rattle.exact_plane.specs.Point.{Point}
use Rattle.exact_plane.specs.PointOrder.{point_cmp}
use Rattle.plane_graphs.specs.Ascending.{ascending, Member, IsAscending}
use Rattle.plane_graphs.specs.Graph.{Mark, mark, mark_cmp, chain, chain_from, marks}
use Rattle.plane_graphs.specs.Piece.{Piece, on}
use Rattle.plane_graphs.proofs.Ascending.{ascending_unique, IsAscending-ascending}
use Rattle.plane_graphs.proofs.Edges.{chain_is}
use Rattle.plane_graphs.proofs.Lists.{in_flat_map, of_flat_map, of_ascending, in_ascending}
use Rattle.plane_graphs.proofs.Marks.{IsMark, mark_out, mark_in, marks_ascend}
use Rattle.plane_graphs.proofs.Order.{mark_cmp_total, mark_cmp_exact}
use Rattle.present_graphs.specs.Marks.{mark_of}
use Rattle.present_graphs.specs.declared.marks.Mark.{Mark as MarkInMemory}

-- the marks of the points to come, where the last one on the piece is told
abbrev pub chain_after : ℕ → Option Point → List Point → List Mark
chain_after c None ps = chain c ps
chain_after c (Some p) ps = chain_from c p ps

pub end_after : (c : ℕ) (last : Option Point) → chain_after c last [] ≡ []
unfolding chain chain_from
end_after c None = refl
end_after c (Some p) = refl

-- the marks of one piece among points
abbrev pub chain_of : (vs : List Point) (k : Piece) → List Mark
chain_of vs k = chain k.curve (filter (on k) vs)

-- what is left to do after so many points
abbrev pub left : Piece → Option Point → List Point → ℕ → List Mark
left k last vs i = chain_after k.curve last (filter (on k) (drop i vs))

module _ (k : Piece) (vs : List Point) (i : ℕ) (q : Point) (h : i < length vs) (e : q ≡ get_or vs i q) where
  next : (last : Option Point) → left k last vs i ≡ chain_after k.curve last (cond (on k q) (q ∷ filter (on k) (drop (i + 1) vs)) (filter (on k) (drop (i + 1) vs)))
  next last = at_drop_more (λ ps. chain_after k.curve last (filter (on k) ps)) vs i q h ∙ ap (λ r. chain_after k.curve last (filter (on k) (r ∷ drop (i + 1) vs))) (sym e)

  pub passed_by : (last : Option Point) → on k q ≡ false → left k last vs i ≡ left k last vs (i + 1)
  passed_by last f = next last ∙ ap (λ b. chain_after k.curve last (cond b (q ∷ filter (on k) (drop (i + 1) vs)) (filter (on k) (drop (i + 1) vs)))) f

  pub first_one : on k q ≡ true → left k None vs i ≡ left k (Some q) vs (i + 1)
  unfolding chain
  first_one f = next None ∙ ap (λ b. chain_after k.curve None (cond b (q ∷ filter (on k) (drop (i + 1) vs)) (filter (on k) (drop (i + 1) vs)))) f

  pub next_one : (p : Point) → on k q ≡ true → left k (Some p) vs i ≡ mark p q k.curve ∷ left k (Some q) vs (i + 1)
  unfolding chain_from
  next_one p f = next (Some p) ∙ ap (λ b. chain_after k.curve (Some p) (cond b (q ∷ filter (on k) (drop (i + 1) vs)) (filter (on k) (drop (i + 1) vs)))) f

-- one more point, where so many marks are there already
module _ (k : Piece) (vs : List Point) (i : ℕ) (q : Point) (h : i < length vs) (e : q ≡ get_or vs i q) (now new : List MarkInMemory) (last : Option Point) (all : List Mark) (done : map mark_of now ++ left k last vs i ≡ all) where
  pub point_passed : (last' : Option Point) → on k q ≡ false → new ≡ now → last' ≡ last → map mark_of new ++ left k last' vs (i + 1) ≡ all
  point_passed last' f n l = ap₂ (λ ms o. map mark_of ms ++ left k o vs (i + 1)) n l ∙ ap (λ ms. map mark_of now ++ ms) (sym (passed_by k vs i q h e last f)) ∙ done

  pub point_first : (last' : Option Point) → on k q ≡ true → last ≡ None → new ≡ now → last' ≡ Some q → map mark_of new ++ left k last' vs (i + 1) ≡ all
  point_first last' f g n l =
      ap₂ (λ ms o. map mark_of ms ++ left k o vs (i + 1)) n l ∙ ap (λ ms. map mark_of now ++ ms) (sym (first_one k vs i q h e f)) ∙ ap (λ o. map mark_of now ++ left k o vs i) (sym g) ∙ done

  pub point_next : (last' : Option Point) (p : Point) (m : MarkInMemory) → on k q ≡ true → last ≡ Some p → mark_of m ≡ mark p q k.curve → new ≡ now ++ m ∷ [] → last' ≡ Some q → map mark_of new ++ left k last' vs (i + 1) ≡ all
  point_next last' p m f g is n l =
      let rest : List Mark = left k (Some q) vs (i + 1) in
      ap₂ (λ ms o. map mark_of ms ++ left k o vs (i + 1)) n l
      ∙ ap (λ ms. ms ++ rest) (map_push mark_of now m ∙ ap (λ r. map mark_of now ++ r ∷ []) is)
      ∙ append_assoc (map mark_of now) (mark p q k.curve ∷ []) rest
      ∙ ap (λ ms. map mark_of now ++ ms) (sym (next_one k vs i q h e p f))
      ∙ ap (λ o. map mark_of now ++ left k o vs i) (sym g)
      ∙ done

pub none_left : (k : Piece) (last : Option Point) (vs : List Point) (i : ℕ) → length vs ≤ i → left k last vs i ≡ []
none_left k last vs i h = ap (λ ps. chain_after k.curve last (filter (on k) ps)) (drop_all i vs h) ∙ end_after k.curve last

-- ---- the chains of all pieces are the marks
module _ (vs : List Point) (asc : IsAscending point_cmp vs) (ks : List Piece) where
  is_mark : (m : Mark) → Member m (flat_map (chain_of vs) ks) → IsMark vs ks m
  is_mark m h =
      let w = of_flat_map (chain_of vs) m ks h in
      let k = w.0 in
      let o = mark_out vs (k ∷ []) m (subst (λ ms. Member m ms) (sym (chain_is vs asc k)) w.2) in
      record { piece = o.piece; here = ⊎_elim (λ i. subst (λ l. Member l ks) (sym i) w.1) (λ z. absurd z) o.here; curve = o.curve; low_in = o.low_in; high_in = o.high_in; next = o.next }

  has_mark : (m : Mark) → IsMark vs ks m → Member m (flat_map (chain_of vs) ks)
  has_mark m o =
      let k = o.piece in
      let one : IsMark vs (k ∷ []) m = record { piece = k; here = inl refl; curve = o.curve; low_in = o.low_in; high_in = o.high_in; next = o.next } in
      in_flat_map (chain_of vs) k m ks o.here (subst (λ ms. Member m ms) (chain_is vs asc k) (mark_in vs (k ∷ []) m one))

  pub chains_are : ascending mark_cmp (flat_map (chain_of vs) ks) ≡ marks vs ks
  chains_are =
      ascending_unique mark_cmp mark_cmp_total (ascending mark_cmp (flat_map (chain_of vs) ks)) (marks vs ks) (IsAscending-ascending mark_cmp mark_cmp_total (flat_map (chain_of vs) ks)) (marks_ascend vs ks)
      (λ m h. mark_in vs ks m (is_mark m (of_ascending mark_cmp mark_cmp_total mark_cmp_exact m (flat_map (chain_of vs) ks) h)))
      (λ m h. in_ascending mark_cmp mark_cmp_total mark_cmp_exact m (flat_map (chain_of vs) ks) (has_mark m (mark_out vs ks m h)))
