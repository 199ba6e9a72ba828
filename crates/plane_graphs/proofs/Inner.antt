-- A point inside an edge, as a further vertex.
use Rattle.std.proofs.Common.{◌≡◌, List, true, refl, sym, ◌∙◌, subst, inl, inr, ◌⊎◌, ⊎_elim}
use Rattle.exact_plane.specs.Point.{Point}
use Rattle.exact_plane.specs.PointOrder.{point_cmp}
use Rattle.exact_plane.specs.PointOrderLaws.{point_cmp_total, same_point as point_cmp_exact}
use Rattle.plane_graphs.specs.Line.{IsProper}
use Rattle.plane_graphs.specs.Ascending.{place, Member}
use Rattle.plane_graphs.specs.Piece.{Piece, along}
use Rattle.plane_graphs.specs.Graph.{Mark, mark_cmp, marks, inside, mark}
use Rattle.plane_graphs.proofs.Ascending.{ascending_unique}
use Rattle.plane_graphs.proofs.Lists.{of_place, in_place}
use Rattle.plane_graphs.proofs.Order.{Lt, lt_trans, lt_never, mark_cmp_total}
use Rattle.plane_graphs.proofs.Marks.{Le, le_both, mark_path, le_lt, On, on_between, IsMark, mark_out, mark_in, marks_ascend}
use Rattle.plane_graphs.proofs.Closed.{IsClosed, Between, SameLine, around, mark_line, inside_out, inside_in}

pub old_or : (vs : List Point) (r s : Point) → Member s (place point_cmp r vs) → (s ≡ r) ⊎ Member s vs
old_or vs r s m = of_place point_cmp point_cmp_total point_cmp_exact s r vs m

pub old_in : (vs : List Point) (r s : Point) → Member s vs → Member s (place point_cmp r vs)
old_in vs r s m = in_place point_cmp point_cmp_total point_cmp_exact s r vs (inr m)

pub new_in : (vs : List Point) (r : Point) → Member r (place point_cmp r vs)
new_in vs r = in_place point_cmp point_cmp_total point_cmp_exact r r vs (inl refl)

-- the mark has r strictly inside its edge
pub record Inner (vs : List Point) (ks : List Piece) (r : Point) (m : Mark) : Type 0 where
  pub is : IsMark vs ks m
  pub low : Lt m.low r
  pub high : Lt r m.high
  pub line : along is.piece r ≡ true

-- what a mark is, beside a new vertex r
pub data Kind (vs : List Point) (ks : List Piece) (r : Point) (x : Mark) : Type 0 where
  lower : (m : Mark) → Inner vs ks r m → x ≡ mark m.low r m.curve → Kind vs ks r x
  upper : (m : Mark) → Inner vs ks r m → x ≡ mark r m.high m.curve → Kind vs ks r x
  old : IsMark vs ks x → Kind vs ks r x

module _ (vs : List Point) (ks : List Piece) (cl : IsClosed vs ks) (r : Point) (pr : IsProper r) (new : Member r vs → ⊥) where
  -- what the new vertex does not stand in stays
  pub stays : (m : Mark) → (h : IsMark vs ks m) → (Lt m.low r → Lt r m.high → along h.piece r ≡ true → ⊥) → IsMark (place point_cmp r vs) ks m
  stays m h f = record {
    piece = h.piece;
    here = h.here;
    curve = h.curve;
    low_in = old_in vs r m.low h.low_in;
    high_in = old_in vs r m.high h.high_in;
    next = record {
      lt = h.next.lt;
      at_p = h.next.at_p;
      at_q = h.next.at_q;
      none = λ s n a b e. ⊎_elim (λ i. f (subst (λ x. Lt m.low x) i a) (subst (λ x. Lt x m.high) i b) (subst (λ x. along h.piece x ≡ true) i e)) (λ o. h.next.none s o a b e) (old_or vs r s n);
    };
  }

  -- and where neither end is new, a mark was there
  pub was : (m : Mark) (h : IsMark (place point_cmp r vs) ks m) → Member m.low vs → Member m.high vs → IsMark vs ks m
  was m h a b = record {
    piece = h.piece;
    here = h.here;
    curve = h.curve;
    low_in = a;
    high_in = b;
    next = record { lt = h.next.lt; at_p = h.next.at_p; at_q = h.next.at_q; none = λ s n l k e. h.next.none s (old_in vs r s n) l k e };
  }

  -- two pieces with the new vertex are along one line
  one_line : (k m : Piece) → Member k ks → Member m ks → On k r → On m r → SameLine k m
  one_line k m a b o w = ⊎_elim (λ n. absurd (new n)) (λ s. s) (cl.met k m a b r pr o w)

  on_r : (m : Mark) (h : IsMark vs ks m) → Lt m.low r → Lt r m.high → along h.piece r ≡ true → On h.piece r
  on_r m h a b e = on_between h.piece m.low r m.high h.next.at_p h.next.at_q (le_lt a) (le_lt b) e

  on_inner : (m : Mark) (h : Inner vs ks r m) → On h.is.piece r
  on_inner m h = on_r m h.is h.low h.high h.line

  -- of two edges that have it inside, neither begins later, nor ends sooner
  not_later : (m n : Mark) → Inner vs ks r m → Inner vs ks r n → Le n.low m.low
  not_later m n h g = record {
    never = λ l.
        let s = one_line h.is.piece g.is.piece h.is.here g.is.here (on_inner m h) (on_inner n g) in
        h.is.next.none n.low g.is.low_in l (lt_trans g.low h.high) (s.same n.low (cl.proper n.low g.is.low_in) ∙ g.is.next.at_p.line);
  }

  not_sooner : (m n : Mark) → Inner vs ks r m → Inner vs ks r n → Le m.high n.high
  not_sooner m n h g = record {
    never = λ l.
        let s = one_line h.is.piece g.is.piece h.is.here g.is.here (on_inner m h) (on_inner n g) in
        h.is.next.none n.high g.is.high_in (lt_trans h.low g.high) l (s.same n.high (cl.proper n.high g.is.high_in) ∙ g.is.next.at_q.line);
  }

  pub one_edge : (m n : Mark) → Inner vs ks r m → Inner vs ks r n → (m.low ≡ n.low) × (m.high ≡ n.high)
  one_edge m n h g = (le_both (not_later n m g h) (not_later m n h g), le_both (not_sooner m n h g) (not_sooner n m g h))

  pub inner_in : (m : Mark) → IsMark vs ks m → inside r m ≡ true → Inner vs ks r m
  inner_in m h e = let f = inside_out r m e in record { is = h; low = f.0; high = f.1; line = sym (mark_line vs ks cl m h r pr) ∙ f.2 }

  pub inner_out : (m : Mark) → Inner vs ks r m → inside r m ≡ true
  inner_out m h = inside_in r m h.low h.high (mark_line vs ks cl m h.is r pr ∙ h.line)

  -- the two halves are there
  pub low_half : (m : Mark) → Inner vs ks r m → IsMark (place point_cmp r vs) ks (mark m.low r m.curve)
  low_half m h = record {
    piece = h.is.piece;
    here = h.is.here;
    curve = h.is.curve;
    low_in = old_in vs r m.low h.is.low_in;
    high_in = new_in vs r;
    next = record {
      lt = h.low;
      at_p = h.is.next.at_p;
      at_q = on_inner m h;
      none = λ s n a b e. ⊎_elim (λ i. lt_never (subst (λ x. Lt x r) i b)) (λ o. h.is.next.none s o a (lt_trans b h.high) e) (old_or vs r s n);
    };
  }

  pub high_half : (m : Mark) → Inner vs ks r m → IsMark (place point_cmp r vs) ks (mark r m.high m.curve)
  high_half m h = record {
    piece = h.is.piece;
    here = h.is.here;
    curve = h.is.curve;
    low_in = new_in vs r;
    high_in = old_in vs r m.high h.is.high_in;
    next = record {
      lt = h.high;
      at_p = on_inner m h;
      at_q = h.is.next.at_q;
      none = λ s n a b e. ⊎_elim (λ i. lt_never (subst (λ x. Lt r x) i a)) (λ o. h.is.next.none s o (lt_trans h.low a) b e) (old_or vs r s n);
    };
  }

  inner_between : (k : Piece) → Member k ks → On k r → (b : Between vs k r) → Inner vs ks r (mark b.low b.high k.curve)
  inner_between k here o b = record {
    is = record { piece = k; here = here; curve = refl; low_in = b.low_in; high_in = b.high_in; next = b.next };
    low = b.below;
    high = b.above;
    line = o.line;
  }

  from_r : (x : Mark) (h : IsMark (place point_cmp r vs) ks x) → x.low ≡ r → Kind vs ks r x
  from_r x h e =
      let o : On h.piece r = subst (λ p. On h.piece p) e h.next.at_p in
      let b = around vs ks cl h.piece h.here r pr new o in
      let beyond : Lt r x.high = subst (λ p. Lt p x.high) e h.next.lt in
      let old_high : Member x.high vs = ⊎_elim (λ i. absurd (lt_never (subst (λ p. Lt r p) i beyond))) (λ m. m) (old_or vs r x.high h.high_in) in
      let one : Le x.high b.high = record { never = λ l. h.next.none b.high (old_in vs r b.high b.high_in) (subst (λ p. Lt p b.high) (sym e) b.above) l b.next.at_q.line } in
      let two : Le b.high x.high = record { never = λ l. b.next.none x.high old_high (lt_trans b.below beyond) l h.next.at_q.line } in
      upper (mark b.low b.high h.piece.curve) (inner_between h.piece h.here o b) (mark_path x r b.high h.piece.curve e (le_both one two) h.curve)

  to_r : (x : Mark) (h : IsMark (place point_cmp r vs) ks x) → x.high ≡ r → Kind vs ks r x
  to_r x h e =
      let o : On h.piece r = subst (λ p. On h.piece p) e h.next.at_q in
      let b = around vs ks cl h.piece h.here r pr new o in
      let before : Lt x.low r = subst (λ p. Lt x.low p) e h.next.lt in
      let old_low : Member x.low vs = ⊎_elim (λ i. absurd (lt_never (subst (λ p. Lt p r) i before))) (λ m. m) (old_or vs r x.low h.low_in) in
      let one : Le x.low b.low = record { never = λ l. b.next.none x.low old_low l (lt_trans before b.above) h.next.at_p.line } in
      let two : Le b.low x.low = record { never = λ l. h.next.none b.low (old_in vs r b.low b.low_in) l (subst (λ p. Lt b.low p) (sym e) b.below) b.next.at_p.line } in
      lower (mark b.low b.high h.piece.curve) (inner_between h.piece h.here o b) (mark_path x b.low r h.piece.curve (le_both one two) e h.curve)

  pub kind : (x : Mark) → IsMark (place point_cmp r vs) ks x → Kind vs ks r x
  kind x h = ⊎_elim (λ e. from_r x h e) (λ a. ⊎_elim (λ e. to_r x h e) (λ b. old (was x h a b)) (old_or vs r x.high h.high_in)) (old_or vs r x.low h.low_in)

  -- ---- no edge has it inside
  add_there : ((m : Mark) → Inner vs ks r m → ⊥) → (x : Mark) → Kind vs ks r x → IsMark vs ks x
  add_there f x (lower m h e) = absurd (f m h)
  add_there f x (upper m h e) = absurd (f m h)
  add_there f x (old h) = h

  pub vertex_added : ((m : Mark) → Inner vs ks r m → ⊥) → marks (place point_cmp r vs) ks ≡ marks vs ks
  vertex_added f =
      ascending_unique mark_cmp mark_cmp_total (marks (place point_cmp r vs) ks) (marks vs ks) (marks_ascend (place point_cmp r vs) ks) (marks_ascend vs ks)
      (λ x m. mark_in vs ks x (add_there f x (kind x (mark_out (place point_cmp r vs) ks x m))))
      (λ x m. let h = mark_out vs ks x m in mark_in (place point_cmp r vs) ks x (stays x h (λ a b e. f x (record { is = h; low = a; high = b; line = e }))))
