-- What is told along a layer's own edges is known of the whole.
use Rattle.std.proofs.Common.{◌≡◌, ◌≢◌, ℕ, ◌+◌, ◌<◌, ◌≤◌, true, false, cond, arith, refl, sym, ap, subst, ◌∙◌, inl, inr, List, [], ◌∷◌, ◌++◌, length, get_or, map, nat_cmp, Contains, Less}
use Rattle.std.specs.Prelude.{Option, Some, None, slice_set}
use Rattle.std.proofs.lemmas.Bool.{cases_lt, cases_eq, cases_Bool, false≢true}
use Rattle.std.proofs.lemmas.List.{get_or_append_left, get_or_push, get_or-map, get_or-set_same, get_or-set_other, length-append, length-map, length-set}
use Rattle.exact_plane.specs.Point.{Point}
use Rattle.exact_plane.specs.Span.{Span, IsSpan}
use Rattle.integers.proofs.Classes.{then_less}
use Rattle.integers.proofs.Tests.{not_true, less_nat, nat_exact}
use Rattle.plane_graphs.specs.Ascending.{Member, IsAscending}
use Rattle.plane_graphs.specs.Fit.{IsFit}
use Rattle.plane_graphs.specs.Graph.{Edge, graph, edges, collinear}
use Rattle.plane_graphs.specs.Line.{IsProper, same_point}
use Rattle.plane_graphs.specs.Piece.{Present}
use Rattle.plane_graphs.proofs.Ascending.{to_member, from_member, IsAscending-ascending}
use Rattle.plane_graphs.proofs.Lists.{and_in}
use Rattle.plane_graphs.proofs.Marks.{le_cases, le_lt_lt, lt_le_lt}
use Rattle.plane_graphs.proofs.Order.{Lt, lt_never, same_out, same_in}
use Rattle.plane_graphs.proofs.Sorting.{any_default, member_at, rises}
use Rattle.slab_laws.specs.Darts.{ahead}
use Rattle.slab_laws.specs.Overlay.{plane_of, has_curve_along}
use Rattle.slab_laws.specs.Rows.{edge_place}
use Rattle.slab_laws.specs.Skeleton.{Skeleton}
use Rattle.slab_laws.specs.SpansDrawn.{edge_of}
use Rattle.sweep_graphs.specs.declared.edges.EdgeEnds.{EdgeEnds}
use Rattle.sweep_graphs.specs.Edges.{ends_of, ends_cmp, edge_between}
use Rattle.sweep_graphs.proofs.EdgeOrders.{ends_cmp_total}
use Rattle.sweep_graphs.specs.Traces.{point_at}
use Rattle.overlay_sweep.specs.declared.graphs.LayerGraph.{LayerGraph}
use Rattle.overlay_sweep.specs.declared.own.OwnEdge.{OwnEdge}
use Rattle.overlay_sweep.specs.KnownEdges.{IsOwnAlong}
use Rattle.overlay_sweep.specs.KnownLabels.{AreKnown}
use Rattle.overlay_sweep.specs.LabelsAbove.{known_at}
use Rattle.overlay_sweep.specs.LayerGraphs.{IsLayerGraph, ArePiecesFrom}
use Rattle.overlay_sweep.specs.LayerLabels.{is_held, rank_beside}
use Rattle.overlay_sweep.specs.PiecesAlong.{IsPieceAlong}
use Rattle.overlay_sweep.specs.OwnEdges.{own_at, no_own, passed_at, passing_with, AreOwnEdges, HasOwnFrom, IsOwnFrom, IsTold}
use Rattle.overlay_sweep.proofs.OwnEdges.{no_ends, edge_at, vertex_at, owned, own_edge, low_within, high_within, low_proper, high_proper, run_along_ends, curve_there, edges_told, edge_to}
use Rattle.overlay_sweep.proofs.OwnEdges as own_edges
use Rattle.overlay_sweep.proofs.OwnLines.{IsUpon, upon_in, one_by_points, one_by_inside, one_by_line, part_line, begins_level, level_out}

some_same : (i j : ℕ) → Some i ≡ Some j → i ≡ j
some_same i j h = cc

-- ---- what is told of edges, and noted of vertices
module _ (layer : Present) (whole : LayerGraph) (ks : List OwnEdge) where
  -- the layer's own edge that an edge of the whole lies on, with the rank of the face above it
  abbrev pub IsOn : Edge → ℕ → Type 0
  IsOn e n = (has_curve_along layer e ≡ true) × ((f : Edge) × Contains (plane_of layer).edges f × (is_held f e ≡ true) × (n ≡ rank_beside (plane_of layer) (ahead f)))

  abbrev pub IsKnownOf : Edge → Option ℕ → Type 0
  IsKnownOf e None = has_curve_along layer e ≡ false
  IsKnownOf e (Some n) = IsOn e n

  -- the own edge at i passes the vertex v, which is inside it
  pub record IsPassing (v i : ℕ) : Type 0 where
    pub within : i < length ks
    pub low : Lt (own_at ks i).span.lower (point_at whole.trace.points v)
    pub high : Lt (point_at whole.trace.points v) (own_at ks i).span.upper
    pub line : collinear (own_at ks i).span.lower (own_at ks i).span.upper (point_at whole.trace.points v) ≡ true

  -- what is noted passes
  abbrev pub AreSound : List (Option ℕ) → Type 0
  AreSound passing = (v i : ℕ) → v < length whole.trace.points → passed_at passing v ≡ Some i → IsPassing v i

  -- and where an edge of the whole ends inside an own edge, it is noted
  abbrev pub IsNoted : List (Option ℕ) → EdgeEnds → Type 0
  IsNoted passing e = (f : Edge) → Member f (edges (graph layer)) → IsUpon f (point_at whole.trace.points e.low) → IsUpon f (point_at whole.trace.points e.high) → point_at whole.trace.points e.high ≢ f.high → (i : ℕ) × (passed_at passing e.high ≡ Some i)

  -- of the first edges
  pub record AreKnownUpto (k : ℕ) (known passing : List (Option ℕ)) : Type 0 where
    pub passed : k ≤ length whole.edges.items
    pub counted : length known ≡ k
    pub paired : length passing ≡ length whole.trace.points
    pub each : (j : ℕ) → j < k → IsKnownOf (edge_between whole.trace.points (get_or whole.edges.items j no_ends)) (known_at known j)
    pub sound : AreSound passing
    pub noted : (j : ℕ) → j < k → IsNoted passing (get_or whole.edges.items j no_ends)

-- ---- what is told of each edge
module _ (layer w : Present) (first : ℕ) (fl : IsFit layer) (fw : IsFit w) (whole : LayerGraph) (g : IsLayerGraph w whole) (part : ArePiecesFrom first layer w) (ks : List OwnEdge) (oe : AreOwnEdges layer ks) (spans : (k : OwnEdge) → Member k ks → IsSpan k.span) where
  abbrev at : ℕ → Point
  at v = point_at whole.trace.points v

  abbrev there : EdgeEnds → Edge
  there e = edge_between whole.trace.points e

  abbrev Own : Edge → Type 0
  Own f = Member f (edges (graph layer))

  own_there : (i : ℕ) → i < length ks → Own (edge_of (own_at ks i).span)
  own_there i l = to_member (edges (graph layer)) (edge_of (own_at ks i).span) (oe.own (own_at ks i) (member_at ks i no_own l))

  span_there : (i : ℕ) → i < length ks → IsSpan (own_at ks i).span
  span_there i l = spans (own_at ks i) (member_at ks i no_own l)

  -- ---- an edge of the whole along a piece of the layer, as a part of its line
  module _ (e : EdgeEnds) (s : Span) (S : IsSpan s) (same : edge_of s ≡ there e) (piece : ℕ) (P : piece < length layer.pieces) (m : IsPieceAlong whole.stretches.items e (first + piece)) (passing : List (Option ℕ)) (sound : AreSound layer whole ks passing) (noted : (d : EdgeEnds) → Member d whole.edges.items → d.high ≡ e.low → d.low < e.low → IsNoted layer whole ks passing d) where
    abbrev a : Point
    a = at e.low

    abbrev b : Point
    b = at e.high

    lower_is : s.lower ≡ a
    lower_is = ap (λ (d : Edge). d.low) same

    upper_is : s.upper ≡ b
    upper_is = ap (λ (d : Edge). d.high) same

    pub found : (f : Edge) × Own f × IsUpon f a × IsUpon f b
    found = own_edge layer w first fl fw whole g part piece P e m

    A : IsProper a
    A = low_proper layer w first fl fw whole g part piece P e m

    B : IsProper b
    B = high_proper layer w first fl fw whole g part piece P e m

    up : Lt a b
    up = own_edges.ahead layer w first fl fw whole g part piece P e m

    low_in : e.low < length whole.trace.points
    low_in = low_within layer w first fl fw whole g part piece P e m

    high_in : e.high < length whole.trace.points
    high_in = high_within layer w first fl fw whole g part piece P e m

    -- the own edge begins where the part does, if none is noted there
    begins_there : passed_at passing e.low ≡ None → found.0.low ≡ a
    begins_there none =
        let f = found.0 in
        elim (le_cases f.low a found.2.low) [
          | inl q ↦ q
          | inr l ↦
              let high : Lt a f.high = lt_le_lt up found.3.high in
              let d = edge_to layer w first fl fw whole g part f found.1 e.low low_in l high found.2.line in
              let differ : at d.0.high ≢ f.high = λ q. lt_never (subst (λ z. Lt z f.high) (ap at (sym d.2) ∙ q) high) in
              let n = noted d.0 d.1 d.2 d.3 f found.1 d.4 (subst (λ v. IsUpon f (at v)) (sym d.2) d.5) differ in
              absurd (let z = n.1 in let y = ap (passed_at passing) (sym d.2) ∙ z in let x = none in cc)
        ]

    -- so one is found there
    pub has_from : (o : Option ℕ) → passed_at passing e.low ≡ o → HasOwnFrom ks o s
    has_from (Some i) q = (sound e.low i low_in q).within
    has_from None q =
        let f = found.0 in
        let k = oe.all f (from_member (edges (graph layer)) f found.1) in
        let K = spans k.0 k.1 in
        let low : k.0.span.lower ≡ s.lower = ap (λ (d : Edge). d.low) k.2 ∙ begins_there q ∙ sym lower_is in
        let upon : IsUpon (edge_of k.0.span) s.upper = subst (IsUpon (edge_of k.0.span)) (sym upper_is) (subst (λ d. IsUpon d b) (sym k.2) found.3) in
        (k.0, k.1, begins_level k.0.span s low (part_line k.0.span s K S low upon))

    -- ---- what is found is the own edge that the part lies on
    module _ (i : ℕ) (I : i < length ks) where
      abbrev own : Span
      own = (own_at ks i).span

      is_found : (o : Option ℕ) → passed_at passing e.low ≡ o → IsOwnFrom ks o s i → edge_of own ≡ found.0
      is_found (Some j) q h =
          let k = sound e.low j low_in q in
          let passes : IsPassing layer whole ks e.low i = subst (IsPassing layer whole ks e.low) (sym h) k in
          one_by_inside layer fl (edge_of own) found.0 a (own_there i I) found.1 A passes.low passes.high passes.line found.2
      is_found None q h =
          let f = found.0 in
          let k = oe.all f (from_member (edges (graph layer)) f found.1) in
          let K = spans k.0 k.1 in
          let low : k.0.span.lower ≡ s.lower = ap (λ (d : Edge). d.low) k.2 ∙ begins_there q ∙ sym lower_is in
          let upon : IsUpon (edge_of k.0.span) s.upper = subst (IsUpon (edge_of k.0.span)) (sym upper_is) (subst (λ d. IsUpon d b) (sym k.2) found.3) in
          let line : k.0.span.line ≡ s.line = part_line k.0.span s K S low upon in
          let l = level_out own s (span_there i I) S h in
          one_by_line layer fl own k.0.span (span_there i I) K (own_there i I) (to_member (edges (graph layer)) (edge_of k.0.span) (oe.own k.0 k.1)) (l.0 ∙ sym low) (l.1 ∙ sym line) ∙ k.2

      module _ (is : edge_of own ≡ found.0) where
        upon_low : IsUpon (edge_of own) a
        upon_low = subst (λ d. IsUpon d a) (sym is) found.2

        upon_high : IsUpon (edge_of own) b
        upon_high = subst (λ d. IsUpon d b) (sym is) found.3

        pub known_there : (n : ℕ) → n ≡ (own_at ks i).over → IsOn layer whole ks (there e) n
        known_there n q = (
          owned layer w first fl fw whole g part piece P e m,
          (
            edge_of own,
            oe.own (own_at ks i) (member_at ks i no_own I),
            and_in (upon_in (edge_of own) a upon_low) (upon_in (edge_of own) b upon_high),
            q ∙ oe.over (own_at ks i) (member_at ks i no_own I),
          ),
        )

        -- it passes the vertex where the part ends, unless it ends there
        passes_high : b ≢ own.upper → IsPassing layer whole ks e.high i
        passes_high n = record {
          within = I;
          low = le_lt_lt upon_low.low up;
          high = elim (le_cases b own.upper upon_high.high) [ inl q ↦ absurd (n q) | inr l ↦ l ];
          line = upon_high.line;
        }

        one_edge : (f : Edge) → Own f → IsUpon f a → IsUpon f b → f ≡ edge_of own
        one_edge f F x y = one_by_points layer fl f (edge_of own) a b F (own_there i I) A B up x y upon_low upon_high

        -- ---- what is noted then
        module _ (paired : length passing ≡ length whole.trace.points) (new : List (Option ℕ)) (n : new ≡ passing_with ks passing e.high s i) where
          ended : same_point own.upper s.upper ≡ true → (new ≡ passing) × (own.upper ≡ b)
          ended t = (n ∙ ap (λ z. cond z passing (slice_set passing e.high (Some i))) t, same_out own.upper s.upper t ∙ upper_is)

          further : same_point own.upper s.upper ≡ false → (new ≡ slice_set passing e.high (Some i)) × (b ≢ own.upper)
          further t = (n ∙ ap (λ z. cond z passing (slice_set passing e.high (Some i))) t, λ q. false≢true (sym t ∙ same_in own.upper s.upper (sym q ∙ sym upper_is)))

          here : (passed : new ≡ slice_set passing e.high (Some i)) → passed_at new e.high ≡ Some i
          here q = ap (λ z. passed_at z e.high) q ∙ get_or-set_same passing e.high (Some i) None (let h = high_in in omega arith)

          elsewhere : (v : ℕ) → v ≢ e.high → new ≡ slice_set passing e.high (Some i) → passed_at new v ≡ passed_at passing v
          elsewhere v d q = ap (λ z. passed_at z v) q ∙ get_or-set_other passing e.high v (Some i) None d

          pub still_paired : length new ≡ length whole.trace.points
          still_paired = elim (cases_Bool (same_point own.upper s.upper)) [
            | inl t ↦ ap length (ended t).0 ∙ paired
            | inr t ↦ ap length (further t).0 ∙ length-set passing e.high (Some i) ∙ paired
          ]

          pub still_sound : AreSound layer whole ks new
          still_sound v j V q = elim (cases_Bool (same_point own.upper s.upper)) [
            | inl t ↦ sound v j V (ap (λ z. passed_at z v) (sym (ended t).0) ∙ q)
            | inr t ↦ (let f = further t in elim (cases_eq v e.high) [
              | inl x ↦ (let z = sym (here f.0) ∙ ap (passed_at new) (sym x) ∙ q in let y : i ≡ j = some_same i j z in subst (λ u. IsPassing layer whole ks u j) (sym x) (subst (IsPassing layer whole ks e.high) y (passes_high f.1)))
              | inr x ↦ sound v j V (sym (elsewhere v x f.0) ∙ q)
            ])
          ]

          pub still_noted : (d : EdgeEnds) → IsNoted layer whole ks passing d → IsNoted layer whole ks new d
          still_noted d h f F x y differ = elim (cases_Bool (same_point own.upper s.upper)) [
            | inl t ↦ (let k = h f F x y differ in (k.0, ap (λ z. passed_at z d.high) (ended t).0 ∙ k.1))
            | inr t ↦ (let u = further t in elim (cases_eq d.high e.high) [
              | inl z ↦ (i, ap (passed_at new) z ∙ here u.0)
              | inr z ↦ (let k = h f F x y differ in (k.0, elsewhere d.high z u.0 ∙ k.1))
            ])
          ]

          pub now_noted : IsNoted layer whole ks new e
          now_noted f F x y differ = elim (cases_Bool (same_point own.upper s.upper)) [
            | inl t ↦ absurd (differ (sym (ended t).1 ∙ ap (λ (d : Edge). d.high) (sym (one_edge f F x y))))
            | inr t ↦ (i, here (further t).0)
          ]

  -- ---- of the first edges
  abbrev es : List EdgeEnds
  es = whole.edges.items

  abbrev edge : ℕ → EdgeEnds
  edge k = get_or es k no_ends

  pub none_known : (known passing : List (Option ℕ)) → known ≡ [] → length passing ≡ length whole.trace.points → ((v : ℕ) → v < length passing → passed_at passing v ≡ None) → AreKnownUpto layer whole ks 0 known passing
  none_known known passing q l none = record {
    passed = omega arith;
    counted = ap length q;
    paired = l;
    each = λ j h. absurd (omega arith);
    sound = λ v i V h. absurd (let z = none v (omega arith) in cc);
    noted = λ j h. absurd (omega arith);
  }

  ends_up : IsAscending ends_cmp es
  ends_up = subst (IsAscending ends_cmp) (sym g.edges) (IsAscending-ascending ends_cmp ends_cmp_total (map ends_of whole.trace.stretches))

  lesser : (d e : EdgeEnds) → ends_cmp d e ≡ Less → d.low ≤ e.low
  lesser d e h = elim (then_less (nat_cmp d.low e.low) (nat_cmp d.high e.high) h) [
    | inl a ↦ (let k = less_nat d.low e.low a in omega arith)
    | inr a ↦ (let k = nat_exact d.low e.low a.0 in omega arith)
  ]

  -- an edge that begins before another stands before it
  stands : (k : ℕ) → k < length es → (d : EdgeEnds) → Member d es → d.low < (edge k).low → (j : ℕ) × (j < k) × (edge j ≡ d)
  stands k K d m l =
      let a = from_member es d m in
      let A = a.1 in
      let is : edge a.0 ≡ d = any_default es a.0 no_ends d a.1 ∙ a.2 in
      let low : (edge a.0).low ≡ d.low = ap (λ (x : EdgeEnds). x.low) is in
      elim (cases_lt a.0 k) [
        | inl h ↦ (a.0, h, is)
        | inr h ↦ elim (cases_lt k a.0) [
          | inl b ↦ absurd (let z = lesser (edge k) (edge a.0) (rises ends_cmp es ends_up k a.0 no_ends b A) in omega arith)
          | inr b ↦ absurd (let c : a.0 ≡ k = omega arith in let z : (edge a.0).low ≡ (edge k).low = ap (λ n. (edge n).low) c in omega arith)
        ]
      ]

  -- the part of its line at the place of an edge
  pub part_at : (k : ℕ) (d : Span) → k < length es → (k < length whole.spans.items) × Member (get_or whole.spans.items k d) whole.spans.items × (edge_of (get_or whole.spans.items k d) ≡ there (edge k))
  part_at k d K =
      let drawn_edges : map edge_of whole.spans.items ≡ map there es = ap (λ (z : Skeleton). z.edges) g.drawn_is ∙ sym (edges_told w whole g) in
      let l : length whole.spans.items ≡ length es = sym (length-map whole.spans.items edge_of) ∙ ap length drawn_edges ∙ length-map es there in
      let L : k < length whole.spans.items = omega arith in
      (L, member_at whole.spans.items k d L, sym (get_or-map edge_of whole.spans.items k d (edge_of d) L) ∙ ap (λ zs. get_or zs k (edge_of d)) drawn_edges ∙ any_default (map there es) k (edge_of d) (there no_ends) (subst (λ n. k < n) (sym (length-map es there)) K) ∙ get_or-map there es k no_ends (there no_ends) K)

  -- ---- one edge more
  module _ (k : ℕ) (K : k < length es) (known old : List (Option ℕ)) (h : AreKnownUpto layer whole ks k known old) (s : Span) (S : IsSpan s) (same : edge_of s ≡ there (edge k)) where
    noted_before : (d : EdgeEnds) → Member d es → d.high ≡ (edge k).low → d.low < (edge k).low → IsNoted layer whole ks old d
    noted_before d m q l = let j = stands k K d m l in subst (IsNoted layer whole ks old) j.2 (h.noted j.0 j.1)

    pub some_from : (piece : Option ℕ) → IsOwnAlong first (length layer.pieces) whole.stretches.items (edge k) piece → piece ≢ None → HasOwnFrom ks (passed_at old (edge k).low) s
    some_from None a n = absurd (n refl)
    some_from (Some i) a n = has_from (edge k) s S same i a.0 a.1 old h.sound noted_before (passed_at old (edge k).low) refl

    record IsMore (r : Option ℕ) (new : List (Option ℕ)) : Type 0 where
      paired : length new ≡ length whole.trace.points
      told : IsKnownOf layer whole ks (there (edge k)) r
      sound : AreSound layer whole ks new
      noted : (d : EdgeEnds) → IsNoted layer whole ks old d → IsNoted layer whole ks new d
      now : IsNoted layer whole ks new (edge k)

    owned_by : has_curve_along layer (there (edge k)) ≡ true → (i : ℕ) × (i < length layer.pieces) × IsPieceAlong whole.stretches.items (edge k) (first + i)
    owned_by c = run_along_ends layer w first fl fw whole g part (edge k) (member_at es k no_ends K) c

    more : (piece r : Option ℕ) (new : List (Option ℕ)) → IsOwnAlong first (length layer.pieces) whole.stretches.items (edge k) piece → IsTold ks old new (edge k).low (edge k).high s piece r → IsMore r new
    more None r new a t =
        let no : has_curve_along layer (there (edge k)) ≡ false = not_true (has_curve_along layer (there (edge k))) (λ c. let x = owned_by c in a x.0 x.1 x.2) in
        record {
          paired = ap length t.0 ∙ h.paired;
          told = subst (IsKnownOf layer whole ks (there (edge k))) (sym t.1) no;
          sound = subst (AreSound layer whole ks) (sym t.0) h.sound;
          noted = λ d x. subst (λ z. IsNoted layer whole ks z d) (sym t.0) x;
          now = λ f F x y differ. absurd (let c = owned_by (curve_there layer w first fl fw whole g part f F (edge k) (member_at es k no_ends K) x y) in a c.0 c.1 c.2);
        }
    more (Some p) r new a t =
        let i = t.0 in
        let I = t.1 in
        let is = is_found (edge k) s S same p a.0 a.1 old h.sound noted_before i I (passed_at old (edge k).low) refl t.2 in
        record {
          paired = still_paired (edge k) s S same p a.0 a.1 old h.sound noted_before i I is h.paired new t.3;
          told = subst (IsKnownOf layer whole ks (there (edge k))) (sym t.4) (known_there (edge k) s S same p a.0 a.1 old h.sound noted_before i I is (own_at ks i).over refl);
          sound = still_sound (edge k) s S same p a.0 a.1 old h.sound noted_before i I is h.paired new t.3;
          noted = still_noted (edge k) s S same p a.0 a.1 old h.sound noted_before i I is h.paired new t.3;
          now = now_noted (edge k) s S same p a.0 a.1 old h.sound noted_before i I is h.paired new t.3;
        }

    pub known_more : (piece r : Option ℕ) (grown new : List (Option ℕ)) → IsOwnAlong first (length layer.pieces) whole.stretches.items (edge k) piece → IsTold ks old new (edge k).low (edge k).high s piece r → grown ≡ known ++ r ∷ [] → AreKnownUpto layer whole ks (k + 1) grown new
    known_more piece r grown new a t q =
        let m = more piece r new a t in
        let n = h.counted in
        record {
          passed = omega arith;
          counted = ap length q ∙ length-append known (r ∷ []) ∙ ap (λ z. z + 1) n;
          paired = m.paired;
          each = λ j l. elim (cases_lt j k) [
            | inl b ↦ subst (IsKnownOf layer whole ks (there (edge j))) (sym (ap (λ z. known_at z j) q ∙ get_or_append_left known (r ∷ []) None j (omega arith))) (h.each j b)
            | inr b ↦
                let i : j ≡ k = omega arith in
                subst (IsKnownOf layer whole ks (there (edge j))) (sym (ap (λ z. known_at z j) q ∙ get_or_push known r None j (n ∙ sym i))) (subst (λ z. IsKnownOf layer whole ks (there (edge z)) r) (sym i) m.told)
          ];
          sound = m.sound;
          noted = λ j l. elim (cases_lt j k) [
            | inl b ↦ m.noted (edge j) (h.noted j b)
            | inr b ↦ (let i : j ≡ k = omega arith in subst (λ z. IsNoted layer whole ks new (edge z)) (sym i) m.now)
          ];
        }

  -- ---- of all
  told_own : (e : Edge) (n : ℕ) (o : Option ℕ) → o ≡ Some n → IsKnownOf layer whole ks e o → IsOn layer whole ks e n
  told_own e n o q h = subst (IsKnownOf layer whole ks e) q h

  told_other : (e : Edge) (o : Option ℕ) → o ≡ None → IsKnownOf layer whole ks e o → has_curve_along layer e ≡ false
  told_other e o q h = subst (IsKnownOf layer whole ks e) q h

  pub are_known : (k : ℕ) (known passing : List (Option ℕ)) → length es ≤ k → AreKnownUpto layer whole ks k known passing → AreKnown layer w known
  are_known k known passing l h = record {
    own = λ e n E q.
        let a = edge_at w whole g e E in
        let j = edge_place (plane_of w) e in
        let x = h.each j (let b = a.0 in omega arith) in
        subst (λ d. IsOn layer whole ks d n) (sym a.1) (told_own (there (edge j)) n (known_at known j) q x);
    other = λ e E q.
        let a = edge_at w whole g e E in
        let j = edge_place (plane_of w) e in
        let x = h.each j (let b = a.0 in omega arith) in
        subst (λ d. has_curve_along layer d ≡ false) (sym a.1) (told_other (there (edge j)) (known_at known j) q x);
  }
