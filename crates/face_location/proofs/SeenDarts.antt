-- The edges that a point sees below it, by the forward darts along them, in a look at each edge.
use Rattle.std.proofs.Common.{◌≡◌, ◌<◌, ◌≤◌, true, false, cond, arith, sym, ap, ◌∙◌, subst, inl, inr}
use Rattle.std.specs.Prelude.{Option, Some, None, IfSome, nat_lt}
use Rattle.std.proofs.lemmas.Bool.{cases_Bool}
use Rattle.exact_plane.specs.Line.{Line}
use Rattle.exact_plane.specs.Point.{Point}
use Rattle.plane_graphs.specs.Graph.{Edge}
use Rattle.plane_graphs.specs.Line.{IsProper}
use Rattle.slab_laws.specs.declared.names.DartId.{DartId}
use Rattle.slab_laws.specs.Darts.{Dart, ahead}
use Rattle.slab_laws.specs.Skeleton.{inside}
use Rattle.slab_laws.specs.Sound.{skeleton_of, edge_in, IsGraphSound}
use Rattle.slab_laws.specs.View.{View, HasDart, twin_in}
use Rattle.sound_views.proofs.EveryEdge.{by_first}
use Rattle.sound_views.proofs.NamedDarts.{names_are_darts}
use Rattle.face_changes.proofs.LinkedCycles.{dart_there}
use Rattle.edge_predicates.specs.Above.{is_above}
use Rattle.edge_predicates.specs.Levels.{IsSeen, level, levels_to, IsSeenAtMost}
use Rattle.edge_predicates.proofs.Levels.{levels_tell_highest}
use Rattle.face_location.specs.Below.{IsSeenDart, IsSeenOrNone, edge_along, higher_of, IsOffEdges}
use Rattle.face_location.specs.Passing.{IsBelow, IsPast}

-- an edge hasn't the point inside, and what the point sees of it isn't above the highest so far
pub record IsCleared (v : View) (q : Point) (o : Option DartId) (e : Edge) : Type 0 where
  pub outside : inside e q ≡ false
  pub lower : IsSeen (skeleton_of v) q e → level (skeleton_of v) q e < levels_to (skeleton_of v) q (edge_along v o)

-- the same of the edge of a dart that is the first of its edge
abbrev pub IsFirstCleared : View → Point → Option DartId → DartId → Type 0
IsFirstCleared v q o d = nat_lt d.0 (twin_in v d).0 ≡ true → IsCleared v q o (edge_in v d)

-- the highest so far has a record
pub there : (v : View) (q : Point) (o : Option DartId) → IsSeenOrNone v q o → IfSome o (HasDart v)
there v q None p = tt
there v q (Some d) p = p.0.0

pub seen_at_most : (v : View) (q : Point) (o : Option DartId) → IsSeenOrNone v q o → IsSeenAtMost (skeleton_of v) q (edge_along v o)
seen_at_most v q None p = tt
seen_at_most v q (Some d) p = p.1

module _ (v : View) (s : IsGraphSound v) (q : Point) (Q : IsProper q) where
  -- ---- the higher of the highest so far and one more
  module _ (d : DartId) (k : IsSeenDart v q d) where
    -- it is one that is seen, and its level is at least that of both
    pub record IsHigher (o : Option DartId) (r : DartId) : Type 0 where
      pub seen : IsSeenDart v q r
      pub from_best : levels_to (skeleton_of v) q (edge_along v o) ≤ levels_to (skeleton_of v) q (Some (edge_in v r))
      pub from_new : level (skeleton_of v) q (edge_in v d) ≤ level (skeleton_of v) q (edge_in v r)

    pub is_higher : (o : Option DartId) → IsSeenOrNone v q o → IsHigher o (higher_of v o d)
    is_higher None p = record { seen = k; from_best = omega arith; from_new = omega arith }
    is_higher (Some c) p = elim (cases_Bool (is_above (edge_in v d) (edge_in v c))) [
      | inl a ↦
          let l = levels_tell_highest.above (skeleton_of v) q (edge_in v d) (edge_in v c) s.plane Q.positive k.1 p.1 a in
          subst (IsHigher (Some c)) (sym (ap (λ b. cond b d c) a)) (record { seen = k; from_best = omega arith; from_new = omega arith })
      | inr a ↦
          let l = levels_tell_highest.not_above (skeleton_of v) q (edge_in v d) (edge_in v c) s.plane Q.positive k.1 p.1 a in
          subst (IsHigher (Some c)) (sym (ap (λ b. cond b d c) a)) (record { seen = p; from_best = omega arith; from_new = omega arith })
    ]

    pub still_cleared : (o : Option DartId) (r : DartId) → IsHigher o r → (e : Edge) → IsCleared v q o e → IsCleared v q (Some r) e
    still_cleared o r h e c = record { outside = c.outside; lower = λ x. let a = c.lower x in let b = h.from_best in omega arith }

    -- d is the forward dart of the edge that is looked at
    pub now_cleared : (o : Option DartId) (r x : DartId) → IsHigher o r → IsBelow v q x d → IsCleared v q (Some r) (edge_in v x)
    now_cleared o r x h b =
        subst (IsCleared v q (Some r)) b.along
        (record { outside = ap (λ (e : Edge). inside e q) b.along ∙ b.outside; lower = λ z. let a = h.from_new in omega arith })

  pub past_cleared : (o : Option DartId) (x : DartId) → IsPast v q x → IsCleared v q o (edge_in v x)
  past_cleared o x p = record { outside = p.outside; lower = λ z. absurd (p.unseen z) }

  -- ---- what no other is above is the highest
  module _ (o : Option DartId) (p : IsSeenOrNone v q o) (all : (d : DartId) → HasDart v d → IsFirstCleared v q o d) where
    cleared : (d : DartId) → HasDart v d → IsCleared v q o (edge_in v d)
    cleared d has = by_first v s (λ (e : Edge) (l : Line). IsCleared v q o e) all d has

    pub off_edges : IsOffEdges v q o
    off_edges = record {
      off = λ d has. (cleared d has).outside;
      highest = record {
        seen = p;
        highest = levels_tell_highest.highest (skeleton_of v) q (edge_along v o) s.plane Q.positive (seen_at_most v q o p) (λ f F.
            let d = names_are_darts.there v (ahead f) s (dart_there (skeleton_of v) (ahead f) F.in') in
            let e : edge_in v d.0 ≡ f = ap (λ (x : Dart). x.edge) d.2 in
            subst (λ (x : Edge). level (skeleton_of v) q x < levels_to (skeleton_of v) q (edge_along v o)) e ((cleared d.0 d.1).lower (subst (IsSeen (skeleton_of v) q) (sym e) F)));
      };
    }
