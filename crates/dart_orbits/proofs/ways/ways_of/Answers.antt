use Rattle.std.proofs.Common.{◌≡◌, ◌+◌, ◌++◌, ◌∷◌, [], ℕ, length, arith, inl, inr, refl, sym, subst, take}
use Rattle.std.specs.List.Sorted.{IsPermutation}
use Rattle.std.proofs.lemmas.Bool.{cases_lt}
use Rattle.std.proofs.lemmas.List.Sorted.{IsPermutation-trans}
use Rattle.exact_plane.specs.Span.{IsSpan}
use Rattle.dart_orbits.specs.Ways.{row_in, span_of_row, way_at, ways_by}
use Rattle.dart_orbits.proofs.Ranges.{pushed_at, all_at}
use Rattle.dart_orbits.proofs.WayTurns.{also}
use Rattle.dart_orbits.proofs.ways.ways_of.Goals as goal

pub loop-place-preserved : goal.loop-place-preserved
loop-place-preserved c =
    let edges = c.args.edges.now in
    let rows = c.args.darts.now in
    let i = c.loop-place.place in
    let ways = ways_by edges rows in
    let old = c.loop-place.ways.items ++ c.loop-place.turn.items in
    let w = c.way_of.result in
    record {
      ways = also (take i ways) old (c.add_way.new.ways.items ++ c.add_way.new.turn.items) (take (i + 1) ways) w c.loop-place.invariant.ways
          (sym (pushed_at (way_at edges rows) (length rows) i w (take i ways) (take i ways ++ (w ∷ [])) c.loop-place-test.true c.way_of.ensures.way refl refl))
          c.in_ok-add_way.ensures;
      spans = λ k l. elim (cases_lt k i) [
        | inl a ↦ c.loop-place.invariant.spans k a
        | inr b ↦ (let e : i ≡ k = omega arith in subst (λ (j : ℕ). IsSpan (span_of_row edges (row_in rows j))) e c.way_of.ensures.span)
      ];
    }

pub returns-clause-ways : goal.returns-clause-ways
returns-clause-ways c =
    let ways = ways_by c.args.edges.now c.args.darts.now in
    let i = c.loop-place.place in
    let old = c.loop-place.ways.items ++ c.loop-place.turn.items in
    IsPermutation-trans ways old c.add_turn.new.ways.items
    (subst (λ us. IsPermutation us old) (all_at (way_at c.args.edges.now c.args.darts.now) (length c.args.darts.now) i (take i ways) c.loop-place-test.false refl) c.loop-place.invariant.ways)
    c.in_ok-add_turn.ensures.all

pub returns-clause-spans : goal.returns-clause-spans
returns-clause-spans c = λ k l. c.loop-place.invariant.spans k (let m = c.loop-place-test.false in omega arith)
