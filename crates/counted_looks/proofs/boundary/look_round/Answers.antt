use Rattle.std.proofs.Common.{◌≡◌, ◌≢◌, ◌+◌, ◌<◌, ◌==◌, Bool, not, true, false, arith, refl, sym, ◌∙◌, subst, List, [], ◌∷◌, inl, inr}
use Rattle.std.specs.List.{count_by}
use Rattle.std.proofs.lemmas.Bool.{not-true, not-false, or_cases}
use Rattle.slab_laws.specs.declared.names.DartId.{DartId}
use Rattle.slab_laws.specs.FacesSound.{lead_in}
use Rattle.slab_laws.specs.Rotation.{same_dart}
use Rattle.slab_laws.specs.View.{View, HasDart, next_in}
use Rattle.slab_faces.proofs.NextLemmas.{darts_exact}
use Rattle.arr_notes.specs.CycleNames.{dart_names}
use Rattle.arr_notes.proofs.Names.{same_name as same_read, other_name as other_read}
use Rattle.sound_views.proofs.NameTables.{names_exact}
use Rattle.boundary_cycles.specs.Counted.{cycle_length}
use Rattle.boundary_cycles.proofs.LengthsMet.{met, one_more, all_met}
use Rattle.boundary_cycles.proofs.NamedWalks.{ways, IsWalked, begins, goes_on, smaller, more, ends}
use Rattle.counted_looks.specs.declared.boundary_part.BoundaryPart.TheVariants.{Dart}
use Rattle.counted_looks.proofs.boundary.look_round.Goals as goal

-- the test tells whether what follows the last dart is the first
ended : (next dart first : DartId) (b : Bool) → dart ≡ next → b ≡ not (dart.0 == first.0) → b ≡ false → next ≡ first
ended next dart first b e i f = sym e ∙ same_read dart first (dart.0 == first.0) refl (not-false _ (sym i ∙ f))

another : (next dart first : DartId) (b : Bool) → dart ≡ next → b ≡ not (dart.0 == first.0) → b ≡ true → next ≢ first
another next dart first b e i t q = other_read dart first (dart.0 == first.0) refl (not-true _ (sym i ∙ t)) (e ∙ q)

fewer : (v : View) (first at dart next : DartId) → next ≡ next_in v dart → dart ≡ at → ways v first (next_in v at) < ways v first at → ways v first next < ways v first dart
fewer v first at dart next e q l = subst (λ (z : DartId). ways v first z < ways v first dart) (sym e) (subst (λ (z : DartId). ways v first (next_in v z) < ways v first z) (sym q) l)

pub round-init : goal.round-init
round-init g c =
    let v = g.S.NameCalls.graph c.args.sight.now in
    let first = c.args.first in (
      first,
      λ x. false,
      record {
        next = c.next-dart.ensures;
        walked = begins v c.requires.sound first c.requires.first;
        kept = λ k m. m;
        still = λ t k. k;
        seen = λ d h. subst (λ z. g.K.Looker.has_seen v c.args.looker.now (Dart z)) (names_exact.path first d h) c.requires.seen;
        count = let n = none (dart_names v) in omega (n, arith);
      },
    )
  where
    none : (xs : List DartId) → count_by (λ x. false) xs ≡ 0
    none [] = refl
    none (x ∷ xs) = none xs

pub look-requires-clause-ready : goal.look-requires-clause-ready
look-requires-clause-ready g c = (c.requires.ready.0, c.round.invariant.2.kept c.requires.ready.0 c.requires.ready.1)

pub look-requires-clause-at : goal.look-requires-clause-at
look-requires-clause-at g c =
    let v = g.S.NameCalls.graph c.args.sight.now in
    let w = c.round.invariant in
    subst (HasDart v) (sym w.2.next) (c.requires.sound.linked.has w.0 w.2.walked.at_there)

pub next-next-requires : goal.next-next-requires
next-next-requires g c =
    let v = g.S.NameCalls.graph c.args.sight.now in
    let w = c.round.invariant in
    subst (HasDart v) (sym w.2.next) (c.requires.sound.linked.has w.0 w.2.walked.at_there)

pub returns-clause-seen : goal.returns-clause-seen
returns-clause-seen g c =
    let v = g.S.NameCalls.graph c.args.sight.now in
    let w = c.round.invariant in
    let first = c.args.first in
    let back = ended (next_in v w.0) c.round.dart first c.ne.result w.2.next c.ne.ensures c.round-test.false in
    λ d D q.
    let on : same_dart (lead_in v d) (lead_in v first) ≡ true = subst (λ z. same_dart z (lead_in v first) ≡ true) (sym q) (darts_exact.itself (lead_in v first)) in
    let passed : more w.0 w.1 d ≡ true = ends v c.requires.sound first c.requires.first w.0 w.1 w.2.walked back d D ∙ on in
    w.2.seen d passed

pub returns-clause-count : goal.returns-clause-count
returns-clause-count g c =
    let v = g.S.NameCalls.graph c.args.sight.now in
    let w = c.round.invariant in
    let first = c.args.first in
    let back = ended (next_in v w.0) c.round.dart first c.ne.result w.2.next c.ne.ensures c.round-test.false in
    let a : cycle_length v first ≡ met v w.1 + 1 = all_met v c.requires.sound first c.requires.first w.0 w.1 w.2.walked back in
    let n : c.round.steps ≡ c.args.steps.now + met v w.1 = w.2.count in
    omega (a, n, arith)

pub round-smaller : goal.round-smaller
round-smaller g c =
    let v = g.S.NameCalls.graph c.args.sight.now in
    let w = c.round.invariant in
    let first = c.args.first in
    let ne = another (next_in v w.0) c.round.dart first c.ne.result w.2.next c.ne.ensures c.round-test.true in
    fewer v first (next_in v w.0) c.round.dart c.next-next.result c.next-next.ensures w.2.next (smaller v c.requires.sound first c.requires.first w.0 w.1 w.2.walked ne)

pub round-preserved : goal.round-preserved
round-preserved g c =
    let v = g.S.NameCalls.graph c.args.sight.now in
    let s = c.requires.sound in
    let w = c.round.invariant in
    let first = c.args.first in
    let ne = another (next_in v w.0) c.round.dart first c.ne.result w.2.next c.ne.ensures c.round-test.true in (
      c.round.dart,
      more w.0 w.1,
      record {
        next = c.next-next.ensures;
        walked = subst (λ (z : DartId). IsWalked v first z (more w.0 w.1)) (sym w.2.next) (goes_on v s first c.requires.first w.0 w.1 w.2.walked ne);
        kept = λ k m. c.look.ensures.ready k (w.2.kept k m);
        still = λ t k. c.look.ensures.still t (w.2.still t k);
        seen = λ d h. elim (or_cases (more w.0 w.1 d) _ h) [
          | inl t ↦ c.look.ensures.still (Dart d) (w.2.seen d t)
          | inr t ↦ subst (λ z. g.K.Looker.has_seen v c.look.new.self (Dart z)) (names_exact.path c.round.dart d t) c.look.ensures.seen
        ];
        count = (
            let a : met v (more w.0 w.1) ≡ met v w.1 + 1 = one_more v s first c.requires.first w.0 w.1 w.2.walked in
            let n : c.round.steps ≡ c.args.steps.now + met v w.1 = w.2.count in
            let o : c.look.new.steps ≡ c.round.steps + 1 = c.look.ensures.one in
            omega (a, n, o, arith)
            );
      },
    )
