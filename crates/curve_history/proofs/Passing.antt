-- The edge of a piece that a point is abreast of.
use Rattle.std.proofs.Common.{◌≡◌, ℕ, ◌≤◌, ◌&&◌, Bool, true, false, List, [], Option, Some, None, is_some, refl, sym, ap, subst, ◌∙◌}
use Rattle.std.specs.Prelude.{IfSome, IfNone}
use Rattle.std.proofs.lemmas.Bool.{false≢true}
use Rattle.integers.proofs.Decisions.{both_in}
use Rattle.exact_plane.specs.Point.{Point}
use Rattle.plane_graphs.specs.Ascending.{Member}
use Rattle.plane_graphs.specs.Line.{precedes}
use Rattle.plane_graphs.specs.Strands.{strand}
use Rattle.slab_laws.specs.declared.names.DartId.{DartId}
use Rattle.slab_laws.specs.declared.present.Piece.{Piece as PieceInMemory}
use Rattle.slab_laws.specs.Tables.{row_at}
use Rattle.slab_laws.specs.View.{View, HasDart, dart_id, point_in, source_in, target_in}
use Rattle.arr_notes.specs.Curves.{is_forward, AreCurvesOf}
use Rattle.edit_steps.specs.EditLaws.{curve_of}
use Rattle.edit_steps.proofs.StrandPaths.{strand_is_of}
use Rattle.curve_history.specs.declared.history.History.TheInside.{Inside}
use Rattle.curve_history.specs.DrawnRecords.{passes, IsPassed}
use Rattle.curve_history.specs.HistoryInMemory.{ArePairs, Says}
use Rattle.curve_history.specs.Past.{Past, curves_on, strands_on}
use Rattle.curve_history.proofs.Histories.{held_says, says_held, says_runs, IsSeen}
use Rattle.curve_history.proofs.Twins.{says_back, says_beside}

first_true : (a b : Bool) → (a && b) ≡ true → a ≡ true
first_true true b h = refl
first_true false b h = absurd (false≢true h)

second_true : (a b : Bool) → (a && b) ≡ true → b ≡ true
second_true true b h = h
second_true false b h = absurd (false≢true h)

pub some_as : {X : Type 0} (P Q : X → Type 0) (o : Option X) → ((x : X) → P x → Q x) → IfSome o P → IfSome o Q
some_as P Q None f h = tt
some_as P Q (Some x) f h = f x h

pub none_as : {X : Type 0} (P Q : Type 0) (o : Option X) → (P → Q) → IfNone o P → IfNone o Q
none_as P Q None f h = f h
none_as P Q (Some x) f h = tt

none_in : {X : Type 0} (x : X) (xs : List X) → Member x xs → xs ≡ [] → ⊥
none_in x xs m e = subst (Member x) e m

module _ (i : Inside) (old : Past) (s : IsSeen i old) (pairs : ArePairs i.by_edge i.by_curve) (v : View) (told : AreCurvesOf v (curves_on old)) where
  -- an edge along which something runs has a dart, and that is forward
  dart_of : (d : DartId) (z : ℕ) → Says i.by_edge d.0 z → HasDart v d
  dart_of d z n = by (is_some (row_at v.darts d.0)) refl
    where
      by : (b : Bool) → is_some (row_at v.darts d.0) ≡ b → HasDart v d
      by true e = e
      by false e = absurd (none_in (curve_of z) (curves_on old d) (says_runs i old s d z n) (told.without_dart d (λ h. false≢true (sym e ∙ h))))

  forward_of : (d : DartId) (z : ℕ) → Says i.by_edge d.0 z → is_forward v d ≡ true
  forward_of d z n = by (is_forward v d) refl
    where
      by : (b : Bool) → is_forward v d ≡ b → is_forward v d ≡ true
      by true e = e
      by false e = absurd (none_in (curve_of z) (curves_on old d) (says_runs i old s d z n) (told.backward d e))

  pub dart_told : (k n : ℕ) → Says i.by_curve k n → HasDart v (dart_id n)
  dart_told k n h = let b = says_back i.by_edge i.by_curve k n pairs h in dart_of (dart_id n) b.0 b.2

  module _ (k : PieceInMemory) (p : Point) where
    pub passed : (z : ℕ) → z ≡ strand k.curve.0 k.side → (d : DartId) → Says i.by_edge d.0 z × (passes v d p ≡ true) → IsPassed v old k p d
    passed z e d h = record {
      forward = (dart_of d z h.0, forward_of d z h.0);
      runs = subst (λ y. Member y (strands_on old d)) e (says_held i old s d z h.0);
      from = first_true (precedes (point_in v (source_in v d)) p) (precedes p (point_in v (target_in v d))) h.1;
      to = second_true (precedes (point_in v (source_in v d)) p) (precedes p (point_in v (target_in v d))) h.1;
    }

    pub not_passed : (z : ℕ) → z ≡ strand k.curve.0 k.side → k.side ≤ 8 → ((d : DartId) → Says i.by_curve k.curve.0 d.0 → Says i.by_edge d.0 z → passes v d p ≡ false) → (d : DartId) → ¬ IsPassed v old k p d
    not_passed z e l f d x =
        let n : Says i.by_edge d.0 z = subst (Says i.by_edge d.0) (sym e) (held_says i old s d (strand k.curve.0 k.side) x.runs) in
        let m : Says i.by_curve k.curve.0 d.0 = subst (λ c. Says i.by_curve c d.0) (ap curve_of e ∙ strand_is_of k.curve.0 k.side l) (says_beside i.by_edge i.by_curve d.0 z pairs n) in
        false≢true (sym (f d m n) ∙ both_in (precedes (point_in v (source_in v d)) p) (precedes p (point_in v (target_in v d))) x.from x.to)
