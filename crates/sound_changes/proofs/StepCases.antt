-- A dart that goes the same way in two views has the same marks in both, and the curves of its edge are right in both.
use Rattle.std.proofs.Common.{◌≡◌, ◌≢◌, ◌⊎◌, ℕ, ◌==◌, cond, List, [], true, false, is_some, refl, sym, ap, ap₂, ◌∙◌, subst, inl, inr}
use Rattle.std.specs.Ordering.{nat_cmp}
use Rattle.std.proofs.lemmas.Bool.{cases_Bool, false≢true}
use Rattle.plane_graphs.specs.Ascending.{Member, IsAscending}
use Rattle.plane_graphs.specs.Graph.{Mark}
use Rattle.plane_graphs.specs.Line.{precedes}
use Rattle.slab_laws.specs.declared.names.DartId.{DartId}
use Rattle.slab_laws.specs.Sound.{IsGraphSound}
use Rattle.slab_laws.specs.View.{View, HasDart, point_in, source_in, target_in}
use Rattle.slab_laws.specs.Tables.{row_at}
use Rattle.arr_notes.specs.Curves.{Curves, AreCurvesOf, is_forward}
use Rattle.sound_views.proofs.NamedDarts.{by_points}
use Rattle.arr_notes.proofs.Reading.{dart_number}
use Rattle.sound_views.specs.RecordGraphLaws.{IsMarkOf}
use Rattle.integers.proofs.Tests.{other_number, same_number}

-- the dart is in both views, with its ends at the same points
pub record IsSameWay (g h : View) (d : DartId) : Type 0 where
  pub before : HasDart g d
  pub after : HasDart h d
  pub start : point_in h (source_in h d) ≡ point_in g (source_in g d)
  pub end : point_in h (target_in h d) ≡ point_in g (target_in g d)

pub turned_way : (g h : View) (d : DartId) → IsSameWay g h d → IsSameWay h g d
turned_way g h d w = record { before = w.after; after = w.before; start = sym w.start; end = sym w.end }

pub same_forward : (g h : View) (d : DartId) → IsSameWay g h d → is_forward h d ≡ is_forward g d
same_forward g h d w = ap₂ precedes w.start w.end

pub mark_moves : (g h : View) (a b : Curves) (d : DartId) (m : Mark) → IsSameWay g h d → b d ≡ a d → IsMarkOf g a m d → IsMarkOf h b m d
mark_moves g h a b d m w e k = record {
  forward = (w.after, same_forward g h d w ∙ k.forward.1);
  low = w.start ∙ k.low;
  high = w.end ∙ k.high;
  curve = subst (Member m.curve) (sym e) k.curve;
}

pub mark_moves_back : (g h : View) (a b : Curves) (d : DartId) (m : Mark) → IsSameWay g h d → b d ≡ a d → IsMarkOf h b m d → IsMarkOf g a m d
mark_moves_back g h a b d m w e k = mark_moves h g b a d m (turned_way g h d w) (sym e) k

-- ---- the curves of one dart's edge
pub record IsLabelled (v : View) (h : Curves) (d : DartId) : Type 0 where
  pub some : is_forward v d ≡ true → h d ≢ []
  pub ascend : IsAscending nat_cmp (h d)
  pub backward : is_forward v d ≡ false → h d ≡ []

pub labelled : (v : View) (h : Curves) (d : DartId) → AreCurvesOf v h → HasDart v d → IsLabelled v h d
labelled v h d a has = record { some = λ e. a.some d (has, e); ascend = a.ascend d; backward = a.backward d }

pub label_moves : (g h : View) (a b : Curves) (d : DartId) → IsSameWay g h d → b d ≡ a d → IsLabelled g a d → IsLabelled h b d
label_moves g h a b d w e k = record {
  some = λ f q. k.some (sym (same_forward g h d w) ∙ f) (sym e ∙ q);
  ascend = subst (IsAscending nat_cmp) (sym e) k.ascend;
  backward = λ f. e ∙ k.backward (sym (same_forward g h d w) ∙ f);
}

pub has_or_not : (v : View) (d : DartId) → HasDart v d ⊎ ¬ HasDart v d
has_or_not v d = elim (cases_Bool (is_some (row_at v.darts d.0))) [ inl e ↦ inl e | inr e ↦ inr (λ k. false≢true (sym e ∙ k)) ]

pub curves_by : (v : View) (h : Curves) → ((d : DartId) → HasDart v d → IsLabelled v h d) → ((d : DartId) → ¬ HasDart v d → h d ≡ []) → AreCurvesOf v h
curves_by v h at none = record {
  some = λ d f. (at d f.0).some f.1;
  ascend = λ d. elim (has_or_not v d) [ inl o ↦ (at d o).ascend | inr o ↦ subst (IsAscending nat_cmp) (sym (none d o)) tt ];
  without_dart = none;
  backward = λ d e. elim (has_or_not v d) [ inl o ↦ (at d o).backward e | inr o ↦ none d o ];
}

pub unchanged_way : (v : View) (d : DartId) → HasDart v d → IsSameWay v v d
unchanged_way v d o = record { before = o; after = o; start = refl; end = refl }

-- two darts with the same two ends are one
pub one_way : (v : View) (d e : DartId) → IsGraphSound v → HasDart v d → HasDart v e → point_in v (source_in v d) ≡ point_in v (source_in v e) → point_in v (target_in v d) ≡ point_in v (target_in v e) → d ≡ e
one_way v d e s has also p q = s.turned.differ d e has also (ap₂ by_points p q)

-- a list with an element isn't empty
pub some_there : (c : ℕ) (cs : List ℕ) → Member c cs → cs ≢ []
some_there c cs m q = subst (Member c) q m

-- ---- curves of one name changed
pub at_name : (d : DartId) (xs ys : List ℕ) → cond (d.0 == d.0) xs ys ≡ xs
at_name d xs ys = ap (λ b. cond b xs ys) (same_number d.0)

pub at_other : (x d : DartId) (xs ys : List ℕ) → x ≢ d → cond (x.0 == d.0) xs ys ≡ ys
at_other x d xs ys ne = ap (λ b. cond b xs ys) (other_number x.0 d.0 (dart_number x d ne))
