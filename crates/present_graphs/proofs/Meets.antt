-- What two spans share, by what is said of them.
use Rattle.std.proofs.Common.{◌≡◌, ◌≢◌, Bool, true, false, ◌&&◌, None, Some, refl, sym, ap, ap₂, ◌∙◌, subst, inl, inr, ◌⊎◌}
use Rattle.std.specs.Prelude.{◌↔◌}
use Rattle.integers.proofs.Decisions.{eq_in}
use Rattle.exact_plane.specs.Line.{Line}
use Rattle.exact_plane.specs.Meet.{IsMeeting, IsOnlyCommon}
use Rattle.exact_plane.specs.MeetOf.{same_line}
use Rattle.exact_plane.specs.Point.{Point}
use Rattle.exact_plane.specs.Span.{Span}
use Rattle.exact_plane.specs.declared.meets.Meet.{Meet}
use Rattle.exact_plane.specs.declared.meets.Meet.TheVariants.{Apart, Along}
use Rattle.exact_plane.proofs.Meetings.{same_line-is}
use Rattle.plane_graphs.proofs.Lists.{clash}
use Rattle.present_graphs.specs.Shared.{IsShared}

same_line-itself : (l : Line) → same_line l l ≡ true
same_line-itself l = ap₂ ◌&&◌ (eq_in l.a l.a refl) (ap₂ ◌&&◌ (eq_in l.b l.b refl) (eq_in l.c l.c refl))

module _ (s t : Span) (l m : Line) (el : l ≡ s.line) (em : m ≡ t.line) (b : Bool) (is : b ≡ same_line l m) where
  pub one_line : b ≡ true → s.line ≡ t.line
  one_line h = sym el ∙ same_line-is l m (sym is ∙ h) ∙ em

  pub lines_differ : b ≡ false → s.line ≢ t.line
  lines_differ h e = clash (is ∙ ap (same_line l) (sym (el ∙ e ∙ sym em)) ∙ same_line-itself l) h

module _ (s t : Span) (x : Point) where
  none_shared : (IsShared s t x → ⊥) → (IsShared s t x ↔ (None ≡ Some x))
  none_shared f = ((λ h. absurd (f h)), (λ (e : None ≡ Some x). absurd cc))

  pub shared_by_one : s.line ≡ t.line → (IsShared s t x ↔ (None ≡ Some x))
  shared_by_one e = none_shared (λ h. h.lines_differ e)

  shared_apart : (r : Meet) → r ≡ Apart → IsMeeting s t r → (IsShared s t x ↔ (None ≡ Some x))
  shared_apart r e k = none_shared (λ h. subst (IsMeeting s t) e k x h.point h.on_first h.on_second)

  shared_part : (r : Meet) (p q : Point) → r ≡ Along p q → IsMeeting s t r → (IsShared s t x ↔ (None ≡ Some x))
  shared_part r p q e k = let h : IsMeeting s t (Along p q) = subst (IsMeeting s t) e k in shared_by_one h.one_line

  pub shared_not_at : (r : Meet) → IsMeeting s t r → (r ≡ Apart) ⊎ ((p : Point) × (q : Point) × (r ≡ Along p q)) → (IsShared s t x ↔ (None ≡ Some x))
  shared_not_at r k (inl e) = shared_apart r e k
  shared_not_at r k (inr (p, q, e)) = shared_part r p q e k

  pub shared_at : (p : Point) → s.line ≢ t.line → IsOnlyCommon s t p → (IsShared s t x ↔ (Some p ≡ Some x))
  shared_at p differ h = (
    (λ k. ap (λ (y : Point). Some y) (sym (h.only x k.point k.on_first k.on_second))),
    (λ (e : Some p ≡ Some x). let i : p ≡ x = cc in subst (IsShared s t) i (record { lines_differ = differ; point = h.point; on_first = h.on_first; on_second = h.on_second })),
  )
